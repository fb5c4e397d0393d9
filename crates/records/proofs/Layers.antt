-- A frame in the section's record and in the path's. Assumes nothing.
use Prim.Native.Nat.{ℕ, ◌<◌}
use mathlib.Core.Path.{◌≡◌, refl, sym, ap, ◌∙◌}
use mathlib.Core.Bool.{Bool, true, false, cond, ◌&&◌, ◌||◌, not}
use mathlib.Core.List.{List, [], ◌∷◌, ◌++◌}
use lib.Dec.{leb}
use lib.ListN.{length}
use borrow.Author.Tests.{eq-eqb}
use Rattle.answer.specs.Bits.{flag}
use Rattle.codec.specs.Over.{bytes_in}
use Rattle.codec.specs.Pieces.{joined}
use Rattle.words.specs.Words.{le4}
use Rattle.overhead.specs.Bei.{bei_of, path_bei, is_far, is_biae}
use Rattle.overhead.specs.declared.Bei.{Bei}
use Rattle.overhead.specs.declared.Field.{Field}
use Rattle.filter.specs.declared.Filter.{Filter}
use Rattle.filter.specs.declared.Stat.{Stat}
use Rattle.filter.specs.Filter.{quiet, up_of, filter_of}
use Rattle.filter.specs.Stat.{stat_of}
use Rattle.alignment.specs.declared.Multi.{Multi}
use Rattle.signal.specs.Signal.{stands_for}
use Rattle.layer.specs.declared.Layer.{Layer}
use Rattle.layer.specs.Layer.{layer_of, tim_of}
use Rattle.layer.specs.Steps.{parts}
use Rattle.second.specs.declared.Blocks.{Blocks}
use Rattle.second.specs.declared.Near.{Near}
use Rattle.second.specs.declared.Far.{Far}
use Rattle.second.specs.Second.{near_of, far_of, sum_of, counted_of, blocks_of}
use Rattle.causes.specs.declared.SectionStands.{SectionStands}
use Rattle.causes.specs.declared.PathStands.{PathStands}
use Rattle.numbers.specs.Numbers.{on, front_bytes, state_bytes}
use Rattle.numbers.specs.Held.{Held, held_bytes, options_from, layer_from, held_of}
use Rattle.numbers.proofs.Strips.{flag_back, StateFits}
use Rattle.image.specs.Image.{Sizes}
use Rattle.cycle.specs.Cycle.{cycle_bytes, cycle_of, traces_of, record_parts, layer_step, tim_after}
use Rattle.place.specs.declared.Filtered.{Filtered}
use Rattle.place.specs.declared.PathFrame.{PathFrame}
use Rattle.fields.specs.Fields.{filter_bytes, stat_bytes, raised, counts_in}
use Rattle.place.specs.Place.{section_filters, filtered_bytes, section_numbers, section_stood, section_record, SectionAt, path_stat, path_forgets, path_stops, path_bdi_at, path_numbers, path_frame, path_stood, path_record, PathAt}
use Rattle.records.proofs.Held.{filter_back, stat_back, raise_flag, counts_is, before_rest, others, long, front_part, others_part, names_part, quieted, step_is, tim_is, layer_is}

-- the count of a block, as a number
near_number : (n : Near) (more : Bool) → (near_of n more).0 ≡ cond more (up_of n.0 400000) n.0
unfolding near_of
near_number n true = refl
near_number n false = refl

far_number : (n : Far) (more : Bool) → (far_of n more).0 ≡ cond more (up_of n.0 400000) n.0
unfolding far_of
far_number n true = refl
far_number n false = refl

-- the last 19 bytes of a state strip: the second's flags, spare bytes, sum and counts
abbrev pub lasts : Blocks → Bool → Bool → List ℕ
lasts b i j =
    flag b.neards ∷ flag b.fards ∷ flag i ∷ flag j
    ∷ 0 ∷ 0 ∷ 0 ∷ (le4 b.sum.0 ++ (le4 b.near.0 ++ le4 b.far.0))

-- the same after a frame, from the bytes
pub lasts_is : (b : Blocks) (i j stopped near : Bool) (far : Bei) (ds fds u v : Bool)
    → b.near.0 < 4294967296 → b.far.0 < 4294967296 → b.sum.0 < 4294967296
    → raised ds (flag b.neards) ∷ raised fds (flag b.fards) ∷ raised u (flag i) ∷ raised v (flag j)
    ∷ 0 ∷ 0 ∷ 0 ∷ (counts_in (near && not stopped) (is_far far && not stopped) (counted_of far stopped) (le4 b.sum.0 ++ (le4 b.near.0 ++ le4 b.far.0)) ++ [])
    ≡ lasts (blocks_of b (record { stopped = stopped; near = near; far = far; neards = ds; fards = fds })) (i || u) (j || v)
unfolding blocks_of sum_of
lasts_is b i j stopped near far ds fds u v h k g =
    rw (
      raise_flag b.neards ds,
      raise_flag b.fards fds,
      raise_flag i u,
      raise_flag j v,
      counts_is b.sum.0 b.near.0 b.far.0 (counted_of far stopped) (near && not stopped) (is_far far && not stopped) g h k,
      near_number b.near (near && not stopped),
      far_number b.far (is_far far && not stopped),
    )

module _ (h : Held) (z : Sizes h) (fits : StateFits h.state) where
  -- the section's record after a frame, by its layer after it
  abbrev pub next_section : Layer → Bool → Field → ℕ → Held
  next_section l ssf f sm =
      let tim : Bool = tim_of l h.front.mode h.names in
      let iae : Filter = filter_of h.state.iae 5 (ssf || tim) f.iae in
      let biae : Filter = filter_of h.state.biae 3 (ssf || tim) (is_biae (bei_of f.bei)) in
      held_of (options_from h) l iae biae h.state.stat
      (blocks_of h.state.blocks (record { stopped = ssf; near = leb 1 sm; far = bei_of f.bei; neards = ssf || tim; fards = l.bdi.on }))
      (h.state.iaeseen || iae.on) (h.state.biaeseen || biae.on)

  abbrev pub filters_of : Bool → Bool → Field → Filtered
  filters_of ssf tim f = record {
    bdi = filter_of h.state.bdi 5 ssf f.bdi;
    iae = filter_of h.state.iae 5 (ssf || tim) f.iae;
    biae = filter_of h.state.biae 3 (ssf || tim) (is_biae (bei_of f.bei));
  }

  filters_are : (ssf tim : Bool) (f : Field) → section_filters (bytes_in 6 0 (others h z)) ssf tim f ≡ filters_of ssf tim f
  unfolding bytes_in
  filters_are ssf tim f =
      rw (filter_back h.state.bdi fits.bdi, filter_back h.state.iae fits.iae, filter_back h.state.biae fits.biae)

  numbers_are : (ssf tim : Bool) (f : Field) (sm : ℕ)
      → let d : Filtered = filters_of ssf tim f in
      section_numbers (others h z) ssf tim f sm
      ≡ filtered_bytes d ++ (stat_bytes h.state.stat
      ++ lasts (blocks_of h.state.blocks (record { stopped = ssf; near = leb 1 sm; far = bei_of f.bei; neards = ssf || tim; fards = d.bdi.on })) (h.state.iaeseen || d.iae.on) (h.state.biaeseen || d.biae.on))
  unfolding section_numbers bytes_in
  numbers_are ssf tim f sm =
      let d : Filtered = filters_of ssf tim f in
      let q : Filtered → List ℕ = λ (x : Filtered).
      filtered_bytes x ++ (stat_bytes h.state.stat
      ++ (raised (ssf || tim) (flag h.state.blocks.neards) ∷ raised x.bdi.on (flag h.state.blocks.fards) ∷ raised x.iae.on (flag h.state.iaeseen) ∷ raised x.biae.on (flag h.state.biaeseen)
      ∷ 0 ∷ 0 ∷ 0 ∷ (counts_in (leb 1 sm && not ssf) (is_far (bei_of f.bei) && not ssf) (counted_of (bei_of f.bei) ssf) (le4 h.state.blocks.sum.0 ++ (le4 h.state.blocks.near.0 ++ le4 h.state.blocks.far.0)) ++ []))) in
      ap q (filters_are ssf tim f)
      ∙ ap (λ (r : List ℕ). filtered_bytes d ++ (stat_bytes h.state.stat ++ r))
      (lasts_is h.state.blocks h.state.iaeseen h.state.biaeseen ssf (leb 1 sm) (bei_of f.bei) (ssf || tim) d.bdi.on d.iae.on d.biae.on fits.near fits.far fits.sum)

  module _ (ssf : Bool) (m : Multi) (f : Field) where
    abbrev bytes : List ℕ
    bytes = held_bytes h

    -- the layer after the frame: as the bytes give it, in parts, and by the definition
    abbrev given : Layer
    given = parts (quieted h z) ssf m.inmulti m.number f.tti quiet

    abbrev in_parts : Layer
    in_parts = parts (layer_from h) ssf m.inmulti m.number f.tti (filter_of h.state.bdi 5 ssf f.bdi)

    abbrev pub section_layer : Layer
    section_layer = layer_of (layer_from h) ssf m.inmulti m.number f.tti f.bdi

    abbrev tim_given : Bool
    tim_given = tim_of given h.front.mode h.names

    pub section_record_lem : (sm : ℕ) → section_record bytes ssf m f sm ≡ held_bytes (next_section section_layer ssf f sm)
    unfolding section_record held_bytes tim_of
    section_record_lem sm =
        let d : Filtered = filters_of ssf tim_given f in
        let t : Bool = tim_after bytes ssf m f.tti in
        let whole : List ℕ → Layer → List ℕ → Bool → List ℕ → List ℕ = λ (a : List ℕ). λ (l : Layer). λ (w : List ℕ). λ (u : Bool). λ (n : List ℕ).
        a ++ (cycle_bytes (cycle_of l) ++ (section_numbers w ssf u f sm ++ (traces_of l ++ (n ++ [])))) in
        ap (λ (l : Layer). whole (bytes_in 32 0 bytes) l (bytes_in 29 35 bytes) t (bytes_in 32 256 bytes)) (step_is h z fits ssf m f.tti)
        ∙ ap (λ (u : Bool). whole (bytes_in 32 0 bytes) given (bytes_in 29 35 bytes) u (bytes_in 32 256 bytes)) (tim_is h z fits ssf m f.tti)
        ∙ ap (λ (a : List ℕ). whole a given (bytes_in 29 35 bytes) tim_given (bytes_in 32 256 bytes)) (front_part h z)
        ∙ ap (λ (w : List ℕ). whole (front_bytes h.front) given w tim_given (bytes_in 32 256 bytes)) (others_part h z)
        ∙ ap (λ (n : List ℕ). whole (front_bytes h.front) given (others h z) tim_given n) (names_part h z)
        ∙ ap (λ (r : List ℕ). front_bytes h.front ++ (cycle_bytes (cycle_of given) ++ (r ++ (traces_of given ++ (h.names ++ []))))) (numbers_are ssf tim_given f sm)
        ∙ ap (λ (r : List ℕ). front_bytes h.front ++ (state_bytes (next_section in_parts ssf f sm).state ++ r)) (sym (before_rest given.accepted given.gathered given.previous (h.names ++ [])))
        ∙ ap (λ (l : Layer). held_bytes (next_section l ssf f sm)) (sym (layer_is (layer_from h) ssf m.inmulti m.number f.tti f.bdi))

    -- what stands in the section, by its layer after the frame
    abbrev pub stands_by : Layer → SectionStands
    stands_by l =
        let tim : Bool = tim_of l h.front.mode h.names in
        record {
          tim = tim;
          disabled = h.front.disabled;
          bdi = l.bdi.on;
          iae = (filter_of h.state.iae 5 (ssf || tim) f.iae).on;
          biae = (filter_of h.state.biae 3 (ssf || tim) (is_biae (bei_of f.bei))).on;
          deg = l.deg.on;
        }

    pub section_stands_lem : section_stood bytes ssf m f ≡ stands_by section_layer
    unfolding held_bytes tim_of
    section_stands_lem =
        let t : Bool = tim_after bytes ssf m f.tti in
        let shape : Bool → Filtered → Bool → Bool → SectionStands = λ (u : Bool). λ (d : Filtered). λ (x : Bool). λ (y : Bool).
        record { tim = u; disabled = x; bdi = d.bdi.on; iae = d.iae.on; biae = d.biae.on; deg = y } in
        let x : Bool = on (flag h.front.disabled) in
        let y : Bool = on (flag h.front.deg.on) in
        ap (λ (u : Bool). shape u (section_filters (bytes_in 6 0 (bytes_in 29 35 bytes)) ssf u f) x y) (tim_is h z fits ssf m f.tti)
        ∙ ap (λ (w : List ℕ). shape tim_given (section_filters (bytes_in 6 0 w) ssf tim_given f) x y) (others_part h z)
        ∙ ap (λ (d : Filtered). shape tim_given d x y) (filters_are ssf tim_given f)
        ∙ ap (λ (a : Bool). shape tim_given (filters_of ssf tim_given f) a y) (flag_back h.front.disabled)
        ∙ ap (λ (a : Bool). shape tim_given (filters_of ssf tim_given f) h.front.disabled a) (flag_back h.front.deg.on)
        ∙ ap stands_by (sym (layer_is (layer_from h) ssf m.inmulti m.number f.tti f.bdi))

    pub section_at : (sm : ℕ) (r : SectionStands) (x : List ℕ) → SectionAt bytes ssf m f sm r x
        → (r ≡ stands_by section_layer) × (x ≡ held_bytes (next_section section_layer ssf f sm))
    section_at sm r x e =
        let t = eq-eqb (length bytes) 288 (long h z) in
        ((rw t at e.answers) ∙ section_stands_lem, (rw t at e.holds) ∙ section_record_lem sm)

  -- The path.

  abbrev pub next_path : Layer → Stat → Bool → Field → ℕ → Held
  next_path l t ssf f pm =
      let tim : Bool = tim_of l h.front.mode h.names in
      held_of (options_from h) l h.state.iae h.state.biae t
      (blocks_of h.state.blocks (record { stopped = path_stops ssf t; near = leb 1 pm; far = path_bei f.bei; neards = path_stops ssf t || tim; fards = l.bdi.on }))
      h.state.iaeseen h.state.biaeseen

  -- STAT after the frame
  abbrev pub stat_next : Bool → Field → Stat
  stat_next ssf f = stat_of h.state.stat ssf f.stat

  stat_is : (ssf : Bool) (f : Field) → path_stat (held_bytes h) ssf f ≡ stat_next ssf f
  unfolding held_bytes
  stat_is ssf f = ap (λ (s : Stat). stat_of s ssf f.stat) (stat_back h.state.stat fits.stat)

  bdi_is : (forget : Bool) (f : Field) → path_bdi_at (bytes_in 2 0 (others h z)) forget f ≡ filter_of h.state.bdi 5 forget f.bdi
  unfolding bytes_in
  bdi_is forget f = ap (λ (x : Filter). filter_of x 5 forget f.bdi) (filter_back h.state.bdi fits.bdi)

  or-false : (b : Bool) → (b || false) ≡ b
  or-false true = refl
  or-false false = refl

  path_numbers_are : (t : Stat) (forget stops tim : Bool) (f : Field) (pm : ℕ)
      → let bdi : Filter = filter_of h.state.bdi 5 forget f.bdi in
      path_numbers (others h z) t forget stops tim f pm
      ≡ filter_bytes bdi ++ (filter_bytes h.state.iae ++ (filter_bytes h.state.biae ++ (stat_bytes t
      ++ lasts (blocks_of h.state.blocks (record { stopped = stops; near = leb 1 pm; far = path_bei f.bei; neards = stops || tim; fards = bdi.on })) h.state.iaeseen h.state.biaeseen)))
  unfolding path_numbers bytes_in
  path_numbers_are t forget stops tim f pm =
      let bdi : Filter = filter_of h.state.bdi 5 forget f.bdi in
      let b : Blocks = blocks_of h.state.blocks (record { stopped = stops; near = leb 1 pm; far = path_bei f.bei; neards = stops || tim; fards = bdi.on }) in
      let q : Filter → List ℕ = λ (x : Filter).
      filter_bytes x ++ (filter_bytes h.state.iae ++ (filter_bytes h.state.biae ++ (stat_bytes t
      ++ (raised (stops || tim) (flag h.state.blocks.neards) ∷ raised x.on (flag h.state.blocks.fards) ∷ raised false (flag h.state.iaeseen) ∷ raised false (flag h.state.biaeseen)
      ∷ 0 ∷ 0 ∷ 0 ∷ (counts_in (leb 1 pm && not stops) (is_far (path_bei f.bei) && not stops) (counted_of (path_bei f.bei) stops) (le4 h.state.blocks.sum.0 ++ (le4 h.state.blocks.near.0 ++ le4 h.state.blocks.far.0)) ++ []))))) in
      ap q (bdi_is forget f)
      ∙ ap (λ (r : List ℕ). filter_bytes bdi ++ (filter_bytes h.state.iae ++ (filter_bytes h.state.biae ++ (stat_bytes t ++ r))))
      (lasts_is h.state.blocks h.state.iaeseen h.state.biaeseen stops (leb 1 pm) (path_bei f.bei) (stops || tim) bdi.on false false fits.near fits.far fits.sum
      ∙ ap (λ (i : Bool). lasts b i (h.state.biaeseen || false)) (or-false h.state.iaeseen)
      ∙ ap (λ (j : Bool). lasts b h.state.iaeseen j) (or-false h.state.biaeseen))

  module _ (ssf : Bool) (m : Multi) (f : Field) where
    abbrev t : Stat
    t = stat_next ssf f

    abbrev forget : Bool
    forget = path_forgets ssf t

    abbrev path_given : Layer
    path_given = parts (quieted h z) forget m.inmulti m.number f.tti quiet

    abbrev path_parts : Layer
    path_parts = parts (layer_from h) forget m.inmulti m.number f.tti (filter_of h.state.bdi 5 forget f.bdi)

    abbrev pub path_layer : Layer
    path_layer = layer_of (layer_from h) forget m.inmulti m.number f.tti f.bdi

    abbrev tim_path : Bool
    tim_path = tim_of path_given h.front.mode h.names

    pub path_record_lem : (pm : ℕ) → path_record (held_bytes h) ssf m f pm ≡ held_bytes (next_path path_layer t ssf f pm)
    unfolding path_record held_bytes tim_of
    path_record_lem pm =
        let r : List ℕ = held_bytes h in
        let shape : Stat → List ℕ = λ (s : Stat).
        let l : Layer = layer_step r (path_forgets ssf s) m f.tti in
        joined (record_parts r (cycle_of l) (path_numbers (bytes_in 29 35 r) s (path_forgets ssf s) (path_stops ssf s) (tim_after r (path_forgets ssf s) m f.tti) f pm) (traces_of l)) in
        let whole : List ℕ → Layer → List ℕ → Bool → List ℕ → List ℕ = λ (a : List ℕ). λ (l : Layer). λ (w : List ℕ). λ (u : Bool). λ (n : List ℕ).
        a ++ (cycle_bytes (cycle_of l) ++ (path_numbers w t forget (path_stops ssf t) u f pm ++ (traces_of l ++ (n ++ [])))) in
        let u : Bool = tim_after r forget m f.tti in
        ap shape (stat_is ssf f)
        ∙ ap (λ (l : Layer). whole (bytes_in 32 0 r) l (bytes_in 29 35 r) u (bytes_in 32 256 r)) (step_is h z fits forget m f.tti)
        ∙ ap (λ (v : Bool). whole (bytes_in 32 0 r) path_given (bytes_in 29 35 r) v (bytes_in 32 256 r)) (tim_is h z fits forget m f.tti)
        ∙ ap (λ (a : List ℕ). whole a path_given (bytes_in 29 35 r) tim_path (bytes_in 32 256 r)) (front_part h z)
        ∙ ap (λ (w : List ℕ). whole (front_bytes h.front) path_given w tim_path (bytes_in 32 256 r)) (others_part h z)
        ∙ ap (λ (n : List ℕ). whole (front_bytes h.front) path_given (others h z) tim_path n) (names_part h z)
        ∙ ap (λ (x : List ℕ). front_bytes h.front ++ (cycle_bytes (cycle_of path_given) ++ (x ++ (traces_of path_given ++ (h.names ++ []))))) (path_numbers_are t forget (path_stops ssf t) tim_path f pm)
        ∙ ap (λ (x : List ℕ). front_bytes h.front ++ (state_bytes (next_path path_parts t ssf f pm).state ++ x)) (sym (before_rest path_given.accepted path_given.gathered path_given.previous (h.names ++ [])))
        ∙ ap (λ (l : Layer). held_bytes (next_path l t ssf f pm)) (sym (layer_is (layer_from h) forget m.inmulti m.number f.tti f.bdi))

    -- what stands in the path, by its layer after the frame
    abbrev pub path_by : Layer → PathStands
    path_by l = record { signal = stands_for t; tim = tim_of l h.front.mode h.names; disabled = h.front.disabled; bdi = l.bdi.on; deg = l.deg.on }

    pub path_stands_lem : path_stood (held_bytes h) ssf m f ≡ path_by path_layer
    unfolding held_bytes tim_of
    path_stands_lem =
        let r : List ℕ = held_bytes h in
        let x : Bool = on (flag h.front.disabled) in
        let y : Bool = on (flag h.front.deg.on) in
        let first : Stat → PathStands = λ (s : Stat). record { signal = stands_for s; tim = tim_after r (path_forgets ssf s) m f.tti; disabled = x; bdi = (path_bdi_at (bytes_in 2 0 (bytes_in 29 35 r)) (path_forgets ssf s) f).on; deg = y } in
        let shape : Bool → Filter → Bool → Bool → PathStands = λ (u : Bool). λ (b : Filter). λ (a : Bool). λ (c : Bool). record { signal = stands_for t; tim = u; disabled = a; bdi = b.on; deg = c } in
        let bdi : Filter = filter_of h.state.bdi 5 forget f.bdi in
        ap first (stat_is ssf f)
        ∙ ap (λ (u : Bool). shape u (path_bdi_at (bytes_in 2 0 (bytes_in 29 35 r)) forget f) x y) (tim_is h z fits forget m f.tti)
        ∙ ap (λ (w : List ℕ). shape tim_path (path_bdi_at (bytes_in 2 0 w) forget f) x y) (others_part h z)
        ∙ ap (λ (b : Filter). shape tim_path b x y) (bdi_is forget f)
        ∙ ap (λ (a : Bool). shape tim_path bdi a y) (flag_back h.front.disabled)
        ∙ ap (λ (a : Bool). shape tim_path bdi h.front.disabled a) (flag_back h.front.deg.on)
        ∙ ap path_by (sym (layer_is (layer_from h) forget m.inmulti m.number f.tti f.bdi))

    pub path_at : (pm : ℕ) (r : PathFrame) (x : List ℕ) → PathAt (held_bytes h) ssf m f pm r x
        → (r ≡ path_frame (path_by path_layer)) × (x ≡ held_bytes (next_path path_layer t ssf f pm))
    path_at pm r x e =
        let w = eq-eqb (length (held_bytes h)) 288 (long h z) in
        ((rw w at e.answers) ∙ ap path_frame path_stands_lem, (rw w at e.holds) ∙ path_record_lem pm)
