-- A frame and a mark in a level's record. Assumes nothing.
use mathlib.Core.Path.{◌≡◌, sym, ap, ◌∙◌}
use mathlib.Core.Bool.{Bool, ◌&&◌, ◌||◌, not}
use mathlib.Core.List.{List, [], ◌∷◌, ◌++◌}
use Prim.Native.Nat.{ℕ}
use native.Mathlib.Omega.{arith}
use lib.Dec.{leb}
use lib.ListN.{length}
use borrow.Author.Tests.{eq-eqb}
use Rattle.answer.specs.Bits.{flag}
use Rattle.codec.specs.Over.{bytes_in}
use Rattle.codec.specs.Pieces.{joined}
use Rattle.words.specs.Words.{le4}
use Rattle.overhead.specs.Bei.{bei_of, is_far, is_biae}
use Rattle.overhead.specs.declared.Field.{Field}
use Rattle.filter.specs.declared.Filter.{Filter}
use Rattle.filter.specs.declared.Stat.{Stat}
use Rattle.filter.specs.Filter.{quiet, filter_of}
use Rattle.filter.specs.Stat.{stat_of}
use Rattle.alignment.specs.declared.Multi.{Multi}
use Rattle.layer.specs.declared.Layer.{Layer}
use Rattle.layer.specs.Layer.{layer_of, tim_of}
use Rattle.layer.specs.Steps.{parts}
use Rattle.settings.specs.declared.Options.{Options}
use Rattle.second.specs.declared.Blocks.{Blocks}
use Rattle.second.specs.Second.{counted_of, blocks_of}
use Rattle.level.specs.declared.LevelState.{LevelState}
use Rattle.level.specs.declared.LevelStands.{LevelStands}
use Rattle.level.specs.declared.LevelSecond.{LevelSecond}
use Rattle.level.specs.Status.{status_for}
use Rattle.level.specs.Level.{level_of, stands_by, level_count, level_marked}
use Rattle.numbers.specs.Numbers.{on, front_bytes, state_bytes}
use Rattle.numbers.specs.Held.{Held, held_bytes, options_from, layer_from, held_of}
use Rattle.numbers.proofs.Strips.{flag_back, FrontFits, StateFits}
use Rattle.image.specs.Image.{Sizes}
use Rattle.cycle.specs.Cycle.{cycle_bytes, cycle_of, traces_of, record_parts, layer_step, tim_after}
use Rattle.fields.specs.Fields.{filter_bytes, stat_bytes, raised, counts_in}
use Rattle.records.proofs.Held.{filter_back, stat_back, before_rest, others, long, front_part, others_part, names_part, quieted, step_is, tim_is, layer_is}
use Rattle.records.proofs.Layers.{lasts, lasts_is}
use Rattle.records.proofs.Marks.{closes}
use Rattle.rack.specs.Rack.{Filters, level_held, stat_in, forgets, stops_in, iae_in, filters_in, level_numbers, level_stood, level_record, LevelAt}
use Rattle.racks.specs.Racks.{LevelIn, InLevel}

module _ (h : Held) (z : Sizes h) (fits : StateFits h.state) where
  -- what a frame adds to the second, by what stands after it
  abbrev blocks_by : Bool → Bool → Bool → Field → ℕ → Blocks
  blocks_by stops tim bdi f v =
      blocks_of h.state.blocks (record { stopped = stops; near = leb 1 v; far = bei_of f.bei; neards = stops || tim; fards = bdi })

  -- the level's record after a frame, by its layer and its STAT after it
  abbrev next_level : Layer → Stat → Bool → Field → ℕ → Held
  next_level l t ssf f v =
      let tim : Bool = tim_of l h.front.mode h.names in
      let biae : Filter = filter_of h.state.biae 3 (forgets ssf t || tim) (is_biae (bei_of f.bei)) in
      held_of (options_from h) l h.state.iae biae t (blocks_by (stops_in ssf t) tim l.bdi.on f v)
      (h.state.iaeseen || iae_in t tim) (h.state.biaeseen || biae.on)

  abbrev filters_of : Bool → Bool → Field → Filters
  filters_of forget tim f = record {
    bdi = filter_of h.state.bdi 5 forget f.bdi;
    biae = filter_of h.state.biae 3 (forget || tim) (is_biae (bei_of f.bei));
  }

  filters_are : (forget tim : Bool) (f : Field) → filters_in (others h z) forget tim f ≡ filters_of forget tim f
  unfolding bytes_in
  filters_are forget tim f = rw (filter_back h.state.bdi fits.bdi, filter_back h.state.biae fits.biae)

  stat_is : (ssf : Bool) (f : Field) → stat_in (held_bytes h) ssf f ≡ stat_of h.state.stat ssf f.stat
  unfolding held_bytes
  stat_is ssf f = ap (λ (s : Stat). stat_of s ssf f.stat) (stat_back h.state.stat fits.stat)

  numbers_are : (t : Stat) (forget stops tim iae : Bool) (f : Field) (v : ℕ)
      → let d : Filters = filters_of forget tim f in
      level_numbers (others h z) t forget stops tim iae f v
      ≡ filter_bytes d.bdi ++ (filter_bytes h.state.iae ++ (filter_bytes d.biae ++ (stat_bytes t
      ++ lasts (blocks_by stops tim d.bdi.on f v) (h.state.iaeseen || iae) (h.state.biaeseen || d.biae.on))))
  unfolding level_numbers bytes_in
  numbers_are t forget stops tim iae f v =
      let d : Filters = filters_of forget tim f in
      let q : Filters → List ℕ = λ (x : Filters).
      filter_bytes x.bdi ++ (filter_bytes h.state.iae ++ (filter_bytes x.biae ++ (stat_bytes t
      ++ (raised (stops || tim) (flag h.state.blocks.neards) ∷ raised x.bdi.on (flag h.state.blocks.fards) ∷ raised iae (flag h.state.iaeseen) ∷ raised x.biae.on (flag h.state.biaeseen)
      ∷ 0 ∷ 0 ∷ 0 ∷ (counts_in (leb 1 v && not stops) (is_far (bei_of f.bei) && not stops) (counted_of (bei_of f.bei) stops) (le4 h.state.blocks.sum.0 ++ (le4 h.state.blocks.near.0 ++ le4 h.state.blocks.far.0)) ++ []))))) in
      ap q (filters_are forget tim f)
      ∙ ap (λ (r : List ℕ). filter_bytes d.bdi ++ (filter_bytes h.state.iae ++ (filter_bytes d.biae ++ (stat_bytes t ++ r))))
      (lasts_is h.state.blocks h.state.iaeseen h.state.biaeseen stops (leb 1 v) (bei_of f.bei) (stops || tim) d.bdi.on iae d.biae.on fits.near fits.far fits.sum)

  module _ (ssf : Bool) (m : Multi) (f : Field) where
    abbrev t : Stat
    t = stat_of h.state.stat ssf f.stat

    abbrev forget : Bool
    forget = forgets ssf t

    -- the layer after the frame: as the bytes give it, in parts, and by the definition
    abbrev given : Layer
    given = parts (quieted h z) forget m.inmulti m.number f.tti quiet

    abbrev in_parts : Layer
    in_parts = parts (layer_from h) forget m.inmulti m.number f.tti (filter_of h.state.bdi 5 forget f.bdi)

    abbrev level_layer : Layer
    level_layer = layer_of (layer_from h) forget m.inmulti m.number f.tti f.bdi

    abbrev tim : Bool
    tim = tim_of given h.front.mode h.names

    level_record_lem : (v : ℕ) → level_record (held_bytes h) ssf m f v ≡ held_bytes (next_level level_layer t ssf f v)
    unfolding level_record held_bytes tim_of
    level_record_lem v =
        let r : List ℕ = held_bytes h in
        let shape : Stat → List ℕ = λ (s : Stat).
        let l : Layer = layer_step r (forgets ssf s) m f.tti in
        let u : Bool = tim_after r (forgets ssf s) m f.tti in
        joined (record_parts r (cycle_of l) (level_numbers (bytes_in 29 35 r) s (forgets ssf s) (stops_in ssf s) u (iae_in s u) f v) (traces_of l)) in
        let whole : List ℕ → Layer → List ℕ → Bool → List ℕ → List ℕ = λ (a : List ℕ). λ (l : Layer). λ (w : List ℕ). λ (u : Bool). λ (n : List ℕ).
        a ++ (cycle_bytes (cycle_of l) ++ (level_numbers w t forget (stops_in ssf t) u (iae_in t u) f v ++ (traces_of l ++ (n ++ [])))) in
        let u : Bool = tim_after r forget m f.tti in
        ap shape (stat_is ssf f)
        ∙ ap (λ (l : Layer). whole (bytes_in 32 0 r) l (bytes_in 29 35 r) u (bytes_in 32 256 r)) (step_is h z fits forget m f.tti)
        ∙ ap (λ (x : Bool). whole (bytes_in 32 0 r) given (bytes_in 29 35 r) x (bytes_in 32 256 r)) (tim_is h z fits forget m f.tti)
        ∙ ap (λ (a : List ℕ). whole a given (bytes_in 29 35 r) tim (bytes_in 32 256 r)) (front_part h z)
        ∙ ap (λ (w : List ℕ). whole (front_bytes h.front) given w tim (bytes_in 32 256 r)) (others_part h z)
        ∙ ap (λ (n : List ℕ). whole (front_bytes h.front) given (others h z) tim n) (names_part h z)
        ∙ ap (λ (x : List ℕ). front_bytes h.front ++ (cycle_bytes (cycle_of given) ++ (x ++ (traces_of given ++ (h.names ++ []))))) (numbers_are t forget (stops_in ssf t) tim (iae_in t tim) f v)
        ∙ ap (λ (x : List ℕ). front_bytes h.front ++ (state_bytes (next_level in_parts t ssf f v).state ++ x)) (sym (before_rest given.accepted given.gathered given.previous (h.names ++ [])))
        ∙ ap (λ (l : Layer). held_bytes (next_level l t ssf f v)) (sym (layer_is (layer_from h) forget m.inmulti m.number f.tti f.bdi))

    -- what stands, by the layer after the frame
    abbrev level_by : Layer → LevelStands
    level_by l =
        let u : Bool = tim_of l h.front.mode h.names in
        record {
          ssf = ssf;
          status = status_for t;
          tim = u;
          disabled = h.front.disabled;
          bdi = l.bdi.on;
          iae = iae_in t u;
          biae = (filter_of h.state.biae 3 (forget || u) (is_biae (bei_of f.bei))).on;
          deg = l.deg.on;
        }

    level_stands_lem : level_stood (held_bytes h) ssf m f ≡ level_by level_layer
    unfolding held_bytes tim_of
    level_stands_lem =
        let r : List ℕ = held_bytes h in
        let x : Bool = on (flag h.front.disabled) in
        let y : Bool = on (flag h.front.deg.on) in
        let shape : Stat → Bool → Filters → Bool → Bool → LevelStands = λ (s : Stat). λ (u : Bool). λ (d : Filters). λ (a : Bool). λ (b : Bool).
        record { ssf = ssf; status = status_for s; tim = u; disabled = a; bdi = d.bdi.on; iae = iae_in s u; biae = d.biae.on; deg = b } in
        let first : Stat → LevelStands = λ (s : Stat).
        let u : Bool = tim_after r (forgets ssf s) m f.tti in
        shape s u (filters_in (bytes_in 29 35 r) (forgets ssf s) u f) x y in
        ap first (stat_is ssf f)
        ∙ ap (λ (u : Bool). shape t u (filters_in (bytes_in 29 35 r) forget u f) x y) (tim_is h z fits forget m f.tti)
        ∙ ap (λ (w : List ℕ). shape t tim (filters_in w forget tim f) x y) (others_part h z)
        ∙ ap (λ (d : Filters). shape t tim d x y) (filters_are forget tim f)
        ∙ ap (λ (a : Bool). shape t tim (filters_of forget tim f) a y) (flag_back h.front.disabled)
        ∙ ap (λ (b : Bool). shape t tim (filters_of forget tim f) h.front.disabled b) (flag_back h.front.deg.on)
        ∙ ap level_by (sym (layer_is (layer_from h) forget m.inmulti m.number f.tti f.bdi))

    level_at_lem : (v : ℕ) (r : LevelStands) (x : List ℕ) → LevelAt (held_bytes h) ssf m f v r x
        → (r ≡ level_by level_layer) × (x ≡ held_bytes (next_level level_layer t ssf f v))
    level_at_lem v r x e =
        let w = eq-eqb (length (held_bytes h)) 288 (long h z) in
        ((rw w at e.answers) ∙ level_stands_lem, (rw w at e.holds) ∙ level_record_lem v)

-- The record of a level in its ranges: its arrays have their lengths, and its numbers fit.

pub sizes_of : (p : Options) (s : LevelState) (c : LevelSecond) → LevelIn p s c → Sizes (level_held p s c)
sizes_of p s c i =
    record { accepted = i.state.layer.accepted; gathered = i.state.layer.gathered; previous = i.state.layer.previous; names = i.options.names }

pub fits_of : (p : Options) (s : LevelState) (c : LevelSecond) → LevelIn p s c → FrontFits (level_held p s c).front × StateFits (level_held p s c).state
fits_of p s c i = (
  record { thr = omega arith; degm = omega arith; deg = omega arith },
  record { equal = omega arith; bdi = omega arith; iae = omega arith; biae = omega arith; stat = omega arith; near = omega arith; far = omega arith; sum = omega arith },
)

-- a frame and a mark in it are those of the definitions
pub in_level : (p : Options) (s : LevelState) (c : LevelSecond) → LevelIn p s c → InLevel p s c
unfolding level_of stands_by level_count level_marked
in_level p s c i =
    let h : Held = level_held p s c in
    let z : Sizes h = sizes_of p s c i in
    let g = fits_of p s c i in
    record {
      framed = λ ssf m f v r x e. level_at_lem h z g.1 ssf m f v r x e;
      marked = closes h z g.0 g.1;
    }
