-- A layer's record by the five parts that a frame goes through, and what each holds of it. Assumes nothing.
use Prim.Native.Nat.{ℕ, ◌*◌, ◌<◌}
use mathlib.Core.Path.{◌≡◌, refl, sym, ap, ◌∙◌}
use mathlib.Core.Bool.{Bool, true, false, cond, ◌||◌}
use mathlib.Core.List.{List, [], ◌∷◌, ◌++◌, append_assoc, append-nil}
use native.Mathlib.Omega.{arith}
use lib.ListN.{length, get_or, set, drop}
use Rattle.answer.specs.Bits.{flag}
use Rattle.codec.specs.Over.{bytes_in}
use Rattle.codec.specs.Pieces.{Piece, piece, joined, Sized}
use Rattle.codec.proofs.Pieces.{bytes_piece, length_joined}
use Rattle.codec.proofs.Overs.{laid_room}
use Rattle.words.specs.Words.{le4, flat, counted_in, added_in}
use Rattle.words.proofs.Words.{length_flat, word_in_flat, over_in_flat}
use Rattle.filter.specs.declared.Filter.{Filter}
use Rattle.filter.specs.declared.Stat.{Stat}
use Rattle.filter.specs.Filter.{quiet, up_of, add_of, filter_of}
use Rattle.alignment.specs.declared.Multi.{Multi}
use Rattle.layer.specs.declared.Layer.{Layer}
use Rattle.layer.specs.Layer.{layer_of, tim_of}
use Rattle.layer.specs.Steps.{parts}
use Rattle.layer.proofs.Stepped.{parts_step}
use Rattle.numbers.specs.Numbers.{on, low, front_bytes, state_bytes}
use Rattle.numbers.specs.Held.{Held, held_bytes}
use Rattle.numbers.proofs.Strips.{flag_back, byte, FrontFits, StateFits}
use Rattle.image.specs.Image.{section_held, path_held, Sizes}
use Rattle.history.specs.Ranges.{Ranged}
use Rattle.supervisor.specs.declared.Supervisor.{Supervisor}
use Rattle.layer.specs.declared.Cycle.{Cycle}
use Rattle.cycle.specs.Cycle.{cycle_in, cycle_bytes, traced, cycle_step, tim_in, layer_step, tim_after}
use Rattle.fields.specs.Fields.{raised, counted_by, counts_in}

-- Small laws.

pub filter_back : (f : Filter) → f.run < 256 → ◌≡◌ {A = Filter} (record { on = on (flag f.on); run = low f.run }) f
filter_back f h = rw (flag_back f.on, byte f.run h)

pub stat_back : (s : Stat) → s.run < 256 → ◌≡◌ {A = Stat} (record { value = s.value; run = low s.run; known = on (flag s.known); accepted = s.accepted }) s
stat_back s h = rw (flag_back s.known, byte s.run h)

-- a flag once raised stays
pub raise_flag : (x more : Bool) → raised more (flag x) ≡ flag (x || more)
raise_flag true true = refl
raise_flag true false = refl
raise_flag false true = refl
raise_flag false false = refl

-- a word of many, counted
pub counted_flat : (ws : List ℕ) (i n : ℕ) → i < length ws → get_or ws i 0 < 4294967296 → counted_in (flat ws) i n ≡ flat (set ws i (up_of (get_or ws i 0) n))
unfolding counted_in
counted_flat ws i n h b =
    let e = word_in_flat ws i b h in
    rw e (laid_room (flat ws) (i * 4) (le4 (up_of (get_or ws i 0) n)) (omega (arith, length_flat ws)) ∙ over_in_flat ws i (up_of (get_or ws i 0) n) h)

-- and added to
pub added_flat : (ws : List ℕ) (i more n : ℕ) → i < length ws → get_or ws i 0 < 4294967296 → added_in (flat ws) i more n ≡ flat (set ws i (add_of (get_or ws i 0) more n))
unfolding added_in
added_flat ws i more n h b =
    let e = word_in_flat ws i b h in
    rw e (laid_room (flat ws) (i * 4) (le4 (add_of (get_or ws i 0) more n)) (omega (arith, length_flat ws)) ∙ over_in_flat ws i (add_of (get_or ws i 0) more n) h)

-- two counts behind a sum
counted_two : (x n f : ℕ) (a b : Bool) → n < 4294967296 → f < 4294967296
    → counted_by b 2 (counted_by a 1 (flat (x ∷ n ∷ f ∷ []))) ≡ flat (x ∷ cond a (up_of n 400000) n ∷ cond b (up_of f 400000) f ∷ [])
counted_two x n f true true h k =
    ap (λ (w : List ℕ). counted_in w 2 400000) (counted_flat (x ∷ n ∷ f ∷ []) 1 400000 (omega arith) h)
    ∙ counted_flat (x ∷ up_of n 400000 ∷ f ∷ []) 2 400000 (omega arith) k
counted_two x n f true false h k = counted_flat (x ∷ n ∷ f ∷ []) 1 400000 (omega arith) h
counted_two x n f false true h k = counted_flat (x ∷ n ∷ f ∷ []) 2 400000 (omega arith) k
counted_two x n f false false h k = refl

-- the sum and the two counts
pub counts_is : (s n f more : ℕ) (a b : Bool) → s < 4294967296 → n < 4294967296 → f < 4294967296
    → counts_in a b more (le4 s ++ (le4 n ++ le4 f))
    ≡ le4 (add_of s more 3200000) ++ (le4 (cond a (up_of n 400000) n) ++ le4 (cond b (up_of f 400000) f))
unfolding flat
counts_is s n f more a b g h k =
    ap (λ (w : List ℕ). counted_by b 2 (counted_by a 1 w)) (added_flat (s ∷ n ∷ f ∷ []) 0 more 3200000 (omega arith) g)
    ∙ counted_two (add_of s more 3200000) n f a b h k

-- three lists before a fourth
pub before_rest : (a g p n : List ℕ) → a ++ (g ++ (p ++ n)) ≡ (a ++ (g ++ (p ++ []))) ++ n
before_rest a g p n =
    sym (append_assoc a (g ++ (p ++ [])) n
    ∙ ap (λ (r : List ℕ). a ++ r) (append_assoc g (p ++ []) n ∙ ap (λ (r : List ℕ). g ++ (r ++ n)) (append-nil p)))

-- The record in five parts.

module _ (h : Held) (z : Sizes h) where
  -- the numbers behind the front and the cycle's
  abbrev pub cycle_of_held : Cycle
  cycle_of_held = record { known = h.state.known; gathering = h.state.gathering; equal = h.state.equal }

  abbrev pub others : List ℕ
  others = drop 3 (state_bytes h.state)

  abbrev pub traces : List ℕ
  traces = joined (piece 64 h.accepted ∷ piece 64 h.gathered ∷ piece 64 h.previous ∷ [])

  abbrev pub five : List Piece
  five =
      piece 32 (front_bytes h.front) ∷ piece 3 (cycle_bytes cycle_of_held) ∷ piece 29 others ∷ piece 192 traces ∷ piece 32 h.names ∷ []

  five_is : held_bytes h ≡ joined five
  unfolding held_bytes
  five_is =
      ap (λ (r : List ℕ). front_bytes h.front ++ (state_bytes h.state ++ r)) (before_rest h.accepted h.gathered h.previous (h.names ++ []))

  traces_sized : Sized (piece 64 h.accepted ∷ piece 64 h.gathered ∷ piece 64 h.previous ∷ [])
  traces_sized = (z.accepted, (z.gathered, (z.previous, tt)))

  traces_long : length traces ≡ 192
  traces_long = length_joined (piece 64 h.accepted ∷ piece 64 h.gathered ∷ piece 64 h.previous ∷ []) traces_sized

  sized_five : Sized five
  sized_five = (refl, (refl, (refl, (traces_long, (z.names, tt)))))

  pub long : length (held_bytes h) ≡ 288
  long = ap length five_is ∙ length_joined five sized_five

  pub front_part : bytes_in 32 0 (held_bytes h) ≡ front_bytes h.front
  front_part = rw five_is (bytes_piece 0 five sized_five)

  cycle_part : bytes_in 3 32 (held_bytes h) ≡ cycle_bytes cycle_of_held
  cycle_part = rw five_is (bytes_piece 1 five sized_five)

  pub others_part : bytes_in 29 35 (held_bytes h) ≡ others
  others_part = rw five_is (bytes_piece 2 five sized_five)

  traces_part : bytes_in 192 64 (held_bytes h) ≡ traces
  traces_part = rw five_is (bytes_piece 3 five sized_five)

  pub names_part : bytes_in 32 256 (held_bytes h) ≡ h.names
  names_part = rw five_is (bytes_piece 4 five sized_five)

  -- the layer that its trace's step sees
  abbrev pub quieted : Layer
  quieted = record {
    accepted = h.accepted;
    gathered = h.gathered;
    previous = h.previous;
    known = h.state.known;
    gathering = h.state.gathering;
    equal = h.state.equal;
    bdi = quiet;
    deg = quiet;
  }

  traced_is : traced traces cycle_of_held ≡ quieted
  traced_is =
      let ps : List Piece = piece 64 h.accepted ∷ piece 64 h.gathered ∷ piece 64 h.previous ∷ [] in
      rw (bytes_piece 0 ps traces_sized, bytes_piece 1 ps traces_sized, bytes_piece 2 ps traces_sized)

  cycle_back : StateFits h.state → cycle_in (cycle_bytes cycle_of_held) ≡ cycle_of_held
  cycle_back f = rw (flag_back h.state.known, flag_back h.state.gathering, byte h.state.equal f.equal)

  pub step_is : StateFits h.state → (forget : Bool) (m : Multi) (tti : ℕ)
      → layer_step (held_bytes h) forget m tti ≡ parts quieted forget m.inmulti m.number tti quiet
  step_is f forget m tti =
      ap (λ (t : List ℕ). cycle_step t (cycle_in (bytes_in 3 32 (held_bytes h))) forget m tti) traces_part
      ∙ ap (λ (w : List ℕ). cycle_step traces (cycle_in w) forget m tti) cycle_part
      ∙ ap (λ (c : Cycle). cycle_step traces c forget m tti) (cycle_back f)
      ∙ ap (λ (l : Layer). parts l forget m.inmulti m.number tti quiet) traced_is

  mode_is : get_or (held_bytes h) 5 0 ≡ h.front.mode
  unfolding held_bytes
  mode_is = refl

  pub tim_is : StateFits h.state → (forget : Bool) (m : Multi) (tti : ℕ)
      → tim_after (held_bytes h) forget m tti ≡ tim_of (parts quieted forget m.inmulti m.number tti quiet) h.front.mode h.names
  unfolding tim_of
  tim_is f forget m tti =
      ap (λ (l : Layer). tim_in l.known l.accepted (get_or (held_bytes h) 5 0) (bytes_in 32 256 (held_bytes h))) (step_is f forget m tti)
      ∙ rw (mode_is, names_part)

-- the layer of the definitions after a frame, in parts
pub layer_is : (l : Layer) (forget inmulti : Bool) (number tti : ℕ) (bdi : Bool)
    → layer_of l forget inmulti number tti bdi ≡ parts l forget inmulti number tti (filter_of l.bdi 5 forget bdi)
unfolding layer_of
layer_is l forget inmulti number tti bdi = sym (parts_step l forget inmulti number tti (filter_of l.bdi 5 forget bdi))

pub section_fits : (s : Supervisor) → Ranged s → FrontFits (section_held s).front × StateFits (section_held s).state
section_fits s r = (
  record { thr = omega arith; degm = omega arith; deg = omega arith },
  record { equal = omega arith; bdi = omega arith; iae = omega arith; biae = omega arith; stat = omega arith; near = omega arith; far = omega arith; sum = omega arith },
)

pub path_fits : (s : Supervisor) → Ranged s → FrontFits (path_held s).front × StateFits (path_held s).state
path_fits s r = (
  record { thr = omega arith; degm = omega arith; deg = omega arith },
  record { equal = omega arith; bdi = omega arith; iae = omega arith; biae = omega arith; stat = omega arith; near = omega arith; far = omega arith; sum = omega arith },
)
