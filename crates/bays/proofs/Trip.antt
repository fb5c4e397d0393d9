-- The ranges of the bytes are those of the definitions; a supervisor in its ranges is read back from its bytes, and sound bytes are those of what is
-- read from them. Assumes nothing.
use mathlib.Core.Path.{◌≡◌, refl, sym, ap, subst, subst⁻¹, ◌∙◌}
use mathlib.Core.Bool.{Bool, true, ◌&&◌, false≢true}
use mathlib.Core.List.{List, [], ◌∷◌, ◌++◌, map}
use Prim.Native.Nat.{ℕ, zero, suc, ◌+◌, ◌≤◌}
use native.Mathlib.Omega.{arith}
use lib.Dec.{leb, eqb}
use lib.ListN.{length, get_or, take, drop, replicate, length-append, length-drop, take-append-drop}
use lib.Seq.{take_at, drop_at, drop-cons, take-take, get_or-take}
use borrow.Author.Tests.{le-leb, leb-true, eq-eqb, eqb-true}
use Rattle.answer.specs.Each.{each_from}
use Rattle.answer.proofs.Cond.{and_left, and_right}
use Rattle.ranges.specs.Sound.{below, sound}
use Rattle.ranges.proofs.Below.{below_all, below_append, below_front, below_rest, flag_leb}
use Rattle.numbers.specs.Held.{held_in}
use Rattle.numbers.proofs.Strips.{flag_stays, both}
use Rattle.image.specs.Image.{bytes_of}
use Rattle.image.proofs.Ranges.{same_ranges, round_trip}
use Rattle.rack.specs.Rack.{level_sound}
use Rattle.racks.proofs.Ranges.{same_level, level_trip}
use Rattle.tandem.specs.declared.Level.{Level}
use Rattle.tandem.specs.declared.Tandem.{Tandem}
use Rattle.bay.specs.Bay.{records_of, chained, strip_greatest, all_sound, bay_sound}
use Rattle.bay.proofs.Chains.{chained_back}
use Rattle.bay.proofs.Given as given
use Rattle.bays.specs.Image.{level_bytes_of, given_bytes, strip_bytes, bay_bytes, tandem_bytes, level_held_in, level_in, levels_in, tandem_from, tandem_sound}
use Rattle.bays.specs.Ranges.{AllIn, TandemIn, SameTandem, TandemTrip}
use Rattle.bays.proofs.Bytes.{Says, strip_of, says_of, bay_long, records_of_lem, one_back}

-- From levels in their ranges.

given_below : (ls : List Level) → below (replicate (length ls) 1) (given_bytes ls) ≡ true
unfolding below
given_below [] = refl
given_below (l ∷ ls) = rw (flag_leb l.given, given_below ls)

strip_below : (flags : ℕ) (ls : List Level) → flags ≤ 3 → length ls ≡ 6 → below strip_greatest (strip_bytes flags ls) ≡ true
unfolding below
strip_below flags ls h six =
    let g : below (replicate 6 1) (given_bytes ls) ≡ true = subst (λ (k : ℕ). below (replicate k 1) (given_bytes ls) ≡ true) six (given_below ls) in
    rw (le-leb flags 3 h, below_append (replicate 6 1) (replicate 25 0) (given_bytes ls) (replicate 25 0) g refl)

all_tested : (ls : List Level) → AllIn ls → all_sound (map level_bytes_of ls) ≡ true
unfolding all_sound
all_tested [] a = refl
all_tested (l ∷ ls) a = rw (same_level.tested l.options l.state l.second a.0, all_tested ls a.1)

pub bay_tested : (flags : ℕ) (ls : List Level) → flags ≤ 3 → length ls ≡ 6 → AllIn ls → bay_sound (bay_bytes flags ls) ≡ true
unfolding bay_sound
bay_tested flags ls h six a =
    rw (
      eq-eqb (length (bay_bytes flags ls)) 1760 (bay_long flags ls six a),
      strip_of flags ls six,
      records_of_lem flags ls six a,
      strip_below flags ls h six,
      all_tested ls a,
    )

pub cons : {A : Type 0} {x y : A} {xs ys : List A} → x ≡ y → xs ≡ ys → x ∷ xs ≡ y ∷ ys
cons p q = cc

each_back : (ls : List Level) (n : ℕ) (b : List ℕ) → Says n ls b → AllIn ls → each_from (level_in b) n (map level_bytes_of ls) ≡ ls
each_back [] n b s a = refl
each_back (l ∷ ls) n b s a =
    cons (ap (λ (g : Bool). level_held_in g (held_in (level_bytes_of l))) s.0 ∙ one_back l a.0) (each_back ls (suc n) b s.1 a.1)

pub levels_back : (flags : ℕ) (ls : List Level) → length ls ≡ 6 → AllIn ls → levels_in (bay_bytes flags ls) ≡ ls
unfolding levels_in
levels_back flags ls six a =
    let b : List ℕ = bay_bytes flags ls in
    ap (each_from (level_in b) 1) (records_of_lem flags ls six a) ∙ each_back ls 1 b (says_of flags ls six) a

-- From sound bytes.

all_untested : (rs : List (List ℕ)) (n : ℕ) (b : List ℕ) → all_sound rs ≡ true → AllIn (each_from (level_in b) n rs)
unfolding all_sound
all_untested [] n b e = tt
all_untested (r ∷ rs) n b e =
    (same_level.untested r (and_left (level_sound r) (all_sound rs) e), all_untested rs (suc n) b (and_right (level_sound r) (all_sound rs) e))

all_stay : (rs : List (List ℕ)) (n : ℕ) (b : List ℕ) → all_sound rs ≡ true → map level_bytes_of (each_from (level_in b) n rs) ≡ rs
unfolding all_sound
all_stay [] n b e = refl
all_stay (r ∷ rs) n b e =
    cons (level_trip.stays r (and_left (level_sound r) (all_sound rs) e)) (all_stay rs (suc n) b (and_right (level_sound r) (all_sound rs) e))

zero_stay : (k : ℕ) (x : List ℕ) → below (replicate k 0) x ≡ true → replicate k 0 ≡ x
unfolding below
zero_stay zero [] e = refl
zero_stay zero (y ∷ x) e = absurd (false≢true e)
zero_stay (suc k) [] e = absurd (false≢true e)
zero_stay (suc k) (y ∷ x) e =
    let h : y ≤ 0 = leb-true y 0 (and_left (leb y 0) (below (replicate k 0) x) e) in
    let z : 0 ≡ y = omega arith in
    cons z (zero_stay k x (and_right (leb y 0) (below (replicate k 0) x) e))

given_stay : (rs : List (List ℕ)) (n : ℕ) (b : List ℕ) → n + length rs ≤ length b → below (replicate (length rs) 1) (take (length rs) (drop n b)) ≡ true
    → given_bytes (each_from (level_in b) n rs) ≡ take (length rs) (drop n b)
unfolding below
given_stay [] n b h e = refl
given_stay (r ∷ rs) n b h e =
    let k : ℕ = length rs in
    let y : ℕ = get_or b n 0 in
    let d : drop n b ≡ y ∷ drop (suc n) b = drop-cons b n 0 (omega arith) in
    let f : (leb y 1 && below (replicate k 1) (take k (drop (suc n) b))) ≡ true = rw d at e in
    rw d
    (cons (flag_stays y (leb-true y 1 (and_left (leb y 1) (below (replicate k 1) (take k (drop (suc n) b))) f)))
    (given_stay rs (suc n) b (omega arith) (and_right (leb y 1) (below (replicate k 1) (take k (drop (suc n) b))) f)))

strip_stays : (rs : List (List ℕ)) (b : List ℕ) → length rs ≡ 6 → 32 ≤ length b → below strip_greatest (take 32 b) ≡ true
    → strip_bytes (get_or b 0 0) (each_from (level_in b) 1 rs) ≡ take 32 b
unfolding below
strip_stays rs [] six h e = absurd (omega arith)
strip_stays rs (x ∷ b) six h e =
    let w : List ℕ = take 31 b in
    let f : below (replicate 6 1 ++ replicate 25 0) w ≡ true = and_right (leb x 3) (below (replicate 6 1 ++ replicate 25 0) w) e in
    let t : take 6 w ≡ take 6 b = take-take 6 31 b (omega arith) in
    let g : below (replicate 6 1) (take 6 b) ≡ true = rw (← t) (below_front (replicate 6 1) (replicate 25 0) w f) in
    let z : replicate 25 0 ≡ drop 6 w = zero_stay 25 (drop 6 w) (below_rest (replicate 6 1) (replicate 25 0) w f) in
    let s : below (replicate (length rs) 1) (take (length rs) b) ≡ true = subst⁻¹ (λ (k : ℕ). below (replicate k 1) (take k b) ≡ true) six g in
    let i : given_bytes (each_from (level_in (x ∷ b)) 1 rs) ≡ take 6 w =
    given_stay rs 1 (x ∷ b) (omega arith) s ∙ ap (λ (k : ℕ). take k b) six ∙ sym t in
    ap (λ (r : List ℕ). x ∷ r) (both i z ∙ take-append-drop 6 w)

module _ (b : List ℕ) (e : bay_sound b ≡ true) where
  pub sound_bay : length b ≡ 1760
  unfolding bay_sound
  sound_bay = eqb-true (length b) 1760 (given.both (eqb (length b) 1760) (below strip_greatest (take 32 b) && all_sound (records_of b)) e).0

  sound_parts : (below strip_greatest (take 32 b) && all_sound (records_of b)) ≡ true
  unfolding bay_sound
  sound_parts = (given.both (eqb (length b) 1760) (below strip_greatest (take 32 b) && all_sound (records_of b)) e).1

  sound_strip : below strip_greatest (take 32 b) ≡ true
  sound_strip = and_left (below strip_greatest (take 32 b)) (all_sound (records_of b)) sound_parts

  sound_records : all_sound (records_of b) ≡ true
  sound_records = and_right (below strip_greatest (take 32 b)) (all_sound (records_of b)) sound_parts

  flags_low : get_or b 0 0 ≤ 3
  flags_low = rw (← get_or-take 32 b 0 0 (omega arith)) (below_all strip_greatest (take 32 b) sound_strip 0)

  levels_in_lem : AllIn (levels_in b)
  unfolding levels_in
  levels_in_lem = all_untested (records_of b) 1 b sound_records

  levels_six : length (levels_in b) ≡ 6
  unfolding levels_in
  levels_six = refl

  pub bay_stays : bay_bytes (get_or b 0 0) (levels_in b) ≡ b
  unfolding bay_bytes levels_in
  bay_stays =
      let n = sound_bay in
      both (strip_stays (records_of b) b refl (omega arith) sound_strip)
      (ap chained (all_stay (records_of b) 1 b sound_records) ∙ chained_back 6 (drop 32 b) (length-drop 32 b ∙ omega arith))
      ∙ take-append-drop 32 b

-- The supervisor.

module _ (t : Tandem) (i : TandemIn t) where
  base_long : length (bytes_of t.base) ≡ 688
  base_long = round_trip.long t.base i.base

  first_of : take 688 (tandem_bytes t) ≡ bytes_of t.base
  unfolding tandem_bytes
  first_of = take_at (bytes_of t.base) (bay_bytes t.flags t.levels) 688 base_long

  last_of : drop 688 (tandem_bytes t) ≡ bay_bytes t.flags t.levels
  unfolding tandem_bytes
  last_of = drop_at (bytes_of t.base) (bay_bytes t.flags t.levels) 688 base_long

  tandem_long : length (tandem_bytes t) ≡ 2448
  unfolding tandem_bytes
  tandem_long = simp (length-append, base_long, bay_long t.flags t.levels i.six i.levels)

  tandem_tested : tandem_sound (tandem_bytes t) ≡ true
  unfolding tandem_sound
  tandem_tested =
      rw (
        eq-eqb (length (tandem_bytes t)) 2448 tandem_long,
        first_of,
        last_of,
        same_ranges.tested t.base i.base,
        bay_tested t.flags t.levels i.flags i.six i.levels,
      )

  first_flags : get_or (bay_bytes t.flags t.levels) 0 0 ≡ t.flags
  unfolding bay_bytes
  first_flags = refl

  tandem_back : tandem_from (tandem_bytes t) ≡ t
  unfolding tandem_from
  tandem_back = rw (first_of, last_of, round_trip.back t.base i.base, first_flags, levels_back t.flags t.levels i.six i.levels)

module _ (l : List ℕ) (e : tandem_sound l ≡ true) where
  abbrev first : List ℕ
  first = take 688 l

  abbrev last : List ℕ
  last = drop 688 l

  pub tandem_bytes_lem : length l ≡ 2448
  unfolding tandem_sound
  tandem_bytes_lem = eqb-true (length l) 2448 (and_left (eqb (length l) 2448) (sound first && bay_sound last) e)

  both_sound : (sound first && bay_sound last) ≡ true
  unfolding tandem_sound
  both_sound = and_right (eqb (length l) 2448) (sound first && bay_sound last) e

  pub first_sound : sound first ≡ true
  first_sound = and_left (sound first) (bay_sound last) both_sound

  pub last_sound : bay_sound last ≡ true
  last_sound = and_right (sound first) (bay_sound last) both_sound

  tandem_untested : TandemIn (tandem_from l)
  unfolding tandem_from
  tandem_untested = record {
    base = same_ranges.untested first first_sound;
    flags = flags_low last last_sound;
    six = levels_six last last_sound;
    levels = levels_in_lem last last_sound;
  }

  tandem_stays : tandem_bytes (tandem_from l) ≡ l
  unfolding tandem_bytes tandem_from
  tandem_stays = both (round_trip.stays first first_sound) (bay_stays last last_sound) ∙ take-append-drop 688 l

  -- the two parts of sound bytes, by the supervisor in them
  pub first_from : first ≡ bytes_of (tandem_from l).base
  unfolding tandem_from
  first_from = sym (round_trip.stays first first_sound)

  pub last_from : last ≡ bay_bytes (tandem_from l).flags (tandem_from l).levels
  unfolding tandem_from
  last_from = sym (bay_stays last last_sound)

pub same_tandem : SameTandem
same_tandem = record { tested = tandem_tested; untested = tandem_untested }

pub tandem_trip : TandemTrip
tandem_trip = record { long = tandem_long; back = tandem_back; stays = tandem_stays }
