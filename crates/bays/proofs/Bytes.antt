-- Laws of a bay's bytes: their length, and where the strip and the records stand in them. Assumes nothing.
use mathlib.Core.Path.{◌≡◌, refl, ap, subst, ◌∙◌}
use mathlib.Core.List.{List, [], ◌∷◌, ◌++◌, map, append_assoc}
use Prim.Native.Nat.{ℕ, suc, ◌*◌}
use native.Mathlib.Omega.{arith}
use lib.ListN.{length, get_or, take, drop, replicate, length-append}
use lib.Seq.{take_at, drop_at, get_or_at, append_snoc}
use Rattle.answer.specs.Bits.{flag}
use Rattle.numbers.specs.Numbers.{on}
use Rattle.numbers.specs.Held.{held_in}
use Rattle.numbers.proofs.Strips.{flag_back}
use Rattle.racks.proofs.Ranges.{level_trip}
use Rattle.tandem.specs.declared.Level.{Level}
use Rattle.bay.specs.Bay.{records_from, records_of, chained}
use Rattle.bays.specs.Image.{level_bytes_of, given_bytes, strip_bytes, bay_bytes, level_held_in}
use Rattle.bays.specs.Ranges.{OneIn, AllIn}

-- a record has 288 bytes
pub record_long : (l : Level) → OneIn l → length (level_bytes_of l) ≡ 288
record_long l a = level_trip.long l.options l.state l.second a

-- the records of levels, one behind the other, are as many as the levels, and each is read where it stands
records_long : (ls : List Level) → AllIn ls → length (chained (map level_bytes_of ls)) ≡ 288 * length ls
unfolding chained
records_long [] a = refl
records_long (l ∷ ls) a =
    let one : length (level_bytes_of l) ≡ 288 = record_long l a.0 in
    let more = records_long ls a.1 in
    simp length-append (omega (arith, one, more))

pub records_back : (ls : List Level) → AllIn ls → records_from (length ls) (chained (map level_bytes_of ls)) ≡ map level_bytes_of ls
unfolding chained
records_back [] a = refl
records_back (l ∷ ls) a =
    let one : length (level_bytes_of l) ≡ 288 = record_long l a.0 in
    let rest : List ℕ = chained (map level_bytes_of ls) in
    rw (take_at (level_bytes_of l) rest 288 one, drop_at (level_bytes_of l) rest 288 one, records_back ls a.1)

-- The strip.

pub given_long : (ls : List Level) → length (given_bytes ls) ≡ length ls
given_long [] = refl
given_long (l ∷ ls) = ap suc (given_long ls)

pub strip_long : (flags : ℕ) (ls : List Level) → length ls ≡ 6 → length (strip_bytes flags ls) ≡ 32
strip_long flags ls six = simp (length-append, given_long ls, six)

-- byte n says whether the first level is provisioned, and each of the next that of the next
abbrev pub Says : ℕ → List Level → List ℕ → Type 0
Says n [] b = Unit {0}
Says n (l ∷ ls) b = (on (get_or b n 0) ≡ l.given) × Says (suc n) ls b

says_at : (p : List ℕ) (ls : List Level) (q : List ℕ) (n : ℕ) → length p ≡ n → Says n ls (p ++ (given_bytes ls ++ q))
says_at p [] q n e = tt
says_at p (l ∷ ls) q n e =
    let x : ℕ = flag l.given in
    let m : length (p ++ (x ∷ [])) ≡ suc n = simp length-append (omega arith) in (
      ap on (get_or_at p x (given_bytes ls ++ q) 0 n e) ∙ flag_back l.given,
      subst (Says (suc n) ls) (append_snoc p x (given_bytes ls ++ q)) (says_at (p ++ (x ∷ [])) ls q (suc n) m),
    )

-- The bay of six levels in their ranges.

module _ (flags : ℕ) (ls : List Level) (six : length ls ≡ 6) where
  pub strip_of : take 32 (bay_bytes flags ls) ≡ strip_bytes flags ls
  unfolding bay_bytes
  strip_of = take_at (strip_bytes flags ls) (chained (map level_bytes_of ls)) 32 (strip_long flags ls six)

  pub rest_of : drop 32 (bay_bytes flags ls) ≡ chained (map level_bytes_of ls)
  unfolding bay_bytes
  rest_of = drop_at (strip_bytes flags ls) (chained (map level_bytes_of ls)) 32 (strip_long flags ls six)

  pub says_of : Says 1 ls (bay_bytes flags ls)
  unfolding bay_bytes
  says_of = rw (append_assoc (given_bytes ls) (replicate 25 0) (chained (map level_bytes_of ls)))
      (says_at (flags ∷ []) ls (replicate 25 0 ++ chained (map level_bytes_of ls)) 1 refl)

  module _ (a : AllIn ls) where
    pub bay_long : length (bay_bytes flags ls) ≡ 1760
    unfolding bay_bytes
    bay_long = simp (length-append, given_long ls, six, records_long ls a)

    pub records_of_lem : records_of (bay_bytes flags ls) ≡ map level_bytes_of ls
    records_of_lem =
        ap (records_from 6) rest_of ∙ subst (λ (k : ℕ). records_from k (chained (map level_bytes_of ls)) ≡ map level_bytes_of ls) six (records_back ls a)

-- a level is read back from its record
pub one_back : (l : Level) → OneIn l → level_held_in l.given (held_in (level_bytes_of l)) ≡ l
one_back l a =
    let e = level_trip.back l.options l.state l.second a in
    rw (e.0.0, e.0.1, e.1)
