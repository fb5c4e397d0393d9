-- Lists one behind the other, the records of a bay, and a turn of a loop that writes one list behind those before it. Assumes nothing.
use mathlib.Core.Path.{◌≡◌, refl, sym, ap, ◌∙◌}
use mathlib.Core.Bool.{Bool, ◌&&◌}
use mathlib.Core.Logic.{◌⊎◌, inl, inr}
use mathlib.Core.List.{List, [], ◌∷◌, ◌++◌, append_assoc, append-nil}
use Prim.Native.Nat.{ℕ, zero, suc, ◌+◌, ◌-◌, ◌*◌, ◌/◌, ◌≤◌, ◌<◌}
use native.Mathlib.Nat.{mul-zero, mul-suc}
use native.Mathlib.Numerals.{add-one}
use native.Mathlib.Omega.{arith}
use lib.ListN.{length, get_or, take, drop, set, length-append, length-drop, take-append-drop, drop_of_length-le}
use lib.Seq.{take-suc, take_all, take_at, drop_at, take-add, drop-drop, length-take-le, get_or-take}
use Rattle.std.specs.Simd.{first_chunks}
use Rattle.answer.specs.Each.{each_from}
use Rattle.answer.specs.Over.{over}
use Rattle.answer.proofs.Each.{each_length, each_at}
use Rattle.answer.proofs.Overs.{over_nil, over_over, over_length}
use Rattle.codec.proofs.Overs.{over_all}
use Rattle.words.proofs.Ranges.{and_true}
use Rattle.ranges.proofs.Below.{and_two}
use Rattle.rack.specs.Rack.{level_sound}
use Rattle.bay.specs.Bay.{records_from, records_of, chained, all_sound, each_record}

-- the records, and record i
pub records_long : (k : ℕ) (d : List ℕ) → length (records_from k d) ≡ k
records_long zero d = refl
records_long (suc k) d = ap suc (records_long k (drop 288 d))

record_from : (k : ℕ) (d : List ℕ) (i : ℕ) → i < k → get_or (records_from k d) i [] ≡ take 288 (drop (288 * i) d)
record_from zero d i h = absurd (omega arith)
record_from (suc k) d zero h = refl
record_from (suc k) d (suc i) h =
    let e : 288 * suc i ≡ 288 + 288 * i = omega arith in
    record_from k (drop 288 d) i (omega arith) ∙ ap (take 288) (drop-drop (288 * i) 288 d ∙ ap (λ (n : ℕ). drop n d) (sym e))

-- the chunks of 288 behind the strip
pub records_are : (b : List ℕ) → length b ≡ 1760
    → first_chunks 288 (length (take 1728 (drop 32 b)) / 288) (take 1728 (drop 32 b)) ≡ records_of b
records_are b n =
    let m : length (drop 32 b) ≡ 1728 = length-drop 32 b ∙ omega arith in
    let e : take 1728 (drop 32 b) ≡ drop 32 b = take_all 1728 (drop 32 b) (omega arith) in
    ap (λ (d : List ℕ). first_chunks 288 (length d / 288) d) e ∙ ap (λ (k : ℕ). first_chunks 288 (k / 288) (drop 32 b)) m

-- where record i begins, and how much lies between its begin and its end, as the code has them
abbrev pub begins : ℕ → ℕ
begins i = 32 + 288 * i

abbrev pub spans : ℕ → ℕ
spans i = begins i + 288 - begins i

span : (i : ℕ) → spans i ≡ 288
span i = omega arith

pub record_of : (b : List ℕ) (i : ℕ) → i < 6 → take (spans i) (drop (begins i) b) ≡ get_or (records_of b) i []
record_of b i h =
    ap (λ (k : ℕ). take k (drop (begins i) b)) (span i) ∙ ap (take 288) (sym (drop-drop (288 * i) 32 b)) ∙ sym (record_from 6 (drop 32 b) i h)

-- records one behind the other again
pub chained_back : (k : ℕ) (d : List ℕ) → length d ≡ 288 * k → chained (records_from k d) ≡ d
unfolding chained
chained_back zero [] h = refl
chained_back zero (x ∷ d) h = absurd (omega arith)
chained_back (suc k) d h =
    let n : length (drop 288 d) ≡ 288 * k = rw (length-drop 288 d) (omega arith) in
    ap (λ (r : List ℕ). take 288 d ++ r) (chained_back k (drop 288 d) n) ∙ take-append-drop 288 d

-- one record in the place of another
chained_set : (k : ℕ) (d y : List ℕ) (i : ℕ) → i < k → length d ≡ 288 * k
    → take (288 * i) d ++ (y ++ drop 288 (drop (288 * i) d)) ≡ chained (set (records_from k d) i y)
unfolding chained
chained_set zero d y i h n = absurd (omega arith)
chained_set (suc k) d y zero h n =
    let m : length (drop 288 d) ≡ 288 * k = rw (length-drop 288 d) (omega arith) in
    ap (λ (r : List ℕ). y ++ r) (sym (chained_back k (drop 288 d) m))
chained_set (suc k) d y (suc i) h n =
    let e : 288 * suc i ≡ 288 + 288 * i = omega arith in
    let m : length (drop 288 d) ≡ 288 * k = rw (length-drop 288 d) (omega arith) in
    let x : List ℕ = take (288 * i) (drop 288 d) in
    let z : List ℕ = y ++ drop 288 (drop (288 * i) (drop 288 d)) in
    let g : take (288 * suc i) d ++ (y ++ drop 288 (drop (288 * suc i) d)) ≡ take 288 d ++ (x ++ z) =
    rw (e, take-add 288 (288 * i) d, ← drop-drop (288 * i) 288 d) (append_assoc (take 288 d) x z) in
    g ∙ ap (λ (r : List ℕ). take 288 d ++ r) (chained_set k (drop 288 d) y i (omega arith) m)

pub record_set : (b y : List ℕ) (i : ℕ) → i < 6 → length b ≡ 1760
    → take (begins i) b ++ (y ++ drop (spans i) (drop (begins i) b)) ≡ take 32 b ++ chained (set (records_of b) i y)
record_set b y i h n =
    let m : length (drop 32 b) ≡ 1728 = rw (length-drop 32 b) (omega arith) in
    let x : List ℕ = take (288 * i) (drop 32 b) in
    let z : List ℕ = y ++ drop 288 (drop (288 * i) (drop 32 b)) in
    let g : take (begins i) b ++ (y ++ drop (spans i) (drop (begins i) b)) ≡ take 32 b ++ (x ++ z) =
    rw (span i, take-add 32 (288 * i) b, ← drop-drop (288 * i) 32 b) (append_assoc (take 32 b) x z) in
    g ∙ ap (λ (r : List ℕ). take 32 b ++ r) (chained_set 6 (drop 32 b) y i h m)

-- one record more of the test
sound_append : (rs : List (List ℕ)) (r : List ℕ) → all_sound (rs ++ (r ∷ [])) ≡ (all_sound rs && level_sound r)
unfolding all_sound
sound_append [] r = and_true (level_sound r)
sound_append (x ∷ rs) r = rw (sound_append rs r) (and_two (level_sound x) (all_sound rs) (level_sound r))

pub sound_turn : (rs : List (List ℕ)) (i : ℕ) → i < length rs → all_sound (take (i + 1) rs) ≡ (all_sound (take i rs) && level_sound (get_or rs i []))
sound_turn rs i h = rw (add-one, take-suc rs i []) (sound_append (take i rs) (get_or rs i []))

-- the test of the records at its end: as many flags as records, and one of both is used up
pub sound_end : (t g : Bool) (rs : List (List ℕ)) (bs : List ℕ) → length rs ≡ length bs → (rs ≡ []) ⊎ (bs ≡ []) → t ≡ (g && all_sound rs) → g ≡ t
unfolding all_sound
sound_end t g [] bs n e h = sym (h ∙ and_true g)
sound_end t g (x ∷ rs) bs n (inl e) h = let k : suc (length rs) ≡ 0 = ap (λ (l : List (List ℕ)). length l) e in absurd (omega arith)
sound_end t g (x ∷ rs) bs n (inr e) h =
    let m : suc (length rs) ≡ length bs = n in
    let k : length bs ≡ 0 = ap (λ (l : List ℕ). length l) e in
    absurd (omega arith)

chained_append : (rs : List (List ℕ)) (r : List ℕ) → chained (rs ++ (r ∷ [])) ≡ chained rs ++ r
unfolding chained
chained_append [] r = append-nil r
chained_append (x ∷ rs) r = ap (λ (v : List ℕ). x ++ v) (chained_append rs r) ∙ sym (append_assoc x (chained rs) r)

-- A loop that writes lists one behind the other from a place on, each made of the one of its number by a rule.
module _ (f : ℕ → List ℕ → List ℕ) (xs : List (List ℕ)) where
  -- what is made in i turns
  abbrev pub made : ℕ → List ℕ
  made i = chained (take i (each_from f 1 xs))

  made_more : (i : ℕ) (y : List ℕ) → i < length xs → y ≡ f (1 + i) (get_or xs i []) → made (i + 1) ≡ made i ++ y
  made_more i y h e =
      let es : List (List ℕ) = each_from f 1 xs in
      let l : i < length es = rw (each_length f 1 xs) h in
      let m : take (i + 1) es ≡ take i es ++ (get_or es i [] ∷ []) = rw add-one (take-suc es i [] l) in
      ap chained m ∙ chained_append (take i es) (get_or es i []) ∙ ap (λ (v : List ℕ). made i ++ v) (each_at f 1 xs i [] [] h ∙ sym e)

  pub made_all : length xs ≡ 6 → made 6 ≡ chained (each_from f 1 xs)
  made_all n = ap chained (take_all 6 (each_from f 1 xs) (omega (arith, each_length f 1 xs)))

  module _ (start : List ℕ) (from w : ℕ) where
    -- what the bytes are after i turns, each list w long
    pub record Written (i : ℕ) (out : List ℕ) : Type 0 where
      pub long : length out ≡ length start
      pub wide : length (made i) ≡ w * i
      pub holds : out ≡ over start from (made i)

    pub write_start : Written 0 start
    unfolding chained
    write_start = record { long = refl; wide = sym (mul-zero w); holds = over_nil start from }

    pub write_turn : (out y after : List ℕ) (i at : ℕ) → i < length xs → Written i out → length y ≡ w → at ≡ from + w * i → at + w ≤ length start
        → y ≡ f (1 + i) (get_or xs i []) → after ≡ over out at y → Written (i + 1) after
    write_turn out y after i at h t l ea room e g =
        let m : made (i + 1) ≡ made i ++ y = made_more i y h e in
        let n : at ≡ from + length (made i) = rw t.wide ea in
        record {
          long = ap length g ∙ over_length out at y (omega (arith, t.long)) ∙ t.long;
          wide = ap length m ∙ length-append (made i) y ∙ rw (t.wide, l, add-one, mul-suc);
          holds = rw (g, t.holds, m) (over_over start from at (made i) y (omega arith) n);
        }

-- A loop over the records of a bay, each lent in its turn and come back as the rule makes it.
module _ (f : ℕ → List ℕ → List ℕ) (b0 : List ℕ) where
  abbrev rs : List (List ℕ)
  rs = records_of b0

  -- what the bytes are after i turns
  abbrev pub Turned : ℕ → List ℕ → Type 0
  Turned = Written f rs b0 32 288

  -- the strip stays
  strip_stays : (b : List ℕ) (i : ℕ) → length b0 ≡ 1760 → Turned i b → take 32 b ≡ take 32 b0
  unfolding over
  strip_stays b i n t =
      let v : List ℕ = made f rs i in
      let p : List ℕ = take 32 b0 in
      ap (take 32) (t.holds ∙ append_assoc p v (drop (32 + length v) b0)) ∙ take_at p (v ++ drop (32 + length v) b0) 32 (length-take-le 32 b0 (omega arith))

  pub flag_stays : (b : List ℕ) (i : ℕ) → length b0 ≡ 1760 → i < 6 → Turned i b → get_or b (i + 1) 0 ≡ get_or b0 (1 + i) 0
  flag_stays b i n h t =
      let e : i + 1 ≡ 1 + i = omega arith in
      ap (λ (k : ℕ). get_or b k 0) e ∙ sym (get_or-take 32 b (1 + i) 0 (omega arith)) ∙ ap (λ (l : List ℕ). get_or l (1 + i) 0) (strip_stays b i n t)
      ∙ get_or-take 32 b0 (1 + i) 0 (omega arith)

  -- a record that is not reached yet is as it was
  pub record_stays : (b : List ℕ) (i : ℕ) → length b0 ≡ 1760 → i < 6 → Turned i b → take (spans i) (drop (begins i) b) ≡ get_or rs i []
  unfolding over
  record_stays b i n h t =
      let v : List ℕ = made f rs i in
      let p : List ℕ = take 32 b0 ++ v in
      let l : length p ≡ begins i = simp (length-append, length-take-le 32 b0 (omega arith), t.wide) in
      let a : 32 + length v ≡ begins i = rw t.wide in
      let g : drop (begins i) b ≡ drop (begins i) b0 =
      ap (drop (begins i)) t.holds ∙ drop_at p (drop (32 + length v) b0) (begins i) l ∙ ap (λ (m : ℕ). drop m b0) a in
      ap (take (spans i)) g ∙ record_of b0 i h

  pub bay_turn : (b y : List ℕ) (i : ℕ) → length b0 ≡ 1760 → i < 6 → Turned i b → length y ≡ spans i → y ≡ f (1 + i) (get_or rs i [])
      → Turned (i + 1) (take (begins i) b ++ (y ++ drop (spans i) (drop (begins i) b)))
  unfolding over
  bay_turn b y i n h t l e =
      let low : i < length rs = rw (records_long 6 (drop 32 b0)) h in
      let after : List ℕ = take (begins i) b ++ (y ++ drop (spans i) (drop (begins i) b)) in
      let w : after ≡ over b (begins i) y = rw (drop-drop (spans i) (begins i) b, ← l) (sym (append_assoc (take (begins i) b) y (drop (begins i + length y) b))) in
      write_turn f rs b0 32 288 b y after i (begins i) low t (l ∙ span i) refl (omega arith) e w

  -- the loop's end
  pub bay_done : (b : List ℕ) → length b0 ≡ 1760 → Turned 6 b → b ≡ each_record f b0
  unfolding over
  bay_done b n t =
      let q : List ℕ = take 32 b0 ++ made f rs 6 in
      let z : drop (32 + length (made f rs 6)) b0 ≡ [] = drop_of_length-le b0 {i = 32 + length (made f rs 6)} (omega (arith, t.wide)) in
      t.holds ∙ ap (λ (v : List ℕ). q ++ v) z ∙ append-nil q ∙ ap (λ (v : List ℕ). take 32 b0 ++ v) (made_all f rs (records_long 6 (drop 32 b0)))

  -- and of a loop that writes five figures of each record over zeros
  pub five_done : (zeros out : List ℕ) → length zeros ≡ 30 → Written f rs zeros 0 5 6 out → out ≡ chained (each_from f 1 rs)
  five_done zeros out n t = t.holds ∙ over_all zeros (made f rs 6) (t.wide ∙ sym n) ∙ made_all f rs (records_long 6 (drop 32 b0))
