-- Flags side by side: one more in front of those packed so far, and their bound. Assumes nothing.
use Rattle.std.proofs.Common.{◌≡◌, ap, ◌∙◌, Bool, true, false, List, ◌∷◌, ℕ, suc, ◌+◌, ◌-◌, ◌*◌, ◌^◌, ◌<◌, ◌≤◌, length, get_or, drop, arith}
use Rattle.std.proofs.Math.Nat.{pow-le-pow_right, pow-suc}
use Rattle.std.proofs.Math.Seq.{drop-cons}
use Rattle.std.proofs.lemmas.List.{length-drop}
use Rattle.answer.specs.Bits.{flag}
use Rattle.word.specs.Report.{packed, ones}

pub flag_below : (b : Bool) → flag b < 2
flag_below true = omega arith
flag_below false = omega arith

-- the flags from a place on, and their number
pub record Packed (bs : List Bool) (i word : ℕ) : Type 0 where
  pub fields : word ≡ packed (ones (drop i bs))
  pub below : word < 2 ^ length (drop i bs)

-- sixteen flags at most are less than 2 to the 16th
pub room : (bs : List Bool) (i word : ℕ) → length bs ≤ 16 → Packed bs i word → word < 65536
room bs i word h w =
    let n = length-drop i bs in
    let e : 2 ^ length (drop i bs) ≤ 2 ^ 16 = pow-le-pow_right (omega arith) {j = 16} (omega (arith, n)) in
    omega (arith, w.below)

-- one flag more
pub one_more : (bs : List Bool) (i word bit : ℕ) → 0 < i → i ≤ length bs → bit ≡ flag (get_or bs (i - 1) false) → Packed bs i word
    → Packed bs (i - 1) (2 * word + bit)
one_more bs i word bit p h e w =
    let s : suc (i - 1) ≡ i = omega arith in
    let d : drop (i - 1) bs ≡ get_or bs (i - 1) false ∷ drop i bs = drop-cons bs (i - 1) false (omega arith) ∙ ap (λ (k : ℕ). get_or bs (i - 1) false ∷ drop k bs) s in
    let b = flag_below (get_or bs (i - 1) false) in
    let l = w.below in
    let f : 2 * word + bit ≡ flag (get_or bs (i - 1) false) + 2 * packed (ones (drop i bs)) = omega (arith, e, w.fields) in
    let g = pow-suc 2 (length (drop i bs)) in
    record { fields = rw d f; below = rw d (rw g (omega (arith, b, e, l))) }
