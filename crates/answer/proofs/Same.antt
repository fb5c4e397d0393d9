-- Two answers that say the same number are the same, and leave the same behind. Assumes nothing.
use Rattle.std.proofs.Common.{◌≡◌, ℕ, ◌<◌, cond, false, refl, sym, ap, ◌∙◌, arith, Result, Ok, Err, IfOk, OnOk, OnErr}
use Rattle.std.specs.Prelude.{eqb}
use Rattle.answer.specs.declared.Refusal.{Refusal}
use Rattle.answer.specs.Refusal.{number_of, said}
use Rattle.answer.proofs.Numbers.{number_one, number_above}

-- no refusal says what an accepted call says
never : (e : Refusal) (n : ℕ) → 0 ≡ n → number_of e ≡ n → ⊥
never e n p q = let h : 0 < number_of e = number_above e in omega (arith, h)

pub same_answer : {A : Type 0} (x y : Result A Refusal) (n : ℕ) (v : A) → said x ≡ n → said y ≡ n
    → IfOk x (λ r. r ≡ v) → IfOk y (λ r. r ≡ v) → x ≡ y
same_answer (Ok a) (Ok b) n v p q f g = ap Ok (f ∙ sym g)
same_answer (Ok a) (Err e) n v p q f g = absurd (never e n p q)
same_answer (Err d) (Ok b) n v p q f g = absurd (never d n q p)
same_answer (Err d) (Err e) n v p q f g = ap Err (number_one d e (p ∙ sym q))

pub same_end : {A S : Type 0} (x y : Result A Refusal) (n : ℕ) (s t u v : S) → said x ≡ n → said y ≡ n
    → OnOk x (s ≡ u) → OnErr x (s ≡ v) → OnOk y (t ≡ u) → OnErr y (t ≡ v) → s ≡ t
same_end (Ok a) (Ok b) n s t u v p q f g h k = f ∙ sym h
same_end (Ok a) (Err e) n s t u v p q f g h k = absurd (never e n p q)
same_end (Err d) (Ok b) n s t u v p q f g h k = absurd (never d n q p)
same_end (Err d) (Err e) n s t u v p q f g h k = g ∙ sym k

-- a refusal's number is not 0
pub cond_number : {B : Type 0} (e : Refusal) (y z : B) → cond (eqb (number_of e) 0) y z ≡ z
cond_number e y z =
    let h : 0 < number_of e = number_above e in
    let g : eqb (number_of e) 0 ≡ false = grind (arith, h) in
    rw g

-- of a call that answers nothing but whether it is accepted
pub same_unit : (x y : Result (Unit {0}) Refusal) (n : ℕ) → said x ≡ n → said y ≡ n → x ≡ y
same_unit (Ok a) (Ok b) n p q = refl
same_unit (Ok a) (Err e) n p q = absurd (never e n p q)
same_unit (Err d) (Ok b) n p q = absurd (never d n q p)
same_unit (Err d) (Err e) n p q = ap Err (number_one d e (p ∙ sym q))
