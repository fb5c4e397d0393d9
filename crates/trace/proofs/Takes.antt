-- What the acceptance of a record says: it stands in its place, the call accepts, and the state after it is the call's. Assumes nothing.
use Prim.Native.Nat.{ℕ}
use mathlib.Core.Path.{◌≡◌, refl, sym}
use mathlib.Core.Bool.{Bool, true, false}
use mathlib.Core.List.{List}
use native.Mathlib.Omega.{arith}
use lib.Dec.{eqb}
use borrow.Author.Tests.{eqb-true, eqb-false}
use Rattle.answer.proofs.Cond.{by_cond}
use Rattle.tandem.specs.Tandem as tandem
use Rattle.late.specs.Late.{LateMarked, fresh_late, late_marked, next_report}
use Rattle.late.specs.declared.Late.{Late}
use Rattle.trace.specs.declared.State.{State}
use Rattle.trace.specs.Scan.{Taken, answered_of, step_in, provision_in, give_in, alike, beside, after_frame, after_mark, after_giving, stepped_of, framed_of, marked_of, provisioned_of, given_of}

-- a record accepted, with the state after it
abbrev pub accepted_of : Bool → State → Taken
accepted_of told next = record { refusal = 0; told = told; state = next }

-- the refusal is the call's, and without one the record is accepted
module _ (st next : State) (n : ℕ) (told : Bool) where
  pub answered_says : (answered_of st n told next).refusal ≡ n
  unfolding answered_of
  answered_says = by_cond (λ (t : Taken). t.refusal ≡ n) (eqb n 0) (λ e. omega (arith, eqb-true n 0 e)) (λ _. refl)

  pub answered_good : (answered_of st n told next).refusal ≡ 0 → (n ≡ 0) × (answered_of st n told next ≡ accepted_of told next)
  unfolding answered_of
  answered_good =
      by_cond (λ (t : Taken). t.refusal ≡ 0 → (n ≡ 0) × (t ≡ accepted_of told next)) (eqb n 0) (λ e _. (eqb-true n 0 e, refl)) (λ e z. absurd (eqb-false n 0 e z))

-- an accepted mark's figures are those of the next report
pub late_report : (s : Late) → 0 ≡ (late_marked s).refusal → (late_marked s).figures ≡ next_report s
unfolding late_marked
late_report s =
    by_cond (λ (a : LateMarked). 0 ≡ a.refusal → a.figures ≡ next_report s) (eqb (tandem.marked_of s.tandem).refusal 0) (λ _ _. refl) (λ b e. absurd (eqb-false _ _ b (sym e)))

-- an accepted frame, mark, provisioning and level's provisioning
pub record Framed (st : State) (kind : ℕ) (body counts : List ℕ) (t : Taken) : Type 0 where
  pub begun : st.begun ≡ true
  pub kinds : alike st kind ≡ true
  pub accepted : (step_in st body counts).refusal ≡ 0
  pub taken : t ≡ accepted_of false (after_frame st kind (step_in st body counts))

pub framed_good : (st : State) (kind : ℕ) (body counts : List ℕ) → (framed_of st kind body counts).refusal ≡ 0 → Framed st kind body counts (framed_of st kind body counts)
unfolding framed_of stepped_of
framed_good st kind body counts =
    by_cond Good st.begun
    (λ b.
    by_cond Good (alike st kind)
    (λ k e. let g = answered_good st (after_frame st kind (step_in st body counts)) (step_in st body counts).refusal false e in record { begun = b; kinds = k; accepted = g.0; taken = g.1 })
    (λ _ e. absurd (omega (arith, e))))
    (λ _ e. absurd (omega (arith, e)))
  where
    Good : Taken → Type 0
    Good t = t.refusal ≡ 0 → Framed st kind body counts t

pub record Marked (st : State) (t : Taken) : Type 0 where
  pub begun : st.begun ≡ true
  pub accepted : (late_marked st.sup).refusal ≡ 0
  pub taken : t ≡ accepted_of (late_marked st.sup).told (after_mark st (late_marked st.sup))

pub marked_good : (st : State) → (marked_of st).refusal ≡ 0 → Marked st (marked_of st)
unfolding marked_of
marked_good st =
    by_cond (λ (t : Taken). t.refusal ≡ 0 → Marked st t) st.begun
    (λ b e. let g = answered_good st (after_mark st (late_marked st.sup)) (late_marked st.sup).refusal (late_marked st.sup).told e in record { begun = b; accepted = g.0; taken = g.1 })
    (λ _ e. absurd (omega (arith, e)))

pub record Provisions (st : State) (body : List ℕ) (t : Taken) : Type 0 where
  pub begun : st.begun ≡ false
  pub accepted : (provision_in body).refusal ≡ 0
  pub taken : t ≡ accepted_of false (after_giving st (fresh_late (tandem.fresh_tandem (provision_in body).supervisor)))

pub provisioned_good : (st : State) (body : List ℕ) → (provisioned_of st body).refusal ≡ 0 → Provisions st body (provisioned_of st body)
unfolding provisioned_of
provisioned_good st body =
    by_cond (λ (t : Taken). t.refusal ≡ 0 → Provisions st body t) st.begun
    (λ _ e. absurd (omega (arith, e)))
    (λ b e. let g = answered_good st (after_giving st (fresh_late (tandem.fresh_tandem (provision_in body).supervisor))) (provision_in body).refusal false e in record { begun = b; accepted = g.0; taken = g.1 })

pub record Gives (st : State) (body : List ℕ) (t : Taken) : Type 0 where
  pub begun : st.begun ≡ true
  pub accepted : (give_in st body).refusal ≡ 0
  pub taken : t ≡ accepted_of false (after_giving st (beside st.sup (give_in st body).tandem))

pub given_good : (st : State) (body : List ℕ) → (given_of st body).refusal ≡ 0 → Gives st body (given_of st body)
unfolding given_of
given_good st body =
    by_cond (λ (t : Taken). t.refusal ≡ 0 → Gives st body t) st.begun
    (λ b e. let g = answered_good st (after_giving st (beside st.sup (give_in st body).tandem)) (give_in st body).refusal false e in record { begun = b; accepted = g.0; taken = g.1 })
    (λ _ e. absurd (omega (arith, e)))
