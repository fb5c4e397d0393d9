-- A record taken is a call: where it is accepted so was the call, and the state after it is the call's; and no call's refusal is 14. Assumes nothing.
use Prim.Native.Nat.{ℕ, ◌≤◌}
use mathlib.Core.Path.{◌≡◌, refl, ◌∙◌, ap, sym}
use mathlib.Core.Bool.{Bool, true, false}
use mathlib.Core.List.{List}
use native.Mathlib.Omega.{arith}
use lib.Dec.{eqb}
use lib.ListN.{get_or, take, drop}
use borrow.Author.Tests.{eqb-true, eqb-false}
use Rattle.answer.proofs.Checks.{first_low}
use Rattle.answer.proofs.Cond.{cond_under, by_cond}
use Rattle.history.specs.History.{Frame as Sent}
use Rattle.settings.specs.Settings.{settings_checks, settings_refusal}
use Rattle.supervisor.specs.Supervisor.{provision_of}
use Rattle.settings.specs.declared.Request.{Request}
use Rattle.causes.specs.declared.Standing.{Standing}
use Rattle.supervisor.specs.Supervisor.{Provisioned}
use Rattle.tandem.specs.Tandem as tandem
use Rattle.tandem.specs.Tandem.{TandemStepped}
use Rattle.watch.specs.Watch.{LevelCall, records, frames, marks, refusal_at, framed_at, tandem_by, refusal_of}
use Rattle.watch.proofs.Alone.{standing_accepted}
use Rattle.record.specs.Record.{section_in, path_in, level_in}
use Rattle.late.specs.Late.{late_marked}
use Rattle.reports.specs.Reports.{late_by}
use Rattle.trace.specs.Scan.{beside, answered_of, give_in, alike, stepped_of, framed_of, marked_of, provisioned_of, given_of}
use Rattle.trace.specs.declared.State.{State}
use Rattle.trace.specs.Scan.{Taken}
use Rattle.stream.specs.Figures.{sent_in, after_call}
use Rattle.stream.proofs.Calls.{zero_or, frame_says, given_says, frame_uncut, mark_uncut, record_uncut}
use Rattle.stream.proofs.Lates.{late_refusal}

-- the refusal of a provisioning is that of its tests, and none is 14
pub provision_says : (k : ℕ) (section path : Request) (snames pnames : List ℕ) → (provision_of k section path snames pnames).refusal ≡ settings_refusal k section path snames pnames
unfolding provision_of
provision_says k section path snames pnames =
    cond_under (λ (z : Provisioned). z.refusal) (eqb (settings_refusal k section path snames pnames) 0) _ _ ∙ zero_or (settings_refusal k section path snames pnames) (eqb (settings_refusal k section path snames pnames) 0) refl

provision_low : (k : ℕ) (section path : Request) (snames pnames : List ℕ) → (provision_of k section path snames pnames).refusal ≤ 10
unfolding settings_refusal
provision_low k section path snames pnames = rw (provision_says k section path snames pnames) (first_low 10 (settings_checks k section path snames pnames) refl)

-- a record that a call answers: cut where the call says so, and accepted where it is
abbrev pub Uncut : Taken → Type 0
Uncut t = t.refusal ≡ 14 → ⊥

answered_uncut : (st : State) (refusal : ℕ) (told : Bool) (next : State) → (refusal ≡ 14 → ⊥) → Uncut (answered_of st refusal told next)
unfolding answered_of
answered_uncut st refusal told next h = by_cond Uncut (eqb refusal 0) (λ _ e. omega (arith, e)) (λ _. h)

abbrev pub taken_to : Bool → State → Taken
taken_to told next = record { refusal = 0; told = told; state = next }

pub answered_taken : (st : State) (refusal : ℕ) (told : Bool) (next : State) → (answered_of st refusal told next).refusal ≡ 0
    → (refusal ≡ 0) × (answered_of st refusal told next ≡ taken_to told next)
unfolding answered_of
answered_taken st refusal told next =
    by_cond (λ (t : Taken). t.refusal ≡ 0 → (refusal ≡ 0) × (t ≡ taken_to told next)) (eqb refusal 0)
    (λ b _. (eqb-true refusal 0 b, refl))
    (λ b e. absurd (eqb-false refusal 0 b e))

-- no call refuses a record as cut
pub framed_uncut : (st : State) (kind : ℕ) (body counts : List ℕ) → Uncut (framed_of st kind body counts)
unfolding framed_of stepped_of
framed_uncut st kind body counts =
    by_cond Uncut st.begun
    (λ _. by_cond Uncut (alike st kind) (λ _. answered_uncut st _ false _ (frame_uncut st.sup.tandem (sent_in body) counts)) (λ _ e. omega (arith, e)))
    (λ _ e. omega (arith, e))

pub marked_uncut : (st : State) → Uncut (marked_of st)
unfolding marked_of
marked_uncut st = by_cond Uncut st.begun (λ _. answered_uncut st _ _ _ (λ e. mark_uncut st.sup.tandem (sym (late_refusal st.sup) ∙ e))) (λ _ e. omega (arith, e))

pub given_uncut : (st : State) (body : List ℕ) → Uncut (given_of st body)
unfolding given_of
given_uncut st body =
    by_cond Uncut st.begun (λ _. answered_uncut st _ false _ (record_uncut st.sup.tandem (get_or body 0 0) (level_in body) (take 32 (drop 8 body)))) (λ _ e. omega (arith, e))

pub provisioned_uncut : (st : State) (body : List ℕ) → Uncut (provisioned_of st body)
unfolding provisioned_of
provisioned_uncut st body =
    by_cond Uncut st.begun (λ _ e. omega (arith, e))
    (λ _. answered_uncut st _ false _ (λ e. omega (arith, e, provision_low (get_or body 0 0) (section_in body) (path_in body) (take 32 (drop 15 body)) (take 32 (drop 47 body)))))

-- What an accepted record is: the call that it is was accepted, and the state after it is the call's. A frame's kind is that of the frames before it.
pub frame_taken : (st : State) (kind : ℕ) (body counts : List ℕ) → (framed_of st kind body counts).refusal ≡ 0
    → (alike st kind ≡ true) × (refusal_at st.sup.tandem (sent_in body) counts ≡ 0)
    × (framed_of st kind body counts ≡ taken_to false (after_call kind st (frames (sent_in body) counts)))
unfolding framed_of stepped_of late_by tandem_by
frame_taken st kind body counts =
    by_cond (λ (t : Taken). t.refusal ≡ 0 → (alike st kind ≡ true) × (refusal_at st.sup.tandem f counts ≡ 0) × (t ≡ taken_to false (after_call kind st (frames f counts)))) st.begun
    (λ _. by_cond (λ (t : Taken). t.refusal ≡ 0 → (alike st kind ≡ true) × (refusal_at st.sup.tandem f counts ≡ 0) × (t ≡ taken_to false (after_call kind st (frames f counts)))) (alike st kind)
    (λ same e.
    let z = answered_taken st a.refusal false (next a.report.standing) e in
    let taken = sym (frame_says st.sup.tandem f counts) ∙ z.0 in
    let stands = standing_accepted st.sup.tandem f counts taken in
    (same, taken, z.1 ∙ ap (λ (d : Standing). taken_to false (next d)) stands))
    (λ _ e. absurd (omega (arith, e))))
    (λ _ e. absurd (omega (arith, e)))
  where
    f : Sent
    f = sent_in body

    a : TandemStepped
    a = framed_at st.sup.tandem f counts

    next : Standing → State
    next d = record { begun = true; kind = kind; sup = beside st.sup a.tandem; last = st.last; standing = d; levels = a.stands }

pub mark_taken : (st : State) → (marked_of st).refusal ≡ 0
    → ((tandem.marked_of st.sup.tandem).refusal ≡ 0) × (marked_of st ≡ taken_to (late_marked st.sup).told (after_call 0 st marks))
unfolding marked_of late_by
mark_taken st =
    by_cond (λ (t : Taken). t.refusal ≡ 0 → ((tandem.marked_of st.sup.tandem).refusal ≡ 0) × (t ≡ taken_to (late_marked st.sup).told (after_call 0 st marks))) st.begun
    (λ _ e. let z = answered_taken st (late_marked st.sup).refusal (late_marked st.sup).told _ e in (sym (late_refusal st.sup) ∙ z.0, z.1))
    (λ _ e. absurd (omega (arith, e)))

abbrev pub gives_in : List ℕ → LevelCall
gives_in body = records (get_or body 0 0) (level_in body) (take 32 (drop 8 body))

pub level_taken : (st : State) (body : List ℕ) → (given_of st body).refusal ≡ 0
    → (refusal_of st.sup.tandem (gives_in body) ≡ 0) × (given_of st body ≡ taken_to false (after_call 0 st (gives_in body)))
unfolding given_of late_by tandem_by
level_taken st body =
    by_cond (λ (t : Taken). t.refusal ≡ 0 → (refusal_of st.sup.tandem (gives_in body) ≡ 0) × (t ≡ taken_to false (after_call 0 st (gives_in body)))) st.begun
    (λ _ e.
    let z = answered_taken st (give_in st body).refusal false _ e in
    (sym (given_says (refusal_of st.sup.tandem (gives_in body)) st.sup.tandem _ _ _) ∙ z.0, z.1))
    (λ _ e. absurd (omega (arith, e)))
