-- What holds of every history. Assumes nothing.
use Prim.Native.Nat.{ℕ, ◌<◌}
use mathlib.Core.Path.{◌≡◌, refl, ap, ◌∙◌}
use mathlib.Core.Bool.{Bool, true, false, cond}
use mathlib.Core.List.{List, [], ◌∷◌, ◌++◌}
use native.Mathlib.Omega.{arith}
use lib.Dec.{eqb, ltb}
use borrow.Author.Tests.{ltb-true, eq-eqb, ne_eqb, eqb-true}
use Rattle.answer.proofs.Cond.{by_cond, cond_under}
use Rattle.supervisor.specs.Supervisor.{Stepped, Marked, fresh_of, step_refusal, step_of, next_second, mark_of}
use Rattle.history.specs.History.{Event, frame, mark, framed, event_of, after, refusal_of, Accepted, Call, does, reads, answer_of, handed_back, handed, accepted, Follows}
use Rattle.history.specs.Ranges.{Ranged, Bytes, AlwaysRanged}
use Rattle.supervisor.specs.declared.Supervisor.{Supervisor}
use Rattle.history.proofs.Ranges.{step_ranged, mark_ranged, fresh_ranged}

pub after_append : (s : Supervisor) (a b : List Event) → after s (a ++ b) ≡ after (after s a) b
unfolding after
after_append s [] b = refl
after_append s (e ∷ a) b = after_append (event_of s e) a b

pub accepted_append : (s : Supervisor) (a b : List Event) → Accepted s (a ++ b) → Accepted s a × Accepted (after s a) b
unfolding after
accepted_append s [] b h = (tt, h)
accepted_append s (e ∷ a) b h = let r = accepted_append (event_of s e) a b h.1 in ((h.0, r.0), r.1)

handed_append : (s : Supervisor) (a b : List Call) → handed s (a ++ b) ≡ handed (handed s a) b
unfolding handed
handed_append s [] b = refl
handed_append s (c ∷ a) b = handed_append (handed_back s c) a b

-- what a call hands back: the event's supervisor where it is accepted, and the same one where it is not
back : (s : Supervisor) (e : Event) → handed_back s (does e) ≡ cond (eqb (refusal_of s e) 0) (event_of s e) s
unfolding handed_back refusal_of event_of step_of mark_of
back s (frame f) = cond_under (λ (z : Stepped). z.supervisor) (eqb (step_refusal s f.overhead f.flags f.sm f.pm) 0) _ _
back s mark = cond_under (λ (z : Marked). z.supervisor) (ltb s.seconds 4294967295) _ _ ∙ again (ltb s.seconds 4294967295)
  where
    again : (t : Bool) → cond t (next_second s) s ≡ cond (eqb (cond t 0 4) 0) (next_second s) s
    again true = refl
    again false = refl

pub back_taken : (s : Supervisor) (e : Event) → refusal_of s e ≡ 0 → handed_back s (does e) ≡ event_of s e
back_taken s e h = back s e ∙ rw (eq-eqb (refusal_of s e) 0 h)

pub back_refused : (s : Supervisor) (e : Event) → (refusal_of s e ≡ 0 → ⊥) → handed_back s (does e) ≡ s
back_refused s e h = back s e ∙ rw (ne_eqb (refusal_of s e) 0 h)

-- one call more, by whether it is accepted
module _ (s : Supervisor) (e : Event) (cs : List Call) where
  one : (t : Bool) → handed (event_of s e) cs ≡ after (event_of s e) (accepted (event_of s e) cs) → handed s cs ≡ after s (accepted s cs)
      → handed (cond t (event_of s e) s) cs ≡ after s (cond t (e ∷ accepted (event_of s e) cs) (accepted s cs))
  unfolding after
  one true a b = a
  one false a b = b

  all_one : (t : Bool) → eqb (refusal_of s e) 0 ≡ t → Accepted (event_of s e) (accepted (event_of s e) cs) → Accepted s (accepted s cs)
      → Accepted s (cond t (e ∷ accepted (event_of s e) cs) (accepted s cs))
  all_one true h a b = (eqb-true _ _ h, a)
  all_one false h a b = b

-- the calls hand back the supervisor after the accepted events
pub handed_is : (s : Supervisor) (cs : List Call) → handed s cs ≡ after s (accepted s cs)
unfolding handed accepted after handed_back
handed_is s [] = refl
handed_is s (does e ∷ cs) =
    ap (λ (z : Supervisor). handed z cs) (back s e)
    ∙ one s e cs (eqb (refusal_of s e) 0) (handed_is (event_of s e) cs) (handed_is s cs)
handed_is s (reads layer ∷ cs) = handed_is s cs

-- and each of those is accepted where it stands
pub accepted_all : (s : Supervisor) (cs : List Call) → Accepted s (accepted s cs)
unfolding accepted
accepted_all s [] = tt
accepted_all s (does e ∷ cs) = all_one s e cs (eqb (refusal_of s e) 0) refl (accepted_all (event_of s e) cs) (accepted_all s cs)
accepted_all s (reads layer ∷ cs) = accepted_all s cs

-- Demand 2 over histories
pub follows : (s : Supervisor) (before : List Call) → Follows s before
unfolding handed handed_back
follows s before = record {
  state = handed_is s before;
  all = accepted_all s before;
  answers = λ c. ap (λ (z : Supervisor). answer_of z c) (handed_is s before);
  takes = λ e h. handed_append s before (does e ∷ []) ∙ back_taken (handed s before) e h;
  refused = λ e h. handed_append s before (does e ∷ []) ∙ back_refused (handed s before) e h;
  only = λ layer. handed_append s before (reads layer ∷ []);
}

pub seconds_left : (s : Supervisor) → refusal_of s mark ≡ 0 → s.seconds < 4294967295
unfolding refusal_of
seconds_left s = by_cond (λ (n : ℕ). n ≡ 0 → s.seconds < 4294967295) (ltb s.seconds 4294967295) (λ e _. ltb-true _ _ e) (λ _ z. absurd (omega arith))

-- every number stays in its range: no history meets refusal 17
pub after_ranged : (s : Supervisor) (h : List Event) → Accepted s h → Bytes h → Ranged s → Ranged (after s h)
unfolding after event_of
after_ranged s [] a b i = i
after_ranged s (frame f ∷ h) a b i = after_ranged (framed s f) h a.1 b.1 (step_ranged s f.overhead f.flags f.sm f.pm b.0 i)
after_ranged s (mark ∷ h) a b i = after_ranged (next_second s) h a.1 b (mark_ranged s (seconds_left s a.0) i)

pub always_ranged : AlwaysRanged
always_ranged p i h a b = after_ranged (fresh_of p) h a b (fresh_ranged p i)
