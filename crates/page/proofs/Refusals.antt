-- What is refused, and which histories are accepted, is the page's. Assumes nothing.
use mathlib.Core.Path.{◌≡◌, ap, ◌∙◌, sym, subst, subst⁻¹}
use mathlib.Core.Bool.{◌&&◌}
use mathlib.Core.List.{List, [], ◌∷◌, ◌++◌}
use Prim.Native.Nat.{ℕ, ◌<◌}
use borrow.Author.Tests.{lt-ltb}
use lib.Dec.{leb, ltb, eqb}
use lib.ListN.{length}
use Rattle.answer.specs.Checks.{Check, check, first_of}
use Rattle.second.specs.Second.{closed_of}
use Rattle.settings.specs.Ranges.{SettingsIn}
use Rattle.settings.specs.declared.Settings.{Settings}
use Rattle.supervisor.specs.Supervisor.{step_refusal}
use Rattle.supervisor.specs.declared.Supervisor.{Supervisor}
use Rattle.history.specs.History.{Frame, Event, frame, mark, refusal_of}
use Rattle.history.proofs.History.{seconds_left}
use Rattle.page.specs.Page.{frame_refusal, Taken}
use Rattle.page.proofs.Back.{sup, AcceptedBack, accepted_before, accepted_last, accepted_more}
use Rattle.page.proofs.Seconds.{seconds_are, frames_is}

mark_taken : (s : Supervisor) → s.seconds < 4294967295 → refusal_of s mark ≡ 0
unfolding refusal_of
mark_taken s h = rw (lt-ltb s.seconds 4294967295 h)

module _ (p : Settings) (v : SettingsIn p) where
  pub refusal_is : (k : List Event) → AcceptedBack p k → (f : Frame) → refusal_of (sup p k) (frame f) ≡ frame_refusal f k
  unfolding refusal_of step_refusal closed_of
  refusal_is k a f =
      let three : List Check = check 1 (eqb (length f.overhead) 64) ∷ check 2 (leb f.flags 3) ∷ check 3 (leb f.sm 8 && leb f.pm 8) ∷ [] in
      ap (λ (n : ℕ). first_of (three ++ (check 4 (ltb n 400000) ∷ []))) (frames_is p v k a)

  pub accepted_taken : (k : List Event) → AcceptedBack p k → Taken k
  accepted_taken [] a = tt
  accepted_taken (frame f ∷ k) a =
      let b : AcceptedBack p k = accepted_before p (frame f) k a in
      (sym (refusal_is k b f) ∙ accepted_last p (frame f) k a, accepted_taken k b)
  accepted_taken (mark ∷ k) a =
      (subst (λ (n : ℕ). n < 4294967295) (seconds_are p k) (seconds_left (sup p k) (accepted_last p mark k a)), accepted_taken k (accepted_before p mark k a))

  pub taken_accepted : (k : List Event) → Taken k → AcceptedBack p k
  taken_accepted [] t = tt
  taken_accepted (frame f ∷ k) t =
      let b : AcceptedBack p k = taken_accepted k t.1 in
      accepted_more p (frame f) k b (refusal_is k b f ∙ t.0)
  taken_accepted (mark ∷ k) t =
      accepted_more p mark k (taken_accepted k t.1) (mark_taken (sup p k) (subst⁻¹ (λ (n : ℕ). n < 4294967295) (seconds_are p k) t.0))
