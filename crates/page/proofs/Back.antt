-- The supervisor after a history with the latest first, and how a mechanism is carried over one. Assumes nothing.
use mathlib.Core.Path.{◌≡◌, refl, ap, ap₂, ◌∙◌, subst, subst⁻¹, sym}
use mathlib.Core.List.{List, [], ◌∷◌, ◌++◌, reverse, reverse-cons, reverse-reverse}
use Prim.Native.Nat.{ℕ, zero, suc, ◌<◌}
use native.Mathlib.Nat.{not-suc-le-zero}
use Rattle.settings.specs.declared.Settings.{Settings}
use Rattle.supervisor.specs.Supervisor.{fresh_of, frame_of, next_second}
use Rattle.supervisor.specs.declared.Supervisor.{Supervisor}
use Rattle.history.specs.History.{Frame, Event, frame, mark, framed, event_of, after, refusal_of, Accepted, reached}
use Rattle.history.proofs.History.{after_append, accepted_append}
use Rattle.page.specs.Page.{each, frames_back}

-- the supervisor after the history k
abbrev pub sup : Settings → List Event → Supervisor
sup p [] = fresh_of p
sup p (e ∷ k) = event_of (sup p k) e

pub after_back : (p : Settings) (k : List Event) → after (fresh_of p) (reverse k) ≡ sup p k
unfolding after
after_back p [] = refl
after_back p (e ∷ k) =
    ap (λ h. after (fresh_of p) h) (reverse-cons e k) ∙ after_append (fresh_of p) (reverse k) (e ∷ []) ∙ ap (λ (s : Supervisor). event_of s e) (after_back p k)

pub reached_is : (p : Settings) (h : List Event) → reached p h ≡ sup p (reverse h)
reached_is p h = sym (ap (λ g. after (fresh_of p) g) (reverse-reverse h)) ∙ after_back p (reverse h)

-- each event is accepted where it stands
abbrev pub AcceptedBack : Settings → List Event → Type 0
AcceptedBack p k = Accepted (fresh_of p) (reverse k)

accepted_join : (s : Supervisor) (a b : List Event) → Accepted s a → Accepted (after s a) b → Accepted s (a ++ b)
unfolding after
accepted_join s [] b x y = y
accepted_join s (e ∷ a) b x y = (x.0, accepted_join (event_of s e) a b x.1 y)

module _ (p : Settings) (e : Event) (k : List Event) where
  parted : AcceptedBack p (e ∷ k) → Accepted (fresh_of p) (reverse k) × Accepted (after (fresh_of p) (reverse k)) (e ∷ [])
  parted a = accepted_append (fresh_of p) (reverse k) (e ∷ []) (subst (λ h. Accepted (fresh_of p) h) (reverse-cons e k) a)

  pub accepted_before : AcceptedBack p (e ∷ k) → AcceptedBack p k
  accepted_before a = (parted a).0

  pub accepted_last : AcceptedBack p (e ∷ k) → refusal_of (sup p k) e ≡ 0
  accepted_last a = subst (λ (s : Supervisor). refusal_of s e ≡ 0) (after_back p k) (parted a).1.0

  pub accepted_more : AcceptedBack p k → refusal_of (sup p k) e ≡ 0 → AcceptedBack p (e ∷ k)
  accepted_more a r =
      subst⁻¹ (λ h. Accepted (fresh_of p) h) (reverse-cons e k)
      (accepted_join (fresh_of p) (reverse k) (e ∷ []) a (subst⁻¹ (λ (s : Supervisor). refusal_of s e ≡ 0) (after_back p k) r, tt))

pub settings_kept : (p : Settings) (k : List Event) → (sup p k).settings ≡ p
unfolding event_of frame_of next_second
settings_kept p [] = refl
settings_kept p (frame f ∷ k) = settings_kept p k
settings_kept p (mark ∷ k) = settings_kept p k

-- a function of three at equals
pub ap₃ : {A B C D : Type 0} (g : A → B → C → D) {x x' : A} {y y' : B} {z z' : C} → x ≡ x' → y ≡ y' → z ≡ z' → g x y z ≡ g x' y' z'
ap₃ {C} {D} g a b c = ap₂ (λ (h : C → D) (z : C). h z) (ap₂ g a b) c

-- a number above 0
pub record Suc (n : ℕ) : Type 0 where
  pub one_less : ℕ
  pub is : n ≡ suc one_less

pub suc_of : (n : ℕ) → 0 < n → Suc n
suc_of zero h = absurd (not-suc-le-zero h)
suc_of (suc n) h = record { one_less = n; is = refl }

-- what a mechanism that takes something of each frame, and nothing of a mark, has come to
module _ (p : Settings) {X G : Type 0} (run : List G → X) (get : Supervisor → X) (given : Frame → List Frame → G)
    (take : (k : List Event) (f : Frame) (gs : List G) → get (sup p k) ≡ run gs → get (framed (sup p k) f) ≡ run (given f (frames_back k) ∷ gs))
    (keep : (s : Supervisor) → get (next_second s) ≡ get s) (start : get (fresh_of p) ≡ run []) where
  pub carried : (k : List Event) → get (sup p k) ≡ run (each given (frames_back k))
  unfolding event_of each frames_back
  carried [] = start
  carried (frame f ∷ k) = take k f (each given (frames_back k)) (carried k)
  carried (mark ∷ k) = keep (sup p k) ∙ carried k
