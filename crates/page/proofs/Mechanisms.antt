-- What the mechanisms that section and path share have come to after a history: a filter, and an accepted trace. Assumes nothing.
use mathlib.Core.Path.{◌≡◌, refl, ap, sym, ◌∙◌}
use mathlib.Core.Bool.{Bool, true, false, cond, ◌||◌}
use mathlib.Core.List.{List, [], ◌∷◌}
use Prim.Native.Nat.{ℕ, suc, ◌+◌, ◌%◌}
use lib.Dec.{eqb}
use lib.ListN.{length}
use Rattle.filter.specs.declared.Filter.{Filter}
use Rattle.filter.specs.Filter.{quiet, filter_of}
use Rattle.filter.specs.Since.{Given, filter_after, bits_since, on_by}
use Rattle.filter.proofs.Since.{filter_on}
use Rattle.layer.specs.declared.Layer.{Layer}
use Rattle.layer.specs.Layer.{with_bdi, with_deg, equal_of, gathered_at, closed_cycle, byte_of, trace_of, tim_of, fresh_layer}
use Rattle.layer.specs.Traced.{Turn, Grows, Steady, turns_since, accepted_by, trace_after, tim_by, trace_in}
use Rattle.layer.proofs.Traced.{trace_is, tim_is}
use Rattle.settings.specs.declared.Settings.{Settings}
use Rattle.supervisor.specs.Supervisor.{fresh_of, next_second}
use Rattle.supervisor.specs.declared.Supervisor.{Supervisor}
use Rattle.history.specs.History.{Frame, Event, framed}
use Rattle.page.specs.Page.{each, frames_back, in_multi, local_number}
use Rattle.page.proofs.Back.{sup, carried}
use Rattle.page.proofs.Lines.{number_grows}

-- a filter of n + 1, by what it is given in a frame
abbrev filtered : ℕ → Filter → Given → Filter
filtered n z g = filter_of z (suc n) g.forget g.bit

module _ (p : Settings) (n : ℕ) (get : Supervisor → Filter) (given : Frame → List Frame → Given)
    (step : (k : List Event) (f : Frame) → get (framed (sup p k) f) ≡ filtered n (get (sup p k)) (given f (frames_back k)))
    (keep : (s : Supervisor) → get (next_second s) ≡ get s) (start : get (fresh_of p) ≡ quiet) where
  pub filter_law : (k : List Event) → (get (sup p k)).on ≡ on_by (suc n) (bits_since (each given (frames_back k)))
  unfolding filter_after
  filter_law k =
      ap (λ (z : Filter). z.on)
      (carried p (filter_after (suc n)) get given (λ k f gs e. step k f ∙ ap (λ (z : Filter). filtered n z (given f (frames_back k))) e) keep start k)
      ∙ (filter_on n (each given (frames_back k))).value

-- a layer with its trace alone
abbrev pub trace_only : Layer → Layer
trace_only l = with_deg (with_bdi l quiet) quiet

-- the trace makes no use of the filters beside it
push : (t : Bool) (x y x' y' : Layer) → trace_only x ≡ x' → trace_only y ≡ y' → trace_only (cond t x y) ≡ cond t x' y'
push true x y x' y' p q = p
push false x y x' y' p q = q

pub trace_only_lem : (l : Layer) (forget inmulti : Bool) (n t : ℕ) → trace_only (trace_of l forget inmulti n t) ≡ trace_of (trace_only l) forget inmulti n t
unfolding trace_of byte_of closed_cycle equal_of
trace_only_lem l forget inmulti n t =
    push forget _ _ _ _ refl
    (push inmulti _ _ _ _
    (push (eqb (n % 64) 0 || l.gathering) _ _ _ _
    (push (eqb (n % 64) 63) _ _ _ _ (push (eqb (equal_of (gathered_at l (n % 64) t)) 3) _ _ _ _ refl refl) refl)
    refl)
    refl)

-- a trace, by what its layer is given in a frame
abbrev pub turned : Layer → Turn → Layer
turned z t = trace_of z t.forget t.inmulti t.number t.tti

-- the turns of a layer's trace have the page's IM and local number, so the number grows by one
module _ (turn : Frame → List Frame → Turn) (im : (f : Frame) (l : List Frame) → (turn f l).inmulti ≡ in_multi (f ∷ l))
    (number : (f : Frame) (l : List Frame) → (turn f l).number ≡ local_number (f ∷ l)) where
  one_grows : (f : Frame) (l : List Frame) → Grows (turn f l) (each turn l)
  unfolding each
  one_grows f [] = tt
  one_grows f (g ∷ l) = λ i j.
      number f (g ∷ l)
      ∙ number_grows f g l (sym (im g l) ∙ i) (sym (im f (g ∷ l)) ∙ j)
      ∙ ap (λ (n : ℕ). (n + 1) % 256) (sym (number g l))

  steady : (l : List Frame) → Steady (each turn l)
  unfolding each
  steady [] = tt
  steady (f ∷ l) = (one_grows f l, steady l)

  -- the accepted trace, and dTIM, of a layer whose trace is that of the turns
  pub trace_by : (l : List Frame) (z : Layer) → trace_only z ≡ trace_after (each turn l) → trace_in z ≡ accepted_by (turns_since (each turn l))
  trace_by l z e = ap trace_in e ∙ trace_is (each turn l) (steady l)

  pub tim_by_lem : (l : List Frame) (z : Layer) → trace_only z ≡ trace_after (each turn l) → (mode : ℕ) (names : List ℕ) → length names ≡ 32
      → tim_of z mode names ≡ tim_by (accepted_by (turns_since (each turn l))) mode names
  unfolding tim_of
  tim_by_lem l z e mode names long = ap (λ (y : Layer). tim_of y mode names) e ∙ tim_is (each turn l) mode names (steady l) long

  -- and of a layer of the supervisor
  module _ (p : Settings) (get : Supervisor → Layer)
      (step : (k : List Event) (f : Frame) → trace_only (get (framed (sup p k) f)) ≡ turned (trace_only (get (sup p k))) (turn f (frames_back k)))
      (keep : (s : Supervisor) → trace_only (get (next_second s)) ≡ trace_only (get s)) (start : trace_only (get (fresh_of p)) ≡ fresh_layer) where
    trace_over : (k : List Event) → trace_only (get (sup p k)) ≡ trace_after (each turn (frames_back k))
    unfolding trace_after
    trace_over =
        carried p trace_after (λ s. trace_only (get s)) turn (λ k f gs e. step k f ∙ ap (λ (z : Layer). turned z (turn f (frames_back k))) e) keep start

    pub trace_law : (k : List Event) → trace_in (get (sup p k)) ≡ accepted_by (turns_since (each turn (frames_back k)))
    trace_law k = trace_by (frames_back k) (get (sup p k)) (trace_over k)

    pub tim_law : (k : List Event) (mode : ℕ) (names : List ℕ) → length names ≡ 32
        → tim_of (get (sup p k)) mode names ≡ tim_by (accepted_by (turns_since (each turn (frames_back k)))) mode names
    tim_law k mode names e = tim_by_lem (frames_back k) (get (sup p k)) (trace_over k) mode names e
