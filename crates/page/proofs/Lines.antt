-- Alignment on the page is that of the definitions: IF, IM and the local number, dLOF, dLOM, section SSF. Assumes nothing.
use mathlib.Core.Path.{◌≡◌, refl, ap, ap₂, sym, ◌∙◌, subst⁻¹}
use mathlib.Core.Bool.{Bool, true, false, ◌&&◌, ◌||◌, false≢true}
use mathlib.Core.List.{List, [], ◌∷◌, map}
use Prim.Native.Nat.{ℕ, ◌+◌, ◌%◌, ◌<◌}
use native.Mathlib.Omega.{arith}
use lib.Dec.{eqb, leb}
use Rattle.answer.proofs.Cond.{by_cond}
use Rattle.overhead.specs.Overhead.{four_of, overhead_of}
use Rattle.filter.specs.Filter.{up_of}
use Rattle.alignment.specs.declared.Framing.{Framing}
use Rattle.alignment.specs.declared.Lof.{Lof}
use Rattle.alignment.specs.declared.Multi.{Multi}
use Rattle.alignment.specs.Alignment.{frames_of, framing_of, lof_of, next_of, multi_of, lom_of, align_of, dLOF as dLOF·of, dLOM as dLOM·of}
use Rattle.alignment.specs.Since.{oofs, since_row, lof_after, lom_after}
use Rattle.alignment.specs.Framed.{four, framing_after}
use Rattle.alignment.specs.Numbered.{Look, multi_after}
use Rattle.frame.specs.Layers.{line_of, layers_of, standing_of}
use Rattle.causes.specs.Causes.{ssf_of}
use Rattle.settings.specs.declared.Settings.{Settings}
use Rattle.supervisor.specs.Supervisor.{frame_of, stands_after, next_second}
use Rattle.history.specs.History.{Frame, Event, frame, mark, stands_at, event_of}
use Rattle.alignment.proofs.Since.{lof_is, lom_is}
use Rattle.alignment.proofs.Framed.{framing_is}
use Rattle.alignment.proofs.Numbered.{multi_is}
use Rattle.page.specs.Page.{each, frames_back, signs, mfas, in_frame, look, in_multi, local_number, tsf_p, otuk_ais, N, dLOF, dLOM, section_ssf}
use Rattle.page.proofs.Back.{sup, settings_kept, ap₃, Suc, suc_of, carried}

-- N is not 0
frames_some : (k : ℕ) → 0 < frames_of k
unfolding frames_of
frames_some k =
    by_cond (λ (n : ℕ). 0 < n) (eqb k 1) (λ _. omega arith) (λ _. by_cond (λ (n : ℕ). 0 < n) (eqb k 2) (λ _. omega arith) (λ _. omega arith))

-- out of multiframe the local number is 0
no_number : (m : Multi) (inframe : Bool) (mfas : ℕ) → (multi_of m inframe mfas).inmulti ≡ false → (multi_of m inframe mfas).number ≡ 0
unfolding multi_of
no_number m inframe mfas =
    by_cond P m.inmulti
    (λ _. by_cond P inframe
    (λ _. by_cond P (eqb mfas (next_of m.number)) (λ _ e. absurd (false≢true (sym e)))
    (λ _. by_cond P (eqb (up_of m.misses 5) 5) (λ _ _. refl) (λ _ e. absurd (false≢true (sym e)))))
    (λ _ e. absurd (false≢true (sym e))))
    (λ _. by_cond P inframe
    (λ _. by_cond P (m.known && eqb mfas (next_of m.previous)) (λ _ e. absurd (false≢true (sym e))) (λ _ _. refl))
    (λ _ _. refl))
  where
    P : Multi → Type 0
    P z = z.inmulti ≡ false → z.number ≡ 0

out_zero : (l : List Look) → (multi_after l).inmulti ≡ false → (multi_after l).number ≡ 0
unfolding multi_after
out_zero [] e = refl
out_zero (x ∷ l) e = no_number (multi_after l) x.looked x.mfas e

-- IM and the local number of the definitions are the page's
im_is : (l : List Frame) → (multi_after (each look l)).inmulti ≡ in_multi l
im_is l = by (multi_after (each look l)).inmulti refl
  where
    by : (t : Bool) → (multi_after (each look l)).inmulti ≡ t → (multi_after (each look l)).inmulti ≡ in_multi l
    by true e = rw (← (multi_is (each look l)).value, e)
    by false e = rw (← (multi_is (each look l)).value, e)

number_is : (l : List Frame) → (multi_after (each look l)).number ≡ local_number l
number_is l = by (multi_after (each look l)).inmulti refl
  where
    by : (t : Bool) → (multi_after (each look l)).inmulti ≡ t → (multi_after (each look l)).number ≡ local_number l
    by true e = rw (← (multi_is (each look l)).value, e)
    by false e = rw (← (multi_is (each look l)).value, e) (out_zero (each look l) e)

-- "In IM the local number grows by 1 modulo 256 each frame"
grows : (m : Multi) (inframe : Bool) (mfas : ℕ) → m.inmulti ≡ true
    → (multi_of m inframe mfas).inmulti ≡ true → (multi_of m inframe mfas).number ≡ (m.number + 1) % 256
unfolding multi_of next_of
grows m inframe mfas i =
    rw i (by_cond P inframe
    (λ _. by_cond P (eqb mfas ((m.number + 1) % 256)) (λ _ _. refl)
    (λ _. by_cond P (eqb (up_of m.misses 5) 5) (λ _ e. absurd (false≢true e)) (λ _ _. refl)))
    (λ _ _. refl))
  where
    P : Multi → Type 0
    P z = z.inmulti ≡ true → z.number ≡ (m.number + 1) % 256

pub number_grows : (f g : Frame) (l : List Frame) → in_multi (g ∷ l) ≡ true → in_multi (f ∷ (g ∷ l)) ≡ true
    → local_number (f ∷ (g ∷ l)) ≡ (local_number (g ∷ l) + 1) % 256
unfolding each multi_after
number_grows f g l i j =
    sym (number_is (f ∷ (g ∷ l)))
    ∙ grows (multi_after (each look (g ∷ l))) (in_frame (f ∷ (g ∷ l))) (mfas f) (im_is (g ∷ l) ∙ i) (im_is (f ∷ (g ∷ l)) ∙ j)
    ∙ ap (λ (n : ℕ). (n + 1) % 256) (number_is (g ∷ l))

-- the state of alignment after a history, part by part
module _ (p : Settings) where
  frames_is : (k : List Event) → frames_of (sup p k).settings.k ≡ N p
  frames_is k = ap (λ (x : Settings). frames_of x.k) (settings_kept p k)

  framing_over : (k : List Event) → (sup p k).layers.align.framing ≡ framing_after (map signs (frames_back k))
  unfolding event_of frames_back framing_after frame_of layers_of align_of overhead_of four_of next_second
  framing_over [] = refl
  framing_over (frame f ∷ k) = ap (λ (z : Framing). framing_of z (four (signs f)) (signs f).three) (framing_over k)
  framing_over (mark ∷ k) = framing_over k

  pub in_frame_lem : (k : List Event) → (sup p k).layers.align.framing.inframe ≡ in_frame (frames_back k)
  in_frame_lem k = ap (λ (z : Framing). z.inframe) (framing_over k) ∙ (framing_is (map signs (frames_back k))).value

  lof_over : (k : List Event) → (sup p k).layers.align.lof ≡ lof_after (N p) (each (λ f m. in_frame (f ∷ m)) (frames_back k))
  unfolding lof_after frame_of layers_of align_of event_of frames_back next_second
  lof_over =
      carried p (lof_after (N p)) (λ s. s.layers.align.lof) (λ f m. in_frame (f ∷ m))
      (λ k f gs e. ap₃ lof_of e (frames_is k) (in_frame_lem (frame f ∷ k))) (λ s. refl) refl

  multi_over : (k : List Event) → (sup p k).layers.align.multi ≡ multi_after (each look (frames_back k))
  unfolding multi_after frame_of layers_of align_of event_of frames_back next_second
  multi_over =
      carried p multi_after (λ s. s.layers.align.multi) look
      (λ k f gs e. ap₂ (λ (z : Multi) (b : Bool). multi_of z b (mfas f)) e (in_frame_lem (frame f ∷ k))) (λ s. refl) refl

  pub in_multi_lem : (k : List Event) → (sup p k).layers.align.multi.inmulti ≡ in_multi (frames_back k)
  in_multi_lem k = ap (λ (z : Multi). z.inmulti) (multi_over k) ∙ im_is (frames_back k)

  pub local_number_lem : (k : List Event) → (sup p k).layers.align.multi.number ≡ local_number (frames_back k)
  local_number_lem k = ap (λ (z : Multi). z.number) (multi_over k) ∙ number_is (frames_back k)

  lom_over : (k : List Event) → (sup p k).layers.align.lom ≡ lom_after (N p) (each (λ f m. in_multi (f ∷ m)) (frames_back k))
  unfolding lom_after frame_of layers_of align_of event_of frames_back next_second
  lom_over =
      carried p (lom_after (N p)) (λ s. s.layers.align.lom) (λ f m. in_multi (f ∷ m))
      (λ k f gs e. ap₃ lom_of e (frames_is k) (in_multi_lem (frame f ∷ k))) (λ s. refl) refl

  -- dLOF and dLOM
  lof_law : (l : List Bool) → eqb (lof_after (N p) l).total (N p) ≡ leb (N p) (oofs (since_row (N p) l))
  lof_law l =
      let n : Suc (N p) = suc_of (N p) (frames_some p.k) in
      subst⁻¹ (λ (m : ℕ). eqb (lof_after m l).total m ≡ leb m (oofs (since_row m l))) n.is (lof_is n.one_less l).stands

  pub lof_stands : (k : List Event) → dLOF·of (sup p k).layers.align (frames_of (sup p k).settings.k) ≡ dLOF p (frames_back k)
  lof_stands k = ap₂ (λ (z : Lof) (n : ℕ). eqb z.total n) (lof_over k) (frames_is k) ∙ lof_law (each (λ f m. in_frame (f ∷ m)) (frames_back k))

  pub lom_stands : (k : List Event) → dLOM·of (sup p k).layers.align (frames_of (sup p k).settings.k) ≡ dLOM p (frames_back k)
  lom_stands k = ap₂ (λ (z n : ℕ). eqb z n) (lom_over k) (frames_is k) ∙ (lom_is (N p) (each (λ f m. in_multi (f ∷ m)) (frames_back k))).value

  -- section SSF
  pub ssf_is : (k : List Event) (f : Frame) → ssf_of (stands_at (sup p k) f).line ≡ section_ssf p f (frames_back k)
  unfolding ssf_of stands_after standing_of line_of frame_of event_of frames_back
  ssf_is k f = ap₂ (λ (x y : Bool). tsf_p f || otuk_ais f || x || y) (lof_stands (frame f ∷ k)) (lom_stands (frame f ∷ k))
