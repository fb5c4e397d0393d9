-- The open second on the page is that of the definitions, by Demand 3: tallies, DS, discard, and the figures of a mark. Assumes nothing.
use mathlib.Core.Path.{◌≡◌, refl, ap, ap₂, sym, ◌∙◌, subst}
use mathlib.Core.Bool.{Bool, true, false, cond, ◌||◌, or_comm}
use mathlib.Core.List.{List, [], ◌∷◌, map, reverse, reverse_aux, reverse-reverse, reverse-append, reverse_aux-append}
use Prim.Native.Nat.{ℕ, ◌+◌, ◌<◌}
use native.Mathlib.Nat.{zero-add, add-zero}
use native.Mathlib.Omega.{arith}
use lib.Dec.{eqb, lit<}
use lib.ListN.{length, get_or}
use Rattle.answer.specs.Bits.{flag}
use Rattle.answer.specs.Bounded.{Bounded}
use Rattle.causes.specs.Causes.{ssf_of, tim_acts, head_of}
use Rattle.causes.specs.declared.Standing.{Standing}
use Rattle.second.specs.Second.{count_of, closed_of, figures_of}
use Rattle.settings.specs.Ranges.{SettingsIn}
use Rattle.settings.specs.declared.Settings.{Settings}
use Rattle.supervisor.specs.Supervisor.{fresh_of, frame_of, next_second}
use Rattle.supervisor.specs.declared.Supervisor.{Supervisor}
use Rattle.history.specs.History.{Frame, Event, frame, mark, framed, stands_at, event_of, after}
use Rattle.history.specs.Ledger.{Question, Amount, total as total_of, tally as tally_of, some as some_of, Begins, at_start, after_mark_is, Since, Says, marks}
use Rattle.history.specs.Ledger.{under as under_of, section_near as near_of, section_far as far_of, section_violations as violations_of, section_near_ds as near_ds_of, section_far_ds as far_ds_of}
use Rattle.history.specs.Ledger.{section_iae, section_biae, path_near as path_near_of, path_far as path_far_of, path_violations as path_violations_of, path_near_ds as path_near_ds_of, path_far_ds as path_far_ds_of}
use Rattle.history.proofs.Ledger.{counted_bounds, demand_3}
use Rattle.page.specs.Page.{frames_back, sm, pm, in_second, yes, any, tally, some, total, held, head, section_ssf, section_near, section_far, section_violations, section_near_ds, section_bdi, dIAE, dBIAE}
use Rattle.page.specs.Page.{path_down, path_near, path_far, path_violations, path_near_ds, path_bdi, under, discarded, far_discarded, section_near_blocks, path_near_blocks, figures}
use Rattle.page.proofs.Back.{sup, AcceptedBack, after_back, reached_is}
use Rattle.page.proofs.Standings.{standing, stands_is}

-- the frames since the last mark, latest first, stand before those up to it
split : (k : List Event) (o : Since (reverse k)) → k ≡ reverse_aux (map frame o.frames) (reverse o.before)
split k o = sym (reverse-reverse k) ∙ ap reverse o.is ∙ reverse_aux-append o.before (map frame o.frames) []

-- where a second begins, it has no frame yet
begins_empty : (q : Frame → List Frame → Bool) (b : List Event) → Begins b → in_second q (reverse b) ≡ []
unfolding in_second
begins_empty q b at_start = refl
begins_empty q b (after_mark_is h) = ap (in_second q) (reverse-append h (mark ∷ []))

-- on Booleans
or_swap : (a b c : Bool) → (a || (b || c)) ≡ ((b || a) || c)
or_swap true true c = refl
or_swap true false c = refl
or_swap false true c = refl
or_swap false false c = refl

no_more : (b : Bool) → (b || false) ≡ b
no_more true = refl
no_more false = refl

-- the frames of the second
frames_back_lem : (fs : List Frame) (k : List Event) → held (reverse_aux (map frame fs) k) ≡ length fs + held k
unfolding in_second
frames_back_lem [] k = sym (zero-add _)
frames_back_lem (f ∷ fs) k = omega (arith, frames_back_lem fs (frame f ∷ k))

frames_are : (k : List Event) (o : Since (reverse k)) → length o.frames ≡ held k
frames_are k o =
    sym (ap held (split k o)
    ∙ frames_back_lem o.frames (reverse o.before)
    ∙ ap (λ (l : List Bool). length o.frames + length l) (begins_empty (λ f l. true) o.before o.begins)
    ∙ add-zero (length o.frames))

-- a second that begins has no violations yet
begins_none : (v : Frame → List Frame → ℕ) (b : List Event) → Begins b → total v (reverse b) ≡ 0
unfolding total
begins_none v b at_start = refl
begins_none v b (after_mark_is h) = ap (total v) (reverse-append h (mark ∷ []))

-- an amount of the definitions that is the page's
module _ (p : Settings) (a : Amount) (v : Frame → List Frame → ℕ)
    (same : (k : List Event) (f : Frame) → a (stands_at (sup p k) f) f ≡ v f (frames_back k)) where
  total_back : (fs : List Frame) (k : List Event) → total v (reverse_aux (map frame fs) k) ≡ total_of a (sup p k) fs + total v k
  unfolding total_of total event_of
  total_back [] k = sym (zero-add _)
  total_back (f ∷ fs) k = omega (arith, total_back fs (frame f ∷ k), same k f)

  total_is : (k : List Event) (o : Since (reverse k)) → total_of a (after (fresh_of p) o.before) o.frames ≡ total v k
  total_is k o =
      ap (λ (s : Supervisor). total_of a s o.frames) (reached_is p o.before)
      ∙ sym (ap (total v) (split k o)
      ∙ total_back o.frames (reverse o.before)
      ∙ ap (λ (n : ℕ). total_of a (sup p (reverse o.before)) o.frames + n) (begins_none v o.before o.begins)
      ∙ add-zero _)

-- a tally is the total of ones
pub tally_total : (q : Frame → List Frame → Bool) (k : List Event) → total (λ f l. flag (q f l)) k ≡ tally q k
unfolding total yes in_second
tally_total q [] = refl
tally_total q (mark ∷ k) = refl
tally_total q (frame f ∷ k) = ap (λ (n : ℕ). flag (q f (frames_back k)) + n) (tally_total q k)

-- a total whose number is bounded by a question in each frame is bounded by its tally
pub total_bounded : (q : Frame → List Frame → Bool) (v : Frame → List Frame → ℕ) → ((f : Frame) (l : List Frame) → Bounded (flag (q f l)) (v f l)) → (k : List Event)
    → Bounded (tally q k) (total v k)
unfolding total yes in_second
total_bounded q v b [] = omega arith
total_bounded q v b (mark ∷ k) = omega arith
total_bounded q v b (frame f ∷ k) =
    let r = total_bounded q v b k in let o = b f (frames_back k) in (omega (arith, r.0, o.0), omega (arith, r.1, o.1))

pub section_bounded : (p : Settings) (k : List Event) → Bounded (tally (section_far p) k) (total (section_violations p) k)
section_bounded p = total_bounded (section_far p) (section_violations p) (λ f l. counted_bounds (sm f).bei (section_ssf p f l))

pub path_bounded : (p : Settings) (k : List Event) → Bounded (tally (path_far p) k) (total (path_violations p) k)
path_bounded p = total_bounded (path_far p) (path_violations p) (λ f l. counted_bounds (pm f).bei (path_down p f l))

-- a question of the definitions that is the page's
module _ (p : Settings) (a : Question) (q : Frame → List Frame → Bool)
    (same : (k : List Event) (f : Frame) → a (stands_at (sup p k) f) f ≡ q f (frames_back k)) where
  some_back : (fs : List Frame) (k : List Event) → some q (reverse_aux (map frame fs) k) ≡ (some_of a (sup p k) fs || some q k)
  unfolding some_of any in_second event_of
  some_back [] k = refl
  some_back (f ∷ fs) k =
      some_back fs (frame f ∷ k)
      ∙ ap (λ (x : Bool). some_of a (framed (sup p k) f) fs || (x || some q k)) (sym (same k f))
      ∙ or_swap (some_of a (framed (sup p k) f) fs) (a (stands_at (sup p k) f) f) (some q k)

  tally_is : (k : List Event) (o : Since (reverse k)) → tally_of a (after (fresh_of p) o.before) o.frames ≡ tally q k
  tally_is k o = total_is p (λ d f. flag (a d f)) (λ f l. flag (q f l)) (λ h f. ap flag (same h f)) k o ∙ tally_total q k

  some_is : (k : List Event) (o : Since (reverse k)) → some_of a (after (fresh_of p) o.before) o.frames ≡ some q k
  unfolding any
  some_is k o =
      ap (λ (s : Supervisor). some_of a s o.frames) (reached_is p o.before)
      ∙ sym (ap (some q) (split k o)
      ∙ some_back o.frames (reverse o.before)
      ∙ ap (λ (l : List Bool). some_of a (sup p (reverse o.before)) o.frames || any l) (begins_empty q o.before o.begins)
      ∙ no_more _)

-- the seconds closed are the marks
pub seconds_are : (p : Settings) (k : List Event) → (sup p k).seconds ≡ marks k
unfolding event_of frame_of next_second
seconds_are p [] = refl
seconds_are p (frame f ∷ k) = seconds_are p k
seconds_are p (mark ∷ k) = omega (arith, seconds_are p k)

-- lists with equal heads and equal rests
infixr 20 ◌◂◌
◌◂◌ : {x y : ℕ} {l m : List ℕ} → x ≡ y → l ≡ m → (x ∷ l) ≡ (y ∷ m)
p ◂ q = ap₂ (λ (x : ℕ) (l : List ℕ). x ∷ l) p q

-- the questions of document 01, asked of what stands, are the page's
module _ (p : Settings) (v : SettingsIn p) where
  asks : (a : Question) (k : List Event) (f : Frame) → a (stands_at (sup p k) f) f
      ≡ a (standing p f (frames_back k) (sup p k).layers.section.layer.deg.on (sup p k).layers.path.layer.deg.on) f
  asks a k f = ap (λ (d : Standing). a d f) (stands_is p v k f)

  measures : (a : Amount) (k : List Event) (f : Frame) → a (stands_at (sup p k) f) f
      ≡ a (standing p f (frames_back k) (sup p k).layers.section.layer.deg.on (sup p k).layers.path.layer.deg.on) f
  measures a k f = ap (λ (d : Standing). a d f) (stands_is p v k f)

  -- pIAE and pBIAE of the open second
  pub iae_is : (k : List Event) → (sup p k).second.iae ≡ discarded p k
  unfolding event_of frame_of next_second count_of in_second any
  iae_is [] = refl
  iae_is (frame f ∷ k) = ap₂ (λ (x y : Bool). x || y) (iae_is k) (asks section_iae k f) ∙ or_comm (discarded p k) (dIAE p (f ∷ frames_back k))
  iae_is (mark ∷ k) = refl

  pub biae_is : (k : List Event) → (sup p k).second.biae ≡ some (λ f l. dBIAE p (f ∷ l)) k
  unfolding event_of frame_of next_second count_of in_second any
  biae_is [] = refl
  biae_is (frame f ∷ k) =
      ap₂ (λ (x y : Bool). x || y) (biae_is k) (asks section_biae k f) ∙ or_comm (some (λ g l. dBIAE p (g ∷ l)) k) (dBIAE p (f ∷ frames_back k))
  biae_is (mark ∷ k) = refl

  -- the second that a mark after the accepted history k would close
  module _ (k : List Event) (a : AcceptedBack p k) where
    abbrev o : Since (reverse k)
    o = (demand_3 p (reverse k) a).since

    abbrev begun : Supervisor
    begun = after (fresh_of p) o.before

    says : Says begun o.frames (closed_of (sup p k).second)
    says = subst (λ (s : Supervisor). Says begun o.frames (closed_of s.second)) (after_back p k) (demand_3 p (reverse k) a).says

    iae_some : some_of section_iae begun o.frames ≡ discarded p k
    iae_some = some_is p section_iae (λ f l. dIAE p (f ∷ l)) (asks section_iae) k o

    biae_some : (some_of section_iae begun o.frames || some_of section_biae begun o.frames) ≡ far_discarded p k
    biae_some = ap₂ (λ (x y : Bool). x || y) iae_some (some_is p section_biae (λ f l. dBIAE p (f ∷ l)) (asks section_biae) k o)

    pub frames_is : (closed_of (sup p k).second).frames.0 ≡ held k
    frames_is = says.frames ∙ frames_are k o

    pub section_near_is : (closed_of (sup p k).second).section.near.0 ≡ section_near_blocks p k
    unfolding ssf_of
    section_near_is = says.section_near_is ∙ ap₂ (λ (x : Bool) (n : ℕ). cond x 0 n) iae_some (tally_is p near_of (section_near p) (asks near_of) k o)

    section_far_is : (closed_of (sup p k).second).section.far.0 ≡ cond (far_discarded p k) 0 (tally (section_far p) k)
    unfolding ssf_of
    section_far_is = says.section_far_is ∙ ap₂ (λ (x : Bool) (n : ℕ). cond x 0 n) biae_some (tally_is p far_of (section_far p) (asks far_of) k o)

    section_near_ds_is : (closed_of (sup p k).second).section.neards ≡ cond (discarded p k) false (some (section_near_ds p) k)
    unfolding ssf_of
    section_near_ds_is = says.section_neards ∙ ap₂ (λ (x y : Bool). cond x false y) iae_some (some_is p near_ds_of (section_near_ds p) (asks near_ds_of) k o)

    section_far_ds_is : (closed_of (sup p k).second).section.fards ≡ cond (far_discarded p k) false (some (λ f l. section_bdi p (f ∷ l)) k)
    section_far_ds_is =
        says.section_fards ∙ ap₂ (λ (x y : Bool). cond x false y) biae_some (some_is p far_ds_of (λ f l. section_bdi p (f ∷ l)) (asks far_ds_of) k o)

    section_sum_is : (closed_of (sup p k).second).section.sum.0 ≡ cond (far_discarded p k) 0 (total (section_violations p) k)
    unfolding ssf_of
    section_sum_is =
        says.section_violations_is ∙ ap₂ (λ (x : Bool) (n : ℕ). cond x 0 n) biae_some (total_is p violations_of (section_violations p) (measures violations_of) k o)

    pub path_near_is : (closed_of (sup p k).second).path.near.0 ≡ path_near_blocks p k
    unfolding ssf_of tim_acts
    path_near_is = says.near ∙ tally_is p path_near_of (path_near p) (asks path_near_of) k o

    path_far_is : (closed_of (sup p k).second).path.far.0 ≡ tally (path_far p) k
    unfolding ssf_of tim_acts
    path_far_is = says.far ∙ tally_is p path_far_of (path_far p) (asks path_far_of) k o

    path_near_ds_is : (closed_of (sup p k).second).path.neards ≡ some (path_near_ds p) k
    unfolding ssf_of tim_acts
    path_near_ds_is = says.neards ∙ some_is p path_near_ds_of (path_near_ds p) (asks path_near_ds_of) k o

    path_far_ds_is : (closed_of (sup p k).second).path.fards ≡ some (λ f l. path_bdi p (f ∷ l)) k
    path_far_ds_is = says.fards ∙ some_is p path_far_ds_of (λ f l. path_bdi p (f ∷ l)) (asks path_far_ds_of) k o

    path_sum_is : (closed_of (sup p k).second).path.sum.0 ≡ total (path_violations p) k
    unfolding ssf_of tim_acts
    path_sum_is = says.violations ∙ total_is p path_violations_of (path_violations p) (measures path_violations_of) k o

    head_is : (n : ℕ) → n < 10 → get_or (closed_of (sup p k).second).heads n 0 ≡ under p n k
    unfolding head_of tim_acts
    head_is n h = says.heads n h ∙ tally_is p (under_of n) (λ f l. eqb (head p f l) n) (asks (under_of n)) k o

    pub figures_are : figures_of ((sup p k).seconds + 1) (closed_of (sup p k).second) ≡ figures p k
    figures_are =
        ap (λ (n : ℕ). n + 1) (seconds_are p k)
        ◂ frames_is
        ◂ head_is 0 (lit< tt) ◂ head_is 1 (lit< tt) ◂ head_is 2 (lit< tt) ◂ head_is 3 (lit< tt) ◂ head_is 4 (lit< tt)
        ◂ head_is 5 (lit< tt) ◂ head_is 6 (lit< tt) ◂ head_is 7 (lit< tt) ◂ head_is 8 (lit< tt) ◂ head_is 9 (lit< tt)
        ◂ section_near_is ◂ section_far_is ◂ ap flag section_near_ds_is ◂ ap flag section_far_ds_is ◂ section_sum_is
        ◂ path_near_is ◂ path_far_is ◂ ap flag path_near_ds_is ◂ ap flag path_far_ds_is ◂ path_sum_is
        ◂ refl
