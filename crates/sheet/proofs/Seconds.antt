-- The open second of a level is the sheet's: blocks, DS, the sum, discard; and so are its five figures and dDEG. Assumes nothing.
use Prim.Native.Nat.{ℕ, ◌+◌, ◌*◌, ◌≤◌, ◌<◌, zero-le}
use mathlib.Core.Path.{◌≡◌, refl, sym, ap, ap₂, ◌∙◌}
use mathlib.Core.Bool.{Bool, false, cond, not, ◌&&◌, ◌||◌, or_comm}
use mathlib.Core.List.{List, [], ◌∷◌, map}
use native.Mathlib.Omega.{arith}
use lib.Dec.{leb, eqb, ltb}
use lib.ListN.{length}
use borrow.Author.Tests.{ltb-true}
use Rattle.answer.specs.Bits.{flag}
use Rattle.answer.specs.Bounded.{Bounded}
use Rattle.answer.specs.Checks.{check}
use Rattle.answer.proofs.Bits.{flag_most}
use Rattle.answer.proofs.Checks.{passed}
use Rattle.answer.proofs.Cond.{cond_under}
use Rattle.overhead.specs.Overhead.{far_block}
use Rattle.overhead.specs.Bei.{bei_of, is_far}
use Rattle.overhead.proofs.Codes.{same_far}
use Rattle.filter.specs.declared.Filter.{Filter}
use Rattle.filter.specs.Filter.{filter_of}
use Rattle.filter.specs.Since.{filter_after}
use Rattle.layer.specs.Layer.{layer_of}
use Rattle.second.specs.Second.{sum_of, blocks_of, discard_of}
use Rattle.second.specs.declared.Near.{Near}
use Rattle.second.specs.declared.Far.{Far}
use Rattle.second.specs.declared.Sum.{Sum}
use Rattle.settings.specs.Ranges.{SettingsIn}
use Rattle.settings.specs.declared.Options.{Options}
use Rattle.settings.specs.declared.Settings.{Settings}
use Rattle.level.specs.Level.{level_of, level_down, level_count, level_closed, level_marked, fresh_level_second}
use Rattle.level.specs.declared.LevelStands.{LevelStands}
use Rattle.level.specs.declared.LevelSecond.{LevelSecond}
use Rattle.history.specs.History.{Frame, Event, frame, mark}
use Rattle.history.proofs.Ledger.{Adds, adds_one, adds_eight, near_more, far_more, sum_more, counted_is, counted_bounds, counted_low}
use Rattle.tandem.specs.Levels.{count_at, five_of}
use Rattle.page.specs.Page.{frames_back, in_second, yes, any, tally, some, total, held, path_ssf}
use Rattle.page.proofs.Back.{AcceptedBack, accepted_before}
use Rattle.page.proofs.Sections.{path_ssf_is}
use Rattle.page.proofs.Standings.{trace_deg}
use Rattle.page.proofs.Degraded.{second, deg_value}
use Rattle.page.proofs.Refusals.{accepted_taken}
use Rattle.page.proofs.Seconds.{total_bounded}
use Rattle.sheet.specs.Sheet.{LevelEvent, counted, closed, plainly, frames_in, field, down, nears, far, violations, dTIM, dIAE, dBIAE, near_ds, far_ds}
use Rattle.sheet.specs.Sheet.{discarded, far_discarded, near_blocks, five, bads, dDEG}
use Rattle.sheet.proofs.Own.{Ready, frame_of_level, own, own_given}
use Rattle.sheet.proofs.Defects.{standing, stands_are, down_is}

-- an accepted frame finds room in the second
room : (p : Settings) → SettingsIn p → (f : Frame) (k : List Event) → AcceptedBack p (frame f ∷ k) → held k < 400000
room p v f k a =
    let c =
    passed 4
    (check 1 (eqb (length f.overhead) 64)
    ∷ check 2 (leb f.flags 3)
    ∷ check 3 (leb f.sm 8 && leb f.pm 8)
    ∷ check 4 (ltb (held k) 400000)
    ∷ []) refl (accepted_taken p v (frame f ∷ k) a).0 in
    ltb-true _ _ c.1.1.1.0

-- the sum is at least the far blocks, and at most eight times them
pub far_bounded : (p : Settings) (n : ℕ) (k : List Event) → Bounded (tally (far p n) k) (total (violations p n) k)
far_bounded p n = total_bounded (far p n) (violations p n) (λ f l. counted_bounds (field p n f).bei (down p n f l))

module _ (p : Settings) (v : SettingsIn p) (n : ℕ) (o : Options) (ready : Ready o) where
  -- what stands after a frame, by the sheet
  abbrev shown : List LevelEvent → Frame → LevelStands
  shown h f = standing p n o (f ∷ frames_in h) (path_ssf p f (frames_in h)) (own p n o (counted f [] ∷ h)).state.layer.deg.on

  shown_is : (h : List LevelEvent) (f : Frame) → (frame_of_level p n o (own p n o h) h f).stands ≡ shown h f
  unfolding frames_back
  shown_is h f = stands_are p v n o ready (counted f [] ∷ h) (path_ssf_is p v (plainly h) f) refl

  -- a number of the second that grows by an amount in each frame is the total of that amount
  module _ (each cap : ℕ) (w : Adds each cap) (get : LevelSecond → ℕ) (q : LevelStands → ℕ → ℕ → ℕ) (sum : List LevelEvent → ℕ)
      (start : get fresh_level_second ≡ 0) (low : (d : LevelStands) (bei count : ℕ) → q d bei count ≤ each)
      (law : (c : LevelSecond) (d : LevelStands) (bei count : ℕ) → get c + each ≤ cap → get (level_count c d bei count) ≡ get c + q d bei count)
      (first : sum [] ≡ 0) (last : (h : List LevelEvent) → sum (closed ∷ h) ≡ 0)
      (next : (h : List LevelEvent) (f : Frame) (counts : List ℕ) → sum (counted f counts ∷ h) ≡ q (shown h f) (field p n f).bei (count_at counts n) + sum h)
    where
      at_most : (h : List LevelEvent) → sum h ≤ each * held (plainly h)
      unfolding in_second
      at_most [] = rw first zero-le
      at_most (closed ∷ h) = rw (last h) zero-le
      at_most (counted f counts ∷ h) =
          let l = low (shown h f) (field p n f).bei (count_at counts n) in
          let g = w.grows (held (plainly h)) in
          rw (next h f counts) (omega (arith, l, g, at_most h))

      summed : (h : List LevelEvent) → AcceptedBack p (plainly h) → get (own p n o h).second ≡ sum h
      summed [] a = start ∙ sym first
      summed (closed ∷ h) a = start ∙ sym (last h)
      summed (counted f counts ∷ h) a =
          let e = summed h (accepted_before p (frame f) (plainly h) a) in
          let r = w.fits (held (plainly h)) (room p v f (plainly h) a) in
          let m = law (own p n o h).second (shown h f) (field p n f).bei (count_at counts n) (omega (arith, e, r, at_most h)) in
          ap (λ (d : LevelStands). get (level_count (own p n o h).second d (field p n f).bei (count_at counts n))) (shown_is h f)
          ∙ omega (arith, m, e, next h f counts)

  -- a Boolean of it is that some frame had it
  module _ (get : LevelSecond → Bool) (q : LevelStands → Bool) (ask : Frame → List Frame → Bool) (start : get fresh_level_second ≡ false)
      (law : (c : LevelSecond) (d : LevelStands) (bei count : ℕ) → get (level_count c d bei count) ≡ (get c || q d))
      (asked : (h : List LevelEvent) (f : Frame) → q (shown h f) ≡ ask f (frames_in h)) where
    stood : (h : List LevelEvent) → get (own p n o h).second ≡ some ask (plainly h)
    unfolding in_second any
    stood [] = start
    stood (closed ∷ h) = start
    stood (counted f counts ∷ h) =
        law (own p n o h).second _ (field p n f).bei (count_at counts n)
        ∙ ap₂ (λ (x y : Bool). x || y) (stood h) (ap q (shown_is h f) ∙ asked h f)
        ∙ or_comm (some ask (plainly h)) (ask f (frames_in h))

  near_is : (h : List LevelEvent) → AcceptedBack p (plainly h) → (own p n o h).second.blocks.near.0 ≡ yes (nears p n h)
  unfolding level_count blocks_of nears yes
  near_is =
      summed 1 400000 adds_one (λ c. c.blocks.near.0) (λ d bei count. flag (leb 1 count && not (level_down d))) (λ h. yes (nears p n h)) refl
      (λ d bei count. flag_most (leb 1 count && not (level_down d)))
      (λ c d bei count r. near_more c.blocks.near (leb 1 count && not (level_down d)) (omega (arith, r))) refl (λ h. refl)
      (λ h f counts. ap (λ (x : Bool). flag (leb 1 (count_at counts n) && not x) + yes (nears p n h)) (sym (down_is p n o f (frames_in h))))

  far_is : (h : List LevelEvent) → AcceptedBack p (plainly h) → (own p n o h).second.blocks.far.0 ≡ tally (far p n) (plainly h)
  unfolding level_count blocks_of in_second yes
  far_is =
      summed 1 400000 adds_one (λ c. c.blocks.far.0) (λ d bei count. flag (far_block bei && not (level_down d))) (λ h. tally (far p n) (plainly h)) refl
      (λ d bei count. flag_most (far_block bei && not (level_down d)))
      (λ c d bei count r.
      far_more c.blocks.far (is_far (bei_of bei) && not (level_down d)) (omega (arith, r))
      ∙ ap (λ (x : Bool). c.blocks.far.0 + flag (x && not (level_down d))) (same_far bei).far) refl (λ h. refl)
      (λ h f counts. ap (λ (x : Bool). flag (far_block (field p n f).bei && not x) + tally (far p n) (plainly h)) (sym (down_is p n o f (frames_in h))))

  sum_is : (h : List LevelEvent) → AcceptedBack p (plainly h) → (own p n o h).second.blocks.sum.0 ≡ total (violations p n) (plainly h)
  unfolding level_count blocks_of total
  sum_is =
      summed 8 3200000 adds_eight (λ c. c.blocks.sum.0) (λ d bei count. cond (far_block bei && not (level_down d)) bei 0) (λ h. total (violations p n) (plainly h)) refl
      (λ d bei count. counted_low bei (level_down d))
      (λ c d bei count r.
      let l = counted_low bei (level_down d) in
      ap (λ (m : ℕ). (sum_of c.blocks.sum m).0) (counted_is (bei_of bei) (far_block bei) (level_down d) bei (same_far bei).number)
      ∙ sum_more c.blocks.sum (cond (far_block bei && not (level_down d)) bei 0) (omega (arith, r, l))) refl (λ h. refl)
      (λ h f counts.
      ap (λ (x : Bool). cond (far_block (field p n f).bei && not x) (field p n f).bei 0 + total (violations p n) (plainly h)) (sym (down_is p n o f (frames_in h))))

  near_ds_is : (h : List LevelEvent) → (own p n o h).second.blocks.neards ≡ some (near_ds p n o) (plainly h)
  unfolding level_count blocks_of
  near_ds_is =
      stood (λ c. c.blocks.neards) (λ d. level_down d || d.tim) (near_ds p n o) refl (λ c d bei count. refl)
      (λ h f. ap (λ (x : Bool). x || dTIM p n o (f ∷ frames_in h)) (down_is p n o f (frames_in h)))

  far_ds_is : (h : List LevelEvent) → (own p n o h).second.blocks.fards ≡ some (far_ds p n o) (plainly h)
  unfolding level_count blocks_of
  far_ds_is = stood (λ c. c.blocks.fards) (λ d. d.bdi) (far_ds p n o) refl (λ c d bei count. refl) (λ h f. refl)

  pub iae_is : (h : List LevelEvent) → (own p n o h).second.iae ≡ discarded p n o h
  unfolding level_count
  iae_is = stood (λ c. c.iae) (λ d. d.iae) (λ f l. dIAE p n o (f ∷ l)) refl (λ c d bei count. refl) (λ h f. refl)

  pub biae_is : (h : List LevelEvent) → (own p n o h).second.biae ≡ some (λ f l. dBIAE p n o (f ∷ l)) (plainly h)
  unfolding level_count
  biae_is = stood (λ c. c.biae) (λ d. d.biae) (λ f l. dBIAE p n o (f ∷ l)) refl (λ c d bei count. refl) (λ h f. refl)

  far_iae_is : (h : List LevelEvent) → ((own p n o h).second.iae || (own p n o h).second.biae) ≡ far_discarded p n o h
  far_iae_is h = ap₂ (λ (x y : Bool). x || y) (iae_is h) (biae_is h)

  -- after discard
  near_closed : (h : List LevelEvent) → AcceptedBack p (plainly h) → (level_closed (own p n o h).second).near.0 ≡ near_blocks p n o h
  unfolding discard_of
  near_closed h a = cond_under (λ (x : Near). x.0) (own p n o h).second.iae _ _ ∙ ap₂ (λ (x : Bool) (m : ℕ). cond x 0 m) (iae_is h) (near_is h a)

  far_closed : (h : List LevelEvent) → AcceptedBack p (plainly h)
      → (level_closed (own p n o h).second).far.0 ≡ cond (far_discarded p n o h) 0 (tally (far p n) (plainly h))
  unfolding discard_of
  far_closed h a =
      cond_under (λ (x : Far). x.0) ((own p n o h).second.iae || (own p n o h).second.biae) _ _
      ∙ ap₂ (λ (x : Bool) (m : ℕ). cond x 0 m) (far_iae_is h) (far_is h a)

  sum_closed : (h : List LevelEvent) → AcceptedBack p (plainly h)
      → (level_closed (own p n o h).second).sum.0 ≡ cond (far_discarded p n o h) 0 (total (violations p n) (plainly h))
  unfolding discard_of
  sum_closed h a =
      cond_under (λ (x : Sum). x.0) ((own p n o h).second.iae || (own p n o h).second.biae) _ _
      ∙ ap₂ (λ (x : Bool) (m : ℕ). cond x 0 m) (far_iae_is h) (sum_is h a)

  near_ds_closed : (h : List LevelEvent) → (level_closed (own p n o h).second).neards ≡ cond (discarded p n o h) false (some (near_ds p n o) (plainly h))
  unfolding discard_of
  near_ds_closed h = ap₂ (λ (x y : Bool). cond x false y) (iae_is h) (near_ds_is h)

  far_ds_closed : (h : List LevelEvent) → (level_closed (own p n o h).second).fards ≡ cond (far_discarded p n o h) false (some (far_ds p n o) (plainly h))
  unfolding discard_of
  far_ds_closed h = ap₂ (λ (x y : Bool). cond x false y) (far_iae_is h) (far_ds_is h)

  -- the five figures
  pub five_is : (h : List LevelEvent) → AcceptedBack p (plainly h) → five_of (own p n o h) ≡ five p n o h
  unfolding five_of
  five_is h a = rw (own_given p n o h, near_closed h a, far_closed h a, near_ds_closed h, far_ds_closed h, sum_closed h a)

  -- dDEG: a frame leaves it, and a mark gives its filter one second more
  deg_over : (h : List LevelEvent) → AcceptedBack p (plainly h) → (own p n o h).state.layer.deg ≡ filter_after o.degm (map second (bads p n o h))
  unfolding filter_after bads level_of level_marked layer_of
  deg_over [] a = refl
  deg_over (counted f counts ∷ h) a = trace_deg (own p n o h).state.layer _ _ _ _ ∙ deg_over h (accepted_before p (frame f) (plainly h) a)
  deg_over (closed ∷ h) a =
      let b : AcceptedBack p (plainly h) = accepted_before p mark (plainly h) a in
      ap₂ (λ (z : Filter) (m : ℕ). filter_of z o.degm false (leb o.thr m)) (deg_over h b) (near_closed h b)

  pub deg_is : (h : List LevelEvent) → AcceptedBack p (plainly h) → (own p n o h).state.layer.deg.on ≡ dDEG p n o h
  deg_is h a = ap (λ (z : Filter). z.on) (deg_over h a) ∙ deg_value o.degm ready.0 (bads p n o h)
