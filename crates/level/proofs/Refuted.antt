-- Answers that tempting readings give, shut out by the contracts of this crate. Assumes nothing.
use Prim.Native.Nat.{ℕ}
use mathlib.Core.Path.{◌≡◌, sym, ap, ◌∙◌}
use mathlib.Core.Bool.{true, false, ◌||◌, or-true, and-false, true≢false, false≢true}
use native.Mathlib.Omega.{arith}
use lib.Dec.{eqb}
use contract.Lifetimes.{Lfts}
use borrow.Fn.Kinds.{Dens, ended_of}
use denote.Triple.Clauses.{AtExit}
use Rattle.filter.specs.Filter.{up_of, filter_of}
use Rattle.filter.specs.Stat.{in_row, stat_of}
use Rattle.layer.specs.Layer.{layer_of, tim_of}
use Rattle.causes.specs.Causes.{tim_acts}
use Rattle.second.specs.declared.Blocks.{Blocks}
use Rattle.second.specs.declared.Shows.{Shows}
use Rattle.second.specs.Second.{near_of, blocks_of, discard_of}
use Rattle.level.specs.Status.{status_of, status_for, raises_ltc, raises_iae, raises_ais}
use Rattle.level.specs.Level.{level_of, stands_by, level_frame, dAIS, level_count, level_marked}
use Rattle.level.specs.declared.Status.{Status}
use Rattle.level.specs.declared.Status.TheVariants.{Clear, Ltc, Iae, Ais}
use Rattle.level.specs.declared.Raises.{Raises}
use Rattle.level.specs.declared.LevelState.{LevelState}
use Rattle.level.specs.declared.LevelStands.{LevelStands}
use Rattle.level.specs.declared.LevelActions.{LevelActions}
use Rattle.level.specs.declared.LevelCauses.{LevelCauses}
use Rattle.level.specs.declared.LevelSecond.{LevelSecond}
use Rattle.level.proofs.Answered.{next, stood}
use Rattle.level.proofs.During.{each_frame}
use Rattle.level.proofs.status_for.Kinds as status_for_kinds
use Rattle.level.proofs.status_for.Reads as status_for_reads
use Rattle.level.proofs.raises_of.Kinds as raises_of_kinds
use Rattle.level.proofs.raises_of.Reads as raises_of_reads
use Rattle.level.proofs.LevelState.stands.Kinds as level_stands_kinds
use Rattle.level.proofs.LevelState.stands.Reads as level_stands_reads
use Rattle.level.proofs.LevelState.step.Kinds as level_step_kinds
use Rattle.level.proofs.LevelState.step.Reads as level_step_reads
use Rattle.level.proofs.level_actions.Kinds as level_actions_kinds
use Rattle.level.proofs.level_actions.Reads as level_actions_reads
use Rattle.level.proofs.level_causes.Kinds as level_causes_kinds
use Rattle.level.proofs.level_causes.Reads as level_causes_reads
use Rattle.level.proofs.level_shows.Kinds as level_shows_kinds
use Rattle.level.proofs.level_shows.Reads as level_shows_reads
use Rattle.level.proofs.LevelSecond.count.Kinds as level_count_kinds
use Rattle.level.proofs.LevelSecond.count.Reads as level_count_reads
use Rattle.level.proofs.level_closed.Kinds as level_closed_kinds
use Rattle.level.proofs.level_closed.Reads as level_closed_reads
use Rattle.level.proofs.LevelState.mark.Kinds as level_mark_kinds
use Rattle.level.proofs.LevelState.mark.Reads as level_mark_reads
use Rattle.level.proofs.fresh_level.Kinds as fresh_level_kinds
use Rattle.level.proofs.fresh_level.Reads as fresh_level_reads
use Rattle.level.proofs.fresh_level_second.Kinds as fresh_level_second_kinds
use Rattle.level.proofs.fresh_level_second.Reads as fresh_level_second_reads

-- status_for
module _ (κs : Lfts 0) (a : Dens κs status_for_kinds.ps) (x : Status)
    (s : AtExit (ended_of 0 status_for_kinds.ps status_for_kinds.r) κs) (e : status_for_reads.Post κs a x s) where
  -- no status stands before a STAT is accepted: a fresh level has no dLTC, though its STAT holds 0
  pub fresh_ltc : a.0.known ≡ false → x ≡ Ltc → ⊥
  unfolding status_for
  fresh_ltc known w = let h : Ltc ≡ Clear = sym w ∙ simp (e, known) in true≢false (ap raises_ltc h)

  -- 000 is dLTC, where the path reads nothing
  pub zero_raises_nothing : a.0.known ≡ true → a.0.accepted ≡ 0 → x ≡ Clear → ⊥
  unfolding status_for status_of
  zero_raises_nothing known zero w = let h : Clear ≡ Ltc = sym w ∙ simp (e, known, zero) in false≢true (ap raises_ltc h)

-- raises_of
module _ (κs : Lfts 0) (a : Dens κs raises_of_kinds.ps) (x : Raises)
    (s : AtExit (ended_of 0 raises_of_kinds.ps raises_of_kinds.r) κs) (e : raises_of_reads.Post κs a x s) where
  -- 010 raises dIAE
  pub iae_raises_nothing : a.0 ≡ Iae → x.iae ≡ false → ⊥
  iae_raises_nothing iae w = let h : true ≡ false = simp (e, iae) at w in true≢false h

-- level_stands
module _ (κs : Lfts 2) (a : Dens κs level_stands_kinds.ps) (x : LevelStands)
    (s : AtExit (ended_of 2 level_stands_kinds.ps level_stands_kinds.r) κs) (e : level_stands_reads.Post κs a x s) where
  -- dIAE does not stand where dTIM does
  pub iae_through_tim : x.tim ≡ true → x.iae ≡ true → ⊥
  unfolding stands_by
  iae_through_tim tim iae =
      let h : tim_of a.0.now.layer a.1.0.now.mode a.1.0.now.names ≡ true = ap (λ (d : LevelStands). d.tim) (sym e) ∙ tim in
      true≢false (sym iae ∙ ap (λ (d : LevelStands). d.iae) e ∙ rw h (and-false (raises_iae (status_for a.0.now.stat))))

-- level_step
module _ (κs : Lfts 4) (a : Dens κs level_step_kinds.ps) (x : LevelStands)
    (s : AtExit (ended_of 4 level_step_kinds.ps level_step_kinds.r) κs) (e : level_step_reads.Post κs a x s) where
  -- the second frame of 000 raises no dLTC
  pub ltc_at_two : a.0.now.stat ≡ record { value = 0; run = 1; known = false; accepted = 0 } → a.1.1.0 ≡ false → a.1.1.1.1.0.now.stat ≡ 0
      → x.status ≡ Ltc → ⊥
  unfolding level_of stands_by status_for stat_of in_row up_of
  ltc_at_two one ssf zero ltc = let h : Clear ≡ Ltc = simp ((stood κs a x s e), one, ssf, zero) at ltc in false≢true (ap raises_ltc h)

  -- dTIM does not forget STAT: outside SSF it is kept
  pub stat_forgotten : a.0.now.stat.known ≡ true → a.1.1.0 ≡ false → s.0.now.stat.known ≡ false → ⊥
  unfolding level_of stat_of
  stat_forgotten known ssf gone =
      let third = eqb (in_row a.0.now.stat a.1.1.1.1.0.now.stat) 3 in
      let h : (third || true) ≡ false = simp (next κs a x s e, known, ssf) at gone in
      true≢false (sym (or-true third) ∙ h)

  -- dBIAE is false during dAIS
  pub biae_through_ais : x.status ≡ Ais → x.biae ≡ true → ⊥
  biae_through_ais ais biae =
      let h : dAIS (level_frame a.0.now a.1.0.now a.1.1.0 a.1.1.1.0.now a.1.1.1.1.0.now).stands ≡ true = ap (λ (d : LevelStands). dAIS d) (sym (stood κs a x s e)) ∙ ap raises_ais ais in
      let all = (each_frame a.0.now a.1.0.now a.1.1.0 a.1.1.1.0.now a.1.1.1.1.0.now).in_ais h in
      true≢false (sym biae ∙ ap (λ (d : LevelStands). d.biae) (stood κs a x s e) ∙ all.1.1.1.1.1.1.0)

  -- dLTC forgets nothing: dBDI stays
  pub ltc_forgets : a.1.1.0 ≡ false → x.status ≡ Ltc → a.0.now.layer.bdi.on ≡ true → a.1.1.1.1.0.now.bdi ≡ true → x.bdi ≡ false → ⊥
  unfolding level_of stands_by layer_of filter_of
  ltc_forgets ssf ltc on bdi off =
      let h : status_for (stat_of a.0.now.stat a.1.1.0 a.1.1.1.1.0.now.stat) ≡ Ltc = ap (λ (d : LevelStands). d.status) (sym (stood κs a x s e)) ∙ ltc in
      let g : status_for (stat_of a.0.now.stat false a.1.1.1.1.0.now.stat) ≡ Ltc = rw ssf at h in
      let z : true ≡ false = simp ((stood κs a x s e), ssf, g, on, bdi) at off in
      true≢false z

-- level_actions
module _ (κs : Lfts 0) (a : Dens κs level_actions_kinds.ps) (x : LevelActions)
    (s : AtExit (ended_of 0 level_actions_kinds.ps level_actions_kinds.r) κs) (e : level_actions_reads.Post κs a x s) where
  -- dLTC fails the level
  pub ltc_passes : a.0.ssf ≡ false → a.0.status ≡ Ltc → x.tsf ≡ false → ⊥
  ltc_passes ssf ltc tsf = let h : true ≡ false = simp (e, ssf, ltc) at tsf in true≢false h

  -- a dTIM that does not act does not
  pub disabled_fails : a.0.ssf ≡ false → a.0.status ≡ Clear → a.0.disabled ≡ true → a.0.tim ≡ true → x.tsf ≡ true → ⊥
  unfolding tim_acts
  disabled_fails ssf clear dis tim tsf = let h : false ≡ true = simp (e, ssf, clear, dis, tim) at tsf in false≢true h

-- level_causes
module _ (κs : Lfts 0) (a : Dens κs level_causes_kinds.ps) (x : LevelCauses)
    (s : AtExit (ended_of 0 level_causes_kinds.ps level_causes_kinds.r) κs) (e : level_causes_reads.Post κs a x s) where
  -- cTIM is not masked by TIMActDis
  pub tim_masked : a.0.ssf ≡ false → a.0.status ≡ Clear → a.0.disabled ≡ true → a.0.tim ≡ true → x.tim ≡ false → ⊥
  tim_masked ssf clear dis tim w = let h : true ≡ false = simp (e, ssf, clear, tim) at w in true≢false h

  -- but by dLTC
  pub tim_under_ltc : a.0.ssf ≡ false → a.0.status ≡ Ltc → a.0.tim ≡ true → x.tim ≡ true → ⊥
  tim_under_ltc ssf ltc tim w = let h : false ≡ true = simp (e, ssf, ltc, tim) at w in false≢true h

-- level_shows
module _ (κs : Lfts 0) (a : Dens κs level_shows_kinds.ps) (x : Shows)
    (s : AtExit (ended_of 0 level_shows_kinds.ps level_shows_kinds.r) κs) (e : level_shows_reads.Post κs a x s) where
  -- dTIM stops no count
  pub tim_stops : a.0.ssf ≡ false → a.0.status ≡ Clear → a.0.tim ≡ true → x.stopped ≡ true → ⊥
  tim_stops ssf clear tim w = let h : false ≡ true = simp (e, ssf, clear) at w in false≢true h

  -- nor does dIAE
  pub iae_stops : a.0.ssf ≡ false → a.0.status ≡ Iae → x.stopped ≡ true → ⊥
  iae_stops ssf iae w = let h : false ≡ true = simp (e, ssf, iae) at w in false≢true h

-- level_count
module _ (κs : Lfts 2) (a : Dens κs level_count_kinds.ps)
    (s : AtExit (ended_of 2 level_count_kinds.ps level_count_kinds.r) κs) (e : level_count_reads.Post κs a tt s) where
  -- no block is counted during dLTC
  pub near_under_ltc : a.0.now.blocks.near.0 ≡ 0 → a.1.0.now.ssf ≡ false → a.1.0.now.status ≡ Ltc → a.1.1.1.0 ≡ 1 → s.0.now.blocks.near.0 ≡ 1 → ⊥
  unfolding level_count blocks_of near_of
  near_under_ltc zero ssf ltc one near = let h : ◌≡◌ {A = ℕ} 0 1 = simp (e, ssf, ltc, one, zero) at near in omega arith

  -- a dIAE that stood once is not taken back
  pub iae_taken_back : a.0.now.iae ≡ true → s.0.now.iae ≡ false → ⊥
  unfolding level_count
  iae_taken_back stood w = let h : true ≡ false = simp (e, stood) at w in true≢false h

-- level_closed
module _ (κs : Lfts 0) (a : Dens κs level_closed_kinds.ps) (x : Blocks)
    (s : AtExit (ended_of 0 level_closed_kinds.ps level_closed_kinds.r) κs) (e : level_closed_reads.Post κs a x s) where
  -- a second in which dIAE stood loses its near values
  pub iae_keeps_near : a.0.blocks.near.0 ≡ 1 → a.0.iae ≡ true → x.near.0 ≡ 1 → ⊥
  unfolding discard_of
  iae_keeps_near one iae near = let h : ◌≡◌ {A = ℕ} 0 1 = simp (e, iae) at near in omega arith

  -- one in which dBIAE alone did keeps them
  pub biae_takes_near : a.0.blocks.near.0 ≡ 1 → a.0.iae ≡ false → a.0.biae ≡ true → x.near.0 ≡ 0 → ⊥
  unfolding discard_of
  biae_takes_near one iae biae near = let h : ◌≡◌ {A = ℕ} 1 0 = simp (e, iae, one) at near in omega arith

-- level_mark, where DEGM is 2, DEGThr 1, and the second had one block
module _ (κs : Lfts 3) (a : Dens κs level_mark_kinds.ps)
    (s : AtExit (ended_of 3 level_mark_kinds.ps level_mark_kinds.r) κs) (e : level_mark_reads.Post κs a tt s) where
  abbrev Given : Type 0
  Given = (a.0.now.layer.deg ≡ record { on = false; run = 0 }) × (a.1.0.now.degm ≡ 2) × (a.1.0.now.thr ≡ 1) × (a.1.1.0.now.blocks.near.0 ≡ 1)

  -- dDEG is decided after the discard
  pub bad_before_discard : Given → a.1.1.0.now.iae ≡ true → s.0.now.layer.deg.run ≡ 1 → ⊥
  unfolding level_marked discard_of filter_of
  bad_before_discard g iae w = let h : ◌≡◌ {A = ℕ} 0 1 = simp (e, g.0, g.1, g.2, iae) at w in omega arith

  -- "at least DEGThr" is bad
  pub thr_not_bad : Given → a.1.1.0.now.iae ≡ false → s.0.now.layer.deg.run ≡ 0 → ⊥
  unfolding level_marked discard_of filter_of up_of
  thr_not_bad g iae w = let h : ◌≡◌ {A = ℕ} 1 0 = simp (e, g.0, g.1, g.2, iae, g.3) at w in omega arith

-- fresh_level
module _ (κs : Lfts 0) (a : Dens κs fresh_level_kinds.ps) (x : LevelState)
    (s : AtExit (ended_of 0 fresh_level_kinds.ps fresh_level_kinds.r) κs) (e : fresh_level_reads.Post κs a x s) where
  -- a fresh level has accepted no STAT
  pub fresh_accepted : x.stat.known ≡ true → ⊥
  fresh_accepted known = let h : false ≡ true = rw e at known in false≢true h

-- fresh_level_second
module _ (κs : Lfts 0) (a : Dens κs fresh_level_second_kinds.ps) (x : LevelSecond)
    (s : AtExit (ended_of 0 fresh_level_second_kinds.ps fresh_level_second_kinds.r) κs) (e : fresh_level_second_reads.Post κs a x s) where
  -- no dIAE stood yet
  pub opens_discarded : x.iae ≡ true → ⊥
  opens_discarded iae = let h : false ≡ true = rw e at iae in false≢true h
