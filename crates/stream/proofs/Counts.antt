-- Wherever a scan stands its offset and its frames are `Counted`; and a record that is cut lies in fewer than 83 bytes. Assumes nothing.
use Prim.Native.Nat.{ℕ, ◌+◌, ◌-◌, ◌*◌, ◌≤◌, ◌<◌}
use mathlib.Core.Path.{◌≡◌, refl, ◌∙◌, ap, sym, subst}
use mathlib.Core.Bool.{Bool, true, false}
use mathlib.Core.List.{List, []}
use native.Mathlib.Nat.{add_assoc, add-zero, add-sub_cancel_left}
use native.Mathlib.Omega.{arith}
use lib.Dec.{eqb, ltb}
use lib.Seq.{drop-drop}
use lib.ListN.{length, get_or, take, drop, length-append, length-drop, drop_of_length-le}
use borrow.Author.Tests.{ltb-true, lt-ltb, eq-eqb}
use Rattle.answer.proofs.Checks.{passed}
use Rattle.answer.proofs.Cond.{by_cond, not_so}
use Rattle.filter.specs.Filter.{up_of}
use Rattle.history.specs.History.{Frame as Sent}
use Rattle.settings.specs.Settings.{settings_refusal}
use Rattle.second.specs.Second.{count_of, one_frame}
use Rattle.supervisor.specs.Supervisor.{provision_of, step_checks, step_refusal, frame_of, next_second, mark_of}
use Rattle.settings.specs.declared.Request.{Request}
use Rattle.supervisor.specs.Supervisor.{Provisioned}
use Rattle.supervisor.specs.declared.Supervisor.{Supervisor}
use Rattle.tandem.specs.Tandem as tandem
use Rattle.tandem.specs.Tandem.{record_refusal}
use Rattle.tandem.specs.declared.Tandem.{Tandem}
use Rattle.tandem.specs.Tandem.{TandemMarked}
use Rattle.tandem.proofs.Turns.{figures_long}
use Rattle.watch.specs.Watch.{marks, refusal_at, framed_at, tandem_by}
use Rattle.watch.proofs.Silent.{given_base}
use Rattle.watch.proofs.Alone.{plain_accepts, frame_accepted}
use Rattle.record.specs.Record.{kind_of, record_of, records_from, size_of, body_of, frames_in, section_in, path_in, level_in}
use Rattle.trace.specs.Scan.{start_of, no_counts, counts_in, give_in, framed_of, provisioned_of, applied_of, taken_of, run_of}
use Rattle.stream.specs.Stream.{Scan, scan_over, scan_from}
use Rattle.stream.specs.Counts.{given_among, Counted}
use Rattle.stream.specs.Figures.{sent_in, after_call}
use Rattle.record.specs.declared.Record.{Record}
use Rattle.record.specs.declared.Record.TheVariants.{Frame, Mark, Provisioning, Level, LevelFrame, Refused}
use Rattle.trace.specs.declared.State.{State}
use Rattle.trace.specs.Scan.{Taken}
use Rattle.trace.specs.Scan.{Run}
use Rattle.trace.specs.declared.Stop.TheVariants as stop
use Rattle.record.proofs.Records.{Whole, whole_record}
use Rattle.trace.proofs.Scans.{sized, some_left, run_end, run_refused, run_reported, run_told, run_on}
use Rattle.stream.proofs.Streams.{along, scan_refused, scan_on}
use Rattle.late.specs.Late.{late_marked}
use Rattle.late.specs.declared.Late.{Late}
use Rattle.late.specs.Late.{LateMarked}
use Rattle.reports.specs.Reports.{late_by}
use Rattle.stream.proofs.Calls.{few_given, frame_levels, mark_levels, record_levels}
use Rattle.stream.proofs.Lates.{late_tandem, reported_long}
use Rattle.stream.proofs.Taking.{framed_uncut, marked_uncut, given_uncut, provisioned_uncut, answered_taken, frame_taken, mark_taken, level_taken}

-- a record that is refused as cut lies in fewer than 83 bytes
cut_by : (st : State) (ys body : List ℕ) (r : Record) → Whole ys r → (applied_of st r body).refusal ≡ 14 → length ys < 83
cut_by st ys body Frame h e = absurd (framed_uncut st (kind_of Frame) body no_counts e)
cut_by st ys body Mark h e = absurd (marked_uncut st e)
cut_by st ys body Provisioning h e = absurd (provisioned_uncut st body e)
cut_by st ys body Level h e = absurd (given_uncut st body e)
cut_by st ys body LevelFrame h e = absurd (framed_uncut st (kind_of LevelFrame) body (counts_in body) e)
cut_by st ys body (Refused n) h e = h.1 e

pub cut_short : (st : State) (ys : List ℕ) → (taken_of st ys).refusal ≡ 14 → length ys < 83
unfolding taken_of
cut_short st ys = cut_by st ys (body_of (record_of ys) ys) (record_of ys) (whole_record ys)

-- the supervisor after an accepted frame, an accepted mark and a provisioning, as far as it is counted
pub record Frames (s t : Supervisor) : Type 0 where
  pub room : s.second.frames.0 < 400000
  pub more : t.second.frames.0 ≡ s.second.frames.0 + 1
  pub same : t.seconds ≡ s.seconds

pub frame_frames : (t : Tandem) (f : Sent) (counts : List ℕ) → refusal_at t f counts ≡ 0 → Frames t.base (framed_at t f counts).tandem.base
unfolding step_refusal frame_of count_of one_frame up_of
frame_frames t f counts e =
    let p = passed 4 (step_checks t.base f.overhead f.flags f.sm f.pm) refl (plain_accepts t f counts e) in
    let l : t.base.second.frames.0 < 400000 = ltb-true _ _ p.1.1.1.0 in
    rw (frame_accepted t f counts e) (record { room = l; more = rw (lt-ltb t.base.second.frames.0 400000 l); same = refl })

pub record Marks (t : Tandem) (m : TandemMarked) : Type 0 where
  pub room : t.base.seconds < 4294967295
  pub none : m.tandem.base.second.frames.0 ≡ 0
  pub more : m.tandem.base.seconds ≡ t.base.seconds + 1
  pub figures : length m.figures ≡ 22 + 5 * length t.levels

pub mark_marks : (t : Tandem) → (tandem.marked_of t).refusal ≡ 0 → Marks t (tandem.marked_of t)
unfolding tandem.marked_of mark_of next_second
mark_marks t = by (ltb t.base.seconds 4294967295) refl
  where
    by : (b : Bool) → ltb t.base.seconds 4294967295 ≡ b → (tandem.marked_of t).refusal ≡ 0 → Marks t (tandem.marked_of t)
    by true e _ = rw e (record { room = ltb-true _ _ e; none = refl; more = refl; figures = rw (length-append, figures_long t.levels) })
    by false e z = let four : ◌≡◌ {A = ℕ} 4 0 = rw e at z in absurd (omega arith)

-- and the pending second
pub record Lates (m : LateMarked) : Type 0 where
  pub figures : length m.figures ≡ 52
  pub pending : length m.late.pending ≡ 51

late_marks : (s : Late) → length s.pending ≡ 51 → length s.tandem.levels ≡ 6 → (tandem.marked_of s.tandem).refusal ≡ 0 → Lates (late_marked s)
unfolding late_marked
late_marks s long six e =
    let f = mark_marks s.tandem e in
    rw (eq-eqb _ _ e) (record { figures = omega (arith, reported_long s long six); pending = simp length-drop (omega (arith, f.figures)) })

provision_none : (k : ℕ) (section path : Request) (snames pnames : List ℕ) → ((provision_of k section path snames pnames).supervisor.seconds ≡ 0) × ((provision_of k section path snames pnames).supervisor.second.frames.0 ≡ 0)
unfolding provision_of
provision_none k section path snames pnames =
    by_cond (λ (p : Provisioned). (p.supervisor.seconds ≡ 0) × (p.supervisor.second.frames.0 ≡ 0)) (eqb (settings_refusal k section path snames pnames) 0) (λ _. (refl, refl)) (λ _. (refl, refl))

-- a scan starts so, and every accepted record keeps it so
pub start_counted : Counted 0 0 start_of
start_counted = record {
  fresh = λ _. (refl, refl);
  held = omega arith;
  seconds = omega arith;
  few = omega arith;
  figures = refl;
  pending = refl;
  six = refl;
  most = omega arith;
  within = omega arith;
}

module _ (at n : ℕ) (st : State) (h : Counted at n st) where
  abbrev Kept : Record → Taken → Type 0
  Kept r t = t.refusal ≡ 0 → Counted (at + size_of r) (n + frames_in r) t.state

  kept_frame : (kind size : ℕ) (body counts : List ℕ) → size ≤ 77 → (framed_of st kind body counts).refusal ≡ 0
      → Counted (at + size) (n + 1) (framed_of st kind body counts).state
  unfolding late_by tandem_by
  kept_frame kind size body counts short e =
      let z = frame_taken st kind body counts e in
      let f = frame_frames st.sup.tandem (sent_in body) counts z.1 in
      let l = frame_levels st.sup.tandem (sent_in body) counts z.1 in
      rw z.2 (record {
        fresh = λ b. absurd (not_so b);
        held = omega (arith, f.room, f.more);
        seconds = omega (arith, f.same, h.seconds);
        few = omega (arith, f.more, f.same, h.few);
        figures = h.figures;
        pending = h.pending;
        six = l.six ∙ h.six;
        most = omega (arith, l.given, h.most);
        within = omega (arith, f.same, l.given, h.within);
      })

  kept_by : (ys : List ℕ) (r : Record) (body : List ℕ) → Whole ys r → Kept r (applied_of st r body)
  unfolding provisioned_of late_by tandem_by
  kept_by ys Frame body w e = kept_frame (kind_of Frame) 71 body no_counts (omega arith) e
  kept_by ys LevelFrame body w e = kept_frame (kind_of LevelFrame) 77 body (counts_in body) (omega arith) e
  kept_by ys Mark body w e =
      let z = mark_taken st e in
      let f = mark_marks st.sup.tandem z.0 in
      let l = mark_levels st.sup.tandem in
      let q = late_marks st.sup h.pending h.six z.0 in
      let same = late_tandem st.sup in
      let frames = ap (λ (t : Tandem). t.base.second.frames.0) same in
      let seconds = ap (λ (t : Tandem). t.base.seconds) same in
      let given = ap (λ (t : Tandem). given_among t.levels) same in
      rw z.1 (record {
        fresh = λ b. absurd (not_so b);
        held = omega (arith, frames, f.none);
        seconds = omega (arith, seconds, f.room, f.more);
        few = omega (arith, frames, seconds, f.none, f.more, h.few, h.held);
        figures = q.figures;
        pending = q.pending;
        six = ap (λ (t : Tandem). length t.levels) same ∙ l.six ∙ h.six;
        most = omega (arith, given, l.given, h.most);
        within = omega (arith, seconds, given, f.more, l.given, h.within);
      })
  kept_by ys Level body w e =
      let z = level_taken st body e in
      let b = given_base (record_refusal st.sup.tandem (get_or body 0 0) (level_in body) (take 32 (drop 8 body))) st.sup.tandem (get_or body 0 0) (level_in body) (take 32 (drop 8 body)) in
      let l = record_levels st.sup.tandem (get_or body 0 0) (level_in body) (take 32 (drop 8 body)) h.six z.0 in
      let six = l.six ∙ h.six in
      rw z.1 (record {
        fresh = λ b. absurd (not_so b);
        held = rw b h.held;
        seconds = rw b h.seconds;
        few = rw b (omega (arith, h.few));
        figures = h.figures;
        pending = h.pending;
        six = six;
        most = omega (arith, six, few_given (give_in st body).tandem.levels);
        within = rw b (omega (arith, l.given, h.within));
      })
  kept_by ys Provisioning body w e =
      by_cond (Kept Provisioning) st.begun
      (λ _ e. absurd (omega (arith, e)))
      (λ b e.
      let a = answered_taken st _ false _ e in
      let f = provision_none (get_or body 0 0) (section_in body) (path_in body) (take 32 (drop 15 body)) (take 32 (drop 47 body)) in
      let z = h.fresh b in
      rw a.1 (record {
        fresh = λ z. absurd (not_so z);
        held = omega (arith, f.1);
        seconds = omega (arith, f.0);
        few = omega (arith, f.0, f.1, z.1);
        figures = h.figures;
        pending = refl;
        six = refl;
        most = omega arith;
        within = omega (arith, f.0, z.0, z.1);
      }))
      e
  kept_by ys (Refused m) body w e = absurd (omega (arith, w.0, e))

  pub taken_counted : (ys : List ℕ) → Kept (record_of ys) (taken_of st ys)
  unfolding taken_of
  taken_counted ys = kept_by ys (record_of ys) (body_of (record_of ys) ys) (whole_record ys)

-- and so does a run over a buffer that starts at the offset base, m frames before it
module _ (tell : Bool) (s : List ℕ) (base m : ℕ) where
  abbrev Keeps : ℕ → ℕ → State → Type 0
  Keeps at n st = Counted (base + at) (m + n) st → Counted (base + (run_of tell s at n st).at) (m + (run_of tell s at n st).frames) (run_of tell s at n st).state

  pub run_counted : (at n : ℕ) (st : State) → Keeps at n st
  run_counted =
      along s Keeps
      (λ at n st l h. rw (run_end tell s at n st l) h)
      (λ at n st l z h. rw (run_refused (drop at s) at n st tell (some_left s at l) z) h)
      (λ at n st l e c _ h. rw (run_reported (drop at s) at n st e tell c) (next at n st e h))
      (λ at n st l e c ih h. further tell refl at n st l e c ih h)
    where
      next : (at n : ℕ) (st : State) → (taken_of st (drop at s)).refusal ≡ 0 → Counted (base + at) (m + n) st
          → Counted (base + (at + size_of (record_of (drop at s)))) (m + (n + frames_in (record_of (drop at s)))) (taken_of st (drop at s)).state
      next at n st e h = rw (← add_assoc base at (size_of (record_of (drop at s))), ← add_assoc m n (frames_in (record_of (drop at s)))) (taken_counted (base + at) (m + n) st h (drop at s) e)

      further : (b : Bool) → tell ≡ b → (at n : ℕ) (st : State) → at < length s → (taken_of st (drop at s)).refusal ≡ 0 → (taken_of st (drop at s)).told ≡ false
          → Keeps (at + size_of (record_of (drop at s))) (n + frames_in (record_of (drop at s))) (taken_of st (drop at s)).state → Keeps at n st
      further true z at n st l e c ih h = rw (z, run_told (drop at s) at n st e c) (next at n st e h)
      further false z at n st l e c ih h = rw (z, run_on (drop at s) at n st e c, drop-drop (size_of (record_of (drop at s))) at s) (rw z at (ih (next at n st e h)))

-- an accepted record from one place to the next: it has 44 bytes at least, or is a mark
pub data Quiet (at to : ℕ) (st next : State) : Type 0 where
  wide : at + 44 ≤ to → Quiet at to st next
  marked : next ≡ after_call 0 st marks → Quiet at to st next

quiet_by : (st : State) (ys : List ℕ) (r : Record) (body : List ℕ) (at : ℕ) → Whole ys r → (applied_of st r body).refusal ≡ 0 → Quiet at (at + size_of r) st (applied_of st r body).state
quiet_by st ys Frame body at w e = wide (omega arith)
quiet_by st ys Mark body at w e = marked (ap (λ (t : Taken). t.state) (mark_taken st e).1)
quiet_by st ys Provisioning body at w e = wide (omega arith)
quiet_by st ys Level body at w e = wide (omega arith)
quiet_by st ys LevelFrame body at w e = wide (omega arith)
quiet_by st ys (Refused n) body at w e = absurd (omega (arith, w.0, e))

quiet : (st : State) (ys : List ℕ) (at : ℕ) → (taken_of st ys).refusal ≡ 0 → Quiet at (at + size_of (record_of ys)) st (taken_of st ys).state
unfolding taken_of
quiet st ys at = quiet_by st ys (record_of ys) (body_of (record_of ys) ys) at (whole_record ys)

-- Where a run stops: not before it began, within the list, at least four bytes on where a second was reported or a record told, and with fewer
-- than 83 bytes left where a record was cut.
pub record Stands (s : List ℕ) (at : ℕ) (r : Run) : Type 0 where
  pub later : at ≤ r.at
  pub inside : r.at ≤ length s
  pub further : r.stop ≡ stop.Reported → at + 4 ≤ r.at
  pub told : r.stop ≡ stop.Told → at + 4 ≤ r.at
  pub all : r.stop ≡ stop.More → r.at ≡ length s
  pub same : (n o : ℕ) → r.stop ≡ stop.Refused n o → o ≡ r.at
  pub cut : (o : ℕ) → r.stop ≡ stop.Refused 14 o → length s < r.at + 83

absurd_stop : {A : Type 0} → ◌≡◌ {A = ℕ} 0 1 → A
absurd_stop z = absurd (omega (arith, z))

module _ (tell : Bool) (s : List ℕ) where
  abbrev Standing : ℕ → ℕ → State → Type 0
  Standing at n st = at ≤ length s → Stands s at (run_of tell s at n st)

  pub stands : (at n : ℕ) (st : State) → Standing at n st
  stands =
      along s Standing
      (λ at n st l w. rw (run_end tell s at n st l) (record {
        later = omega arith;
        inside = w;
        further = λ q. absurd_stop cc;
        told = λ q. absurd_stop cc;
        all = λ _. omega arith;
        same = λ m o q. absurd_stop cc;
        cut = λ o q. absurd_stop cc;
      }))
      (λ at n st l z w. rw (run_refused (drop at s) at n st tell (some_left s at l) z) (record {
        later = omega arith;
        inside = w;
        further = λ q. absurd_stop cc;
        told = λ q. absurd_stop cc;
        all = λ q. absurd_stop cc;
        same = λ m o q. cc;
        cut = λ o q. let e : (taken_of st (drop at s)).refusal ≡ 14 = cc in omega (arith, simp length-drop at (cut_short st (drop at s) e));
      }))
      (λ at n st l e c _ w.
      let z = sized st (drop at s) e in
      rw (run_reported (drop at s) at n st e tell c) (record {
        later = omega arith;
        inside = omega (arith, simp length-drop at z.long);
        further = λ _. omega (arith, z.some);
        told = λ q. absurd_stop cc;
        all = λ q. absurd_stop cc;
        same = λ m o q. absurd_stop cc;
        cut = λ o q. absurd_stop cc;
      }))
      (λ at n st l e c ih w. quietly tell refl at n st l e c ih)
    where
      quietly : (b : Bool) → tell ≡ b → (at n : ℕ) (st : State) → at < length s → (taken_of st (drop at s)).refusal ≡ 0 → (taken_of st (drop at s)).told ≡ false
          → Standing (at + size_of (record_of (drop at s))) (n + frames_in (record_of (drop at s))) (taken_of st (drop at s)).state → Stands s at (run_of tell s at n st)
      quietly true b at n st l e c ih =
          let z = sized st (drop at s) e in
          rw (b, run_told (drop at s) at n st e c) (record {
            later = omega arith;
            inside = omega (arith, simp length-drop at z.long);
            further = λ q. absurd_stop cc;
            told = λ _. omega (arith, z.some);
            all = λ q. absurd_stop cc;
            same = λ m o q. absurd_stop cc;
            cut = λ o q. absurd_stop cc;
          })
      quietly false b at n st l e c ih =
          let z = sized st (drop at s) e in
          let h = rw b at (ih (omega (arith, simp length-drop at z.long))) in
          rw (b, run_on (drop at s) at n st e c, drop-drop (size_of (record_of (drop at s))) at s) (record {
            later = omega (arith, h.later);
            inside = h.inside;
            further = λ q. omega (arith, h.further q);
            told = λ q. omega (arith, h.told q);
            all = h.all;
            same = h.same;
            cut = h.cut;
          })

-- A run that stopped at a record told took that one alone.
module _ (s : List ℕ) where
  untold : (at n : ℕ) (st : State) → (run_of false s at n st).stop ≡ stop.Told → ⊥
  untold =
      along s (λ at n st. (run_of false s at n st).stop ≡ stop.Told → ⊥)
      (λ at n st l q. let z : stop.More ≡ stop.Told = rw (run_end false s at n st l) at q in absurd_stop cc)
      (λ at n st l z q. let y : stop.Refused (taken_of st (drop at s)).refusal at ≡ stop.Told = rw (run_refused (drop at s) at n st false (some_left s at l) z) at q in absurd_stop cc)
      (λ at n st l e c _ q. let y : stop.Reported ≡ stop.Told = rw (run_reported (drop at s) at n st e false c) at q in absurd_stop cc)
      (λ at n st l e c h q. h (rw (run_on (drop at s) at n st e c, drop-drop (size_of (record_of (drop at s))) at s) at q))

  told_true : (at n : ℕ) (st : State) → (run_of true s at n st).stop ≡ stop.Told → Quiet at (run_of true s at n st).at st (run_of true s at n st).state
  told_true =
      along s (λ at n st. (run_of true s at n st).stop ≡ stop.Told → Quiet at (run_of true s at n st).at st (run_of true s at n st).state)
      (λ at n st l q. let z : stop.More ≡ stop.Told = rw (run_end true s at n st l) at q in absurd_stop cc)
      (λ at n st l z q. let y : stop.Refused (taken_of st (drop at s)).refusal at ≡ stop.Told = rw (run_refused (drop at s) at n st true (some_left s at l) z) at q in absurd_stop cc)
      (λ at n st l e c _ q. let y : stop.Reported ≡ stop.Told = rw (run_reported (drop at s) at n st e true c) at q in absurd_stop cc)
      (λ at n st l e c _ q. rw (run_told (drop at s) at n st e c) (quiet st (drop at s) at e))

  pub told_quiet : (tell : Bool) (at n : ℕ) (st : State) → (run_of tell s at n st).stop ≡ stop.Told → Quiet at (run_of tell s at n st).at st (run_of tell s at n st).state
  told_quiet true at n st q = told_true at n st q
  told_quiet false at n st q = absurd (untold at n st q)

-- Where a scan stands, of s that starts at the offset base: its offset lies in s, what is left is what follows it there; it is `Counted`; and
-- where it could go on, fewer than 83 bytes are left.
pub record Comes (s : List ℕ) (base at : ℕ) (c : Scan) : Type 0 where
  pub low : base + at ≤ c.at
  pub high : at ≤ length s → c.at ≤ base + length s
  pub rest : c.rest ≡ drop (c.at - base) s
  pub counted : Counted c.at c.frames c.state
  pub none : c.refusal ≡ 0 → length c.rest ≡ 0
  pub cut : c.refusal ≡ 14 → length c.rest < 83

module _ (tell : Bool) (s : List ℕ) (base m : ℕ) where
  abbrev Coming : ℕ → ℕ → State → Type 0
  Coming at n st = Counted (base + at) (m + n) st → Comes s base at (scan_from tell (drop at s) (base + at) (m + n) st)

  coming_end : (at n : ℕ) (st : State) → length s ≤ at → Coming at n st
  unfolding scan_over records_from
  coming_end at n st l h =
      let z : drop at s ≡ [] = drop_of_length-le s l in
      rw z (record {
        low = omega arith;
        high = λ w. omega (arith, w);
        rest = rw (add-sub_cancel_left base at) (sym z);
        counted = h;
        none = λ _. refl;
        cut = λ _. omega arith;
      })

  coming_refused : (at n : ℕ) (st : State) → at < length s → ((taken_of st (drop at s)).refusal ≡ 0 → ⊥) → Coming at n st
  coming_refused at n st l z h =
      rw (scan_refused tell (drop at s) (base + at) (m + n) st (some_left s at l) z) (record {
        low = omega arith;
        high = λ _. omega arith;
        rest = rw (add-sub_cancel_left base at);
        counted = h;
        none = λ e. absurd (z e);
        cut = cut_short st (drop at s);
      })

  coming_on : (at n : ℕ) (st : State) → at < length s → (taken_of st (drop at s)).refusal ≡ 0
      → Coming (at + size_of (record_of (drop at s))) (n + frames_in (record_of (drop at s))) (taken_of st (drop at s)).state → Coming at n st
  coming_on at n st l e ih h =
      let z = sized st (drop at s) e in
      let f : at + size_of (record_of (drop at s)) ≤ length s = omega (arith, simp length-drop at z.long) in
      let g : Counted (base + (at + size_of (record_of (drop at s)))) (m + (n + frames_in (record_of (drop at s)))) (taken_of st (drop at s)).state = rw (← add_assoc base at (size_of (record_of (drop at s))), ← add_assoc m n (frames_in (record_of (drop at s)))) (taken_counted (base + at) (m + n) st h (drop at s) e) in
      let k = ih g in
      rw (scan_on tell (drop at s) (base + at) (m + n) st e, drop-drop (size_of (record_of (drop at s))) at s, add_assoc base at (size_of (record_of (drop at s))), add_assoc m n (frames_in (record_of (drop at s)))) (record {
        low = omega (arith, k.low);
        high = λ _. k.high f;
        rest = k.rest;
        counted = k.counted;
        none = k.none;
        cut = k.cut;
      })

  coming : (at n : ℕ) (st : State) → Coming at n st
  coming = along s Coming coming_end coming_refused (λ at n st l e c h. coming_on at n st l e h) (λ at n st l e c h. coming_on at n st l e h)

pub comes : (tell : Bool) (s : List ℕ) (at n : ℕ) (st : State) → Counted at n st → Comes s at 0 (scan_from tell s at n st)
comes tell s at n st h =
    subst (λ (k : ℕ). Comes s at 0 (scan_from tell s at k st)) (add-zero n)
    (subst (λ (k : ℕ). Comes s at 0 (scan_from tell s k (n + 0) st)) (add-zero at) (coming tell s at n 0 0 st (rw (add-zero at, add-zero n) h)))
