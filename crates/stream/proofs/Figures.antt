-- Demand 3 for the reader. Assumes nothing.
use Prim.Native.Nat.{ℕ, pred, ◌+◌, ◌≤◌}
use mathlib.Core.Path.{◌≡◌, refl, ◌∙◌, ap, sym, subst, subst⁻¹}
use mathlib.Core.Bool.{Bool, true, false, cond, ◌||◌}
use mathlib.Core.List.{List, [], ◌∷◌, ◌++◌, map, map-append}
use native.Mathlib.Omega.{arith}
use lib.Dec.{eqb}
use lib.ListN.{get_or, take, drop}
use borrow.Author.Tests.{eqb-true, eq-eqb}
use Rattle.answer.proofs.Cond.{by_cond, not_so}
use Rattle.history.specs.Ledger.{marks as marks_among}
use Rattle.history.specs.History.{Event, frame, mark, event_of, after, Accepted}
use Rattle.settings.specs.Settings.{settings_refusal}
use Rattle.settings.specs.Ranges.{SettingsIn}
use Rattle.settings.proofs.Ranges.{provisioned_in}
use Rattle.supervisor.specs.Supervisor.{fresh_of, provision_of, frame_of, next_second}
use Rattle.settings.specs.declared.Request.{Request}
use Rattle.settings.specs.declared.Settings.{Settings}
use Rattle.supervisor.specs.Supervisor.{Provisioned}
use Rattle.supervisor.specs.declared.Supervisor.{Supervisor}
use Rattle.history.proofs.History.{accepted_append}
use Rattle.history.proofs.Ledger.{demand_3}
use Rattle.tandem.specs.Levels.{listed_of}
use Rattle.tandem.specs.Tandem as tandem
use Rattle.tandem.specs.declared.Tandem.{Tandem}
use Rattle.watch.specs.Watch.{LevelCall, gives, records, frames, marks, tandem_by, tandem_after, refusal_of, AllTaken, events_among}
use Rattle.late.specs.Late.{fresh_late, pending_of, late_marked}
use Rattle.late.specs.declared.Late.{Late}
use Rattle.reports.specs.Reports.{late_by, late_after, late_at, calls_tell, end_tells, marks_in, second_at, up_to, LineDemand3, SumBounds}
use Rattle.reports.proofs.Reports.{reported}
use Rattle.watch.proofs.Calls.{events_first, plain_of}
use Rattle.record.specs.Record.{kind_of, record_of, records_from, records_of, size_of, body_of, frames_in, section_in, path_in}
use Rattle.trace.specs.Scan.{start_of, no_counts, counts_in, framed_of, marked_of, provisioned_of, given_of, applied_of, taken_of}
use Rattle.stream.specs.Stream.{Note, second, change, listed_in, last_listed, Scan, stopped, before, noted, scan_over, scan_of}
use Rattle.stream.specs.Figures.{sent_in, call_in, calls_over, calls_of, events_of, kind_over, kind_in, settings_in, frames_among, provisioned, after_call, note_of, told_by, told_first, figures_told, lines_in, seconds_of, ReaderDemand3, ReaderCounts, seconds_only, quietly, SameSeconds}
use Rattle.record.specs.declared.Record.{Record}
use Rattle.record.specs.declared.Record.TheVariants.{Frame, Mark, Provisioning, Level, LevelFrame, Refused}
use Rattle.trace.specs.declared.State.{State}
use Rattle.trace.specs.Scan.{Taken}
use Rattle.record.proofs.Records.{Whole, whole_record}
use Rattle.stream.proofs.Lates.{late_tandem, late_by_lem, late_after_lem}
use Rattle.stream.proofs.Listed.{mark_stays, listed_after}
use Rattle.stream.proofs.Taking.{provision_says, answered_taken, frame_taken, mark_taken, gives_in, level_taken}

marks_append : (a b : List Event) → marks_among (a ++ b) ≡ marks_among a + marks_among b
marks_append [] b = omega arith
marks_append (frame f ∷ a) b = marks_append a b
marks_append (mark ∷ a) b = omega (arith, marks_append a b)

frames_append : (a b : List Event) → frames_among (a ++ b) ≡ frames_among a + frames_among b
frames_append [] b = omega arith
frames_append (frame f ∷ a) b = omega (arith, frames_append a b)
frames_append (mark ∷ a) b = frames_append a b

-- the seconds closed are the marks
seconds_after : (s : Supervisor) (es : List Event) → (after s es).seconds ≡ s.seconds + marks_among es
unfolding after event_of frame_of next_second
seconds_after s [] = omega arith
seconds_after s (frame f ∷ es) = seconds_after (event_of s (frame f)) es
seconds_after s (mark ∷ es) = omega (arith, seconds_after (event_of s mark) es)

-- k is the kind of the frames: that of those accepted, and where none was that of the first to come
abbrev Kinds : ℕ → ℕ → ℕ → Type 0
Kinds k met next = cond (eqb met 0) next met ≡ k

frame_kind : (met q k : ℕ) → (eqb met 0 || eqb met q) ≡ true → Kinds k met q → q ≡ k
frame_kind met q k = by (eqb met 0) refl
  where
    by : (b : Bool) → eqb met 0 ≡ b → (b || eqb met q) ≡ true → cond b q met ≡ k → q ≡ k
    by true e same is = is
    by false e same is = sym (eqb-true met q same) ∙ is

-- What an accepted record is after the provisioning: one call, accepted; the state after it is the call's; it is told and counted as the call, and the kind
-- of the frames is kept. `next` is the kind of the first frame after it.
pub record Tells (k : ℕ) (st : State) (next : ℕ) (r : Record) (body : List ℕ) (t : Taken) : Type 0 where
  pub call : LevelCall
  pub is : call_in r body ≡ call ∷ []
  pub accepted : refusal_of st.sup.tandem call ≡ 0
  pub state : t.state ≡ after_call k st call
  pub told : (tell : Bool) (n : ℕ) → noted tell n st t ≡ note_of tell n st t.state call
  pub frames : frames_in r ≡ frames_among (events_among (call ∷ []))
  pub kinds : Kinds k t.state.kind next

abbrev kind_at : Record → ℕ → ℕ
kind_at r next = cond (eqb (frames_in r) 1) (kind_of r) next

module _ (k : ℕ) (st : State) (next : ℕ) (h : st.begun ≡ true) where
  tells_frame : (q : ℕ) (r : Record) (body counts : List ℕ) → call_in r body ≡ frames (sent_in body) counts ∷ [] → frames_in r ≡ 1 → eqb q 0 ≡ false → Kinds k st.kind q
      → (framed_of st q body counts).refusal ≡ 0 → Tells k st next r body (framed_of st q body counts)
  unfolding events_among
  tells_frame q r body counts is one some kind e =
      let z = frame_taken st q body counts e in
      let same = frame_kind st.kind q k z.0 kind in
      rw z.2 (record {
        call = frames (sent_in body) counts;
        is = is;
        accepted = z.1;
        state = ap (λ (m : ℕ). after_call m st (frames (sent_in body) counts)) same;
        told = λ tell n. refl;
        frames = one;
        kinds = rw some same;
      })

  tells_by : (ys : List ℕ) (r : Record) (body : List ℕ) → Whole ys r → Kinds k st.kind (kind_at r next) → (applied_of st r body).refusal ≡ 0
      → Tells k st next r body (applied_of st r body)
  unfolding provisioned_of events_among
  tells_by ys Frame body w kind e = tells_frame (kind_of Frame) Frame body no_counts refl refl refl kind e
  tells_by ys LevelFrame body w kind e = tells_frame (kind_of LevelFrame) LevelFrame body (counts_in body) refl refl refl kind e
  tells_by ys Mark body w kind e =
      let z = mark_taken st e in
      rw z.1 (record { call = marks; is = refl; accepted = z.0; state = refl; told = λ tell n. refl; frames = refl; kinds = kind })
  tells_by ys Level body w kind e =
      let z = level_taken st body e in
      rw z.1 (record { call = gives_in body; is = refl; accepted = z.0; state = refl; told = λ tell n. refl; frames = refl; kinds = kind })
  tells_by ys Provisioning body w kind e =
      by_cond (λ (t : Taken). t.refusal ≡ 0 → Tells k st next Provisioning body t) st.begun (λ _ e. absurd (omega (arith, e))) (λ b _. absurd (not_so (sym h ∙ b))) e
  tells_by ys (Refused n) body w kind e = absurd (omega (arith, w.0, e))

  tells : (ys : List ℕ) → Kinds k st.kind (kind_at (record_of ys) next) → (taken_of st ys).refusal ≡ 0
      → Tells k st next (record_of ys) (body_of (record_of ys) ys) (taken_of st ys)
  unfolding taken_of
  tells ys = tells_by ys (record_of ys) (body_of (record_of ys) ys) (whole_record ys)

-- What a scan is of the calls that it accepted, from a state on: it tells what they tell, and counts them.
pub record Accounts (tell : Bool) (k n : ℕ) (st : State) (cs : List LevelCall) (c : Scan) : Type 0 where
  pub told : c.told ≡ told_by tell k n st cs
  pub accepted : AllTaken st.sup.tandem cs
  pub late : c.state.sup ≡ late_after st.sup cs
  pub marks : c.state.sup.tandem.base.seconds ≡ st.sup.tandem.base.seconds + marks_among (events_among cs)
  pub frames : c.frames ≡ n + frames_among (events_among cs)

accounts_none : (tell : Bool) (k n : ℕ) (st : State) (at refusal : ℕ) (rest : List ℕ) → Accounts tell k n st [] (stopped st at n refusal rest)
unfolding told_by events_among late_after
accounts_none tell k n st at refusal rest = record { told = refl; accepted = tt; late = refl; marks = omega arith; frames = omega arith }

-- the supervisor after a call is the one handed back
after_sup : (k : ℕ) (st : State) (call : LevelCall) → (after_call k st call).sup ≡ late_by st.sup call
after_sup k st (gives n r names) = refl
after_sup k st (records n r names) = refl
after_sup k st (frames f counts) = refl
after_sup k st marks = refl

after_begun : (k : ℕ) (st : State) (call : LevelCall) → (after_call k st call).begun ≡ true
after_begun k st (gives n r names) = refl
after_begun k st (records n r names) = refl
after_begun k st (frames f counts) = refl
after_begun k st marks = refl

-- one call more, before those that follow
accounts_more : (tell : Bool) (k n : ℕ) (st : State) (call : LevelCall) (cs : List LevelCall) (c : Scan) → refusal_of st.sup.tandem call ≡ 0
    → Accounts tell k (n + frames_among (events_among (call ∷ []))) (after_call k st call) cs c
    → Accounts tell k n st (call ∷ cs) (before (note_of tell (n + frames_among (events_among (call ∷ []))) st (after_call k st call) call) c)
unfolding told_by tandem_after late_after
accounts_more tell k n st call cs c e i =
    let es : List Event = events_among (call ∷ []) in
    let d = plain_of st.sup.tandem (call ∷ []) (e, tt) in
    let s = seconds_after st.sup.tandem.base es in
    let after-base = ap (λ (u : Supervisor). u.seconds) d.base in
    let sup-is : (after_call k st call).sup.tandem ≡ tandem_by st.sup.tandem call = ap (λ (s : Late). s.tandem) (after_sup k st call) ∙ late_by_lem st.sup call in
    record {
      told = ap (λ (l : List Note). note_of tell (n + frames_among es) st (after_call k st call) call ++ l) i.told;
      accepted = (e, subst (λ (t : Tandem). AllTaken t cs) sup-is i.accepted);
      late = i.late ∙ ap (λ (s : Late). late_after s cs) (after_sup k st call);
      marks = rw (events_first call cs, marks_append es (events_among cs)) (omega (arith, i.marks, ap (λ (t : Tandem). t.base.seconds) sup-is, after-base, s));
      frames = rw (events_first call cs, frames_append es (events_among cs)) (omega (arith, i.frames));
    }

-- one accepted record more
accounts_record : (tell : Bool) (k n : ℕ) (st : State) (next : ℕ) (r : Record) (body : List ℕ) (t : Taken) (later : List LevelCall) (on : Scan) → Tells k st next r body t
    → Accounts tell k (n + frames_in r) t.state later on → Accounts tell k n st (call_in r body ++ later) (before (noted tell (n + frames_in r) st t) on)
accounts_record tell k n st next r body t later on o i =
    let j = subst (λ (u : State). Accounts tell k (n + frames_in r) u later on) o.state i in
    let m = subst (λ (x : ℕ). Accounts tell k (n + x) (after_call k st o.call) later on) o.frames j in
    let told : noted tell (n + frames_in r) st t ≡ note_of tell (n + frames_among (events_among (o.call ∷ []))) st (after_call k st o.call) o.call =
    o.told tell (n + frames_in r)
    ∙ ap (λ (x : ℕ). note_of tell (n + x) st t.state o.call) o.frames
    ∙ ap (λ (u : State). note_of tell (n + frames_among (events_among (o.call ∷ []))) st u o.call) o.state in
    subst⁻¹ (λ (l : List LevelCall). Accounts tell k n st (l ++ later) (before (noted tell (n + frames_in r) st t) on)) o.is
    (subst⁻¹ (λ (l : List Note). Accounts tell k n st (o.call ∷ later) (before l on)) told (accounts_more tell k n st o.call later on o.accepted m))

accounts_over : (tell : Bool) (rs : List (List ℕ)) (k at n : ℕ) (st : State) → st.begun ≡ true → Kinds k st.kind (kind_over rs)
    → Accounts tell k n st (calls_over rs st) (scan_over tell rs at n st)
unfolding scan_over calls_over kind_over
accounts_over tell [] k at n st h kind = accounts_none tell k n st at 0 []
accounts_over tell (ys ∷ rs) k at n st h kind = by (eqb t.refusal 0) refl (accounts_over tell rs k (at + size_of r) (n + frames_in r) t.state)
  where
    r : Record
    r = record_of ys

    t : Taken
    t = taken_of st ys

    later : List LevelCall
    later = calls_over rs t.state

    on : Scan
    on = scan_over tell rs (at + size_of r) (n + frames_in r) t.state

    by : (b : Bool) → eqb t.refusal 0 ≡ b
        → (t.state.begun ≡ true → Kinds k t.state.kind (kind_over rs) → Accounts tell k (n + frames_in r) t.state later on)
        → Accounts tell k n st (cond b (call_in r (body_of r ys) ++ later) []) (cond b (before (noted tell (n + frames_in r) st t) on) (stopped st at n t.refusal ys))
    by true e ih =
        let o = tells k st (kind_over rs) h ys kind (eqb-true t.refusal 0 e) in
        accounts_record tell k n st (kind_over rs) r (body_of r ys) t later on o (ih (ap (λ (u : State). u.begun) o.state ∙ after_begun k st o.call) o.kinds)
    by false e ih = accounts_none tell k n st at t.refusal ys

-- the first record: a provisioning, and the supervisor is fresh under its settings, with no level provisioned
provision_fresh : (k : ℕ) (section path : Request) (snames pnames : List ℕ) → (provision_of k section path snames pnames).supervisor ≡ fresh_of (provision_of k section path snames pnames).supervisor.settings
unfolding provision_of
provision_fresh k section path snames pnames =
    by_cond (λ (z : Provisioned). z.supervisor ≡ fresh_of z.supervisor.settings) (eqb (settings_refusal k section path snames pnames) 0) (λ _. refl) (λ _. refl)

provision_in_lem : (k : ℕ) (section path : Request) (snames pnames : List ℕ) → (provision_of k section path snames pnames).refusal ≡ 0
    → SettingsIn (provision_of k section path snames pnames).supervisor.settings
unfolding provision_of
provision_in_lem k section path snames pnames e =
    let z = sym (provision_says k section path snames pnames) ∙ e in
    rw (eq-eqb _ _ z) (provisioned_in k section path snames pnames z)

pub record First (r : Record) (body : List ℕ) (t : Taken) : Type 0 where
  pub none : call_in r body ≡ []
  pub none_told : t.told ≡ false
  pub none_sent : frames_in r ≡ 0
  pub state : t.state ≡ provisioned t.state.sup.tandem.base.settings
  pub ranged : SettingsIn t.state.sup.tandem.base.settings

first_by : (ys : List ℕ) (r : Record) (body : List ℕ) → Whole ys r → (applied_of start_of r body).refusal ≡ 0 → First r body (applied_of start_of r body)
unfolding framed_of marked_of provisioned_of given_of
first_by ys Frame body w e = absurd (omega (arith, e))
first_by ys Mark body w e = absurd (omega (arith, e))
first_by ys Level body w e = absurd (omega (arith, e))
first_by ys LevelFrame body w e = absurd (omega (arith, e))
first_by ys Provisioning body w e =
    let z = answered_taken start_of _ false _ e in
    rw z.1 (record {
      none = refl;
      none_told = refl;
      none_sent = refl;
      state =
          ap (λ (s : Supervisor). record { begun = true; kind = 0; sup = fresh_late (tandem.fresh_tandem s); last = start_of.last; standing = start_of.standing; levels = start_of.levels })
          (provision_fresh (get_or body 0 0) (section_in body) (path_in body) (take 32 (drop 15 body)) (take 32 (drop 47 body)));
      ranged = provision_in_lem (get_or body 0 0) (section_in body) (path_in body) (take 32 (drop 15 body)) (take 32 (drop 47 body)) z.0;
    })
first_by ys (Refused n) body w e = absurd (omega (arith, w.0, e))

first : (ys : List ℕ) → (taken_of start_of ys).refusal ≡ 0 → First (record_of ys) (body_of (record_of ys) ys) (taken_of start_of ys)
unfolding taken_of
first ys = first_by ys (record_of ys) (body_of (record_of ys) ys) (whole_record ys)

-- the supervisor that a scan comes to, with its pending second: that of its calls; or no provisioning was accepted, and there are none
pub data Comes (p : Settings) (cs : List LevelCall) (st : State) : Type 0 where
  since : SettingsIn p → st.sup ≡ late_at p cs → Comes p cs st
  never : cs ≡ [] → st ≡ start_of → Comes p cs st

-- What the scan of a whole trace is, l being told of its provisioning: its calls, as told, accepted and counted.
pub record Read (tell : Bool) (k : ℕ) (p : Settings) (l : List Note) (cs : List LevelCall) (c : Scan) : Type 0 where
  pub told : c.told ≡ l ++ told_by tell k 0 (provisioned p) cs
  pub accepted : AllTaken (tandem.fresh_tandem (fresh_of p)) cs
  pub comes : Comes p cs c.state
  pub marks : c.state.sup.tandem.base.seconds ≡ marks_among (events_among cs)
  pub frames : c.frames ≡ frames_among (events_among cs)

read_none : (tell : Bool) (k : ℕ) (p : Settings) (refusal : ℕ) (rest : List ℕ) → Read tell k p [] [] (stopped start_of 0 0 refusal rest)
unfolding told_by events_among
read_none tell k p refusal rest = record { told = refl; accepted = tt; comes = never refl refl; marks = refl; frames = refl }

nothing_first : eqb (taken_of start_of []).refusal 0 ≡ false
unfolding taken_of record_of
nothing_first = refl

-- what is told of the provisioning, where every record is told
abbrev first_note : Bool → ℕ → State → List Note
first_note tell m u = cond tell (change m start_of u ∷ []) []

-- the provisioning, and what follows it
read_first : (tell : Bool) (k : ℕ) (r : Record) (body : List ℕ) (t : Taken) (later : List LevelCall) (on : Scan) → First r body t → Accounts tell k (0 + frames_in r) t.state later on
    → Read tell k t.state.sup.tandem.base.settings (first_note tell 0 (provisioned t.state.sup.tandem.base.settings)) (call_in r body ++ later) (before (noted tell (0 + frames_in r) start_of t) on)
read_first tell k r body t later on f i =
    subst⁻¹ (λ (l : List LevelCall). Read tell k t.state.sup.tandem.base.settings (first_note tell 0 (provisioned t.state.sup.tandem.base.settings)) (l ++ later) (before (noted tell (0 + frames_in r) start_of t) on)) f.none
    (record {
      told =
          ap (λ (l : List Note). noted tell (0 + frames_in r) start_of t ++ l) i.told
          ∙ ap (λ (b : Bool). cond b (second (last_listed t.state) ∷ []) (first_note tell (0 + frames_in r) t.state) ++ told_by tell k (0 + frames_in r) t.state later) f.none_told
          ∙ ap (λ (m : ℕ). first_note tell (0 + m) t.state ++ told_by tell k (0 + m) t.state later) f.none_sent
          ∙ ap (λ (u : State). first_note tell 0 u ++ told_by tell k 0 u later) f.state;
      accepted = subst (λ (u : State). AllTaken u.sup.tandem later) f.state i.accepted;
      comes = since f.ranged (i.late ∙ ap (λ (u : State). late_after u.sup later) f.state);
      marks = omega (arith, i.marks, ap (λ (u : State). u.sup.tandem.base.seconds) f.state);
      frames = omega (arith, i.frames, f.none_sent);
    })

pub read : (tell : Bool) (xs : List ℕ) → Read tell (kind_in xs) (settings_in xs) (told_first tell xs) (calls_of xs) (scan_of tell xs)
unfolding scan_over calls_over kind_over records_from
read tell [] = rw nothing_first (read_none tell 0 (settings_in []) 0 [])
read tell (y ∷ ys) = by (eqb (taken_of start_of (y ∷ ys)).refusal 0) refl
  where
    r : Record
    r = record_of (y ∷ ys)

    t : Taken
    t = taken_of start_of (y ∷ ys)

    p : Settings
    p = t.state.sup.tandem.base.settings

    rs : List (List ℕ)
    rs = records_from ys (pred (size_of r))

    k : ℕ
    k = kind_over rs

    later : List LevelCall
    later = calls_over rs t.state

    on : Scan
    on = scan_over tell rs (0 + size_of r) (0 + frames_in r) t.state

    by : (b : Bool) → eqb t.refusal 0 ≡ b
        → Read tell (cond (eqb (frames_in r) 1) (kind_of r) k) p (cond b (first_note tell 0 (provisioned p)) []) (cond b (call_in r (body_of r (y ∷ ys)) ++ later) [])
        (cond b (before (noted tell (0 + frames_in r) start_of t) on) (stopped start_of 0 0 t.refusal (y ∷ ys)))
    by true e =
        let f = first (y ∷ ys) (eqb-true t.refusal 0 e) in
        let kind : Kinds k t.state.kind k = rw f.state refl in
        let i = accounts_over tell rs k (0 + size_of r) (0 + frames_in r) t.state (ap (λ (u : State). u.begun) f.state) kind in
        let same : cond (eqb (frames_in r) 1) (kind_of r) k ≡ k = ap (λ (m : ℕ). cond (eqb m 1) (kind_of r) k) f.none_sent in
        subst⁻¹ (λ (q : ℕ). Read tell q p (first_note tell 0 (provisioned p)) (call_in r (body_of r (y ∷ ys)) ++ later) (before (noted tell (0 + frames_in r) start_of t) on)) same
        (read_first tell k r (body_of r (y ∷ ys)) t later on f i)
    by false e = read_none tell (cond (eqb (frames_in r) 1) (kind_of r) k) p t.refusal (y ∷ ys)

-- what is told of any other call than a mark has no figures
quiet_figures : (tell : Bool) (n : ℕ) (b a : State) (l : List Note) → figures_told (cond tell (change n b a ∷ []) [] ++ l) ≡ figures_told l
quiet_figures true n b a l = refl
quiet_figures false n b a l = refl

-- of a mark those of the second reported, if there is one
mark_figures : (b tell : Bool) (n : ℕ) (was is : State) (l : List Note) (v : List ℕ) (f : List ℕ → List ℕ) (vs : List (List ℕ)) → last_listed is ≡ f v → figures_told l ≡ map f vs
    → figures_told (cond b (second (last_listed is) ∷ []) (cond tell (change n was is ∷ []) []) ++ l) ≡ map f (cond b (v ∷ []) [] ++ vs)
mark_figures true tell n was is l v f vs e h = ap (λ (x : List ℕ). x ∷ figures_told l) e ∙ ap (λ (x : List (List ℕ)). f v ∷ x) h
mark_figures false tell n was is l v f vs e h = quiet_figures tell n was is l ∙ h

-- the figures told are those that the calls report, listed by the levels after them
figures_are : (tell : Bool) (k m : ℕ) (st : State) (cs : List LevelCall) → AllTaken st.sup.tandem cs
    → figures_told (told_by tell k m st cs) ≡ map (listed_of (tandem_after st.sup.tandem cs).levels) (calls_tell st.sup cs)
unfolding told_by calls_tell tandem_after events_among late_by tandem_by
figures_are tell k m st [] all = refl
figures_are tell k m st (gives j r names ∷ cs) all =
    let st₂ : State = after_call k st (gives j r names) in
    quiet_figures tell (m + 0) st st₂ (told_by tell k (m + 0) st₂ cs) ∙ figures_are tell k (m + 0) st₂ cs all.1
figures_are tell k m st (records j r names ∷ cs) all =
    let st₂ : State = after_call k st (records j r names) in
    quiet_figures tell (m + 0) st st₂ (told_by tell k (m + 0) st₂ cs) ∙ figures_are tell k (m + 0) st₂ cs all.1
figures_are tell k m st (frames f counts ∷ cs) all =
    let st₂ : State = after_call k st (frames f counts) in
    quiet_figures tell (m + 1) st st₂ (told_by tell k (m + 1) st₂ cs) ∙ figures_are tell k (m + 1) st₂ cs all.1
figures_are tell k m st (marks ∷ cs) all =
    let st₂ : State = after_call k st marks in
    let u : Tandem = (tandem.marked_of st.sup.tandem).tandem in
    let same : st₂.sup.tandem ≡ u = late_tandem st.sup in
    let i = figures_are tell k (m + 0) st₂ cs (subst (λ (t : Tandem). AllTaken t cs) (sym same) all.1) in
    mark_figures (late_marked st.sup).told tell (m + 0) st st₂ (told_by tell k (m + 0) st₂ cs) (late_marked st.sup).figures
    (listed_of (tandem_after u cs).levels) (calls_tell st₂.sup cs)
    (ap (λ (t : Tandem). listed_of t.levels (late_marked st.sup).figures) same ∙ sym (listed_after u cs (mark_stays st.sup.tandem all.0).begins all.1 (late_marked st.sup).figures))
    (i ∙ ap (λ (t : Tandem). map (listed_of (tandem_after t cs).levels) (calls_tell st₂.sup cs)) same)

-- what is told of the provisioning has no figures
first_figures : (b tell : Bool) (u : State) (l : List Note) → figures_told (cond b (cond tell (change 0 start_of u ∷ []) []) [] ++ l) ≡ figures_told l
first_figures true tell u l = quiet_figures tell 0 start_of u l
first_figures false tell u l = refl

-- all lines S, those of the marks and the last
lines_are : (p : Settings) (cs : List LevelCall) (c : Scan) → Comes p cs c.state → AllTaken (tandem.fresh_tandem (fresh_of p)) cs
    → figures_told c.told ≡ map (listed_of (tandem_after (tandem.fresh_tandem (fresh_of p)) cs).levels) (calls_tell (fresh_late (tandem.fresh_tandem (fresh_of p))) cs)
    → lines_in c ≡ map (listed_in c.state) (seconds_of p cs)
unfolding calls_tell up_to pending_of events_among
lines_are p cs c (since v e) all h =
    let same : c.state.sup.tandem ≡ tandem_after (tandem.fresh_tandem (fresh_of p)) cs = ap (λ (s : Late). s.tandem) e ∙ late_after_lem (fresh_late (tandem.fresh_tandem (fresh_of p))) cs in
    let f : List ℕ → List ℕ = listed_in c.state in
    ap (λ (l : List (List ℕ)). l ++ map f (end_tells c.state.sup)) (h ∙ ap (λ (t : Tandem). map (listed_of t.levels) (calls_tell (fresh_late (tandem.fresh_tandem (fresh_of p))) cs)) (sym same))
    ∙ sym (map-append f (calls_tell (fresh_late (tandem.fresh_tandem (fresh_of p))) cs) (end_tells c.state.sup))
    ∙ ap (λ (s : Late). map f (calls_tell (fresh_late (tandem.fresh_tandem (fresh_of p))) cs ++ end_tells s)) e
    ∙ ap (map f) (reported p v cs all).all
lines_are p cs c (never none start) all h =
    let z : figures_told c.told ≡ [] = rw none at h in
    rw (z, start, none)

each_line : (p : Settings) (cs : List LevelCall) (st : State) → Comes p cs st → AllTaken (tandem.fresh_tandem (fresh_of p)) cs
    → (i : ℕ) → 1 ≤ i → i ≤ marks_in cs → LineDemand3 (second_at p cs i) × SumBounds (second_at p cs i)
unfolding events_among
each_line p cs st (since v e) all = λ i low high. ((reported p v cs all).demand i low high, (reported p v cs all).bounds i low high)
each_line p cs st (never none start) all = λ i low high. let z : marks_in cs ≡ 0 = ap marks_in none in absurd (omega (arith, z))

-- Demand 3 for the reader.
pub reader_demand_3 : (tell : Bool) (xs : List ℕ) → ReaderDemand3 tell xs
reader_demand_3 tell xs =
    let o = read tell xs in
    let p : Settings = settings_in xs in
    let st : State = provisioned p in
    let a : Accepted (fresh_of p) (events_of xs) = (plain_of (tandem.fresh_tandem (fresh_of p)) (calls_of xs) o.accepted).accepted in
    let told = ap figures_told o.told ∙ first_figures (eqb (taken_of start_of xs).refusal 0) tell st (told_by tell (kind_in xs) 0 st (calls_of xs)) in
    record {
      calls = o.accepted;
      accepted = a;
      told = o.told;
      figures = lines_are p (calls_of xs) (scan_of tell xs) o.comes o.accepted (told ∙ figures_are tell (kind_in xs) 0 st (calls_of xs) o.accepted);
      lines = λ i low high. (each_line p (calls_of xs) (scan_of tell xs).state o.comes o.accepted i low high).0;
      bounds = λ i low high. (each_line p (calls_of xs) (scan_of tell xs).state o.comes o.accepted i low high).1;
      demand = λ earlier later e. demand_3 p earlier (accepted_append (fresh_of p) earlier (mark ∷ later) (subst (Accepted (fresh_of p)) e a)).0;
    }

-- The last line has the marks and the frames accepted.
pub reader_counts : (tell : Bool) (xs : List ℕ) → ReaderCounts tell xs
reader_counts tell xs = let o = read tell xs in record { marks = o.marks; frames = o.frames }

-- Telling every record changes nothing else.
only_append : (a b : List Note) → seconds_only (a ++ b) ≡ seconds_only a ++ seconds_only b
only_append [] b = refl
only_append (second f ∷ a) b = ap (λ (l : List Note). second f ∷ l) (only_append a b)
only_append (change n u v ∷ a) b = only_append a b

only_noted : (n : ℕ) (st : State) (t : Taken) → seconds_only (noted true n st t) ≡ noted false n st t
only_noted n st t = by t.told
  where
    by : (b : Bool) → seconds_only (cond b (second (last_listed t.state) ∷ []) (change n st t.state ∷ [])) ≡ cond b (second (last_listed t.state) ∷ []) []
    by true = refl
    by false = refl

same_over : (rs : List (List ℕ)) (at n : ℕ) (st : State) → quietly (scan_over true rs at n st) ≡ scan_over false rs at n st
unfolding scan_over
same_over [] at n st = refl
same_over (ys ∷ rs) at n st = by (eqb (taken_of st ys).refusal 0) refl (same_over rs (at + size_of r) (n + frames_in r) t.state)
  where
    r : Record
    r = record_of ys

    t : Taken
    t = taken_of st ys

    on : Bool → Scan
    on tell = scan_over tell rs (at + size_of r) (n + frames_in r) t.state

    by : (b : Bool) → eqb t.refusal 0 ≡ b → quietly (on true) ≡ on false → quietly (scan_over true (ys ∷ rs) at n st) ≡ scan_over false (ys ∷ rs) at n st
    by true e ih = rw (e, only_append (noted true (n + frames_in r) st t) (on true).told, only_noted (n + frames_in r) st t) (ap (before (noted false (n + frames_in r) st t)) ih)
    by false e ih = rw e

pub same_seconds : (xs : List ℕ) → SameSeconds xs
same_seconds xs = same_over (records_of xs) 0 0 start_of
