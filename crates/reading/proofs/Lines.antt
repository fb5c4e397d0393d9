-- The laws of the loop that takes a piece's records and gathers their lines. Assumes nothing.
use Prim.Native.Nat.{ℕ, ◌+◌, ◌-◌, ◌*◌, ◌≤◌}
use mathlib.Core.Path.{◌≡◌, refl, ◌∙◌, ap, sym, subst}
use mathlib.Core.Bool.{Bool, true}
use mathlib.Core.List.{List, [], ◌∷◌, ◌++◌, append_assoc, append-nil}
use native.Mathlib.Nat.{add-zero}
use native.Mathlib.Omega.{arith}
use lib.Dec.{leb}
use lib.ListN.{length, drop}
use Rattle.answer.proofs.Cond.{by_cond}
use Rattle.listing.specs.Text.{fitted}
use Rattle.trace.specs.declared.State.{State}
use Rattle.trace.specs.declared.Stop.{Stop}
use Rattle.trace.specs.declared.Stop.TheVariants as stop
use Rattle.trace.specs.Scan.{Run, run_of}
use Rattle.stream.specs.Stream.{last_listed, Note, second, change, Scan, before, stopped, scan_from, scan_after}
use Rattle.stream.specs.Counts.{Counted}
use Rattle.stream.proofs.Streams.{agree}
use Rattle.stream.proofs.Counts.{run_counted, Quiet, wide, marked, told_quiet, Stands, stands}
use Rattle.bins.specs.declared.Bins.{Bins}
use Rattle.lines.specs.Line.{shown_in, told_for, line_for, line_by, open_after, lines_of, open_over, reported_text, opened_by}
use Rattle.lines.proofs.Offices.{reported_by, opened_by_lem}
use Rattle.lines.proofs.Marks.{mark_untold}
use Rattle.reading.specs.Turn.{read_from, halt_of, Sound}
use Rattle.reading.specs.declared.Reading.{Reading}

-- a scan without what it told
abbrev pub ending : Scan → Scan
ending c = record { told = []; state = c.state; at = c.at; frames = c.frames; refusal = c.refusal; rest = c.rest }

-- what follows a run over a buffer
abbrev pub on_from : Bool → ℕ → ℕ → List ℕ → Run → Scan
on_from tell base n s r = scan_from tell (drop r.at s) (base + r.at) (n + r.frames) r.state

-- what a run has come to, by why it stopped
module _ (tell : Bool) (base n : ℕ) (st : State) (s : List ℕ) (r : Run) where
  pub after_reported : r.stop ≡ stop.Reported → scan_after tell base n st s r ≡ before (second (last_listed r.state) ∷ []) (on_from tell base n s r)
  unfolding scan_after
  after_reported e = rw e

  pub after_told : r.stop ≡ stop.Told → scan_after tell base n st s r ≡ before (change (n + r.frames) st r.state ∷ []) (on_from tell base n s r)
  unfolding scan_after
  after_told e = rw e

  pub after_more : r.stop ≡ stop.More → scan_after tell base n st s r ≡ stopped r.state (base + r.at) (n + r.frames) 0 (drop r.at s)
  unfolding scan_after
  after_more e = rw e

  pub after_refused : (number offset : ℕ) → r.stop ≡ stop.Refused number offset → scan_after tell base n st s r ≡ stopped r.state (base + offset) (n + r.frames) number (drop offset s)
  unfolding scan_after
  after_refused number offset e = rw e

-- What holds in the loop: the records before `at` are taken, and the lines of what they told are out; what is left gives what the whole gives.
pub record Going (from : Reading) (s out : List ℕ) (at : ℕ) (now : Reading) : Type 0 where
  pub inside : at ≤ length s
  pub tell : now.tell ≡ from.tell
  pub office : now.office ≡ from.office
  pub base : now.at ≡ from.at
  pub same : ending (read_from from s) ≡ ending (scan_from from.tell (drop at s) (from.at + at) now.frames now.state)
  pub text : lines_of from.office from.bins (read_from from s).told ≡ out ++ lines_of from.office now.bins (scan_from from.tell (drop at s) (from.at + at) now.frames now.state).told
  pub left : open_over from.bins (read_from from s).told ≡ open_over now.bins (scan_from from.tell (drop at s) (from.at + at) now.frames now.state).told
  pub room : 4 * length out ≤ 1094 * at
  pub counted : Counted (from.at + at) now.frames now.state

pub going_start : (from : Reading) (s out : List ℕ) → out ≡ [] → Sound from → Going from s out 0 from
going_start from s out e h =
    let z : from.at + 0 ≡ from.at = add-zero from.at in
    rw e (record { inside = omega arith; tell = refl; office = refl; base = refl; same = rw z refl; text = rw z refl; left = rw z refl; room = omega arith; counted = rw z h })

-- the reading after a run
abbrev pub after_run : Reading → Run → Bins → Reading
after_run now r b = record { tell = now.tell; office = now.office; state = r.state; at = now.at; frames = now.frames + r.frames; bins = b }

module _ (from : Reading) (s out : List ℕ) (at : ℕ) (now : Reading) (g : Going from s out at now) (r : Run) (e : r ≡ run_of now.tell s at 0 now.state) where
  ran_is : r ≡ run_of from.tell s at 0 now.state
  ran_is = e ∙ ap (λ (tell : Bool). run_of tell s at 0 now.state) g.tell

  left_is : scan_from from.tell (drop at s) (from.at + at) now.frames now.state ≡ scan_after from.tell from.at now.frames now.state s r
  left_is =
      ap (λ (n : ℕ). scan_from from.tell (drop at s) (from.at + at) n now.state) (sym (add-zero now.frames))
      ∙ agree s from.at now.frames from.tell at 0 now.state ∙ ap (scan_after from.tell from.at now.frames now.state s) (sym ran_is)

  pub run_stands : Stands s at r
  run_stands = rw ran_is (stands from.tell s at 0 now.state g.inside)

  -- the offset and the frames after the run
  pub run_sound : Counted (from.at + r.at) (now.frames + r.frames) r.state
  run_sound = rw ran_is (run_counted from.tell s from.at now.frames at 0 now.state (rw (add-zero now.frames) g.counted))

  -- something was told, and its line put
  going_line : (note : Note) (out₂ : List ℕ) → scan_after from.tell from.at now.frames now.state s r ≡ before (note ∷ []) (on_from from.tell from.at now.frames s r)
      → 4 * length out₂ ≤ 1094 * r.at → out₂ ≡ out ++ line_by from.office now.bins note → Going from s out₂ r.at (after_run now r (open_after now.bins note))
  unfolding lines_of open_over
  going_line note out₂ told room eo =
      let l : List ℕ = line_by from.office now.bins note in
      let m : List ℕ = lines_of from.office (open_after now.bins note) (on_from from.tell from.at now.frames s r).told in
      let q : Scan = on_from from.tell from.at now.frames s r in
      let w : scan_from from.tell (drop at s) (from.at + at) now.frames now.state ≡ before (note ∷ []) q = left_is ∙ told in
      record {
        inside = run_stands.inside;
        tell = g.tell;
        office = g.office;
        base = g.base;
        same = g.same ∙ ap ending w;
        text = g.text ∙ ap (λ (c : Scan). out ++ lines_of from.office now.bins c.told) w ∙ sym (append_assoc out l m) ∙ ap (λ (o : List ℕ). o ++ m) (sym eo);
        left = g.left ∙ ap (λ (c : Scan). open_over now.bins c.told) w;
        room = room;
        counted = run_sound;
      }

  -- of k bytes at least, and the line has its room
  pub going_on : (note : Note) (room k : ℕ) (out₂ : List ℕ) → scan_after from.tell from.at now.frames now.state s r ≡ before (note ∷ []) (on_from from.tell from.at now.frames s r)
      → at + k ≤ r.at → 4 * room ≤ 1094 * k → length s ≤ 4096
      → (length out + room ≤ 1126400 → out₂ ≡ out ++ line_by from.office now.bins note) → length out₂ ≤ length out + room
      → Going from s out₂ r.at (after_run now r (open_after now.bins note))
  going_on note room k out₂ told on little short whole few =
      let h = run_stands in
      going_line note out₂ told (omega (arith, g.room, few)) (whole (omega (arith, g.room, h.inside)))

  -- whose line is empty
  going_quiet : (note : Note) (room : ℕ) (out₂ : List ℕ) → scan_after from.tell from.at now.frames now.state s r ≡ before (note ∷ []) (on_from from.tell from.at now.frames s r)
      → line_by from.office now.bins note ≡ [] → out₂ ≡ out ++ fitted 1126400 (length out) room (line_by from.office now.bins note)
      → Going from s out₂ r.at (after_run now r (open_after now.bins note))
  unfolding fitted
  going_quiet note room out₂ told none eo =
      let h = run_stands in
      let f : fitted 1126400 (length out) room (line_by from.office now.bins note) ≡ line_by from.office now.bins note = rw none (by_cond (λ (l : List ℕ). l ≡ []) (leb room (1126400 - length out)) (λ _. refl) (λ _. refl)) in
      let o : out₂ ≡ out ++ line_by from.office now.bins note = eo ∙ ap (λ (l : List ℕ). out ++ l) f in
      let n : length out₂ ≡ length out = ap length (o ∙ ap (λ (l : List ℕ). out ++ l) none ∙ append-nil out) in
      going_line note out₂ told (omega (arith, n, g.room, h.later)) o

  -- a second was reported
  pub going_reported : (b : Bins) (out₂ : List ℕ) → r.stop ≡ stop.Reported → length s ≤ 4096 → b ≡ opened_by now.bins r.state
      → (length out + 1094 ≤ 1126400 → out₂ ≡ out ++ reported_text now.office now.bins r.state) → length out₂ ≤ length out + 1094
      → Going from s out₂ r.at (after_run now r b)
  going_reported b out₂ c short eb whole few =
      let t : reported_text now.office now.bins r.state ≡ line_by from.office now.bins (second (last_listed r.state)) =
      ap (λ (office : Bool). reported_text office now.bins r.state) g.office ∙ sym (reported_by now.bins r.state run_sound.figures from.office) in
      subst (λ (x : Bins). Going from s out₂ r.at (after_run now r x)) (opened_by_lem now.bins r.state run_sound.figures ∙ sym eb)
      (going_on (second (last_listed r.state)) 1094 4 out₂ (after_reported from.tell from.at now.frames now.state s r c) (run_stands.further c) (omega arith) short
      (λ h. whole h ∙ ap (λ (l : List ℕ). out ++ l) t) few)

  -- a record was told
  pub going_told : (out₂ : List ℕ) → r.stop ≡ stop.Told → length s ≤ 4096
      → out₂ ≡ out ++ fitted 1126400 (length out) 2560 (told_for (now.frames + r.frames) (shown_in now.state) r.state)
      → (length out + 2560 ≤ 1126400 → out₂ ≡ out ++ told_for (now.frames + r.frames) (shown_in now.state) r.state) → length out₂ ≤ length out + 2560
      → Going from s out₂ r.at (after_run now r now.bins)
  unfolding line_by line_for open_after
  going_told out₂ c short put whole few = by (rw ran_is (told_quiet s from.tell at 0 now.state (ap (λ (x : Run). x.stop) (sym ran_is) ∙ c)))
    where
      told : scan_after from.tell from.at now.frames now.state s r ≡ before (change (now.frames + r.frames) now.state r.state ∷ []) (on_from from.tell from.at now.frames s r)
      told = after_told from.tell from.at now.frames now.state s r c

      by : Quiet at r.at now.state r.state → Going from s out₂ r.at (after_run now r now.bins)
      by (wide far) = going_on (change (now.frames + r.frames) now.state r.state) 2560 44 out₂ told far (omega arith) short whole few
      by (marked is) =
          going_quiet (change (now.frames + r.frames) now.state r.state) 2560 out₂ told (ap (λ (u : State). line_for (change (now.frames + r.frames) now.state u)) is ∙ mark_untold (now.frames + r.frames) now.state) put

  -- what a run has come to that ends the turn
  pub stops : (x : Stop) → r.stop ≡ x → (halt_of x).ends ≡ true
      → scan_after from.tell from.at now.frames now.state s r ≡ stopped r.state (from.at + r.at) (now.frames + r.frames) (halt_of x).refusal (drop r.at s)
  unfolding halt_of
  stops stop.More q z = after_more from.tell from.at now.frames now.state s r q
  stops (stop.Refused number offset) q z =
      after_refused from.tell from.at now.frames now.state s r number offset q
      ∙ ap (λ (k : ℕ). stopped r.state (from.at + k) (now.frames + r.frames) number (drop k s)) (run_stands.same number offset q)
  stops stop.Reported q z = let w : ◌≡◌ {A = ℕ} 0 1 = cc in absurd (omega arith)
  stops stop.Told q z = let w : ◌≡◌ {A = ℕ} 0 1 = cc in absurd (omega arith)

  -- there are no more records, or one was refused: the reading and the text are those of the whole piece
  pub record Ended (refusal : ℕ) : Type 0 where
    pub scan : ending (read_from from s) ≡ stopped r.state (from.at + r.at) (now.frames + r.frames) refusal (drop r.at s)
    pub lines : lines_of from.office from.bins (read_from from s).told ≡ out
    pub opened : open_over from.bins (read_from from s).told ≡ now.bins

  ended_by : (x : Stop) → r.stop ≡ x → (halt_of x).ends ≡ true → Ended (halt_of x).refusal
  unfolding lines_of open_over
  ended_by x q z =
      let w = left_is ∙ stops x q z in
      record {
        scan = g.same ∙ ap ending w;
        lines = g.text ∙ ap (λ (c : Scan). out ++ lines_of from.office now.bins c.told) w ∙ append-nil out;
        opened = g.left ∙ ap (λ (c : Scan). open_over now.bins c.told) w;
      }

  pub end_more : r.stop ≡ stop.More → Ended 0
  unfolding halt_of
  end_more q = ended_by stop.More q refl

  pub end_refused : (number offset : ℕ) → r.stop ≡ stop.Refused number offset → Ended number
  unfolding halt_of
  end_refused number offset q = ended_by (stop.Refused number offset) q refl
