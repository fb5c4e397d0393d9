use Rattle.std.proofs.Common.{◌≡◌, arith, ℕ}
use mathlib.Core.Path.{subst⁻¹}
use Rattle.stream.specs.Stream.{goes_on}
use Rattle.reading.specs.Turn.{written_of}
use Rattle.trace.specs.Scan.{ran}
use Rattle.reading.proofs.Lines.{going_reported, going_told, run_stands, run_sound, Ended, end_more, end_refused}
use Rattle.reading.proofs.Turns.{turn_written, turn_turned}
use Rattle.reading.proofs.Reading.turn.Goals as goal
use Rattle.reading.proofs.Reading.turn.Goals.{in-More, in-Refused}

pub overflow_add-self : goal.overflow_add-self
overflow_add-self c =
    let l = c.loop-before in
    let h = run_sound c.args.self.now c.args.s.now l.out.items l.at l.self l.invariant (ran c.scan-run.result c.scan-run.new.st) c.scan-run.ensures in
    omega (arith, h.few, h.held, h.seconds)

pub loop-before-smaller-in-Told : goal.loop-before-smaller-in-Told
loop-before-smaller-in-Told c =
    let l = c.loop-before in
    let t = run_stands c.args.self.now c.args.s.now l.out.items l.at l.self l.invariant (ran c.scan-run.result c.scan-run.new.st) c.scan-run.ensures in
    omega (arith, t.inside, t.told c.in-Told.is)

pub loop-before-preserved-in-Told : goal.loop-before-preserved-in-Told
loop-before-preserved-in-Told c =
    let l = c.loop-before in
    let x = c.told_line.ensures in
    going_told c.args.self.now c.args.s.now l.out.items l.at l.self l.invariant (ran c.scan-run.result c.scan-run.new.st) c.scan-run.ensures c.told_line.new.out.items c.in-Told.is c.requires.s_len_bound
    (rw c.shown_in-before.ensures at x.put) (rw c.shown_in-before.ensures at x.whole) x.bound

pub loop-before-smaller : goal.loop-before-smaller
loop-before-smaller c =
    let l = c.loop-before in
    let t = run_stands c.args.self.now c.args.s.now l.out.items l.at l.self l.invariant (ran c.scan-run.result c.scan-run.new.st) c.scan-run.ensures in
    omega (arith, t.inside, t.further c.in-Reported.is)

pub loop-before-preserved : goal.loop-before-preserved
loop-before-preserved c =
    let l = c.loop-before in
    let x = c.reported_lines.ensures in
    going_reported c.args.self.now c.args.s.now l.out.items l.at l.self l.invariant (ran c.scan-run.result c.scan-run.new.st) c.scan-run.ensures c.open_after.new.b c.reported_lines.new.out.items c.in-Reported.is c.requires.s_len_bound
    c.open_after.ensures x.whole x.bound

pub overflow_add-self-2 : goal.overflow_add-self-2
overflow_add-self-2 c =
    let l = c.loop-before in
    let h = run_sound c.args.self.now c.args.s.now l.out.items l.at l.self l.invariant (ran c.scan-run.result c.scan-run.new.st) c.scan-run.ensures in
    omega (arith, l.invariant.base, h.within, h.most, h.few, h.held, h.seconds)

-- the run has ended, with the refusal that the match found
abbrev Ends : goal.After-last_lines → ℕ → Type 0
Ends c = Ended c.args.self.now c.args.s.now c.loop-before.out.items c.loop-before.at c.loop-before.self c.loop-before.invariant (ran c.scan-run.result c.scan-run.new.st) c.scan-run.ensures

ends : (c : goal.After-last_lines) → Ends c c.match-run.refusal
ends c =
    (elim c.match-run.branch [
      | in-More w ↦ subst⁻¹ (Ends c) w.refusal-is (end_more c.args.self.now c.args.s.now c.loop-before.out.items c.loop-before.at c.loop-before.self c.loop-before.invariant (ran c.scan-run.result c.scan-run.new.st) c.scan-run.ensures w.in-More.is)
      | in-Refused w ↦ subst⁻¹ (Ends c) w.refusal-is (end_refused c.args.self.now c.args.s.now c.loop-before.out.items c.loop-before.at c.loop-before.self c.loop-before.invariant (ran c.scan-run.result c.scan-run.new.st) c.scan-run.ensures w.in-Refused.number w.in-Refused.offset w.in-Refused.is)
    ])

more : (c : goal.After-last_lines) → c.goes_on.result ≡ goes_on c.match-run.refusal
more c = c.goes_on.ensures

written : (c : goal.After-last_lines) → c.last_lines.new.out.items ≡ written_of c.args.self.now c.args.s.now c.args.ended
written c =
    let l = c.loop-before in
    turn_written c.args.self.now c.args.s.now c.loop-before.out.items c.loop-before.at c.loop-before.self c.loop-before.invariant (ran c.scan-run.result c.scan-run.new.st) c.scan-run.ensures c.args.ended c.match-run.refusal (ends c) c.goes_on.result (more c) c.last_lines.new.out.items
    (c.last_lines.ensures.whole (omega (arith, l.invariant.room, l.invariant.inside, c.requires.s_len_bound)))

pub returns-clause-turned : goal.returns-clause-turned
returns-clause-turned c = turn_turned c.args.self.now c.args.s.now c.loop-before.out.items c.loop-before.at c.loop-before.self c.loop-before.invariant (ran c.scan-run.result c.scan-run.new.st) c.scan-run.ensures c.args.ended c.match-run.refusal (ends c) c.goes_on.result (more c) c.last_lines.new.out.items (written c)

pub returns-clause-written : goal.returns-clause-written
returns-clause-written c = written c
