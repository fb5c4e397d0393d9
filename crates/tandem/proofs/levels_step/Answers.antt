use Rattle.std.proofs.Common.{◌+◌, sym, ap, ◌∙◌, length-set, arith}
use Rattle.tandem.specs.Levels.{frame_rule}
use Rattle.tandem.specs.Tandem.{level_shown, shown_rule, shown_levels}
use Rattle.answer.proofs.Each.{turn, turned}
use Rattle.tandem.proofs.Turns.{changed, changed_all, next_same, frame_turn, each_each}
use Rattle.tandem.proofs.levels_step.Goals as goal

pub loop-i-preserved : goal.loop-i-preserved
loop-i-preserved c =
    let l = c.loop-i in
    let a = c.args in
    let ls = a.levels.now in
    let rule = frame_rule a.ssf a.m.now a.overhead.now a.counts.now in
    let s = l.invariant.levels in
    let e = frame_turn _ a.ssf a.m.now a.overhead.now a.counts.now l.i _ c.step.ensures.level in
    let d = c.step.ensures.stands ∙ ap (λ x. level_shown x a.ssf) (e ∙ ap (rule (1 + l.i)) (next_same l.levels ls l.i _ s.2)) in
    record {
      levels = changed rule ls l.levels l.i _ _ s (omega arith) e;
      size = simp length-set l.invariant.size;
      stands = turn (λ n x. level_shown (rule n x) a.ssf) 1 ls l.stands l.i _ _ l.invariant.stands (omega arith) (omega arith) d;
    }

pub returns-clause-stands : goal.returns-clause-stands
returns-clause-stands c =
    let l = c.loop-i in
    let a = c.args in
    let ls = a.levels.now in
    let rule = frame_rule a.ssf a.m.now a.overhead.now a.counts.now in
    turned (λ n x. level_shown (rule n x) a.ssf) 1 ls l.stands l.i l.invariant.stands (omega arith) (omega arith)
    ∙ each_each rule (shown_rule a.ssf) 1 ls ∙ ap (λ x. shown_levels x a.ssf) (sym (changed_all rule ls l.levels l.i l.invariant.levels (omega arith)))
