use Rattle.std.proofs.Common.{◌≡◌, ◌∙◌, ◌+◌, ◌++◌, ◌∷◌, [], length, arith, rules, ℕ, Bor}
use Rattle.std.proofs.lemmas.List.{length-append}
use Rattle.change.specs.declared.Seen.{Seen}
use Rattle.change.specs.Change.{unseen, level_trace, trace_change}
use Rattle.change.proofs.Counted.{counted_turn}
use Rattle.change.proofs.Levels.{told_turn}
use Rattle.change.proofs.put_level_traces.Goals as goal

pub loop-i-preserved : goal.loop-i-preserved
loop-i-preserved g c =
    let l = c.loop-i in
    let a = c.args in
    let n = length l.yielded in
    let x : ℕ × (Bor Seen × Bor Seen) = (c.in-Some.i, (c.in-Some.was, c.in-Some.is')) in
    let t = counted_turn a.before.now a.after.now l.yielded c.into_iter-i-iterator.result l.i-iterator c.next.new.self c.next.result (search rules) (search rules) (search rules) l.yielded_by x c.in-Some.is c.next.ensures.steps in
    let next : length (l.yielded ++ x ∷ []) ≡ n + 1 = length-append l.yielded (x ∷ []) ∙ (omega arith) in
    let rule = λ (m : ℕ) (b s : Seen). trace_change (level_trace m) b s in
    record {
      so_far = rw next (told_turn a.out.now.items rule a.before.now a.after.now n unseen unseen unseen t.0 t.1 l.invariant.so_far (rw (c.trace_name.ensures, t.2 unseen, t.3 unseen, t.4) at c.put_trace.ensures.items));
      bound = omega (arith, l.invariant.bound, c.put_trace.ensures.bound, next);
    }
