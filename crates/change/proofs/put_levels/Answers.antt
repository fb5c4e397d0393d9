use Rattle.std.proofs.Common.{◌≡◌, ◌∙◌, ◌+◌, ◌++◌, ◌∷◌, [], length, arith, rules, ℕ, Bor}
use Rattle.std.proofs.lemmas.List.{length-append}
use Rattle.level.specs.declared.LevelStands.{LevelStands}
use Rattle.tandem.specs.Tandem.{nothing}
use Rattle.conditions.specs.Conditions.{level_changes}
use Rattle.change.proofs.Counted.{counted_turn}
use Rattle.change.proofs.Levels.{told_turn}
use Rattle.change.proofs.put_levels.Goals as goal

pub loop-i-preserved : goal.loop-i-preserved
loop-i-preserved g c =
    let l = c.loop-i in
    let a = c.args in
    let n = length l.yielded in
    let x : ℕ × (Bor LevelStands × Bor LevelStands) = (c.in-Some.i, (c.in-Some.was, c.in-Some.is')) in
    let t = counted_turn a.before.now a.after.now l.yielded c.into_iter-i-iterator.result l.i-iterator c.next.new.self c.next.result (search rules) (search rules) (search rules) l.yielded_by x c.in-Some.is c.next.ensures.steps in
    let next : length (l.yielded ++ x ∷ []) ≡ n + 1 = length-append l.yielded (x ∷ []) ∙ (omega arith) in
    record {
      so_far = rw next (told_turn a.out.now.items level_changes a.before.now a.after.now n nothing nothing nothing t.0 t.1 l.invariant.so_far (rw (t.2 nothing, t.3 nothing, t.4) at (c.put_level.ensures.whole (omega (arith, l.invariant.bound, c.requires, t.4, t.0)))));
      bound = omega (arith, l.invariant.bound, c.put_level.ensures.bound, next);
    }
