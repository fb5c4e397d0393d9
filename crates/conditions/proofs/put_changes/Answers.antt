use Rattle.std.proofs.Common.{◌≡◌, ◌++◌, ◌∷◌, [], length, take, suc, arith, rules, ◌∙◌, ap, List, ℕ}
use Rattle.std.proofs.lemmas.List.{length-append, append_assoc}
use Rattle.std.proofs.lemmas.Slice.Zip.{zip_turn, zip_end}
use Rattle.conditions.specs.Conditions.{under, change_of, changes_of}
use Rattle.conditions.specs.Told.{told}
use Rattle.conditions.proofs.Changes.{change_more, change_fits, change_all}
use Rattle.conditions.proofs.put_changes.Goals as goal

pub put_change-requires : goal.put_change-requires
put_change-requires g c =
    let a = c.args in
    let l = c.loop-was in
    let p = a.prefix.now in
    let n = length l.yielded in
    let t = zip_turn a.before.now a.after.now l.yielded c.into_iter-was-iterator.result l.was-iterator c.next.new.self c.next.result (search rules) (search rules) l.yielded_by (c.in-Some.was, c.in-Some.is') c.in-Some.is c.next.ensures.steps in
    let fits = change_fits p a.before.now a.after.now n c.in-Some.was.now c.in-Some.is'.now t.0 t.1 t.2 t.3 in
    let so_far = ap (λ (b : List ℕ). length b) l.invariant ∙ length-append a.out.now.items (changes_of (take n (under p (told a.before.now))) (take n (under p (told a.after.now)))) in
    (search rules, omega (arith, so_far, fits, c.requires))

pub loop-was-preserved : goal.loop-was-preserved
loop-was-preserved g c =
    let a = c.args in
    let l = c.loop-was in
    let p = a.prefix.now in
    let n = length l.yielded in
    let was = c.in-Some.was.now in
    let is = c.in-Some.is'.now in
    let t = zip_turn a.before.now a.after.now l.yielded c.into_iter-was-iterator.result l.was-iterator c.next.new.self c.next.result (search rules) (search rules) l.yielded_by (c.in-Some.was, c.in-Some.is') c.in-Some.is c.next.ensures.steps in
    let more = change_more p a.before.now a.after.now n was is t.0 t.1 t.2 t.3 in
    let next : length (l.yielded ++ (c.in-Some.was, c.in-Some.is') ∷ []) ≡ suc n = length-append l.yielded ((c.in-Some.was, c.in-Some.is') ∷ []) ∙ (omega arith) in
    rw (c.put_change.ensures, l.invariant, next, more)
    (append_assoc a.out.now.items (changes_of (take n (under p (told a.before.now))) (take n (under p (told a.after.now)))) (change_of (p ++ is.0.now) was.1 is.1))

pub returns-clause-items : goal.returns-clause-items
returns-clause-items g c =
    let a = c.args in
    let l = c.loop-was in
    let n = zip_end a.before.now a.after.now l.yielded c.into_iter-was-iterator.result l.was-iterator c.next.new.self c.next.result (search rules) (search rules) l.yielded_by c.in-None.is c.next.ensures.steps in
    l.invariant ∙ ap (λ (b : List ℕ). a.out.now.items ++ b) (change_all a.prefix.now a.before.now a.after.now (length l.yielded) n)

pub returns-clause-bound : goal.returns-clause-bound
returns-clause-bound g c = ap (λ (b : List ℕ). length b) (returns-clause-items g c) ∙ length-append c.args.out.now.items (changes_of (under c.args.prefix.now (told c.args.before.now)) (under c.args.prefix.now (told c.args.after.now)))
