use Rattle.std.proofs.Common.{◌++◌, ◌∷◌, [], ◌∙◌, arith}
use Rattle.std.proofs.lemmas.List.{append_assoc}
use Rattle.change.specs.Change.{readable_of, told_of}
use Rattle.change.proofs.put_told.Goals as goal

pub returns-clause-items : goal.returns-clause-items
unfolding told_of
returns-clause-items g c =
    let o = c.args.out.now.items in
    let n = c.args.name.now in
    let r = readable_of c.args.trace.now in
    let q = 61 ∷ 34 ∷ [] in
    let e = 34 ∷ [] in
    let p1 = c.put_text.ensures.whole (omega (arith, c.requires.room)) in
    let p2 = c.put_text-2.ensures.whole (omega (arith, c.requires.room, c.requires.name, c.put_text.ensures.bound)) in
    let p3 = c.put_text-3.ensures.whole (omega (arith, c.requires.room, c.requires.name, c.put_text.ensures.bound, c.put_text-2.ensures.bound)) in
    let p4 = c.put_text-4.ensures.whole (omega (arith, c.requires.room, c.requires.name, c.put_text.ensures.bound, c.put_text-2.ensures.bound, c.put_text-3.ensures.bound, c.put_readable.ensures.bound)) in
    rw (p4, c.put_readable.ensures.items, p3, p2, p1)
    (append_assoc (((o ++ 32 ∷ []) ++ n) ++ q) r e ∙ append_assoc ((o ++ 32 ∷ []) ++ n) q (r ++ e) ∙ append_assoc (o ++ 32 ∷ []) n (q ++ (r ++ e)) ∙ append_assoc o (32 ∷ []) (n ++ (q ++ (r ++ e))))
