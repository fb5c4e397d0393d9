use Rattle.std.proofs.Common.{◌≡◌, ◌++◌, [], ◌∷◌, length, take, arith, min, ◌∙◌}
use Rattle.std.proofs.lemmas.List.{take_all, take_min, append_assoc}
use Rattle.listing.specs.Text.{fields_of, text_line}
use Rattle.listing.proofs.Texts.{fields_more}
use Rattle.listing.proofs.put_second.Goals as goal

pub loop-n-preserved : goal.loop-n-preserved
loop-n-preserved g c = record {
  so_far = rw (c.put_field.ensures.items, c.loop-n.invariant.so_far, c.from.ensures) (fields_more (c.args.out.now.items ++ 83 ∷ []) (take c.min.result c.args.figures.now) c.loop-n.n-index c.loop-n-test.true);
  bound = omega (arith, c.loop-n.invariant.bound, c.put_field.ensures.bound);
}

pub returns-clause-items : goal.returns-clause-items
unfolding text_line
returns-clause-items g c =
    let out = c.args.out.now.items in
    let figures = c.args.figures.now in
    let n : c.min.result ≡ min 52 (length figures) = omega (arith, c.min.ensures) in
    let all : take c.min.result figures ≡ take 52 figures = rw n (take_min 52 figures) in
    let put : take c.loop-n.n-index (take c.min.result figures) ≡ take 52 figures = take_all c.loop-n.n-index (take c.min.result figures) c.loop-n-test.false ∙ all in
    rw (c.push-2.ensures.items, c.loop-n.invariant.so_far, put)
    (append_assoc (out ++ 83 ∷ []) (fields_of (take 52 figures)) (10 ∷ []) ∙ append_assoc out (83 ∷ []) (fields_of (take 52 figures) ++ 10 ∷ []))
