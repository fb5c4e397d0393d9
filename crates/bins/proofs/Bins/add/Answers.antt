use Rattle.std.proofs.Common.{◌≡◌, ◌∙◌, ap, refl, List, ℕ}
use Rattle.summary.specs.Summary.{join_of, second_of}
use Rattle.summary.proofs.Joins.{or_empty}
use Rattle.bins.specs.Bins.{without_levels, bins_with}
use Rattle.bins.proofs.Bins.add.Goals as goal

pub returns : goal.returns
unfolding bins_with second_of
returns c =
    let b = c.args.self.now in
    let s = c.second_of-second.result in
    let e : s ≡ second_of c.args.figures.now = c.second_of-second.ensures ∙ ap (λ (f : List ℕ). second_of f) c.without_levels.ensures in
    let q : c.unwrap_or-self.result ≡ (join_of b.quarter s).summary = rw c.empty.ensures at c.unwrap_or-self.ensures ∙ or_empty b.quarter s c.join.result c.join.ensures.refusal c.join.ensures.both in
    let d : c.unwrap_or-self-2.result ≡ (join_of b.day s).summary = rw c.empty-2.ensures at c.unwrap_or-self-2.ensures ∙ or_empty b.day s c.join-2.result c.join-2.ensures.refusal c.join-2.ensures.both in
    rw (q, d, e) refl
