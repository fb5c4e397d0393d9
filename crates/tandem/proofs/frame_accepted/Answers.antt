use Rattle.std.proofs.Common.{◌≡◌, sym, ◌∙◌, arith}
use Rattle.tandem.specs.Levels.{low_to}
use Rattle.tandem.specs.Tandem.{refusal_by}
use Rattle.tandem.proofs.Turns.{six_low}
use Rattle.tandem.proofs.frame_accepted.Goals as goal

pub returns-clause-refusal : goal.returns-clause-refusal
unfolding refusal_by
returns-clause-refusal c =
    let counts = c.args.counts.now in
    let low : c.all_low.result ≡ low_to 6 counts = c.all_low.ensures ∙ sym (six_low counts (omega arith)) in
    grind (arith, low)

pub returns-in_err-test-3-clause-refusal : goal.returns-in_err-test-3-clause-refusal
unfolding refusal_by
returns-in_err-test-3-clause-refusal c =
    let counts = c.args.counts.now in
    let low : c.all_low.result ≡ low_to 6 counts = c.all_low.ensures ∙ sym (six_low counts (omega arith)) in
    grind (arith, low)
