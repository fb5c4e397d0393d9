use mathlib.Core.Path.{sym}
use Rattle.bay.proofs.Given.{passed}
use Rattle.card.proofs.Halves.{give_last}
use Rattle.card.proofs.level_accepted.Goals as goal

pub returns-clause-refusal : goal.returns-clause-refusal
returns-clause-refusal c =
    give_last c.args.sup.now c.requires.sup_value c.args.n c.args.r.now c.args.names.now _ _ _ _ (rw c.array_in.ensures at c.head_in-head.ensures) c.words_in-c.ensures
    c.given_at-given.ensures (sym c.in_ok-accepted.ensures) (passed _ _ (sym c.in_ok-test.ensures)) c.test-2.ensures
