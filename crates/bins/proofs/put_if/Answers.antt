use Rattle.bins.proofs.put_if.Goals as goal

pub returns-then-print-clause-items : goal.returns-then-print-clause-items
returns-then-print-clause-items g c = rw (c.if-print.true, ← c.number_of.ensures, ← c.numbers_of.ensures) (c.bin_line.ensures.whole c.requires.room)
