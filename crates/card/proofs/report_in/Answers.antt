use Rattle.card.proofs.Late.{report_is}
use Rattle.card.proofs.report_in.Goals as goal

pub returns : goal.returns
returns c =
    report_is c.args.sup.now _ _ _ _ _ c.args.number c.requires.sup_len c.requires.number_value c.words_in-told.ensures c.section_erred-section.ensures c.levels_erred-levels.ensures
    c.void.ensures c.numbered_record.ensures
