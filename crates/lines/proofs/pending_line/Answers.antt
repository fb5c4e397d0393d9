use Rattle.std.proofs.Common.{◌∙◌, sym}
use Rattle.std.proofs.lemmas.List.{append-nil}
use Rattle.late.specs.Late.{pending_of}
use Rattle.lines.proofs.Ends.{pending_some, pending_none, told_some, told_none}
use Rattle.lines.proofs.pending_line.Goals as goal

pub returns-in-Some-clause-items : goal.returns-in-Some-clause-items
returns-in-Some-clause-items g c =
    let st = c.args.st.now in
    let p = pending_of st.sup in
    let t = told_some p.told p.figures c.in-Some.figures (sym c.in-Some.is ∙ c.pending.ensures) in
    rw (pending_some st t.0, t.1) (c.listed_line.ensures.whole c.requires)

pub returns-in_default-clause-items : goal.returns-in_default-clause-items
returns-in_default-clause-items g c =
    let st = c.args.st.now in
    let p = pending_of st.sup in
    let t = told_none p.told p.figures (sym c.in_default.is ∙ c.pending.ensures) in
    rw (pending_none st t) (sym (append-nil c.args.out.now.items))
