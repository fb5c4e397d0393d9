use Rattle.std.proofs.Common.{◌≡◌, ◌∙◌, take}
use Rattle.std.proofs.lemmas.List.{take_all}
use Rattle.tandem.specs.Levels.{listed_of}
use Rattle.lines.proofs.listed_line.Goals as goal

pub returns-clause-put : goal.returns-clause-put
returns-clause-put g c =
    let e : take 52 c.as_slice.result.now ≡ listed_of c.args.levels.now c.args.second.now = take_all 52 c.as_slice.result.now c.as_slice.ensures.fits ∙ c.as_slice.ensures.value ∙ c.listed_figures-listed.ensures in
    rw e at c.second_line.ensures.put

pub returns-clause-whole : goal.returns-clause-whole
returns-clause-whole g c =
    let e : take 52 c.as_slice.result.now ≡ listed_of c.args.levels.now c.args.second.now = take_all 52 c.as_slice.result.now c.as_slice.ensures.fits ∙ c.as_slice.ensures.value ∙ c.listed_figures-listed.ensures in
    rw e at c.second_line.ensures.whole
