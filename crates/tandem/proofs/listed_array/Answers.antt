use Rattle.std.proofs.Common.{refl, ap, List, ℕ, length, ◌∙◌}
use Rattle.tandem.proofs.Turns.{array_is}
use Rattle.tandem.proofs.listed_array.Goals as goal

pub returns : goal.returns
returns c =
    let e = c.listed_figures-listed.ensures in
    array_is _ _ _ _ refl (c.copy_from_slice.ensures.after ∙ c.as_slice.ensures.value ∙ e) (c.len-n.ensures.value ∙ ap (λ (l : List ℕ). length l) e)
