-- The discard of figures is the one by which a second is closed, and made twice it is made by either. Assumes nothing.
use mathlib.Core.Path.{◌≡◌, refl}
use mathlib.Core.Bool.{Bool, true, false, ◌||◌}
use Rattle.second.specs.Second.{discard_of}
use Rattle.second.specs.declared.Blocks.{Blocks}
use Rattle.late.specs.Late.{void_five, five_by, EverySameDiscard}

values : (b : Blocks) (i j : Bool) → void_five (record { iae = i; biae = j }) (five_by b) ≡ five_by (discard_of b i j)
unfolding void_five discard_of
values b true j = refl
values b false true = refl
values b false false = refl

twice : (b : Blocks) (i j k l : Bool)
    → void_five (record { iae = k; biae = l }) (void_five (record { iae = i; biae = j }) (five_by b)) ≡ five_by (discard_of b (i || k) (j || l))
unfolding void_five discard_of
twice b true j true l = refl
twice b true j false true = refl
twice b true j false false = refl
twice b false true true l = refl
twice b false true false true = refl
twice b false true false false = refl
twice b false false true l = refl
twice b false false false true = refl
twice b false false false false = refl

pub same_discard : EverySameDiscard
same_discard b own next = record { values = values b own.iae own.biae; twice = twice b own.iae own.biae next.iae next.biae }
