-- What it is that no second answer meets a function's contract, and that an answer does not. Assumes nothing.
use Rattle.std.specs.Prelude.{ℕ, List, ◌≡◌}
use contract.Lifetimes.{Lfts}
use borrow.Fn.Kinds.{ParamKind, ResultKind, Out, Dens, res_t, ended_of}
use denote.Triple.Clauses.{AtExit}

-- two answers to the same arguments, each of which meets the contract's claim `post`, are the same
abbrev pub OneAnswer : (n : ℕ) (ps : List (ParamKind n)) (r : ResultKind n) → Out n ps r → Type 0
OneAnswer n ps r post =
    (κs : Lfts n) (a : Dens κs ps) (x y : (res_t r κs).Denot) (s t : AtExit (ended_of n ps r) κs) → post κs a x s → post κs a y t → x ≡ y

-- and what `view` reads of lent memory at the end is the same after both
abbrev pub OneEnd : (n : ℕ) (ps : List (ParamKind n)) (r : ResultKind n) (X : Type 0) → ((κs : Lfts n) → AtExit (ended_of n ps r) κs → X) → Out n ps r → Type 0
OneEnd n ps r X view post =
    (κs : Lfts n) (a : Dens κs ps) (x y : (res_t r κs).Denot) (s t : AtExit (ended_of n ps r) κs) → post κs a x s → post κs a y t → view κs s ≡ view κs t

-- x is no answer to the arguments a of a function that is lent nothing: the contract's claim `post` fails
abbrev pub NoAnswer : (ps : List (ParamKind 0)) (r : ResultKind 0) → Out 0 ps r → Dens {n = 0} tt ps → (res_t r tt).Denot → Type 0
NoAnswer ps r post a x = (s : AtExit (ended_of 0 ps r) tt) → post tt a x s → ⊥
