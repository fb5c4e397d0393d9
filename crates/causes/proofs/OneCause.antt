-- Demand 3 of one frame, by one computed test over all that can stand. Assumes nothing.
use mathlib.Core.Bool.{Bool, true, false, not, ◌||◌, beq}
use mathlib.Core.List.{List, [], ◌∷◌}
use Prim.Native.Nat.{ℕ}
use lib.Dec.{T, eqb, leb, ltb, ltb→lt, leb→le}
use lib.ListN.{get_or}
use Rattle.answer.proofs.Every.{beq_eq, every, at_each, together, part}
use Rattle.signal.specs.declared.Signal.{Signal}
use Rattle.signal.specs.declared.Signal.TheVariants.{Clear, Lck, Oci, Ais}
use Rattle.causes.specs.Causes.{ssf_of, tim_acts, path_ssf, path_down, head_of, causes_of, path_actions}
use Rattle.causes.specs.OneCause.{OneCause, section_tim, path_tim, failing}
use Rattle.causes.specs.declared.Standing.{Standing}

-- the law as a list of tests
abbrev tests : Standing → ℕ → List Bool
tests d h =
    ltb h 10
    ∷ beq (causes_of d).line.lof (eqb h 3)
    ∷ beq (causes_of d).line.lom (eqb h 4)
    ∷ beq (section_tim d) (eqb h 5)
    ∷ beq (causes_of d).path.oci (eqb h 7)
    ∷ beq (causes_of d).path.lck (eqb h 8)
    ∷ beq (path_tim d) (eqb h 9)
    ∷ leb (failing d) 1
    ∷ beq (path_actions (path_ssf d) d.path 0).tsf (not (eqb h 0))
    ∷ beq (not (path_down (path_ssf d) d.path)) (eqb h 0 || eqb h 9)
    ∷ []

-- d with the signal and the eight Bools that the law reads put in
abbrev put : Standing → Signal → List Bool → Standing
put d g l = record {
  line = record { inframe = d.line.inframe; inmulti = d.line.inmulti; tsf = get_or l 0 false; ais = get_or l 1 false; lof = get_or l 2 false; lom = get_or l 3 false };
  section = record { tim = get_or l 4 false; disabled = get_or l 5 false; bdi = d.section.bdi; iae = d.section.iae; biae = d.section.biae; deg = d.section.deg };
  path = record { signal = g; tim = get_or l 6 false; disabled = get_or l 7 false; bdi = d.path.bdi; deg = d.path.deg };
}

passes : (d : Standing) (g : Signal) → T (every 8 (λ l. together (tests (put d g l) (head_of (put d g l)))))
unfolding head_of ssf_of tim_acts
passes d Clear = tt
passes d Lck = tt
passes d Oci = tt
passes d Ais = tt

tested : (d : Standing) → T (together (tests d (head_of d)))
tested d =
    at_each (λ l. together (tests (put d d.path.signal l) (head_of (put d d.path.signal l))))
    (d.line.tsf ∷ d.line.ais ∷ d.line.lof ∷ d.line.lom ∷ d.section.tim ∷ d.section.disabled ∷ d.path.tim ∷ d.path.disabled ∷ [])
    (passes d d.path.signal)

pub one_cause : (d : Standing) → OneCause d
one_cause d =
    let p : (i : ℕ) → T (get_or (tests d (head_of d)) i true) = λ i. part (tests d (head_of d)) i (tested d) in
    record {
      head = ltb→lt (head_of d) 10 (p 0);
      lof = beq_eq _ _ (p 1);
      lom = beq_eq _ _ (p 2);
      tim = beq_eq _ _ (p 3);
      oci = beq_eq _ _ (p 4);
      lck = beq_eq _ _ (p 5);
      pathtim = beq_eq _ _ (p 6);
      alone = leb→le (failing d) 1 (p 7);
      failed = beq_eq _ _ (p 8);
      counted = beq_eq _ _ (p 9);
    }
