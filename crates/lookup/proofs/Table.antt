-- The rule of the table, by one computed test over its eight inputs; and so a report by the table is the one by the equations. Assumes nothing.
use Prim.Native.Nat.{ℕ}
use mathlib.Core.Path.{◌≡◌, refl, ap, ◌∙◌}
use mathlib.Core.Bool.{Bool, true, false, beq}
use mathlib.Core.List.{List, [], ◌∷◌}
use lib.Dec.{T, eqb, eqb→eq}
use lib.ListN.{get_or}
use Rattle.answer.proofs.Every.{beq_eq, every, at_each, together, part}
use Rattle.signal.specs.Signal.{raised_of}
use Rattle.signal.specs.declared.Raised.{Raised}
use Rattle.causes.specs.Causes.{tim_acts, path_ssf, causes_by, report_with, report_of}
use Rattle.causes.specs.declared.PathCauses.{PathCauses}
use Rattle.causes.specs.declared.PathStands.{PathStands}
use Rattle.causes.specs.declared.Standing.{Standing}
use Rattle.lookup.specs.Lookup.{byte_of, causes_in, cause_table, entry, report_raised, TableRule, CausesBack, ReportsAlike}

-- whether the entry of eight inputs is the byte of the equations
abbrev right : (ssf ais oci lck tim disabled deg bdi : Bool) → Bool
right ssf ais oci lck tim disabled deg bdi = eqb (entry ssf ais oci lck tim disabled deg bdi) (byte_of (causes_by ssf ais oci lck tim disabled deg bdi))

abbrev right_at : List Bool → Bool
right_at l = right (get_or l 0 false) (get_or l 1 false) (get_or l 2 false) (get_or l 3 false) (get_or l 4 false) (get_or l 5 false) (get_or l 6 false) (get_or l 7 false)

passes : T (every 8 right_at)
unfolding entry cause_table tim_acts
passes = tt

pub table_rule : TableRule
unfolding cause_table
table_rule = record {
  entries = refl;
  rule = λ ssf ais oci lck tim disabled deg bdi. eqb→eq _ _ (at_each right_at (ssf ∷ ais ∷ oci ∷ lck ∷ tim ∷ disabled ∷ deg ∷ bdi ∷ []) passes);
  worked = refl;
}

-- whether each of six causes is read back
abbrev causes_of : List Bool → PathCauses
causes_of l = record { oci = get_or l 0 false; lck = get_or l 1 false; tim = get_or l 2 false; deg = get_or l 3 false; bdi = get_or l 4 false; ssf = get_or l 5 false }

abbrev back : PathCauses → PathCauses → List Bool
back c r =
    beq r.oci c.oci ∷ beq r.lck c.lck ∷ beq r.tim c.tim
    ∷ beq r.deg c.deg ∷ beq r.bdi c.bdi ∷ beq r.ssf c.ssf ∷ []

all_back : T (every 6 (λ l. together (back (causes_of l) (causes_in (byte_of (causes_of l))))))
all_back = tt

pub causes_back : CausesBack
causes_back c =
    let r : PathCauses = causes_in (byte_of c) in
    let t : T (together (back c r)) =
    at_each (λ l. together (back (causes_of l) (causes_in (byte_of (causes_of l)))))
    (c.oci ∷ c.lck ∷ c.tim ∷ c.deg ∷ c.bdi ∷ c.ssf ∷ []) all_back in
    let p : (i : ℕ) → T (get_or (back c r) i true) = λ i. part (back c r) i t in
    let oci : r.oci ≡ c.oci = beq_eq _ _ (p 0) in
    let lck : r.lck ≡ c.lck = beq_eq _ _ (p 1) in
    let tim : r.tim ≡ c.tim = beq_eq _ _ (p 2) in
    let deg : r.deg ≡ c.deg = beq_eq _ _ (p 3) in
    let bdi : r.bdi ≡ c.bdi = beq_eq _ _ (p 4) in
    let ssf : r.ssf ≡ c.ssf = beq_eq _ _ (p 5) in rw (oci, lck, tim, deg, bdi, ssf)

-- a report by the table is that of the equations, whatever three are handed in
pub by_equations : (raised : Raised) (d : Standing) (sm pm : ℕ)
    → let p : PathStands = d.path in
    report_raised raised d sm pm ≡ report_with (causes_by (path_ssf d) raised.ais raised.oci raised.lck p.tim p.disabled p.deg p.bdi) d sm pm
unfolding report_raised
by_equations raised d sm pm =
    let p : PathStands = d.path in
    let e = table_rule.rule (path_ssf d) raised.ais raised.oci raised.lck p.tim p.disabled p.deg p.bdi in
    ap (λ (c : PathCauses). report_with c d sm pm) (ap causes_in e ∙ causes_back _)

pub reports_alike : ReportsAlike
unfolding report_of
reports_alike d sm pm = by_equations (raised_of d.path.signal) d sm pm
