-- What the accepted STAT of a tandem level stands for (G.798 14.5.1.1.3, 8.8; document 02, K1). Assumes nothing.
use Rattle.std.specs.Prelude.{ℕ, Bool, true, false, cond, List, [], ◌∷◌}
use Rattle.answer.specs.Among.{among}
use Rattle.filter.specs.declared.Stat.{Stat}
use Rattle.level.specs.declared.Status.{Status}
use Rattle.level.specs.declared.Raises.{Raises}
use Rattle.level.specs.declared.Status.TheVariants.{Clear, Ltc, Iae, Lck, Oci, Ais}

-- "STAT 000 is dLTC, 010 dIAE" (document 02; 6.2.1.4.1, 6.2.6.10.2); "111 is dAIS, 110 dOCI, 101 dLCK" (document 01; 6.2.6.3.2, 6.2.6.8.2,
-- 6.2.6.9.1). 001, 011 and 100 raise nothing.
abbrev pub level_codes : Status → List ℕ
level_codes Ltc = 0 ∷ []
level_codes Iae = 2 ∷ []
level_codes Lck = 5 ∷ []
level_codes Oci = 6 ∷ []
level_codes Ais = 7 ∷ []
level_codes Clear = 1 ∷ 3 ∷ 4 ∷ []

-- the case that has the code
unfoldable pub status_of : ℕ → Status
status_of v =
    cond (among v (level_codes Ltc)) Ltc
    (cond (among v (level_codes Iae)) Iae
    (cond (among v (level_codes Lck)) Lck
    (cond (among v (level_codes Oci)) Oci
    (cond (among v (level_codes Ais)) Ais Clear))))

-- nothing is raised until a STAT is accepted: a level without one has no dLTC (8.8)
unfoldable pub status_for : Stat → Status
status_for s = cond s.known (status_of s.accepted) Clear

abbrev pub raises_ltc : Status → Bool
raises_ltc Ltc = true
raises_ltc Iae = false
raises_ltc Lck = false
raises_ltc Oci = false
raises_ltc Ais = false
raises_ltc Clear = false

abbrev pub raises_iae : Status → Bool
raises_iae Ltc = false
raises_iae Iae = true
raises_iae Lck = false
raises_iae Oci = false
raises_iae Ais = false
raises_iae Clear = false

abbrev pub raises_lck : Status → Bool
raises_lck Ltc = false
raises_lck Iae = false
raises_lck Lck = true
raises_lck Oci = false
raises_lck Ais = false
raises_lck Clear = false

abbrev pub raises_oci : Status → Bool
raises_oci Ltc = false
raises_oci Iae = false
raises_oci Lck = false
raises_oci Oci = true
raises_oci Ais = false
raises_oci Clear = false

abbrev pub raises_ais : Status → Bool
raises_ais Ltc = false
raises_ais Iae = false
raises_ais Lck = false
raises_ais Oci = false
raises_ais Ais = true
raises_ais Clear = false

abbrev pub raises_of : Status → Raises
raises_of s = record { ltc = raises_ltc s; iae = raises_iae s; lck = raises_lck s; oci = raises_oci s; ais = raises_ais s }
