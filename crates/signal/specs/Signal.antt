-- "Path STAT" (document 01): what an accepted code raises (6.2.6.3.2, 6.2.6.8.2, 6.2.6.9.1). Assumes nothing.
use Rattle.std.specs.Prelude.{ℕ, Bool, true, false, cond, List, [], ◌∷◌}
use Rattle.answer.specs.Among.{among}
use Rattle.filter.specs.declared.Stat.{Stat}
use Rattle.signal.specs.declared.Signal.{Signal}
use Rattle.signal.specs.declared.Raised.{Raised}
use Rattle.signal.specs.declared.Signal.TheVariants.{Clear, Lck, Oci, Ais}

-- "Eight three-bit codes are possible: 111 is dAIS, 110 dOCI, 101 dLCK; 000 to 100 raise nothing."
abbrev pub codes_of : Signal → List ℕ
codes_of Ais = 7 ∷ []
codes_of Oci = 6 ∷ []
codes_of Lck = 5 ∷ []
codes_of Clear = 0 ∷ 1 ∷ 2 ∷ 3 ∷ 4 ∷ []

-- the case that has the code
unfoldable pub signal_of : ℕ → Signal
signal_of v = cond (among v (codes_of Ais)) Ais (cond (among v (codes_of Oci)) Oci (cond (among v (codes_of Lck)) Lck Clear))

-- nothing is raised until a STAT is accepted
unfoldable pub stands_for : Stat → Signal
stands_for s = cond s.known (signal_of s.accepted) Clear

abbrev pub is_ais : Signal → Bool
is_ais Ais = true
is_ais Oci = false
is_ais Lck = false
is_ais Clear = false

abbrev pub is_oci : Signal → Bool
is_oci Ais = false
is_oci Oci = true
is_oci Lck = false
is_oci Clear = false

abbrev pub is_lck : Signal → Bool
is_lck Ais = false
is_lck Oci = false
is_lck Lck = true
is_lck Clear = false

-- the one code that raises it; 0, which raises nothing, of none
abbrev pub code_of : Signal → ℕ
code_of Ais = 7
code_of Oci = 6
code_of Lck = 5
code_of Clear = 0

abbrev pub raised_of : Signal → Raised
raised_of s = record { ais = is_ais s; oci = is_oci s; lck = is_lck s }
