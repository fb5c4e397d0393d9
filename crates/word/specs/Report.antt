-- The report of a frame as one number: its fields side by side, the first lowest. Assumes nothing.
use Rattle.std.specs.Prelude.{Bool, List, [], ◌∷◌, ◌++◌, ℕ, ◌+◌, ◌*◌, ◌^◌}
use Rattle.signal.specs.Signal.{is_ais, is_oci, is_lck}
use Rattle.causes.specs.declared.Line.{Line}
use Rattle.causes.specs.declared.SectionStands.{SectionStands}
use Rattle.causes.specs.declared.PathStands.{PathStands}
use Rattle.causes.specs.declared.SectionActions.{SectionActions}
use Rattle.causes.specs.declared.PathActions.{PathActions}
use Rattle.causes.specs.declared.LineCauses.{LineCauses}
use Rattle.causes.specs.declared.SectionCauses.{SectionCauses}
use Rattle.causes.specs.declared.PathCauses.{PathCauses}
use Rattle.causes.specs.declared.Report.{Report}
use Rattle.answer.specs.Bits.{flag}

-- a number, and how many bits it has
pub record Field : Type 0 where
  pub width : ℕ
  pub value : ℕ

abbrev pub number : ℕ → ℕ → Field
number width value = record { width = width; value = value }

abbrev pub one : Bool → Field
one x = number 1 (flag x)

-- a field of one bit for each flag
abbrev pub ones : List Bool → List Field
ones [] = []
ones (b ∷ bs) = one b ∷ ones bs

-- the fields side by side
abbrev pub packed : List Field → ℕ
packed [] = 0
packed (f ∷ fs) = f.value + 2 ^ f.width * packed fs

-- bits 12 to 15: IF, IM, dLOF, dLOM
abbrev pub line_fields : Line → List Field
line_fields l = one l.inframe ∷ one l.inmulti ∷ one l.lof ∷ one l.lom ∷ []

-- bits 16 to 21, section: SSF, dTIM, dBDI, dIAE, dBIAE, dDEG
abbrev pub section_fields : Bool → SectionStands → List Field
section_fields ssf d = one ssf ∷ one d.tim ∷ one d.bdi ∷ one d.iae ∷ one d.biae ∷ one d.deg ∷ []

-- bits 22 to 28, path: SSF, dAIS, dOCI, dLCK, dTIM, dBDI, dDEG
abbrev pub path_fields : Bool → PathStands → List Field
path_fields ssf d =
    one ssf ∷ one (is_ais d.signal) ∷ one (is_oci d.signal) ∷ one (is_lck d.signal) ∷ one d.tim ∷ one d.bdi ∷ one d.deg ∷ []

-- bits 29 to 36, section: aTSF, aTSD, aBDI, aBIAE, and aBEI in 33 to 36
abbrev pub section_acted : SectionActions → List Field
section_acted a = one a.tsf ∷ one a.tsd ∷ one a.bdi ∷ one a.biae ∷ number 4 a.bei ∷ []

-- bits 37 to 43, path: aTSF, aTSD, aBDI, and aBEI in 40 to 43
abbrev pub path_acted : PathActions → List Field
path_acted a = one a.tsf ∷ one a.tsd ∷ one a.bdi ∷ number 4 a.bei ∷ []

-- bits 44 and 45: cLOF, cLOM
abbrev pub line_caused : LineCauses → List Field
line_caused c = one c.lof ∷ one c.lom ∷ []

-- bits 46 to 49, section: cTIM, cDEG, cBDI, cSSF
abbrev pub section_caused : SectionCauses → List Field
section_caused c = one c.tim ∷ one c.deg ∷ one c.bdi ∷ one c.ssf ∷ []

-- bits 50 to 55, path: cOCI, cLCK, cTIM, cDEG, cBDI, cSSF
abbrev pub path_caused : PathCauses → List Field
path_caused c = one c.oci ∷ one c.lck ∷ one c.tim ∷ one c.deg ∷ one c.bdi ∷ one c.ssf ∷ []

-- bits 0 to 7 are the refusal, 0 in a report; 8 to 11 the head; then the rest in its order
abbrev pub report_fields : Report → List Field
report_fields r =
    number 8 0 ∷ number 4 r.head
    ∷ (line_fields r.standing.line
    ++ (section_fields r.section.ssf r.standing.section
    ++ (path_fields r.path.ssf r.standing.path
    ++ (section_acted r.section
    ++ (path_acted r.path
    ++ (line_caused r.causes.line ++ (section_caused r.causes.section ++ path_caused r.causes.path)))))))

unfoldable pub report_word : Report → ℕ
report_word r = packed (report_fields r)
