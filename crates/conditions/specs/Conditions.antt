-- The named conditions of a report and of a tandem level, and the text of those that changed, in G.798's names. Assumes nothing.
use Rattle.std.specs.Prelude.{ℕ, ◌+◌, ◌%◌, Bool, cond, List, [], ◌∷◌, ◌++◌}
use Prim.Native.String.{String}
use Rattle.signal.specs.Signal.{is_ais, is_oci, is_lck}
use Rattle.causes.specs.declared.Report.{Report}
use Rattle.level.specs.Level.{dAIS, dLTC, dOCI, dLCK, level_actions, level_causes}
use Rattle.level.specs.declared.LevelStands.{LevelStands}
use Rattle.listing.specs.Bytes.{bytes}

-- a condition: its name, and whether it stands
pub record Named : Type 0 where
  pub name : List ℕ
  pub stands : Bool

abbrev pub named : String → Bool → Named
named name stands = record { name = bytes name; stands = stands }

-- at the line: alignment, the two flags, dLOF and dLOM
abbrev pub line_defects : Report → List Named
line_defects r =
    named "IF" r.standing.line.inframe
    ∷ named "IM" r.standing.line.inmulti
    ∷ named "TSF-P" r.standing.line.tsf
    ∷ named "OTUk-AIS" r.standing.line.ais
    ∷ named "dLOF" r.standing.line.lof
    ∷ named "dLOM" r.standing.line.lom
    ∷ []

-- the section's SSF and defects
abbrev pub section_defects : Report → List Named
section_defects r =
    named "SM.SSF" r.section.ssf
    ∷ named "SM.dTIM" r.standing.section.tim
    ∷ named "SM.dBDI" r.standing.section.bdi
    ∷ named "SM.dIAE" r.standing.section.iae
    ∷ named "SM.dBIAE" r.standing.section.biae
    ∷ named "SM.dDEG" r.standing.section.deg
    ∷ []

-- the path's SSF and maintenance signals
abbrev pub path_signals : Report → List Named
path_signals r =
    named "PM.SSF" r.path.ssf
    ∷ named "PM.dAIS" (is_ais r.standing.path.signal)
    ∷ named "PM.dOCI" (is_oci r.standing.path.signal)
    ∷ named "PM.dLCK" (is_lck r.standing.path.signal)
    ∷ []

-- the path's other defects
abbrev pub path_defects : Report → List Named
path_defects r =
    named "PM.dTIM" r.standing.path.tim
    ∷ named "PM.dBDI" r.standing.path.bdi
    ∷ named "PM.dDEG" r.standing.path.deg
    ∷ []

-- the section's actions; aBEI is the frame's own count, and no condition
abbrev pub section_acts : Report → List Named
section_acts r =
    named "SM.aTSF" r.section.tsf
    ∷ named "SM.aTSD" r.section.tsd
    ∷ named "SM.aBDI" r.section.bdi
    ∷ named "SM.aBIAE" r.section.biae
    ∷ []

-- the path's actions, again without aBEI
abbrev pub path_acts : Report → List Named
path_acts r =
    named "PM.aTSF" r.path.tsf
    ∷ named "PM.aTSD" r.path.tsd
    ∷ named "PM.aBDI" r.path.bdi
    ∷ []

-- the fault causes of line and section
abbrev pub section_faults : Report → List Named
section_faults r =
    named "cLOF" r.causes.line.lof
    ∷ named "cLOM" r.causes.line.lom
    ∷ named "SM.cTIM" r.causes.section.tim
    ∷ named "SM.cDEG" r.causes.section.deg
    ∷ named "SM.cBDI" r.causes.section.bdi
    ∷ named "SM.cSSF" r.causes.section.ssf
    ∷ []

-- the fault causes of the path
abbrev pub path_faults : Report → List Named
path_faults r =
    named "PM.cOCI" r.causes.path.oci
    ∷ named "PM.cLCK" r.causes.path.lck
    ∷ named "PM.cTIM" r.causes.path.tim
    ∷ named "PM.cDEG" r.causes.path.deg
    ∷ named "PM.cBDI" r.causes.path.bdi
    ∷ named "PM.cSSF" r.causes.path.ssf
    ∷ []

-- every condition of a report, in the order in which they are printed
unfoldable pub conditions : Report → List Named
conditions r =
    line_defects r
    ++ (section_defects r
    ++ (path_signals r
    ++ (path_defects r
    ++ (section_acts r
    ++ (path_acts r
    ++ (section_faults r
    ++ path_faults r))))))

-- which conditions of a list stand
unfoldable pub stands_of : List Named → List Bool
stands_of [] = []
stands_of (x ∷ xs) = x.stands ∷ stands_of xs

-- one condition, after a blank: `+` and its name where it was raised, `-` and its name where it cleared, nothing where it is as it was
unfoldable pub change_of : List ℕ → Bool → Bool → List ℕ
change_of name before after = cond before (cond after [] (bytes " -" ++ name)) (cond after (bytes " +" ++ name) [])

-- the conditions of a list before and after, one after the other
unfoldable pub changes_of : List Named → List Named → List ℕ
changes_of [] [] = []
changes_of [] (y ∷ ys) = []
changes_of (x ∷ xs) [] = []
changes_of (x ∷ xs) (y ∷ ys) = change_of y.name x.stands y.stands ++ changes_of xs ys

-- what changed among the conditions of two reports
unfoldable pub condition_changes : Report → Report → List ℕ
condition_changes b a = changes_of (conditions b) (conditions a)

-- the room that it is given: 38 conditions, each a blank, a sign and a name of eight bytes at most
abbrev pub condition_room : ℕ
condition_room = 380

-- the conditions of a level without its number, in the order of the bits of `otn_level_report`: SSF and the defects, the actions, the fault causes
unfoldable pub level_words : LevelStands → List Named
level_words d =
    named "SSF" d.ssf
    ∷ named "dLTC" (dLTC d)
    ∷ named "dAIS" (dAIS d)
    ∷ named "dOCI" (dOCI d)
    ∷ named "dLCK" (dLCK d)
    ∷ named "dTIM" d.tim
    ∷ named "dBDI" d.bdi
    ∷ named "dIAE" d.iae
    ∷ named "dBIAE" d.biae
    ∷ named "dDEG" d.deg
    ∷ named "aTSF" (level_actions d).tsf
    ∷ named "aTSD" (level_actions d).tsd
    ∷ named "cSSF" (level_causes d).ssf
    ∷ named "cLTC" (level_causes d).ltc
    ∷ named "cOCI" (level_causes d).oci
    ∷ named "cLCK" (level_causes d).lck
    ∷ named "cTIM" (level_causes d).tim
    ∷ named "cDEG" (level_causes d).deg
    ∷ named "cBDI" (level_causes d).bdi
    ∷ []

-- `TCM3.`: the levels have the numbers 1 to 6, and of any other the last digit stands
abbrev pub level_prefix : ℕ → List ℕ
level_prefix n = bytes "TCM" ++ ((48 + n % 10) ∷ bytes ".")

-- a prefix to the name of each condition
unfoldable pub under : List ℕ → List Named → List Named
under p [] = []
under p (x ∷ xs) = record { name = p ++ x.name; stands = x.stands } ∷ under p xs

-- the conditions of level n: `TCM3.dLTC`
abbrev pub level_conditions : ℕ → LevelStands → List Named
level_conditions n d = under (level_prefix n) (level_words d)

-- what changed among them
unfoldable pub level_changes : ℕ → LevelStands → LevelStands → List ℕ
level_changes n b a = changes_of (level_conditions n b) (level_conditions n a)

-- the room that it is given: 19 conditions, each a blank, a sign and a name of ten bytes at most
abbrev pub level_room : ℕ
level_room = 228
