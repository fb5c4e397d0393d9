-- The path's fault causes by lookup (document 02, K4): "let eight yes-or-no inputs (SSF, dAIS, dOCI, dLCK, dTIM, TIMActDis, dDEG, dBDI) select from a table of
-- 256 cause bytes, one bit per cause, six used". Assumes nothing.
use Rattle.std.specs.Prelude.{ℕ, ◌+◌, ◌*◌, ◌/◌, ◌%◌, ◌≡◌, Bool, List, [], ◌∷◌, map, eqb, length, get_or}
use Rattle.answer.specs.Bits.{flag}
use Rattle.signal.specs.Signal.{raised_of}
use Rattle.signal.specs.declared.Raised.{Raised}
use Rattle.causes.specs.Causes.{path_ssf, causes_by, report_with, report_of}
use Rattle.causes.specs.declared.PathStands.{PathStands}
use Rattle.causes.specs.declared.PathCauses.{PathCauses}
use Rattle.causes.specs.declared.Standing.{Standing}
use Rattle.causes.specs.declared.Report.{Report}

-- which entry the eight inputs select: the first is the lowest bit
abbrev pub index_of : (ssf ais oci lck tim disabled deg bdi : Bool) → ℕ
index_of ssf ais oci lck tim disabled deg bdi =
    flag ssf + 2 * flag ais + 4 * flag oci + 8 * flag lck + 16 * flag tim + 32 * flag disabled + 64 * flag deg + 128 * flag bdi

-- "one bit per cause", as the report has them from bit 50 on: cOCI, cLCK, cTIM, cDEG, cBDI, cSSF
abbrev pub byte_of : PathCauses → ℕ
byte_of c = flag c.oci + 2 * flag c.lck + 4 * flag c.tim + 8 * flag c.deg + 16 * flag c.bdi + 32 * flag c.ssf

-- the causes that a byte has
abbrev pub causes_in : ℕ → PathCauses
causes_in byte = record {
  oci = eqb (byte % 2) 1;
  lck = eqb (byte / 2 % 2) 1;
  tim = eqb (byte / 4 % 2) 1;
  deg = eqb (byte / 8 % 2) 1;
  bdi = eqb (byte / 16 % 2) 1;
  ssf = eqb (byte / 32 % 2) 1;
}

-- "a table of 256 cause bytes": a row for each choice of dTIM, TIMActDis, dDEG and dBDI, dTIM the lowest bit, and in a row one byte for each of SSF, dAIS, dOCI and dLCK
unfoldable pub cause_table : List ℕ
cause_table =
    0 ∷ 32 ∷ 32 ∷ 32 ∷ 1 ∷ 32 ∷ 33 ∷ 32 ∷ 2 ∷ 32 ∷ 34 ∷ 32 ∷ 3 ∷ 32 ∷ 35 ∷ 32
    ∷ 4 ∷ 32 ∷ 32 ∷ 32 ∷ 1 ∷ 32 ∷ 33 ∷ 32 ∷ 2 ∷ 32 ∷ 34 ∷ 32 ∷ 3 ∷ 32 ∷ 35 ∷ 32
    ∷ 0 ∷ 32 ∷ 32 ∷ 32 ∷ 1 ∷ 32 ∷ 33 ∷ 32 ∷ 2 ∷ 32 ∷ 34 ∷ 32 ∷ 3 ∷ 32 ∷ 35 ∷ 32
    ∷ 4 ∷ 32 ∷ 32 ∷ 32 ∷ 1 ∷ 32 ∷ 33 ∷ 32 ∷ 2 ∷ 32 ∷ 34 ∷ 32 ∷ 3 ∷ 32 ∷ 35 ∷ 32
    ∷ 8 ∷ 32 ∷ 32 ∷ 32 ∷ 1 ∷ 32 ∷ 33 ∷ 32 ∷ 2 ∷ 32 ∷ 34 ∷ 32 ∷ 3 ∷ 32 ∷ 35 ∷ 32
    ∷ 4 ∷ 32 ∷ 32 ∷ 32 ∷ 1 ∷ 32 ∷ 33 ∷ 32 ∷ 2 ∷ 32 ∷ 34 ∷ 32 ∷ 3 ∷ 32 ∷ 35 ∷ 32
    ∷ 8 ∷ 32 ∷ 32 ∷ 32 ∷ 1 ∷ 32 ∷ 33 ∷ 32 ∷ 2 ∷ 32 ∷ 34 ∷ 32 ∷ 3 ∷ 32 ∷ 35 ∷ 32
    ∷ 12 ∷ 32 ∷ 32 ∷ 32 ∷ 1 ∷ 32 ∷ 33 ∷ 32 ∷ 2 ∷ 32 ∷ 34 ∷ 32 ∷ 3 ∷ 32 ∷ 35 ∷ 32
    ∷ 16 ∷ 32 ∷ 32 ∷ 32 ∷ 1 ∷ 32 ∷ 33 ∷ 32 ∷ 2 ∷ 32 ∷ 34 ∷ 32 ∷ 3 ∷ 32 ∷ 35 ∷ 32
    ∷ 4 ∷ 32 ∷ 32 ∷ 32 ∷ 1 ∷ 32 ∷ 33 ∷ 32 ∷ 2 ∷ 32 ∷ 34 ∷ 32 ∷ 3 ∷ 32 ∷ 35 ∷ 32
    ∷ 16 ∷ 32 ∷ 32 ∷ 32 ∷ 1 ∷ 32 ∷ 33 ∷ 32 ∷ 2 ∷ 32 ∷ 34 ∷ 32 ∷ 3 ∷ 32 ∷ 35 ∷ 32
    ∷ 20 ∷ 32 ∷ 32 ∷ 32 ∷ 1 ∷ 32 ∷ 33 ∷ 32 ∷ 2 ∷ 32 ∷ 34 ∷ 32 ∷ 3 ∷ 32 ∷ 35 ∷ 32
    ∷ 24 ∷ 32 ∷ 32 ∷ 32 ∷ 1 ∷ 32 ∷ 33 ∷ 32 ∷ 2 ∷ 32 ∷ 34 ∷ 32 ∷ 3 ∷ 32 ∷ 35 ∷ 32
    ∷ 4 ∷ 32 ∷ 32 ∷ 32 ∷ 1 ∷ 32 ∷ 33 ∷ 32 ∷ 2 ∷ 32 ∷ 34 ∷ 32 ∷ 3 ∷ 32 ∷ 35 ∷ 32
    ∷ 24 ∷ 32 ∷ 32 ∷ 32 ∷ 1 ∷ 32 ∷ 33 ∷ 32 ∷ 2 ∷ 32 ∷ 34 ∷ 32 ∷ 3 ∷ 32 ∷ 35 ∷ 32
    ∷ 28 ∷ 32 ∷ 32 ∷ 32 ∷ 1 ∷ 32 ∷ 33 ∷ 32 ∷ 2 ∷ 32 ∷ 34 ∷ 32 ∷ 3 ∷ 32 ∷ 35 ∷ 32 ∷ []

-- the byte that the eight inputs select
unfoldable pub entry : (ssf ais oci lck tim disabled deg bdi : Bool) → ℕ
entry ssf ais oci lck tim disabled deg bdi = get_or cause_table (index_of ssf ais oci lck tim disabled deg bdi) 0

-- the path's causes by the table; dAIS, dOCI and dLCK as they are handed in
abbrev pub causes_by_table : Bool → Raised → PathStands → PathCauses
causes_by_table ssf raised d = causes_in (entry ssf raised.ais raised.oci raised.lck d.tim d.disabled d.deg d.bdi)

-- the report of a frame, the path's causes by the table: with three that are handed in, and with those of the signal that stands
unfoldable pub report_raised : Raised → Standing → ℕ → ℕ → Report
report_raised raised d sm pm = report_with (causes_by_table (path_ssf d) raised d.path) d sm pm

abbrev pub report_by_table : Standing → ℕ → ℕ → Report
report_by_table d sm pm = report_raised (raised_of d.path.signal) d sm pm

-- "Prove the rule once over the whole table": 256 entries, and each is the byte of the cause equations, also where no signal has such inputs. Some are worked out: of
-- nothing, of each input alone, of dTIM, dDEG and dBDI where dTIM acts and where it does not, of SSF with dOCI, dOCI with dTIM, dOCI with dLCK, dAIS with dOCI, and of all.
pub record TableRule : Type 0 where
  pub entries : length cause_table ≡ 256
  pub rule : (ssf ais oci lck tim disabled deg bdi : Bool) → entry ssf ais oci lck tim disabled deg bdi ≡ byte_of (causes_by ssf ais oci lck tim disabled deg bdi)
  pub worked : map (λ (i : ℕ). get_or cause_table i 0) (0 ∷ 1 ∷ 2 ∷ 4 ∷ 8 ∷ 16 ∷ 32 ∷ 64 ∷ 128 ∷ 208 ∷ 240 ∷ 5 ∷ 20 ∷ 12 ∷ 6 ∷ 255 ∷ [])
      ≡ 0 ∷ 32 ∷ 32 ∷ 1 ∷ 2 ∷ 4 ∷ 0 ∷ 8 ∷ 16 ∷ 4 ∷ 28 ∷ 32 ∷ 1 ∷ 3 ∷ 33 ∷ 32 ∷ []

-- a byte of causes has these causes and no others
abbrev pub CausesBack : Type 0
CausesBack = (c : PathCauses) → causes_in (byte_of c) ≡ c

-- so that a report by the table is the one by the equations, whatever stands
abbrev pub ReportsAlike : Type 0
ReportsAlike = (d : Standing) (sm pm : ℕ) → report_by_table d sm pm ≡ report_of d sm pm
