-- "Actions and causes" and "Heads" (document 01): Boolean equations on what stands after the frame. Assumes nothing.
use Rattle.std.specs.Prelude.{ℕ, Bool, false, cond, not, ◌&&◌, ◌||◌}
use Rattle.signal.specs.Signal.{is_ais, is_oci, is_lck}
use Rattle.signal.specs.declared.Signal.TheVariants.{Clear}
use Rattle.causes.specs.declared.Line.{Line}
use Rattle.causes.specs.declared.SectionStands.{SectionStands}
use Rattle.causes.specs.declared.PathStands.{PathStands}
use Rattle.causes.specs.declared.Standing.{Standing}
use Rattle.causes.specs.declared.SectionActions.{SectionActions}
use Rattle.causes.specs.declared.PathActions.{PathActions}
use Rattle.causes.specs.declared.LineCauses.{LineCauses}
use Rattle.causes.specs.declared.SectionCauses.{SectionCauses}
use Rattle.causes.specs.declared.PathCauses.{PathCauses}
use Rattle.causes.specs.declared.Causes.{Causes}
use Rattle.causes.specs.declared.Report.{Report}

-- "Section SSF stands when TSF-P, OTUk-AIS, dLOF or dLOM stands." (12.3.1.3)
unfoldable pub ssf_of : Line → Bool
ssf_of l = l.tsf || l.ais || l.lof || l.lom

-- "'TIM acts' means dTIM and not TIMActDis."
unfoldable pub tim_acts : Bool → Bool → Bool
tim_acts tim disabled = tim && not disabled

-- "Causes at the line: cLOF = dLOF without TSF-P and OTUk-AIS. cLOM = dLOM without these two and dLOF." (12.3.1.3)
abbrev pub line_causes : Line → LineCauses
line_causes l = record {
  lof = l.lof && not (l.tsf || l.ais);
  lom = l.lom && not (l.tsf || l.ais || l.lof);
}

-- "Section: aTSF = SSF or TIM acts. aTSD = dDEG. aBDI = SSF or dTIM. aBEI = violation count. aBIAE = dIAE." (13.2.1.2)
abbrev pub section_actions : Bool → SectionStands → ℕ → SectionActions
section_actions ssf d violations = record {
  ssf = ssf;
  tsf = ssf || tim_acts d.tim d.disabled;
  tsd = d.deg;
  bdi = ssf || d.tim;
  biae = d.iae;
  bei = violations;
}

-- "cTIM = dTIM without SSF. cDEG, cBDI = dDEG, dBDI without SSF and without TIM acts. cSSF = SSF." (13.2.1.2)
abbrev pub section_causes : Bool → SectionStands → SectionCauses
section_causes ssf d = record {
  tim = d.tim && not ssf;
  deg = d.deg && not (ssf || tim_acts d.tim d.disabled);
  bdi = d.bdi && not (ssf || tim_acts d.tim d.disabled);
  ssf = ssf;
}

-- "Path SSF = section aTSF."
abbrev pub path_ssf : Standing → Bool
path_ssf d = ssf_of d.line || tim_acts d.section.tim d.section.disabled

-- "those four": SSF, dAIS, dOCI, dLCK
abbrev pub path_down : Bool → PathStands → Bool
path_down ssf d = ssf || is_ais d.signal || is_oci d.signal || is_lck d.signal

-- "aTSF = SSF, dAIS, dOCI, dLCK or TIM acts. aTSD, aBEI as above. aBDI = SSF, dAIS, dOCI, dLCK or dTIM." (14.2.1.2)
abbrev pub path_actions : Bool → PathStands → ℕ → PathActions
path_actions ssf d violations = record {
  ssf = ssf;
  tsf = path_down ssf d || tim_acts d.tim d.disabled;
  tsd = d.deg;
  bdi = path_down ssf d || d.tim;
  bei = violations;
}

-- "cOCI, cLCK without SSF. cTIM = dTIM without SSF, dAIS, dOCI, dLCK. cDEG, cBDI without those four and without TIM acts.
-- cSSF = SSF or dAIS." (14.2.1.2) They go by "eight yes-or-no inputs (SSF, dAIS, dOCI, dLCK, dTIM, TIMActDis, dDEG, dBDI)" (document 02).
abbrev pub causes_by : (ssf ais oci lck tim disabled deg bdi : Bool) → PathCauses
causes_by ssf ais oci lck tim disabled deg bdi =
    let down : Bool = ssf || ais || oci || lck in
    record {
      oci = oci && not ssf;
      lck = lck && not ssf;
      tim = tim && not down;
      deg = deg && not (down || tim_acts tim disabled);
      bdi = bdi && not (down || tim_acts tim disabled);
      ssf = ssf || ais;
    }

abbrev pub path_causes : Bool → PathStands → PathCauses
path_causes ssf d = causes_by ssf (is_ais d.signal) (is_oci d.signal) (is_lck d.signal) d.tim d.disabled d.deg d.bdi

-- "Heads, the first that fits: 1 TSF-P, 2 OTUk-AIS, 3 dLOF, 4 dLOM, 5 section TIM acts, 6 path dAIS, 7 dOCI, 8 dLCK, 9 path TIM
-- acts; otherwise 0, clear."
unfoldable pub head_of : Standing → ℕ
head_of d =
    cond d.line.tsf 1
    (cond d.line.ais 2
    (cond d.line.lof 3
    (cond d.line.lom 4
    (cond (tim_acts d.section.tim d.section.disabled) 5
    (cond (is_ais d.path.signal) 6
    (cond (is_oci d.path.signal) 7
    (cond (is_lck d.path.signal) 8
    (cond (tim_acts d.path.tim d.path.disabled) 9 0))))))))

-- the causes of line, section and path, those of the path as one engine or the other has them; and by the equations
abbrev pub causes_with : PathCauses → Standing → Causes
causes_with path d = record {
  line = line_causes d.line;
  section = section_causes (ssf_of d.line) d.section;
  path = path;
}

abbrev pub causes_of : Standing → Causes
causes_of d = causes_with (path_causes (path_ssf d) d.path) d

-- all that is answered of a frame, again by the path's causes
abbrev pub report_with : PathCauses → Standing → ℕ → ℕ → Report
report_with path d sm pm = record {
  standing = d;
  section = section_actions (ssf_of d.line) d.section sm;
  path = path_actions (path_ssf d) d.path pm;
  causes = causes_with path d;
  head = head_of d;
}

-- by the equations
unfoldable pub report_of : Standing → ℕ → ℕ → Report
report_of d sm pm = report_with (path_causes (path_ssf d) d.path) d sm pm

-- nothing stands
abbrev pub nothing_stands : Standing
nothing_stands = record {
  line = record { inframe = false; inmulti = false; tsf = false; ais = false; lof = false; lom = false };
  section = record { tim = false; disabled = false; bdi = false; iae = false; biae = false; deg = false };
  path = record { signal = Clear; tim = false; disabled = false; bdi = false; deg = false };
}

-- "A refusal answers its number and nothing else": its report is that of nothing
unfoldable pub no_report : Report
no_report = report_of nothing_stands 0 0
