-- "Accepted values and defects" (document 01), in the order of a frame: alignment, section, path. Assumes nothing.
use Rattle.std.specs.Prelude.{ℕ, ◌/◌, ◌%◌, Bool, false, ◌||◌, leb, eqb}
use Rattle.overhead.specs.declared.Field.{Field}
use Rattle.overhead.specs.declared.Overhead.{Overhead}
use Rattle.overhead.specs.Bei.{bei_of, is_biae}
use Rattle.filter.specs.declared.Stat.{Stat}
use Rattle.filter.specs.Filter.{quiet, filter_of}
use Rattle.filter.specs.Stat.{no_stat, stat_of}
use Rattle.alignment.specs.declared.Alignment.{Alignment}
use Rattle.alignment.specs.declared.Multi.{Multi}
use Rattle.alignment.specs.Alignment.{frames_of, align_of, dLOF, dLOM, fresh_alignment}
use Rattle.layer.specs.declared.Layer.{Layer}
use Rattle.layer.specs.Layer.{with_deg, layer_of, tim_of, fresh_layer}
use Rattle.signal.specs.Signal.{stands_for, is_ais}
use Rattle.causes.specs.Causes.{ssf_of, tim_acts}
use Rattle.causes.specs.declared.Line.{Line}
use Rattle.causes.specs.declared.SectionStands.{SectionStands}
use Rattle.causes.specs.declared.PathStands.{PathStands}
use Rattle.causes.specs.declared.Standing.{Standing}
use Rattle.settings.specs.declared.Options.{Options}
use Rattle.settings.specs.declared.Settings.{Settings}
use Rattle.frame.specs.declared.SectionState.{SectionState}
use Rattle.frame.specs.declared.PathState.{PathState}
use Rattle.frame.specs.declared.Layers.{Layers}

-- the line after the frame; "a flags byte (value 1: line signal fail, TSF-P; value 2: OTUk-AIS; both may stand)"
unfoldable pub line_of : Alignment → ℕ → ℕ → Line
line_of a n flags = record {
  inframe = a.framing.inframe;
  inmulti = a.multi.inmulti;
  tsf = eqb (flags % 2) 1;
  ais = eqb (flags / 2 % 2) 1;
  lof = dLOF a n;
  lom = dLOM a n;
}

-- The section: its trace and dBDI are "False during SSF". "Section dIAE: IAE, five and five. Section dBIAE: BEI = 1011 in three
-- frames in a row; cleared by three others. Both false during SSF and dTIM." (6.2.6.10.1, 6.2.6.11.1)
unfoldable pub section_of : SectionState → Options → Bool → Multi → Field → SectionState
section_of s p ssf m f =
    let l : Layer = layer_of s.layer ssf m.inmulti m.number f.tti f.bdi in
    let dTIM : Bool = tim_of l p.mode p.names in
    record {
      layer = l;
      iae = filter_of s.iae 5 (ssf || dTIM) f.iae;
      biae = filter_of s.biae 3 (ssf || dTIM) (is_biae (bei_of f.bei));
    }

-- the section's defects
unfoldable pub section_stands : SectionState → Options → SectionStands
section_stands s p = record {
  tim = tim_of s.layer p.mode p.names;
  disabled = p.disabled;
  bdi = s.layer.bdi.on;
  iae = s.iae.on;
  biae = s.biae.on;
  deg = s.layer.deg.on;
}

-- The path: STAT is "forgotten during path SSF"; its trace and dBDI are false "in the path also during dAIS".
unfoldable pub path_of : PathState → Bool → Multi → Field → PathState
path_of s ssf m f =
    let t : Stat = stat_of s.stat ssf f.stat in
    record {
      layer = layer_of s.layer (ssf || is_ais (stands_for t)) m.inmulti m.number f.tti f.bdi;
      stat = t;
    }

-- the path's defects
unfoldable pub path_stands : PathState → Options → PathStands
path_stands s p = record {
  signal = stands_for s.stat;
  tim = tim_of s.layer p.mode p.names;
  disabled = p.disabled;
  bdi = s.layer.bdi.on;
  deg = s.layer.deg.on;
}

-- "Order in a frame: alignment, section, path." "Path SSF = section aTSF."
unfoldable pub layers_of : Settings → Layers → Overhead → ℕ → Layers
layers_of s l o flags =
    let n : ℕ = frames_of s.k in
    let a : Alignment = align_of l.align n o.four o.three o.mfas in
    let ssf : Bool = ssf_of (line_of a n flags) in
    let section : SectionState = section_of l.section s.section ssf a.multi o.section in
    let d : SectionStands = section_stands section s.section in
    record {
      align = a;
      section = section;
      path = path_of l.path (ssf || tim_acts d.tim d.disabled) a.multi o.path;
    }

-- what stands, by the layers after the frame and the frame's flags
unfoldable pub standing_of : Settings → Layers → ℕ → Standing
standing_of s l flags = record {
  line = line_of l.align (frames_of s.k) flags;
  section = section_stands l.section s.section;
  path = path_stands l.path s.path;
}

-- the layers after a frame, together with what stands
pub record Advanced : Type 0 where
  pub layers : Layers
  pub standing : Standing

abbrev pub advance_of : Settings → Layers → Overhead → ℕ → Advanced
advance_of s l o flags = record { layers = layers_of s l o flags; standing = standing_of s (layers_of s l o flags) flags }

-- "dDEG, decided at a mark: a second is bad if its near-end block count, after discard, is at least DEGThr. DEGM bad seconds in a
-- row raise it, DEGM others clear it. SSF doesn't force it." (6.2.3.4, 6.2.3.5)
abbrev pub degraded : Layer → Options → ℕ → Layer
degraded l p near = with_deg l (filter_of l.deg p.degm false (leb p.thr near))

abbrev pub fresh_layers : Layers
fresh_layers = record {
  align = fresh_alignment;
  section = record { layer = fresh_layer; iae = quiet; biae = quiet };
  path = record { layer = fresh_layer; stat = no_stat };
}
