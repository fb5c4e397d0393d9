-- The supervisor: provisioning, a frame, a mark, and reading an accepted trace (document 01). Assumes nothing.
use Rattle.std.specs.Prelude.{ℕ, ◌+◌, false, cond, ◌&&◌, List, [], ◌∷◌, leb, ltb, eqb, length, replicate}
use Rattle.answer.specs.Checks.{Check, check, first_of}
use Rattle.overhead.specs.Overhead.{overhead_of}
use Rattle.layer.specs.declared.Layer.{Layer}
use Rattle.causes.specs.Causes.{report_of, no_report}
use Rattle.frame.specs.Layers.{layers_of, standing_of, degraded, fresh_layers}
use Rattle.second.specs.Second.{count_of, closed_of, figures_of, fresh_second}
use Rattle.settings.specs.Settings.{settings_refusal, options_of}
use Rattle.causes.specs.declared.Standing.{Standing}
use Rattle.causes.specs.declared.Report.{Report}
use Rattle.second.specs.declared.Second.{Second}
use Rattle.settings.specs.declared.Request.{Request}
use Rattle.settings.specs.declared.Options.{Options}
use Rattle.settings.specs.declared.Settings.{Settings}
use Rattle.frame.specs.declared.Layers.{Layers}
use Rattle.supervisor.specs.declared.Supervisor.{Supervisor}

-- the answers as the C edge has them: the refusal's number, 0 where the call is accepted
pub record Provisioned : Type 0 where
  pub refusal : ℕ
  pub supervisor : Supervisor

pub record Stepped : Type 0 where
  pub refusal : ℕ
  pub report : Report
  pub supervisor : Supervisor

pub record Marked : Type 0 where
  pub refusal : ℕ
  pub figures : List ℕ
  pub supervisor : Supervisor

pub record Traced : Type 0 where
  pub refusal : ℕ
  pub trace : List ℕ

-- "Fresh: out of frame (OOF), out of multiframe (OOM), no defects, all counts zero."
abbrev pub fresh_of : Settings → Supervisor
fresh_of s = record { settings = s; layers = fresh_layers; second = fresh_second; seconds = 0 }

-- what the record of a refused provisioning has in place of a supervisor; the call itself answers the refusal and no supervisor
abbrev pub blank_options : Options
blank_options = record { thr = 1; degm = 2; mode = 0; disabled = false; names = replicate 32 0 }

abbrev pub blank_supervisor : Supervisor
blank_supervisor = fresh_of (record { k = 1; section = blank_options; path = blank_options })

-- a fresh supervisor under what is asked for
abbrev pub provisioned_as : ℕ → Request → Request → List ℕ → List ℕ → Supervisor
provisioned_as k section path snames pnames = fresh_of (record { k = k; section = options_of section snames; path = options_of path pnames })

-- provisioning: refusals 5 to 10, or a fresh supervisor
unfoldable pub provision_of : ℕ → Request → Request → List ℕ → List ℕ → Provisioned
provision_of k section path snames pnames =
    let refusal : ℕ = settings_refusal k section path snames pnames in
    cond (eqb refusal 0)
    (record { refusal = 0; supervisor = fresh_of (record { k = k; section = options_of section snames; path = options_of path pnames }) })
    (record { refusal = refusal; supervisor = blank_supervisor })

-- 1 "overhead not 64 bytes"; 2 "flags above 3"; 3 "a violation count above 8"; 4 "a frame when the open second holds 400,000"
abbrev pub step_checks : Supervisor → List ℕ → ℕ → ℕ → ℕ → List Check
step_checks s overhead flags sm pm =
    check 1 (eqb (length overhead) 64)
    ∷ check 2 (leb flags 3)
    ∷ check 3 (leb sm 8 && leb pm 8)
    ∷ check 4 (ltb s.second.frames.0 400000)
    ∷ []

unfoldable pub step_refusal : Supervisor → List ℕ → ℕ → ℕ → ℕ → ℕ
step_refusal s overhead flags sm pm = first_of (step_checks s overhead flags sm pm)

-- what stands after an accepted frame
unfoldable pub stands_after : Supervisor → List ℕ → ℕ → Standing
stands_after s overhead flags = standing_of s.settings (layers_of s.settings s.layers (overhead_of overhead) flags) flags

-- the supervisor after an accepted frame
unfoldable pub frame_of : Supervisor → List ℕ → ℕ → ℕ → ℕ → Supervisor
frame_of s overhead flags sm pm = record {
  settings = s.settings;
  layers = layers_of s.settings s.layers (overhead_of overhead) flags;
  second = count_of s.second (stands_after s overhead flags) (overhead_of overhead) sm pm;
  seconds = s.seconds;
}

-- a frame: "A refusal answers its number and nothing else; supervisor and lent buffers keep their contents."
unfoldable pub step_of : Supervisor → List ℕ → ℕ → ℕ → ℕ → Stepped
step_of s overhead flags sm pm =
    let refusal : ℕ = step_refusal s overhead flags sm pm in
    cond (eqb refusal 0)
    (record { refusal = 0; report = report_of (stands_after s overhead flags) sm pm; supervisor = frame_of s overhead flags sm pm })
    (record { refusal = refusal; report = no_report; supervisor = s })

-- the layers after an accepted mark
abbrev pub marked_layers : Supervisor → Layers
marked_layers s =
    let l : Layers = s.layers in
    let c : Second = closed_of s.second in
    record {
      align = l.align;
      section = record { layer = degraded l.section.layer s.settings.section c.section.near.0; iae = l.section.iae; biae = l.section.biae };
      path = record { layer = degraded l.path.layer s.settings.path c.path.near.0; stat = l.path.stat };
    }

-- the supervisor after an accepted mark
unfoldable pub next_second : Supervisor → Supervisor
next_second s = record { settings = s.settings; layers = marked_layers s; second = fresh_second; seconds = s.seconds + 1 }

-- 4 "a mark when 4,294,967,295 seconds are closed"
unfoldable pub mark_refusal : Supervisor → ℕ
mark_refusal s = first_of (check 4 (ltb s.seconds 4294967295) ∷ [])

-- a mark: "A mark closes each second." 4 "a mark when 4,294,967,295 seconds are closed"
unfoldable pub mark_of : Supervisor → Marked
mark_of s =
    cond (ltb s.seconds 4294967295)
    (record { refusal = 0; figures = figures_of (s.seconds + 1) (closed_of s.second); supervisor = next_second s })
    (record { refusal = 4; figures = replicate 22 0; supervisor = s })

-- "layer .. 0 (section) or 1 (path)"
abbrev pub layer_at : Supervisor → ℕ → Layer
layer_at s layer = cond (eqb layer 0) s.layers.section.layer s.layers.path.layer

-- 11 "layer not 0 (section) or 1 (path)"; 13 "no accepted trace"
unfoldable pub trace_refusal : Supervisor → ℕ → ℕ
trace_refusal s layer = first_of (check 11 (leb layer 1) ∷ check 13 (layer_at s layer).known ∷ [])

-- the accepted trace of a layer
unfoldable pub traced_of : Supervisor → ℕ → Traced
traced_of s layer =
    let refusal : ℕ = trace_refusal s layer in
    cond (eqb refusal 0)
    (record { refusal = 0; trace = (layer_at s layer).accepted })
    (record { refusal = refusal; trace = replicate 64 0 })
