-- The ranges of a provisioning's numbers, and the lengths of its names. Assumes nothing.
use Rattle.std.specs.Prelude.{ℕ, ◌≤◌, ◌≡◌, List, length}
use Rattle.settings.specs.declared.Options.{Options}
use Rattle.settings.specs.declared.Request.{Request}
use Rattle.settings.specs.declared.Settings.{Settings}
use Rattle.settings.specs.Settings.{settings_refusal, options_of}

pub record OptionsIn (p : Options) : Type 0 where
  pub thr_least : 1 ≤ p.thr
  pub thr : p.thr ≤ 329492
  pub degm_least : 2 ≤ p.degm
  pub degm : p.degm ≤ 10
  pub mode : p.mode ≤ 3
  pub names : length p.names ≡ 32

pub record SettingsIn (s : Settings) : Type 0 where
  pub k_least : 1 ≤ s.k
  pub k : s.k ≤ 3
  pub section : OptionsIn s.section
  pub path : OptionsIn s.path

-- the settings of every accepted provisioning are in range
abbrev pub ProvisionedIn : Type 0
ProvisionedIn = (k : ℕ) (section path : Request) (snames pnames : List ℕ) → settings_refusal k section path snames pnames ≡ 0
    → SettingsIn (record { k = k; section = options_of section snames; path = options_of path pnames })
