-- The ranges of refusal 17: each number of a supervisor by itself, and the lengths of its arrays. Assumes nothing.
use Rattle.std.specs.Prelude.{ℕ, ◌≤◌, ◌≡◌, List, [], ◌∷◌, length}
use Rattle.alignment.specs.declared.Alignment.{Alignment}
use Rattle.layer.specs.declared.Layer.{Layer}
use Rattle.settings.specs.Ranges.{SettingsIn}
use Rattle.settings.specs.declared.Settings.{Settings}
use Rattle.second.specs.declared.Blocks.{Blocks}
use Rattle.second.specs.declared.Second.{Second}
use Rattle.frame.specs.declared.SectionState.{SectionState}
use Rattle.frame.specs.declared.PathState.{PathState}
use Rattle.frame.specs.declared.Layers.{Layers}
use Rattle.supervisor.specs.Supervisor.{fresh_of}
use Rattle.supervisor.specs.declared.Supervisor.{Supervisor}
use Rattle.history.specs.History.{Event, frame, mark, reached, Accepted}

pub record AlignmentIn (a : Alignment) : Type 0 where
  pub misses : a.framing.misses ≤ 4
  pub total : a.lof.total ≤ 989
  pub good : a.lof.good ≤ 989
  pub number : a.multi.number ≤ 255
  pub mismatches : a.multi.misses ≤ 4
  pub previous : a.multi.previous ≤ 255
  pub lom : a.lom ≤ 989

pub record LayerIn (l : Layer) : Type 0 where
  pub equal : l.equal ≤ 3
  pub bdi : l.bdi.run ≤ 4
  pub deg : l.deg.run ≤ 9
  pub accepted : length l.accepted ≡ 64
  pub gathered : length l.gathered ≡ 64
  pub previous : length l.previous ≡ 64

pub record SectionIn (s : SectionState) : Type 0 where
  pub layer : LayerIn s.layer
  pub iae : s.iae.run ≤ 4
  pub biae : s.biae.run ≤ 2

pub record PathIn (s : PathState) : Type 0 where
  pub layer : LayerIn s.layer
  pub value : s.stat.value ≤ 7
  pub run : s.stat.run ≤ 3
  pub accepted : s.stat.accepted ≤ 7

pub record LayersIn (l : Layers) : Type 0 where
  pub align : AlignmentIn l.align
  pub section : SectionIn l.section
  pub path : PathIn l.path

pub record BlocksIn (b : Blocks) : Type 0 where
  pub near : b.near.0 ≤ 400000
  pub far : b.far.0 ≤ 400000
  pub sum : b.sum.0 ≤ 3200000

-- each number of a list is at most n
abbrev pub AllAtMost : ℕ → List ℕ → Type 0
AllAtMost n [] = Unit {0}
AllAtMost n (x ∷ xs) = (x ≤ n) × AllAtMost n xs

pub record SecondIn (c : Second) : Type 0 where
  pub frames : c.frames.0 ≤ 400000
  pub ten : length c.heads ≡ 10
  pub heads : AllAtMost 400000 c.heads
  pub section : BlocksIn c.section
  pub path : BlocksIn c.path

pub record Ranged (s : Supervisor) : Type 0 where
  pub settings : SettingsIn s.settings
  pub layers : LayersIn s.layers
  pub second : SecondIn s.second
  pub seconds : s.seconds ≤ 4294967295

-- each number is a byte's, at most 255, as those of every call are
abbrev pub IsBytes : List ℕ → Type 0
IsBytes l = AllAtMost 255 l

-- the overhead of every frame is bytes
abbrev pub Bytes : List Event → Type 0
Bytes [] = Unit {0}
Bytes (frame f ∷ es) = IsBytes f.overhead × Bytes es
Bytes (mark ∷ es) = Bytes es

-- after every accepted history from fresh, under settings in range: none meets refusal 17
abbrev pub AlwaysRanged : Type 0
AlwaysRanged = (p : Settings) → SettingsIn p → (h : List Event) → Accepted (fresh_of p) h → Bytes h → Ranged (reached p h)
