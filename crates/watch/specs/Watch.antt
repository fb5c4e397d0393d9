-- Lists of calls of a supervisor with levels: which are accepted, what the levels leave as it was, what one that is not provisioned is, and what one level
-- makes of its own bytes. Assumes nothing.
use Rattle.std.specs.Prelude.{ℕ, ◌+◌, ◌-◌, ◌*◌, ◌≤◌, ◌≡◌, Bool, true, false, cond, not, ◌&&◌, List, [], ◌∷◌, eqb, length, get_or, take, drop, replicate}
use Rattle.overhead.specs.Overhead.{level_field}
use Rattle.alignment.specs.declared.Multi.{Multi}
use Rattle.settings.specs.Settings.{options_of}
use Rattle.settings.specs.declared.Options.{Options}
use Rattle.settings.specs.declared.Request.{Request}
use Rattle.settings.specs.declared.Settings.{Settings}
use Rattle.causes.specs.Causes.{path_ssf}
use Rattle.level.specs.Level.{LevelFrame, level_frame, level_count, level_actions, level_causes}
use Rattle.level.specs.declared.LevelStands.{LevelStands}
use Rattle.level.specs.declared.Status.TheVariants.{Clear}
use Rattle.supervisor.specs.Supervisor.{Stepped, Marked, fresh_of, step_of, mark_of}
use Rattle.supervisor.specs.declared.Supervisor.{Supervisor}
use Rattle.history.specs.History.{Frame, Event, frame, mark, stands_at, framed, Call, does}
use Rattle.history.specs.History as base
use Rattle.tandem.specs.Levels.{given_level, blank_level, marked_level, five_of, count_at, level_at, low_to}
use Rattle.tandem.specs.Tandem.{TandemStepped, TandemMarked, fresh_tandem, give_refusal, give_of, record_refusal, recorded_of, frame_refusal, framed_of, marked_of, ssf_now, nothing, level_shown, level_report, level_traced}
use Rattle.tandem.specs.declared.Level.{Level}
use Rattle.tandem.specs.declared.Tandem.{Tandem}

-- a call that may change a supervisor with levels: a level provisioned from C or by a record, a frame with six counts, a mark
pub data LevelCall : Type 0 where
  gives : ℕ → Request → List ℕ → LevelCall
  records : ℕ → Request → List ℕ → LevelCall
  frames : Frame → List ℕ → LevelCall
  marks : LevelCall

abbrev pub refusal_at : Tandem → Frame → List ℕ → ℕ
refusal_at t f counts = frame_refusal t f.overhead f.flags f.sm f.pm counts

abbrev pub framed_at : Tandem → Frame → List ℕ → TandemStepped
framed_at t f counts = framed_of t f.overhead f.flags f.sm f.pm counts

-- by the contracts of `give`, `give_record`, `step` and `mark`: the supervisor handed back, by a call and by a list of them
unfoldable pub tandem_by : Tandem → LevelCall → Tandem
tandem_by t (gives n r names) = (give_of t n r names).tandem
tandem_by t (records n r names) = (recorded_of t n r names).tandem
tandem_by t (frames f counts) = (framed_at t f counts).tandem
tandem_by t marks = (marked_of t).tandem

unfoldable pub tandem_after : Tandem → List LevelCall → Tandem
tandem_after t [] = t
tandem_after t (c ∷ cs) = tandem_after (tandem_by t c) cs

-- the refusal of a call, 0 where it is accepted; and each call of a list is accepted where it stands
abbrev pub refusal_of : Tandem → LevelCall → ℕ
refusal_of t (gives n r names) = give_refusal t n r names
refusal_of t (records n r names) = record_refusal t n r names
refusal_of t (frames f counts) = refusal_at t f counts
refusal_of t marks = (marked_of t).refusal

abbrev pub AllTaken : Tandem → List LevelCall → Type 0
AllTaken t [] = Unit {0}
AllTaken t (c ∷ cs) = (refusal_of t c ≡ 0) × AllTaken (tandem_by t c) cs

-- the frames and marks among calls, as line, section and path have them
unfoldable pub events_among : List LevelCall → List Event
events_among [] = []
events_among (gives n r names ∷ cs) = events_among cs
events_among (records n r names ∷ cs) = events_among cs
events_among (frames f counts ∷ cs) = frame f ∷ events_among cs
events_among (marks ∷ cs) = mark ∷ events_among cs

-- The same calls of a supervisor without levels: no provisioning of a level, and no frame in which one of the six counts is above 8, for that one is refused.
unfoldable pub without : List LevelCall → List Call
without [] = []
without (gives n r names ∷ cs) = without cs
without (records n r names ∷ cs) = without cs
without (frames f counts ∷ cs) = cond (low_to 6 counts) (does (frame f) ∷ without cs) (without cs)
without (marks ∷ cs) = does mark ∷ without cs

-- a frame and a mark with levels answer what they answer without
pub record SameFrame (a : TandemStepped) (b : Stepped) : Type 0 where
  pub refusal : a.refusal ≡ b.refusal
  pub report : a.report ≡ b.report
  pub base : a.tandem.base ≡ b.supervisor

pub record SameMark (a : TandemMarked) (b : Marked) : Type 0 where
  pub refusal : a.refusal ≡ b.refusal
  pub figures : take 22 a.figures ≡ b.figures
  pub base : a.tandem.base ≡ b.supervisor

-- "demand 3's heads and failing causes stay those of line, section and path: a level's cause is never a failing one": whatever levels are provisioned, and
-- whatever their counts up to 8 are, line, section and path answer as they do without levels, after every list of calls.
pub record LevelsSilent (t : Tandem) : Type 0 where
  pub frame : (f : Frame) (counts : List ℕ) → low_to 6 counts ≡ true
      → SameFrame (framed_at t f counts) (step_of t.base f.overhead f.flags f.sm f.pm)
  pub mark : SameMark (marked_of t) (mark_of t.base)
  -- a count above 8 refuses the frame, its level provisioned or not, and nothing changes
  pub high : (f : Frame) (counts : List ℕ) → low_to 6 counts ≡ false → (framed_at t f counts).tandem ≡ t
  pub calls : (cs : List LevelCall) → (tandem_after t cs).base ≡ base.handed t.base (without cs)

-- no call of the list asks to provision level n
unfoldable pub never_given : ℕ → List LevelCall → Bool
never_given n [] = true
never_given n (gives m r names ∷ cs) = not (eqb m n) && never_given n cs
never_given n (records m r names ∷ cs) = not (eqb m n) && never_given n cs
never_given n (frames f counts ∷ cs) = never_given n cs
never_given n (marks ∷ cs) = never_given n cs

-- "Each S line gains the four figures" (document 02, K1) and "The sum comes last in each layer's group" (K7): in the record level n has its place behind the figures of line,
-- section and path
abbrev pub group_at : List ℕ → ℕ → List ℕ
group_at figures n = take 5 (drop (17 + 5 * n) figures)

-- "A level is monitored only if provisioned": one that is not holds blanks, nothing is told of it, it has no trace, and its figures are zeros
pub record Nothing (t : Tandem) (n : ℕ) : Type 0 where
  pub blank : level_at t.levels n ≡ blank_level
  pub stands : (level_report t n).stands ≡ nothing
  pub actions : (level_report t n).actions ≡ level_actions nothing
  pub causes : (level_report t n).causes ≡ level_causes nothing
  pub trace : (level_traced t n).refusal ≡ 13
  pub zeros : group_at (marked_of t).figures n ≡ replicate 5 0

-- after every list of calls from a supervisor with no level provisioned
pub record Unmonitored (s : Supervisor) (cs : List LevelCall) (n : ℕ) : Type 0 where
  pub only : never_given n cs ≡ true → (level_at (tandem_after (fresh_tandem s) cs).levels n).given ≡ false
  pub nothing : (level_at (tandem_after (fresh_tandem s) cs).levels n).given ≡ false → Nothing (tandem_after (fresh_tandem s) cs) n

abbrev pub EachUnmonitored : Type 0
EachUnmonitored = (s : Supervisor) (cs : List LevelCall) (n : ℕ) → 1 ≤ n → n ≤ 6 → Unmonitored s cs n

-- of a level that is provisioned nothing stands before the first frame, SSF neither
abbrev pub none_yet : Options → LevelStands
none_yet o = record { ssf = false; status = Clear; tim = false; disabled = o.disabled; bdi = false; iae = false; biae = false; deg = false }

abbrev pub NoneYet : Type 0
NoneYet = (p : Settings) (o : Options) → level_shown (given_level o) (ssf_now (fresh_of p) (fresh_tandem (fresh_of p)).flags) ≡ none_yet o

-- the multiframe after an accepted frame
abbrev pub multi_at : Supervisor → Frame → Multi
multi_at s f = (framed s f).layers.align.multi

-- what level l makes of a frame, being number n
abbrev pub own_frame : Tandem → Frame → ℕ → Level → LevelFrame
own_frame t f n l = level_frame l.state l.options (path_ssf (stands_at t.base f)) (multi_at t.base f) (level_field f.overhead n)

-- and what is then kept of it, by its own count
abbrev pub own_level : Tandem → Frame → List ℕ → ℕ → Level
own_level t f counts n =
    let l : Level = level_at t.levels n in
    let a : LevelFrame = own_frame t f n l in
    record {
      given = true;
      options = l.options;
      state = a.state;
      second = level_count l.second a.stands (level_field f.overhead n).bei (count_at counts n);
    }

-- "What holds of a level is proved once over the level number": what is left of level n by a call is its own, whatever the other levels hold. It takes the
-- path's SSF, its own three bytes and its own count; and it is told as it stands after the frame.
pub record OneByOne (t : Tandem) (n : ℕ) : Type 0 where
  pub frame : (f : Frame) (counts : List ℕ) → refusal_at t f counts ≡ 0 → (level_at t.levels n).given ≡ true
      → level_at (framed_at t f counts).tandem.levels n ≡ own_level t f counts n
  pub stands : (f : Frame) (counts : List ℕ) → refusal_at t f counts ≡ 0 → (level_at t.levels n).given ≡ true
      → (level_report (framed_at t f counts).tandem n).stands ≡ (own_frame t f n (level_at t.levels n)).stands
  -- the frame's answer has it, provisioned or not
  pub told : (f : Frame) (counts : List ℕ) → refusal_at t f counts ≡ 0
      → get_or (framed_at t f counts).stands (n - 1) nothing ≡ (level_report (framed_at t f counts).tandem n).stands
  pub mark : (marked_of t).refusal ≡ 0 → level_at (marked_of t).tandem.levels n ≡ marked_level (level_at t.levels n)
  pub figures : (marked_of t).refusal ≡ 0 → group_at (marked_of t).figures n ≡ five_of (level_at t.levels n)
  -- the provisioning of it, and of another
  pub given : (r : Request) (names : List ℕ) → give_refusal t n r names ≡ 0 → level_at (give_of t n r names).tandem.levels n ≡ given_level (options_of r names)
  pub other : (m : ℕ) (r : Request) (names : List ℕ) → (m ≡ n → ⊥) → level_at (give_of t m r names).tandem.levels n ≡ level_at t.levels n

abbrev pub EachOneByOne : Type 0
EachOneByOne = (t : Tandem) (n : ℕ) → length t.levels ≡ 6 → 1 ≤ n → n ≤ 6 → OneByOne t n
