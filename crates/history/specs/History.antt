-- Histories: lists of calls in their order of time, what they leave, and which were accepted. Assumes nothing.
use Rattle.std.specs.Prelude.{ℕ, ◌≡◌, cond, List, [], ◌∷◌, ◌++◌, eqb, ltb}
use Rattle.supervisor.specs.Supervisor.{fresh_of, step_refusal, stands_after, frame_of, step_of, next_second, mark_of, traced_of}
use Rattle.causes.specs.declared.Standing.{Standing}
use Rattle.causes.specs.declared.Report.{Report}
use Rattle.settings.specs.declared.Settings.{Settings}
use Rattle.supervisor.specs.declared.Supervisor.{Supervisor}

-- one frame: its overhead's bytes, its flags byte, the violation counts of SM and PM
pub record Frame : Type 0 where
  pub overhead : List ℕ
  pub flags : ℕ
  pub sm : ℕ
  pub pm : ℕ

-- what changes a supervisor
pub data Event : Type 0 where
  frame : Frame → Event
  mark : Event

-- what stands after an accepted frame, and the supervisor after it
abbrev pub stands_at : Supervisor → Frame → Standing
stands_at s f = stands_after s f.overhead f.flags

abbrev pub framed : Supervisor → Frame → Supervisor
framed s f = frame_of s f.overhead f.flags f.sm f.pm

-- the supervisor after an accepted event, and after a list of them
unfoldable pub event_of : Supervisor → Event → Supervisor
event_of s (frame f) = framed s f
event_of s mark = next_second s

unfoldable pub after : Supervisor → List Event → Supervisor
after s [] = s
after s (e ∷ es) = after (event_of s e) es

-- the supervisor that a history reaches from fresh, under the settings p
abbrev pub reached : Settings → List Event → Supervisor
reached p h = after (fresh_of p) h

-- the refusal of an event, 0 where it is accepted
unfoldable pub refusal_of : Supervisor → Event → ℕ
refusal_of s (frame f) = step_refusal s f.overhead f.flags f.sm f.pm
refusal_of s mark = cond (ltb s.seconds 4294967295) 0 4

-- each event is accepted where it stands
abbrev pub Accepted : Supervisor → List Event → Type 0
Accepted s [] = Unit {0}
Accepted s (e ∷ es) = (refusal_of s e ≡ 0) × Accepted (event_of s e) es

-- a call: a frame or a mark, or the reading of an accepted trace; any bytes, any numbers
pub data Call : Type 0 where
  does : Event → Call
  reads : ℕ → Call

-- what a call answers
pub data Answer : Type 0 where
  stepped : ℕ → Report → Answer
  marked : ℕ → List ℕ → Answer
  traced : ℕ → List ℕ → Answer

-- the answer, and the supervisor handed back, by the definitions of a frame, a mark and a trace; `step_is`, `mark_is` and `trace_is`
-- (supervisor/proofs/Answered) are that the contracts of `Supervisor::step`, `mark` and `trace` say the same
unfoldable pub answer_of : Supervisor → Call → Answer
answer_of s (does (frame f)) =
    stepped (step_of s f.overhead f.flags f.sm f.pm).refusal (step_of s f.overhead f.flags f.sm f.pm).report
answer_of s (does mark) = marked (mark_of s).refusal (mark_of s).figures
answer_of s (reads layer) = traced (traced_of s layer).refusal (traced_of s layer).trace

unfoldable pub handed_back : Supervisor → Call → Supervisor
handed_back s (does (frame f)) = (step_of s f.overhead f.flags f.sm f.pm).supervisor
handed_back s (does mark) = (mark_of s).supervisor
handed_back s (reads layer) = s

-- the supervisor that a list of calls hands back
unfoldable pub handed : Supervisor → List Call → Supervisor
handed s [] = s
handed s (c ∷ cs) = handed (handed_back s c) cs

-- the events among the calls that are accepted, each by the definitions after those before it
unfoldable pub accepted : Supervisor → List Call → List Event
accepted s [] = []
accepted s (does e ∷ cs) = cond (eqb (refusal_of s e) 0) (e ∷ accepted (event_of s e) cs) (accepted s cs)
accepted s (reads layer ∷ cs) = accepted s cs

-- Demand 2 over histories: after any calls, accepted or refused, the supervisor is that of the definitions after the accepted ones;
-- the next call's answer is that of the definitions there; and a refused call changes nothing.
pub record Follows (s : Supervisor) (before : List Call) : Type 0 where
  pub state : handed s before ≡ after s (accepted s before)
  pub all : Accepted s (accepted s before)
  pub answers : (c : Call) → answer_of (handed s before) c ≡ answer_of (after s (accepted s before)) c
  pub takes : (e : Event) → refusal_of (handed s before) e ≡ 0 → handed s (before ++ (does e ∷ [])) ≡ event_of (handed s before) e
  pub refused : (e : Event) → (refusal_of (handed s before) e ≡ 0 → ⊥) → handed s (before ++ (does e ∷ [])) ≡ handed s before
  pub only : (layer : ℕ) → handed s (before ++ (reads layer ∷ [])) ≡ handed s before
