-- The numbers of refusals. Assumes nothing.
use Rattle.std.specs.Prelude.{ℕ, Result, Ok, Err}
use Rattle.answer.specs.declared.Refusal.{Refusal}
use Rattle.answer.specs.declared.Refusal.TheVariants.{OverheadLength, UnknownFlags, TooManyViolations, Full, UnknownOrder, DegThreshold, DegMonitoring, UnknownTraceMode, UnknownTimAction, NameLength, UnknownLayer, TraceBuffer, NoTrace, CutRecord, UnknownRecord, OutOfTurn, UnsoundSupervisor, UnknownLevel, MixedFrames, TooLong, NotNext, NoSummary}

abbrev pub number_of : Refusal → ℕ
number_of OverheadLength = 1
number_of UnknownFlags = 2
number_of TooManyViolations = 3
number_of Full = 4
number_of UnknownOrder = 5
number_of DegThreshold = 6
number_of DegMonitoring = 7
number_of UnknownTraceMode = 8
number_of UnknownTimAction = 9
number_of NameLength = 10
number_of UnknownLayer = 11
number_of TraceBuffer = 12
number_of NoTrace = 13
number_of CutRecord = 14
number_of UnknownRecord = 15
number_of OutOfTurn = 16
number_of UnsoundSupervisor = 17
number_of UnknownLevel = 18
number_of MixedFrames = 19
number_of TooLong = 20
number_of NotNext = 21
number_of NoSummary = 26

-- what an answer says at the C edge: 0 where it is accepted, otherwise the refusal's number
abbrev pub said : {A : Type 0} → Result A Refusal → ℕ
said (Ok x) = 0
said (Err e) = number_of e
