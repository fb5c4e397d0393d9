-- A refusal is known by its number, and no number is 0. Assumes nothing.
use Rattle.std.proofs.Common.{◌≡◌, ℕ, ◌<◌, cond, nat_eq, refl, sym, ap, ◌∙◌, arith}
use Rattle.answer.specs.declared.Refusal.{Refusal}
use Rattle.answer.specs.declared.Refusal.TheVariants.{OverheadLength, UnknownFlags, TooManyViolations, Full, UnknownOrder, DegThreshold, DegMonitoring, UnknownTraceMode, UnknownTimAction, NameLength, UnknownLayer, TraceBuffer, NoTrace, CutRecord, UnknownRecord, OutOfTurn, UnsoundSupervisor, UnknownLevel, MixedFrames, TooLong, NotNext, NoSummary}
use Rattle.answer.specs.Refusal.{number_of}

-- the refusal of a number
refusal_of : ℕ → Refusal
refusal_of n =
    cond (nat_eq n 1) OverheadLength (
    cond (nat_eq n 2) UnknownFlags (
    cond (nat_eq n 3) TooManyViolations (
    cond (nat_eq n 4) Full (
    cond (nat_eq n 5) UnknownOrder (
    cond (nat_eq n 6) DegThreshold (
    cond (nat_eq n 7) DegMonitoring (
    cond (nat_eq n 8) UnknownTraceMode (
    cond (nat_eq n 9) UnknownTimAction (
    cond (nat_eq n 10) NameLength (
    cond (nat_eq n 11) UnknownLayer (
    cond (nat_eq n 12) TraceBuffer (
    cond (nat_eq n 13) NoTrace (
    cond (nat_eq n 14) CutRecord (
    cond (nat_eq n 15) UnknownRecord (
    cond (nat_eq n 16) OutOfTurn (
    cond (nat_eq n 17) UnsoundSupervisor (
    cond (nat_eq n 18) UnknownLevel (
    cond (nat_eq n 19) MixedFrames (
    cond (nat_eq n 20) TooLong (
    cond (nat_eq n 21) NotNext (
    NoSummary)))))))))))))))))))))

back : (e : Refusal) → refusal_of (number_of e) ≡ e
unfolding refusal_of
back OverheadLength = refl
back UnknownFlags = refl
back TooManyViolations = refl
back Full = refl
back UnknownOrder = refl
back DegThreshold = refl
back DegMonitoring = refl
back UnknownTraceMode = refl
back UnknownTimAction = refl
back NameLength = refl
back UnknownLayer = refl
back TraceBuffer = refl
back NoTrace = refl
back CutRecord = refl
back UnknownRecord = refl
back OutOfTurn = refl
back UnsoundSupervisor = refl
back UnknownLevel = refl
back MixedFrames = refl
back TooLong = refl
back NotNext = refl
back NoSummary = refl

pub number_one : (d e : Refusal) → number_of d ≡ number_of e → d ≡ e
number_one d e h = sym (back d) ∙ ap refusal_of h ∙ back e

pub number_above : (e : Refusal) → 0 < number_of e
number_above OverheadLength = omega arith
number_above UnknownFlags = omega arith
number_above TooManyViolations = omega arith
number_above Full = omega arith
number_above UnknownOrder = omega arith
number_above DegThreshold = omega arith
number_above DegMonitoring = omega arith
number_above UnknownTraceMode = omega arith
number_above UnknownTimAction = omega arith
number_above NameLength = omega arith
number_above UnknownLayer = omega arith
number_above TraceBuffer = omega arith
number_above NoTrace = omega arith
number_above CutRecord = omega arith
number_above UnknownRecord = omega arith
number_above OutOfTurn = omega arith
number_above UnsoundSupervisor = omega arith
number_above UnknownLevel = omega arith
number_above MixedFrames = omega arith
number_above TooLong = omega arith
number_above NotNext = omega arith
number_above NoSummary = omega arith
