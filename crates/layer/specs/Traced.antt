-- The accepted trace, said without a counter or a buffer: the 64 bytes that last stood in three whole cycles in a row since the last
-- forgetting. A list of frames has the latest first. Assumes nothing.
use Rattle.std.specs.Prelude.{◌≡◌, Bool, true, false, cond, ◌&&◌, ◌||◌, not, List, [], ◌∷◌, ◌++◌, ℕ, zero, suc, ◌+◌, ◌%◌, eqb, length, take, drop}
use Rattle.layer.specs.declared.Layer.{Layer}
use Rattle.names.specs.Names.{same}
use Rattle.layer.specs.Layer.{trace_of, tim_of, fresh_layer}

-- what a layer is given in a frame for its trace: to forget, IM or OOM, the local number, the TTI byte
pub record Turn : Type 0 where
  pub forget : Bool
  pub inmulti : Bool
  pub number : ℕ
  pub tti : ℕ

-- "TTI byte number is the local number modulo 64": the frame is in IM and has TTI byte number n
abbrev pub has : Turn → ℕ → Bool
has x n = x.inmulti && eqb (x.number % 64) n

-- the latest n + 1 frames have the TTI byte numbers n, n - 1, .., 0, all in IM
unfoldable pub down : List Turn → ℕ → Bool
down [] n = false
down (x ∷ l) zero = has x 0
down (x ∷ l) (suc n) = has x (suc n) && down l n

-- "A cycle is 64 frames, all in IM, from number 0 to 63": one ends at the latest frame
abbrev pub cycle : List Turn → Bool
cycle l = down l 63

-- the TTI bytes of the latest n frames, in the order in which they came
unfoldable pub ttis : List Turn → ℕ → List ℕ
ttis l zero = []
ttis [] (suc n) = []
ttis (x ∷ l) (suc n) = ttis l n ++ (x.tti ∷ [])

-- the cycles that end here and 64 frames earlier are alike
abbrev pub alike : List Turn → Bool
alike l = same (ttis l 64) (ttis (drop 64 l) 64)

-- "Three equal cycles in a row": one ends here, one 64 frames earlier and one 128 frames earlier, and all are alike
abbrev pub third : List Turn → Bool
third l = cycle l && (cycle (drop 64 l) && (cycle (drop 128 l) && (alike l && alike (drop 64 l))))

pub data AcceptedTrace : Type 0 where
  none : AcceptedTrace
  trace : List ℕ → AcceptedTrace

-- "Three equal cycles in a row are accepted at the last frame of the third": its bytes, or otherwise what stood a frame earlier
unfoldable pub accepted_by : List Turn → AcceptedTrace
accepted_by [] = none
accepted_by (x ∷ l) = cond (third (x ∷ l)) (trace (ttis (x ∷ l) 64)) (accepted_by l)

-- the frames since the last one that forgot
unfoldable pub turns_since : List Turn → List Turn
turns_since [] = []
turns_since (x ∷ l) = cond x.forget [] (x ∷ turns_since l)

-- the state of the definitions after the frames
unfoldable pub trace_after : List Turn → Layer
trace_after [] = fresh_layer
trace_after (x ∷ l) = trace_of (trace_after l) x.forget x.inmulti x.number x.tti

abbrev pub trace_in : Layer → AcceptedTrace
trace_in s = cond s.known (trace s.accepted) none

-- "In IM the local number grows by 1 modulo 256 each frame": of the frame x, after the frames l
abbrev pub Grows : Turn → List Turn → Type 0
Grows x [] = Unit {0}
Grows x (a ∷ l) = a.inmulti ≡ true → x.inmulti ≡ true → x.number ≡ (a.number + 1) % 256

-- and of all the frames
abbrev pub Steady : List Turn → Type 0
Steady [] = Unit {0}
Steady (x ∷ l) = Grows x l × Steady l

-- "SAPI is bytes 0 to 15, DAPI 16 to 31", of a trace and of the expected names
abbrev pub sapi : List ℕ → List ℕ
sapi t = take 16 t

abbrev pub dapi : List ℕ → List ℕ
dapi t = take 16 (drop 16 t)

-- "dTIM: a trace is accepted and the compared field differs. Mode 0 off, 1 SAPI, 2 DAPI, 3 both (either differing suffices)."
unfoldable pub tim_by : AcceptedTrace → ℕ → List ℕ → Bool
tim_by none mode names = false
tim_by (trace t) mode names =
    ((eqb mode 1 || eqb mode 3) && not (same (sapi t) (sapi names)))
    || ((eqb mode 2 || eqb mode 3) && not (same (dapi t) (dapi names)))

-- the law of the accepted trace
abbrev pub TraceIs : List Turn → Type 0
TraceIs l = Steady l → trace_in (trace_after l) ≡ accepted_by (turns_since l)

-- the law of dTIM
abbrev pub TimIs : List Turn → ℕ → List ℕ → Type 0
TimIs l mode names = Steady l → length names ≡ 32 → tim_of (trace_after l) mode names ≡ tim_by (accepted_by (turns_since l)) mode names
