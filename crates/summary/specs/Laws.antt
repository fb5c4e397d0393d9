-- What is proved of joining (document 02, K6): "Joining summaries must be associative with the empty one as unit, where each follows on and the joined length stays within
-- the limit". Assumes nothing.
use Rattle.std.specs.Prelude.{◌≡◌, Bool, true, ◌&&◌, eqb, length}
use Rattle.summary.specs.Summary.{valid_of, empty_summary, added_of, join_refusal, Joined, join_of}
use Rattle.summary.specs.declared.Summary.{Summary}

-- a summary that is one, with its ten heads
pub record Sound (a : Summary) : Type 0 where
  pub valid : valid_of a ≡ true
  pub ten : length a.heads ≡ 10

-- two are joined, and not refused
abbrev pub accepted : Summary → Summary → Bool
accepted a b = eqb (join_refusal a b) 0

abbrev pub joined : Summary → Joined
joined s = record { refusal = 0; summary = s }

-- "with the empty one as unit": the empty summary follows on from any and any from it, and the joining is that one
pub record EmptyUnit (a : Summary) : Type 0 where
  pub after : join_of a empty_summary ≡ joined a
  pub before : join_of empty_summary a ≡ joined a

-- an accepted joining is a summary again
abbrev pub Closed : Type 0
Closed = (a b : Summary) → Sound a → Sound b → accepted a b ≡ true → Sound (added_of a b)

-- "associative .. where each follows on and the joined length stays within the limit": joined one way if and only if the other, and then to the same
pub record Associative (a b c : Summary) : Type 0 where
  pub together : (accepted a b && accepted (added_of a b) c) ≡ (accepted b c && accepted a (added_of b c))
  pub same : added_of (added_of a b) c ≡ added_of a (added_of b c)

abbrev pub EveryUnit : Type 0
EveryUnit = (a : Summary) → Sound a → EmptyUnit a

abbrev pub EveryAssociative : Type 0
EveryAssociative = (a b c : Summary) → Sound a → Sound b → Sound c → Associative a b c
