-- Once a frame or a mark is accepted, no call changes which levels are provisioned, and so which figures are listed. Assumes nothing.
use Prim.Native.Nat.{ℕ, suc, ◌<◌}
use mathlib.Core.Path.{◌≡◌, refl, ◌∙◌, ap, sym}
use mathlib.Core.Bool.{Bool, true, false, not, ◌||◌}
use mathlib.Core.List.{List, [], ◌∷◌, ◌++◌}
use native.Mathlib.Omega.{arith}
use lib.Dec.{ltb}
use lib.ListN.{take, drop}
use borrow.Author.Tests.{lt-ltb}
use Rattle.answer.specs.Each.{each_from}
use Rattle.answer.proofs.Checks.{passed}
use Rattle.answer.proofs.Cond.{not_so}
use Rattle.overhead.specs.Overhead.{level_field}
use Rattle.causes.specs.Causes.{path_ssf}
use Rattle.settings.specs.declared.Request.{Request}
use Rattle.supervisor.specs.declared.Supervisor.{Supervisor}
use Rattle.history.specs.History.{Frame, stands_at}
use Rattle.tandem.specs.Levels.{count_at, frame_rule, mark_rule, given_groups, listed_of}
use Rattle.tandem.specs.Tandem.{begun, request_checks, place_checks, give_refusal, record_refusal, marked_of}
use Rattle.tandem.specs.declared.Level.{Level}
use Rattle.tandem.specs.declared.Tandem.{Tandem}
use Rattle.watch.specs.Watch.{LevelCall, gives, records, frames, marks, refusal_at, framed_at, multi_at, tandem_by, tandem_after, refusal_of, AllTaken}
use Rattle.watch.proofs.Alone.{frame_accepted, mark_accepted}
use Rattle.stream.proofs.Calls.{stepped_given, marked_given}
use Rattle.stream.proofs.Counts.{frame_frames, mark_marks}

groups_each : (rule : ℕ → Level → Level) (n : ℕ) (ls : List Level) (v : List ℕ) → ((m : ℕ) (l : Level) → (rule m l).given ≡ l.given)
    → given_groups (each_from rule n ls) v ≡ given_groups ls v
unfolding given_groups
groups_each rule n [] v keeps = refl
groups_each rule n (l ∷ ls) v keeps = rw (keeps n l, groups_each rule (suc n) ls (drop 5 v) keeps)

begun_frames : (s : Supervisor) → 0 < s.second.frames.0 → begun s ≡ true
begun_frames s h = rw (lt-ltb 0 s.second.frames.0 h) (either (ltb 0 s.seconds))
  where
    either : (b : Bool) → (b || true) ≡ true
    either true = refl
    either false = refl

begun_seconds : (s : Supervisor) → 0 < s.seconds → begun s ≡ true
begun_seconds s h = rw (lt-ltb 0 s.seconds h)

-- the same levels are listed, and a frame or a mark was accepted
pub record Stays (t u : Tandem) : Type 0 where
  pub groups : (v : List ℕ) → given_groups u.levels v ≡ given_groups t.levels v
  pub begins : begun u.base ≡ true

frame_stays : (t : Tandem) (f : Frame) (counts : List ℕ) → refusal_at t f counts ≡ 0 → Stays t (framed_at t f counts).tandem
frame_stays t f counts e =
    let ssf : Bool = path_ssf (stands_at t.base f) in
    let z = frame_frames t f counts e in
    record {
      groups = λ v.
          ap (λ (u : Tandem). given_groups u.levels v) (frame_accepted t f counts e)
          ∙ groups_each (frame_rule ssf (multi_at t.base f) f.overhead counts) 1 t.levels v
          (λ m l. stepped_given l ssf (multi_at t.base f) (level_field f.overhead m) (count_at counts m));
      begins = begun_frames (framed_at t f counts).tandem.base (omega (arith, z.more));
    }

pub mark_stays : (t : Tandem) → (marked_of t).refusal ≡ 0 → Stays t (marked_of t).tandem
mark_stays t e = let z = mark_marks t e in record {
  groups = λ v. ap (λ (u : Tandem). given_groups u.levels v) (mark_accepted t e) ∙ groups_each mark_rule 1 t.levels v (λ m l. marked_given l);
  begins = begun_seconds (marked_of t).tandem.base (omega (arith, z.more));
}

-- a level's provisioning is refused then
never : {A : Type 0} (b : Bool) → b ≡ true → not b ≡ true → A
never true e z = absurd (not_so (sym z))
never false e z = absurd (not_so (sym e))

gives_never : {A : Type 0} (t : Tandem) (n : ℕ) (r : Request) (names : List ℕ) → begun t.base ≡ true → give_refusal t n r names ≡ 0 → A
unfolding give_refusal
gives_never t n r names b e =
    let p = passed 18 (request_checks t.base.settings.k r names ++ place_checks t n) refl e in
    never (begun t.base) b p.1.1.1.1.1.0

records_never : {A : Type 0} (t : Tandem) (n : ℕ) (r : Request) (names : List ℕ) → begun t.base ≡ true → record_refusal t n r names ≡ 0 → A
unfolding record_refusal
records_never t n r names b e =
    let p = passed 18 (place_checks t n ++ request_checks t.base.settings.k r names) refl e in
    never (begun t.base) b p.0

stays_by : (t : Tandem) (c : LevelCall) → begun t.base ≡ true → refusal_of t c ≡ 0 → Stays t (tandem_by t c)
unfolding tandem_by
stays_by t (gives n r names) b e = gives_never t n r names b e
stays_by t (records n r names) b e = records_never t n r names b e
stays_by t (frames f counts) b e = frame_stays t f counts e
stays_by t marks b e = mark_stays t e

groups_after : (t : Tandem) (cs : List LevelCall) → begun t.base ≡ true → AllTaken t cs → (v : List ℕ) → given_groups (tandem_after t cs).levels v ≡ given_groups t.levels v
unfolding tandem_after
groups_after t [] b all v = refl
groups_after t (c ∷ cs) b all v =
    let z = stays_by t c b all.0 in
    groups_after (tandem_by t c) cs z.begins all.1 v ∙ z.groups v

-- the figures listed after a mark are those listed by the levels after every call that follows
pub listed_after : (t : Tandem) (cs : List LevelCall) → begun t.base ≡ true → AllTaken t cs → (v : List ℕ) → listed_of (tandem_after t cs).levels v ≡ listed_of t.levels v
listed_after t cs b all v = ap (λ (l : List ℕ). take 22 v ++ l) (groups_after t cs b all (drop 22 v))
