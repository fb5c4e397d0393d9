-- Laws of `taken_of` and `run_over`, and those of one turn of the loop of `scan`. Assumes nothing.
use Prim.Native.Nat.{ℕ, ◌+◌, ◌≤◌, ◌<◌}
use mathlib.Core.Path.{◌≡◌, refl, ◌∙◌, ap, sym}
use mathlib.Core.Bool.{Bool, true, false}
use mathlib.Core.Logic.{◌⊎◌, inl, inr}
use mathlib.Core.List.{List, ◌++◌}
use native.Mathlib.Omega.{arith}
use lib.ListN.{length, drop, length-drop, drop_of_length-le}
use lib.Seq.{drop-drop}
use borrow.Author.Tests.{eq-eqb, ne_eqb}
use Rattle.record.specs.Record.{record_of, record_at, records_from, records_of, length_of, refusal_in, size_of, body_of, frames_in, Within}
use Rattle.trace.specs.Scan.{Taken, refused_of, applied_of, taken_of, run_over, run_of}
use Rattle.record.specs.declared.Record.{Record}
use Rattle.record.specs.declared.Record.TheVariants.{Frame, Mark, Provisioning, Level, LevelFrame, Refused}
use Rattle.trace.specs.declared.State.{State}
use Rattle.trace.specs.declared.Stop.TheVariants as stop
use Rattle.record.proofs.Records.{Whole, whole_record, within_at, record_append, body_append, records_next}

-- an accepted record is none that is refused, and lies within; it has four bytes at least, and is one frame at most
pub record Sized (ys : List ℕ) (r : Record) : Type 0 where
  pub good : refusal_in r ≡ 0
  pub some : 4 ≤ size_of r
  pub most : size_of r ≤ 83
  pub long : size_of r ≤ length ys
  pub one : frames_in r ≤ 1

sized_by : (st : State) (ys body : List ℕ) (r : Record) → Whole ys r → (applied_of st r body).refusal ≡ 0 → Sized ys r
sized_by st ys body Frame h e = record { good = refl; some = omega arith; most = omega arith; long = h; one = omega arith }
sized_by st ys body Mark h e = record { good = refl; some = omega arith; most = omega arith; long = h; one = omega arith }
sized_by st ys body Provisioning h e = record { good = refl; some = omega arith; most = omega arith; long = h; one = omega arith }
sized_by st ys body Level h e = record { good = refl; some = omega arith; most = omega arith; long = h; one = omega arith }
sized_by st ys body LevelFrame h e = record { good = refl; some = omega arith; most = omega arith; long = h; one = omega arith }
sized_by st ys body (Refused n) h e = absurd (omega (arith, h.0, e))

pub sized : (st : State) (ys : List ℕ) → (taken_of st ys).refusal ≡ 0 → Sized ys (record_of ys)
unfolding taken_of
sized st ys e = sized_by st ys (body_of (record_of ys) ys) (record_of ys) (whole_record ys) e

pub some_bytes : (st : State) (ys : List ℕ) → (taken_of st ys).refusal ≡ 0 → 0 < length ys
some_bytes st ys e = let z = sized st ys e in omega (arith, z.some, z.long)

-- a record that is none refused has a length
pub has_length : (r : Record) → (r ≡ Frame) ⊎ ((r ≡ Mark) ⊎ ((r ≡ Provisioning) ⊎ ((r ≡ Level) ⊎ (r ≡ LevelFrame)))) → 0 < length_of r
has_length r (inl e) = rw e (omega arith)
has_length r (inr (inl e)) = rw e (omega arith)
has_length r (inr (inr (inl e))) = rw e (omega arith)
has_length r (inr (inr (inr (inl e)))) = rw e (omega arith)
has_length r (inr (inr (inr (inr e)))) = rw e (omega arith)

-- a record that is refused itself is taken with its refusal
applied_refused : (st : State) (body : List ℕ) (r : Record) (n : ℕ) → r ≡ Refused n → applied_of st r body ≡ refused_of st n
applied_refused st body r n e = rw e

refused_some : (ys : List ℕ) (r : Record) (n : ℕ) → Whole ys r → r ≡ Refused n → 0 < n
refused_some ys r n h e = (rw e at h).0

-- A record whose taking is not refused as cut is taken alike from every longer list.
by_good : (st : State) (zs ys : List ℕ) (r : Record) → Whole zs r → applied_of st r (body_of r (zs ++ ys)) ≡ applied_of st r (body_of r zs)
by_good st zs ys Frame h = ap (applied_of st Frame) (body_append zs ys Frame refl h)
by_good st zs ys Mark h = refl
by_good st zs ys Provisioning h = ap (applied_of st Provisioning) (body_append zs ys Provisioning refl h)
by_good st zs ys Level h = ap (applied_of st Level) (body_append zs ys Level refl h)
by_good st zs ys LevelFrame h = ap (applied_of st LevelFrame) (body_append zs ys LevelFrame refl h)
by_good st zs ys (Refused n) h = refl

pub taken_append : (st : State) (zs ys : List ℕ) → ((taken_of st zs).refusal ≡ 14 → ⊥)
    → (taken_of st (zs ++ ys) ≡ taken_of st zs) × (record_of (zs ++ ys) ≡ record_of zs)
unfolding taken_of
taken_append st zs ys n =
    let e : record_of (zs ++ ys) ≡ record_of zs = record_append zs ys (λ z. n (ap (λ (r : Record). (applied_of st r (body_of (record_of zs) zs)).refusal) z)) in
    (ap (λ (r : Record). applied_of st r (body_of r (zs ++ ys))) e ∙ by_good st zs ys (record_of zs) (whole_record zs), e)

-- the run at a list: its end, a refusal, a second reported, a record told, and on
pub run_end : (tell : Bool) (s : List ℕ) (at n : ℕ) (st : State) → length s ≤ at → run_of tell s at n st ≡ record { at = at; frames = n; stop = stop.More; state = st }
unfolding run_over records_from
run_end tell s at n st h = rw (drop_of_length-le s h)

module _ (ys : List ℕ) (at n : ℕ) (st : State) where
  pub run_refused : (tell : Bool) → 0 < length ys → ((taken_of st ys).refusal ≡ 0 → ⊥)
      → run_over tell (records_of ys) at n st ≡ record { at = at; frames = n; stop = stop.Refused (taken_of st ys).refusal at; state = st }
  unfolding run_over
  run_refused tell h z = rw (records_next ys h, ne_eqb _ _ z)

  module _ (e : (taken_of st ys).refusal ≡ 0) where
    pub run_reported : (tell : Bool) → (taken_of st ys).told ≡ true
        → run_over tell (records_of ys) at n st ≡ record { at = at + size_of (record_of ys); frames = n + frames_in (record_of ys); stop = stop.Reported; state = (taken_of st ys).state }
    unfolding run_over
    run_reported tell c = rw (records_next ys (some_bytes st ys e), eq-eqb _ _ e, c)

    pub run_told : (taken_of st ys).told ≡ false
        → run_over true (records_of ys) at n st ≡ record { at = at + size_of (record_of ys); frames = n + frames_in (record_of ys); stop = stop.Told; state = (taken_of st ys).state }
    unfolding run_over
    run_told c = rw (records_next ys (some_bytes st ys e), eq-eqb _ _ e, c)

    pub run_on : (taken_of st ys).told ≡ false
        → run_over false (records_of ys) at n st ≡ run_over false (records_of (drop (size_of (record_of ys)) ys)) (at + size_of (record_of ys)) (n + frames_in (record_of ys)) (taken_of st ys).state
    unfolding run_over
    run_on c = rw (records_next ys (some_bytes st ys e), eq-eqb _ _ e, c)

pub some_left : (s : List ℕ) (at : ℕ) → at < length s → 0 < length (drop at s)
some_left s at l = simp length-drop (omega arith)

-- The same at a position of s, with the record r that stands there and what was taken of it, t: what the loop of `scan` cites.
module _ (tell : Bool) (s : List ℕ) (at n : ℕ) (st : State) (r : Record) (er : r ≡ record_at s at) (h : at < length s) where
  pub within : Within s at r
  within = rw er (within_at s at (record_of (drop at s)) h (whole_record (drop at s)))

  module _ (t : Taken) (et : t ≡ applied_of st r (body_of r (drop at s))) where
    taken_is : t ≡ taken_of st (drop at s)
    unfolding taken_of
    taken_is = et ∙ ap (λ (q : Record). applied_of st q (body_of q (drop at s))) er

    pub refused : (t.refusal ≡ 0 → ⊥) → run_of tell s at n st ≡ record { at = at; frames = n; stop = stop.Refused t.refusal at; state = st }
    refused z = rw taken_is (run_refused (drop at s) at n st tell (some_left s at h) (rw taken_is at z))

    pub room : t.refusal ≡ 0 → (4 ≤ size_of r) × (at + size_of r ≤ length s) × (frames_in r ≤ 1)
    room e =
        let z = sized st (drop at s) (rw taken_is at e) in
        rw er (z.some, omega (arith, simp length-drop at z.long), z.one)

    pub reported : t.refusal ≡ 0 → t.told ≡ true → run_of tell s at n st ≡ record { at = at + size_of r; frames = n + frames_in r; stop = stop.Reported; state = t.state }
    reported e c = rw (taken_is, er) (run_reported (drop at s) at n st (rw taken_is at e) tell (rw taken_is at c))

    pub told : t.refusal ≡ 0 → t.told ≡ false → tell ≡ true → run_of tell s at n st ≡ record { at = at + size_of r; frames = n + frames_in r; stop = stop.Told; state = t.state }
    told e c l = rw (l, taken_is, er) (run_told (drop at s) at n st (rw taken_is at e) (rw taken_is at c))

    pub on : t.refusal ≡ 0 → t.told ≡ false → tell ≡ false → run_of tell s at n st ≡ run_of tell s (at + size_of r) (n + frames_in r) t.state
    on e c l =
        rw (l, taken_is, er, ← drop-drop)
        (run_on (drop at s) at n st (rw taken_is at e) (rw taken_is at c))

  -- a refusal of the record itself
  pub refused_itself : (m : ℕ) → r ≡ Refused m → (k : ℕ) → k ≡ refusal_in r → run_of tell s at n st ≡ record { at = at; frames = n; stop = stop.Refused k at; state = st }
  refused_itself m e k ek =
      let l = refused_some (drop at s) (record_of (drop at s)) m (whole_record (drop at s)) (sym er ∙ e) in
      rw (ek ∙ ap refusal_in e) (refused (refused_of st m) (sym (applied_refused st (body_of r (drop at s)) r m e)) (λ z. omega (arith, l, z)))
