-- The law of the stream: a trace scanned in pieces gives what the whole gives; and what a run over a buffer is of it. Assumes nothing.
use Prim.Native.Nat.{ℕ, zero, suc, pred, ◌+◌, ◌-◌, ◌≤◌, ◌<◌}
use mathlib.Core.Path.{◌≡◌, refl, ◌∙◌, ap, sym}
use mathlib.Core.Bool.{Bool, true, false, cond}
use mathlib.Core.List.{List, [], ◌∷◌, ◌++◌, append_assoc, append-nil}
use native.Mathlib.Nat.{add_assoc}
use native.Mathlib.Omega.{arith}
use lib.Dec.{eqb, ltb}
use lib.ListN.{length, drop, length-drop, drop_of_length-le}
use lib.Seq.{drop-drop}
use borrow.Author.Tests.{eq-eqb, ne_eqb, ltb-true, ltb-false, eqb-true, eqb-false}
use Rattle.record.specs.Record.{record_of, records_from, size_of, frames_in}
use Rattle.trace.specs.Scan.{start_of, taken_of, run_of}
use Rattle.stream.specs.Stream.{Note, Scan, before, stopped, noted, scan_over, scan_from, scan_of, goes_on, resume, onward, feed_of, together, InAnyPieces, scan_after}
use Rattle.trace.specs.declared.State.{State}
use Rattle.trace.specs.Scan.{Taken}
use Rattle.record.proofs.Records.{records_next}
use Rattle.trace.proofs.Scans.{sized, taken_append, some_bytes, some_left, run_end, run_refused, run_reported, run_told, run_on}

resume_before : (tell : Bool) (l : List Note) (c : Scan) (ys : List ℕ) → resume tell (before l c) ys ≡ before l (resume tell c ys)
unfolding resume
resume_before tell l c ys = by (goes_on c.refusal)
  where
    by : (b : Bool)
        → cond b (before (l ++ c.told) (onward tell c ys)) (record { told = l ++ c.told; state = c.state; at = c.at; frames = c.frames; refusal = c.refusal; rest = c.rest ++ ys })
        ≡ before l (cond b (before c.told (onward tell c ys)) (record { told = c.told; state = c.state; at = c.at; frames = c.frames; refusal = c.refusal; rest = c.rest ++ ys }))
    by true = rw append_assoc
    by false = refl

pred_le : (n m : ℕ) → n ≤ suc m → pred n ≤ m
pred_le zero m h = omega arith
pred_le (suc n) m h = omega arith

-- The law: a longer list is scanned by going on from where the scan of its first part stands; k bytes of it are to be skipped.
over_append : (tell : Bool) (xs ys : List ℕ) (k at n : ℕ) (st : State) → k ≤ length xs
    → scan_over tell (records_from (xs ++ ys) k) at n st ≡ resume tell (scan_over tell (records_from xs k) at n st) ys
unfolding scan_over records_from resume
over_append tell [] ys zero at n st h = refl
over_append tell [] ys (suc k) at n st h = absurd (omega arith)
over_append tell (x ∷ xs) ys (suc k) at n st h = over_append tell xs ys k at n st (omega arith)
over_append tell (x ∷ xs) ys zero at n st h = by_cut (eqb (taken_of st (x ∷ xs)).refusal 14) refl (over_append tell xs ys)
  where
    t : Taken
    t = taken_of st (x ∷ xs)

    On : Type 0
    On = (k at n : ℕ) (st : State) → k ≤ length xs → scan_over tell (records_from (xs ++ ys) k) at n st ≡ resume tell (scan_over tell (records_from xs k) at n st) ys

    by_zero : (b : Bool) → eqb t.refusal 0 ≡ b → On → (t.refusal ≡ 14 → ⊥) → scan_from tell (x ∷ xs ++ ys) at n st ≡ resume tell (scan_from tell (x ∷ xs) at n st) ys
    by_zero true p ih z =
        let e = taken_append st (x ∷ xs) ys z in
        let w = sized st (x ∷ xs) (eqb-true t.refusal 0 p) in
        let m : ℕ = n + frames_in (record_of (x ∷ xs)) in
        let j : ℕ = size_of (record_of (x ∷ xs)) in
        rw (e.0, e.1, p)
        (ap (before (noted tell m st t)) (ih (pred j) (at + j) m t.state (pred_le _ _ w.long))
        ∙ sym (resume_before tell (noted tell m st t) (scan_over tell (records_from xs (pred j)) (at + j) m t.state) ys))
    by_zero false p ih z =
        let e = taken_append st (x ∷ xs) ys z in
        rw (e.0, p, p, ne_eqb t.refusal 14 z)

    by_cut : (b : Bool) → eqb t.refusal 14 ≡ b → On → scan_from tell (x ∷ xs ++ ys) at n st ≡ resume tell (scan_from tell (x ∷ xs) at n st) ys
    by_cut true p ih = rw (eqb-true t.refusal 14 p)
    by_cut false p ih = by_zero (eqb t.refusal 0) refl ih (eqb-false t.refusal 14 p)

pub scan_append : (tell : Bool) (xs ys : List ℕ) (at n : ℕ) (st : State) → scan_from tell (xs ++ ys) at n st ≡ resume tell (scan_from tell xs at n st) ys
scan_append tell xs ys at n st = over_append tell xs ys 0 at n st (omega arith)

-- The law for a trace: the scan of the whole is the scan of its first part, gone on with.
pub scan_more : (tell : Bool) (xs ys : List ℕ) → scan_of tell (xs ++ ys) ≡ resume tell (scan_of tell xs) ys
scan_more tell xs ys = scan_append tell xs ys 0 0 start_of

-- The law for pieces.
pub scan_pieces : (tell : Bool) (xs : List ℕ) (ps : List (List ℕ)) → InAnyPieces tell xs ps
unfolding feed_of together
scan_pieces tell xs [] = ap (scan_of tell) (sym (append-nil xs))
scan_pieces tell xs (p ∷ ps) =
    ap (λ (c : Scan). feed_of tell c ps) (sym (scan_more tell xs p)) ∙ scan_pieces tell (xs ++ p) ps ∙ ap (scan_of tell) (append_assoc xs p (together ps))

-- the scan at a list: a refusal, and on
pub scan_refused : (tell : Bool) (ys : List ℕ) (at n : ℕ) (st : State) → 0 < length ys → ((taken_of st ys).refusal ≡ 0 → ⊥)
    → scan_from tell ys at n st ≡ stopped st at n (taken_of st ys).refusal ys
unfolding scan_over
scan_refused tell ys at n st h z = rw (records_next ys h, ne_eqb _ _ z)

pub scan_on : (tell : Bool) (ys : List ℕ) (at n : ℕ) (st : State) → (taken_of st ys).refusal ≡ 0
    → scan_from tell ys at n st
    ≡ before (noted tell (n + frames_in (record_of ys)) st (taken_of st ys)) (scan_from tell (drop (size_of (record_of ys)) ys) (at + size_of (record_of ys)) (n + frames_in (record_of ys)) (taken_of st ys).state)
unfolding scan_over
scan_on tell ys at n st e = rw (records_next ys (some_bytes st ys e), eq-eqb _ _ e)

-- What holds of a run at each position of s, if it does at later ones: the end, a refusal, a second reported, and on.
module _ (s : List ℕ) (P : ℕ → ℕ → State → Type 0)
    (end : (at n : ℕ) (st : State) → length s ≤ at → P at n st)
    (refused : (at n : ℕ) (st : State) → at < length s → ((taken_of st (drop at s)).refusal ≡ 0 → ⊥) → P at n st)
    (reported : (at n : ℕ) (st : State) → at < length s → (taken_of st (drop at s)).refusal ≡ 0 → (taken_of st (drop at s)).told ≡ true
    → P (at + size_of (record_of (drop at s))) (n + frames_in (record_of (drop at s))) (taken_of st (drop at s)).state → P at n st)
    (on : (at n : ℕ) (st : State) → at < length s → (taken_of st (drop at s)).refusal ≡ 0 → (taken_of st (drop at s)).told ≡ false
    → P (at + size_of (record_of (drop at s))) (n + frames_in (record_of (drop at s))) (taken_of st (drop at s)).state → P at n st) where
  step : (at n : ℕ) (st : State) → ((p m : ℕ) (u : State) → at < p → p ≤ length s → P p m u) → P at n st
  step at n st ih = by_end (ltb at (length s)) refl
    where
      t : Taken
      t = taken_of st (drop at s)

      next : t.refusal ≡ 0 → P (at + size_of (record_of (drop at s))) (n + frames_in (record_of (drop at s))) t.state
      next e =
          let z = sized st (drop at s) e in
          ih (at + size_of (record_of (drop at s))) (n + frames_in (record_of (drop at s))) t.state (omega (arith, z.some)) (omega (arith, simp length-drop at z.long))

      by_told : (b : Bool) → at < length s → t.refusal ≡ 0 → t.told ≡ b → P at n st
      by_told true l e c = reported at n st l e c (next e)
      by_told false l e c = on at n st l e c (next e)

      by_refused : (b : Bool) → at < length s → eqb t.refusal 0 ≡ b → P at n st
      by_refused true l p = by_told t.told l (eqb-true t.refusal 0 p) refl
      by_refused false l p = refused at n st l (eqb-false t.refusal 0 p)

      by_end : (b : Bool) → ltb at (length s) ≡ b → P at n st
      by_end true p = by_refused (eqb t.refusal 0) (ltb-true at (length s) p) refl
      by_end false p = end at n st (ltb-false at (length s) p)

  by_fuel : (m at n : ℕ) (st : State) → length s - at ≤ m → P at n st
  by_fuel zero at n st h = step at n st (λ p j u l k. absurd (omega arith))
  by_fuel (suc m) at n st h = step at n st (λ p j u l k. by_fuel m p j u (omega arith))

  pub along : (at n : ℕ) (st : State) → P at n st
  along at n st = by_fuel (length s - at) at n st (omega arith)

-- The law for a buffer: what `scan` answers of a buffer that starts at the offset base, m frames before it, is the scan from there on.
module _ (tell : Bool) (s : List ℕ) (base m : ℕ) where
  abbrev From : ℕ → ℕ → State → Scan
  From at n st = scan_from tell (drop at s) (base + at) (m + n) st

  -- where the run ends, meets a refusal, or reports a second, whatever state it began in
  agree_end : (u : State) (at n : ℕ) (st : State) → length s ≤ at → From at n st ≡ scan_after tell base m u s (run_of tell s at n st)
  unfolding scan_after scan_over records_from
  agree_end u at n st l = rw (run_end tell s at n st l, drop_of_length-le s l)

  agree_refused : (u : State) (at n : ℕ) (st : State) → at < length s → ((taken_of st (drop at s)).refusal ≡ 0 → ⊥) → From at n st ≡ scan_after tell base m u s (run_of tell s at n st)
  unfolding scan_after
  agree_refused u at n st l z = rw (run_refused (drop at s) at n st tell (some_left s at l) z, scan_refused tell (drop at s) (base + at) (m + n) st (some_left s at l) z)

  agree_reported : (u : State) (at n : ℕ) (st : State) → at < length s → (taken_of st (drop at s)).refusal ≡ 0 → (taken_of st (drop at s)).told ≡ true
      → From at n st ≡ scan_after tell base m u s (run_of tell s at n st)
  unfolding scan_after
  agree_reported u at n st l e c =
      rw (run_reported (drop at s) at n st e tell c, scan_on tell (drop at s) (base + at) (m + n) st e, c, drop-drop (size_of (record_of (drop at s))) at s, add_assoc, add_assoc)

module _ (s : List ℕ) (base m : ℕ) where
  -- records that are not told: the run goes on over them
  agree_quiet : (u : State) (at n : ℕ) (st : State) → scan_from false (drop at s) (base + at) (m + n) st ≡ scan_after false base m u s (run_of false s at n st)
  agree_quiet u =
      along s (λ at n st. scan_from false (drop at s) (base + at) (m + n) st ≡ scan_after false base m u s (run_of false s at n st))
      (agree_end false s base m u) (agree_refused false s base m u)
      (λ at n st l e c _. agree_reported false s base m u at n st l e c)
      (λ at n st l e c h. rw (run_on (drop at s) at n st e c, scan_on false (drop at s) (base + at) (m + n) st e, c, drop-drop (size_of (record_of (drop at s))) at s, add_assoc, add_assoc) h)

  -- records that are told, one at a time
  agree_told : (at n : ℕ) (st : State) → scan_from true (drop at s) (base + at) (m + n) st ≡ scan_after true base m st s (run_of true s at n st)
  unfolding scan_after
  agree_told =
      along s (λ at n st. scan_from true (drop at s) (base + at) (m + n) st ≡ scan_after true base m st s (run_of true s at n st))
      (λ at n st. agree_end true s base m st at n st) (λ at n st. agree_refused true s base m st at n st)
      (λ at n st l e c _. agree_reported true s base m st at n st l e c)
      (λ at n st l e c _. rw (run_told (drop at s) at n st e c, scan_on true (drop at s) (base + at) (m + n) st e, c, drop-drop (size_of (record_of (drop at s))) at s, add_assoc, add_assoc))

  pub agree : (tell : Bool) (at n : ℕ) (st : State) → scan_from tell (drop at s) (base + at) (m + n) st ≡ scan_after tell base m st s (run_of tell s at n st)
  agree false at n st = agree_quiet st at n st
  agree true at n st = agree_told at n st
