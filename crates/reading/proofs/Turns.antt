-- The laws of a turn, and the law of reading in pieces. Assumes nothing.
use Prim.Native.Nat.{ℕ, ◌+◌, ◌-◌, ◌≤◌, ◌<◌}
use mathlib.Core.Path.{◌≡◌, refl, ◌∙◌, ap, sym}
use mathlib.Core.Bool.{Bool, true, false, cond, not, ◌||◌}
use mathlib.Core.List.{List, [], ◌∷◌, ◌++◌, append_assoc, append-nil}
use native.Mathlib.Omega.{arith}
use lib.Dec.{eqb}
use lib.ListN.{length, drop, length-drop}
use borrow.Author.Tests.{eqb-true, eqb-false}
use Rattle.stream.specs.Stream.{Note, Scan, stopped, before, scan_from, goes_on, resume, onward, together}
use Rattle.stream.proofs.Streams.{scan_append}
use Rattle.stream.proofs.Counts.{start_counted, Comes, comes}
use Rattle.bins.specs.declared.Bins.{Bins}
use Rattle.reading.specs.Listing.{tail_of, text_of, printed_of}
use Rattle.lines.specs.Line.{last_lines, open_after, lines_of, open_over, ending_of}
use Rattle.trace.specs.Scan.{Run, run_of}
use Rattle.reading.proofs.Lines.{Going, Ended}
use Rattle.reading.specs.Turn.{Turned, done_of, reading_of, read_from, start_reading, Sound, written_of, turn_of, to_come, TurnLaw, output_of, InPieces}
use Rattle.reading.specs.declared.Reading.{Reading}

-- what a turn answers, where its run has ended
module _ (from : Reading) (s out : List ℕ) (at : ℕ) (now : Reading) (g : Going from s out at now) (r : Run) (e : r ≡ run_of now.tell s at 0 now.state) (ended : Bool) (k : ℕ)
    (z : Ended from s out at now g r e k) (more : Bool) (m : more ≡ goes_on k) where
  abbrev pub written : Scan → Bins → List ℕ → List ℕ
  written c b l = l ++ cond (done_of c ended) (last_lines from.office b c.state c.refusal c.at c.frames) []

  abbrev pub at_end : Scan
  at_end = stopped r.state (from.at + r.at) (now.frames + r.frames) k (drop r.at s)

  pub turn_written : (o : List ℕ) → o ≡ out ++ ending_of (ended || not more) now.office now.bins r.state k (now.at + r.at) (now.frames + r.frames) → o ≡ written_of from s ended
  unfolding written_of
  turn_written o eo =
      eo
      ∙ ap (λ (q : Bool). out ++ ending_of (ended || not q) now.office now.bins r.state k (now.at + r.at) (now.frames + r.frames)) m
      ∙ ap (λ (office : Bool). out ++ ending_of (ended || not (goes_on k)) office now.bins r.state k (now.at + r.at) (now.frames + r.frames)) g.office
      ∙ ap (λ (base : ℕ). out ++ ending_of (ended || not (goes_on k)) from.office now.bins r.state k (base + r.at) (now.frames + r.frames)) g.base
      ∙ sym
      (ap (λ (c : Scan). written c (open_over from.bins (read_from from s).told) (lines_of from.office from.bins (read_from from s).told)) z.scan
      ∙ ap (λ (b : Bins). written at_end b (lines_of from.office from.bins (read_from from s).told)) z.opened
      ∙ ap (written at_end now.bins) z.lines)

  abbrev pub packed : Scan → Bins → ℕ → Turned
  packed c b n = record {
    reading = record { tell = from.tell; office = from.office; state = c.state; at = c.at; frames = c.frames; bins = b };
    used = c.at - from.at;
    put = n;
    done = done_of c ended;
  }

  abbrev pub packed_as : Bool → Bool → ℕ → ℕ → Bool → ℕ → Turned
  packed_as tell office base used q n = record {
    reading = record { tell = tell; office = office; state = r.state; at = base + r.at; frames = now.frames + r.frames; bins = now.bins };
    used = used;
    put = n;
    done = ended || not q;
  }

  pub turn_turned : (o : List ℕ) → o ≡ written_of from s ended → packed_as now.tell now.office now.at r.at more (length o) ≡ turn_of from s ended
  unfolding turn_of
  turn_turned o eo =
      let u : from.at + r.at - from.at ≡ r.at = omega arith in
      ap (λ (tell : Bool). packed_as tell now.office now.at r.at more (length o)) g.tell
      ∙ ap (λ (office : Bool). packed_as from.tell office now.at r.at more (length o)) g.office
      ∙ ap (λ (base : ℕ). packed_as from.tell from.office base r.at more (length o)) g.base
      ∙ ap (λ (used : ℕ). packed_as from.tell from.office from.at used more (length o)) (sym u)
      ∙ ap (λ (q : Bool). packed_as from.tell from.office from.at (from.at + r.at - from.at) q (length o)) m
      ∙ ap (λ (n : ℕ). packed_as from.tell from.office from.at (from.at + r.at - from.at) (goes_on k) n) (ap length eo)
      ∙ sym
      (ap (λ (c : Scan). packed c (open_over from.bins (read_from from s).told) (length (written_of from s ended))) z.scan
      ∙ ap (λ (b : Bins). packed at_end b (length (written_of from s ended))) z.opened)

pub open_append : (b : Bins) (k l : List Note) → open_over b (k ++ l) ≡ open_over (open_over b k) l
unfolding open_over
open_append b [] l = refl
open_append b (n ∷ k) l = open_append (open_after b n) k l

pub lines_append : (office : Bool) (b : Bins) (k l : List Note) → lines_of office b (k ++ l) ≡ lines_of office b k ++ lines_of office (open_over b k) l
unfolding lines_of open_over
lines_append office b [] l = refl
lines_append office b (n ∷ k) l = rw (lines_append office (open_after b n) k l, append_assoc)

-- the text of a scan that follows what was told
text_before : (office : Bool) (b : Bins) (l : List Note) (c : Scan) → text_of office b (before l c) ≡ lines_of office b l ++ text_of office (open_over b l) c
text_before office b l c = rw (lines_append office b l c.told, open_append b l c.told, append_assoc)

-- The law of a turn.
module _ (r : Reading) (s : List ℕ) (h : Sound r) where
  k : Comes s r.at 0 (read_from r s)
  k = comes r.tell s r.at r.frames r.state h

  more_by : (b : Bool) (ys : List ℕ) → goes_on (read_from r s).refusal ≡ b
      → to_come r (s ++ ys) ≡ lines_of r.office r.bins (read_from r s).told ++ cond (not b) (tail_of r.office (open_over r.bins (read_from r s).told) (read_from r s)) []
      ++ cond (not b) [] (to_come (reading_of r (read_from r s)) (drop ((read_from r s).at - r.at) s ++ ys))
  unfolding resume
  more_by true ys e =
      rw (scan_append r.tell s ys r.at r.frames r.state, e, append-nil, text_before r.office r.bins (read_from r s).told (onward r.tell (read_from r s) ys))
      (ap (λ (z : List ℕ). lines_of r.office r.bins (read_from r s).told ++ text_of r.office (open_over r.bins (read_from r s).told) (scan_from r.tell (z ++ ys) (read_from r s).at (read_from r s).frames (read_from r s).state)) k.rest)
  more_by false ys e = rw (scan_append r.tell s ys r.at r.frames r.state, e, append-nil)

  pub turn_law : TurnLaw r s
  unfolding turn_of written_of
  turn_law = record { more = λ ys. more_by (goes_on (read_from r s).refusal) ys refl; last = refl; ends = refl }

  -- what goes on is sound, and has fewer than 83 bytes kept
  pub turn_used : (ended : Bool) → (turn_of r s ended).used ≤ length s
  unfolding turn_of
  turn_used ended = omega (arith, k.high (omega arith))

  pub turn_sound : (ended : Bool) → Sound (turn_of r s ended).reading
  unfolding turn_of
  turn_sound ended = k.counted

  pub turn_at : (ended : Bool) → (turn_of r s ended).reading.at ≡ r.at + (turn_of r s ended).used
  unfolding turn_of
  turn_at ended = omega (arith, k.low)

  pub turn_kept : (ended : Bool) → (turn_of r s ended).done ≡ false → length s < (turn_of r s ended).used + 83
  unfolding turn_of
  turn_kept true e = let z : ◌≡◌ {A = ℕ} 0 1 = cc in absurd (omega arith)
  turn_kept false e = by_zero (eqb (read_from r s).refusal 0) (eqb (read_from r s).refusal 14) refl refl e
    where
      left : length (read_from r s).rest < 83 → length s < (read_from r s).at - r.at + 83
      left l = omega (arith, simp length-drop at (rw k.rest at l))

      by_zero : (a b : Bool) → eqb (read_from r s).refusal 0 ≡ a → eqb (read_from r s).refusal 14 ≡ b → not (cond a true b) ≡ false → length s < (read_from r s).at - r.at + 83
      by_zero true b p q z = left (omega (arith, k.none (eqb-true _ _ p)))
      by_zero false true p q z = left (k.cut (eqb-true _ _ q))
      by_zero false false p q z = let w : ◌≡◌ {A = ℕ} 0 1 = cc in absurd (omega arith)

  -- it goes on only where a piece came
  pub turn_ends : (got : ℕ) → (turn_of r s (eqb got 0)).done ≡ false → 0 < got
  unfolding turn_of
  turn_ends got e = by_got (eqb got 0) refl e
    where
      by_got : (b : Bool) → eqb got 0 ≡ b → (b || not (goes_on (read_from r s).refusal)) ≡ false → 0 < got
      by_got true p z = let w : ◌≡◌ {A = ℕ} 0 1 = cc in absurd (omega arith)
      by_got false p z = let n = eqb-false got 0 p in omega arith

-- The law of reading in pieces.
pieces_from : (r : Reading) (kept : List ℕ) (ps : List (List ℕ)) → Sound r → output_of r kept ps ≡ to_come r (kept ++ together ps)
unfolding output_of together
pieces_from r kept [] h = rw append-nil (sym (turn_law r kept h).last)
pieces_from r kept (p ∷ ps) h =
    let s : List ℕ = kept ++ p in
    let t : Turned = turn_of r s false in
    ap (λ (z : List ℕ). written_of r s false ++ cond t.done [] z) (pieces_from t.reading (drop t.used s) ps (turn_sound r s h false))
    ∙ sym ((turn_law r s h).more (together ps)) ∙ ap (to_come r) (append_assoc kept p (together ps))

pub in_pieces : (tell office : Bool) (ps : List (List ℕ)) → InPieces tell office ps
unfolding printed_of
in_pieces tell office ps = pieces_from (start_reading tell office) [] ps start_counted
