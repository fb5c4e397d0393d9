-- What is done and read in the bay of levels in their ranges is what the definitions say of the levels. Assumes nothing.
use mathlib.Core.Path.{◌≡◌, refl, sym, ap, subst, ◌∙◌}
use mathlib.Core.Bool.{Bool, true, false, cond, ◌&&◌}
use mathlib.Core.List.{List, [], ◌∷◌, ◌++◌, map}
use Prim.Native.Nat.{ℕ, zero, suc, ◌+◌, ◌-◌, ◌≤◌, ◌<◌}
use native.Mathlib.Omega.{arith}
use lib.Dec.{leb, eqb}
use lib.ListN.{length, get_or, take, set, replicate, length-append, length-set}
use lib.Seq.{take_at, drop_at, set-append_left}
use borrow.Author.Tests.{leb-true, eq-eqb}
use Rattle.answer.specs.Bits.{flag}
use Rattle.answer.specs.Each.{each_from}
use Rattle.answer.proofs.Cond.{by_cond, cond_under}
use Rattle.overhead.specs.Overhead.{level_field}
use Rattle.overhead.specs.declared.Field.{Field}
use Rattle.alignment.specs.declared.Multi.{Multi}
use Rattle.settings.specs.declared.Options.{Options}
use Rattle.second.specs.declared.Blocks.{Blocks}
use Rattle.level.specs.Level.{level_of, level_stands, level_closed, level_marked, fresh_level_second}
use Rattle.supervisor.specs.Supervisor.{Traced}
use Rattle.numbers.specs.Numbers.{on}
use Rattle.numbers.proofs.Strips.{both}
use Rattle.place.specs.Place.{closed_in}
use Rattle.rack.specs.Rack.{level_record, no_level}
use Rattle.racks.specs.Racks.{level_bytes, second_after}
use Rattle.racks.proofs.Levels.{in_level}
use Rattle.tandem.specs.Levels.{given_level, blank_level, stepped_level, marked_level, five_of, count_at, frame_rule, mark_rule, framed_levels, marked_levels, level_figures, level_at, placed_at}
use Rattle.tandem.specs.Tandem.{level_shown, level_traced}
use Rattle.tandem.specs.declared.Level.{Level}
use Rattle.tandem.specs.declared.Tandem.{Tandem}
use Rattle.watch.proofs.Alone.{at_number}
use Rattle.bay.specs.Bay.{records_from, records_of, chained, record_at, given_in, blank_bay, with_record, gave_in, given_rule, each_given, frame_record, framed_in, mark_record, marked_in, five_by, five_rule, figures_in, MarkAt, stood_in, stands_in, no_trace, trace_of, traced_in}
use Rattle.bay.proofs.Given as goal
use Rattle.bays.specs.Image.{level_bytes_of, given_bytes, strip_bytes, bay_bytes}
use Rattle.bays.specs.Ranges.{OneIn, AllIn, TandemIn}
use Rattle.bays.specs.Bays.{bay_of, LaidFresh, InBay}
use Rattle.bays.proofs.Bytes.{Says, record_long, records_back, given_long, strip_long, strip_of, says_of, bay_long, records_of_lem, one_back}
use Rattle.bays.proofs.Trip.{cons, bay_tested}

-- One level in its record.

record_framed : (ssf : Bool) (m : Multi) (f : Field) (v : ℕ) (l : Level) → OneIn l
    → level_record (level_bytes_of l) ssf m f v ≡ level_bytes l.options (level_of l.state l.options ssf m f) (second_after l.options l.state l.second ssf m f v)
record_framed ssf m f v l a =
    let b : List ℕ = level_bytes_of l in
    let e = ((in_level l.options l.state l.second a).framed ssf m f v _ _ (record { answers = refl; holds = refl })).1 in
    rw (eq-eqb (length b) 288 (record_long l a)) at e

record_marked : (n : ℕ) (l : Level) → OneIn l → (closed_in (level_bytes_of l) ≡ level_closed l.second)
    × (mark_record n (level_bytes_of l) ≡ level_bytes l.options (level_marked l.state l.options l.second) fresh_level_second)
record_marked n l a = (in_level l.options l.state l.second a).marked _ _ (record { answers = refl; holds = refl })

frame_made : (ssf : Bool) (m : Multi) (f : Field) (v : ℕ) (l : Level) → OneIn l
    → level_bytes_of (stepped_level l ssf m f v) ≡ cond l.given (level_record (level_bytes_of l) ssf m f v) (level_bytes_of l)
unfolding stepped_level
frame_made ssf m f v l a =
    cond_under level_bytes_of l.given _ l ∙ ap (λ (r : List ℕ). cond l.given r (level_bytes_of l)) (sym (record_framed ssf m f v l a))

mark_made : (n : ℕ) (l : Level) → OneIn l → level_bytes_of (marked_level l) ≡ cond l.given (mark_record n (level_bytes_of l)) (level_bytes_of l)
unfolding marked_level
mark_made n l a =
    cond_under level_bytes_of l.given _ l ∙ ap (λ (r : List ℕ). cond l.given r (level_bytes_of l)) (sym (record_marked n l a).1)

five_made : (l : Level) → OneIn l → five_of l ≡ cond l.given (five_by (closed_in (level_bytes_of l))) (replicate 5 0)
unfolding five_of
five_made l a = ap (λ (d : Blocks). cond l.given (five_by d) (replicate 5 0)) (sym (record_marked 1 l a).0)

stands_made : (ssf : Bool) (l : Level) → OneIn l → stood_in (level_bytes_of l) ssf ≡ level_stands l.state l.options ssf
stands_made ssf l a = ap (λ (x : Level). level_stands x.state x.options ssf) (one_back l a)

trace_made : (l : Level) → OneIn l
    → trace_of (level_bytes_of l) ≡ cond l.state.layer.known (record { refusal = 0; trace = l.state.layer.accepted }) no_trace
trace_made l a =
    ap (λ (x : Level). cond x.state.layer.known (record { refusal = 0; trace = x.state.layer.accepted }) no_trace) (one_back l a)

-- Each level by a rule of its record, and by a rule of the definitions that makes the same.

module _ (f : ℕ → List ℕ → List ℕ) (rule : ℕ → Level → Level) (kept : (n : ℕ) (l : Level) → (rule n l).given ≡ l.given)
    (made : (n : ℕ) (l : Level) → OneIn l → level_bytes_of (rule n l) ≡ cond l.given (f n (level_bytes_of l)) (level_bytes_of l)) where
  each_given_lem : (n : ℕ) (ls : List Level) → given_bytes (each_from rule n ls) ≡ given_bytes ls
  each_given_lem n [] = refl
  each_given_lem n (l ∷ ls) = cons (ap flag (kept n l)) (each_given_lem (suc n) ls)

  each_made : (n : ℕ) (ls : List Level) (b : List ℕ) → Says n ls b → AllIn ls
      → each_from (given_rule f b) n (map level_bytes_of ls) ≡ map level_bytes_of (each_from rule n ls)
  each_made n [] b s a = refl
  each_made n (l ∷ ls) b s a =
      let r : List ℕ = level_bytes_of l in
      cons (ap (λ (g : Bool). cond g (f n r) r) s.0 ∙ sym (made n l a.0)) (each_made (suc n) ls b s.1 a.1)

  each_bay : (flags : ℕ) (ls : List Level) → length ls ≡ 6 → AllIn ls → each_given f (bay_bytes flags ls) ≡ bay_bytes flags (each_from rule 1 ls)
  unfolding bay_bytes
  each_bay flags ls six a =
      let b : List ℕ = bay_bytes flags ls in
      both (strip_of flags ls six) (ap (λ (rs : List (List ℕ)). chained (each_from (given_rule f b) 1 rs)) (records_of_lem flags ls six a))
      ∙ both (ap (λ (x : List ℕ). flags ∷ (x ++ replicate 25 0)) (sym (each_given_lem 1 ls))) (ap chained (each_made 1 ls b (says_of flags ls six) a))

-- a frame and a mark provision no level
stepped_given : (ssf : Bool) (m : Multi) (f : Field) (v : ℕ) (l : Level) → (stepped_level l ssf m f v).given ≡ l.given
unfolding stepped_level
stepped_given ssf m f v l = by_cond (λ (x : Level). x.given ≡ l.given) l.given (λ e. sym e) (λ _. refl)

marked_given : (l : Level) → (marked_level l).given ≡ l.given
unfolding marked_level
marked_given l = by_cond (λ (x : Level). x.given ≡ l.given) l.given (λ e. sym e) (λ _. refl)

flags_set : (flags next : ℕ) (ls : List Level) → set (bay_bytes flags ls) 0 next ≡ bay_bytes next ls
unfolding bay_bytes
flags_set flags next ls = refl

-- the figures of each level
fives_made : (n : ℕ) (ls : List Level) (b : List ℕ) → Says n ls b → AllIn ls → chained (each_from (five_rule b) n (map level_bytes_of ls)) ≡ level_figures ls
unfolding chained level_figures
fives_made n [] b s a = refl
fives_made n (l ∷ ls) b s a =
    both (ap (λ (g : Bool). cond g (five_by (closed_in (level_bytes_of l))) (replicate 5 0)) s.0 ∙ sym (five_made l a.0)) (fives_made (suc n) ls b s.1 a.1)

-- A level provisioned in its place.

given_set : (ls : List Level) (i : ℕ) (l : Level) → set (given_bytes ls) i (flag l.given) ≡ given_bytes (set ls i l)
given_set [] i l = refl
given_set (x ∷ ls) zero l = refl
given_set (x ∷ ls) (suc i) l = ap (λ (r : List ℕ). flag x.given ∷ r) (given_set ls i l)

records_set : (ls : List Level) (i : ℕ) (l : Level) → set (map level_bytes_of ls) i (level_bytes_of l) ≡ map level_bytes_of (set ls i l)
records_set [] i l = refl
records_set (x ∷ ls) zero l = refl
records_set (x ∷ ls) (suc i) l = ap (λ (r : List (List ℕ)). level_bytes_of x ∷ r) (records_set ls i l)

placed : (flags : ℕ) (ls : List Level) (n : ℕ) (p : Options) → length ls ≡ 6 → AllIn ls → 1 ≤ n → n ≤ 6
    → with_record (bay_bytes flags ls) n p ≡ bay_bytes flags (set ls (n - 1) (given_level p))
unfolding bay_bytes
placed flags ls zero p six a low high = absurd (omega arith)
placed flags ls (suc i) p six a low high =
    let l : Level = given_level p in
    let q : List ℕ = chained (map level_bytes_of ls) in
    let z : List ℕ = replicate 25 0 in
    let s : List ℕ = strip_bytes flags (set ls i l) in
    let long : length s ≡ 32 = strip_long flags (set ls i l) (simp length-set six) in
    let x : set ((given_bytes ls ++ z) ++ q) i 1 ≡ (given_bytes (set ls i l) ++ z) ++ q =
    set-append_left (given_bytes ls ++ z) q i 1 (simp (length-append, given_long ls, six) (omega arith))
    ∙ ap (λ (r : List ℕ). r ++ q) (set-append_left (given_bytes ls) z i 1 (simp (given_long ls, six) (omega arith)) ∙ ap (λ (r : List ℕ). r ++ z) (given_set ls i l)) in
    let y : set (bay_bytes flags ls) (suc i) 1 ≡ s ++ q = ap (λ (r : List ℕ). flags ∷ r) x in
    let k : records_from 6 q ≡ map level_bytes_of ls = subst (λ (k : ℕ). records_from k q ≡ map level_bytes_of ls) six (records_back ls a) in
    let d : suc i - 1 ≡ i = omega arith in
    rw d
    (ap (λ (c : List ℕ). take 32 c ++ chained (set (records_of c) i (level_bytes_of l))) y
    ∙ both (take_at s q 32 long)
    (ap (λ (c : List ℕ). chained (set (records_from 6 c) i (level_bytes_of l))) (drop_at s q 32 long)
    ∙ ap (λ (rs : List (List ℕ)). chained (set rs i (level_bytes_of l))) k
    ∙ ap chained (records_set ls i l)))

-- Level i read in its place.

says_get : (n : ℕ) (ls : List Level) (i : ℕ) (b : List ℕ) → Says n ls b → i < length ls → on (get_or b (n + i) 0) ≡ (get_or ls i blank_level).given
says_get n [] i b s h = absurd (omega arith)
says_get n (l ∷ ls) zero b s h = let e : n + 0 ≡ n = omega arith in ap (λ (k : ℕ). on (get_or b k 0)) e ∙ s.0
says_get n (l ∷ ls) (suc i) b s h =
    let e : n + suc i ≡ suc n + i = omega arith in ap (λ (k : ℕ). on (get_or b k 0)) e ∙ says_get (suc n) ls i b s.1 (omega arith)

record_get : (ls : List Level) (i : ℕ) → i < length ls → get_or (map level_bytes_of ls) i [] ≡ level_bytes_of (get_or ls i blank_level)
record_get [] i h = absurd (omega arith)
record_get (l ∷ ls) zero h = refl
record_get (l ∷ ls) (suc i) h = record_get ls i (omega arith)

all_get : (ls : List Level) (i : ℕ) → AllIn ls → i < length ls → OneIn (get_or ls i blank_level)
all_get [] i a h = absurd (omega arith)
all_get (l ∷ ls) zero a h = a.0
all_get (l ∷ ls) (suc i) a h = all_get ls i a.1 (omega arith)

module _ (t : Tandem) (i : TandemIn t) where
  abbrev ls : List Level
  ls = t.levels

  abbrev b : List ℕ
  b = bay_of t

  is_bay : eqb (length b) 1760 ≡ true
  is_bay = eq-eqb (length b) 1760 (bay_long t.flags ls i.six i.levels)

  given_in_lem : (n : ℕ) (p : Options) → gave_in b n p ≡ bay_bytes t.flags (placed_at ls n (given_level p))
  unfolding gave_in
  given_in_lem n p = rw is_bay (by (leb 1 n) refl (leb n 6) refl)
    where
      by : (c : Bool) → leb 1 n ≡ c → (d : Bool) → leb n 6 ≡ d
          → cond c (cond d (with_record b n p) b) b ≡ bay_bytes t.flags (cond c (cond d (set ls (n - 1) (given_level p)) ls) ls)
      by true low true high = placed t.flags ls n p i.six i.levels (leb-true 1 n low) (leb-true n 6 high)
      by true low false high = refl
      by false low d high = refl

  framed_in_lem : (flags : ℕ) (ssf : Bool) (m : Multi) (overhead counts : List ℕ)
      → framed_in b flags ssf m overhead counts ≡ bay_bytes flags (framed_levels ls ssf m overhead counts)
  unfolding framed_in
  framed_in_lem flags ssf m overhead counts =
      let f : ℕ → List ℕ → List ℕ = frame_record ssf m overhead counts in
      let rule : ℕ → Level → Level = frame_rule ssf m overhead counts in
      let each : each_given f (bay_bytes flags ls) ≡ bay_bytes flags (each_from rule 1 ls) =
      each_bay f rule (λ n l. stepped_given ssf m (level_field overhead n) (count_at counts n) l)
      (λ n l a. frame_made ssf m (level_field overhead n) (count_at counts n) l a) flags ls i.six i.levels in
      rw is_bay (ap (each_given f) (flags_set t.flags flags ls) ∙ each)

  marked_in_lem : (r x : List ℕ) → MarkAt b r x → (r ≡ level_figures ls) × (x ≡ bay_bytes t.flags (marked_levels ls))
  unfolding figures_in marked_in
  marked_in_lem r x e =
      let figures : figures_in b ≡ level_figures ls =
      rw is_bay
      (ap (λ (rs : List (List ℕ)). chained (each_from (five_rule b) 1 rs)) (records_of_lem t.flags ls i.six i.levels)
      ∙ fives_made 1 ls b (says_of t.flags ls i.six) i.levels) in
      let bytes : marked_in b ≡ bay_bytes t.flags (marked_levels ls) =
      rw is_bay (each_bay mark_record mark_rule (λ n l. marked_given l) mark_made t.flags ls i.six i.levels) in
      (e.answers ∙ figures, e.holds ∙ bytes)

  -- level n, which is one of the six where it is provisioned
  given_is : (n : ℕ) → given_in b n ≡ (level_at ls n).given
  unfolding given_in
  given_is n = rw is_bay (by (leb 1 n) refl (leb n 6) refl)
    where
      by : (c : Bool) → leb 1 n ≡ c → (d : Bool) → leb n 6 ≡ d
          → cond c (cond d (on (get_or b n 0)) false) false ≡ (cond c (cond d (get_or ls (n - 1) blank_level) blank_level) blank_level).given
      by true low true high =
          let x = leb-true 1 n low in
          let y = leb-true n 6 high in
          let e : n ≡ 1 + (n - 1) = omega arith in
          ap (λ (k : ℕ). on (get_or b k 0)) e ∙ says_get 1 ls (n - 1) b (says_of t.flags ls i.six) (omega (arith, i.six))
      by true low false high = refl
      by false low d high = refl

  record_is : (n : ℕ) → (level_at ls n).given ≡ true → (record_at b n ≡ level_bytes_of (level_at ls n)) × OneIn (level_at ls n)
  record_is n g =
      let w = (goal.given_is b n (given_is n ∙ g)).1 in
      let h : n - 1 < length ls = omega (arith, w, i.six) in
      let e : record_at b n ≡ level_bytes_of (get_or ls (n - 1) blank_level) =
      ap (λ (rs : List (List ℕ)). get_or rs (n - 1) []) (records_of_lem t.flags ls i.six i.levels) ∙ record_get ls (n - 1) h in
      rw (at_number ls n w.0 w.1) (e, all_get ls (n - 1) i.levels h)

  stands_in_lem : (n : ℕ) (ssf : Bool) → stands_in b n ssf ≡ level_shown (level_at ls n) ssf
  unfolding stands_in level_shown
  stands_in_lem n ssf = rw (given_is n) (by (level_at ls n).given refl)
    where
      by : (g : Bool) → (level_at ls n).given ≡ g
          → cond g (stood_in (record_at b n) ssf) no_level ≡ cond g (level_stands (level_at ls n).state (level_at ls n).options ssf) no_level
      by true g = let r = record_is n g in ap (λ (x : List ℕ). stood_in x ssf) r.0 ∙ stands_made ssf (level_at ls n) r.1
      by false g = refl

  traced_in_lem : (n : ℕ) → traced_in b n ≡ level_traced t n
  unfolding traced_in level_traced
  traced_in_lem n = rw (given_is n) (by (level_at ls n).given refl)
    where
      found : (known : Bool) (l : List ℕ)
          → ◌≡◌ {A = Traced} (cond known (record { refusal = 0; trace = l }) no_trace) (cond (eqb (cond known 0 13) 0) (record { refusal = 0; trace = l }) (record { refusal = cond known 0 13; trace = replicate 64 0 }))
      found true l = refl
      found false l = refl

      by : (g : Bool) → (level_at ls n).given ≡ g → (let l : Level = level_at ls n in
          let refusal : ℕ = cond (g && l.state.layer.known) 0 13 in
          ◌≡◌ {A = Traced} (cond g (trace_of (record_at b n)) no_trace)
          (cond (eqb refusal 0) (record { refusal = 0; trace = l.state.layer.accepted }) (record { refusal = refusal; trace = replicate 64 0 })))
      by true g =
          let l : Level = level_at ls n in
          let r = record_is n g in
          ap trace_of r.0 ∙ trace_made l r.1 ∙ found l.state.layer.known l.state.layer.accepted
      by false g = refl

pub in_bay : (t : Tandem) → TandemIn t → InBay t
in_bay t i = record {
  sound = bay_tested t.flags t.levels i.flags i.six i.levels;
  given = given_in_lem t i;
  framed = framed_in_lem t i;
  marked = marked_in_lem t i;
  provisioned = given_is t i;
  stands = stands_in_lem t i;
  traced = traced_in_lem t i;
}

-- Six blank records behind a strip of zeros.
pub laid_fresh : LaidFresh
unfolding blank_bay bay_bytes
laid_fresh b s long = rw (eq-eqb (length b) 1760 long)
