-- Demand 3 of a closed second: one law for every counter, one for every DS, and the second that a mark closes. Assumes nothing.
use Prim.Native.Nat.{ℕ, zero, suc, ◌+◌, ◌*◌, ◌<◌, ◌≤◌, zero-le}
use mathlib.Core.Path.{◌≡◌, refl, ap, ◌∙◌, subst⁻¹}
use mathlib.Core.Bool.{Bool, true, false, cond, not, ◌&&◌, ◌||◌, true≢false}
use mathlib.Core.List.{List, [], ◌∷◌, ◌++◌, map}
use native.Mathlib.Nat.{le_of_suc-le-suc, not-suc-le-zero, add-zero, zero-add}
use native.Mathlib.Omega.{arith}
use lib.Dec.{lit<, leb, eqb, ltb, eqb-zero-suc, eqb-suc-zero, eqb-suc-suc}
use lib.ListN.{length, get_or, set, replicate, length-set}
use borrow.Author.Tests.{ltb-true, lt-ltb}
use Rattle.answer.proofs.Cond.{by_cond, cond_under}
use Rattle.answer.proofs.Checks.{passed}
use Rattle.filter.specs.Filter.{up_of}
use Rattle.filter.proofs.Bounds.{up_plain, add_plain}
use Rattle.overhead.specs.Overhead.{overhead_of, far_block}
use Rattle.overhead.specs.Bei.{bei_of, path_bei, is_far, violations_of}
use Rattle.overhead.specs.declared.Bei.{Bei}
use Rattle.overhead.proofs.Codes.{same_far}
use Rattle.causes.specs.Causes.{ssf_of, path_ssf, path_down, head_of}
use Rattle.second.specs.Second.{near_of, far_of, sum_of as added_to, counted_of, one_frame, one_under, blocks_of, count_of, discard_of, closed_of, figures_of, fresh_second}
use Rattle.answer.specs.Bits.{flag}
use Rattle.answer.specs.Bounded.{Bounded}
use Rattle.answer.proofs.Bits.{flag_most}
use Rattle.supervisor.specs.Supervisor.{fresh_of, step_checks, step_refusal, frame_of, next_second, mark_of}
use Rattle.history.specs.History.{Frame, Event, frame, mark, stands_at, framed, event_of, after, refusal_of, Accepted}
use Rattle.history.specs.Ledger.{Question, Amount, total, tally, some, under, section_near, section_far, section_violations, section_near_ds, section_far_ds, section_iae, section_biae, path_near, path_far, path_violations, path_near_ds, path_far_ds, sum_of, Says, Begins, at_start, after_mark_is, Since, line_figures, marks, EveryDemand3}
use Rattle.causes.specs.declared.Standing.{Standing}
use Rattle.second.specs.declared.Near.{Near}
use Rattle.second.specs.declared.Far.{Far}
use Rattle.second.specs.declared.Sum.{Sum}
use Rattle.second.specs.declared.Second.{Second}
use Rattle.settings.specs.declared.Settings.{Settings}
use Rattle.supervisor.specs.declared.Supervisor.{Supervisor}
use Rattle.causes.proofs.OneCause.{one_cause}
use Rattle.history.proofs.History.{after_append, accepted_append, seconds_left}

-- the second after one more frame
abbrev counted : Second → Standing → Frame → Second
counted c d f = count_of c d (overhead_of f.overhead) f.sm f.pm

step_second : (s : Supervisor) (f : Frame) → (framed s f).second ≡ counted s.second (stands_at s f) f
unfolding frame_of
step_second s f = refl

-- an accepted frame finds room
room : (s : Supervisor) (f : Frame) → refusal_of s (frame f) ≡ 0 → s.second.frames.0 < 400000
unfolding refusal_of step_refusal
room s f e = ltb-true _ _ (passed 4 (step_checks s f.overhead f.flags f.sm f.pm) refl e).1.1.1.0

frames_law : (c : Second) (d : Standing) (f : Frame) → c.frames.0 < 400000 → (counted c d f).frames.0 ≡ c.frames.0 + 1
unfolding count_of one_frame
frames_law c d f h = up_plain c.frames.0 400000 h

ten_law : (c : Second) (d : Standing) (f : Frame) → length c.heads ≡ 10 → length (counted c d f).heads ≡ 10
unfolding count_of one_under
ten_law c d f e = by_cond (λ (l : List ℕ). length l ≡ 10) (ltb (head_of d) 10) (λ _. simp length-set e) (λ _. e)

-- What a frame adds is at most so many, and the frames of a second find room: one and 400,000 of a count, eight and 3,200,000 of a sum.
pub record Adds (each room : ℕ) : Type 0 where
  pub fits : (n : ℕ) → n < 400000 → each * n + each ≤ room
  pub grows : (n : ℕ) → each * n + each ≤ each * (n + 1)

pub adds_one : Adds 1 400000
adds_one = record { fits = λ n h. omega (arith, h); grows = λ n. omega arith }

pub adds_eight : Adds 8 3200000
adds_eight = record { fits = λ n h. omega (arith, h); grows = λ n. omega arith }

-- the totals have room while the frames have
record Room (each : ℕ) (get : Second → ℕ) (c : Second) : Type 0 where
  ten : length c.heads ≡ 10
  below : get c ≤ each * c.frames.0

-- a number of the second that grows by an amount in each frame is the total of that amount
module _ (each cap : ℕ) (w : Adds each cap) (get : Second → ℕ) (amount : Amount) (low : (d : Standing) (f : Frame) → amount d f ≤ each)
    (law : (c : Second) (d : Standing) (f : Frame) → length c.heads ≡ 10 → get c + each ≤ cap → get (counted c d f) ≡ get c + amount d f) where
  one_frame_lem : (s : Supervisor) (f : Frame) → refusal_of s (frame f) ≡ 0 → Room each get s.second → get (framed s f).second ≡ get s.second + amount (stands_at s f) f
  one_frame_lem s f a i =
      let r = w.fits s.second.frames.0 (room s f a) in rw step_second (law s.second (stands_at s f) f i.ten (omega (arith, i.below, r)))

  keeps_room : (s : Supervisor) (f : Frame) → refusal_of s (frame f) ≡ 0 → Room each get s.second → Room each get (framed s f).second
  keeps_room s f a i =
      let g : get (framed s f).second ≡ get s.second + amount (stands_at s f) f = one_frame_lem s f a i in
      let n : (framed s f).second.frames.0 ≡ s.second.frames.0 + 1 = rw step_second (frames_law s.second (stands_at s f) f (room s f a)) in
      let b = low (stands_at s f) f in
      let m = w.grows s.second.frames.0 in
      record { ten = rw step_second (ten_law s.second (stands_at s f) f i.ten); below = rw n (omega (arith, i.below, g, b, m)) }

  sums : (s : Supervisor) (fs : List Frame) → Accepted s (map frame fs) → Room each get s.second
      → get (after s (map frame fs)).second ≡ get s.second + total amount s fs
  unfolding after event_of total
  sums s [] a i = rw add-zero
  sums s (f ∷ fs) a i = omega (arith, sums (framed s f) fs a.1 (keeps_room s f a.0 i), one_frame_lem s f a.0 i)

-- a DS of the second is that some frame had it
or_assoc : (a b c : Bool) → ((a || b) || c) ≡ (a || (b || c))
or_assoc true b c = refl
or_assoc false b c = refl

module _ (get : Second → Bool) (q : Question) (law : (c : Second) (d : Standing) (f : Frame) → get (counted c d f) ≡ (get c || q d f)) where
  somes : (s : Supervisor) (fs : List Frame) → get (after s (map frame fs)).second ≡ (get s.second || some q s fs)
  unfolding after event_of some
  somes s [] = no_more (get s.second)
    where
      no_more : (b : Bool) → b ≡ (b || false)
      no_more true = refl
      no_more false = refl
  somes s (f ∷ fs) =
      let one : get (framed s f).second ≡ (get s.second || q (stands_at s f) f) = rw step_second (law s.second (stands_at s f) f) in
      somes (framed s f) fs
      ∙ ap (λ (b : Bool). b || some q (framed s f) fs) one
      ∙ or_assoc (get s.second) (q (stands_at s f) f) (some q (framed s f) fs)

-- the counters
heads_at_lem : (l : List ℕ) (h k : ℕ) → h < length l → get_or l k 0 < 400000 → get_or (set l h (up_of (get_or l h 0) 400000)) k 0 ≡ get_or l k 0 + flag (eqb h k)
heads_at_lem [] h k i r = absurd (not-suc-le-zero i)
heads_at_lem (x ∷ l) zero zero i r = up_plain x 400000 r
heads_at_lem (x ∷ l) zero (suc k) i r = rw (eqb-zero-suc k, add-zero)
heads_at_lem (x ∷ l) (suc h) zero i r = rw (eqb-suc-zero h, add-zero)
heads_at_lem (x ∷ l) (suc h) (suc k) i r = rw (eqb-suc-suc h k) (heads_at_lem l h k (le_of_suc-le-suc i) r)

heads_law : (k : ℕ) (c : Second) (d : Standing) (f : Frame) → length c.heads ≡ 10 → get_or c.heads k 0 < 400000
    → get_or (counted c d f).heads k 0 ≡ get_or c.heads k 0 + flag (under k d f)
unfolding count_of one_under
heads_law k c d f e r =
    let h : head_of d < 10 = (one_cause d).head in
    rw (lt-ltb (head_of d) 10 h) (heads_at_lem c.heads (head_of d) k (omega arith) r)

at_most_sum : (l : List ℕ) (i : ℕ) → get_or l i 0 ≤ sum_of l
at_most_sum [] i = omega arith
at_most_sum (x ∷ l) zero = omega arith
at_most_sum (x ∷ l) (suc i) = omega (arith, at_most_sum l i)

sum_at : (l : List ℕ) (h : ℕ) → h < length l → get_or l h 0 < 400000 → sum_of (set l h (up_of (get_or l h 0) 400000)) ≡ sum_of l + 1
sum_at [] h i r = absurd (not-suc-le-zero i)
sum_at (x ∷ l) zero i r = omega (arith, up_plain x 400000 r)
sum_at (x ∷ l) (suc h) i r = omega (arith, sum_at l h (le_of_suc-le-suc i) r)

abbrev every : Question
every d f = true

sum_law : (c : Second) (d : Standing) (f : Frame) → length c.heads ≡ 10 → sum_of c.heads < 400000 → sum_of (counted c d f).heads ≡ sum_of c.heads + flag (every d f)
unfolding count_of one_under
sum_law c d f e r =
    let h : head_of d < 10 = (one_cause d).head in
    let m : get_or c.heads (head_of d) 0 ≤ sum_of c.heads = at_most_sum c.heads (head_of d) in
    rw (lt-ltb (head_of d) 10 h) (sum_at c.heads (head_of d) (omega arith) (omega arith))

pub near_more : (n : Near) (more : Bool) → n.0 < 400000 → (near_of n more).0 ≡ n.0 + flag more
unfolding near_of
near_more n true r = up_plain n.0 400000 r
near_more n false r = rw add-zero

pub far_more : (n : Far) (more : Bool) → n.0 < 400000 → (far_of n more).0 ≡ n.0 + flag more
unfolding far_of
far_more n true r = up_plain n.0 400000 r
far_more n false r = rw add-zero

-- a sum grows by the number of a frame whose far-end block is counted
pub sum_more : (n : Sum) (more : ℕ) → n.0 + more ≤ 3200000 → (added_to n more).0 ≡ n.0 + more
unfolding added_to
sum_more n more r = add_plain n.0 more 3200000 r

-- by the reading, and by the code: in section, path and level
pub counted_is : (b : Bei) (far stopped : Bool) (n : ℕ) → violations_of b ≡ cond far n 0 → counted_of b stopped ≡ cond (far && not stopped) n 0
unfolding counted_of
counted_is b true true n e = refl
counted_is b true false n e = e
counted_is b false true n e = refl
counted_is b false false n e = e

-- what is counted of a code is at least the block and at most eight
pub counted_bounds : (code : ℕ) (stopped : Bool)
    → Bounded (flag (far_block code && not stopped)) (cond (far_block code && not stopped) code 0)
counted_bounds code stopped = by (far_block code) stopped (same_far code).least (same_far code).most
  where
    by : (far stopped : Bool) → flag far ≤ cond far code 0 → cond far code 0 ≤ 8 * flag far → Bounded (flag (far && not stopped)) (cond (far && not stopped) code 0)
    by true true l m = omega arith
    by true false l m = (l, m)
    by false stopped l m = omega arith

pub counted_low : (code : ℕ) (stopped : Bool) → cond (far_block code && not stopped) code 0 ≤ 8
counted_low code stopped =
    let b = (counted_bounds code stopped).1 in let f = flag_most (far_block code && not stopped) in omega (arith, b, f)

-- a sum whose amount is bounded by a question in each frame is bounded by its tally
total_bounded : (q : Question) (amount : Amount) → ((d : Standing) (f : Frame) → Bounded (flag (q d f)) (amount d f)) → (s : Supervisor) (fs : List Frame)
    → Bounded (tally q s fs) (total amount s fs)
unfolding total
total_bounded q amount l s [] = omega arith
total_bounded q amount l s (f ∷ fs) =
    let b = total_bounded q amount l (framed s f) fs in
    let o = l (stands_at s f) f in
    (omega (arith, b.0, o.0), omega (arith, b.1, o.1))

-- and so it is where both are discarded
discarded_bounded : (gone : Bool) (far : Far) (sum : Sum) → Bounded far.0 sum.0
    → Bounded (cond gone (record { 0 = 0 }) far).0 (cond gone (record { 0 = 0 }) sum).0
discarded_bounded true far sum b = omega arith
discarded_bounded false far sum b = b

tally_every : (s : Supervisor) (fs : List Frame) → tally every s fs ≡ length fs
unfolding total
tally_every s [] = refl
tally_every s (f ∷ fs) = omega (arith, tally_every (framed s f) fs)

-- a question that implies one of two others is not asked oftener than both
tally_most : (q a b : Question) → ((d : Standing) (f : Frame) → flag (q d f) ≤ flag (a d f) + flag (b d f)) → (s : Supervisor) (fs : List Frame)
    → tally q s fs ≤ tally a s fs + tally b s fs
unfolding total
tally_most q a b l s [] = omega arith
tally_most q a b l s (f ∷ fs) = omega (arith, tally_most q a b l (framed s f) fs, l (stands_at s f) f)

-- the path's blocks are counted under heads 0 and 9 alone
clear_or_nine : (x down u v : Bool) → not down ≡ (u || v) → flag (x && not down) ≤ flag u + flag v
clear_or_nine false down u v e = omega arith
clear_or_nine true true u v e = omega arith
clear_or_nine true false true v e = omega arith
clear_or_nine true false false true e = omega arith
clear_or_nine true false false false e = absurd (true≢false e)

-- the second that begins is fresh
begun : (p : Settings) (h : List Event) → Begins h → (after (fresh_of p) h).second ≡ fresh_second
unfolding after event_of next_second
begun p h at_start = refl
begun p h (after_mark_is b) = ap (λ (s : Supervisor). s.second) (after_append (fresh_of p) b (mark ∷ []))

ten_after : (s : Supervisor) (fs : List Frame) → length s.second.heads ≡ 10 → length (after s (map frame fs)).second.heads ≡ 10
unfolding after event_of
ten_after s [] e = e
ten_after s (f ∷ fs) e = ten_after (framed s f) fs (rw step_second (ten_law s.second (stands_at s f) f e))

zeros_at : (n k : ℕ) → get_or {A = ℕ} (replicate n 0) k 0 ≡ 0
zeros_at zero k = refl
zeros_at (suc n) zero = refl
zeros_at (suc n) (suc k) = zeros_at n k

-- a tally from a second that begins is that of its frames
module _ (s : Supervisor) (fresh : s.second ≡ fresh_second) (fs : List Frame) (a : Accepted s (map frame fs)) where
  added : (each cap : ℕ) → Adds each cap → (get : Second → ℕ) (amount : Amount) → ((d : Standing) (f : Frame) → amount d f ≤ each)
      → ((c : Second) (d : Standing) (f : Frame) → length c.heads ≡ 10 → get c + each ≤ cap → get (counted c d f) ≡ get c + amount d f)
      → get fresh_second ≡ 0 → get (after s (map frame fs)).second ≡ total amount s fs
  added each cap w get amount low law z =
      let e : get s.second ≡ 0 = rw fresh z in
      let i : Room each get s.second = record { ten = ap (λ (c : Second). length c.heads) fresh; below = rw e zero-le } in
      sums each cap w get amount low law s fs a i ∙ rw e (zero-add (total amount s fs))

  from_none : (get : Second → ℕ) (q : Question) → ((c : Second) (d : Standing) (f : Frame) → length c.heads ≡ 10 → get c < 400000 → get (counted c d f) ≡ get c + flag (q d f))
      → get fresh_second ≡ 0 → get (after s (map frame fs)).second ≡ tally q s fs
  from_none get q law z =
      added 1 400000 adds_one get (λ d f. flag (q d f)) (λ d f. flag_most (q d f)) (λ c d f t r. law c d f t (omega (arith, r))) z

  from_nothing : (get : Second → Bool) (q : Question) → ((c : Second) (d : Standing) (f : Frame) → get (counted c d f) ≡ (get c || q d f))
      → get fresh_second ≡ false → get (after s (map frame fs)).second ≡ some q s fs
  from_nothing get q law z = let e : get s.second ≡ false = rw fresh z in somes get q law s fs ∙ rw e

  frames_is : (after s (map frame fs)).second.frames.0 ≡ length fs
  frames_is = from_none (λ c. c.frames.0) every (λ c d f _ r. frames_law c d f r) refl ∙ tally_every s fs

  sum_is : sum_of (after s (map frame fs)).second.heads ≡ length fs
  sum_is = from_none (λ c. sum_of c.heads) every sum_law refl ∙ tally_every s fs

  heads_is : (k : ℕ) → k < 10 → get_or (after s (map frame fs)).second.heads k 0 ≡ tally (under k) s fs
  heads_is k h = from_none (λ c. get_or c.heads k 0) (under k) (heads_law k) (zeros_at 10 k)

  near_is : (after s (map frame fs)).second.path.near.0 ≡ tally path_near s fs
  unfolding count_of blocks_of
  near_is = from_none (λ c. c.path.near.0) path_near (λ c d f _ r. near_more c.path.near (path_near d f) r) refl

  far_is : (after s (map frame fs)).second.path.far.0 ≡ tally path_far s fs
  unfolding count_of blocks_of
  far_is =
      from_none (λ c. c.path.far.0) path_far
      (λ c d f _ r.
      far_more c.path.far (is_far (path_bei (overhead_of f.overhead).path.bei) && not (path_down (path_ssf d) d.path)) r
      ∙ ap (λ (x : Bool). c.path.far.0 + flag (x && not (path_down (path_ssf d) d.path))) (same_far (overhead_of f.overhead).path.bei).path_far_is)
      refl

  violations_is : (after s (map frame fs)).second.path.sum.0 ≡ total path_violations s fs
  unfolding count_of blocks_of
  violations_is =
      added 8 3200000 adds_eight (λ c. c.path.sum.0) path_violations (λ d f. counted_low (overhead_of f.overhead).path.bei (path_down (path_ssf d) d.path))
      (λ c d f _ r.
      let code : ℕ = (overhead_of f.overhead).path.bei in
      let stops : Bool = path_down (path_ssf d) d.path in
      let e = counted_is (path_bei code) (far_block code) stops code (same_far code).path_number in
      let l = counted_low code stops in
      ap (λ (n : ℕ). (added_to c.path.sum n).0) e ∙ sum_more c.path.sum (cond (far_block code && not stops) code 0) (omega (arith, r, l)))
      refl

  section_near_is : (after s (map frame fs)).second.section.near.0 ≡ tally section_near s fs
  unfolding count_of blocks_of
  section_near_is = from_none (λ c. c.section.near.0) section_near (λ c d f _ r. near_more c.section.near (section_near d f) r) refl

  section_far_is : (after s (map frame fs)).second.section.far.0 ≡ tally section_far s fs
  unfolding count_of blocks_of
  section_far_is =
      from_none (λ c. c.section.far.0) section_far
      (λ c d f _ r.
      far_more c.section.far (is_far (bei_of (overhead_of f.overhead).section.bei) && not (ssf_of d.line)) r
      ∙ ap (λ (x : Bool). c.section.far.0 + flag (x && not (ssf_of d.line))) (same_far (overhead_of f.overhead).section.bei).far)
      refl

  section_violations_is : (after s (map frame fs)).second.section.sum.0 ≡ total section_violations s fs
  unfolding count_of blocks_of
  section_violations_is =
      added 8 3200000 adds_eight (λ c. c.section.sum.0) section_violations (λ d f. counted_low (overhead_of f.overhead).section.bei (ssf_of d.line))
      (λ c d f _ r.
      let code : ℕ = (overhead_of f.overhead).section.bei in
      let stops : Bool = ssf_of d.line in
      let e = counted_is (bei_of code) (far_block code) stops code (same_far code).number in
      let l = counted_low code stops in
      ap (λ (n : ℕ). (added_to c.section.sum n).0) e ∙ sum_more c.section.sum (cond (far_block code && not stops) code 0) (omega (arith, r, l)))
      refl

  iae_is : (after s (map frame fs)).second.iae ≡ some section_iae s fs
  unfolding count_of
  iae_is = from_nothing (λ c. c.iae) section_iae (λ c d f. refl) refl

  biae_is : (after s (map frame fs)).second.biae ≡ some section_biae s fs
  unfolding count_of
  biae_is = from_nothing (λ c. c.biae) section_biae (λ c d f. refl) refl

  says_of : Says s fs (closed_of (after s (map frame fs)).second)
  unfolding closed_of discard_of count_of blocks_of
  says_of = record {
    frames = frames_is;
    ten = ten_after s fs (ap (λ (c : Second). length c.heads) fresh);
    heads = heads_is;
    sum = sum_is;
    near = near_is;
    far = far_is;
    near_most = rw near_is (tally_most path_near (under 0) (under 9) (λ d f. clear_or_nine (leb 1 f.pm) (path_down (path_ssf d) d.path) (eqb (head_of d) 0) (eqb (head_of d) 9) (one_cause d).counted) s fs);
    far_most = rw far_is (tally_most path_far (under 0) (under 9) (λ d f. clear_or_nine (far_block (overhead_of f.overhead).path.bei) (path_down (path_ssf d) d.path) (eqb (head_of d) 0) (eqb (head_of d) 9) (one_cause d).counted) s fs);
    violations = violations_is;
    bounded = rw (far_is, violations_is) (total_bounded path_far path_violations (λ d f. counted_bounds (overhead_of f.overhead).path.bei (path_down (path_ssf d) d.path)) s fs);
    neards = from_nothing (λ c. c.path.neards) path_near_ds (λ c d f. refl) refl;
    fards = from_nothing (λ c. c.path.fards) path_far_ds (λ c d f. refl) refl;
    section_near_is = rw (← iae_is, ← section_near_is) (cond_under (λ (n : Near). n.0) (after s (map frame fs)).second.iae _ _);
    section_far_is = rw (← iae_is, ← biae_is, ← section_far_is) (cond_under (λ (n : Far). n.0) ((after s (map frame fs)).second.iae || (after s (map frame fs)).second.biae) _ _);
    section_violations_is = rw (← iae_is, ← biae_is, ← section_violations_is) (cond_under (λ (n : Sum). n.0) ((after s (map frame fs)).second.iae || (after s (map frame fs)).second.biae) _ _);
    section_bounded = discarded_bounded ((after s (map frame fs)).second.iae || (after s (map frame fs)).second.biae) (after s (map frame fs)).second.section.far (after s (map frame fs)).second.section.sum
        (rw (section_far_is, section_violations_is) (total_bounded section_far section_violations (λ d f. counted_bounds (overhead_of f.overhead).section.bei (ssf_of d.line)) s fs));
    section_neards = rw (← iae_is, ← from_nothing (λ c. c.section.neards) section_near_ds (λ c d f. refl) refl);
    section_fards = rw (← iae_is, ← biae_is, ← from_nothing (λ c. c.section.fards) section_far_ds (λ c d f. refl) refl);
  }

-- every history is one after which a second begins, and the frames since
since_frame : (f : Frame) (h b : List Event) → Begins b → (fs : List Frame) → h ≡ b ++ map frame fs → Since (frame f ∷ h)
since_frame f h b at_start fs e = record { before = []; begins = at_start; frames = f ∷ fs; is = ap (λ l. frame f ∷ l) e }
since_frame f h b (after_mark_is g) fs e = record { before = frame f ∷ (g ++ (mark ∷ [])); begins = after_mark_is (frame f ∷ g); frames = fs; is = ap (λ l. frame f ∷ l) e }

since_mark : (h b : List Event) → Begins b → (fs : List Frame) → h ≡ b ++ map frame fs → Since (mark ∷ h)
since_mark h b at_start fs e = record { before = mark ∷ []; begins = after_mark_is []; frames = fs; is = ap (λ l. mark ∷ l) e }
since_mark h b (after_mark_is g) fs e = record { before = mark ∷ (g ++ (mark ∷ [])); begins = after_mark_is (mark ∷ g); frames = fs; is = ap (λ l. mark ∷ l) e }

pub since_of : (h : List Event) → Since h
since_of [] = record { before = []; begins = at_start; frames = []; is = refl }
since_of (frame f ∷ h) = let o : Since h = since_of h in since_frame f h o.before o.begins o.frames o.is
since_of (mark ∷ h) = let o : Since h = since_of h in since_mark h o.before o.begins o.frames o.is

-- the number of the second is one more than the marks
seconds_after : (s : Supervisor) (h : List Event) → (after s h).seconds ≡ s.seconds + marks h
unfolding after event_of frame_of next_second
seconds_after s [] = rw add-zero
seconds_after s (frame f ∷ h) = seconds_after (framed s f) h
seconds_after s (mark ∷ h) = omega (arith, seconds_after (next_second s) h)

-- the twenty-two figures
figures_are : (n : ℕ) (s : Supervisor) (fs : List Frame) (c : Second) → Says s fs c → figures_of n c ≡ line_figures n s fs
figures_are n s fs c y =
    simp (
      y.frames,
      y.heads 0 (lit< tt),
      y.heads 1 (lit< tt),
      y.heads 2 (lit< tt),
      y.heads 3 (lit< tt),
      y.heads 4 (lit< tt),
      y.heads 5 (lit< tt),
      y.heads 6 (lit< tt),
      y.heads 7 (lit< tt),
      y.heads 8 (lit< tt),
      y.heads 9 (lit< tt),
      y.section_near_is,
      y.section_far_is,
      y.section_neards,
      y.section_fards,
      y.section_violations_is,
      y.near,
      y.far,
      y.neards,
      y.fards,
      y.violations,
    )

-- an accepted mark's figures
pub mark_figures : (s : Supervisor) → refusal_of s mark ≡ 0 → (mark_of s).figures ≡ figures_of (s.seconds + 1) (closed_of s.second)
unfolding mark_of
mark_figures s e = rw (lt-ltb s.seconds 4294967295 (seconds_left s e))

-- Demand 3
pub demand_3 : EveryDemand3
demand_3 p h a =
    let o : Since h = since_of h in
    let split : Accepted (fresh_of p) (o.before ++ map frame o.frames) = rw o.is at a in
    let says : Says (after (fresh_of p) o.before) o.frames (closed_of (after (after (fresh_of p) o.before) (map frame o.frames)).second) =
    says_of (after (fresh_of p) o.before) (begun p o.before o.begins) o.frames (accepted_append (fresh_of p) o.before (map frame o.frames) split).1 in
    let same : (after (fresh_of p) h).second ≡ (after (after (fresh_of p) o.before) (map frame o.frames)).second =
    ap (λ (g : List Event). (after (fresh_of p) g).second) o.is ∙ ap (λ (s : Supervisor). s.second) (after_append (fresh_of p) o.before (map frame o.frames)) in
    let said : Says (after (fresh_of p) o.before) o.frames (closed_of (after (fresh_of p) h).second) =
    subst⁻¹ (λ (c : Second). Says (after (fresh_of p) o.before) o.frames (closed_of c)) same says in
    let number : (after (fresh_of p) h).seconds ≡ marks h = seconds_after (fresh_of p) h ∙ zero-add (marks h) in
    record {
      since = o;
      says = said;
      figures = λ e.
          mark_figures (after (fresh_of p) h) e
          ∙ ap (λ (n : ℕ). figures_of (n + 1) (closed_of (after (fresh_of p) h).second)) number
          ∙ figures_are (marks h + 1) (after (fresh_of p) o.before) o.frames (closed_of (after (fresh_of p) h).second) said;
    }
