-- What is open while numbered seconds are joined one by one, and the lines of what closes, by plain sums. Assumes nothing.
use Prim.Native.Nat.{ℕ, zero, suc, ◌+◌, ◌-◌, ◌*◌, ◌/◌, ◌%◌, ◌≤◌, ◌<◌}
use mathlib.Core.Path.{◌≡◌, refl, sym, ap, ap₂, subst, ◌∙◌}
use mathlib.Core.Bool.{Bool, true, false, not}
use mathlib.Core.List.{List, [], ◌∷◌, ◌++◌, map, map-append, append-nil}
use native.Mathlib.Omega.{arith}
use lib.Dec.{ltb}
use lib.ListN.{length, get_or, take, drop, length-drop, drop_of_length-le}
use lib.Seq.{length-take-le, take-suc, drop-append-le, take-length}
use borrow.Author.Tests.{eqb-true, eqb-false, lt-ltb}
use Rattle.summary.specs.Summary.{Joined, empty_summary, join_of, second_of}
use Rattle.summary.specs.declared.Summary.{Summary}
use Rattle.summary.specs.Stretch.{total, seconds_with, summary_of, Numbered}
use Rattle.summary.proofs.Stretch.{neighbours}
use Rattle.bins.specs.Bins.{no_bins, bins_with, opened_of, closes, kept_of, line_if, bin_lines, closed_lines, rest_lines}
use Rattle.bins.specs.declared.Bins.{Bins}
use Rattle.stream.specs.Stream.{Note, second}
use Rattle.lines.specs.Line.{line_by, open_after, lines_of, open_over}
use Rattle.reading.proofs.Turns.{lines_append, open_append}
use Rattle.office.specs.Office.{stretch_to, lines_to, closed_to, open_to}

-- parts of a numbered stretch
num_take : (m k : ℕ) (ss : List (List ℕ)) → Numbered m ss → Numbered m (take k ss)
num_take m zero ss h = tt
num_take m (suc k) [] h = tt
num_take m (suc k) (s ∷ ss) h = (h.0, (h.1.0, num_take (suc m) k ss h.1.1))

num_drop : (m k : ℕ) (ss : List (List ℕ)) → Numbered m ss → Numbered (m + k) (drop k ss)
num_drop m zero ss h = let e : m ≡ m + 0 = omega arith in subst (λ (i : ℕ). Numbered i ss) e h
num_drop m (suc k) [] h = tt
num_drop m (suc k) (s ∷ ss) h =
    let e : suc m + k ≡ m + suc k = omega arith in subst (λ (i : ℕ). Numbered i (drop k ss)) e (num_drop (suc m) k ss h.1.1)

num_at : (m k : ℕ) (ss : List (List ℕ)) → k < length ss → Numbered m ss → Numbered (m + k) (get_or ss k [] ∷ [])
num_at m k [] l h = absurd (omega arith)
num_at m zero (s ∷ ss) l h = let e : get_or s 0 0 ≡ m = h.0 in (omega (arith, e), (h.1.0, tt))
num_at m (suc k) (s ∷ ss) l h =
    let e : suc m + k ≡ m + suc k = omega arith in subst (λ (i : ℕ). Numbered i (get_or ss k [] ∷ [])) e (num_at (suc m) k ss (omega arith) h.1.1)

-- each second is its own stretch
abbrev pub Alone : List (List ℕ) → Type 0
Alone [] = Unit {0}
Alone (s ∷ ss) = (second_of s ≡ summary_of (s ∷ [])) × Alone ss

alone_at : (k : ℕ) (ss : List (List ℕ)) → k < length ss → Alone ss → second_of (get_or ss k []) ≡ summary_of (get_or ss k [] ∷ [])
alone_at k [] l h = absurd (omega arith)
alone_at zero (s ∷ ss) l h = h.0
alone_at (suc k) (s ∷ ss) l h = alone_at k ss (omega arith) h.1

no_second : summary_of [] ≡ empty_summary
unfolding summary_of total seconds_with
no_second = refl

long_of : (ss : List (List ℕ)) → (summary_of ss).length ≡ length ss
unfolding summary_of
long_of ss = refl

-- what is to be known of a size
pub record Size (size : ℕ) : Type 0 where
  pub few : size ≤ 86400
  pub low : (n : ℕ) → size * (n / size) ≤ n
  pub high : (n : ℕ) → n < size * (n / size) + size
  pub whole : (n : ℕ) → n % size ≡ 0 → size * (n / size) ≡ n
  pub part : (n : ℕ) → (n % size ≡ 0 → ⊥) → (size * (n / size) < n) × ((n - 1) / size ≡ n / size)

quarter_size : Size 900
quarter_size = record { few = omega arith; low = λ n. omega arith; high = λ n. omega arith; whole = λ n e. omega (arith, e); part = λ n e. (omega (arith, e), omega (arith, e)) }

day_size : Size 86400
day_size = record { few = omega arith; low = λ n. omega arith; high = λ n. omega arith; whole = λ n e. omega (arith, e); part = λ n e. (omega (arith, e), omega (arith, e)) }

module _ (ss : List (List ℕ)) (last : length ss ≤ 4294967295) (num : Numbered 1 ss) (alone : Alone ss) where
  -- what is open after n seconds
  abbrev open_at : ℕ → ℕ → Summary
  open_at size n = summary_of (drop (size * (n / size)) (take n ss))

  module _ (size : ℕ) (s : Size size) where
    -- one second more joined to it
    with_next : (n : ℕ) → n < length ss → (join_of (open_at size n) (second_of (get_or ss n []))).summary ≡ stretch_to size ss (suc n)
    with_next n l =
        let k : ℕ = size * (n / size) in
        let f : List ℕ = get_or ss n [] in
        let low : k ≤ n = s.low n in
        let high : n < k + size = s.high n in
        let few : size ≤ 86400 = s.few in
        let xs : List (List ℕ) = drop k (take n ss) in
        let t : length (take n ss) ≡ n = length-take-le n ss (omega arith) in
        let long : length xs ≡ n - k = length-drop k (take n ss) ∙ ap (λ (m : ℕ). m - k) t in
        let a : Numbered (1 + k) xs = num_drop 1 k (take n ss) (num_take 1 n ss num) in
        let e : 1 + n ≡ 1 + k + length xs = omega (arith, long, low) in
        let b : Numbered (1 + k + length xs) (f ∷ []) = subst (λ (i : ℕ). Numbered i (f ∷ [])) e (num_at 1 n ss l num) in
        let j = neighbours (1 + k) xs (f ∷ []) (omega arith) (omega (arith, long, low, last, l)) (omega (arith, long, low, high, few)) a b in
        let c : xs ++ (f ∷ []) ≡ drop k (take (suc n) ss) = sym (drop-append-le k (take n ss) (f ∷ []) (omega (arith, t, low))) ∙ ap (drop k) (sym (take-suc ss n [] l)) in
        let g : suc n - 1 ≡ n = omega arith in
        ap (λ (x : Summary). (join_of (open_at size n) x).summary) (alone_at n ss l alone)
        ∙ ap (λ (x : Joined). x.summary) j
        ∙ ap summary_of c
        ∙ ap (λ (i : ℕ). summary_of (drop (size * (i / size)) (take (suc n) ss))) (sym g)

    -- what is complete is not open
    none_open : (n : ℕ) → n ≤ length ss → n % size ≡ 0 → open_at size n ≡ empty_summary
    none_open n l e =
        let w : size * (n / size) ≡ n = s.whole n e in
        let t : length (take n ss) ≡ n = length-take-le n ss l in
        let all : length (take n ss) ≤ n = omega (arith, t) in
        ap summary_of (ap (λ (k : ℕ). drop k (take n ss)) w ∙ drop_of_length-le (take n ss) all) ∙ no_second

    still_open : (n : ℕ) → (n % size ≡ 0 → ⊥) → open_at size n ≡ stretch_to size ss n
    still_open n e = ap (λ (k : ℕ). summary_of (drop (size * k) (take n ss))) (sym (s.part n e).1)

    kept : (n : ℕ) → n ≤ length ss → kept_of (closes size n) (stretch_to size ss n) ≡ open_at size n
    kept n l = by (closes size n) refl
      where
        by : (b : Bool) → closes size n ≡ b → kept_of b (stretch_to size ss n) ≡ open_at size n
        by true e = sym (none_open n l (eqb-true (n % size) 0 e))
        by false e = sym (still_open n (eqb-false (n % size) 0 e))

    -- the line of what is open at the end
    rest_line : (letter n : ℕ) → n ≤ length ss → line_if (ltb 0 (open_at size n).length) letter size (open_at size n) ≡ line_if (not (closes size n)) letter size (stretch_to size ss n)
    rest_line letter n l = by (closes size n) refl
      where
        by : (b : Bool) → closes size n ≡ b → line_if (ltb 0 (open_at size n).length) letter size (open_at size n) ≡ line_if (not b) letter size (stretch_to size ss n)
        by true e = ap (λ (x : Summary). line_if (ltb 0 x.length) letter size x) (none_open n l (eqb-true (n % size) 0 e))
        by false e =
            let no : n % size ≡ 0 → ⊥ = eqb-false (n % size) 0 e in
            let p : size * (n / size) < n = (s.part n no).0 in
            let t : length (take n ss) ≡ n = length-take-le n ss l in
            let d : length (drop (size * (n / size)) (take n ss)) ≡ length (take n ss) - size * (n / size) = length-drop (size * (n / size)) (take n ss) in
            let z : (open_at size n).length ≡ length (drop (size * (n / size)) (take n ss)) = long_of (drop (size * (n / size)) (take n ss)) in
            let some : 0 < (open_at size n).length = omega (arith, p, t, d, z) in
            ap (λ (b : Bool). line_if b letter size (open_at size n)) (lt-ltb 0 (open_at size n).length some)
            ∙ ap (λ (x : Summary). line_if true letter size x) (still_open n no)

  -- both
  abbrev both_at : ℕ → Bins
  both_at n = record { quarter = open_at 900 n; day = open_at 86400 n }

  abbrev both_to : ℕ → Bins
  both_to n = record { quarter = stretch_to 900 ss n; day = stretch_to 86400 ss n }

  both_next : (n : ℕ) → n < length ss → bins_with (both_at n) (get_or ss n []) ≡ both_to (suc n)
  unfolding bins_with
  both_next n l = ap₂ (λ (q d : Summary). record { quarter = q; day = d }) (with_next 900 quarter_size n l) (with_next 86400 day_size n l)

  number_at : (n : ℕ) → n < length ss → get_or (get_or ss n []) 0 0 ≡ suc n
  number_at n l = let e : get_or (get_or ss n []) 0 0 ≡ 1 + n = (num_at 1 n ss l num).0 in omega (arith, e)

  line_next : (n : ℕ) → n < length ss → line_by true (both_at n) (second (get_or ss n [])) ≡ lines_to (closes 900 (suc n)) (closes 86400 (suc n)) ss (suc n)
  unfolding line_by bin_lines
  line_next n l = ap₂ closed_lines (both_next n l) (number_at n l)

  open_next : (n : ℕ) → n < length ss → open_after (both_at n) (second (get_or ss n [])) ≡ both_at (suc n)
  unfolding open_after opened_of
  open_next n l =
      ap₂ opened_of (both_next n l) (number_at n l)
      ∙ ap₂ (λ (q d : Summary). record { quarter = q; day = d }) (kept 900 quarter_size (suc n) (omega arith)) (kept 86400 day_size (suc n) (omega arith))

  -- after n seconds
  notes : ℕ → List Note
  notes n = map second (take n ss)

  notes_next : (n : ℕ) → n < length ss → notes (suc n) ≡ notes n ++ (second (get_or ss n []) ∷ [])
  unfolding notes
  notes_next n l = ap (map second) (take-suc ss n [] l) ∙ map-append second (take n ss) (get_or ss n [] ∷ [])

  opened : (n : ℕ) → n ≤ length ss → open_over no_bins (notes n) ≡ both_at n
  unfolding open_over notes
  opened zero l = ap₂ (λ (q d : Summary). record { quarter = q; day = d }) (sym no_second) (sym no_second)
  opened (suc n) l =
      ap (open_over no_bins) (notes_next n l)
      ∙ open_append no_bins (notes n) (second (get_or ss n []) ∷ [])
      ∙ ap (λ (b : Bins). open_after b (second (get_or ss n []))) (opened n (omega arith))
      ∙ open_next n l

  closed : (n : ℕ) → n ≤ length ss → lines_of true no_bins (notes n) ≡ closed_to ss n
  unfolding lines_of notes closed_to
  closed zero l = refl
  closed (suc n) l =
      let f : Note = second (get_or ss n []) in
      ap (lines_of true no_bins) (notes_next n l)
      ∙ lines_append true no_bins (notes n) (f ∷ [])
      ∙ ap₂ (λ (x : List ℕ) (b : Bins). x ++ (line_by true b f ++ [])) (closed n (omega arith)) (opened n (omega arith))
      ∙ ap (λ (x : List ℕ). closed_to ss n ++ x) (append-nil (line_by true (both_at n) f) ∙ line_next n l)

  rest_is : (n : ℕ) → n ≤ length ss → rest_lines (both_at n) ≡ open_to ss n
  unfolding bin_lines
  rest_is n l = ap₂ (λ (x y : List ℕ). x ++ y) (rest_line 900 quarter_size 81 n l) (rest_line 86400 day_size 68 n l)

  pub all_lines : lines_of true no_bins (map second ss) ++ rest_lines (open_over no_bins (map second ss)) ≡ closed_to ss (length ss) ++ open_to ss (length ss)
  unfolding notes
  all_lines =
      let n : ℕ = length ss in
      let l : n ≤ length ss = omega arith in
      let t : map second ss ≡ notes n = ap (map second) (sym (take-length ss)) in
      ap (λ (x : List Note). lines_of true no_bins x ++ rest_lines (open_over no_bins x)) t
      ∙ ap₂ (λ (x : List ℕ) (b : Bins). x ++ rest_lines b) (closed n l) (opened n l)
      ∙ ap (λ (x : List ℕ). closed_to ss n ++ x) (rest_is n l)
