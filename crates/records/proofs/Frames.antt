-- A frame in the records of a supervisor in its ranges is the frame of the definitions. Assumes nothing.
use Prim.Native.Nat.{ℕ, suc, ◌+◌, ◌≤◌, ◌<◌}
use mathlib.Core.Path.{◌≡◌, refl, sym, ap, ◌∙◌}
use mathlib.Core.Bool.{Bool, true, false, cond}
use mathlib.Core.List.{List, [], ◌∷◌, ◌++◌, append-nil}
use native.Mathlib.Numerals.{add-one}
use native.Mathlib.Omega.{arith}
use lib.Dec.{ltb}
use lib.ListN.{length, get_or, set, length-append, length-set, get_or-append}
use lib.Seq.{set-append_left}
use borrow.Author.Tests.{ltb-true}
use Rattle.answer.proofs.Cond.{by_cond}
use Rattle.codec.specs.Over.{bytes_in, laid}
use Rattle.codec.specs.Pieces.{Piece, piece, joined}
use Rattle.codec.proofs.Pieces.{bytes_piece, laid_piece}
use Rattle.words.specs.Words.{flat, counted_in}
use Rattle.overhead.specs.Overhead.{overhead_of}
use Rattle.overhead.specs.declared.Overhead.{Overhead}
use Rattle.filter.specs.Filter.{up_of}
use Rattle.alignment.specs.Alignment.{frames_of, align_of}
use Rattle.alignment.specs.declared.Alignment.{Alignment}
use Rattle.second.specs.declared.Second.{Second}
use Rattle.second.specs.Second.{one_frame, one_under, count_of}
use Rattle.causes.specs.Causes.{head_of}
use Rattle.frame.specs.Layers.{line_of, section_of, section_stands, path_of, path_stands, layers_of, standing_of}
use Rattle.supervisor.specs.declared.Supervisor.{Supervisor}
use Rattle.supervisor.specs.Supervisor.{stands_after, frame_of}
use Rattle.history.specs.Ranges.{AllAtMost, Ranged}
use Rattle.history.proofs.Ranges.{most_at}
use Rattle.numbers.specs.Numbers.{head_bytes, head_in, align_bytes, align_in}
use Rattle.numbers.proofs.Strips.{align_back}
use Rattle.image.specs.Image.{line_head, section_held, path_held}
use Rattle.image.proofs.Ranges.{arrays_of}
use Rattle.place.specs.Place.{align_after, tallied_in}
use Rattle.records.specs.Records.{line_front, InFrame}
use Rattle.records.proofs.Held.{counted_flat, section_fits, path_fits}
use Rattle.records.proofs.Layers.{section_at, path_at}

-- The open second: frames, then the ten heads, then a spare word.

ten : (n : ℕ) (h : List ℕ) → length h ≡ 10
    → n ∷ get_or h 0 0 ∷ get_or h 1 0 ∷ get_or h 2 0 ∷ get_or h 3 0 ∷ get_or h 4 0 ∷ get_or h 5 0 ∷ get_or h 6 0 ∷ get_or h 7 0 ∷ get_or h 8 0 ∷ get_or h 9 0 ∷ 0 ∷ [] ≡ n ∷ (h ++ (0 ∷ []))
ten n (a ∷ b ∷ c ∷ d ∷ e ∷ f ∷ g ∷ h ∷ i ∷ j ∷ []) p = refl
ten n [] p = absurd (omega arith)
ten n (a ∷ []) p = absurd (omega arith)
ten n (a ∷ b ∷ []) p = absurd (omega arith)
ten n (a ∷ b ∷ c ∷ []) p = absurd (omega arith)
ten n (a ∷ b ∷ c ∷ d ∷ []) p = absurd (omega arith)
ten n (a ∷ b ∷ c ∷ d ∷ e ∷ []) p = absurd (omega arith)
ten n (a ∷ b ∷ c ∷ d ∷ e ∷ f ∷ []) p = absurd (omega arith)
ten n (a ∷ b ∷ c ∷ d ∷ e ∷ f ∷ g ∷ []) p = absurd (omega arith)
ten n (a ∷ b ∷ c ∷ d ∷ e ∷ f ∷ g ∷ h ∷ []) p = absurd (omega arith)
ten n (a ∷ b ∷ c ∷ d ∷ e ∷ f ∷ g ∷ h ∷ i ∷ []) p = absurd (omega arith)
ten n (a ∷ b ∷ c ∷ d ∷ e ∷ f ∷ g ∷ h ∷ i ∷ j ∷ k ∷ l) p = absurd (omega arith)

-- one more under a head
under : (n : ℕ) (h : List ℕ) (head : ℕ) → head < 10 → length h ≡ 10 → AllAtMost 400000 h
    → counted_in (flat (n ∷ (h ++ (0 ∷ [])))) (head + 1) 400000 ≡ flat (n ∷ (set h head (up_of (get_or h head 0) 400000) ++ (0 ∷ [])))
under n h head k e a =
    let ws : List ℕ = n ∷ (h ++ (0 ∷ [])) in
    let l : length ws ≡ 12 = simp length-append (omega arith) in
    let g : get_or (h ++ (0 ∷ [])) head 0 ≡ get_or h head 0 = get_or-append h (0 ∷ []) 0 head (omega arith) in
    let m = most_at 400000 h head a in
    let s : set (h ++ (0 ∷ [])) head (up_of (get_or h head 0) 400000) ≡ set h head (up_of (get_or h head 0) 400000) ++ (0 ∷ []) =
    set-append_left h (0 ∷ []) head (up_of (get_or h head 0) 400000) (omega arith) in
    ap (λ (i : ℕ). counted_in (flat ws) i 400000) (add-one head)
    ∙ counted_flat ws (suc head) 400000 (omega arith) (omega (arith, ap (λ (x : ℕ). x) g))
    ∙ ap (λ (x : ℕ). flat (n ∷ set (h ++ (0 ∷ [])) head (up_of x 400000))) g
    ∙ ap (λ (x : List ℕ). flat (n ∷ x)) s

one_long : (h : List ℕ) (head : ℕ) → length h ≡ 10 → length (one_under h head) ≡ 10
unfolding one_under
one_long h head e =
    by_cond (λ (x : List ℕ). length x ≡ 10) (ltb head 10) (λ _. length-set h head (up_of (get_or h head 0) 400000) ∙ e) (λ _. e)

tally_is : (n : ℕ) (h : List ℕ) (head : ℕ) → n ≤ 400000 → length h ≡ 10 → AllAtMost 400000 h
    → tallied_in (flat (n ∷ (h ++ (0 ∷ [])))) head ≡ flat (up_of n 400000 ∷ (one_under h head ++ (0 ∷ [])))
unfolding tallied_in one_under
tally_is n h head k e a =
    let ws : List ℕ = n ∷ (h ++ (0 ∷ [])) in
    let l : length ws ≡ 12 = simp length-append (omega arith) in
    let first : counted_in (flat ws) 0 400000 ≡ flat (up_of n 400000 ∷ (h ++ (0 ∷ []))) = counted_flat ws 0 400000 (omega arith) (omega arith) in
    ap (λ (b : List ℕ). cond (ltb head 10) (counted_in b (head + 1) 400000) b) first
    ∙ both (ltb head 10) refl
  where
    both : (t : Bool) → ltb head 10 ≡ t
        → cond t (counted_in (flat (up_of n 400000 ∷ (h ++ (0 ∷ [])))) (head + 1) 400000) (flat (up_of n 400000 ∷ (h ++ (0 ∷ []))))
        ≡ flat (up_of n 400000 ∷ (cond t (set h head (up_of (get_or h head 0) 400000)) h ++ (0 ∷ [])))
    both true q = under (up_of n 400000) h head (ltb-true head 10 q) e a
    both false q = refl

-- The line.

module _ (s : Supervisor) (r : Ranged s) where
  abbrev H : List ℕ
  H = head_bytes (line_head s)

  abbrev A : List ℕ
  A = align_bytes s.layers.align

  abbrev pair : List Piece
  pair = piece 32 H ∷ piece 32 A ∷ []

  pair_is : line_front s ≡ joined pair
  pair_is = ap (λ (x : List ℕ). H ++ x) (sym (append-nil A))

  head_is : bytes_in 32 0 (line_front s) ≡ H
  head_is = rw pair_is (bytes_piece 0 pair (refl, (refl, tt)))

  align_is : align_in (bytes_in 32 32 (line_front s)) ≡ s.layers.align
  align_is =
      let a = r.layers.align in
      let w : bytes_in 32 32 (line_front s) ≡ A = rw pair_is (bytes_piece 1 pair (refl, (refl, tt))) in
      ap align_in w
      ∙ align_back s.layers.align (record { misses = omega arith; mismatches = omega arith; total = omega arith; good = omega arith; lom = omega arith })

  n_is : frames_of (head_in (bytes_in 32 0 (line_front s))).k ≡ frames_of s.settings.k
  n_is = ap (λ (x : List ℕ). frames_of (head_in x).k) head_is

  after_is : (four three : Bool) (mfas : ℕ) → align_after (line_front s) four three mfas ≡ align_of s.layers.align (frames_of s.settings.k) four three mfas
  after_is four three mfas =
      ap (λ (a : Alignment). align_of a (frames_of (head_in (bytes_in 32 0 (line_front s))).k) four three mfas) align_is
      ∙ ap (λ (n : ℕ). align_of s.layers.align n four three mfas) n_is

  laid_line : (x : List ℕ) → length x ≡ 32 → laid (line_front s) 32 x ≡ H ++ x
  laid_line x e =
      rw pair_is (laid_piece 1 pair x (refl, (refl, tt)) (omega arith) e)
      ∙ ap (λ (y : List ℕ). H ++ y) (append-nil x)

-- the frame, part by part
pub in_frame_lem : (s : Supervisor) → Ranged s → (overhead : List ℕ) (flags sm pm : ℕ) → InFrame s overhead flags sm pm
unfolding stands_after frame_of standing_of layers_of section_of section_stands path_of path_stands count_of one_frame
in_frame_lem s r overhead flags sm pm =
    let o : Overhead = overhead_of overhead in
    let z = arrays_of s r in
    let e = after_is s r o.four o.three o.mfas in
    let n = n_is s r in
    record {
      line = λ a x l. (
        (
          l.line ∙ ap (λ (b : Alignment). line_of b (frames_of (head_in (bytes_in 32 0 (line_front s))).k) flags) e ∙ ap (λ (k : ℕ). line_of (align_of s.layers.align (frames_of s.settings.k) o.four o.three o.mfas) k flags) n,
          l.multi ∙ ap (λ (b : Alignment). b.multi) e,
        ),
        l.holds ∙ laid_line s r (align_bytes (align_after (line_front s) o.four o.three o.mfas)) refl ∙ ap (λ (b : Alignment). head_bytes (line_head s) ++ align_bytes b) e,
      );
      section = λ a x l. section_at (section_held s) z.section (section_fits s r).1 _ _ o.section sm a x l;
      path = λ a x l. path_at (path_held s) z.path (path_fits s r).1 _ _ o.path pm a x l;
      tally =
          let c : Second = s.second in
          let d = head_of (stands_after s overhead flags) in
          ap (λ (w : List ℕ). tallied_in (flat w) d) (ten c.frames.0 c.heads r.second.ten)
          ∙ tally_is c.frames.0 c.heads d r.second.frames r.second.ten r.second.heads
          ∙ ap flat (sym (ten (up_of c.frames.0 400000) (one_under c.heads d) (one_long c.heads d r.second.ten)));
    }
