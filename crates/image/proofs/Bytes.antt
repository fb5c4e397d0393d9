-- Laws of the image: its length, and that written piece by piece it is whole. Assumes nothing.
use mathlib.Core.Path.{◌≡◌, refl, sym, ap, ◌∙◌}
use mathlib.Core.List.{List, append_assoc}
use Prim.Native.Nat.{ℕ, ◌+◌}
use native.Mathlib.Omega.{arith}
use lib.ListN.{length}
use Rattle.words.specs.Words.{flat}
use Rattle.answer.specs.Over.{over}
use Rattle.codec.specs.Over.{laid}
use Rattle.codec.specs.Pieces.{joined, Sized, lays}
use Rattle.words.proofs.Words.{length_flat}
use Rattle.codec.proofs.Overs.{over_all}
use Rattle.codec.proofs.Pieces.{length_joined, lays_over}
use Rattle.layer.specs.declared.Layer.{Layer}
use Rattle.settings.specs.declared.Options.{Options}
use Rattle.supervisor.specs.declared.Supervisor.{Supervisor}
use Rattle.numbers.specs.declared.State.{State}
use Rattle.numbers.specs.Numbers.{head_bytes, align_bytes, front_bytes, state_bytes}
use Rattle.numbers.specs.Held.{Held, held_pieces, held_bytes}
use Rattle.image.specs.Image.{counts_of, line_head, line_pieces, section_held, path_held, bytes_of, Sizes, Arrays, trace_pieces, held_with, pieces_of, Stored}

-- Each piece has its width.

pub counts_long : (s : Supervisor) → length (flat (counts_of s.second)) ≡ 48
counts_long s = length_flat (counts_of s.second)

pub held_sized : (h : Held) → Sizes h → Sized (held_pieces h)
held_sized h z = (refl, (refl, (z.accepted, (z.gathered, (z.previous, (z.names, tt))))))

pub held_long : (h : Held) → Sizes h → length (held_bytes h) ≡ 288
unfolding held_bytes
held_long h z = length_joined (held_pieces h) (held_sized h z)

pub sized : (s : Supervisor) → Arrays s → Sized (pieces_of s)
sized s a =
    let x = a.section in
    let y = held_sized (path_held s) a.path in
    (refl, (refl, (counts_long s, (refl, (refl, (x.accepted, (x.gathered, (x.previous, (x.names, y)))))))))

-- the image is its pieces, one after the other
pub joined_image : (s : Supervisor) → joined (pieces_of s) ≡ bytes_of s
unfolding bytes_of held_bytes
joined_image s = simp append_assoc

pub length_bytes : (s : Supervisor) → Arrays s → length (bytes_of s) ≡ 688
length_bytes s a = ap length (sym (joined_image s)) ∙ length_joined (pieces_of s) (sized s a)

-- over 688 bytes the pieces are the image
pub whole_image : (b : List ℕ) (s : Supervisor) (after : List ℕ) → length b ≡ 688 → Stored b s after → after ≡ bytes_of s
whole_image b s after h t =
    let a = t.long in
    let whole : lays b 0 (pieces_of s) ≡ over b 0 (joined (pieces_of s)) = lays_over b 0 (pieces_of s) (sized s a) (omega arith) in
    let long : length (joined (pieces_of s)) ≡ length b = length_joined (pieces_of s) (sized s a) ∙ sym h in
    t.holds ∙ whole ∙ over_all b (joined (pieces_of s)) long ∙ joined_image s

-- Pieces laid one after the other, by the lists between.

pub line_laid : (s : Supervisor) (h a c b0 b1 b2 b3 : List ℕ) → h ≡ head_bytes (line_head s) → a ≡ align_bytes s.layers.align → c ≡ counts_of s.second
    → b1 ≡ laid b0 0 h → b2 ≡ laid b1 32 a → b3 ≡ laid b2 64 (flat c) → b3 ≡ lays b0 0 (line_pieces s)
line_laid s h a c b0 b1 b2 b3 p q r e1 e2 e3 = e3 ∙ rw (e2, e1, r, q, p)

pub traces_laid : (l : Layer) (at : ℕ) (b0 b1 b2 b3 : List ℕ) → b1 ≡ laid b0 at l.accepted → b2 ≡ laid b1 (at + 64) l.gathered
    → b3 ≡ laid b2 (at + 128) l.previous → b3 ≡ lays b0 at (trace_pieces l)
traces_laid l at b0 b1 b2 b3 e1 e2 e3 =
    let n : at + 64 + 64 ≡ at + 128 = omega arith in
    e3 ∙ rw (e2, e1, n)

pub held_laid : (p : Options) (l : Layer) (t : State) (at : ℕ) (f g b0 b1 b2 b3 b4 : List ℕ) → f ≡ front_bytes (held_with p l t).front → g ≡ state_bytes t
    → b1 ≡ laid b0 at f → b2 ≡ laid b1 (at + 32) g → b3 ≡ lays b2 (at + 64) (trace_pieces l) → b4 ≡ laid b3 (at + 256) p.names
    → b4 ≡ lays b0 at (held_pieces (held_with p l t))
held_laid p l t at f g b0 b1 b2 b3 b4 h k e1 e2 e3 e4 =
    let n : at + 32 + 32 ≡ at + 64 = omega arith in
    let m : at + 64 + 64 + 64 + 64 ≡ at + 256 = omega arith in
    e4 ∙ rw (e3, e2, e1, k, h, n, m)

pub stored : (s : Supervisor) (x y : State) (b0 b1 b2 b3 : List ℕ) → x ≡ (section_held s).state → y ≡ (path_held s).state
    → b1 ≡ lays b0 0 (line_pieces s) → b2 ≡ lays b1 112 (held_pieces (held_with s.settings.section s.layers.section.layer x))
    → b3 ≡ lays b2 400 (held_pieces (held_with s.settings.path s.layers.path.layer y)) → b3 ≡ lays b0 0 (pieces_of s)
stored s x y b0 b1 b2 b3 p q e1 e2 e3 = e3 ∙ rw (e2, e1, q, p)
