-- A layer's record after its trace, by the parts that it is split into. Assumes nothing.
use Prim.Native.Nat.{ℕ, ◌+◌, ◌%◌, ◌≤◌}
use mathlib.Core.Path.{◌≡◌, refl, sym, ap, ◌∙◌}
use mathlib.Core.Bool.{Bool}
use mathlib.Core.List.{List, [], ◌∷◌, ◌++◌, append_assoc, append-nil}
use native.Mathlib.Omega.{arith}
use lib.Dec.{eqb}
use lib.ListN.{length, get_or, set, take, drop, length-drop}
use lib.Seq.{take-take, take_all, drop-drop}
use Rattle.std.proofs.lemmas.List.{drop-take}
use Rattle.answer.specs.Bits.{flag}
use Rattle.codec.proofs.Overs.{bytes_room, length_in, byte_in}
use Rattle.codec.specs.Over.{bytes_in}
use Rattle.codec.specs.Pieces.{joined}
use Rattle.alignment.specs.declared.Multi.{Multi}
use Rattle.layer.specs.declared.Layer.{Layer}
use Rattle.layer.specs.declared.Cycle.{Cycle}
use Rattle.layer.specs.Steps.{gone}
use Rattle.cycle.specs.Cycle.{cycle_in, cycle_bytes, cycle_of, traces_of, tim_in, record_parts, layer_step, tim_after}
use Rattle.cycle.proofs.Parts.{three}

-- bytes of some of the bytes
within : (n at k off : ℕ) (b : List ℕ) → n ≤ k → off + (at + k) ≤ length b → bytes_in n at (bytes_in (at + k) off b) ≡ bytes_in n (off + at) b
within n at k off b l h =
    let x : List ℕ = bytes_in (at + k) off b in
    let e : x ≡ take (at + k) (drop off b) = bytes_room (at + k) off b h in
    bytes_room n at x (omega (arith, length_in (at + k) off b))
    ∙ ap (λ (y : List ℕ). take n (drop at y)) e
    ∙ ap (take n) (drop-take at k (drop off b))
    ∙ take-take n k (drop at (drop off b)) l
    ∙ ap (take n) (drop-drop at off b)
    ∙ sym (bytes_room n (off + at) b (omega arith))

-- three cycles and the names behind them
behind : (a g p e : List ℕ) → a ++ (g ++ (p ++ e)) ≡ (a ++ (g ++ (p ++ []))) ++ (e ++ [])
behind a g p e = simp (append_assoc, append-nil)

made : {f f' s s' v v' : List ℕ} → f ≡ f' → s ≡ s' → v ≡ v' → f ++ (s ++ v) ≡ f' ++ (s' ++ v')
made p q r = cc

alike : {a a' g g' p p' e e' : List ℕ} → a ≡ a' → g ≡ g' → p ≡ p' → e ≡ e' → a ++ (g ++ (p ++ e)) ≡ a' ++ (g' ++ (p' ++ e'))
alike p q r s = cc

module _ (b f r1 n r2 a r3 g r4 p e names : List ℕ) (h : length b ≡ 288) (ef : f ≡ take 32 b) (e1 : r1 ≡ drop 32 b) (en : n ≡ take 32 r1)
    (e2 : r2 ≡ drop 32 r1) (ea : a ≡ take 64 r2) (e3 : r3 ≡ drop 64 r2) (eg : g ≡ take 64 r3) (e4 : r4 ≡ drop 64 r3) (ep : p ≡ take 64 r4)
    (ee : e ≡ drop 64 r4) (es : names ≡ take 32 e) where
  d2 : r2 ≡ drop 64 b
  d2 = e2 ∙ ap (drop 32) e1 ∙ drop-drop 32 32 b

  d3 : r3 ≡ drop 128 b
  d3 = e3 ∙ ap (drop 64) d2 ∙ drop-drop 64 64 b

  d4 : r4 ≡ drop 192 b
  d4 = e4 ∙ ap (drop 64) d3 ∙ drop-drop 64 128 b

  d5 : e ≡ drop 256 b
  d5 = ee ∙ ap (drop 64) d4 ∙ drop-drop 64 192 b

  qn : n ≡ bytes_in 32 32 b
  qn = en ∙ ap (take 32) e1 ∙ sym (bytes_room 32 32 b (omega arith))

  qa : a ≡ bytes_in 64 0 (bytes_in 192 64 b)
  qa = ea ∙ ap (take 64) d2 ∙ sym (bytes_room 64 64 b (omega arith)) ∙ sym (within 64 0 192 64 b (omega arith) (omega arith))

  qg : g ≡ bytes_in 64 64 (bytes_in 192 64 b)
  qg = eg ∙ ap (take 64) d3 ∙ sym (bytes_room 64 128 b (omega arith)) ∙ sym (within 64 64 128 64 b (omega arith) (omega arith))

  qp : p ≡ bytes_in 64 128 (bytes_in 192 64 b)
  qp = ep ∙ ap (take 64) d4 ∙ sym (bytes_room 64 192 b (omega arith)) ∙ sym (within 64 128 64 64 b (omega arith) (omega arith))

  byte : (i j : ℕ) → 32 + i ≡ j → i + 1 ≤ 3 → get_or n i 0 ≡ get_or (bytes_in 3 32 b) i 0
  byte i j k l =
      ap (λ (x : List ℕ). get_or x i 0) qn ∙ byte_in 32 32 i j b (omega arith) (omega arith) k ∙ sym (byte_in 3 32 i j b (omega arith) (omega arith) k)

  cycle_read : (x : ℕ) → x ≡ get_or n 2 0 → ◌≡◌ {A = Cycle} (record { known = eqb (get_or n 0 0) 1; gathering = eqb (get_or n 1 0) 1; equal = x }) (cycle_in (bytes_in 3 32 b))
  cycle_read x k = rw (k, byte 0 32 refl (omega arith), byte 1 33 refl (omega arith), byte 2 34 refl (omega arith))

  numbers : drop 3 n ≡ bytes_in 29 35 b
  numbers =
      ap (drop 3) (en ∙ ap (take 32) e1) ∙ drop-take 3 29 (drop 32 b) ∙ ap (take 29) (drop-drop 3 32 b) ∙ sym (bytes_room 29 35 b (omega arith))

  last : e ≡ bytes_in 32 256 b
  last = d5 ∙ sym (take_all 32 (drop 256 b) (omega (arith, length-drop 256 b))) ∙ sym (bytes_room 32 256 b (omega arith))

  named : names ≡ bytes_in 32 256 b
  named = es ∙ ap (take 32) d5 ∙ sym (bytes_room 32 256 b (omega arith))

  module _ (forget : Bool) (m : Multi) (tti x u v : ℕ) (c : Cycle) (a' g' p' : List ℕ) (r : Bool) where
    abbrev before : Cycle
    before = record { known = eqb (get_or n 0 0) 1; gathering = eqb (get_or n 1 0) 1; equal = x }

    abbrev after : Layer
    after = gone a g p before forget m.inmulti m.number tti

    pub trace_is : x ≡ get_or n 2 0 → c ≡ cycle_of after → a' ≡ after.accepted → g' ≡ after.gathered → p' ≡ after.previous
        → u ≡ flag c.known → v ≡ flag c.gathering → r ≡ tim_in c.known a' (get_or f 5 0) names
        → let l : Layer = layer_step b forget m tti in
        (r ≡ tim_after b forget m tti)
        × (f ++ (set (set (set n 0 u) 1 v) 2 (c.equal % 256) ++ (a' ++ (g' ++ (p' ++ e))))
        ≡ joined (record_parts b (cycle_of l) (bytes_in 29 35 b) (traces_of l)))
    trace_is k ec ka kg kp eu ev er =
        let l : Layer = layer_step b forget m tti in
        let same : after ≡ l = ap (λ (y : Cycle). gone a g p y forget m.inmulti m.number tti) (cycle_read x k) ∙ rw (qa, qg, qp) refl in
        let fc : c ≡ cycle_of l = ec ∙ ap cycle_of same in
        let fa : a' ≡ l.accepted = ka ∙ ap (λ (y : Layer). y.accepted) same in
        let fg : g' ≡ l.gathered = kg ∙ ap (λ (y : Layer). y.gathered) same in
        let fp : p' ≡ l.previous = kp ∙ ap (λ (y : Layer). y.previous) same in
        let qf : f ≡ bytes_in 32 0 b = ef ∙ sym (bytes_room 32 0 b (omega arith)) in
        let mode : get_or f 5 0 ≡ get_or b 5 0 = ap (λ (y : List ℕ). get_or y 5 0) qf ∙ byte_in 32 0 5 5 b (omega arith) (omega arith) refl in
        let t = three n u v (c.equal % 256) (omega (arith, ap length qn, length_in 32 32 b)) in
        let w = t ∙ ap (λ (i : ℕ). i ∷ v ∷ (c.equal % 256) ∷ drop 3 n) eu ∙ ap (λ (i : ℕ). flag c.known ∷ i ∷ (c.equal % 256) ∷ drop 3 n) ev ∙ ap (λ (y : Cycle). flag y.known ∷ flag y.gathering ∷ (y.equal % 256) ∷ drop 3 n) fc ∙ ap (λ (v : List ℕ). cycle_bytes (cycle_of l) ++ v) numbers in
        let q = alike fa fg fp last ∙ behind l.accepted l.gathered l.previous (bytes_in 32 256 b) in
        (rw (fc, fa, mode, named) at er, made qf w q)
