-- The accepted trace is the one that last stood in three whole cycles in a row. Assumes nothing.
use mathlib.Core.Path.{◌≡◌, refl, ap, sym, ◌∙◌, subst, subst⁻¹}
use mathlib.Core.Bool.{Bool, true, false, cond, ◌&&◌, ◌||◌, true≢false, false≢true}
use mathlib.Core.List.{List, [], ◌∷◌, ◌++◌}
use Prim.Native.Nat.{ℕ, zero, suc, ◌%◌, ◌<◌}
use mathlib.Core.Logic.{◌⊎◌, inl, inr, ⊎_elim}
use native.Mathlib.Omega.{arith}
use borrow.Author.Tests.{eqb-true, eqb-false, eq-eqb, ne_eqb}
use lib.Dec.{eqb}
use lib.ListN.{length, take, drop, length-append, length-set, length-replicate}
use lib.Seq.{take-suc-set, take_all, drop-drop}
use Rattle.answer.proofs.Cond.{by_cond, and_left, and_right}
use Rattle.filter.specs.Filter.{up_of}
use Rattle.names.proofs.Same.{same_in_lem, same_trace_lem}
use Rattle.layer.specs.declared.Layer.{Layer}
use Rattle.names.specs.Names.{same_trace, compared_of}
use Rattle.layer.specs.Layer.{with_trace, equal_of, closed_cycle, gathered_at, byte_of, trace_of, tim_of, fresh_layer}
use Rattle.layer.specs.Traced.{Turn, has, down, cycle, ttis, alike, third, AcceptedTrace, trace, accepted_by, turns_since, trace_after, trace_in, Grows, Steady, tim_by, TraceIs, TimIs}

-- how many alike in a row have ended at the latest frame, and 3 at most
runs : List Turn → ℕ
runs l = cond (cycle l) (cond (cycle (drop 64 l) && alike l) (cond (cycle (drop 64 (drop 64 l)) && alike (drop 64 l)) 3 2) 1) 0

third_runs : (l : List Turn) → eqb (runs l) 3 ≡ third l
unfolding runs
third_runs l = rw (← drop-drop 64 64 l) (by (cycle l) (cycle (drop 64 l)) (cycle (drop 64 (drop 64 l))) (alike l) (alike (drop 64 l)))
  where
    by : (p q r a b : Bool) → eqb (cond p (cond (q && a) (cond (r && b) 3 2) 1) 0) 3 ≡ (p && (q && (r && (a && b))))
    by false q r a b = refl
    by true false r a b = refl
    by true true false a b = by_a a
      where
        by_a : (a : Bool) → eqb (cond a 2 1) 3 ≡ false
        by_a true = refl
        by_a false = refl
    by true true true true true = refl
    by true true true true false = refl
    by true true true false b = refl

-- a cycle has 64 bytes
bytes_size : (l : List Turn) (n : ℕ) → down l n ≡ true → length (ttis l (suc n)) ≡ suc n
unfolding down ttis
bytes_size [] n e = absurd (false≢true e)
bytes_size (x ∷ l) zero e = refl
bytes_size (x ∷ l) (suc n) e =
    let h : length (ttis l (suc n)) ≡ suc n = bytes_size l n (and_right (has x (suc n)) _ e) in
    simp length-append (omega arith)

-- a cycle more: with the gathered bytes its own, and before them what was kept of the cycle 64 frames earlier
runs_more : (s : Layer) (l : List Turn) → cycle l ≡ true → s.gathered ≡ ttis l 64 → s.equal ≡ runs (drop 64 l)
    → (cycle (drop 64 l) ≡ true → s.previous ≡ ttis (drop 64 l) 64) → equal_of s ≡ runs l
unfolding runs equal_of up_of
runs_more s l c g e p = by (cycle (drop 64 l)) refl
  where
    by_none : (t : Bool) → ◌≡◌ {A = ℕ} (cond t 1 1) 1
    by_none true = refl
    by_none false = refl

    by_one : (a d c : Bool) → ◌≡◌ {A = ℕ} (cond a (up_of (cond d (cond c 3 2) 1) 3) 1) (cond a (cond d 3 2) 1)
    by_one true true true = refl
    by_one true true false = refl
    by_one true false c = refl
    by_one false d c = refl

    by : (t : Bool) → cycle (drop 64 l) ≡ t → equal_of s ≡ runs l
    by true h =
        let m : List Turn = drop 64 l in
        rw (g, p h, same_trace_lem (ttis l 64) (ttis m 64) (bytes_size l 63 c) (bytes_size m 63 h), e, c, h)
        (by_one (alike l) (cycle (drop 64 m) && alike m) (cycle (drop 64 (drop 64 m)) && alike (drop 64 m)))
    by false h = rw (e, c, h) (by_none (same_trace s.gathered s.previous))

-- what the latest frame has where the byte numbers go down to 0
down_has : (l : List Turn) (x : Turn) (n : ℕ) → down (x ∷ l) n ≡ true → has x n ≡ true
unfolding down
down_has l x zero e = e
down_has l x (suc n) e = and_left (has x (suc n)) (down l n) e

has_number : (x : Turn) (n : ℕ) → has x n ≡ true → x.number % 64 ≡ n
has_number x n e = eqb-true (x.number % 64) n (and_right x.inmulti _ e)

-- the byte number after them
next_number : (x : Turn) (l : List Turn) (n : ℕ) → Grows x l → x.inmulti ≡ true → down l n ≡ true → x.number % 64 ≡ suc n % 64
unfolding down
next_number x [] n g i e = absurd (false≢true e)
next_number x (a ∷ l) n g i e =
    let h : has a n ≡ true = down_has l a n e in
    let p : a.number % 64 ≡ n = has_number a n h in
    omega (arith, g (and_left a.inmulti _ h) i)

-- they go down from one number only
down_one : (l : List Turn) (m n : ℕ) → (m ≡ n → ⊥) → down l m ≡ true → down l n ≡ false
unfolding down
down_one [] m n d e = refl
down_one (x ∷ l) m n d e = by (down (x ∷ l) n) refl
  where
    by : (t : Bool) → down (x ∷ l) n ≡ t → t ≡ false
    by true h = absurd (d (sym (has_number x m (down_has l x m e)) ∙ has_number x n (down_has l x n h)))
    by false h = refl

has_of : (x : Turn) (n : ℕ) → x.inmulti ≡ true → x.number % 64 ≡ n → has x n ≡ true
has_of x n i e = rw (i, eq-eqb (x.number % 64) n e)

-- what the definitions keep where the latest n frames are the front of a cycle: their bytes, and what ended before them
record Got (n : ℕ) (l : List Turn) (s : Layer) : Type 0 where
  size : length s.gathered ≡ 64
  front : take n s.gathered ≡ ttis l n
  equal : s.equal ≡ runs (drop n l)
  previous : cycle (drop n l) ≡ true → s.previous ≡ ttis (drop n l) 64

-- outside a cycle: OOM, or no number 0 since, or one ended here
record Still (l : List Turn) (s : Layer) : Type 0 where
  gathering : s.gathering ≡ false
  outside : (n : ℕ) → n < 63 → down l n ≡ false
  got : Got 0 l s

-- within a cycle, after its byte n
record Amid (l : List Turn) (s : Layer) : Type 0 where
  n : ℕ
  less : n < 63
  gathering : s.gathering ≡ true
  inside : down l n ≡ true
  got : Got (suc n) l s

record Kept (l : List Turn) (s : Layer) : Type 0 where
  found : trace_in s ≡ accepted_by l
  place : Still l s ⊎ Amid l s

-- a byte more
got_more : (n : ℕ) (l : List Turn) (s : Layer) (x : Turn) → n < 64 → Got n l s → Got (suc n) (x ∷ l) (gathered_at s n x.tti)
unfolding ttis
got_more n l s x h k =
    let w : n < length s.gathered = omega (arith, k.size) in
    record {
      size = simp length-set k.size;
      front = take-suc-set s.gathered n x.tti w ∙ ap (λ (z : List ℕ). z ++ (x.tti ∷ [])) k.front;
      equal = k.equal;
      previous = k.previous;
    }

-- where no cycle ends, nothing is accepted
no_end : (x : Turn) (l : List Turn) → cycle (x ∷ l) ≡ false → accepted_by (x ∷ l) ≡ accepted_by l
unfolding accepted_by
no_end x l e = rw e

-- where one ends
closed_found : (t : Layer) (l : List Turn) → t.gathered ≡ ttis l 64 → equal_of t ≡ runs l → trace_in (closed_cycle t) ≡ cond (third l) (trace (ttis l 64)) (trace_in t)
unfolding closed_cycle
closed_found t l g e = rw (e, third_runs l) (by (third l))
  where
    by : (b : Bool) → trace_in (cond b (with_trace t t.gathered t.gathered t.gathered true false (runs l)) (with_trace t t.accepted t.gathered t.gathered t.known false (runs l)))
        ≡ cond b (trace (ttis l 64)) (trace_in t)
    by true = ap trace g
    by false = refl

closed_got : (t : Layer) (l : List Turn) → length t.gathered ≡ 64 → t.gathered ≡ ttis l 64 → equal_of t ≡ runs l → Got 0 l (closed_cycle t)
unfolding closed_cycle ttis
closed_got t l z g e =
    by_cond (Got 0 l) (eqb (equal_of t) 3) (λ _. record { size = z; front = refl; equal = e; previous = λ _. g })
    (λ _. record { size = z; front = refl; equal = e; previous = λ _. g })

closed_gathering : (t : Layer) → (closed_cycle t).gathering ≡ false
unfolding closed_cycle
closed_gathering t = by_cond (λ (z : Layer). z.gathering ≡ false) (eqb (equal_of t) 3) (λ _. refl) (λ _. refl)

closed_kept : (t : Layer) (x : Turn) (l : List Turn) → cycle (x ∷ l) ≡ true → trace_in t ≡ accepted_by l → Got 64 (x ∷ l) t → Kept (x ∷ l) (closed_cycle t)
unfolding accepted_by
closed_kept t x l c f k =
    let g : t.gathered ≡ ttis (x ∷ l) 64 = sym (take_all 64 t.gathered (omega (arith, k.size))) ∙ k.front in
    let e : equal_of t ≡ runs (x ∷ l) = runs_more t (x ∷ l) c g k.equal k.previous in
    record {
      found = closed_found t (x ∷ l) g e ∙ ap (cond (third (x ∷ l)) (trace (ttis (x ∷ l) 64))) f;
      place = inl (record {
        gathering = closed_gathering t;
        outside = λ n h. down_one (x ∷ l) 63 n (λ q. omega arith) c;
        got = closed_got t (x ∷ l) k.size g e;
      });
    }

-- a byte within a cycle, at its end, and outside
byte_on : (s : Layer) (p tti : ℕ) → (eqb p 0 || s.gathering) ≡ true → eqb p 63 ≡ false → byte_of s p tti ≡ gathered_at s p tti
unfolding byte_of
byte_on s p tti h e = rw (h, e)

byte_end : (s : Layer) (p tti : ℕ) → (eqb p 0 || s.gathering) ≡ true → eqb p 63 ≡ true → byte_of s p tti ≡ closed_cycle (gathered_at s p tti)
unfolding byte_of
byte_end s p tti h e = rw (h, e)

byte_off : (s : Layer) (p tti : ℕ) → (eqb p 0 || s.gathering) ≡ false → byte_of s p tti ≡ s
unfolding byte_of
byte_off s p tti h = rw h

-- byte n of a cycle, after those before it
byte_kept : (s : Layer) (x : Turn) (l : List Turn) (n : ℕ) → n < 64 → (eqb n 0 || s.gathering) ≡ true → down (x ∷ l) n ≡ true → trace_in s ≡ accepted_by l
    → Got n l s → Kept (x ∷ l) (byte_of s n x.tti)
byte_kept s x l n h g d f k = by (eqb n 63) refl
  where
    by : (t : Bool) → eqb n 63 ≡ t → Kept (x ∷ l) (byte_of s n x.tti)
    by true e =
        let q : n ≡ 63 = eqb-true n 63 e in
        subst⁻¹ (Kept (x ∷ l)) (byte_end s n x.tti g e)
        (closed_kept (gathered_at s n x.tti) x l (subst (λ (m : ℕ). down (x ∷ l) m ≡ true) q d) f
        (subst (λ (m : ℕ). Got (suc m) (x ∷ l) (gathered_at s n x.tti)) q (got_more n l s x h k)))
    by false e =
        let q : n ≡ 63 → ⊥ = eqb-false n 63 e in
        subst⁻¹ (Kept (x ∷ l)) (byte_on s n x.tti g e)
        (record {
          found = f ∙ sym (no_end x l (down_one (x ∷ l) n 63 q d));
          place = inr (record { n = n; less = omega arith; gathering = refl; inside = d; got = got_more n l s x h k });
        })

-- a frame in IM, from outside a cycle
from_still : (s : Layer) (x : Turn) (l : List Turn) (p : ℕ) → x.number % 64 ≡ p → x.inmulti ≡ true → Grows x l → trace_in s ≡ accepted_by l → Still l s
    → Kept (x ∷ l) (byte_of s p x.tti)
unfolding down runs ttis
from_still s x l p w i g f k = by (eqb p 0) refl
  where
    no_cycle : (p ≡ 0 → ⊥) → (t : Bool) → cycle l ≡ t → t ≡ false
    no_cycle q true c = absurd (q (sym w ∙ next_number x l 63 g i c))
    no_cycle q false c = refl

    none_down : (p ≡ 0 → ⊥) → (n : ℕ) → n < 64 → down (x ∷ l) n ≡ false
    none_down q zero h = rw (i, ne_eqb (x.number % 64) 0 (λ z. q (sym w ∙ z)))
    none_down q (suc n) h = rw (k.outside n (omega arith)) (by_and (has x (suc n)))
      where
        by_and : (t : Bool) → (t && false) ≡ false
        by_and true = refl
        by_and false = refl

    by : (t : Bool) → eqb p 0 ≡ t → Kept (x ∷ l) (byte_of s p x.tti)
    by true e =
        let q : p ≡ 0 = eqb-true p 0 e in
        subst⁻¹ (λ (m : ℕ). Kept (x ∷ l) (byte_of s m x.tti)) q (byte_kept s x l 0 (omega arith) refl (has_of x 0 i (w ∙ q)) f k.got)
    by false e =
        let q : p ≡ 0 → ⊥ = eqb-false p 0 e in
        let c : cycle (x ∷ l) ≡ false = none_down q 63 (omega arith) in
        let d : cycle l ≡ false = no_cycle q (cycle l) refl in
        let z : runs l ≡ 0 = rw d in
        let y : runs (x ∷ l) ≡ 0 = rw c in
        subst⁻¹ (Kept (x ∷ l)) (byte_off s p x.tti (rw (e, k.gathering)))
        (record {
          found = f ∙ sym (no_end x l c);
          place = inl (record {
            gathering = k.gathering;
            outside = λ n h. none_down q n (omega arith);
            got = record { size = k.got.size; front = refl; equal = k.got.equal ∙ z ∙ sym y; previous = λ h. absurd (true≢false (sym h ∙ c)) };
          });
        })

-- and from within one
from_amid : (s : Layer) (x : Turn) (l : List Turn) (p : ℕ) → x.number % 64 ≡ p → x.inmulti ≡ true → Grows x l → trace_in s ≡ accepted_by l → Amid l s
    → Kept (x ∷ l) (byte_of s p x.tti)
unfolding down
from_amid s x l p w i g f k =
    let a : x.number % 64 ≡ suc k.n % 64 = next_number x l k.n g i k.inside in
    let q : p ≡ suc k.n = omega (arith, k.less) in
    subst⁻¹ (λ (m : ℕ). Kept (x ∷ l) (byte_of s m x.tti)) q
    (byte_kept s x l (suc k.n) (omega (arith, k.less)) (rw k.gathering (by (eqb (suc k.n) 0))) (rw (has_of x (suc k.n) i (w ∙ q)) k.inside) f k.got)
  where
    by : (t : Bool) → (t || true) ≡ true
    by true = refl
    by false = refl

-- a frame in OOM
out_kept : (t : Layer) (x : Turn) (l : List Turn) → x.inmulti ≡ false → t.gathering ≡ false → t.equal ≡ 0 → length t.gathered ≡ 64
    → trace_in t ≡ accepted_by l → Kept (x ∷ l) t
unfolding down runs ttis
out_kept t x l o g e z f =
    record {
      found = f ∙ sym (no_end x l (none_down 63));
      place = inl (record {
        gathering = g;
        outside = λ n h. none_down n;
        got = record { size = z; front = refl; equal = e ∙ sym y; previous = λ h. absurd (true≢false (sym h ∙ none_down 63)) };
      });
    }
  where
    none_down : (n : ℕ) → down (x ∷ l) n ≡ false
    none_down zero = rw o
    none_down (suc n) = rw o

    y : runs (x ∷ l) ≡ 0
    y = rw (none_down 63)

-- a frame that forgets
none_kept : (s : Layer) → s.gathering ≡ false → s.equal ≡ 0 → s.known ≡ false → length s.gathered ≡ 64 → Kept [] s
unfolding down runs ttis accepted_by
none_kept s g e k z =
    record {
      found = rw k;
      place = inl (record {
        gathering = g;
        outside = λ n h. refl;
        got = record { size = z; front = refl; equal = e; previous = λ h. absurd (false≢true h) };
      });
    }

size_of : (l : List Turn) (s : Layer) → Kept l s → length s.gathered ≡ 64
size_of l s k = ⊎_elim (λ (q : Still l s). q.got.size) (λ (q : Amid l s). q.got.size) k.place

kept_step : (s : Layer) (x : Turn) (l : List Turn) → Grows x l → Kept l s
    → Kept (cond x.forget [] (x ∷ l)) (trace_of s x.forget x.inmulti x.number x.tti)
unfolding trace_of
kept_step s x l g k = by x.forget x.inmulti refl
  where
    by : (t u : Bool) → x.inmulti ≡ u → Kept (cond t [] (x ∷ l)) (trace_of s t u x.number x.tti)
    by true u i = none_kept (trace_of s true u x.number x.tti) refl refl refl (size_of l s k)
    by false true i =
        ⊎_elim (λ (q : Still l s). from_still s x l (x.number % 64) refl i g k.found q)
        (λ (q : Amid l s). from_amid s x l (x.number % 64) refl i g k.found q)
        k.place
    by false false i = out_kept (trace_of s false false x.number x.tti) x l i refl refl (size_of l s k) k.found

-- the number grows since the last frame that forgot
grows_since : (x : Turn) (l : List Turn) → Grows x l → Grows x (turns_since l)
unfolding turns_since
grows_since x [] g = tt
grows_since x (a ∷ l) g = by a.forget
  where
    by : (t : Bool) → Grows x (cond t [] (a ∷ turns_since l))
    by true = tt
    by false = g

kept : (l : List Turn) → Steady l → Kept (turns_since l) (trace_after l)
unfolding turns_since trace_after
kept [] h = none_kept fresh_layer refl refl refl (length-replicate {A = ℕ} 64 0)
kept (x ∷ l) h = kept_step (trace_after l) x (turns_since l) (grows_since x l h.0) (kept l h.1)

pub trace_is : (l : List Turn) → TraceIs l
trace_is l h = (kept l h).found

-- an accepted trace has 64 bytes
found_size : (l : List Turn) (t : List ℕ) → accepted_by l ≡ trace t → length t ≡ 64
unfolding accepted_by
found_size [] t e = let z : ◌≡◌ {A = ℕ} 0 1 = cc in absurd (omega arith)
found_size (x ∷ l) t e = by (third (x ∷ l)) refl e (found_size l t)
  where
    by : (b : Bool) → third (x ∷ l) ≡ b → cond b (trace (ttis (x ∷ l) 64)) (accepted_by l) ≡ trace t → (accepted_by l ≡ trace t → length t ≡ 64) → length t ≡ 64
    by true h e f =
        let c : cycle (x ∷ l) ≡ true = and_left (cycle (x ∷ l)) _ h in
        let q : ttis (x ∷ l) 64 ≡ t = cc in
        ap length (sym q) ∙ bytes_size (x ∷ l) 63 c
    by false h e f = f e

-- the defect, by what is found
tim_found : (s : Layer) (mode : ℕ) (names : List ℕ) → (s.known ≡ true → length s.accepted ≡ 64) → length names ≡ 32 → tim_of s mode names ≡ tim_by (trace_in s) mode names
unfolding tim_of tim_by compared_of
tim_found s mode names z h = by s.known refl
  where
    by : (b : Bool) → s.known ≡ b → tim_of s mode names ≡ tim_by (trace_in s) mode names
    by true k =
        let a : length s.accepted ≡ 64 = z k in
        rw (k, same_in_lem 16 0 s.accepted names (omega arith) (omega arith), same_in_lem 16 16 s.accepted names (omega arith) (omega arith))
    by false k = rw k

pub tim_is : (l : List Turn) (mode : ℕ) (names : List ℕ) → TimIs l mode names
tim_is l mode names h n =
    let f : trace_in (trace_after l) ≡ accepted_by (turns_since l) = trace_is l h in
    let z : (trace_after l).known ≡ true → length (trace_after l).accepted ≡ 64 = λ k. found_size (turns_since l) (trace_after l).accepted (sym f ∙ rw k) in
    tim_found (trace_after l) mode names z n ∙ ap (λ (r : AcceptedTrace). tim_by r mode names) f
