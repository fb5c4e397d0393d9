-- Traces and names compared (document 01, "Accepted values and defects"), and what is read for it (document 02, K2). Assumes nothing.
use Rattle.std.specs.Prelude.{ℕ, zero, suc, ◌+◌, ◌*◌, ◌<◌, Bool, true, false, ◌&&◌, not, List, [], ◌∷◌, ◌≡◌, eqb, get_or, set}
use Rattle.answer.specs.Bits.{flag}
use Rattle.names.specs.declared.Compared.{Compared}

-- whether the byte at a place is the same in both
abbrev pub same_at : ℕ → List ℕ → List ℕ → Bool
same_at i a b = eqb (get_or a i 0) (get_or b i 0)

-- whether n bytes, from a place on, are the same in both
unfoldable pub same_in : ℕ → ℕ → List ℕ → List ℕ → Bool
same_in zero from a b = true
same_in (suc n) from a b = same_in n from a b && same_at (from + n) a b

-- two cycles, in all 64 bytes
unfoldable pub same_trace : List ℕ → List ℕ → Bool
same_trace a b = same_in 64 0 a b

-- of n bytes, from a place on, how many are alike in both, and how many are not
unfoldable pub alike_in : ℕ → ℕ → List ℕ → List ℕ → ℕ
alike_in zero from a b = 0
alike_in (suc n) from a b = alike_in n from a b + flag (same_at (from + n) a b)

unfoldable pub unlike_in : ℕ → ℕ → List ℕ → List ℕ → ℕ
unlike_in zero from a b = 0
unlike_in (suc n) from a b = unlike_in n from a b + flag (not (same_at (from + n) a b))

-- "SAPI is bytes 0 to 15, DAPI 16 to 31"; the expected names are "SAPI then DAPI"
unfoldable pub compared_of : List ℕ → List ℕ → Compared
compared_of accepted names = record {
  sapi = same_in 16 0 accepted names;
  dapi = same_in 16 16 accepted names;
  alike = alike_in 32 0 accepted names;
  unlike = unlike_in 32 0 accepted names;
}

-- how many bytes a comparison has read: for each pair that was found alike or unlike, one of the trace and one of the names
abbrev pub reads_of : Compared → ℕ
reads_of c = 2 * (c.alike + c.unlike)

-- "Read all compared bytes each time, in one order, with no early leaving. Answers stay as they are." (document 02, K2)
pub record Compares (accepted names : List ℕ) (r : Compared) : Type 0 where
  pub answers : r ≡ compared_of accepted names
  pub reads : reads_of r ≡ 64

-- A count shows that bytes were read only where it can't be had without them. Whatever stands in the trace and in the names, a byte of either
-- that is found alike where it was unlike, or the other way, gives another answer: so no answer can be given with one of the 64 unread.
pub record Read (accepted names : List ℕ) (i : ℕ) : Type 0 where
  pub trace : (x : ℕ) → same_at i (set accepted i x) names ≡ not (same_at i accepted names)
      → (r s : Compared) → Compares accepted names r → Compares (set accepted i x) names s → r ≡ s → ⊥
  pub name : (x : ℕ) → same_at i accepted (set names i x) ≡ not (same_at i accepted names)
      → (r s : Compared) → Compares accepted names r → Compares accepted (set names i x) s → r ≡ s → ⊥

abbrev pub EachRead : Type 0
EachRead = (accepted names : List ℕ) (i : ℕ) → i < 32 → Read accepted names i

-- two lists are the same
unfoldable pub same : List ℕ → List ℕ → Bool
same [] [] = true
same [] (b ∷ m) = false
same (a ∷ l) [] = false
same (a ∷ l) (b ∷ m) = eqb a b && same l m
