-- Laws of the decimal digits, of the lines and of what is put. Assumes nothing.
use Rattle.std.proofs.Common.{ℕ, zero, suc, ◌≡◌, ◌+◌, ◌-◌, ◌*◌, ◌^◌, ◌≤◌, ◌<◌, List, [], ◌∷◌, ◌++◌, length, take, rules, arith, sym, ap, ◌∙◌, ltb, ◌/◌}
use Rattle.std.specs.Prelude.{decimal}
use Rattle.std.proofs.Math.ListN.{length-append, get_or}
use Rattle.std.proofs.lemmas.List.{append_assoc, append-nil}
use Rattle.std.proofs.lemmas.Fmt.{length-decimal-le, decimal_from_appends, AppendsLastDigit}
use borrow.Author.Tests.{le-leb}
use Rattle.answer.proofs.Cond.{by_cond}
use Rattle.listing.specs.Text.{decimal_in, decimal_of, spaced, fields_of, text_line, fitted}

appends : AppendsLastDigit decimal_in
unfolding decimal_in
appends = search rules

-- the digits are those of the library
pub decimal_is : (n : ℕ) → n < 2 ^ 64 → decimal n ≡ decimal_of n
decimal_is n h =
    let room : length (decimal n) ≤ 20 = search (rules, length-decimal-le 20) in
    sym (decimal_from_appends decimal_in appends 20 n h room)

-- a text is all of what is put where there is room
pub fitted_is : (long at room : ℕ) (v : List ℕ) → at + room ≤ long → fitted long at room v ≡ v
unfolding fitted
fitted_is long at room v h =
    let l : room ≤ long - at = omega arith in
    rw (le-leb room (long - at) l)

-- no number takes more than 21 bytes, and so no line more than its room
pub decimal_length : (f n : ℕ) → length (decimal_in f n) ≤ f
unfolding decimal_in
decimal_length zero n = omega arith
decimal_length (suc f) n =
    by_cond (λ (l : List ℕ). length l ≤ suc f) (ltb n 10) (λ _. omega arith) (λ _. rw length-append (omega (arith, decimal_length f (n / 10))))

pub fields_length : (ns : List ℕ) → length (fields_of ns) ≤ 21 * length ns
unfolding fields_of spaced
fields_length [] = omega arith
fields_length (n ∷ ns) = rw length-append (omega (arith, decimal_length 20 n, fields_length ns))

pub line_length : (letter : ℕ) (ns : List ℕ) → length (text_line letter ns) ≤ 2 + 21 * length ns
unfolding text_line
line_length letter ns = rw length-append (omega (arith, fields_length ns))

fields_suc : (ns : List ℕ) (i : ℕ) → i < length ns → fields_of (take (suc i) ns) ≡ fields_of (take i ns) ++ spaced (get_or ns i 0)
unfolding fields_of
fields_suc [] i h = absurd (omega arith)
fields_suc (n ∷ ns) zero h = rw append-nil
fields_suc (n ∷ ns) (suc i) h = ap (λ (l : List ℕ). spaced n ++ l) (fields_suc ns i (omega arith)) ∙ sym (append_assoc (spaced n) (fields_of (take i ns)) (spaced (get_or ns i 0)))

-- one number more behind what stands
pub fields_more : (bs : List ℕ) (ns : List ℕ) (i : ℕ) → i < length ns → (bs ++ fields_of (take i ns)) ++ spaced (get_or ns i 0) ≡ bs ++ fields_of (take (i + 1) ns)
fields_more bs ns i h =
    let e : i + 1 ≡ suc i = omega arith in
    append_assoc bs (fields_of (take i ns)) (spaced (get_or ns i 0)) ∙ ap (λ (l : List ℕ). bs ++ l) (rw e (sym (fields_suc ns i h)))
