-- Counters that stop at their bound, and the filter of n and n: dBDI and dIAE are filters of 5, dBIAE of 3, dDEG of DEGM.
-- Assumes nothing.
use Rattle.std.specs.Prelude.{ℕ, ◌+◌, Bool, false, cond, ltb, leb, eqb}
use Rattle.std.specs.Bool.{beq}
use Rattle.filter.specs.declared.Filter.{Filter}

-- one more, and n at most
unfoldable pub up_of : ℕ → ℕ → ℕ
up_of run n = cond (ltb run n) (run + 1) n

-- so many more, and most at most
unfoldable pub add_of : ℕ → ℕ → ℕ → ℕ
add_of run more most = cond (leb (run + more) most) (run + more) most

-- fresh, and forgotten
abbrev pub quiet : Filter
quiet = record { on = false; run = 0 }

-- (6.2.6.6.1, 6.2.6.10.1, 6.2.6.11.1) "BDI 1 in five frames in a row; cleared by five 0": a bit like the state ends the run; the n-th in a row that is not is taken over.
-- "Where a defect is 'false during' X, its run .. [is] forgotten too in each such frame."
unfoldable pub filter_of : Filter → ℕ → Bool → Bool → Filter
filter_of f n forget bit =
    cond forget quiet
    (cond (beq bit f.on)
    (record { on = f.on; run = 0 })
    (cond (eqb (up_of f.run n) n) (record { on = bit; run = 0 }) (record { on = f.on; run = up_of f.run n })))
