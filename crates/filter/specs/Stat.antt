-- A value in three frames in a row is accepted (8.8; document 01 "Path STAT"). Assumes nothing.
use Rattle.std.specs.Prelude.{ℕ, Bool, false, cond, ◌||◌, eqb}
use Rattle.filter.specs.declared.Stat.{Stat}
use Rattle.filter.specs.Filter.{up_of}

-- fresh, and forgotten: no value accepted
abbrev pub no_stat : Stat
no_stat = record { value = 0; run = 0; known = false; accepted = 0 }

-- how often in a row the value stands, this frame included, and 3 at most
unfoldable pub in_row : Stat → ℕ → ℕ
in_row s v = cond (eqb v s.value) (up_of s.run 3) 1

-- "a value in three frames in a row is accepted"; "it and its run are forgotten only during that layer's SSF"
unfoldable pub stat_of : Stat → Bool → ℕ → Stat
stat_of s forget v =
    cond forget no_stat
    (record {
      value = v;
      run = in_row s v;
      known = eqb (in_row s v) 3 || s.known;
      accepted = cond (eqb (in_row s v) 3) v s.accepted;
    })
