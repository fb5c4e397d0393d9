-- A level's other numbers in their bytes. Assumes nothing.
use Prim.Native.Nat.{ℕ}
use mathlib.Core.Path.{◌≡◌, sym, ap, ◌∙◌}
use mathlib.Core.Bool.{Bool, ◌&&◌, ◌||◌, not}
use mathlib.Core.List.{List, [], ◌∷◌, ◌++◌}
use native.Mathlib.Omega.{arith}
use lib.Dec.{leb}
use lib.ListN.{length, take, drop}
use Rattle.codec.proofs.Overs.{length_in}
use Rattle.codec.specs.Over.{bytes_in}
use Rattle.codec.specs.Pieces.{Piece, joined, swapped}
use Rattle.overhead.specs.declared.Bei.{Bei}
use Rattle.overhead.specs.declared.Field.{Field}
use Rattle.overhead.specs.Bei.{bei_of, is_far, is_biae}
use Rattle.second.specs.Second.{counted_of}
use Rattle.filter.specs.declared.Filter.{Filter}
use Rattle.filter.specs.declared.Stat.{Stat}
use Rattle.cycle.proofs.Parts.{parted, parted_sized, parted_joined, lent, back, sized_back}
use Rattle.fields.specs.Fields.{filter_bytes, FilterStep, stat_bytes, stat_laid, flags_laid, counts_in}
use Rattle.fields.proofs.Parts.{sized_so, filter_stepped}
use Rattle.rack.specs.Rack.{Filters, filters_in, level_numbers}

module _ (w0 x1 x2 x3 x4 x5 : List ℕ) (bdi biae : Filter) (t : Stat) (read : Bei) (far mark forget stops tim iae : Bool) (f : Field) (more violations : ℕ) (h : length w0 ≡ 29) where
  abbrev w1 : List ℕ
  w1 = x1 ++ drop 2 w0

  abbrev w2 : List ℕ
  w2 = take 4 w1 ++ (x2 ++ drop 2 (drop 4 w1))

  abbrev w3 : List ℕ
  w3 = take 6 w2 ++ (x3 ++ drop 4 (drop 6 w2))

  abbrev w4 : List ℕ
  w4 = take 10 w3 ++ (x4 ++ drop 4 (drop 10 w3))

  abbrev w5 : List ℕ
  w5 = take 17 w4 ++ (x5 ++ drop 12 (drop 17 w4))

  pub level_numbers_is : read ≡ bei_of f.bei → far ≡ is_far read → mark ≡ is_biae read → more ≡ counted_of read stops
      → FilterStep (take 2 w0) 5 forget f.bdi bdi x1
      → FilterStep (take 2 (drop 4 w1)) 3 (forget || tim) mark biae x2
      → x3 ≡ stat_laid (take 4 (drop 6 w2)) t
      → x4 ≡ flags_laid (stops || tim) bdi.on iae biae.on (take 4 (drop 10 w3))
      → x5 ≡ counts_in (leb 1 violations && not stops) (far && not stops) more (take 12 (drop 17 w4))
      → (◌≡◌ {A = Filters} (record { bdi = bdi; biae = biae }) (filters_in w0 forget tim f)) × (w5 ≡ level_numbers w0 t forget stops tim iae f violations)
  unfolding level_numbers
  level_numbers_is er ef em ev ed eb e3 e4 e5 =
      let gf : far ≡ is_far (bei_of f.bei) = rw er at ef in
      let gm : mark ≡ is_biae (bei_of f.bei) = rw er at em in
      let gv : more ≡ counted_of (bei_of f.bei) stops = rw er at ev in
      let d : Filters = filters_in w0 forget tim f in
      let ws : List ℕ = 2 ∷ 2 ∷ 2 ∷ 4 ∷ 4 ∷ 3 ∷ 12 ∷ [] in
      let ps : List Piece = parted ws 0 w0 in
      let qs : List Piece = swapped 0 x1 ps in
      let rs : List Piece = swapped 2 x2 qs in
      let ss : List Piece = swapped 3 x3 rs in
      let ts : List Piece = swapped 4 x4 ss in
      let i0 : w0 ≡ joined ps = sym (parted_joined ws 0 w0 (sym h)) in
      let z0 = parted_sized ws 0 w0 in
      let a : take 2 w0 ≡ bytes_in 2 0 w0 = lent 0 ps w0 i0 z0 in
      let g1 = filter_stepped (bytes_in 2 0 w0) 5 forget f.bdi bdi x1 (length_in 2 0 w0) (rw a at ed) in
      let fd : bdi ≡ d.bdi = g1.0 in
      let f1 : x1 ≡ filter_bytes d.bdi = g1.1 in
      let i1 : w1 ≡ joined qs = back 0 ps w0 x1 i0 z0 (omega arith) in
      let z1 = sized_back 0 ps x1 z0 (ap length f1) in
      let b : take 2 (drop 4 w1) ≡ bytes_in 2 4 w0 = lent 2 qs w1 i1 z1 in
      let g2 = filter_stepped (bytes_in 2 4 w0) 3 (forget || tim) (is_biae (bei_of f.bei)) biae x2 (length_in 2 4 w0) (rw (b, gm) at eb) in
      let fb : biae ≡ d.biae = g2.0 in
      let f2 : x2 ≡ filter_bytes d.biae = g2.1 in
      let i2 : w2 ≡ joined rs = back 2 qs w1 x2 i1 z1 (omega arith) in
      let z2 = sized_back 2 qs x2 z1 (ap length f2) in
      let s : take 4 (drop 6 w2) ≡ bytes_in 4 6 w0 = lent 3 rs w2 i2 z2 in
      let f3 : x3 ≡ stat_bytes t = rw s at e3 ∙ sized_so 4 (bytes_in 4 6 w0) _ _ (length_in 4 6 w0) in
      let i3 : w3 ≡ joined ss = back 3 rs w2 x3 i2 z2 (omega arith) in
      let z3 = sized_back 3 rs x3 z2 (ap length f3) in
      let c : take 4 (drop 10 w3) ≡ bytes_in 4 10 w0 = lent 4 ss w3 i3 z3 in
      let f4 = rw (c, fd, fb) at e4 ∙ sized_so 4 (bytes_in 4 10 w0) _ _ (length_in 4 10 w0) in
      let i4 : w4 ≡ joined ts = back 4 ss w3 x4 i3 z3 (omega arith) in
      let z4 = sized_back 4 ss x4 z3 (ap length f4) in
      let e : take 12 (drop 17 w4) ≡ bytes_in 12 17 w0 = lent 6 ts w4 i4 z4 in
      let f5 = rw (e, gf, gv) at e5 in
      let i5 : w5 ≡ joined (swapped 6 x5 ts) = back 6 ts w4 x5 i4 z4 (omega arith) in
      (rw (fd, fb), i5 ∙ rw (f1, f2, f3, f4, f5))
