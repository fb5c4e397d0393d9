-- A layer's other numbers in their bytes: the filters, and the flags, counts and sum of the second. Assumes nothing.
use Prim.Native.Nat.{ℕ}
use mathlib.Core.Path.{◌≡◌, sym, ap, ◌∙◌}
use mathlib.Core.Bool.{Bool, false, ◌&&◌, ◌||◌, not}
use mathlib.Core.List.{List, [], ◌∷◌, ◌++◌}
use native.Mathlib.Omega.{arith}
use lib.Dec.{leb}
use lib.ListN.{length, take, drop}
use Rattle.codec.proofs.Overs.{length_in}
use Rattle.codec.specs.Over.{bytes_in}
use Rattle.codec.specs.Pieces.{Piece, joined, swapped}
use Rattle.overhead.specs.declared.Bei.{Bei}
use Rattle.overhead.specs.declared.Field.{Field}
use Rattle.overhead.specs.Bei.{bei_of, path_bei, is_far, is_biae}
use Rattle.second.specs.Second.{counted_of}
use Rattle.filter.specs.declared.Filter.{Filter}
use Rattle.filter.specs.declared.Stat.{Stat}
use Rattle.place.specs.declared.Filtered.{Filtered}
use Rattle.fields.specs.Fields.{filter_bytes, FilterStep, stat_bytes, stat_laid, flags_laid, counts_in}
use Rattle.fields.proofs.Parts.{sized_so, filter_stepped, filter_in}
use Rattle.place.specs.Place.{section_filters, filtered_bytes, section_numbers, path_bdi_at, path_numbers}
use Rattle.cycle.proofs.Parts.{parted, parted_sized, parted_joined, lent, back, sized_back}

-- the three filters of a section, each in its two bytes
module _ (w0 x1 x2 x3 : List ℕ) (f1 f2 f3 : Filter) (read : Bei) (mark ssf tim : Bool) (f : Field) (h : length w0 ≡ 6) where
  abbrev w1 : List ℕ
  w1 = x1 ++ drop 2 w0

  abbrev w2 : List ℕ
  w2 = take 2 w1 ++ (x2 ++ drop 2 (drop 2 w1))

  abbrev w3 : List ℕ
  w3 = take 4 w2 ++ (x3 ++ drop 2 (drop 4 w2))

  pub filters_is : read ≡ bei_of f.bei → mark ≡ is_biae read
      → FilterStep (take 2 w0) 5 ssf f.bdi f1 x1 → FilterStep (take 2 (drop 2 w1)) 5 (ssf || tim) f.iae f2 x2
      → FilterStep (take 2 (drop 4 w2)) 3 (ssf || tim) mark f3 x3
      → (◌≡◌ {A = Filtered} (record { bdi = f1; iae = f2; biae = f3 }) (section_filters w0 ssf tim f)) × (w3 ≡ filtered_bytes (section_filters w0 ssf tim f))
  filters_is er em e1 e2 e3 =
      let g : mark ≡ is_biae (bei_of f.bei) = rw er at em in
      let ps : List Piece = parted (2 ∷ 2 ∷ 2 ∷ []) 0 w0 in
      let qs : List Piece = swapped 0 x1 ps in
      let rs : List Piece = swapped 1 x2 qs in
      let i0 : w0 ≡ joined ps = sym (parted_joined (2 ∷ 2 ∷ 2 ∷ []) 0 w0 (sym h)) in
      let z0 = parted_sized (2 ∷ 2 ∷ 2 ∷ []) 0 w0 in
      let a : take 2 w0 ≡ bytes_in 2 0 w0 = lent 0 ps w0 i0 z0 in
      let g1 = filter_stepped (bytes_in 2 0 w0) 5 ssf f.bdi f1 x1 (length_in 2 0 w0) (rw a at e1) in
      let i1 : w1 ≡ joined qs = back 0 ps w0 x1 i0 z0 (omega arith) in
      let z1 = sized_back 0 ps x1 z0 (ap length g1.1) in
      let b : take 2 (drop 2 w1) ≡ bytes_in 2 2 w0 = lent 1 qs w1 i1 z1 in
      let g2 = filter_stepped (bytes_in 2 2 w0) 5 (ssf || tim) f.iae f2 x2 (length_in 2 2 w0) (rw b at e2) in
      let i2 : w2 ≡ joined rs = back 1 qs w1 x2 i1 z1 (omega arith) in
      let z2 = sized_back 1 qs x2 z1 (ap length g2.1) in
      let c : take 2 (drop 4 w2) ≡ bytes_in 2 4 w0 = lent 2 rs w2 i2 z2 in
      let g3 = filter_stepped (bytes_in 2 4 w0) 3 (ssf || tim) (is_biae (bei_of f.bei)) f3 x3 (length_in 2 4 w0) (rw (c, g) at e3) in
      let i3 : w3 ≡ joined (swapped 2 x3 rs) = back 2 rs w2 x3 i2 z2 (omega arith) in
      let p = filter_in w0 0 (omega arith) in
      let q = filter_in w0 2 (omega arith) in
      let r = filter_in w0 4 (omega arith) in
      let d1 = rw p at g1.0 in
      let d2 = rw q at g2.0 in
      let d3 = rw r at g3.0 in
      let y1 = rw p at g1.1 in
      let y2 = rw q at g2.1 in
      let y3 = rw r at g3.1 in
      (rw (d1, d2, d3), i3 ∙ rw (y1, y2, y3))

-- all of a section's other numbers
module _ (w0 x1 x2 x3 : List ℕ) (d : Filtered) (read : Bei) (far ssf tim : Bool) (f : Field) (more sm : ℕ) (h : length w0 ≡ 29) where
  abbrev v1 : List ℕ
  v1 = x1 ++ drop 6 w0

  abbrev v2 : List ℕ
  v2 = take 10 v1 ++ (x2 ++ drop 4 (drop 10 v1))

  abbrev v3 : List ℕ
  v3 = take 17 v2 ++ (x3 ++ drop 12 (drop 17 v2))

  pub section_numbers_is : read ≡ bei_of f.bei → far ≡ is_far read → more ≡ counted_of read ssf
      → d ≡ section_filters (take 6 w0) ssf tim f → x1 ≡ filtered_bytes (section_filters (take 6 w0) ssf tim f)
      → x2 ≡ flags_laid (ssf || tim) d.bdi.on d.iae.on d.biae.on (take 4 (drop 10 v1))
      → x3 ≡ counts_in (leb 1 sm && not ssf) (far && not ssf) more (take 12 (drop 17 v2))
      → (d ≡ section_filters (bytes_in 6 0 w0) ssf tim f) × (v3 ≡ section_numbers w0 ssf tim f sm)
  unfolding section_numbers
  section_numbers_is er ef em ed e1 e2 e3 =
      let gf : far ≡ is_far (bei_of f.bei) = rw er at ef in
      let gm : more ≡ counted_of (bei_of f.bei) ssf = rw er at em in
      let ws : List ℕ = 6 ∷ 4 ∷ 4 ∷ 3 ∷ 12 ∷ [] in
      let ps : List Piece = parted ws 0 w0 in
      let qs : List Piece = swapped 0 x1 ps in
      let rs : List Piece = swapped 2 x2 qs in
      let i0 : w0 ≡ joined ps = sym (parted_joined ws 0 w0 (sym h)) in
      let z0 = parted_sized ws 0 w0 in
      let a : take 6 w0 ≡ bytes_in 6 0 w0 = lent 0 ps w0 i0 z0 in
      let fd : d ≡ section_filters (bytes_in 6 0 w0) ssf tim f = rw a at ed in
      let f1 : x1 ≡ filtered_bytes (section_filters (bytes_in 6 0 w0) ssf tim f) = rw a at e1 in
      let i1 : v1 ≡ joined qs = back 0 ps w0 x1 i0 z0 (omega arith) in
      let z1 = sized_back 0 ps x1 z0 (ap length f1) in
      let b : take 4 (drop 10 v1) ≡ bytes_in 4 10 w0 = lent 2 qs v1 i1 z1 in
      let f2 = rw (b, fd) at e2 ∙ sized_so 4 (bytes_in 4 10 w0) _ _ (length_in 4 10 w0) in
      let i2 : v2 ≡ joined rs = back 2 qs v1 x2 i1 z1 (omega arith) in
      let z2 = sized_back 2 qs x2 z1 (ap length f2) in
      let c : take 12 (drop 17 v2) ≡ bytes_in 12 17 w0 = lent 4 rs v2 i2 z2 in
      let f3 = rw (c, gf, gm) at e3 in
      let i3 : v3 ≡ joined (swapped 4 x3 rs) = back 4 rs v2 x3 i2 z2 (omega arith) in
      (fd, i3 ∙ rw (f1, f2, f3))

-- and of a path's
module _ (w0 x1 x2 x3 x4 : List ℕ) (bdi : Filter) (t : Stat) (read : Bei) (far forget stops tim : Bool) (f : Field) (more pm : ℕ) (h : length w0 ≡ 29) where
  abbrev u1 : List ℕ
  u1 = x1 ++ drop 2 w0

  abbrev u2 : List ℕ
  u2 = take 6 u1 ++ (x2 ++ drop 4 (drop 6 u1))

  abbrev u3 : List ℕ
  u3 = take 10 u2 ++ (x3 ++ drop 4 (drop 10 u2))

  abbrev u4 : List ℕ
  u4 = take 17 u3 ++ (x4 ++ drop 12 (drop 17 u3))

  pub path_numbers_is : read ≡ path_bei f.bei → far ≡ is_far read → more ≡ counted_of read stops
      → FilterStep (take 2 w0) 5 forget f.bdi bdi x1 → x2 ≡ stat_laid (take 4 (drop 6 u1)) t
      → x3 ≡ flags_laid (stops || tim) bdi.on false false (take 4 (drop 10 u2))
      → x4 ≡ counts_in (leb 1 pm && not stops) (far && not stops) more (take 12 (drop 17 u3))
      → (bdi ≡ path_bdi_at (bytes_in 2 0 w0) forget f) × (u4 ≡ path_numbers w0 t forget stops tim f pm)
  unfolding path_numbers
  path_numbers_is er ef em ed e2 e3 e4 =
      let gf : far ≡ is_far (path_bei f.bei) = rw er at ef in
      let gm : more ≡ counted_of (path_bei f.bei) stops = rw er at em in
      let ws : List ℕ = 2 ∷ 4 ∷ 4 ∷ 4 ∷ 3 ∷ 12 ∷ [] in
      let ps : List Piece = parted ws 0 w0 in
      let qs : List Piece = swapped 0 x1 ps in
      let rs : List Piece = swapped 2 x2 qs in
      let ss : List Piece = swapped 3 x3 rs in
      let i0 : w0 ≡ joined ps = sym (parted_joined ws 0 w0 (sym h)) in
      let z0 = parted_sized ws 0 w0 in
      let a : take 2 w0 ≡ bytes_in 2 0 w0 = lent 0 ps w0 i0 z0 in
      let g1 = filter_stepped (bytes_in 2 0 w0) 5 forget f.bdi bdi x1 (length_in 2 0 w0) (rw a at ed) in
      let fd : bdi ≡ path_bdi_at (bytes_in 2 0 w0) forget f = g1.0 in
      let f1 : x1 ≡ filter_bytes (path_bdi_at (bytes_in 2 0 w0) forget f) = g1.1 in
      let i1 : u1 ≡ joined qs = back 0 ps w0 x1 i0 z0 (omega arith) in
      let z1 = sized_back 0 ps x1 z0 (ap length f1) in
      let s : take 4 (drop 6 u1) ≡ bytes_in 4 6 w0 = lent 2 qs u1 i1 z1 in
      let f2 : x2 ≡ stat_bytes t = rw s at e2 ∙ sized_so 4 (bytes_in 4 6 w0) _ _ (length_in 4 6 w0) in
      let i2 : u2 ≡ joined rs = back 2 qs u1 x2 i1 z1 (omega arith) in
      let z2 = sized_back 2 qs x2 z1 (ap length f2) in
      let b : take 4 (drop 10 u2) ≡ bytes_in 4 10 w0 = lent 3 rs u2 i2 z2 in
      let f3 = rw (b, fd) at e3 ∙ sized_so 4 (bytes_in 4 10 w0) _ _ (length_in 4 10 w0) in
      let i3 : u3 ≡ joined ss = back 3 rs u2 x3 i2 z2 (omega arith) in
      let z3 = sized_back 3 rs x3 z2 (ap length f3) in
      let c : take 12 (drop 17 u3) ≡ bytes_in 12 17 w0 = lent 5 ss u3 i3 z3 in
      let f4 = rw (c, gf, gm) at e4 in
      let i4 : u4 ≡ joined (swapped 5 x4 ss) = back 5 ss u3 x4 i3 z3 (omega arith) in
      (fd, i4 ∙ rw (f1, f2, f3, f4))
