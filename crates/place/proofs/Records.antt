-- A layer's record after its trace and its other numbers. Assumes nothing.
use Prim.Native.Nat.{ℕ}
use mathlib.Core.Path.{◌≡◌, refl, ◌∙◌}
use mathlib.Core.Bool.{Bool, ◌||◌}
use mathlib.Core.List.{List, ◌++◌}
use native.Mathlib.Omega.{arith}
use lib.Dec.{eqb}
use lib.ListN.{length, get_or, take, drop}
use Rattle.codec.proofs.Overs.{length_in}
use Rattle.codec.specs.Over.{bytes_in}
use Rattle.codec.specs.Pieces.{Piece, joined, Sized}
use Rattle.alignment.specs.declared.Multi.{Multi}
use Rattle.layer.specs.declared.Layer.{Layer}
use Rattle.overhead.specs.declared.Field.{Field}
use Rattle.filter.specs.declared.Filter.{Filter}
use Rattle.filter.specs.declared.Stat.{Stat}
use Rattle.filter.specs.Stat.{stat_of}
use Rattle.signal.specs.declared.Signal.{Signal}
use Rattle.signal.specs.declared.Raised.{Raised}
use Rattle.signal.specs.Signal.{stands_for, raised_of}
use Rattle.causes.specs.declared.SectionStands.{SectionStands}
use Rattle.fields.specs.Fields.{stat_at}
use Rattle.fields.proofs.Parts.{stat_in}
use Rattle.place.specs.declared.PathFrame.{PathFrame}
use Rattle.place.specs.declared.Filtered.{Filtered}
use Rattle.layer.specs.declared.Cycle.{Cycle}
use Rattle.cycle.specs.Cycle.{cycle_in, cycle_of, traces_of, record_parts, layer_step, tim_after}
use Rattle.place.specs.Place.{section_filters, section_numbers, section_stood, section_record, path_stat, path_forgets, path_bdi_at, path_numbers, path_frame, path_stood, path_record}
use Rattle.cycle.proofs.Parts.{lent, back}
use Rattle.cycle.proofs.Cycles.{cycle_long}

-- the other numbers of a record whose trace has been stepped
module _ (b0 b1 v : List ℕ) (c : Cycle) (t : List ℕ) (h : length b0 ≡ 288) (n : length t ≡ 192) where
  pub numbers_is : b1 ≡ joined (record_parts b0 c (bytes_in 29 35 b0) t)
      → (take 29 (drop 35 b1) ≡ bytes_in 29 35 b0) × (take 35 b1 ++ (v ++ drop 29 (drop 35 b1)) ≡ joined (record_parts b0 c v t))
  numbers_is e =
      let ps : List Piece = record_parts b0 c (bytes_in 29 35 b0) t in
      let z : Sized ps = (length_in 32 0 b0, (refl, (length_in 29 35 b0, (n, (length_in 32 256 b0, tt))))) in
      (lent 2 ps b1 e z, back 2 ps b1 v e z (omega arith))

-- the section's record
module _ (b0 b1 x : List ℕ) (d : Filtered) (tim ssf : Bool) (m : Multi) (f : Field) (sm : ℕ) (h : length b0 ≡ 288) where
  pub section_is : tim ≡ tim_after b0 ssf m f.tti
      → b1 ≡ joined (record_parts b0 (cycle_of (layer_step b0 ssf m f.tti)) (bytes_in 29 35 b0) (traces_of (layer_step b0 ssf m f.tti)))
      → d ≡ section_filters (bytes_in 6 0 (take 29 (drop 35 b1))) ssf tim f → x ≡ section_numbers (take 29 (drop 35 b1)) ssf tim f sm
      → (◌≡◌ {A = SectionStands} (record { tim = tim; disabled = eqb (get_or b0 6 0) 1; bdi = d.bdi.on; iae = d.iae.on; biae = d.biae.on; deg = eqb (get_or b0 7 0) 1 }) (section_stood b0 ssf m f))
      × (take 35 b1 ++ (x ++ drop 29 (drop 35 b1)) ≡ section_record b0 ssf m f sm)
  unfolding section_record
  section_is et e ed ex =
      let l : Layer = layer_step b0 ssf m f.tti in
      let n = numbers_is b0 b1 x (cycle_of l) (traces_of l) h (cycle_long (bytes_in 192 64 b0) (cycle_in (bytes_in 3 32 b0)) ssf m f.tti) e in
      let gd = rw (n.0, et) at ed in
      let gx = rw (n.0, et) at ex in
      (rw (gd, et), n.1 ∙ rw gx)

-- the path's record
module _ (b0 b1 x : List ℕ) (bdi : Filter) (t : Stat) (s : Signal) (q : Raised) (tim ssf : Bool) (r : Stat) (m : Multi) (f : Field) (pm : ℕ) (h : length b0 ≡ 288) where
  pub path_is : r ≡ stat_at (bytes_in 4 41 b0) 0 → t ≡ stat_of r ssf f.stat
      → s ≡ stands_for t → q ≡ raised_of (stands_for t) → tim ≡ tim_after b0 (ssf || q.ais) m f.tti
      → b1 ≡ joined (record_parts b0 (cycle_of (layer_step b0 (ssf || q.ais) m f.tti)) (bytes_in 29 35 b0) (traces_of (layer_step b0 (ssf || q.ais) m f.tti)))
      → bdi ≡ path_bdi_at (bytes_in 2 0 (take 29 (drop 35 b1))) (ssf || q.ais) f
      → x ≡ path_numbers (take 29 (drop 35 b1)) t (ssf || q.ais) (ssf || q.ais || q.oci || q.lck) tim f pm
      → (◌≡◌ {A = PathFrame} (record { stands = record { signal = s; tim = tim; disabled = eqb (get_or b0 6 0) 1; bdi = bdi.on; deg = eqb (get_or b0 7 0) 1 }; raised = q }) (path_frame (path_stood b0 ssf m f)))
      × (take 35 b1 ++ (x ++ drop 29 (drop 35 b1)) ≡ path_record b0 ssf m f pm)
  unfolding path_record
  path_is er es eg eq et e ed ex =
      let g : t ≡ path_stat b0 ssf f = rw (er ∙ stat_in b0 41 (omega (arith, h))) at es in
      let gs : s ≡ stands_for (path_stat b0 ssf f) = rw g at eg in
      let gq : q ≡ raised_of (stands_for (path_stat b0 ssf f)) = rw g at eq in
      let forget : Bool = path_forgets ssf (path_stat b0 ssf f) in
      let l : Layer = layer_step b0 forget m f.tti in
      let gt : tim ≡ tim_after b0 forget m f.tti = rw gq at et in
      let ge : b1 ≡ joined (record_parts b0 (cycle_of l) (bytes_in 29 35 b0) (traces_of l)) = rw gq at e in
      let n = numbers_is b0 b1 x (cycle_of l) (traces_of l) h (cycle_long (bytes_in 192 64 b0) (cycle_in (bytes_in 3 32 b0)) forget m f.tti) ge in
      let gd = rw (n.0, gq) at ed in
      let gx = rw (n.0, gq, gt, g) at ex in
      (rw (gd, gs, gt, gq), n.1 ∙ rw gx)
