-- A level's record after its STAT, its trace and its other numbers. Assumes nothing.
use Prim.Native.Nat.{ℕ}
use mathlib.Core.Path.{◌≡◌, ◌∙◌}
use mathlib.Core.Bool.{Bool, ◌&&◌, ◌||◌, not}
use mathlib.Core.List.{List, ◌++◌}
use native.Mathlib.Omega.{arith}
use lib.Dec.{eqb}
use lib.ListN.{length, get_or, take, drop}
use Rattle.codec.specs.Over.{bytes_in}
use Rattle.codec.specs.Pieces.{joined}
use Rattle.alignment.specs.declared.Multi.{Multi}
use Rattle.layer.specs.declared.Layer.{Layer}
use Rattle.overhead.specs.declared.Field.{Field}
use Rattle.filter.specs.declared.Stat.{Stat}
use Rattle.filter.specs.Stat.{stat_of}
use Rattle.level.specs.declared.Status.{Status}
use Rattle.level.specs.declared.Raises.{Raises}
use Rattle.level.specs.declared.LevelStands.{LevelStands}
use Rattle.level.specs.Status.{status_for, raises_of}
use Rattle.cycle.specs.Cycle.{cycle_in, cycle_of, traces_of, record_parts, layer_step, tim_after}
use Rattle.cycle.proofs.Cycles.{cycle_long}
use Rattle.place.proofs.Records.{numbers_is}
use Rattle.fields.specs.Fields.{stat_at}
use Rattle.fields.proofs.Parts.{stat_in as stat_read}
use Rattle.rack.specs.Rack.{Filters, stat_in, forgets, filters_in, level_numbers, level_stood, level_record}

module _ (b0 b1 x : List ℕ) (d : Filters) (t : Stat) (s : Status) (q : Raises) (tim ssf : Bool) (r : Stat) (m : Multi) (f : Field) (violations : ℕ) (h : length b0 ≡ 288) where
  abbrev stops : Bool
  stops = ssf || q.ais || q.ltc || q.oci || q.lck

  abbrev stood : LevelStands
  stood = record {
    ssf = ssf;
    status = s;
    tim = tim;
    disabled = eqb (get_or b0 6 0) 1;
    bdi = d.bdi.on;
    iae = q.iae && not tim;
    biae = d.biae.on;
    deg = eqb (get_or b0 7 0) 1;
  }

  pub level_is : r ≡ stat_at (bytes_in 4 41 b0) 0 → t ≡ stat_of r ssf f.stat
      → s ≡ status_for t → q ≡ raises_of s → tim ≡ tim_after b0 (ssf || q.ais) m f.tti
      → b1 ≡ joined (record_parts b0 (cycle_of (layer_step b0 (ssf || q.ais) m f.tti)) (bytes_in 29 35 b0) (traces_of (layer_step b0 (ssf || q.ais) m f.tti)))
      → d ≡ filters_in (take 29 (drop 35 b1)) (ssf || q.ais) tim f
      → x ≡ level_numbers (take 29 (drop 35 b1)) t (ssf || q.ais) stops tim (q.iae && not tim) f violations
      → (stood ≡ level_stood b0 ssf m f) × (take 35 b1 ++ (x ++ drop 29 (drop 35 b1)) ≡ level_record b0 ssf m f violations)
  unfolding level_record
  level_is er es eg eq et e ed ex =
      let g : t ≡ stat_in b0 ssf f = rw (er ∙ stat_read b0 41 (omega (arith, h))) at es in
      let gs : s ≡ status_for (stat_in b0 ssf f) = rw g at eg in
      let gq : q ≡ raises_of (status_for (stat_in b0 ssf f)) = rw gs at eq in
      let forget : Bool = forgets ssf (stat_in b0 ssf f) in
      let l : Layer = layer_step b0 forget m f.tti in
      let gt : tim ≡ tim_after b0 forget m f.tti = rw gq at et in
      let ge : b1 ≡ joined (record_parts b0 (cycle_of l) (bytes_in 29 35 b0) (traces_of l)) = rw gq at e in
      let n = numbers_is b0 b1 x (cycle_of l) (traces_of l) h (cycle_long (bytes_in 192 64 b0) (cycle_in (bytes_in 3 32 b0)) forget m f.tti) ge in
      let gd = rw (n.0, gq, gt) at ed in
      let gx = rw (n.0, gq, gt, g) at ex in
      (rw (gd, gs, gq, gt), n.1 ∙ rw gx)
