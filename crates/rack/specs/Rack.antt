-- One tandem level in its record of 288 bytes: what the record holds of a level, a frame in it part by part, and the ranges of its numbers. What a
-- frame does not change is as it stood. Assumes nothing.
use Rattle.std.specs.Prelude.{◌≡◌, Bool, false, ◌&&◌, ◌||◌, not, List, [], ◌∷◌, ℕ, eqb, leb, length, get_or}
use Rattle.codec.specs.Over.{bytes_in}
use Rattle.codec.specs.Pieces.{piece, joined}
use Rattle.overhead.specs.Bei.{bei_of, is_far, is_biae}
use Rattle.overhead.specs.declared.Field.{Field}
use Rattle.filter.specs.Filter.{quiet, filter_of}
use Rattle.filter.specs.Stat.{stat_of}
use Rattle.filter.specs.declared.Filter.{Filter}
use Rattle.filter.specs.declared.Stat.{Stat}
use Rattle.alignment.specs.declared.Multi.{Multi}
use Rattle.settings.specs.declared.Options.{Options}
use Rattle.layer.specs.declared.Layer.{Layer}
use Rattle.second.specs.Second.{counted_of}
use Rattle.level.specs.declared.Status.TheVariants.{Clear}
use Rattle.level.specs.declared.LevelState.{LevelState}
use Rattle.level.specs.declared.LevelStands.{LevelStands}
use Rattle.level.specs.declared.LevelSecond.{LevelSecond}
use Rattle.level.specs.Status.{status_for, raises_ltc, raises_iae, raises_lck, raises_oci, raises_ais}
use Rattle.numbers.specs.Numbers.{on}
use Rattle.numbers.specs.Held.{Held, layer_from, held_of}
use Rattle.cycle.specs.Cycle.{cycle_of, traces_of, record_parts, layer_step, tim_after, whole}
use Rattle.ranges.specs.Sound.{layer_greatest, layer_ranged}
use Rattle.fields.specs.Fields.{filter_at, filter_bytes, stat_at, stat_bytes, flags_in, counts_in}

-- The record of a level: dIAE is of its STAT, so the filter of a section's dIAE has none.

abbrev pub level_held : Options → LevelState → LevelSecond → Held
level_held p s c = held_of p s.layer quiet s.biae s.stat c.blocks c.iae c.biae

-- And what a record holds of a level; its provisioning is options_from.

abbrev pub level_from : Held → LevelState
level_from h = record { layer = layer_from h; stat = h.state.stat; biae = h.state.biae }

abbrev pub level_second_from : Held → LevelSecond
level_second_from h = record { blocks = h.state.blocks; iae = h.state.iaeseen; biae = h.state.biaeseen }

-- A frame. STAT is forgotten in SSF, the trace and dBDI in SSF and dAIS, dBIAE in SSF, dAIS and dTIM; no block is counted, and no violation
-- added to the sum, in SSF, dAIS, dLTC, dOCI and dLCK (level/specs/Level has the clauses).

abbrev pub stat_in : List ℕ → Bool → Field → Stat
stat_in b ssf f = stat_of (stat_at b 41) ssf f.stat

abbrev pub forgets : Bool → Stat → Bool
forgets ssf t = ssf || raises_ais (status_for t)

abbrev pub stops_in : Bool → Stat → Bool
stops_in ssf t = ssf || raises_ais (status_for t) || raises_ltc (status_for t) || raises_oci (status_for t) || raises_lck (status_for t)

abbrev pub iae_in : Stat → Bool → Bool
iae_in t tim = raises_iae (status_for t) && not tim

-- the filters in the 29 bytes of a level's other numbers: a level has no filter of dIAE
pub record Filters : Type 0 where
  pub bdi : Filter
  pub biae : Filter

abbrev pub filters_in : List ℕ → Bool → Bool → Field → Filters
filters_in w forget tim f = record {
  bdi = filter_of (filter_at (bytes_in 2 0 w) 0) 5 forget f.bdi;
  biae = filter_of (filter_at (bytes_in 2 4 w) 0) 3 (forget || tim) (is_biae (bei_of f.bei));
}

unfoldable pub level_numbers : List ℕ → Stat → Bool → Bool → Bool → Bool → Field → ℕ → List ℕ
level_numbers w t forget stops tim iae f violations =
    let d : Filters = filters_in w forget tim f in
    joined
    (piece 2 (filter_bytes d.bdi)
    ∷ piece 2 (bytes_in 2 2 w)
    ∷ piece 2 (filter_bytes d.biae)
    ∷ piece 4 (stat_bytes t)
    ∷ piece 4 (flags_in (stops || tim) d.bdi.on iae d.biae.on (bytes_in 4 10 w))
    ∷ piece 3 (bytes_in 3 14 w)
    ∷ piece 12
    (counts_in
    (leb 1 violations && not stops)
    (is_far (bei_of f.bei) && not stops)
    (counted_of (bei_of f.bei) stops)
    (bytes_in 12 17 w))
    ∷ [])

abbrev pub level_stood : List ℕ → Bool → Multi → Field → LevelStands
level_stood b ssf m f =
    let t : Stat = stat_in b ssf f in
    let tim : Bool = tim_after b (forgets ssf t) m f.tti in
    let d : Filters = filters_in (bytes_in 29 35 b) (forgets ssf t) tim f in
    record {
      ssf = ssf;
      status = status_for t;
      tim = tim;
      disabled = on (get_or b 6 0);
      bdi = d.bdi.on;
      iae = iae_in t tim;
      biae = d.biae.on;
      deg = on (get_or b 7 0);
    }

unfoldable pub level_record : List ℕ → Bool → Multi → Field → ℕ → List ℕ
level_record b ssf m f violations =
    let t : Stat = stat_in b ssf f in
    let forget : Bool = forgets ssf t in
    let tim : Bool = tim_after b forget m f.tti in
    let l : Layer = layer_step b forget m f.tti in
    joined (record_parts b (cycle_of l) (level_numbers (bytes_in 29 35 b) t forget (stops_in ssf t) tim (iae_in t tim) f violations) (traces_of l))

abbrev pub no_level : LevelStands
no_level = record { ssf = false; status = Clear; tim = false; disabled = false; bdi = false; iae = false; biae = false; deg = false }

pub record LevelAt (b : List ℕ) (ssf : Bool) (m : Multi) (f : Field) (violations : ℕ) (r : LevelStands) (after : List ℕ) : Type 0 where
  pub answers : r ≡ whole b (level_stood b ssf m f) no_level
  pub holds : after ≡ whole b (level_record b ssf m f violations) b

-- The greatest of each byte of a level's numbers: it has a STAT, dBIAE and what stood in the second; the filter of dIAE is spare.
abbrev pub level_greatest : List ℕ
level_greatest = layer_greatest (0 ∷ 0 ∷ 1 ∷ 2 ∷ 7 ∷ 3 ∷ 1 ∷ 7 ∷ []) (1 ∷ 1 ∷ [])

-- 288 bytes, and each number in its range
unfoldable pub level_sound : List ℕ → Bool
level_sound l = eqb (length l) 288 && layer_ranged level_greatest (bytes_in 64 0 l)
