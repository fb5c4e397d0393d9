-- Which defects of a level are false during which, after every frame. Assumes nothing.
use mathlib.Core.Path.{◌≡◌, refl}
use mathlib.Core.Bool.{Bool, true, false, ◌||◌, or-true, and-false, false≢true}
use mathlib.Core.List.{List, [], ◌∷◌}
use Prim.Native.Nat.{ℕ}
use Rattle.overhead.specs.declared.Field.{Field}
use Rattle.overhead.specs.Bei.{bei_of, is_biae}
use Rattle.filter.specs.declared.Filter.{Filter}
use Rattle.filter.specs.Filter.{filter_of}
use Rattle.filter.specs.Stat.{stat_of}
use Rattle.alignment.specs.declared.Multi.{Multi}
use Rattle.layer.specs.declared.Layer.{Layer}
use Rattle.layer.specs.Layer.{trace_of, layer_of, tim_of}
use Rattle.settings.specs.declared.Options.{Options}
use Rattle.level.specs.Status.{status_for, raises_ltc, raises_iae, raises_lck, raises_oci, raises_ais}
use Rattle.level.specs.Level.{level_of, stands_by, level_frame, dAIS}
use Rattle.level.specs.Clause.{AllFalse, false_in_tim, false_in_ais, false_in_ssf, EachFrame}
use Rattle.level.specs.declared.Status.{Status}
use Rattle.level.specs.declared.Status.TheVariants.{Clear, Ltc, Iae, Lck, Oci, Ais}
use Rattle.level.specs.declared.LevelState.{LevelState}
use Rattle.level.specs.declared.LevelStands.{LevelStands}

-- where a layer's trace is forgotten dTIM and dBDI are false, and a filter that is forgotten is off
module _ (l : Layer) (forget inmulti : Bool) (number tti : ℕ) (bdi : Bool) where
  no_tim : (mode : ℕ) (names : List ℕ) → forget ≡ true → tim_of (layer_of l forget inmulti number tti bdi) mode names ≡ false
  unfolding tim_of layer_of trace_of
  no_tim mode names e = rw e

  no_bdi : forget ≡ true → (layer_of l forget inmulti number tti bdi).bdi.on ≡ false
  unfolding layer_of filter_of
  no_bdi e = rw e

no_filter : (b : Filter) (n : ℕ) (forget bit : Bool) → forget ≡ true → (filter_of b n forget bit).on ≡ false
unfolding filter_of
no_filter b n forget bit e = rw e

-- one status is no other
ais_alone : (g : Status) → raises_ais g ≡ true → AllFalse (raises_ltc g ∷ raises_oci g ∷ raises_lck g ∷ raises_iae g ∷ [])
ais_alone Clear e = absurd (false≢true e)
ais_alone Ltc e = absurd (false≢true e)
ais_alone Iae e = absurd (false≢true e)
ais_alone Lck e = absurd (false≢true e)
ais_alone Oci e = absurd (false≢true e)
ais_alone Ais e = (refl, (refl, (refl, (refl, tt))))

module _ (s : LevelState) (p : Options) (m : Multi) (f : Field) where
  -- what stands after the frame, the status of its STAT, and whether the trace is forgotten
  abbrev after : Bool → LevelStands
  after ssf = (level_frame s p ssf m f).stands

  abbrev status : Bool → Status
  status ssf = status_for (stat_of s.stat ssf f.stat)

  abbrev forget : Bool → Bool
  forget ssf = ssf || raises_ais (status ssf)

  during_ssf : (ssf : Bool) → (after ssf).ssf ≡ true → AllFalse (false_in_ssf (after ssf))
  unfolding level_of stands_by status_for stat_of filter_of tim_of layer_of trace_of
  during_ssf true e = (refl, (refl, (refl, (refl, (refl, (refl, (refl, (refl, tt))))))))
  during_ssf false e = absurd (false≢true e)

  during_ais : (ssf : Bool) → dAIS (after ssf) ≡ true → AllFalse (false_in_ais (after ssf))
  unfolding level_of stands_by
  during_ais ssf e =
      let g : forget ssf ≡ true = rw e (or-true ssf) in
      let o = ais_alone (status ssf) e in
      let tim = no_tim s.layer (forget ssf) m.inmulti m.number f.tti f.bdi p.mode p.names g in
      let bdi = no_bdi s.layer (forget ssf) m.inmulti m.number f.tti f.bdi g in
      (o.0, (o.1.0, (o.1.1.0, (tim, (bdi, (rw o.1.1.1.0, (no_filter s.biae 3 _ (is_biae (bei_of f.bei)) (rw g), tt)))))))

  during_tim : (ssf : Bool) → (after ssf).tim ≡ true → AllFalse (false_in_tim (after ssf))
  unfolding level_of stands_by
  during_tim ssf e = (rw e (and-false (raises_iae (status ssf))), (no_filter s.biae 3 _ (is_biae (bei_of f.bei)) (rw e (or-true (forget ssf))), tt))

pub each_frame : EachFrame
unfolding stands_by
each_frame s p ssf m f = record { in_ssf_is = during_ssf s p m f ssf; in_ais = during_ais s p m f ssf; in_tim = during_tim s p m f ssf }
