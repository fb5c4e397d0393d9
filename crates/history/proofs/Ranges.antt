-- A frame and a mark keep every number of a supervisor in its range, and a fresh one has them there. Assumes nothing.
use Prim.Native.Nat.{ℕ, zero, suc, ◌%◌, ◌≤◌, ◌<◌, zero-le}
use mathlib.Core.Path.{◌≡◌, refl}
use mathlib.Core.Bool.{Bool, false, ◌&&◌, ◌||◌}
use mathlib.Core.List.{List, [], ◌∷◌}
use native.Mathlib.Omega.{arith}
use lib.Dec.{leb, ltb, eqb}
use lib.ListN.{length, get_or, set, length-set}
use borrow.Author.Tests.{eqb-false}
use Rattle.answer.proofs.Cond.{by_cond}
use Rattle.overhead.specs.declared.Overhead.{Overhead}
use Rattle.overhead.specs.declared.Field.{Field}
use Rattle.overhead.specs.Overhead.{overhead_of, field_of}
use Rattle.overhead.specs.Bei.{bei_of, is_far, is_biae}
use Rattle.filter.specs.Filter.{up_of}
use Rattle.filter.specs.Stat.{stat_of}
use Rattle.filter.proofs.Bounds.{up_most, add_most, filter_most, stat_most}
use Rattle.alignment.specs.declared.Alignment.{Alignment}
use Rattle.alignment.specs.declared.Framing.{Framing}
use Rattle.alignment.specs.declared.Lof.{Lof}
use Rattle.alignment.specs.declared.Multi.{Multi}
use Rattle.alignment.specs.Alignment.{frames_of, framing_of, lof_of, next_of, multi_of, lom_of, align_of}
use Rattle.layer.specs.declared.Layer.{Layer}
use Rattle.names.specs.Names.{same_trace}
use Rattle.layer.specs.Layer.{with_trace, equal_of, closed_cycle, gathered_at, byte_of, trace_of, layer_of, tim_of, fresh_layer}
use Rattle.signal.specs.Signal.{stands_for, is_ais}
use Rattle.causes.specs.Causes.{ssf_of, tim_acts, head_of}
use Rattle.frame.specs.Layers.{line_of, section_of, section_stands, path_of, layers_of, degraded}
use Rattle.second.specs.Second.{near_of, far_of, sum_of, counted_of, one_frame, one_under, blocks_of, section_shows, path_shows, count_of, fresh_second}
use Rattle.supervisor.specs.Supervisor.{fresh_of, frame_of, stands_after, next_second}
use Rattle.history.specs.Ranges.{AlignmentIn, LayerIn, SectionIn, PathIn, LayersIn, BlocksIn, AllAtMost, IsBytes, SecondIn, Ranged}
use Rattle.causes.specs.declared.Standing.{Standing}
use Rattle.second.specs.declared.Near.{Near}
use Rattle.second.specs.declared.Far.{Far}
use Rattle.second.specs.declared.Blocks.{Blocks}
use Rattle.second.specs.declared.Shows.{Shows}
use Rattle.second.specs.declared.Second.{Second}
use Rattle.settings.specs.Ranges.{SettingsIn}
use Rattle.settings.specs.declared.Options.{Options}
use Rattle.settings.specs.declared.Settings.{Settings}
use Rattle.frame.specs.declared.SectionState.{SectionState}
use Rattle.frame.specs.declared.PathState.{PathState}
use Rattle.frame.specs.declared.Layers.{Layers}
use Rattle.supervisor.specs.declared.Supervisor.{Supervisor}

-- N is at most 989
frames_most : (k : ℕ) → frames_of k ≤ 989
unfolding frames_of
frames_most k =
    by_cond (λ (n : ℕ). n ≤ 989) (eqb k 1) (λ _. omega arith) (λ _. by_cond (λ (n : ℕ). n ≤ 989) (eqb k 2) (λ _. omega arith) (λ _. omega arith))

-- a counter of five that has not come to five
four_most : (run : ℕ) → eqb (up_of run 5) 5 ≡ false → up_of run 5 ≤ 4
four_most run e = let a : up_of run 5 ≤ 5 = up_most run 5 in let d = eqb-false (up_of run 5) 5 e in omega (arith, d)

-- alignment
framing_in : (s : Framing) (four three : Bool) → (framing_of s four three).misses ≤ 4
unfolding framing_of
framing_in s four three =
    let P : Framing → Type 0 = λ z. z.misses ≤ 4 in
    by_cond P s.inframe
    (λ _. by_cond P three (λ _. omega arith) (λ _. by_cond P (eqb (up_of s.misses 5) 5) (λ _. omega arith) (λ e. four_most s.misses e)))
    (λ _. by_cond P (four && s.seen) (λ _. omega arith) (λ _. omega arith))

lof_in : (s : Lof) (n : ℕ) (inframe : Bool) → n ≤ 989 → s.total ≤ 989 → ((lof_of s n inframe).total ≤ 989) × ((lof_of s n inframe).good ≤ 989)
unfolding lof_of
lof_in s n inframe h t =
    let a : up_of s.good n ≤ n = up_most s.good n in
    let b : up_of s.total n ≤ n = up_most s.total n in
    by_cond (λ (z : Lof). (z.total ≤ 989) × (z.good ≤ 989)) inframe
    (λ _. (by_cond (λ (x : ℕ). x ≤ 989) (eqb (up_of s.good n) n) (λ _. omega arith) (λ _. t), omega arith))
    (λ _. omega arith)

next_in : (x : ℕ) → next_of x ≤ 255
unfolding next_of
next_in x = omega arith

multi_in : (s : Multi) (inframe : Bool) (mfas : ℕ) → mfas ≤ 255 → s.misses ≤ 4
    → ((multi_of s inframe mfas).number ≤ 255) × ((multi_of s inframe mfas).misses ≤ 4) × ((multi_of s inframe mfas).previous ≤ 255)
unfolding multi_of
multi_in s inframe mfas h m =
    let P : Multi → Type 0 = λ z. (z.number ≤ 255) × (z.misses ≤ 4) × (z.previous ≤ 255) in
    let n : next_of s.number ≤ 255 = next_in s.number in
    by_cond P s.inmulti
    (λ _. by_cond P inframe
    (λ _. by_cond P (eqb mfas (next_of s.number)) (λ _. omega arith)
    (λ _. by_cond P (eqb (up_of s.misses 5) 5) (λ _. omega arith) (λ e. (n, four_most s.misses e, omega arith))))
    (λ _. omega arith))
    (λ _. by_cond P inframe
    (λ _. by_cond P (s.known && eqb mfas (next_of s.previous)) (λ _. omega arith) (λ _. omega arith))
    (λ _. omega arith))

lom_in : (run n : ℕ) (inmulti : Bool) → n ≤ 989 → lom_of run n inmulti ≤ 989
unfolding lom_of
lom_in run n inmulti h = by_cond (λ (x : ℕ). x ≤ 989) inmulti (λ _. omega arith) (λ _. let a : up_of run n ≤ n = up_most run n in omega arith)

pub align_in_lem : (s : Alignment) (n : ℕ) (four three : Bool) (mfas : ℕ) → n ≤ 989 → mfas ≤ 255 → AlignmentIn s → AlignmentIn (align_of s n four three mfas)
unfolding align_of
align_in_lem s n four three mfas h m i =
    let f : Framing = framing_of s.framing four three in
    let l = lof_in s.lof n f.inframe h i.total in
    let x = multi_in s.multi f.inframe mfas m i.mismatches in
    record {
      misses = framing_in s.framing four three;
      total = l.0;
      good = l.1;
      number = x.0;
      mismatches = x.1;
      previous = x.2;
      lom = lom_in s.lom n (multi_of s.multi f.inframe mfas).inmulti h;
    }

-- a layer's trace
equal_in : (l : Layer) → equal_of l ≤ 3
unfolding equal_of
equal_in l = by_cond (λ (x : ℕ). x ≤ 3) (same_trace l.gathered l.previous) (λ _. up_most l.equal 3) (λ _. omega arith)

closed_in : (l : Layer) → LayerIn l → LayerIn (closed_cycle l)
unfolding closed_cycle
closed_in l i =
    by_cond LayerIn (eqb (equal_of l) 3)
    (λ _. record { equal = equal_in l; bdi = i.bdi; deg = i.deg; accepted = i.gathered; gathered = i.gathered; previous = i.gathered })
    (λ _. record { equal = equal_in l; bdi = i.bdi; deg = i.deg; accepted = i.accepted; gathered = i.gathered; previous = i.gathered })

gathered_in : (l : Layer) (place tti : ℕ) → LayerIn l → LayerIn (gathered_at l place tti)
gathered_in l place tti i =
    record { equal = i.equal; bdi = i.bdi; deg = i.deg; accepted = i.accepted; gathered = simp length-set i.gathered; previous = i.previous }

byte_in : (l : Layer) (place tti : ℕ) → LayerIn l → LayerIn (byte_of l place tti)
unfolding byte_of
byte_in l place tti i =
    let g : LayerIn (gathered_at l place tti) = gathered_in l place tti i in
    by_cond LayerIn (eqb place 0 || l.gathering)
    (λ _. by_cond LayerIn (eqb place 63) (λ _. closed_in (gathered_at l place tti) g) (λ _. g))
    (λ _. i)

dropped_in : (l : Layer) (known : Bool) → LayerIn l → LayerIn (with_trace l l.accepted l.gathered l.previous known false 0)
dropped_in l known i = record { equal = omega arith; bdi = i.bdi; deg = i.deg; accepted = i.accepted; gathered = i.gathered; previous = i.previous }

trace_in_lem : (l : Layer) (forget inmulti : Bool) (number tti : ℕ) → LayerIn l → LayerIn (trace_of l forget inmulti number tti)
unfolding trace_of
trace_in_lem l forget inmulti number tti i =
    by_cond LayerIn forget
    (λ _. dropped_in l false i)
    (λ _. by_cond LayerIn inmulti (λ _. byte_in l (number % 64) tti i) (λ _. dropped_in l l.known i))

pub layer_in : (l : Layer) (forget inmulti : Bool) (number tti : ℕ) (bdi : Bool) → LayerIn l → LayerIn (layer_of l forget inmulti number tti bdi)
unfolding layer_of
layer_in l forget inmulti number tti bdi i =
    let t : LayerIn (trace_of l forget inmulti number tti) = trace_in_lem l forget inmulti number tti i in
    record {
      equal = t.equal;
      bdi = filter_most l.bdi 5 4 forget bdi (omega arith);
      deg = t.deg;
      accepted = t.accepted;
      gathered = t.gathered;
      previous = t.previous;
    }

-- section and path
section_in_lem : (s : SectionState) (p : Options) (ssf : Bool) (m : Multi) (f : Field) → SectionIn s → SectionIn (section_of s p ssf m f)
unfolding section_of
section_in_lem s p ssf m f i =
    let l : Layer = layer_of s.layer ssf m.inmulti m.number f.tti f.bdi in
    let x : Bool = ssf || tim_of l p.mode p.names in
    record {
      layer = layer_in s.layer ssf m.inmulti m.number f.tti f.bdi i.layer;
      iae = filter_most s.iae 5 4 x f.iae (omega arith);
      biae = filter_most s.biae 3 2 x (is_biae (bei_of f.bei)) (omega arith);
    }

path_in_lem : (s : PathState) (ssf : Bool) (m : Multi) (f : Field) → f.stat ≤ 7 → PathIn s → PathIn (path_of s ssf m f)
unfolding path_of
path_in_lem s ssf m f h i =
    let t = stat_most s.stat ssf f.stat 7 h i.accepted in
    record {
      layer = layer_in s.layer (ssf || is_ais (stands_for (stat_of s.stat ssf f.stat))) m.inmulti m.number f.tti f.bdi i.layer;
      value = t.0;
      run = t.1;
      accepted = t.2;
    }

layers_in : (s : Settings) (l : Layers) (o : Overhead) (flags : ℕ) → o.mfas ≤ 255 → o.path.stat ≤ 7 → LayersIn l → LayersIn (layers_of s l o flags)
unfolding layers_of
layers_in s l o flags h k i =
    let n : ℕ = frames_of s.k in
    let a : Alignment = align_of l.align n o.four o.three o.mfas in
    let ssf : Bool = ssf_of (line_of a n flags) in
    let d = section_stands (section_of l.section s.section ssf a.multi o.section) s.section in
    record {
      align = align_in_lem l.align n o.four o.three o.mfas (frames_most s.k) h i.align;
      section = section_in_lem l.section s.section ssf a.multi o.section i.section;
      path = path_in_lem l.path (ssf || tim_acts d.tim d.disabled) a.multi o.path k i.path;
    }

-- the second
pub most_at : (n : ℕ) (l : List ℕ) (i : ℕ) → AllAtMost n l → get_or l i 0 ≤ n
most_at n [] i a = zero-le
most_at n (x ∷ l) zero a = a.0
most_at n (x ∷ l) (suc i) a = most_at n l i a.1

at_most_at : (n : ℕ) (l : List ℕ) (i x : ℕ) → x ≤ n → AllAtMost n l → AllAtMost n (set l i x)
at_most_at n [] i x h a = tt
at_most_at n (y ∷ l) zero x h a = (h, a.1)
at_most_at n (y ∷ l) (suc i) x h a = (a.0, at_most_at n l i x h a.1)

pub blocks_in_lem : (b : Blocks) (s : Shows) → BlocksIn b → BlocksIn (blocks_of b s)
unfolding blocks_of near_of far_of sum_of
blocks_in_lem b s i = record {
  near = by_cond (λ (x : Near). x.0 ≤ 400000) (s.near && _) (λ _. up_most b.near.0 400000) (λ _. i.near);
  far = by_cond (λ (x : Far). x.0 ≤ 400000) (is_far s.far && _) (λ _. up_most b.far.0 400000) (λ _. i.far);
  sum = add_most b.sum.0 (counted_of s.far s.stopped) 3200000;
}

under_in : (heads : List ℕ) (h : ℕ) → length heads ≡ 10 → AllAtMost 400000 heads → (length (one_under heads h) ≡ 10) × AllAtMost 400000 (one_under heads h)
unfolding one_under
under_in heads h e a =
    by_cond (λ (l : List ℕ). (length l ≡ 10) × AllAtMost 400000 l) (ltb h 10)
    (λ _. (simp length-set e, at_most_at 400000 heads h (up_of (get_or heads h 0) 400000) (up_most (get_or heads h 0) 400000) a))
    (λ _. (e, a))

pub count_in : (c : Second) (d : Standing) (o : Overhead) (sm pm : ℕ) → SecondIn c → SecondIn (count_of c d o sm pm)
unfolding count_of one_frame
count_in c d o sm pm i =
    let u = under_in c.heads (head_of d) i.ten i.heads in
    record {
      frames = up_most c.frames.0 400000;
      ten = u.0;
      heads = u.1;
      section = blocks_in_lem c.section (section_shows d o sm) i.section;
      path = blocks_in_lem c.path (path_shows d o pm) i.path;
    }

stat_seven : (o : List ℕ) → (overhead_of o).path.stat ≤ 7
unfolding overhead_of field_of
stat_seven o = omega arith

-- an accepted frame
mfas_byte : (o : List ℕ) → IsBytes o → (overhead_of o).mfas ≤ 255
unfolding overhead_of
mfas_byte o b = most_at 255 o 6 b

pub step_ranged : (s : Supervisor) (overhead : List ℕ) (flags sm pm : ℕ) → IsBytes overhead → Ranged s → Ranged (frame_of s overhead flags sm pm)
unfolding frame_of
step_ranged s overhead flags sm pm h i = record {
  settings = i.settings;
  layers = layers_in s.settings s.layers (overhead_of overhead) flags (mfas_byte overhead h) (stat_seven overhead) i.layers;
  second = count_in s.second (stands_after s overhead flags) (overhead_of overhead) sm pm i.second;
  seconds = i.seconds;
}

fresh_second_in : SecondIn fresh_second
fresh_second_in = record {
  frames = omega arith;
  ten = refl;
  heads = omega arith;
  section = record { near = omega arith; far = omega arith; sum = omega arith };
  path = record { near = omega arith; far = omega arith; sum = omega arith };
}

pub degraded_in : (l : Layer) (p : Options) (near : ℕ) → p.degm ≤ 10 → LayerIn l → LayerIn (degraded l p near)
degraded_in l p near h i = record {
  equal = i.equal;
  bdi = i.bdi;
  deg = filter_most l.deg p.degm 9 false (leb p.thr near) (omega arith);
  accepted = i.accepted;
  gathered = i.gathered;
  previous = i.previous;
}

-- an accepted mark
pub mark_ranged : (s : Supervisor) → s.seconds < 4294967295 → Ranged s → Ranged (next_second s)
unfolding next_second
mark_ranged s h i = record {
  settings = i.settings;
  layers = record {
    align = i.layers.align;
    section = record { layer = degraded_in _ s.settings.section _ i.settings.section.degm i.layers.section.layer; iae = i.layers.section.iae; biae = i.layers.section.biae };
    path = record { layer = degraded_in _ s.settings.path _ i.settings.path.degm i.layers.path.layer; value = i.layers.path.value; run = i.layers.path.run; accepted = i.layers.path.accepted };
  };
  second = fresh_second_in;
  seconds = omega arith;
}

-- a fresh supervisor
pub fresh_ranged : (s : Settings) → SettingsIn s → Ranged (fresh_of s)
fresh_ranged s i = record {
  settings = i;
  layers = record {
    align = record { misses = omega arith; total = omega arith; good = omega arith; number = omega arith; mismatches = omega arith; previous = omega arith; lom = omega arith };
    section = record { layer = fresh_layer_in; iae = omega arith; biae = omega arith };
    path = record { layer = fresh_layer_in; value = omega arith; run = omega arith; accepted = omega arith };
  };
  second = fresh_second_in;
  seconds = omega arith;
}
  where
    fresh_layer_in : LayerIn fresh_layer
    fresh_layer_in = record { equal = omega arith; bdi = omega arith; deg = omega arith; accepted = refl; gathered = refl; previous = refl }
