-- A layer's record at a mark. Assumes nothing.
use mathlib.Core.Path.{◌≡◌, ap, ◌∙◌}
use mathlib.Core.Bool.{false}
use mathlib.Core.List.{List}
use Prim.Native.Nat.{ℕ}
use lib.Dec.{leb}
use Rattle.codec.specs.Over.{bytes_in, laid}
use Rattle.filter.specs.declared.Filter.{Filter}
use Rattle.filter.specs.Filter.{filter_of}
use Rattle.second.specs.declared.Blocks.{Blocks}
use Rattle.second.specs.Second.{discard_of, no_blocks}
use Rattle.numbers.specs.declared.Front.{Front}
use Rattle.numbers.specs.declared.State.{State}
use Rattle.numbers.specs.Numbers.{front_bytes, front_in, state_bytes, state_in}
use Rattle.place.specs.Place.{closed_in, front_after, state_after, CloseAt}

-- a front with dDEG decided, and a state with no second
abbrev decided : Front → Filter → Front
decided f deg = record { thr = f.thr; degm = f.degm; mode = f.mode; disabled = f.disabled; deg = deg }

abbrev emptied : State → State
emptied s = record {
  known = s.known;
  gathering = s.gathering;
  equal = s.equal;
  bdi = s.bdi;
  iae = s.iae;
  biae = s.biae;
  stat = s.stat;
  blocks = no_blocks;
  iaeseen = false;
  biaeseen = false;
}

abbrev judged : Front → Blocks → Filter
judged f b = filter_of f.deg f.degm false (leb f.thr b.near.0)

pub close_is : (b b1 b2 w v x y : List ℕ) (f : Front) (s : State) (done : Blocks) (deg : Filter)
    → w ≡ bytes_in 32 0 b → v ≡ bytes_in 32 32 b → f ≡ front_in w → s ≡ state_in v → done ≡ discard_of s.blocks s.iaeseen s.biaeseen → deg ≡ judged f done
    → x ≡ front_bytes (decided f deg) → y ≡ state_bytes (emptied s) → b1 ≡ laid b 0 x → b2 ≡ laid b1 32 y → CloseAt b done b2
close_is b b1 b2 w v x y f s done deg ew ev ef es ed eg ex ey e1 e2 =
    let F : Front = front_in (bytes_in 32 0 b) in
    let pf : f ≡ F = ef ∙ ap front_in ew in
    let ps : s ≡ state_in (bytes_in 32 32 b) = es ∙ ap state_in ev in
    let pd : done ≡ closed_in b = ed ∙ ap (λ (z : State). discard_of z.blocks z.iaeseen z.biaeseen) ps in
    let pg : deg ≡ judged F (closed_in b) = eg ∙ ap (λ (z : Front). judged z done) pf ∙ ap (judged F) pd in
    let px : x ≡ front_bytes (front_after b) = ex ∙ ap (λ (z : Front). front_bytes (decided z deg)) pf ∙ ap (λ (z : Filter). front_bytes (decided F z)) pg in
    let py : y ≡ state_bytes (state_after b) = ey ∙ ap (λ (z : State). state_bytes (emptied z)) ps in
    record { answers = pd; holds = e2 ∙ ap (laid b1 32) py ∙ ap (λ (z : List ℕ). laid z 32 (state_bytes (state_after b))) (e1 ∙ ap (laid b 0) px) }
