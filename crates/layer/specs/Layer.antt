-- What section and path share (document 01, "Accepted values and defects"): the accepted trace, dTIM and dBDI. Assumes nothing.
use Rattle.std.specs.Prelude.{ℕ, ◌%◌, Bool, true, false, cond, ◌&&◌, ◌||◌, not, List, eqb, set, replicate}
use Rattle.filter.specs.declared.Filter.{Filter}
use Rattle.filter.specs.Filter.{up_of, quiet, filter_of}
use Rattle.layer.specs.declared.Layer.{Layer}
use Rattle.names.specs.Names.{same_trace, compared_of}

-- the layer with another trace: the accepted, the gathered and the previous cycle; whether a trace is accepted, whether a cycle is being
-- gathered, and the equal cycles in a row
abbrev pub with_trace : Layer → List ℕ → List ℕ → List ℕ → Bool → Bool → ℕ → Layer
with_trace l accepted gathered previous known gathering equal =
    record { accepted = accepted; gathered = gathered; previous = previous; known = known; gathering = gathering; equal = equal; bdi = l.bdi; deg = l.deg }

-- the layer with another BDI filter
abbrev pub with_bdi : Layer → Filter → Layer
with_bdi l bdi =
    record { accepted = l.accepted; gathered = l.gathered; previous = l.previous; known = l.known; gathering = l.gathering; equal = l.equal; bdi = bdi; deg = l.deg }

-- the layer with another DEG filter
abbrev pub with_deg : Layer → Filter → Layer
with_deg l deg =
    record { accepted = l.accepted; gathered = l.gathered; previous = l.previous; known = l.known; gathering = l.gathering; equal = l.equal; bdi = l.bdi; deg = deg }

-- how many equal cycles in a row have ended, the gathered one included, and 3 at most
unfoldable pub equal_of : Layer → ℕ
equal_of l = cond (same_trace l.gathered l.previous) (up_of l.equal 3) 1

-- the gathered cycle at its end: accepted, or only kept to be compared with the next
abbrev pub accepted_cycle : Layer → Layer
accepted_cycle l = with_trace l l.gathered l.gathered l.gathered true false (equal_of l)

abbrev pub ended_cycle : Layer → Layer
ended_cycle l = with_trace l l.accepted l.gathered l.gathered l.known false (equal_of l)

-- "Three equal cycles in a row are accepted at the last frame of the third." (6.2.2.1, 8.6)
unfoldable pub closed_cycle : Layer → Layer
closed_cycle l = cond (eqb (equal_of l) 3) (accepted_cycle l) (ended_cycle l)

-- the layer with byte `at` of the cycle gathered
abbrev pub gathered_at : Layer → ℕ → ℕ → Layer
gathered_at l place tti = with_trace l l.accepted (set l.gathered place tti) l.previous l.known true l.equal

-- "TTI byte number is the local number modulo 64. A cycle is 64 frames, all in IM, from number 0 to 63."
unfoldable pub byte_of : Layer → ℕ → ℕ → Layer
byte_of l place tti =
    cond (eqb place 0 || l.gathering)
    (cond (eqb place 63) (closed_cycle (gathered_at l place tti)) (gathered_at l place tti))
    l

-- "Where a defect is 'false during' X, its run and accepted value are forgotten too in each such frame (house). A trace's run
-- includes a cycle half gathered"
abbrev pub forgotten : Layer → Layer
forgotten l = with_trace l l.accepted l.gathered l.previous false false 0

-- "OOM drops the cycle and the run, not the accepted trace."
abbrev pub dropped : Layer → Layer
dropped l = with_trace l l.accepted l.gathered l.previous l.known false 0

unfoldable pub trace_of : Layer → Bool → Bool → ℕ → ℕ → Layer
trace_of l forget inmulti number tti = cond forget (forgotten l) (cond inmulti (byte_of l (number % 64) tti) (dropped l))

-- the trace, and "dBDI: BDI 1 in five frames in a row; cleared by five 0" (6.2.6.6.1): both are forgotten in the same frames
unfoldable pub layer_of : Layer → Bool → Bool → ℕ → ℕ → Bool → Layer
layer_of l forget inmulti number tti bdi =
    with_bdi (trace_of l forget inmulti number tti) (filter_of l.bdi 5 forget bdi)

-- "dTIM: a trace is accepted and the compared field differs. Mode 0 off, 1 SAPI, 2 DAPI, 3 both (either differing suffices)."
-- (6.2.2.1)
unfoldable pub tim_of : Layer → ℕ → List ℕ → Bool
tim_of l mode names =
    cond l.known
    (((eqb mode 1 || eqb mode 3) && not (compared_of l.accepted names).sapi)
    || ((eqb mode 2 || eqb mode 3) && not (compared_of l.accepted names).dapi))
    false

-- and of a trace by itself
abbrev pub tim_in : Bool → List ℕ → ℕ → List ℕ → Bool
tim_in known accepted mode names =
    cond known
    (((eqb mode 1 || eqb mode 3) && not (compared_of accepted names).sapi)
    || ((eqb mode 2 || eqb mode 3) && not (compared_of accepted names).dapi))
    false

-- nothing accepted, nothing gathered, no defects
abbrev pub fresh_layer : Layer
fresh_layer = record {
  accepted = replicate 64 0;
  gathered = replicate 64 0;
  previous = replicate 64 0;
  known = false;
  gathering = false;
  equal = 0;
  bdi = quiet;
  deg = quiet;
}
