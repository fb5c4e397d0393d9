-- The path's SSF as it stands, read from the bytes of line, section and path. Assumes nothing.
use mathlib.Core.Path.{◌≡◌, sym, ap, ◌∙◌}
use mathlib.Core.Bool.{Bool, false, ◌||◌}
use mathlib.Core.List.{List}
use Prim.Native.Nat.{ℕ}
use lib.ListN.{length, take, drop, replicate}
use Rattle.codec.specs.Over.{bytes_in}
use Rattle.filter.specs.Filter.{quiet}
use Rattle.alignment.specs.Alignment.{frames_of}
use Rattle.alignment.specs.declared.Alignment.{Alignment}
use Rattle.layer.specs.Layer.{tim_of}
use Rattle.layer.specs.declared.Layer.{Layer}
use Rattle.causes.specs.Causes.{ssf_of, tim_acts}
use Rattle.causes.specs.declared.Line.{Line}
use Rattle.frame.specs.Layers.{line_of, section_stands, standing_of}
use Rattle.numbers.specs.declared.Head.{Head}
use Rattle.numbers.specs.declared.Front.{Front}
use Rattle.numbers.specs.declared.State.{State}
use Rattle.numbers.specs.Numbers.{head_in, align_in, front_in, state_in}
use Rattle.numbers.specs.Held.{held_in}
use Rattle.image.specs.Image.{load_of}
use Rattle.image.proofs.Parts.{section_bytes}
use Rattle.tandem.specs.Tandem.{ssf_now}
use Rattle.card.specs.Calls.{acts_in}

-- a layer of which no more is read than its accepted trace
abbrev traced : List ℕ → Bool → Layer
traced accepted known = record {
  accepted = accepted;
  gathered = replicate 64 0;
  previous = replicate 64 0;
  known = known;
  gathering = false;
  equal = 0;
  bdi = quiet;
  deg = quiet;
}

pub acts_is : (r w v accepted names : List ℕ) (f : Front) (s : State) (tim acts : Bool) → w ≡ bytes_in 32 0 r → v ≡ bytes_in 32 32 r → f ≡ front_in w → s ≡ state_in v
    → accepted ≡ bytes_in 64 64 r → names ≡ bytes_in 32 256 r → tim ≡ tim_of (traced accepted s.known) f.mode names → acts ≡ tim_acts tim f.disabled
    → acts ≡ acts_in (held_in r)
unfolding held_in tim_of
acts_is r w v accepted names f s tim acts ew ev ef es ea en et e = e ∙ rw (et, ef, es, ea, en, ew, ev)

pub ssf_is : (l w v : List ℕ) (flags n : ℕ) (h : Head) (a : Alignment) (line : Line) (ssf acts : Bool) → length l ≡ 688 → w ≡ bytes_in 32 0 l → v ≡ bytes_in 32 32 l
    → h ≡ head_in w → a ≡ align_in v → n ≡ frames_of h.k → line ≡ line_of a n flags → ssf ≡ ssf_of line → acts ≡ acts_in (held_in (take 288 (drop 112 l)))
    → (ssf || acts) ≡ ssf_now (load_of l) flags
unfolding ssf_now standing_of section_stands load_of
ssf_is l w v flags n h a line ssf acts k ew ev eh ea en el es et =
    let t : acts ≡ acts_in (held_in (bytes_in 288 112 l)) = et ∙ ap (λ (r : List ℕ). acts_in (held_in r)) (sym (section_bytes l k)) in
    rw (t, es, el, en, ea, eh, ew, ev)
