-- The ranges of a level's bytes are those of the definitions; a level in its ranges is read back from its bytes, and sound bytes are those of what is
-- read from them. Assumes nothing.
use mathlib.Core.Path.{◌≡◌, refl, sym, ap, subst, ◌∙◌}
use mathlib.Core.Bool.{true}
use mathlib.Core.List.{List, [], ◌∷◌, ◌++◌}
use Prim.Native.Nat.{ℕ, ◌+◌, ◌%◌, ◌≤◌}
use native.Mathlib.Omega.{arith}
use lib.Dec.{eqb}
use lib.ListN.{length, get_or, replicate}
use lib.Seq.{take_all}
use borrow.Author.Tests.{le-leb, eq-eqb, eqb-true}
use Rattle.answer.proofs.Cond.{and_left, and_right}
use Rattle.codec.specs.Over.{bytes_in}
use Rattle.codec.proofs.Overs.{bytes_room}
use Rattle.ranges.specs.Sound.{below, layer_ranged}
use Rattle.ranges.proofs.Below.{flag_leb, byte_leb}
use Rattle.filter.specs.Filter.{quiet}
use Rattle.settings.specs.declared.Options.{Options}
use Rattle.level.specs.declared.LevelState.{LevelState}
use Rattle.level.specs.declared.LevelSecond.{LevelSecond}
use Rattle.numbers.specs.Numbers.{front_bytes, state_bytes}
use Rattle.numbers.specs.Held.{Held, held_in, held_bytes, options_from}
use Rattle.numbers.proofs.Strips.{Tops, held_back}
use Rattle.image.specs.Image.{Sizes}
use Rattle.image.proofs.Bytes.{held_sized, held_long}
use Rattle.image.proofs.Parts.{Layered, layered, front_greatest, state_tops_at, held_stays_at}
use Rattle.image.proofs.Ranges.{options_at, layer_at_lem, blocks_at, layer_tested, band_of}
use Rattle.rack.specs.Rack.{level_held, level_from, level_second_from, level_greatest, level_sound}
use Rattle.racks.specs.Racks.{level_bytes, LevelIn, SameLevel, LevelTrip}
use Rattle.racks.proofs.Levels.{sizes_of, fits_of}

abbrev level_state : List ℕ
level_state = 1 ∷ 1 ∷ 3 ∷ 1 ∷ 4 ∷ 0 ∷ 0 ∷ 1 ∷ 2 ∷ 7 ∷ 3 ∷ 1 ∷ 7 ∷ 1 ∷ 1 ∷ 1 ∷ 1 ∷ (replicate 3 0 ++ replicate 12 255)

-- From a level in its ranges.

module _ (p : Options) (s : LevelState) (c : LevelSecond) (i : LevelIn p s c) where
  abbrev h : Held
  h = level_held p s c

  sizes : Sizes h
  sizes = sizes_of p s c i

  state_tested : below level_state (state_bytes h.state) ≡ true
  unfolding below
  state_tested =
      let r = i.state in
      let a : s.layer.equal % 256 ≤ 3 = omega arith in
      let b : s.layer.bdi.run % 256 ≤ 4 = omega arith in
      let d : s.biae.run % 256 ≤ 2 = omega arith in
      let e : s.stat.run % 256 ≤ 3 = omega arith in
      simp (
        flag_leb,
        byte_leb,
        le-leb (s.layer.equal % 256) 3 a,
        le-leb (s.layer.bdi.run % 256) 4 b,
        le-leb (s.biae.run % 256) 2 d,
        le-leb s.stat.value 7 r.value,
        le-leb (s.stat.run % 256) 3 e,
        le-leb s.stat.accepted 7 r.accepted,
      )

  long : length (level_bytes p s c) ≡ 288
  long = held_long h sizes

  band : bytes_in 64 0 (level_bytes p s c) ≡ front_bytes h.front ++ state_bytes h.state
  unfolding held_bytes
  band = band_of (front_bytes h.front) (state_bytes h.state) (h.accepted ++ (h.gathered ++ (h.previous ++ (h.names ++ [])))) refl refl

  tested_of : level_sound (level_bytes p s c) ≡ true
  unfolding level_sound
  tested_of =
      rw (
        eq-eqb (length (level_bytes p s c)) 288 long,
        band,
        layer_tested p s.layer h.state level_state i.options i.state.layer i.blocks state_tested,
      )

  back_of : held_in (level_bytes p s c) ≡ h
  back_of = let f = fits_of p s c i in held_back h f.0 f.1 (held_sized h sizes)

-- From sound bytes.

module _ (l : List ℕ) (e : level_sound l ≡ true) where
  sound_long : length l ≡ 288
  unfolding level_sound
  sound_long = eqb-true (length l) 288 (and_left (eqb (length l) 288) (layer_ranged level_greatest (bytes_in 64 0 l)) e)

  sound_layer : Layered (front_greatest ++ level_state) (bytes_in 64 0 l)
  unfolding level_sound
  sound_layer = layered level_greatest (bytes_in 64 0 l) (and_right (eqb (length l) 288) (layer_ranged level_greatest (bytes_in 64 0 l)) e)

  all : bytes_in 288 0 l ≡ l
  all = let n = sound_long in bytes_room 288 0 l (omega arith) ∙ take_all 288 l (omega arith)

  room : 0 + 288 ≤ length l
  room = let n = sound_long in omega arith

  tops : Tops level_state (bytes_in 32 32 l)
  tops = subst (λ (b : List ℕ). Tops level_state (bytes_in 32 32 b)) all (state_tops_at 0 level_state l room sound_layer.bytes)

  untested_of : LevelIn (options_from (held_in l)) (level_from (held_in l)) (level_second_from (held_in l))
  unfolding held_in
  untested_of =
      let P : List ℕ → Type 0 = λ (b : List ℕ). LevelIn (options_from (held_in b)) (level_from (held_in b)) (level_second_from (held_in b)) in
      let g = state_tops_at 0 level_state l room sound_layer.bytes in
      subst P all
      (record {
        options = options_at 0 level_state l room sound_layer;
        state = record { layer = layer_at_lem 0 level_state l room sound_layer refl refl; value = g 9; run = g 10; accepted = g 12; biae = g 8 };
        blocks = blocks_at 0 level_state l room sound_layer;
      })

  -- dIAE has no filter
  iae_quiet : (held_in l).state.iae ≡ quiet
  unfolding held_in
  iae_quiet =
      let z : (i : ℕ) → get_or level_state i 0 ≡ 0 → get_or (bytes_in 32 32 l) i 0 ≡ 0 = λ i. λ q. omega (arith, tops i) in
      rw (z 5 refl, z 6 refl)

  held_of : level_held (options_from (held_in l)) (level_from (held_in l)) (level_second_from (held_in l)) ≡ held_in l
  held_of = same (held_in l) iae_quiet
    where
      same : (h : Held) → h.state.iae ≡ quiet → level_held (options_from h) (level_from h) (level_second_from h) ≡ h
      same h q = rw (sym q)

  stays_of : level_bytes (options_from (held_in l)) (level_from (held_in l)) (level_second_from (held_in l)) ≡ l
  unfolding below
  stays_of =
      ap held_bytes held_of
      ∙ subst (λ (b : List ℕ). held_bytes (held_in b) ≡ b) all (held_stays_at 0 level_state l room sound_layer.bytes refl)

pub same_level : SameLevel
same_level = record { tested = tested_of; untested = untested_of }

pub level_trip : LevelTrip
level_trip = record {
  long = long;
  back = λ p s c i. let e = back_of p s c i in ((ap options_from e, ap level_from e), ap level_second_from e);
  stays = stays_of;
}
