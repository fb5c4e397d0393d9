-- The numbers of a supervisor as strips of 32 bytes: small numbers as bytes, counts as little-endian words, spare bytes 0; and back.
-- docs/SUPERVISOR.md has the table. Assumes nothing.
use Rattle.std.specs.Prelude.{Bool, List, ◌∷◌, ◌++◌, ℕ, ◌%◌, eqb, get_or, replicate}
use Rattle.answer.specs.Bits.{flag}
use Rattle.words.specs.Words.{le4, word_at}
use Rattle.alignment.specs.declared.Alignment.{Alignment}
use Rattle.second.specs.declared.Blocks.{Blocks}
use Rattle.numbers.specs.declared.Head.{Head}
use Rattle.numbers.specs.declared.Front.{Front}
use Rattle.numbers.specs.declared.State.{State}

-- 1 is true
abbrev pub on : ℕ → Bool
on x = eqb x 1

-- the low byte of a number: the number itself where it is below 256
abbrev pub low : ℕ → ℕ
low x = x % 256

-- The line's head.

abbrev pub head_bytes : Head → List ℕ
head_bytes h = h.k ∷ (replicate 27 0 ++ le4 h.seconds)

abbrev pub head_in : List ℕ → Head
head_in w = record { k = get_or w 0 0; seconds = word_at w 28 }

-- Alignment.

abbrev pub align_bytes : Alignment → List ℕ
align_bytes a =
    flag a.framing.inframe ∷ flag a.framing.seen ∷ low a.framing.misses
    ∷ flag a.multi.inmulti ∷ a.multi.number ∷ low a.multi.misses ∷ flag a.multi.known ∷ a.multi.previous
    ∷ (replicate 12 0 ++ (le4 a.lof.total ++ (le4 a.lof.good ++ le4 a.lom)))

abbrev pub align_in : List ℕ → Alignment
align_in w = record {
  framing = record { inframe = on (get_or w 0 0); seen = on (get_or w 1 0); misses = get_or w 2 0 };
  lof = record { total = word_at w 20; good = word_at w 24 };
  multi = record { inmulti = on (get_or w 3 0); number = get_or w 4 0; misses = get_or w 5 0; known = on (get_or w 6 0); previous = get_or w 7 0 };
  lom = word_at w 28;
}

-- A layer's front.

abbrev pub front_bytes : Front → List ℕ
front_bytes f =
    le4 f.thr ++ (low f.degm ∷ f.mode ∷ flag f.disabled ∷ flag f.deg.on ∷ low f.deg.run ∷ replicate 23 0)

abbrev pub front_in : List ℕ → Front
front_in w = record {
  thr = word_at w 0;
  degm = get_or w 4 0;
  mode = get_or w 5 0;
  disabled = on (get_or w 6 0);
  deg = record { on = on (get_or w 7 0); run = get_or w 8 0 };
}

-- A layer's state.

abbrev pub state_bytes : State → List ℕ
state_bytes s =
    flag s.known ∷ flag s.gathering ∷ low s.equal
    ∷ flag s.bdi.on ∷ low s.bdi.run ∷ flag s.iae.on ∷ low s.iae.run ∷ flag s.biae.on ∷ low s.biae.run
    ∷ s.stat.value ∷ low s.stat.run ∷ flag s.stat.known ∷ s.stat.accepted
    ∷ flag s.blocks.neards ∷ flag s.blocks.fards ∷ flag s.iaeseen ∷ flag s.biaeseen
    ∷ (replicate 3 0 ++ (le4 s.blocks.sum.0 ++ (le4 s.blocks.near.0 ++ le4 s.blocks.far.0)))

abbrev pub blocks_in : List ℕ → Blocks
blocks_in w = record {
  near = record { 0 = word_at w 24 };
  far = record { 0 = word_at w 28 };
  neards = on (get_or w 13 0);
  fards = on (get_or w 14 0);
  sum = record { 0 = word_at w 20 };
}

abbrev pub state_in : List ℕ → State
state_in w = record {
  known = on (get_or w 0 0);
  gathering = on (get_or w 1 0);
  equal = get_or w 2 0;
  bdi = record { on = on (get_or w 3 0); run = get_or w 4 0 };
  iae = record { on = on (get_or w 5 0); run = get_or w 6 0 };
  biae = record { on = on (get_or w 7 0); run = get_or w 8 0 };
  stat = record { value = get_or w 9 0; run = get_or w 10 0; known = on (get_or w 11 0); accepted = get_or w 12 0 };
  blocks = blocks_in w;
  iaeseen = on (get_or w 15 0);
  biaeseen = on (get_or w 16 0);
}
