-- "Seconds and the ledger" (document 01): what a frame adds to the open second, and how a mark closes it. Assumes nothing.
use Rattle.std.specs.Prelude.{ℕ, Bool, false, cond, not, ◌&&◌, ◌||◌, List, [], ◌∷◌, leb, ltb, get_or, set, replicate}
use Rattle.filter.specs.Filter.{up_of, add_of}
use Rattle.overhead.specs.declared.Bei.{Bei}
use Rattle.overhead.specs.declared.Overhead.{Overhead}
use Rattle.overhead.specs.Bei.{bei_of, path_bei, is_far, violations_of}
use Rattle.answer.specs.Bits.{flag}
use Rattle.causes.specs.Causes.{ssf_of, path_ssf, path_down, head_of}
use Rattle.causes.specs.declared.Standing.{Standing}
use Rattle.second.specs.declared.Near.{Near}
use Rattle.second.specs.declared.Far.{Far}
use Rattle.second.specs.declared.Sum.{Sum}
use Rattle.second.specs.declared.Frames.{Frames}
use Rattle.second.specs.declared.Blocks.{Blocks}
use Rattle.second.specs.declared.Shows.{Shows}
use Rattle.second.specs.declared.Second.{Second}

-- "Near-end blocks, far-end blocks and frames are separate counters and one is never added to another." Each stops at 400,000, the
-- frames that a second may hold.
unfoldable pub near_of : Near → Bool → Near
near_of n more = cond more (record { 0 = up_of n.0 400000 }) n

unfoldable pub far_of : Far → Bool → Far
far_of n more = cond more (record { 0 = up_of n.0 400000 }) n

-- "Seconds and summaries gain the sum" of BEI violations (document 02, K7): a counter of its own, which stops at 3,200,000, eight for each of those frames
unfoldable pub sum_of : Sum → ℕ → Sum
sum_of n more = record { 0 = add_of n.0 more 3200000 }

-- "it is .. stopped as the far block count is" (document 02, K7)
unfoldable pub counted_of : Bei → Bool → ℕ
counted_of b stopped = cond stopped 0 (violations_of b)

unfoldable pub one_frame : Frames → Frames
one_frame n = record { 0 = up_of n.0 400000 }

-- one more frame under a head, 0 to 9
unfoldable pub one_under : List ℕ → ℕ → List ℕ
one_under heads head = cond (ltb head 10) (set heads head (up_of (get_or heads head 0) 400000)) heads

-- a layer's values after what a frame shows: blocks are not counted where it is stopped
unfoldable pub blocks_of : Blocks → Shows → Blocks
blocks_of b s = record {
  near = near_of b.near (s.near && not s.stopped);
  far = far_of b.far (is_far s.far && not s.stopped);
  neards = b.neards || s.neards;
  fards = b.fards || s.fards;
  sum = sum_of b.sum (counted_of s.far s.stopped);
}

-- "A count above 0 is one near-end errored block." "Blocks are not counted during SSF .. dTIM doesn't stop counting." "Near DS: in some
-- frame of the second SSF, dTIM .. stood. Far DS: dBDI stood." (13.2.1.2)
abbrev pub section_shows : Standing → Overhead → ℕ → Shows
section_shows d o violations = record {
  stopped = ssf_of d.line;
  near = leb 1 violations;
  far = bei_of o.section.bei;
  neards = ssf_of d.line || d.section.tim;
  fards = d.section.bdi;
}

-- "in the path also not during dAIS, dOCI, dLCK"; "or in the path dAIS, dOCI or dLCK stood" (14.2.1.2)
abbrev pub path_shows : Standing → Overhead → ℕ → Shows
path_shows d o violations = record {
  stopped = path_down (path_ssf d) d.path;
  near = leb 1 violations;
  far = path_bei o.path.bei;
  neards = path_down (path_ssf d) d.path || d.path.tim;
  fards = d.path.bdi;
}

-- the second after one more frame
unfoldable pub count_of : Second → Standing → Overhead → ℕ → ℕ → Second
count_of c d o sm pm = record {
  frames = one_frame c.frames;
  heads = one_under c.heads (head_of d);
  section = blocks_of c.section (section_shows d o sm);
  path = blocks_of c.path (path_shows d o pm);
  iae = c.iae || d.section.iae;
  biae = c.biae || d.section.biae;
}

-- "If section dIAE stood in any frame, the section's four values of that second become 0 and false; if dBIAE, its two far values." (13.2.1.2)
-- "it is discarded .. as the far block count is": the sum is a far value too (document 02, K7). The second before is discarded too, when it is reported (document
-- 02, K3; crate late).
unfoldable pub discard_of : Blocks → Bool → Bool → Blocks
discard_of b iae biae = record {
  near = cond iae (record { 0 = 0 }) b.near;
  far = cond (iae || biae) (record { 0 = 0 }) b.far;
  neards = cond iae false b.neards;
  fards = cond (iae || biae) false b.fards;
  sum = cond (iae || biae) (record { 0 = 0 }) b.sum;
}

-- "Heads are never discarded."
unfoldable pub closed_of : Second → Second
closed_of c = record {
  frames = c.frames;
  heads = c.heads;
  section = discard_of c.section c.iae c.biae;
  path = c.path;
  iae = c.iae;
  biae = c.biae;
}

-- "S: second from 1, frames, heads 0 to 9, section near blocks, far blocks, near DS, far DS, then the path's four." "The sum comes last in each layer's group of S
-- fields." (document 02, K7)
abbrev pub figures_of : ℕ → Second → List ℕ
figures_of number c =
    number ∷ c.frames.0
    ∷ get_or c.heads 0 0 ∷ get_or c.heads 1 0 ∷ get_or c.heads 2 0 ∷ get_or c.heads 3 0 ∷ get_or c.heads 4 0
    ∷ get_or c.heads 5 0 ∷ get_or c.heads 6 0 ∷ get_or c.heads 7 0 ∷ get_or c.heads 8 0 ∷ get_or c.heads 9 0
    ∷ c.section.near.0 ∷ c.section.far.0 ∷ flag c.section.neards ∷ flag c.section.fards ∷ c.section.sum.0
    ∷ c.path.near.0 ∷ c.path.far.0 ∷ flag c.path.neards ∷ flag c.path.fards ∷ c.path.sum.0 ∷ []

abbrev pub no_blocks : Blocks
no_blocks = record { near = record { 0 = 0 }; far = record { 0 = 0 }; neards = false; fards = false; sum = record { 0 = 0 } }

-- no frame yet
abbrev pub fresh_second : Second
fresh_second = record { frames = record { 0 = 0 }; heads = replicate 10 0; section = no_blocks; path = no_blocks; iae = false; biae = false }
