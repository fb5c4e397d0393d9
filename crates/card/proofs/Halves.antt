-- The two parts of a supervisor's bytes, 688 of line, section and path and 1760 of the levels: what is done in each leaves the image of the supervisor of
-- the definitions, and what is read of a level is what they tell. Assumes nothing.
use mathlib.Core.Path.{◌≡◌, refl, sym, ap, ◌∙◌}
use mathlib.Core.Bool.{Bool, true, false, cond, not, ◌&&◌, ◌||◌}
use mathlib.Core.List.{List, [], ◌++◌, append-nil}
use Prim.Native.Nat.{ℕ, ◌+◌, ◌≤◌}
use native.Mathlib.Omega.{arith}
use lib.Dec.{eqb, leb, ltb}
use lib.ListN.{length, get_or, take, drop, length-drop, drop_of_length-le}
use lib.Seq.{take_all, take_at, drop_at, length-take-le, get_or-drop}
use borrow.Author.Tests.{eq-eqb, ne_eqb, le-leb, lt-ltb}
use Rattle.std.specs.Prelude.{Result, Ok, Err}
use Rattle.answer.specs.Checks.{first_of}
use Rattle.answer.specs.Refusal.{number_of, said}
use Rattle.answer.specs.declared.Refusal.{Refusal}
use Rattle.answer.specs.declared.Refusal.TheVariants.{UnknownLevel}
use Rattle.codec.specs.Over.{bytes_in}
use Rattle.codec.proofs.Overs.{all_in}
use Rattle.words.specs.Words.{flat, words_in}
use Rattle.settings.specs.Settings.{settings_refusal, options_of}
use Rattle.settings.specs.declared.Options.{Options}
use Rattle.settings.specs.declared.Request.{Request}
use Rattle.level.specs.Level.{level_actions, level_causes}
use Rattle.level.specs.declared.LevelStands.{LevelStands}
use Rattle.level.specs.declared.LevelActions.{LevelActions}
use Rattle.level.specs.declared.LevelCauses.{LevelCauses}
use Rattle.supervisor.specs.Supervisor.{frame_of, next_second, mark_of}
use Rattle.supervisor.specs.declared.Supervisor.{Supervisor}
use Rattle.ranges.specs.Sound.{sound}
use Rattle.numbers.specs.declared.Head.{Head}
use Rattle.numbers.specs.Numbers.{head_in}
use Rattle.numbers.proofs.Strips.{both}
use Rattle.image.specs.Image.{load_of, bytes_of, Stored}
use Rattle.image.proofs.Bytes.{length_bytes, whole_image}
use Rattle.tandem.specs.Levels.{framed_levels, level_at}
use Rattle.tandem.specs.Tandem.{fresh_tandem, request_checks, place_checks, request_refusal, give_refusal, with_level, frame_refusal, marked_of, ssf_now, level_report, level_traced}
use Rattle.tandem.specs.declared.Tandem.{Tandem}
use Rattle.tandem.proofs.Refusals.{first_after, request_same}
use Rattle.engines.specs.Engines.{framed_by, framed_by_table}
use Rattle.bay.specs.Bay.{bay_sound, blank_bay, gave_in, framed_in, MarkAt, given_in, stands_in, traced_in}
use Rattle.bays.specs.Image.{bay_bytes, tandem_bytes, tandem_from, tandem_sound}
use Rattle.bays.specs.Bays.{bay_of, InBay}
use Rattle.bays.specs.Ranges.{TandemIn}
use Rattle.bays.proofs.Trip.{tandem_bytes_lem, first_sound, first_from, last_from, same_tandem}
use Rattle.bays.proofs.InBay.{in_bay, laid_fresh}
use Rattle.word.specs.Report.{report_word}
use Rattle.word.specs.Level.{level_word}
use Rattle.card.specs.declared.Reported.{Reported}
use Rattle.card.specs.Calls.{reported_of, figures_at, told_word}
use Rattle.card.proofs.Parts.{ranged, frame_sizes, marked_sizes}

-- what a test says
said_cond : (p : Bool) (e : Refusal) → ◌≡◌ {A = ℕ} (said {A = Unit {0}} (cond p (Ok tt) (Err e))) (cond p 0 (number_of e))
said_cond true e = refl
said_cond false e = refl

-- The test.

all_last : (l : List ℕ) → length l ≡ 2448 → take 1760 (drop 688 l) ≡ drop 688 l
all_last l n = take_all 1760 (drop 688 l) (omega (arith, length-drop 688 l))

pub tandem_is : (l : List ℕ) (x y : Bool) → length l ≡ 2448 → x ≡ sound (take 688 l) → y ≡ bay_sound (take 1760 (drop 688 l)) → (x && y) ≡ tandem_sound l
unfolding tandem_sound
tandem_is l x y n ex ey = rw (eq-eqb (length l) 2448 n, ex, ey, all_last l n)

pub tandem_not : (l : List ℕ) → (length l ≡ 2448 → ⊥) → false ≡ tandem_sound l
unfolding tandem_sound
tandem_not l n = rw (ne_eqb (length l) 2448 n)

-- The first part written, the last, and both of them.

abbrev first_over : List ℕ → List ℕ → List ℕ
first_over l x = x ++ drop 688 l

abbrev last_over : List ℕ → List ℕ → List ℕ
last_over l y = take 688 l ++ (y ++ drop 1760 (drop 688 l))

module _ (l x y : List ℕ) (n : length l ≡ 2448) where
  none_behind : drop 1760 (drop 688 l) ≡ []
  none_behind = drop_of_length-le (drop 688 l) {i = 1760} (omega (arith, length-drop 688 l))

  pub last_over_lem : last_over l y ≡ take 688 l ++ y
  last_over_lem = rw (none_behind, append-nil)

  module _ (e : length x ≡ 688) where
    pub last_kept : take 1760 (drop 688 (first_over l x)) ≡ drop 688 l
    last_kept = ap (take 1760) (drop_at x (drop 688 l) 688 e) ∙ all_last l n

    pub both_over : last_over (first_over l x) y ≡ x ++ y
    both_over = rw (take_at x (drop 688 l) 688 e, drop_at x (drop 688 l) 688 e, none_behind, append-nil)

-- A fresh supervisor.

pub stored_is : (l x y : List ℕ) (s : Supervisor) → length l ≡ 2448 → Stored (take 688 l) s x → y ≡ blank_bay (take 1760 (drop 688 (first_over l x)))
    → last_over (first_over l x) y ≡ tandem_bytes (fresh_tandem s)
unfolding tandem_bytes
stored_is l x y s n t e =
    let ex : x ≡ bytes_of s = whole_image (take 688 l) s x (length-take-le 688 l (omega arith)) t in
    let nx : length x ≡ 688 = ap length ex ∙ length_bytes s t.long in
    let nl : length (drop 688 l) ≡ 1760 = length-drop 688 l ∙ omega arith in
    both_over l x y n nx ∙ both ex (e ∙ ap blank_bay (last_kept l x y n nx) ∙ laid_fresh (drop 688 l) s nl)

-- An accepted frame and an accepted mark, by value.

module _ (t : Tandem) (overhead : List ℕ) (flags sm pm : ℕ) (counts : List ℕ) (e : frame_refusal t overhead flags sm pm counts ≡ 0) where
  framed_report : (framed_by_table t overhead flags sm pm counts).report ≡ (reported_of t.base overhead flags sm pm).report
  unfolding framed_by
  framed_report = rw e

  framed_tandem : tandem_bytes (framed_by_table t overhead flags sm pm counts).tandem
      ≡ bytes_of (frame_of t.base overhead flags sm pm)
      ++ bay_bytes flags (framed_levels t.levels (reported_of t.base overhead flags sm pm).report.path.ssf (reported_of t.base overhead flags sm pm).multi overhead counts)
  unfolding framed_by tandem_bytes
  framed_tandem = rw e

-- what is said of the supervisor is said of its first part
pub k_here : (l : List ℕ) (k : ℕ) → k ≡ (tandem_from l).base.settings.k → k ≡ (load_of (take 688 l)).settings.k
unfolding tandem_from
k_here l k e = e

pub number_here : (l : List ℕ) (n : ℕ) → n ≡ (tandem_from l).base.seconds + 1 → n ≡ (load_of (take 688 l)).seconds + 1
unfolding tandem_from
number_here l n e = e

-- What is done in sound bytes.

module _ (l : List ℕ) (b : tandem_sound l ≡ true) where
  abbrev t : Tandem
  t = tandem_from l

  long : length l ≡ 2448
  long = tandem_bytes_lem l b

  in_ranges : TandemIn t
  in_ranges = same_tandem.untested l b

  inside : InBay t
  inside = in_bay t in_ranges

  -- the levels' bytes, as they are lent
  bay_is : take 1760 (drop 688 l) ≡ bay_of t
  bay_is = all_last l long ∙ last_from l b

  base_is : load_of (take 688 l) ≡ t.base
  unfolding tandem_from
  base_is = refl

  flags_is : get_or l 688 0 ≡ t.flags
  unfolding tandem_from
  flags_is = sym (get_or-drop 688 l 0 0)

  pub frame_is : (overhead : List ℕ) (flags sm pm : ℕ) (counts : List ℕ) (a : Reported) (w : ℕ) (p q x y : List ℕ)
      → frame_refusal t overhead flags sm pm counts ≡ 0 → p ≡ take 688 l → q ≡ drop 688 l → a ≡ reported_of (load_of p) overhead flags sm pm
      → x ≡ bytes_of (frame_of (load_of p) overhead flags sm pm)
      → y ≡ framed_in q flags a.report.path.ssf a.multi overhead counts → w ≡ report_word a.report
      → (w ≡ report_word (framed_by_table t overhead flags sm pm counts).report)
      × (x ++ y ≡ tandem_bytes (framed_by_table t overhead flags sm pm counts).tandem)
  frame_is overhead flags sm pm counts a w p q x y e ep eq ea ex ey ew =
      let es : load_of p ≡ t.base = ap load_of ep ∙ base_is in
      let ra : a ≡ reported_of t.base overhead flags sm pm = ea ∙ ap (λ (z : Supervisor). reported_of z overhead flags sm pm) es in
      let rx : x ≡ bytes_of (frame_of t.base overhead flags sm pm) = ex ∙ ap (λ (z : Supervisor). bytes_of (frame_of z overhead flags sm pm)) es in
      let ry : y ≡ framed_in (bay_of t) flags a.report.path.ssf a.multi overhead counts = rw (eq ∙ last_from l b) at ey in (
        ew ∙ ap (λ (z : Reported). report_word z.report) ra ∙ ap report_word (sym (framed_report t overhead flags sm pm counts e)),
        both rx (rw ra at (ry ∙ inside.framed flags a.report.path.ssf a.multi overhead counts))
            ∙ sym (framed_tandem t overhead flags sm pm counts e),
      )

  pub close_is : (number : ℕ) (f g x y bytes : List ℕ) → number ≡ t.base.seconds + 1 → number ≤ 4294967295 → f ≡ figures_at (load_of (take 688 l))
      → x ≡ bytes_of (next_second (load_of (take 688 l))) → MarkAt (take 1760 (drop 688 (first_over l x))) g y → bytes ≡ flat (f ++ g)
      → (bytes ≡ flat (marked_of t).figures) × (last_over (first_over l x) y ≡ tandem_bytes (marked_of t).tandem)
  unfolding marked_of mark_of tandem_bytes
  close_is number f g x y bytes en h ef ex hy eb =
      let s : Supervisor = load_of (take 688 l) in
      let nx : length x ≡ 688 = ap length ex ∙ length_bytes (next_second s) (marked_sizes s (ranged (take 688 l) (first_sound l b))) in
      let m = inside.marked g y (rw (last_kept l x y long nx ∙ last_from l b) at hy) in
      let low = lt-ltb t.base.seconds 4294967295 (omega arith) in (
        rw low (eb ∙ ap flat (both (ef ∙ ap figures_at base_is) m.0)),
        rw low (both_over l x y long nx ∙ both (ex ∙ ap (λ (z : Supervisor). bytes_of (next_second z)) base_is) m.1),
      )

  pub level_is : (n : ℕ) (r : Request) (names kept : List ℕ) (p : Options) (y : List ℕ) → length names ≡ 32 → kept ≡ bytes_in 32 0 names → p ≡ options_of r kept
      → y ≡ gave_in (take 1760 (drop 688 l)) n p → last_over l y ≡ tandem_bytes (with_level t n r names)
  unfolding tandem_bytes
  level_is n r names kept p y nn ek ep ey =
      let o : p ≡ options_of r names = ep ∙ ap (options_of r) (ek ∙ all_in 32 names nn) in
      last_over_lem l [] y long ∙ both (first_from l b) (rw (bay_is, o) at ey ∙ inside.given n (options_of r names))

  level_refusal_is : (n : ℕ) (r : Request) (names w c : List ℕ) (h : Head) (given : Bool) (six eighteen sixteen x : ℕ) → w ≡ bytes_in 32 0 (take 688 l) → h ≡ head_in w
      → c ≡ words_in 12 64 (take 688 l) → given ≡ given_in (take 1760 (drop 688 l)) n → six ≡ settings_refusal h.k r r names names
      → eighteen ≡ cond (leb 1 n && leb n 6 && not given) 0 18 → sixteen ≡ cond (not (ltb 0 h.seconds || ltb 0 (get_or c 0 0))) eighteen 16
      → x ≡ cond (eqb six 0) sixteen six → x ≡ give_refusal t n r names
  unfolding give_refusal request_refusal tandem_from load_of
  level_refusal_is n r names w c h given six eighteen sixteen x ew eh ec eg e6 e18 e16 ex =
      let k : ℕ = t.base.settings.k in
      let i = in_ranges.base.settings in
      let good : (leb 1 k && leb k 3) ≡ true = rw (le-leb 1 k i.k_least, le-leb k 3 i.k) in
      let g : given ≡ (level_at t.levels n).given = eg ∙ ap (λ (z : List ℕ). given_in z n) bay_is ∙ inside.provisioned n in
      let same : six ≡ request_refusal k r names = rw (eh, ew) at e6 ∙ request_same k r names good in
      let place : sixteen ≡ first_of (place_checks t n) = rw (e16, e18, g, eh, ew, ec) in
      ex ∙ rw (place, same) (sym (first_after 10 (request_checks k r names) (place_checks t n) refl))

  -- the refusals of a level by what is read of the bytes
  pub give_by : (n : ℕ) (r : Request) (names c : List ℕ) (h : Head) (given : Bool) → h ≡ head_in (bytes_in 32 0 (take 688 l)) → c ≡ words_in 12 64 (take 688 l)
      → given ≡ given_in (take 1760 (drop 688 l)) n
      → give_refusal t n r names
      ≡ cond (eqb (settings_refusal h.k r r names names) 0)
      (cond (not (ltb 0 h.seconds || ltb 0 (get_or c 0 0))) (cond (leb 1 n && leb n 6 && not given) 0 18) 16)
      (settings_refusal h.k r r names names)
  give_by n r names c h given eh ec eg = sym (level_refusal_is n r names (bytes_in 32 0 (take 688 l)) c h given _ _ _ _ refl eh ec eg refl refl refl refl)

  -- and where all but the last of its tests passed
  pub give_last : (n : ℕ) (r : Request) (names c : List ℕ) (h : Head) (given : Bool) (x : Result (Unit {0}) Refusal) → h ≡ head_in (bytes_in 32 0 (take 688 l))
      → c ≡ words_in 12 64 (take 688 l) → given ≡ given_in (take 1760 (drop 688 l)) n → settings_refusal h.k r r names names ≡ 0
      → not (ltb 0 h.seconds || ltb 0 (get_or c 0 0)) ≡ true → x ≡ cond (leb 1 n && leb n 6 && not given) (Ok tt) (Err UnknownLevel) → said x ≡ give_refusal t n r names
  give_last n r names c h given x eh ec eg z s ex =
      let e : said x ≡ cond (leb 1 n && leb n 6 && not given) 0 18 = ap said ex ∙ said_cond (leb 1 n && leb n 6 && not given) UnknownLevel in
      e ∙ sym (give_by n r names c h given eh ec eg ∙ rw (z, s))

  pub level_traced_lem : (n : ℕ) → traced_in (take 1760 (drop 688 l)) n ≡ level_traced t n
  level_traced_lem n = ap (λ (z : List ℕ). traced_in z n) bay_is ∙ inside.traced n

  pub told_is : (n : ℕ) (ssf given : Bool) (d : LevelStands) (a : LevelActions) (c : LevelCauses) (w : ℕ) → ssf ≡ ssf_now (load_of (take 688 l)) (get_or l 688 0)
      → given ≡ given_in (take 1760 (drop 688 l)) n → d ≡ stands_in (take 1760 (drop 688 l)) n ssf → a ≡ level_actions d → c ≡ level_causes d → w ≡ level_word given d a c
      → w ≡ told_word (level_report t n)
  unfolding level_report
  told_is n ssf given d a c w es eg ed ea ec ew =
      let f : get_or l 688 0 ≡ t.flags = flags_is in
      let s : ssf ≡ ssf_now t.base t.flags = es ∙ rw (f, base_is) in
      let g = eg ∙ ap (λ (z : List ℕ). given_in z n) bay_is ∙ inside.provisioned n in
      let o = ed ∙ ap (λ (z : List ℕ). stands_in z n ssf) bay_is ∙ inside.stands n ssf in
      ew ∙ rw (ea, ec, g, o, s)
