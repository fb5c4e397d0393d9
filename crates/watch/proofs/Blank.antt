-- A level that is not provisioned: it stays blank. Assumes nothing.
use Prim.Native.Nat.{ℕ, zero, suc, ◌-◌, ◌≤◌}
use mathlib.Core.Path.{◌≡◌, refl, sym, ap, ◌∙◌}
use mathlib.Core.Bool.{Bool, true, false, not}
use mathlib.Core.List.{List, [], ◌∷◌}
use native.Mathlib.Omega.{arith}
use lib.Dec.{leb, eqb, ltb}
use lib.ListN.{length, get_or, set, replicate, length-set, get_or-replicate}
use borrow.Author.Tests.{eq-eqb}
use Rattle.answer.specs.Each.{each_from}
use Rattle.answer.proofs.Cond.{by_cond, and_left, and_right, not_so}
use Rattle.answer.proofs.Each.{each_length}
use Rattle.alignment.specs.Alignment.{frames_of}
use Rattle.layer.specs.Layer.{tim_of}
use Rattle.settings.specs.Settings.{options_of}
use Rattle.settings.specs.declared.Request.{Request}
use Rattle.causes.specs.Causes.{ssf_of, tim_acts}
use Rattle.frame.specs.Layers.{line_of, standing_of, section_stands}
use Rattle.level.specs.Level.{stands_by}
use Rattle.level.specs.Status.{status_for}
use Rattle.supervisor.specs.Supervisor.{mark_of}
use Rattle.history.specs.History.{Frame}
use Rattle.tandem.specs.Levels.{given_level, blank_level, stepped_level, marked_level, five_of, level_figures, frame_rule, mark_rule, level_at, placed_at}
use Rattle.tandem.specs.Tandem.{Given, TandemStepped, TandemMarked, fresh_tandem, given_by, framed_of, frame_refusal, marked_of, ssf_now, level_shown, level_report, level_traced}
use Rattle.tandem.specs.declared.Level.{Level}
use Rattle.tandem.specs.declared.Tandem.{Tandem}
use Rattle.watch.specs.Watch.{LevelCall, gives, records, frames, marks, framed_at, tandem_by, tandem_after, never_given, group_at, Nothing, EachUnmonitored, NoneYet}
use Rattle.watch.proofs.Alone.{at_each, at_number, group_at_lem, given_other, own_figures}

-- the levels are six, and each that is not provisioned is blank
abbrev pub Kept : Level → Type 0
Kept l = l.given ≡ false → l ≡ blank_level

abbrev pub AllKept : List Level → Type 0
AllKept [] = Unit {0}
AllKept (l ∷ ls) = Kept l × AllKept ls

abbrev pub Six : List Level → Type 0
Six ls = (length ls ≡ 6) × AllKept ls

kept_each : (rule : ℕ → Level → Level) (k : ℕ) (ls : List Level) → ((m : ℕ) (l : Level) → Kept l → Kept (rule m l)) → AllKept ls → AllKept (each_from rule k ls)
kept_each rule k [] one all = tt
kept_each rule k (l ∷ ls) one all = (one k l all.0, kept_each rule (suc k) ls one all.1)

kept_set : (ls : List Level) (i : ℕ) (l : Level) → Kept l → AllKept ls → AllKept (set ls i l)
kept_set [] i l k all = tt
kept_set (x ∷ ls) zero l k all = (k, all.1)
kept_set (x ∷ ls) (suc i) l k all = (all.0, kept_set ls i l k all.1)

kept_get : (ls : List Level) (i : ℕ) → AllKept ls → Kept (get_or ls i blank_level)
kept_get [] i all = λ _. refl
kept_get (x ∷ ls) zero all = all.0
kept_get (x ∷ ls) (suc i) all = kept_get ls i all.1

-- six levels after a frame, a mark and a provisioning
six_each : (rule : ℕ → Level → Level) (ls : List Level) → ((m : ℕ) (l : Level) → Kept l → Kept (rule m l)) → Six ls → Six (each_from rule 1 ls)
six_each rule ls one all = (each_length rule 1 ls ∙ all.0, kept_each rule 1 ls one all.1)

six_framed : (t : Tandem) (f : Frame) (counts : List ℕ) → Six t.levels → Six (framed_at t f counts).tandem.levels
unfolding framed_of stepped_level
six_framed t f counts all =
    by_cond (λ (x : TandemStepped). Six x.tandem.levels) (eqb (frame_refusal t f.overhead f.flags f.sm f.pm counts) 0)
    (λ _. six_each (frame_rule _ _ f.overhead counts) t.levels (λ m l k. by_cond Kept l.given (λ _ z. absurd (not_so z)) (λ _. k)) all)
    (λ _. all)

six_marked : (t : Tandem) → Six t.levels → Six (marked_of t).tandem.levels
unfolding marked_of marked_level
six_marked t all =
    by_cond (λ (x : TandemMarked). Six x.tandem.levels) (eqb (mark_of t.base).refusal 0)
    (λ _. six_each mark_rule t.levels (λ m l k. by_cond Kept l.given (λ _ z. absurd (not_so z)) (λ _. k)) all)
    (λ _. all)

six_placed : (ls : List Level) (n : ℕ) (l : Level) → Kept l → Six ls → Six (placed_at ls n l)
six_placed ls n l k all =
    by_cond Six (leb 1 n)
    (λ _. by_cond Six (leb n 6) (λ _. (simp length-set all.0, kept_set ls (n - 1) l k all.1)) (λ _. all))
    (λ _. all)

six_given : (refusal : ℕ) (t : Tandem) (n : ℕ) (r : Request) (names : List ℕ) → Six t.levels → Six (given_by refusal t n r names).tandem.levels
unfolding given_by
six_given refusal t n r names all =
    by_cond (λ (x : Given). Six x.tandem.levels) (eqb refusal 0)
    (λ _. six_placed t.levels n (given_level (options_of r names)) (λ z. absurd (not_so z)) all)
    (λ _. all)

pub six_call : (t : Tandem) (c : LevelCall) → Six t.levels → Six (tandem_by t c).levels
unfolding tandem_by
six_call t (gives n r names) all = six_given _ t n r names all
six_call t (records n r names) all = six_given _ t n r names all
six_call t (frames f counts) all = six_framed t f counts all
six_call t marks all = six_marked t all

six_calls : (t : Tandem) (cs : List LevelCall) → Six t.levels → Six (tandem_after t cs).levels
unfolding tandem_after
six_calls t [] all = all
six_calls t (c ∷ cs) all = six_calls (tandem_by t c) cs (six_call t c all)

kept_fresh : (n : ℕ) → AllKept (replicate n blank_level)
kept_fresh zero = tt
kept_fresh (suc n) = ((λ _. refl), kept_fresh n)

pub six_fresh : Six (replicate 6 blank_level)
six_fresh = (refl, kept_fresh 6)

-- level n is provisioned by no other call than one that asks for it
module _ (n : ℕ) (low : 1 ≤ n) (high : n ≤ 6) where
  framed_keeps : (t : Tandem) (f : Frame) (counts : List ℕ) → Six t.levels
      → (level_at t.levels n).given ≡ false → (level_at (framed_at t f counts).tandem.levels n).given ≡ false
  unfolding framed_of stepped_level
  framed_keeps t f counts all g =
      by_cond (λ (x : TandemStepped). (level_at x.tandem.levels n).given ≡ false) (eqb (frame_refusal t f.overhead f.flags f.sm f.pm counts) 0)
      (λ _. ap (λ (l : Level). l.given) (at_each (frame_rule _ _ f.overhead counts) t.levels n all.0 low high) ∙ rw g g)
      (λ _. g)

  marked_keeps : (t : Tandem) → Six t.levels → (level_at t.levels n).given ≡ false → (level_at (marked_of t).tandem.levels n).given ≡ false
  unfolding marked_of marked_level
  marked_keeps t all g =
      by_cond (λ (x : TandemMarked). (level_at x.tandem.levels n).given ≡ false) (eqb (mark_of t.base).refusal 0)
      (λ _. ap (λ (l : Level). l.given) (at_each mark_rule t.levels n all.0 low high) ∙ rw g g)
      (λ _. g)

  given_keeps : (refusal : ℕ) (t : Tandem) (m : ℕ) (r : Request) (names : List ℕ) → not (eqb m n) ≡ true
      → (level_at t.levels n).given ≡ false → (level_at (given_by refusal t m r names).tandem.levels n).given ≡ false
  given_keeps refusal t m r names ne g =
      ap (λ (l : Level). l.given) (given_other refusal t m n r names (λ (e : m ≡ n). not_so (sym (rw (eq-eqb m n e) at ne))) low high) ∙ g

  only : (t : Tandem) (cs : List LevelCall) → Six t.levels → (level_at t.levels n).given ≡ false → never_given n cs ≡ true
      → (level_at (tandem_after t cs).levels n).given ≡ false
  unfolding tandem_after tandem_by never_given
  only t [] all g never = g
  only t (gives m r names ∷ cs) all g never =
      let h = given_keeps _ t m r names (and_left (not (eqb m n)) (never_given n cs) never) g in
      only _ cs (six_call t (gives m r names) all) h (and_right (not (eqb m n)) (never_given n cs) never)
  only t (records m r names ∷ cs) all g never =
      let h = given_keeps _ t m r names (and_left (not (eqb m n)) (never_given n cs) never) g in
      only _ cs (six_call t (records m r names) all) h (and_right (not (eqb m n)) (never_given n cs) never)
  only t (frames f counts ∷ cs) all g never = only (tandem_by t (frames f counts)) cs (six_framed t f counts all) (framed_keeps t f counts all g) never
  only t (marks ∷ cs) all g never = only (tandem_by t marks) cs (six_marked t all) (marked_keeps t all g) never

  -- nothing is told of a level that is not provisioned
  pub blank_fresh : level_at (replicate 6 blank_level) n ≡ blank_level
  blank_fresh = at_number (replicate 6 blank_level) n low high ∙ get_or-replicate 6 (n - 1) blank_level blank_level (omega arith)

  no_figures : group_at (replicate 52 0) n ≡ replicate 5 0
  unfolding level_figures five_of
  no_figures = group_at_lem (replicate 22 0) (replicate 6 blank_level) n refl refl low high ∙ ap five_of blank_fresh

  zero_figures : (t : Tandem) → Six t.levels → (level_at t.levels n).given ≡ false → group_at (marked_of t).figures n ≡ replicate 5 0
  unfolding marked_of mark_of five_of
  zero_figures t all g = by (ltb t.base.seconds 4294967295) refl
    where
      by : (b : Bool) → ltb t.base.seconds 4294967295 ≡ b → group_at (marked_of t).figures n ≡ replicate 5 0
      by true e = own_figures t n all.0 low high (rw e) ∙ rw g
      by false e = rw e no_figures

  tells_nothing : (t : Tandem) → Six t.levels → (level_at t.levels n).given ≡ false → Nothing t n
  unfolding level_report level_shown level_traced
  tells_nothing t all g = let at = at_number t.levels n low high in record {
    blank = at ∙ kept_get t.levels (n - 1) all.1 (ap (λ (l : Level). l.given) (sym at) ∙ g);
    stands = rw g;
    actions = rw g;
    causes = rw g;
    trace = rw g;
    zeros = zero_figures t all g;
  }

pub unmonitored : EachUnmonitored
unmonitored s cs n low high = record {
  only = λ never. only n low high (fresh_tandem s) cs six_fresh (ap (λ (l : Level). l.given) (blank_fresh n low high)) never;
  nothing = λ g. tells_nothing n low high (tandem_after (fresh_tandem s) cs) (six_calls (fresh_tandem s) cs six_fresh) g;
}

-- a fresh supervisor has no SSF: no frames are added up, and no trace is accepted
none_counted : (k : ℕ) → eqb 0 (frames_of k) ≡ false
unfolding frames_of
none_counted k =
    by_cond (λ (n : ℕ). eqb 0 n ≡ false) (eqb k 1) (λ _. refl) (λ _. by_cond (λ (n : ℕ). eqb 0 n ≡ false) (eqb k 2) (λ _. refl) (λ _. refl))

pub none_yet_lem : NoneYet
unfolding ssf_now standing_of section_stands line_of ssf_of tim_acts tim_of level_shown stands_by status_for
none_yet_lem p o = rw (none_counted p.k)
