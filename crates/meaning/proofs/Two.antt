-- Byte 2 is byte 1. Assumes nothing.
use mathlib.Core.Path.{◌≡◌, refl, ap}
use mathlib.Core.Bool.{Bool, true, false}
use mathlib.Core.List.{List, [], ◌∷◌}
use Prim.Native.Nat.{ℕ}
use lib.Dec.{eqb, leb}
use borrow.Author.Tests.{eqb-true}
use Rattle.settings.specs.Settings.{settings_refusal, options_of}
use Rattle.settings.specs.declared.Request.{Request}
use Rattle.supervisor.specs.Supervisor.{provision_of}
use Rattle.tandem.specs.Tandem.{give_refusal, record_refusal, given_by}
use Rattle.tandem.specs.declared.Tandem.{Tandem}
use Rattle.card.specs.Calls.{fresh_refusal, fresh_sup, level_refusal, level_sup}
use Rattle.calls.specs.History.{Act, otn_fresh, otn_level, otn_step, otn_mark, otn_pending, otn_trace, otn_level_report, otn_level_trace, act_answer, act_fills, act_bytes, Use}
use Rattle.meaning.specs.Same.{Told, lent_to, kept_of, told_by, one_for, one_in, ones_in, TwoIsOne}

-- the byte with 1 for 2
abbrev one : ℕ → ℕ
one dis = (one_for (record { thr = 0; degm = 0; mode = 0; dis = dis })).dis

-- whatever 1 and 2 answer alike is answered alike
alike : (f : ℕ → Bool) → f 1 ≡ f 2 → (dis : ℕ) → f (one dis) ≡ f dis
alike f e dis = by (eqb dis 2) refl
  where
    by : (b : Bool) → eqb dis 2 ≡ b → f (one dis) ≡ f dis
    by true h = rw (eqb-true dis 2 h) e
    by false h = rw h

-- it disables where the byte does, and is refused where the byte is
off : (dis : ℕ) → leb 1 (one dis) ≡ leb 1 dis
off = alike (leb 1) refl

low : (dis : ℕ) → leb (one dis) 2 ≡ leb dis 2
low = alike (λ (d : ℕ). leb d 2) refl

kept_one : (r : Request) (names : List ℕ) → options_of r names ≡ options_of (one_for r) names
kept_one r names = rw (off r.dis)

-- the refusals
settings_one : (k : ℕ) (section path : Request) (snames pnames : List ℕ) → settings_refusal k (one_for section) (one_for path) snames pnames ≡ settings_refusal k section path snames pnames
unfolding settings_refusal
settings_one k section path snames pnames = rw (low section.dis, low path.dis)

give_one : (t : Tandem) (n : ℕ) (r : Request) (names : List ℕ) → give_refusal t n (one_for r) names ≡ give_refusal t n r names
unfolding give_refusal
give_one t n r names = rw (low r.dis)

record_one : (t : Tandem) (n : ℕ) (r : Request) (names : List ℕ) → record_refusal t n (one_for r) names ≡ record_refusal t n r names
unfolding record_refusal
record_one t n r names = rw (low r.dis)

given_one : (refusal : ℕ) (t : Tandem) (n : ℕ) (r : Request) (names : List ℕ) → given_by refusal t n (one_for r) names ≡ given_by refusal t n r names
unfolding given_by
given_one refusal t n r names = rw (off r.dis)

-- an act from C: its answer, what it fills, and what it leaves
answer_one : (l : List ℕ) (a : Act) → act_answer l (one_in a) ≡ act_answer l a
unfolding act_answer fresh_refusal level_refusal
answer_one l (otn_fresh p) = rw (low p.section.dis, low p.path.dis)
answer_one l (otn_level n r names) = rw (low r.dis)
answer_one l (otn_step f counts) = refl
answer_one l (otn_mark out) = refl
answer_one l (otn_pending out) = refl
answer_one l (otn_trace layer out) = refl
answer_one l (otn_level_report n) = refl
answer_one l (otn_level_trace n out) = refl

fills_one : (l : List ℕ) (a : Act) → act_fills l (one_in a) ≡ act_fills l a
unfolding act_fills
fills_one l (otn_fresh p) = refl
fills_one l (otn_level n r names) = refl
fills_one l (otn_step f counts) = refl
fills_one l (otn_mark out) = refl
fills_one l (otn_pending out) = refl
fills_one l (otn_trace layer out) = refl
fills_one l (otn_level_report n) = refl
fills_one l (otn_level_trace n out) = refl

bytes_one : (l : List ℕ) (a : Act) → act_bytes l (one_in a) ≡ act_bytes l a
unfolding act_bytes fresh_sup fresh_refusal level_sup level_refusal given_by give_refusal
bytes_one l (otn_fresh p) = rw (low p.section.dis, low p.path.dis, off p.section.dis, off p.path.dis)
bytes_one l (otn_level n r names) = rw (low r.dis, off r.dis)
bytes_one l (otn_step f counts) = refl
bytes_one l (otn_mark out) = refl
bytes_one l (otn_pending out) = refl
bytes_one l (otn_trace layer out) = refl
bytes_one l (otn_level_report n) = refl
bytes_one l (otn_level_trace n out) = refl

calls_one : (sup : List ℕ) (uses : List Use) → told_by act_bytes sup uses ≡ told_by act_bytes sup (ones_in uses)
unfolding told_by
calls_one sup [] = refl
calls_one sup (u ∷ us) =
    let l : List ℕ = lent_to sup u.lent in
    let first : Told = record { answer = act_answer l u.act; buffer = act_fills l u.act; bytes = act_bytes l u.act } in
    rw (answer_one l u.act, fills_one l u.act, bytes_one l u.act)
    (ap (λ (ts : List Told). first ∷ ts) (calls_one (kept_of sup u.lent (act_bytes l u.act)) us))

pub two_is_one : TwoIsOne
unfolding provision_of
two_is_one = record {
  kept = kept_one;
  provisions = λ k section path snames pnames. rw (settings_one k section path snames pnames, off section.dis, off path.dis);
  records = λ t n r names. rw (record_one t n r names, given_one (record_refusal t n r names) t n r names);
  calls = calls_one;
}
