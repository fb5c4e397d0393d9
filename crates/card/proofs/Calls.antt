-- The ways out of each call: 17, accepted, refused. Assumes nothing.
use mathlib.Core.Path.{◌≡◌, refl, sym, ap, ◌∙◌, subst}
use mathlib.Core.Bool.{Bool, true, false, cond, ◌&&◌}
use mathlib.Core.List.{List, [], ◌∷◌, ◌++◌}
use Prim.Native.Nat.{ℕ, zero, suc, ◌+◌, ◌≤◌, ◌<◌}
use native.Mathlib.Nat.{zero-add}
use native.Mathlib.Omega.{arith}
use lib.Dec.{eqb, leb, ltb}
use lib.ListN.{length, get_or, take, drop}
use lib.Seq.{length-take-le}
use borrow.Author.Tests.{eq-eqb, ne_eqb, eqb-true, lt-ltb, le-ltb}
use Rattle.answer.proofs.Cond.{by_cond}
use Rattle.answer.specs.Refusal.{number_of}
use Rattle.answer.specs.declared.Refusal.{Refusal}
use Rattle.answer.proofs.Numbers.{number_above}
use Rattle.codec.specs.Over.{bytes_in, poured}
use Rattle.codec.proofs.Overs.{poured_all, bytes_room, length_in}
use Rattle.words.specs.Words.{flat, words_of, words_in}
use Rattle.words.proofs.Words.{words_room}
use Rattle.settings.specs.declared.Request.{Request}
use Rattle.supervisor.specs.Supervisor.{Provisioned, Traced, layer_at, provision_of}
use Rattle.layer.specs.declared.Layer.{Layer}
use Rattle.supervisor.specs.declared.Supervisor.{Supervisor}
use Rattle.numbers.specs.declared.Head.{Head}
use Rattle.numbers.specs.declared.State.{State}
use Rattle.numbers.specs.Numbers.{head_in, state_in}
use Rattle.numbers.specs.Held.{held_in}
use Rattle.image.specs.Image.{load_of}
use Rattle.image.proofs.Parts.{bytes_in_bytes}
use Rattle.word.specs.Report.{report_word}
use Rattle.tandem.specs.Levels.{level_at}
use Rattle.tandem.specs.Tandem.{fresh_tandem, TandemStepped, give_refusal, with_level, given_by, frame_refusal, framed_of, level_report, level_traced}
use Rattle.tandem.specs.declared.Tandem.{Tandem}
use Rattle.engines.specs.Engines.{framed_by_table}
use Rattle.engines.proofs.Engines.{engines_alike}
use Rattle.bay.specs.Bay.{record_at, given_in, traced_in}
use Rattle.bays.specs.Image.{tandem_bytes, tandem_from}
use Rattle.late.specs.Late.{fresh_late, next_report, pending_of, late_marked}
use Rattle.slots.specs.Image.{late_bytes, late_from, late_sound}
use Rattle.slots.proofs.Trip.{late_bytes_lem, tandem_sound_lem}
use Rattle.card.specs.Calls.{tandem_of, Provision, provision_refusal, fresh_refusal, fresh_by, fresh_sup, FreshCall, level_refusal, level_sup, LevelCall, call_refusal, call_answer, call_sup, StepCall, mark_refusal, mark_answer, mark_sup, mark_record, MarkCall, pending_refusal, pending_answer, pending_record, PendingCall, trace_refused, trace_out, TraceCall, told_refusal, told_word, told_answer, LevelReportCall, traced_at, level_trace_refused, level_trace_out, LevelTraceCall}
use Rattle.card.proofs.Halves.{level_traced_lem}
use Rattle.card.proofs.Late.{mark_accepted, base_here, bay_here, tandem_here, slot_kept}

-- no refusal's number is 0
above_lem : (e : Refusal) → eqb (number_of e) 0 ≡ false
above_lem e = let h = number_above e in ne_eqb (number_of e) 0 (λ z. omega (arith, h, z))

-- an answer by value that is one thing where the refusal is 0 and another where it is not has that refusal
settled : (A : Type 0) (numbered : A → ℕ) (n : ℕ) (x y : A) → numbered x ≡ 0 → numbered y ≡ n → numbered (cond (eqb n 0) x y) ≡ n
settled A numbered n x y p q = by_cond (λ (a : A). numbered a ≡ n) (eqb n 0) (λ t. p ∙ sym (eqb-true n 0 t)) (λ _. q)

-- what C provisions, by value: its refusal, and the fresh supervisor where it is accepted
module _ (p : Provision) where
  abbrev by_value : Provisioned
  by_value = provision_of p.k p.section p.path p.snames p.pnames

  pub provision_number : by_value.refusal ≡ provision_refusal p
  unfolding provision_of
  provision_number = settled Provisioned (λ (a : Provisioned). a.refusal) (provision_refusal p) _ _ refl refl

  pub provision_taken : provision_refusal p ≡ 0 → by_value ≡ record { refusal = 0; supervisor = fresh_by p }
  unfolding provision_of
  provision_taken e = rw e

-- otn_level

module _ (sup : List ℕ) (n : ℕ) (r : Request) (names : List ℕ) where
  pub level_done : (b : late_sound sup ≡ true) (x : List ℕ) → 0 ≡ level_refusal sup n r names → x ≡ tandem_bytes (with_level (tandem_from (take 2448 sup)) n r names)
      → LevelCall sup n r names 0 (x ++ drop 2448 sup)
  unfolding level_sup level_refusal give_refusal given_by
  level_done b x z v =
      let g : give_refusal (tandem_of sup) n r names ≡ 0 = rw b at (sym z) in
      record { answers = z; holds = rw (sym z, g) (slot_kept sup b (with_level (tandem_of sup) n r names) x (v ∙ ap (λ (t : Tandem). tandem_bytes (with_level t n r names)) (sym (tandem_here sup b)))) }

  pub level_refused : (e : Refusal) (w : ℕ) → number_of e ≡ level_refusal sup n r names → w ≡ number_of e → LevelCall sup n r names w sup
  unfolding level_sup
  level_refused e w z u = record { answers = u ∙ z; holds = rw (← z, above_lem e) }

-- otn_step_levels

-- the frames of the open second, as they are read
pub frames_are : (sup c : List ℕ) → late_sound sup ≡ true → c ≡ words_in 12 64 (take 688 sup) → get_or c 0 0 ≡ (tandem_of sup).base.second.frames.0
unfolding load_of
frames_are sup c b e = ap (λ (w : List ℕ). get_or w 0 0) e ∙ ap (λ (s : Supervisor). s.second.frames.0) (sym (base_here sup b))

module _ (sup overhead : List ℕ) (flags sm pm : ℕ) (counts : List ℕ) where
  module _ (b : late_sound sup ≡ true) (z : 0 ≡ call_refusal sup overhead flags sm pm counts) where
    pub step_accepted : frame_refusal (tandem_from (take 2448 sup)) overhead flags sm pm counts ≡ 0
    unfolding call_refusal frame_refusal late_from
    step_accepted = rw b at (sym z)

    -- the table's engine answers as the equations do
    pub step_done : (w : ℕ) (x : List ℕ) → w ≡ report_word (framed_by_table (tandem_from (take 2448 sup)) overhead flags sm pm counts).report
        → x ≡ tandem_bytes (framed_by_table (tandem_from (take 2448 sup)) overhead flags sm pm counts).tandem → StepCall sup overhead flags sm pm counts w (x ++ drop 2448 sup)
    unfolding call_answer call_sup late_from
    step_done w x u v =
        let y : call_refusal sup overhead flags sm pm counts ≡ 0 = sym z in
        let same = (engines_alike (tandem_from (take 2448 sup)) overhead flags sm pm counts).alike in
        let v' : x ≡ tandem_bytes (framed_of (tandem_from (take 2448 sup)) overhead flags sm pm counts).tandem = v ∙ ap (λ (a : TandemStepped). tandem_bytes a.tandem) same in
        record {
          answers = rw y (u ∙ ap (λ (a : TandemStepped). report_word a.report) same);
          holds = rw y (slot_kept sup b (framed_of (tandem_from (take 2448 sup)) overhead flags sm pm counts).tandem x v');
        }

  pub step_refused : (e : Refusal) (w : ℕ) → number_of e ≡ call_refusal sup overhead flags sm pm counts → w ≡ number_of e → StepCall sup overhead flags sm pm counts w sup
  unfolding call_answer call_sup
  step_refused e w z u = record { answers = rw (← z, above_lem e) u; holds = rw (← z, above_lem e) }

-- otn_mark and otn_pending

above_zero : (n : ℕ) → (n ≡ 0 → ⊥) → 0 < n
above_zero zero h = absurd (h refl)
above_zero (suc n) h = omega arith

module _ (sup out : List ℕ) where
  module _ (h : Head) (b : late_sound sup ≡ true) (g : h ≡ head_in (bytes_in 32 0 (take 688 sup))) where
    -- the head that is read is the supervisor's
    pub k_is : h.k ≡ (tandem_of sup).base.settings.k
    unfolding load_of
    k_is = ap (λ (x : Head). x.k) g ∙ ap (λ (s : Supervisor). s.settings.k) (sym (base_here sup b))

    pub seconds_is : h.seconds ≡ (tandem_of sup).base.seconds
    unfolding load_of
    seconds_is = ap (λ (x : Head). x.seconds) g ∙ ap (λ (s : Supervisor). s.seconds) (sym (base_here sup b))

    module _ (taken : 0 ≡ mark_refusal sup) (k : h.seconds < 4294967295) where
      -- what an accepted mark tells
      tells : (late_marked (late_from sup)).told ≡ ltb 0 h.seconds
      unfolding late_marked
      tells = rw (mark_accepted (tandem_of sup) (subst (λ (n : ℕ). n < 4294967295) seconds_is k), seconds_is)

      figures_told_lem : (late_marked (late_from sup)).figures ≡ next_report (late_from sup)
      unfolding late_marked
      figures_told_lem = rw (mark_accepted (tandem_of sup) (subst (λ (n : ℕ). n < 4294967295) seconds_is k))

      pub mark_told : (after bytes filled : List ℕ) → (h.seconds ≡ 0 → ⊥) → bytes ≡ flat (next_report (late_from sup)) → after ≡ late_bytes (late_marked (late_from sup)).late
          → filled ≡ poured out bytes → MarkCall sup out 256 after filled
      unfolding mark_answer mark_sup mark_record
      mark_told after bytes filled z f v p =
          let t : (late_marked (late_from sup)).told ≡ true = tells ∙ lt-ltb 0 h.seconds (above_zero h.seconds z) in
          let y = sym taken in
          record { answers = rw (y, t); holds = rw y v; fills = rw (y, t, figures_told_lem) (p ∙ ap (poured out) f) }

      pub mark_first : (after : List ℕ) → h.seconds ≡ 0 → after ≡ late_bytes (late_marked (late_from sup)).late → MarkCall sup out 0 after out
      unfolding mark_answer mark_sup mark_record
      mark_first after z v =
          let t : (late_marked (late_from sup)).told ≡ false = tells ∙ le-ltb 0 h.seconds (omega arith) in
          let y = sym taken in
          record { answers = rw (y, t); holds = rw y v; fills = rw (y, t) }

    module _ (taken : 0 ≡ pending_refusal sup) where
      pub pending_told : (pending bytes filled : List ℕ) → (h.seconds ≡ 0 → ⊥) → pending ≡ words_in 51 2448 sup → bytes ≡ flat (h.seconds ∷ pending)
          → filled ≡ poured out bytes → PendingCall sup out 256 filled
      unfolding pending_answer pending_record pending_of late_from
      pending_told pending bytes filled z ep eb p =
          let n = late_bytes_lem sup b in
          let y = sym taken in
          let t = rw seconds_is at (lt-ltb 0 h.seconds (above_zero h.seconds z)) in
          let f : bytes ≡ flat ((tandem_of sup).base.seconds ∷ words_of 51 (drop 2448 sup)) = eb ∙ rw (ep, seconds_is, words_room 51 2448 sup (omega arith)) in
          record { answers = rw (y, t); fills = rw (y, t) (p ∙ ap (poured out) f) }

      pub pending_none : h.seconds ≡ 0 → PendingCall sup out 0 out
      unfolding pending_answer pending_record pending_of
      pending_none z =
          let t = rw seconds_is at (le-ltb 0 h.seconds (omega arith)) in
          let y = sym taken in
          record { answers = rw (y, t); fills = rw (y, t) }

  pub mark_refused_lem : (e : Refusal) (w : ℕ) → number_of e ≡ mark_refusal sup → w ≡ number_of e → MarkCall sup out w sup out
  unfolding mark_answer mark_sup mark_record
  mark_refused_lem e w z u = let y = above_lem e in record { answers = rw (← z, y) u; holds = rw (← z, y); fills = rw (← z, y) }

  pub pending_refused_lem : (e : Refusal) (w : ℕ) → number_of e ≡ pending_refusal sup → w ≡ number_of e → PendingCall sup out w out
  unfolding pending_answer pending_record
  pending_refused_lem e w z u = let y = above_lem e in record { answers = rw (← z, y) u; fills = rw (← z, y) }

-- the seconds by the head that is read
pub seconds_by : (sup : List ℕ) (h : Head) → late_sound sup ≡ true → h ≡ head_in (bytes_in 32 0 (take 688 sup)) → (tandem_of sup).base.seconds ≡ h.seconds
seconds_by sup h b g = sym (seconds_is sup [] h b g)

-- otn_trace

module _ (sup : List ℕ) (b : late_sound sup ≡ true) where
  abbrev base : List ℕ
  base = take 688 sup

  long : length base ≡ 688
  long = let n = late_bytes_lem sup b in length-take-le 688 sup (omega arith)

  -- what lies within the bytes of line, section and path
  within_base : (n i : ℕ) → i + n ≤ 688 → bytes_in n i sup ≡ bytes_in n i base
  within_base n i h =
      let k = late_bytes_lem sup b in
      ap (λ (m : ℕ). bytes_in n m sup) (sym (zero-add i))
      ∙ sym (bytes_in_bytes n i 688 0 sup (omega arith) h)
      ∙ ap (bytes_in n i) (bytes_room 688 0 sup (omega arith))

  -- what stands in a layer's record is what is read from it
  known_at : (t : Bool) → (state_in (bytes_in 32 (cond t 112 400 + 32) sup)).known
      ≡ (cond t (load_of base).layers.section.layer (load_of base).layers.path.layer).known
  unfolding load_of held_in
  known_at true = ap (λ (x : List ℕ). (state_in x).known) (within_base 32 144 (omega arith) ∙ sym (bytes_in_bytes 32 32 288 112 base (omega (arith, long)) (omega arith)))
  known_at false = ap (λ (x : List ℕ). (state_in x).known) (within_base 32 432 (omega arith) ∙ sym (bytes_in_bytes 32 32 288 400 base (omega (arith, long)) (omega arith)))

  trace_at : (t : Bool) → bytes_in 64 (cond t 112 400 + 64) sup
      ≡ (cond t (load_of base).layers.section.layer (load_of base).layers.path.layer).accepted
  unfolding load_of held_in
  trace_at true = within_base 64 176 (omega arith) ∙ sym (bytes_in_bytes 64 64 288 112 base (omega (arith, long)) (omega arith))
  trace_at false = within_base 64 464 (omega arith) ∙ sym (bytes_in_bytes 64 64 288 400 base (omega (arith, long)) (omega arith))

  layer_here : (layer : ℕ) → layer_at (load_of base) layer ≡ layer_at (tandem_of sup).base layer
  layer_here layer = ap (λ (x : Supervisor). layer_at x layer) (sym (base_here sup b))

  pub trace_known : (layer at : ℕ) (s : State) → at ≡ cond (eqb layer 0) 112 400 → s ≡ state_in (bytes_in 32 (at + 32) sup)
      → (layer_at (tandem_of sup).base layer).known ≡ s.known
  trace_known layer at s a g = sym (
      ap (λ (x : State). x.known) g
      ∙ ap (λ (m : ℕ). (state_in (bytes_in 32 (m + 32) sup)).known) a
      ∙ known_at (eqb layer 0)
      ∙ ap (λ (x : Layer). x.known) (layer_here layer)
      )

  pub trace_here : (layer at : ℕ) → at ≡ cond (eqb layer 0) 112 400 → bytes_in 64 (at + 64) sup ≡ (layer_at (tandem_of sup).base layer).accepted
  trace_here layer at a = ap (λ (m : ℕ). bytes_in 64 (m + 64) sup) a ∙ trace_at (eqb layer 0) ∙ ap (λ (x : Layer). x.accepted) (layer_here layer)

module _ (sup : List ℕ) (layer : ℕ) (out : List ℕ) where
  pub trace_done : (tr after : List ℕ) → 0 ≡ trace_refused sup layer out → tr ≡ (layer_at (tandem_of sup).base layer).accepted → length tr ≡ 64 → length out ≡ 64
      → after ≡ poured out tr → TraceCall sup layer out 0 after
  unfolding trace_out
  trace_done tr after z e n o p = record { answers = z; holds = rw (sym z) (p ∙ poured_all out tr (n ∙ sym o) ∙ e) }

  pub trace_refused_lem : (e : Refusal) (w : ℕ) → number_of e ≡ trace_refused sup layer out → w ≡ number_of e → TraceCall sup layer out w out
  unfolding trace_out
  trace_refused_lem e w z u = record { answers = u ∙ z; holds = rw (← z, above_lem e) }

-- otn_level_report

module _ (sup : List ℕ) (level : ℕ) where
  pub told_done : (w : ℕ) → 0 ≡ told_refusal sup level → w ≡ told_word (level_report (tandem_from (take 2448 sup)) level) → LevelReportCall sup level w
  unfolding told_answer late_from
  told_done w z u = record { answers = rw (sym z) u }

  pub told_refused : (e : Refusal) (w : ℕ) → number_of e ≡ told_refusal sup level → w ≡ number_of e → LevelReportCall sup level w
  unfolding told_answer
  told_refused e w z u = record { answers = rw (← z, above_lem e) u }

-- otn_level_trace

-- the number of what is told of a trace
traced_refusal : (t : Tandem) (n : ℕ) → (level_traced t n).refusal ≡ cond ((level_at t.levels n).given && (level_at t.levels n).state.layer.known) 0 13
unfolding level_traced
traced_refusal t n =
    settled Traced (λ (a : Traced). a.refusal) (cond ((level_at t.levels n).given && (level_at t.levels n).state.layer.known) 0 13) _ _ refl refl

-- a trace that is read has its 64 bytes
traced_long : (b : List ℕ) (n : ℕ) → length (traced_in b n).trace ≡ 64
unfolding traced_in held_in
traced_long b n =
    by_cond (λ (v : Traced). length v.trace ≡ 64) (given_in b n)
    (λ _. by_cond (λ (v : Traced). length v.trace ≡ 64) (state_in (bytes_in 32 32 (record_at b n))).known (λ _. length_in 64 64 (record_at b n)) (λ _. refl))
    (λ _. refl)

-- what is read of the bytes is what is told
pub level_trace_is : (sup : List ℕ) (n : ℕ) → late_sound sup ≡ true → traced_in (take 1760 (drop 688 sup)) n ≡ level_traced (tandem_of sup) n
level_trace_is sup n b =
    ap (λ (x : List ℕ). traced_in x n) (sym (bay_here sup b))
    ∙ level_traced_lem (take 2448 sup) (tandem_sound_lem sup b) n
    ∙ ap (λ (t : Tandem). level_traced t n) (sym (tandem_here sup b))

-- and its number is 0 or 13
pub level_trace_known : (sup : List ℕ) (n : ℕ) → late_sound sup ≡ true
    → cond ((traced_at sup n).given && (traced_at sup n).state.layer.known) 0 13 ≡ (traced_in (take 1760 (drop 688 sup)) n).refusal
level_trace_known sup n b = sym (ap (λ (a : Traced). a.refusal) (level_trace_is sup n b) ∙ traced_refusal (tandem_of sup) n)

module _ (sup : List ℕ) (level : ℕ) (out : List ℕ) where
  pub level_trace_done : (tr after : List ℕ) → 0 ≡ level_trace_refused sup level out → tr ≡ (level_traced (tandem_of sup) level).trace → length tr ≡ 64 → length out ≡ 64
      → after ≡ poured out tr → LevelTraceCall sup level out 0 after
  unfolding level_trace_out
  level_trace_done tr after z e n o p = record { answers = z; holds = rw (sym z) (p ∙ poured_all out tr (n ∙ sym o) ∙ e) }

  pub level_trace_refused_lem : (e : Refusal) (w : ℕ) → number_of e ≡ level_trace_refused sup level out → w ≡ number_of e → LevelTraceCall sup level out w out
  unfolding level_trace_out
  level_trace_refused_lem e w z u = record { answers = u ∙ z; holds = rw (← z, above_lem e) }

-- otn_fresh

module _ (sup : List ℕ) (p : Provision) where
  pub fresh_done : (s : Supervisor) (after : List ℕ) → 0 ≡ fresh_refusal sup p → s ≡ fresh_by p → after ≡ late_bytes (fresh_late (fresh_tandem s)) → FreshCall sup p 0 after
  unfolding fresh_sup
  fresh_done s after z e w = record { answers = z; holds = rw (sym z) (w ∙ ap (λ (x : Supervisor). late_bytes (fresh_late (fresh_tandem x))) e) }

  pub fresh_refused : (e : Refusal) (w : ℕ) → number_of e ≡ fresh_refusal sup p → w ≡ number_of e → FreshCall sup p w sup
  unfolding fresh_sup
  fresh_refused e w z u = record { answers = u ∙ z; holds = rw (← z, above_lem e) }
