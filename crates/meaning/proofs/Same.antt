-- Explicit bytes answer as before. Assumes nothing.
use mathlib.Core.Path.{◌≡◌, refl, ap, ◌∙◌}
use mathlib.Core.List.{List, [], ◌∷◌}
use Prim.Native.Nat.{ℕ, zero, suc, ◌≤◌}
use native.Mathlib.Omega.{arith}
use Rattle.settings.specs.Settings.{disabled_of, options_of}
use Rattle.settings.specs.declared.Request.{Request}
use Rattle.supervisor.specs.Supervisor.{provision_of}
use Rattle.tandem.specs.Tandem.{given_by}
use Rattle.tandem.specs.declared.Tandem.{Tandem}
use Rattle.card.specs.Calls.{Provision, fresh_sup, level_sup}
use Rattle.calls.specs.History.{Act, otn_fresh, otn_level, otn_step, otn_mark, otn_pending, otn_trace, otn_level_report, otn_level_trace, act_answer, act_fills, act_bytes, Use}
use Rattle.record.specs.declared.Record.{Record}
use Rattle.record.specs.declared.Record.TheVariants.{Frame, Mark, Provisioning, Level, LevelFrame, Refused}
use Rattle.record.specs.Record.{record_of, body_of, level_in}
use Rattle.trace.specs.Scan.{taken_of, applied_of, provisioned_of, given_of}
use Rattle.trace.specs.declared.State.{State}
use Rattle.trace.specs.Scan.{Taken}
use Rattle.meaning.specs.Before.{disabled_before, options_before, provision_before, given_before, fresh_before, level_before, act_before, provision_asked, provisioned_before, levelled_before, applied_before, taken_before}
use Rattle.meaning.specs.Same.{Told, lent_to, kept_of, told_by, takens_by, Explicit, AllExplicit, ExplicitIn, RecordsExplicit, ExplicitSame}

-- an explicit byte
byte_same : (dis : ℕ) → dis ≤ 1 → disabled_of dis ≡ disabled_before dis
byte_same zero h = refl
byte_same (suc zero) h = refl
byte_same (suc (suc n)) h = absurd (omega arith)

options_same : (r : Request) (names : List ℕ) → r.dis ≤ 1 → options_of r names ≡ options_before r names
options_same r names h = rw (byte_same r.dis h)

given_same : (refusal : ℕ) (t : Tandem) (n : ℕ) (r : Request) (names : List ℕ) → r.dis ≤ 1 → given_by refusal t n r names ≡ given_before refusal t n r names
unfolding given_by given_before
given_same refusal t n r names h = rw (byte_same r.dis h)

provision_same : (p : Provision) → p.section.dis ≤ 1 → p.path.dis ≤ 1 → provision_of p.k p.section p.path p.snames p.pnames ≡ provision_before p
unfolding provision_of provision_before
provision_same p s q = rw (byte_same p.section.dis s, byte_same p.path.dis q)

-- From C.
acts_same : (sup : List ℕ) (a : Act) → Explicit a → act_bytes sup a ≡ act_before sup a
unfolding act_bytes act_before fresh_sup fresh_before level_sup level_before
acts_same sup (otn_fresh p) h = rw (byte_same p.section.dis h.0, byte_same p.path.dis h.1)
acts_same sup (otn_level n r names) h = rw (given_same _ _ n r names h)
acts_same sup (otn_step f counts) h = refl
acts_same sup (otn_mark out) h = refl
acts_same sup (otn_pending out) h = refl
acts_same sup (otn_trace layer out) h = refl
acts_same sup (otn_level_report n) h = refl
acts_same sup (otn_level_trace n out) h = refl

calls_same : (sup : List ℕ) (uses : List Use) → AllExplicit uses → told_by act_bytes sup uses ≡ told_by act_before sup uses
unfolding told_by
calls_same sup [] h = refl
calls_same sup (u ∷ us) h =
    let l : List ℕ = lent_to sup u.lent in
    let e : act_bytes l u.act ≡ act_before l u.act = acts_same l u.act h.0 in
    let first : List ℕ → Told = λ (b : List ℕ). record { answer = act_answer l u.act; buffer = act_fills l u.act; bytes = b } in
    ap (λ (b : List ℕ). first b ∷ told_by act_bytes (kept_of sup u.lent b) us) e
    ∙ ap (λ (ts : List Told). first (act_before l u.act) ∷ ts) (calls_same (kept_of sup u.lent (act_before l u.act)) us h.1)

-- In a trace.
applied_same : (st : State) (r : Record) (body : List ℕ) → ExplicitIn r body → applied_of st r body ≡ applied_before st r body
unfolding provisioned_of provisioned_before given_of levelled_before
applied_same st Frame body h = refl
applied_same st Mark body h = refl
applied_same st Provisioning body h = rw (provision_same (provision_asked body) h.0 h.1)
applied_same st Level body h = rw (given_same _ _ _ (level_in body) _ h)
applied_same st LevelFrame body h = refl
applied_same st (Refused n) body h = refl

records_same : (st : State) (rs : List (List ℕ)) → RecordsExplicit rs → takens_by taken_of st rs ≡ takens_by taken_before st rs
unfolding takens_by taken_of taken_before
records_same st [] h = refl
records_same st (ys ∷ rs) h =
    let e : taken_of st ys ≡ taken_before st ys = applied_same st (record_of ys) (body_of (record_of ys) ys) h.0 in
    ap (λ (t : Taken). t ∷ takens_by taken_of t.state rs) e
    ∙ ap (λ (ts : List Taken). taken_before st ys ∷ ts) (records_same (taken_before st ys).state rs h.1)

pub explicit_same : ExplicitSame
explicit_same = record { kept = options_same; calls = calls_same; records = records_same }
