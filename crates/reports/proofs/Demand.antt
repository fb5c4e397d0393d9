-- Demand 3 of a second's figures, whatever the second behind it is. Assumes nothing.
use Prim.Native.Nat.{ℕ, zero, suc, ◌+◌}
use mathlib.Core.Path.{◌≡◌, refl, sym, ap, ◌∙◌, subst}
use mathlib.Core.List.{List, [], ◌∷◌}
use native.Mathlib.Omega.{arith}
use lib.Dec.{lit<}
use lib.ListN.{length, get_or}
use Rattle.second.specs.Second.{closed_of, figures_of}
use Rattle.second.specs.declared.Second.{Second}
use Rattle.settings.specs.Ranges.{SettingsIn}
use Rattle.settings.specs.declared.Settings.{Settings}
use Rattle.supervisor.specs.Supervisor.{fresh_of}
use Rattle.supervisor.specs.declared.Supervisor.{Supervisor}
use Rattle.history.specs.History.{Event, after}
use Rattle.history.specs.Ledger.{sum_of, Says}
use Rattle.history.proofs.Ledger.{demand_3}
use Rattle.page.specs.Page as page
use Rattle.page.proofs.Back.{sup, AcceptedBack, after_back}
use Rattle.page.proofs.Seconds.{figures_are}
use Rattle.tandem.specs.Tandem.{fresh_tandem}
use Rattle.watch.specs.Watch.{LevelCall, AllTaken}
use Rattle.reports.specs.Reports.{plain_of, Next, report_of, LineDemand3}
use Rattle.reports.proofs.Figures.{accepted_is}

-- the numbers of a list, one by one
sum_to : ℕ → (ℕ → ℕ) → ℕ
sum_to zero f = 0
sum_to (suc n) f = f 0 + sum_to n (λ k. f (suc k))

sum_each : (l : List ℕ) → sum_of l ≡ sum_to (length l) (λ k. get_or l k 0)
unfolding sum_to
sum_each [] = refl
sum_each (x ∷ l) = ap (λ (n : ℕ). x + n) (sum_each l)

-- the figures of a closed second
closed_line : (n : ℕ) (c : Second) {s : Supervisor} {fs : List _} → Says s fs c → LineDemand3 (figures_of n c)
unfolding sum_to
closed_line n c y =
    let ten : sum_of c.heads ≡ sum_to 10 (λ k. get_or c.heads k 0) =
    sum_each c.heads ∙ ap (λ (m : ℕ). sum_to m (λ k. get_or c.heads k 0)) y.ten in
    let first = y.heads 0 (lit< tt) in
    let last = y.heads 9 (lit< tt) in
    record {
      sum = sym ten ∙ y.sum ∙ sym y.frames;
      near_most = omega (arith, y.near_most, first, last);
      far_most = omega (arith, y.far_most, first, last);
    }

-- and so of the calls before its mark
pub line_demand : (p : Settings) → SettingsIn p → (cs : List LevelCall) → AllTaken (fresh_tandem (fresh_of p)) cs → (next : Next)
    → LineDemand3 (report_of p cs next)
unfolding report_of
line_demand p v cs a next =
    let k : List Event = plain_of cs in
    let ok : AcceptedBack p k = accepted_is p v cs a in
    let d = demand_3 p _ ok in
    let y : Says (after (fresh_of p) d.since.before) d.since.frames (closed_of (sup p k).second) =
    subst (λ (s : Supervisor). Says (after (fresh_of p) d.since.before) d.since.frames (closed_of s.second)) (after_back p k) d.says in
    let line : LineDemand3 (page.figures p k) =
    subst (λ (l : List ℕ). LineDemand3 l) (figures_are p v k ok) (closed_line ((sup p k).seconds + 1) (closed_of (sup p k).second) y) in
    record { sum = line.sum; near_most = line.near_most; far_most = line.far_most }
