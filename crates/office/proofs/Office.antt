-- What `quarters` prints is by plain sums. Assumes nothing.
use Prim.Native.Nat.{ℕ, zero, suc, ◌+◌, ◌≤◌, ◌<◌}
use mathlib.Core.Path.{◌≡◌, refl, sym, ap, ap₂, subst⁻¹, ◌∙◌}
use mathlib.Core.Bool.{Bool, true, false, cond}
use mathlib.Core.List.{List, [], ◌∷◌, ◌++◌, map, map-append, append_assoc, append-nil}
use native.Mathlib.Omega.{arith}
use lib.Dec.{eqb}
use lib.ListN.{length, get_or}
use Rattle.summary.specs.Summary.{second_of}
use Rattle.summary.specs.Stretch.{summary_of, LayerIn, SecondIn, Numbered}
use Rattle.summary.proofs.Stretch.{second_alone}
use Rattle.settings.specs.Ranges.{SettingsIn}
use Rattle.settings.specs.declared.Settings.{Settings}
use Rattle.supervisor.specs.Supervisor.{fresh_of}
use Rattle.tandem.specs.Levels.{listed_of}
use Rattle.tandem.specs.Tandem.{fresh_tandem}
use Rattle.tandem.specs.declared.Level.{Level}
use Rattle.watch.specs.Watch.{LevelCall, AllTaken, events_among}
use Rattle.late.specs.Late.{pending_of}
use Rattle.reports.specs.Reports.{marks_in, before_mark, second_at, up_to, report_of}
use Rattle.record.specs.Record.{record_of, records_of, size_of, frames_in}
use Rattle.record.specs.declared.Record.{Record}
use Rattle.trace.specs.Scan.{start_of, taken_of}
use Rattle.trace.specs.declared.State.{State}
use Rattle.trace.specs.Scan.{Taken}
use Rattle.bins.specs.Bins.{no_bins, rest_lines}
use Rattle.bins.specs.declared.Bins.{Bins}
use Rattle.stream.specs.Stream.{Note, second, last_listed, pending_listed, listed_in, Scan, before, stopped, noted, scan_over, scan_of}
use Rattle.stream.specs.Figures.{figures_told, lines_in, calls_of, settings_in}
use Rattle.stream.specs.Counts.{Counted}
use Rattle.stream.proofs.Counts.{start_counted, comes}
use Rattle.stream.proofs.Figures.{Comes, since, never, read, reader_demand_3}
use Rattle.stretch.specs.Stretches.{seconds_from}
use Rattle.stretch.proofs.Figures.{fourteen, fifteen, nineteen, twenty}
use Rattle.stretch.proofs.Stretches.{up_to_lem, last_is, numbered, second_in}
use Rattle.lines.specs.Line.{line_by, open_after, lines_of, open_over, office_end, last_closed, last_lines, end_lines}
use Rattle.lines.proofs.Offices.{listed_at, listed_with}
use Rattle.reading.specs.Listing.{printed_of}
use Rattle.reading.proofs.Turns.{lines_append, open_append}
use Rattle.office.specs.Office.{closed_to, open_to, by_sums, EveryBySums}
use Rattle.office.proofs.Opens.{Alone, all_lines}

-- Where only seconds are told, all that is told are seconds.
abbrev OnlySeconds : List Note → Type 0
OnlySeconds l = l ≡ map second (figures_told l)

only_one : (b : Bool) (f : List ℕ) (l : List Note) → OnlySeconds l → OnlySeconds (cond b (second f ∷ []) [] ++ l)
only_one true f l h = ap (λ (k : List Note). second f ∷ k) h
only_one false f l h = h

only_over : (rs : List (List ℕ)) (at n : ℕ) (st : State) → OnlySeconds (scan_over false rs at n st).told
unfolding scan_over
only_over [] at n st = refl
only_over (ys ∷ rs) at n st = by (eqb t.refusal 0) (only_over rs (at + size_of r) (n + frames_in r) t.state)
  where
    r : Record
    r = record_of ys

    t : Taken
    t = taken_of st ys

    on : Scan
    on = scan_over false rs (at + size_of r) (n + frames_in r) t.state

    by : (b : Bool) → OnlySeconds on.told → OnlySeconds (cond b (before (noted false (n + frames_in r) st t) on) (stopped st at n t.refusal ys)).told
    by true h = only_one t.told (last_listed t.state) on.told h
    by false h = refl

-- The end of a scan: the pending second as one that is told, and the lines of what is open then.
end_is : (b : Bins) (ls : List Level) (t : Bool) (v : List ℕ) → 22 ≤ length v
    → cond t (last_closed b v) (rest_lines b)
    ≡ lines_of true b (map second (map (listed_of ls) (cond t (v ∷ []) []))) ++ rest_lines (open_over b (map second (map (listed_of ls) (cond t (v ∷ []) []))))
unfolding lines_of open_over line_by open_after
end_is b ls true v h = rw (listed_with ls v h b, listed_at ls v h 0 (omega arith), append-nil)
end_is b ls false v h = refl

office_end_lem : (b : Bins) (st : State) → length st.sup.pending ≡ 51
    → office_end b st ≡ lines_of true b (map second (pending_listed st)) ++ rest_lines (open_over b (map second (pending_listed st)))
unfolding pending_of
office_end_lem b st h = end_is b st.sup.tandem.levels (pending_of st.sup).told (pending_of st.sup).figures (omega (arith, h))

-- Figures that are listed keep their bounds.
module _ (ls : List Level) (f : List ℕ) (long : 22 ≤ length f) where
  listed_most : (most i : ℕ) → i < 22 → get_or f i 0 ≤ most → get_or (listed_of ls f) i 0 ≤ most
  listed_most most i l h = omega (arith, listed_at ls f long i l, h)

  layer_in : (i : ℕ) → i + 4 < 22 → LayerIn f i → LayerIn (listed_of ls f) i
  layer_in i l h = record {
    near = listed_most 400000 i (omega arith) h.near;
    far = listed_most 400000 (i + 1) (omega arith) h.far;
    sum = listed_most 3200000 (i + 4) l h.sum;
  }

  listed_in_lem : SecondIn f → SecondIn (listed_of ls f)
  listed_in_lem h = record {
    frames = listed_most 400000 1 (omega arith) h.frames;
    heads = λ i k. listed_most 400000 (i + 2) (omega arith) (h.heads i k);
    section = layer_in 12 (omega arith) h.section;
    path = layer_in 17 (omega arith) h.path;
  }

-- The seconds of accepted calls, listed.
module _ (p : Settings) (v : SettingsIn p) (cs : List LevelCall) (a : AllTaken (fresh_tandem (fresh_of p)) cs) (ls : List Level) where
  abbrev listed : ℕ → ℕ → List (List ℕ)
  listed i n = map (listed_of ls) (seconds_from p cs i n)

  long_second : (i : ℕ) → 22 ≤ length (second_at p cs i)
  unfolding report_of
  long_second i = omega arith

  listed_low : (i j : ℕ) → j < 22 → get_or (second_at p cs i) j 0 ≤ 1 → get_or (listed_of ls (second_at p cs i)) j 0 ≤ 1
  listed_low i j = listed_most ls (second_at p cs i) (long_second i) 1 j

  listed_alone : (i : ℕ) → second_of (listed_of ls (second_at p cs i)) ≡ summary_of (listed_of ls (second_at p cs i) ∷ [])
  listed_alone i =
      second_alone (listed_of ls (second_at p cs i))
      (listed_low i 14 (omega arith) (fourteen p (before_mark i cs) _))
      (listed_low i 15 (omega arith) (fifteen p (before_mark i cs) _))
      (listed_low i 19 (omega arith) (nineteen p (before_mark i cs) _))
      (listed_low i 20 (omega arith) (twenty p (before_mark i cs) _))

  listed_numbered : (i n : ℕ) → 1 ≤ i → i + n ≤ marks_in cs + 1 → Numbered i (listed i n)
  unfolding seconds_from
  listed_numbered i zero low high = tt
  listed_numbered i (suc n) low high =
      let one : i ≤ marks_in cs = omega (arith, high) in (
        listed_at ls (second_at p cs i) (long_second i) 0 (omega arith) ∙ numbered p v cs a i low one,
        (listed_in_lem ls (second_at p cs i) (long_second i) (second_in p v cs a i low one), listed_numbered (suc i) n (omega arith) (omega (arith, high))),
      )

  all_alone : (i n : ℕ) → Alone (listed i n)
  unfolding seconds_from
  all_alone i zero = tt
  all_alone i (suc n) = (listed_alone i, all_alone (suc i) n)

  listed_long : (i n : ℕ) → length (listed i n) ≡ n
  unfolding seconds_from
  listed_long i zero = refl
  listed_long i (suc n) = omega (arith, listed_long (suc i) n)

-- The lines of seconds, and of what is open then, are by plain sums.
abbrev BySums : List (List ℕ) → Type 0
BySums ss = lines_of true no_bins (map second ss) ++ rest_lines (open_over no_bins (map second ss)) ≡ closed_to ss (length ss) ++ open_to ss (length ss)

by_calls : (p : Settings) (cs : List LevelCall) (st : State) → Comes p cs st → AllTaken (fresh_tandem (fresh_of p)) cs → BySums (map (listed_in st) (map (second_at p cs) (up_to (marks_in cs))))
unfolding up_to events_among
by_calls p cs st (since v e) a =
    let ls : List Level = st.sup.tandem.levels in
    let m : ℕ = marks_in cs in
    let l : length (listed p v cs a ls 1 m) ≡ m = listed_long p v cs a ls 1 m in
    let last : length (listed p v cs a ls 1 m) ≤ 4294967295 = omega (arith, l, last_is p v cs a) in
    subst⁻¹ (λ (ss : List (List ℕ)). BySums (map (listed_in st) ss)) (up_to_lem p cs m)
    (all_lines (listed p v cs a ls 1 m) last (listed_numbered p v cs a ls 1 m (omega arith) (omega arith)) (all_alone p v cs a ls 1 m))
by_calls p cs st (never none start) a = rw none (all_lines [] (omega arith) tt tt)

pub every_by_sums : EveryBySums
unfolding printed_of last_lines by_sums
every_by_sums xs =
    let c : Scan = scan_of false xs in
    let told : List (List ℕ) = figures_told c.told in
    let late : List (List ℕ) = pending_listed c.state in
    let ss : List (List ℕ) = lines_in c in
    let end : List ℕ = end_lines c.refusal c.at c.state.sup.tandem.base.seconds c.frames in
    let b : Bins = open_over no_bins (map second told) in
    let o = read false xs in
    let only : c.told ≡ map second told = only_over (records_of xs) 0 0 start_of in
    let k : Counted c.at c.frames c.state = (comes false xs 0 0 start_of start_counted).counted in
    let both : map second ss ≡ map second told ++ map second late = map-append second told late in
    let sums : BySums ss = subst⁻¹ BySums (reader_demand_3 false xs).figures (by_calls (settings_in xs) (calls_of xs) c.state o.comes o.accepted) in
    let whole : lines_of true no_bins (map second ss) ++ rest_lines (open_over no_bins (map second ss)) ≡ lines_of true no_bins (map second told) ++ office_end b c.state =
    ap (λ (l : List Note). lines_of true no_bins l ++ rest_lines (open_over no_bins l)) both
    ∙ ap₂ (λ (x : List ℕ) (u : Bins). x ++ rest_lines u) (lines_append true no_bins (map second told) (map second late)) (open_append no_bins (map second told) (map second late))
    ∙ append_assoc (lines_of true no_bins (map second told)) (lines_of true b (map second late)) (rest_lines (open_over b (map second late)))
    ∙ ap (λ (x : List ℕ). lines_of true no_bins (map second told) ++ x) (sym (office_end_lem b c.state k.pending)) in
    ap (λ (l : List Note). lines_of true no_bins l ++ (office_end (open_over no_bins l) c.state ++ end)) only
    ∙ sym (append_assoc (lines_of true no_bins (map second told)) (office_end b c.state) end)
    ∙ ap (λ (x : List ℕ). x ++ end) (sym whole ∙ sums)
