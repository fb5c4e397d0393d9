-- The scan of a whole trace, and the scan of it in pieces (document 01, "Trace records and the listing"; document 02, K1, K3, K7). Assumes nothing.
use Rattle.std.specs.Prelude.{ℕ, ◌+◌, ◌≡◌, Bool, true, cond, List, [], ◌∷◌, ◌++◌, map, eqb, drop}
use Rattle.record.specs.declared.Record.{Record}
use Rattle.trace.specs.Scan.{Taken}
use Rattle.trace.specs.Scan.{Run}
use Rattle.trace.specs.declared.Stop.{Stop}
use Rattle.trace.specs.declared.Stop.TheVariants as stop
use Rattle.trace.specs.declared.State.{State}
use Rattle.record.specs.Record.{record_of, records_of, size_of, frames_in}
use Rattle.tandem.specs.Levels.{listed_of}
use Rattle.reports.specs.Reports.{end_tells}
use Rattle.trace.specs.Scan.{taken_of, start_of}

-- The figures of an S line, of the 52 of a second: "Each S line gains the four figures of every provisioned level, lowest level first" (document
-- 02, K1), and "The sum comes last in each layer's group of S fields" (K7), so they are five.
abbrev pub listed_in : State → List ℕ → List ℕ
listed_in st figures = listed_of st.sup.tandem.levels figures

-- those of the second that was reported last; and of the pending one, if there is one, which is told at the end of a scan (document 02, K3)
abbrev pub last_listed : State → List ℕ
last_listed st = listed_in st st.last

abbrev pub pending_listed : State → List (List ℕ)
pending_listed st = map (listed_in st) (end_tells st.sup)

-- What is told of an accepted record: the figures of the line of the second that was reported with it; or, where every record is told, the number of frames
-- accepted with it, and the states before and after it.
pub data Note : Type 0 where
  second : List ℕ → Note
  change : ℕ → State → State → Note

-- What a scan has come to: what was told, the state, the offset where it stands, the frames accepted, the refusal there (0: none), and the
-- bytes from there on.
pub record Scan : Type 0 where
  pub told : List Note
  pub state : State
  pub at : ℕ
  pub frames : ℕ
  pub refusal : ℕ
  pub rest : List ℕ

-- a scan that stands where it began
abbrev pub stopped : State → ℕ → ℕ → ℕ → List ℕ → Scan
stopped st at n refusal rest = record { told = []; state = st; at = at; frames = n; refusal = refusal; rest = rest }

-- a scan that follows what was told
abbrev pub before : List Note → Scan → Scan
before l c = record { told = l ++ c.told; state = c.state; at = c.at; frames = c.frames; refusal = c.refusal; rest = c.rest }

-- what is told of an accepted record, n frames being accepted with it, and the state before it being st
abbrev pub noted : Bool → ℕ → State → Taken → List Note
noted tell n st t = cond t.told (second (last_listed t.state) ∷ []) (cond tell (change n st t.state ∷ []) [])

-- The scan of records at an offset, n frames before it. "The scan ends at the first record refused."
unfoldable pub scan_over : Bool → List (List ℕ) → ℕ → ℕ → State → Scan
scan_over tell [] at n st = stopped st at n 0 []
scan_over tell (ys ∷ rs) at n st =
    let r : Record = record_of ys in
    let t : Taken = taken_of st ys in
    cond (eqb t.refusal 0)
    (before (noted tell (n + frames_in r) st t) (scan_over tell rs (at + size_of r) (n + frames_in r) t.state))
    (stopped st at n t.refusal ys)

-- the scan of a list of bytes
abbrev pub scan_from : Bool → List ℕ → ℕ → ℕ → State → Scan
scan_from tell xs at n st = scan_over tell (records_of xs) at n st

-- the scan of a whole trace
abbrev pub scan_of : Bool → List ℕ → Scan
scan_of tell xs = scan_from tell xs 0 0 start_of

-- a scan goes on with more bytes where nothing was refused or the record was cut (14)
abbrev pub goes_on : ℕ → Bool
goes_on n = cond (eqb n 0) true (eqb n 14)

-- the scan of what is left of a scan with more bytes after it, from where it stands
abbrev pub onward : Bool → Scan → List ℕ → Scan
onward tell c ys = scan_from tell (c.rest ++ ys) c.at c.frames c.state

-- a scan with more bytes
unfoldable pub resume : Bool → Scan → List ℕ → Scan
resume tell c ys =
    cond (goes_on c.refusal)
    (before c.told (onward tell c ys))
    (record { told = c.told; state = c.state; at = c.at; frames = c.frames; refusal = c.refusal; rest = c.rest ++ ys })

-- a scan of pieces, one after the other, each as it comes
unfoldable pub feed_of : Bool → Scan → List (List ℕ) → Scan
feed_of tell c [] = c
feed_of tell c (p ∷ ps) = feed_of tell (resume tell c p) ps

unfoldable pub together : List (List ℕ) → List ℕ
together [] = []
together (p ∷ ps) = p ++ together ps

-- The law of the stream: however a trace is cut into a first piece and more, feeding them one by one gives the scan of the whole.
abbrev pub InAnyPieces : Bool → List ℕ → List (List ℕ) → Type 0
InAnyPieces tell xs ps = feed_of tell (scan_of tell xs) ps ≡ scan_of tell (xs ++ together ps)

-- What a run over a buffer's records has come to, as a scan: the buffer starts at the offset base, with n frames before it, and the run
-- began in the state st.
unfoldable pub scan_after : Bool → ℕ → ℕ → State → List ℕ → Run → Scan
scan_after tell base n st s r = by_stop r.stop
  where
    on : Scan
    on = scan_from tell (drop r.at s) (base + r.at) (n + r.frames) r.state

    by_stop : Stop → Scan
    by_stop stop.More = stopped r.state (base + r.at) (n + r.frames) 0 (drop r.at s)
    by_stop (stop.Refused number offset) = stopped r.state (base + offset) (n + r.frames) number (drop offset s)
    by_stop stop.Reported = before (second (last_listed r.state) ∷ []) on
    by_stop stop.Told = before (change (n + r.frames) st r.state ∷ []) on
