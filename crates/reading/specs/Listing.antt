-- What the programs print of a trace: from the bytes of the whole input to the bytes of the whole output (document 01, "Trace records and the
-- listing"; document 02, K3, K6). Assumes nothing.
use Rattle.std.specs.Prelude.{ℕ, Bool, true, false, List, ◌++◌}
use Rattle.bins.specs.Bins.{no_bins}
use Rattle.bins.specs.declared.Bins.{Bins}
use Rattle.lines.specs.Line.{lines_of, open_over, last_lines}
use Rattle.stream.specs.Stream.{Scan, scan_of}

-- the lines of a scan's end: the pending second, if there is one, or for the office what is open, the refusal, if there is one, and what was accepted
abbrev pub tail_of : Bool → Bins → Scan → List ℕ
tail_of office b c = last_lines office b c.state c.refusal c.at c.frames

-- the text of what a scan has come to, b being open before it
abbrev pub text_of : Bool → Bins → Scan → List ℕ
text_of office b c = lines_of office b c.told ++ tail_of office (open_over b c.told) c

-- what is printed of a trace
unfoldable pub printed_of : Bool → Bool → List ℕ → List ℕ
printed_of tell office xs = text_of office no_bins (scan_of tell xs)

-- the listing of a trace: its seconds are told
abbrev pub listing_of : List ℕ → List ℕ
listing_of xs = printed_of false false xs

-- its explanation: every record is told
abbrev pub explanation_of : List ℕ → List ℕ
explanation_of xs = printed_of true false xs

-- its quarter-hours and days
abbrev pub quarters_of : List ℕ → List ℕ
quarters_of xs = printed_of false true xs
