-- Document 01 on one page: what is answered after every history, by its frames and marks, without a counter and without a state. A history
-- is a list of accepted frames and marks. It, and every list made of it, has the latest first. Assumes nothing.
use Rattle.std.specs.Prelude.{◌≡◌, ◌↔◌, Bool, true, false, cond, not, ◌&&◌, ◌||◌, List, [], ◌∷◌, map, reverse, ℕ, ◌+◌, ◌/◌, ◌%◌, ◌<◌, leb, ltb, eqb, length, replicate}
use Rattle.answer.specs.Bits.{flag}
use Rattle.answer.specs.Checks.{check, first_of}
use Rattle.overhead.specs.declared.Field.{Field}
use Rattle.overhead.specs.Overhead.{byte_at, three_of, overhead_of, far_block}
use Rattle.filter.specs.Since.{On, Given, bits_since, row, on_by}
use Rattle.filter.specs.Stood.{AcceptedValue, none, value, Told, values_since, last_three}
use Rattle.alignment.specs.Alignment.{frames_of}
use Rattle.alignment.specs.Since.{oofs, since_row}
use Rattle.alignment.specs.Framed.{Signs, Framed, in_frame_by}
use Rattle.alignment.specs.Numbered.{Look, Place, out, number, Numbered, place_by}
use Rattle.layer.specs.Traced.{Turn, AcceptedTrace, none as no_trace, trace, turns_since, accepted_by, tim_by}
use Rattle.signal.specs.Signal.{signal_of, is_ais, is_oci, is_lck}
use Rattle.signal.specs.declared.Signal.{Signal}
use Rattle.signal.specs.declared.Signal.TheVariants.{Clear}
use Rattle.causes.specs.Causes.{no_report}
use Rattle.causes.specs.declared.Report.{Report}
use Rattle.settings.specs.declared.Settings.{Settings}
use Rattle.settings.specs.Ranges.{SettingsIn}
use Rattle.supervisor.specs.Supervisor.{fresh_of}
use Rattle.history.specs.History.{Frame, Event, frame, mark, Call, does, reads, Answer, stepped, marked, traced, answer_of, reached, Accepted}
use Rattle.history.specs.Ledger.{marks}

-- what a question says of each frame of a list, by the frame and the frames before it
unfoldable pub each : {A : Type 0} → (Frame → List Frame → A) → List Frame → List A
each q [] = []
each q (f ∷ l) = q f l ∷ each q l

-- the frames of a history
unfoldable pub frames_back : List Event → List Frame
frames_back [] = []
frames_back (frame f ∷ h) = f ∷ frames_back h
frames_back (mark ∷ h) = frames_back h

-- One frame's overhead.

-- "columns 2 to 5", and of them "columns 3 to 5"
abbrev pub signs : Frame → Signs
signs f = record { two = eqb (byte_at f.overhead 1 2) 0xF6; three = three_of f.overhead }

-- "column 7 MFAS"; SM and PM
abbrev pub mfas : Frame → ℕ
mfas f = (overhead_of f.overhead).mfas

abbrev pub sm : Frame → Field
sm f = (overhead_of f.overhead).section

abbrev pub pm : Frame → Field
pm f = (overhead_of f.overhead).path

-- "a flags byte (value 1: line signal fail, TSF-P; value 2: OTUk-AIS; both may stand)"
abbrev pub tsf_p : Frame → Bool
tsf_p f = eqb (f.flags % 2) 1

abbrev pub otuk_ais : Frame → Bool
otuk_ais f = eqb (f.flags / 2 % 2) 1

-- Alignment. "Every state below is the state after the frame."

-- Frame. "OOF becomes IF at a frame with columns 2 to 5 = F6 F6 28 28 that directly follows another such frame, both met in OOF. IF becomes OOF
-- at the fifth frame in a row without columns 3 to 5 = F6 28 28." After the frames l, IF or OOF
abbrev pub in_frame : List Frame → Bool
in_frame l = in_frame_by (map signs l)

-- Multiframe. "While OOF, MFAS is not looked at: IM or OOM stays, the run of mismatches stays, and the previous MFAS is forgotten. While IF and
-- OOM, IM is entered when MFAS is the previous frame's plus 1 modulo 256, the local number becomes MFAS and the run of mismatches starts at zero.
-- In IM the local number grows by 1 modulo 256 each frame, also in OOF. The fifth mismatch in a row (MFAS not the local number) gives OOM, and
-- that MFAS is the new previous one." After the frames l, OOM, or IM with its local number
abbrev pub look : Frame → List Frame → Look
look f l = record { looked = in_frame (f ∷ l); mfas = mfas f }

abbrev pub place : List Frame → Place
place l = place_by (each look l)

abbrev pub in_multi : List Frame → Bool
in_multi l = numbered (place l)
  where
    numbered : Place → Bool
    numbered out = false
    numbered (number n) = true

abbrev pub local_number : List Frame → ℕ
local_number l = number_in (place l)
  where
    number_in : Place → ℕ
    number_in out = 0
    number_in (number n) = n

-- All that follows is under the settings p.
module _ (p : Settings) where
  -- "N is 62, 247, 989 frames for k = 1, 2, 3"
  abbrev pub N : ℕ
  N = frames_of p.k

  -- dLOF. "Frames in OOF are added up. At N in total dLOF is raised; the total stops at N. N frames in a row in IF set the total to zero and clear
  -- dLOF; shorter IF stretches neither add nor reset": at least N frames in OOF since the last N in a row in IF, or since the start
  abbrev pub dLOF : List Frame → Bool
  dLOF l = leb N (oofs (since_row N (each (λ f m. in_frame (f ∷ m)) l)))

  -- dLOM: "N frames in a row in OOM raise it; IM clears it at once."
  abbrev pub dLOM : List Frame → Bool
  dLOM l = row N false (each (λ f m. in_multi (f ∷ m)) l)

  -- "Section SSF stands when TSF-P, OTUk-AIS, dLOF or dLOM stands." In the frame f, after the frames l
  abbrev pub section_ssf : Frame → List Frame → Bool
  section_ssf f l = tsf_p f || otuk_ais f || dLOF (f ∷ l) || dLOM (f ∷ l)

  -- Accepted values and defects. "Order in a frame: alignment, section, path." "Where a defect is 'false during' X, its run and accepted value
  -- are forgotten too in each such frame".

  -- Section trace. "TTI byte number is the local number modulo 64. A cycle is 64 frames, all in IM, from number 0 to 63. Three equal cycles in a row
  -- are accepted at the last frame of the third. OOM drops the cycle and the run, not the accepted trace."
  abbrev pub section_turn : Frame → List Frame → Turn
  section_turn f l = record { forget = section_ssf f l; inmulti = in_multi (f ∷ l); number = local_number (f ∷ l); tti = (sm f).tti }

  abbrev pub section_trace : List Frame → AcceptedTrace
  section_trace l = accepted_by (turns_since (each section_turn l))

  -- "dTIM: a trace is accepted and the compared field differs. .. False during SSF"; "'TIM acts' means dTIM and not TIMActDis."
  abbrev pub section_tim : List Frame → Bool
  section_tim l = tim_by (section_trace l) p.section.mode p.section.names

  abbrev pub section_tim_acts : List Frame → Bool
  section_tim_acts l = section_tim l && not p.section.disabled

  -- "dBDI: BDI 1 in five frames in a row; cleared by five 0. False during SSF"
  abbrev pub section_bdi_bit : Frame → List Frame → Given
  section_bdi_bit f l = record { forget = section_ssf f l; bit = (sm f).bdi }

  abbrev pub section_bdi : List Frame → Bool
  section_bdi l = on_by 5 (bits_since (each section_bdi_bit l))

  -- "Section dIAE: IAE, five and five. Section dBIAE: BEI = 1011 in three frames in a row; cleared by three others. Both false during SSF and dTIM."
  abbrev pub iae_bit : Frame → List Frame → Given
  iae_bit f l = record { forget = section_ssf f l || section_tim (f ∷ l); bit = (sm f).iae }

  abbrev pub dIAE : List Frame → Bool
  dIAE l = on_by 5 (bits_since (each iae_bit l))

  abbrev pub biae_bit : Frame → List Frame → Given
  biae_bit f l = record { forget = section_ssf f l || section_tim (f ∷ l); bit = eqb (sm f).bei 11 }

  abbrev pub dBIAE : List Frame → Bool
  dBIAE l = on_by 3 (bits_since (each biae_bit l))

  -- "Path SSF = section aTSF"
  abbrev pub path_ssf : Frame → List Frame → Bool
  path_ssf f l = section_ssf f l || section_tim_acts (f ∷ l)

  -- "Path STAT: a value in three frames in a row is accepted; forgotten during path SSF. .. 111 is dAIS, 110 dOCI, 101 dLCK; 000 to 100 raise
  -- nothing."
  abbrev pub stat_told : Frame → List Frame → Told
  stat_told f l = record { forget = path_ssf f l; value = (pm f).stat }

  abbrev pub signal : List Frame → Signal
  signal l = raised (last_three (values_since (each stat_told l)))
    where
      raised : AcceptedValue → Signal
      raised none = Clear
      raised (value v) = signal_of v

  abbrev pub dAIS : List Frame → Bool
  dAIS l = is_ais (signal l)

  abbrev pub dOCI : List Frame → Bool
  dOCI l = is_oci (signal l)

  abbrev pub dLCK : List Frame → Bool
  dLCK l = is_lck (signal l)

  -- Path trace, dTIM and dBDI: as the section's, "in the path also during dAIS"
  abbrev pub path_turn : Frame → List Frame → Turn
  path_turn f l = record { forget = path_ssf f l || dAIS (f ∷ l); inmulti = in_multi (f ∷ l); number = local_number (f ∷ l); tti = (pm f).tti }

  abbrev pub path_trace : List Frame → AcceptedTrace
  path_trace l = accepted_by (turns_since (each path_turn l))

  abbrev pub path_tim : List Frame → Bool
  path_tim l = tim_by (path_trace l) p.path.mode p.path.names

  abbrev pub path_tim_acts : List Frame → Bool
  path_tim_acts l = path_tim l && not p.path.disabled

  abbrev pub path_bdi_bit : Frame → List Frame → Given
  path_bdi_bit f l = record { forget = path_ssf f l || dAIS (f ∷ l); bit = (pm f).bdi }

  abbrev pub path_bdi : List Frame → Bool
  path_bdi l = on_by 5 (bits_since (each path_bdi_bit l))

  -- Seconds and the ledger.

  -- "Blocks are not counted during SSF; in the path also not during dAIS, dOCI, dLCK. dTIM doesn't stop counting."
  abbrev pub path_down : Frame → List Frame → Bool
  path_down f l = path_ssf f l || dAIS (f ∷ l) || dOCI (f ∷ l) || dLCK (f ∷ l)

  -- "A count above 0 is one near-end errored block." "BEI 1 to 8 is one far-end errored block."
  abbrev pub section_near : Frame → List Frame → Bool
  section_near f l = leb 1 f.sm && not (section_ssf f l)

  abbrev pub section_far : Frame → List Frame → Bool
  section_far f l = far_block (sm f).bei && not (section_ssf f l)

  abbrev pub path_near : Frame → List Frame → Bool
  path_near f l = leb 1 f.pm && not (path_down f l)

  abbrev pub path_far : Frame → List Frame → Bool
  path_far f l = far_block (pm f).bei && not (path_down f l)

  -- "the sum of BEI violations beside errored blocks .. stopped as the far block count is" (document 02, K7): the number of a frame whose far-end block is counted
  abbrev pub section_violations : Frame → List Frame → ℕ
  section_violations f l = cond (section_far f l) (sm f).bei 0

  abbrev pub path_violations : Frame → List Frame → ℕ
  path_violations f l = cond (path_far f l) (pm f).bei 0

  -- "Near DS: in some frame of the second SSF, dTIM, or in the path dAIS, dOCI or dLCK stood. Far DS: dBDI stood."
  abbrev pub section_near_ds : Frame → List Frame → Bool
  section_near_ds f l = section_ssf f l || section_tim (f ∷ l)

  abbrev pub path_near_ds : Frame → List Frame → Bool
  path_near_ds f l = path_down f l || path_tim (f ∷ l)

  -- "Heads, the first that fits: 1 TSF-P, 2 OTUk-AIS, 3 dLOF, 4 dLOM, 5 section TIM acts, 6 path dAIS, 7 dOCI, 8 dLCK, 9 path TIM acts;
  -- otherwise 0, clear."
  abbrev pub head : Frame → List Frame → ℕ
  head f l =
      cond (tsf_p f) 1
      (cond (otuk_ais f) 2
      (cond (dLOF (f ∷ l)) 3
      (cond (dLOM (f ∷ l)) 4
      (cond (section_tim_acts (f ∷ l)) 5
      (cond (dAIS (f ∷ l)) 6
      (cond (dOCI (f ∷ l)) 7
      (cond (dLCK (f ∷ l)) 8
      (cond (path_tim_acts (f ∷ l)) 9 0))))))))

-- what a question says of each frame of the open second: of those since the last mark
unfoldable pub in_second : (Frame → List Frame → Bool) → List Event → List Bool
in_second q [] = []
in_second q (mark ∷ h) = []
in_second q (frame f ∷ h) = q f (frames_back h) ∷ in_second q h

-- in how many of them it says yes, and whether in some
unfoldable pub yes : List Bool → ℕ
yes [] = 0
yes (x ∷ l) = flag x + yes l

unfoldable pub any : List Bool → Bool
any [] = false
any (x ∷ l) = x || any l

abbrev pub tally : (Frame → List Frame → Bool) → List Event → ℕ
tally q h = yes (in_second q h)

abbrev pub some : (Frame → List Frame → Bool) → List Event → Bool
some q h = any (in_second q h)

-- the total of a number over the frames of the open second
unfoldable pub total : (Frame → List Frame → ℕ) → List Event → ℕ
total v [] = 0
total v (mark ∷ h) = 0
total v (frame f ∷ h) = v f (frames_back h) + total v h

-- the frames that the open second holds
abbrev pub held : List Event → ℕ
held h = length (in_second (λ f l. true) h)

-- The refusals of a frame and of a mark: 1 "overhead not 64 bytes", 2 "flags above 3", 3 "a violation count above 8", 4 "a frame when the
-- open second holds 400,000; a mark when 4,294,967,295 seconds are closed". "A refusal answers its number and nothing else".
abbrev pub frame_refusal : Frame → List Event → ℕ
frame_refusal f h =
    first_of
    (check 1 (eqb (length f.overhead) 64)
    ∷ check 2 (leb f.flags 3)
    ∷ check 3 (leb f.sm 8 && leb f.pm 8)
    ∷ check 4 (ltb (held h) 400000)
    ∷ [])

-- of each closed second whether it is bad: whether its near-end blocks, as `blocks` has them at its mark, are at least DEGThr
unfoldable pub bad_seconds : ℕ → (List Event → ℕ) → List Event → List Bool
bad_seconds thr blocks [] = []
bad_seconds thr blocks (frame f ∷ h) = bad_seconds thr blocks h
bad_seconds thr blocks (mark ∷ h) = leb thr (blocks h) ∷ bad_seconds thr blocks h

-- the history is one of accepted frames and marks
abbrev pub Taken : List Event → Type 0
Taken [] = Unit {0}
Taken (frame f ∷ h) = (frame_refusal f h ≡ 0) × Taken h
Taken (mark ∷ h) = (marks h < 4294967295) × Taken h

module _ (p : Settings) where
  -- "If section dIAE stood in any frame, the section's four values of that second become 0 and false; if dBIAE, its two far values."
  abbrev pub discarded : List Event → Bool
  discarded h = some (λ f l. dIAE p (f ∷ l)) h

  abbrev pub far_discarded : List Event → Bool
  far_discarded h = discarded h || some (λ f l. dBIAE p (f ∷ l)) h

  abbrev pub section_near_blocks : List Event → ℕ
  section_near_blocks h = cond (discarded h) 0 (tally (section_near p) h)

  abbrev pub path_near_blocks : List Event → ℕ
  path_near_blocks h = tally (path_near p) h

  -- "dDEG, decided at a mark: a second is bad if its near-end block count, after discard, is at least DEGThr. DEGM bad seconds in a row raise
  -- it, DEGM others clear it."
  abbrev pub section_bads : List Event → List Bool
  section_bads h = bad_seconds p.section.thr section_near_blocks h

  abbrev pub section_deg : List Event → Bool
  section_deg h = on_by p.section.degm (section_bads h)

  abbrev pub path_bads : List Event → List Bool
  path_bads h = bad_seconds p.path.thr path_near_blocks h

  abbrev pub path_deg : List Event → Bool
  path_deg h = on_by p.path.degm (path_bads h)

  -- "S: second from 1, frames, heads 0 to 9, section near blocks, far blocks, near DS, far DS, then the path's four." "Heads are never
  -- discarded." "The sum comes last in each layer's group of S fields", and "is discarded .. as the far block count is" (document 02, K7). As the mark closes the second;
  -- what is reported of it one mark later: crate reports.
  abbrev pub under : ℕ → List Event → ℕ
  under k h = tally (λ f l. eqb (head p f l) k) h

  abbrev pub figures : List Event → List ℕ
  figures h =
      (marks h + 1) ∷ held h
      ∷ under 0 h ∷ under 1 h ∷ under 2 h ∷ under 3 h ∷ under 4 h ∷ under 5 h ∷ under 6 h ∷ under 7 h ∷ under 8 h ∷ under 9 h
      ∷ section_near_blocks h
      ∷ cond (far_discarded h) 0 (tally (section_far p) h)
      ∷ flag (cond (discarded h) false (some (section_near_ds p) h))
      ∷ flag (cond (far_discarded h) false (some (λ f l. section_bdi p (f ∷ l)) h))
      ∷ cond (far_discarded h) 0 (total (section_violations p) h)
      ∷ path_near_blocks h
      ∷ tally (path_far p) h
      ∷ flag (some (path_near_ds p) h)
      ∷ flag (some (λ f l. path_bdi p (f ∷ l)) h)
      ∷ total (path_violations p) h
      ∷ []

  -- Actions and causes: the report of the frame f after the history h.
  unfoldable pub report : Frame → List Event → Report
  report f h =
      let l : List Frame = frames_back h in
      let ssf : Bool = section_ssf p f l in
      let acts : Bool = section_tim_acts p (f ∷ l) in
      let pathssf : Bool = path_ssf p f l in
      let down : Bool = path_down p f l in
      let pathacts : Bool = path_tim_acts p (f ∷ l) in
      record {
        standing = record {
          line = record { inframe = in_frame (f ∷ l); inmulti = in_multi (f ∷ l); tsf = tsf_p f; ais = otuk_ais f; lof = dLOF p (f ∷ l); lom = dLOM p (f ∷ l) };
          section = record {
            tim = section_tim p (f ∷ l);
            disabled = p.section.disabled;
            bdi = section_bdi p (f ∷ l);
            iae = dIAE p (f ∷ l);
            biae = dBIAE p (f ∷ l);
            deg = section_deg h;
          };
          path = record { signal = signal p (f ∷ l); tim = path_tim p (f ∷ l); disabled = p.path.disabled; bdi = path_bdi p (f ∷ l); deg = path_deg h };
        };
        -- "Section: aTSF = SSF or TIM acts. aTSD = dDEG. aBDI = SSF or dTIM. aBEI = violation count. aBIAE = dIAE."
        section = record {
          ssf = ssf;
          tsf = ssf || acts;
          tsd = section_deg h;
          bdi = ssf || section_tim p (f ∷ l);
          biae = dIAE p (f ∷ l);
          bei = f.sm;
        };
        -- "Path SSF = section aTSF. aTSF = SSF, dAIS, dOCI, dLCK or TIM acts. aTSD, aBEI as above. aBDI = SSF, dAIS, dOCI, dLCK or dTIM."
        path = record {
          ssf = pathssf;
          tsf = down || pathacts;
          tsd = path_deg h;
          bdi = down || path_tim p (f ∷ l);
          bei = f.pm;
        };
        causes = record {
          -- "cLOF = dLOF without TSF-P and OTUk-AIS. cLOM = dLOM without these two and dLOF."
          line = record {
            lof = dLOF p (f ∷ l) && not (tsf_p f || otuk_ais f);
            lom = dLOM p (f ∷ l) && not (tsf_p f || otuk_ais f || dLOF p (f ∷ l));
          };
          -- "cTIM = dTIM without SSF. cDEG, cBDI = dDEG, dBDI without SSF and without TIM acts. cSSF = SSF."
          section = record {
            tim = section_tim p (f ∷ l) && not ssf;
            deg = section_deg h && not (ssf || acts);
            bdi = section_bdi p (f ∷ l) && not (ssf || acts);
            ssf = ssf;
          };
          -- "cOCI, cLCK without SSF. cTIM = dTIM without SSF, dAIS, dOCI, dLCK. cDEG, cBDI without those four and without TIM acts. cSSF = SSF
          -- or dAIS."
          path = record {
            oci = dOCI p (f ∷ l) && not pathssf;
            lck = dLCK p (f ∷ l) && not pathssf;
            tim = path_tim p (f ∷ l) && not down;
            deg = path_deg h && not (down || pathacts);
            bdi = path_bdi p (f ∷ l) && not (down || pathacts);
            ssf = pathssf || dAIS p (f ∷ l);
          };
        };
        head = head p f l;
      }

  -- the accepted trace of the section (0) or of the path (1)
  abbrev pub trace_of_layer : ℕ → List Event → AcceptedTrace
  trace_of_layer layer h = cond (eqb layer 0) (section_trace p (frames_back h)) (path_trace p (frames_back h))

  -- What is answered after a history: to a frame, to a mark, and to the reading of an accepted trace (11 "layer not 0 (section) or 1 (path)",
  -- 13 "no accepted trace")
  unfoldable pub answer : List Event → Call → Answer
  answer h (does (frame f)) = stepped (frame_refusal f h) (cond (eqb (frame_refusal f h) 0) (report f h) no_report)
  answer h (does mark) = cond (ltb (marks h) 4294967295) (marked 0 (figures h)) (marked 4 (replicate 22 0))
  answer h (reads layer) = cond (leb layer 1) (read (trace_of_layer layer h)) (traced 11 (replicate 64 0))
    where
      read : AcceptedTrace → Answer
      read no_trace = traced 13 (replicate 64 0)
      read (trace t) = traced 0 t

-- The page: after every accepted history every answer is the page's.
abbrev pub Page : Settings → List Event → Type 0
Page p h = (c : Call) → answer_of (reached p h) c ≡ answer p (reverse h) c

abbrev pub EveryPage : Type 0
EveryPage = (p : Settings) → SettingsIn p → (h : List Event) → Accepted (fresh_of p) h → Page p h

-- A history is accepted by the definitions if and only if it is on the page.
abbrev pub Acceptance : Type 0
Acceptance = (p : Settings) → SettingsIn p → (h : List Event) → Accepted (fresh_of p) h ↔ Taken (reverse h)

-- What stands, said again without going frame by frame: where IF and IM began and ended, where a filter was raised and not cleared since.
pub record Stands (p : Settings) (l : List Frame) (h : List Event) : Type 0 where
  pub frame_is : (b : Bool) → (in_frame l ≡ b) ↔ Framed b (map signs l)
  pub multi_is : (q : Place) → (place l ≡ q) ↔ Numbered q (each look l)
  pub section_bdi_is : (section_bdi p l ≡ true) ↔ On 5 (bits_since (each (section_bdi_bit p) l))
  pub path_bdi_is : (path_bdi p l ≡ true) ↔ On 5 (bits_since (each (path_bdi_bit p) l))
  pub iae_is : (dIAE p l ≡ true) ↔ On 5 (bits_since (each (iae_bit p) l))
  pub biae_is : (dBIAE p l ≡ true) ↔ On 3 (bits_since (each (biae_bit p) l))
  pub section_deg_is : (section_deg p h ≡ true) ↔ On p.section.degm (section_bads p h)
  pub path_deg_is : (path_deg p h ≡ true) ↔ On p.path.degm (path_bads p h)

abbrev pub EveryStands : Type 0
EveryStands = (p : Settings) → SettingsIn p → (l : List Frame) (h : List Event) → Stands p l h
