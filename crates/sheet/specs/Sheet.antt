-- A tandem level on one sheet (document 02, K1; G.798 14.5.1.1.3, ODUkTm_TT_Sk): what is answered of level n after every history, by its frames and marks,
-- without a counter and without a state. IF, IM, the local number and path SSF are those of the page. A history, and every list made of it, has the latest
-- first. Assumes nothing.
use Rattle.std.specs.Prelude.{◌≡◌, ◌↔◌, Bool, true, false, cond, not, ◌&&◌, ◌||◌, List, [], ◌∷◌, map, reverse, ℕ, ◌≤◌, leb, ltb, eqb, length, replicate}
use Rattle.answer.specs.Bits.{flag}
use Rattle.answer.specs.Checks.{check, first_of}
use Rattle.overhead.specs.declared.Field.{Field}
use Rattle.overhead.specs.Overhead.{level_field, far_block}
use Rattle.filter.specs.Since.{On, Given, bits_since, on_by}
use Rattle.filter.specs.Stood.{AcceptedValue, none, value, Told, values_since, last_three}
use Rattle.layer.specs.Traced.{Turn, AcceptedTrace, none as no_trace, trace, turns_since, accepted_by, tim_by}
use Rattle.settings.specs.Settings.{options_of}
use Rattle.settings.specs.Ranges.{OptionsIn, SettingsIn}
use Rattle.settings.specs.declared.Options.{Options}
use Rattle.settings.specs.declared.Settings.{Settings}
use Rattle.level.specs.declared.Status.{Status}
use Rattle.level.specs.declared.Status.TheVariants.{Clear, Ltc, Iae, Lck, Oci, Ais}
use Rattle.level.specs.declared.LevelStands.{LevelStands}
use Rattle.level.specs.declared.LevelActions.{LevelActions}
use Rattle.level.specs.declared.LevelCauses.{LevelCauses}
use Rattle.supervisor.specs.Supervisor.{Traced, fresh_of}
use Rattle.history.specs.History.{Frame, Event, frame, mark}
use Rattle.history.specs.Ledger.{marks}
use Rattle.tandem.specs.Levels.{count_at, low_to}
use Rattle.tandem.specs.Tandem.{fresh_tandem, marked_of, level_report, level_traced}
use Rattle.tandem.specs.declared.Tandem.{Tandem}
use Rattle.watch.specs.Watch.{LevelCall, gives, records, frames, marks as closes, refusal_at, tandem_by, tandem_after, refusal_of, AllTaken, group_at, Nothing}
use Rattle.page.specs.Page.{each, frames_back, in_multi, local_number, path_ssf, tally, some, total, yes, held, Taken}

-- "Frames with six more counts at the end, levels 1 to 6": a frame with them, or a mark
pub data LevelEvent : Type 0 where
  counted : Frame → List ℕ → LevelEvent
  closed : LevelEvent

-- the event of line, section and path, which take no such counts; and so the history, and its frames
abbrev pub plain : LevelEvent → Event
plain (counted f counts) = frame f
plain closed = mark

abbrev pub plainly : List LevelEvent → List Event
plainly h = map plain h

abbrev pub frames_in : List LevelEvent → List Frame
frames_in h = frames_back (plainly h)

-- path SSF as it stands after the frames l; before any frame it does not
abbrev pub ssf_at : Settings → List Frame → Bool
ssf_at p [] = false
ssf_at p (f ∷ l) = path_ssf p f l

-- a value is the accepted one
abbrev pub is_value : ℕ → AcceptedValue → Bool
is_value v none = false
is_value v (value w) = eqb w v

-- Level n, beside a supervisor under the settings p: what it reads of the frames, whatever it is provisioned with.
module _ (p : Settings) (n : ℕ) where
  -- "their three-byte fields begin at row 3 columns 7, 4, 1 for levels 1 to 3 and row 2 columns 11, 8, 5 for levels 4 to 6"
  abbrev pub field : Frame → Field
  field f = level_field f.overhead n

  -- STAT (8.8): a value in three frames in a row is accepted, and until then there is none. "A STAT, in whichever layer, .. [is] forgotten only during that
  -- layer's SSF" (document 01); "Each level takes path SSF": CI_SSF in the frame f, after the frames l, is `path_ssf p f l`
  abbrev pub stat_told : Frame → List Frame → Told
  stat_told f l = record { forget = path_ssf p f l; value = (field f).stat }

  abbrev pub accepted_stat : List Frame → AcceptedValue
  accepted_stat l = last_three (values_since (each stat_told l))

  abbrev pub accepts : ℕ → List Frame → Bool
  accepts v l = is_value v (accepted_stat l)

  -- "STAT 000 is dLTC" (6.2.1.4.1); "111 is dAIS, 110 dOCI, 101 dLCK" (document 01; 6.2.6.3.2, 6.2.6.8.2, 6.2.6.9.1)
  abbrev pub dLTC : List Frame → Bool
  dLTC l = accepts 0 l

  abbrev pub dLCK : List Frame → Bool
  dLCK l = accepts 5 l

  abbrev pub dOCI : List Frame → Bool
  dOCI l = accepts 6 l

  abbrev pub dAIS : List Frame → Bool
  dAIS l = accepts 7 l

  -- what the accepted STAT stands for; "010 dIAE"
  abbrev pub status : List Frame → Status
  status l = cond (dLTC l) Ltc (cond (accepts 2 l) Iae (cond (dLCK l) Lck (cond (dOCI l) Oci (cond (dAIS l) Ais Clear))))

  -- Trace (6.2.2.1, 8.6): "Three equal cycles in a row are accepted at the last frame of the third. OOM drops the cycle and the run, not the accepted trace."
  -- (document 01) It is forgotten during CI_SSF and dAIS
  abbrev pub turn : Frame → List Frame → Turn
  turn f l = record { forget = path_ssf p f l || dAIS (f ∷ l); inmulti = in_multi (f ∷ l); number = local_number (f ∷ l); tti = (field f).tti }

  abbrev pub accepted_trace : List Frame → AcceptedTrace
  accepted_trace l = accepted_by (turns_since (each turn l))

  -- dBDI (6.2.6.6.1): BDI 1 in five frames in a row; cleared by five 0. False during CI_SSF and dAIS
  abbrev pub bdi_bit : Frame → List Frame → Given
  bdi_bit f l = record { forget = path_ssf p f l || dAIS (f ∷ l); bit = (field f).bdi }

  abbrev pub dBDI : List Frame → Bool
  dBDI l = on_by 5 (bits_since (each bdi_bit l))

  -- Blocks. CI_SSF, dAIS, dLTC, dLCK and dOCI stop both counts (notes 2 and 3); dTIM, dIAE and dBIAE stop nothing
  abbrev pub down : Frame → List Frame → Bool
  down f l = path_ssf p f l || dAIS (f ∷ l) || dLTC (f ∷ l) || dOCI (f ∷ l) || dLCK (f ∷ l)

  -- "A count above 0 is one near-end errored block." (document 01): by the level's own count, in each frame of the open second
  unfoldable pub nears : List LevelEvent → List Bool
  nears [] = []
  nears (closed ∷ h) = []
  nears (counted f counts ∷ h) = (leb 1 (count_at counts n) && not (down f (frames_in h))) ∷ nears h

  -- "BEI 1 to 8 is one far-end errored block." (document 01)
  abbrev pub far : Frame → List Frame → Bool
  far f l = far_block (field f).bei && not (down f l)

  -- "the sum of BEI violations beside errored blocks .. and every tandem level" (document 02, K7): the number of a frame whose far-end block is counted
  abbrev pub violations : Frame → List Frame → ℕ
  violations f l = cond (far f l) (field f).bei 0

-- The level provisioned with the options o: all that is said of it.
module _ (p : Settings) (n : ℕ) (o : Options) where
  -- "dTIM: a trace is accepted and the compared field differs."; "'TIM acts' means dTIM and not TIMActDis." (document 01; 6.2.2.1)
  abbrev pub dTIM : List Frame → Bool
  dTIM l = tim_by (accepted_trace p n l) o.mode o.names

  abbrev pub tim_acts : List Frame → Bool
  tim_acts l = dTIM l && not o.disabled

  -- "010 dIAE" (6.2.6.10.2). False during CI_SSF, dAIS and dTIM: dTIM masks it, and the STAT stays accepted
  abbrev pub dIAE : List Frame → Bool
  dIAE l = accepts p n 2 l && not (dTIM l)

  -- "BIAE stands in BEI" (6.2.6.11.1): 1011 in three frames in a row; cleared by three others. False during CI_SSF, dAIS and dTIM
  abbrev pub biae_bit : Frame → List Frame → Given
  biae_bit f l = record { forget = path_ssf p f l || dAIS p n (f ∷ l) || dTIM (f ∷ l); bit = eqb (field p n f).bei 11 }

  abbrev pub dBIAE : List Frame → Bool
  dBIAE l = on_by 3 (bits_since (each biae_bit l))

  -- pN_DS: CI_SSF or (dAIS or dLTC or dOCI or dLCK or dTIM). pF_DS: dBDI
  abbrev pub near_ds : Frame → List Frame → Bool
  near_ds f l = down p n f l || dTIM (f ∷ l)

  abbrev pub far_ds : Frame → List Frame → Bool
  far_ds f l = dBDI p n (f ∷ l)

  -- "An IAE or BIAE second discards the level's values as the section's." pIAE, pBIAE: dIAE, dBIAE stood in it once (notes 4 to 6)
  abbrev pub discarded : List LevelEvent → Bool
  discarded h = some (λ f l. dIAE (f ∷ l)) (plainly h)

  abbrev pub far_discarded : List LevelEvent → Bool
  far_discarded h = discarded h || some (λ f l. dBIAE (f ∷ l)) (plainly h)

  abbrev pub near_blocks : List LevelEvent → ℕ
  near_blocks h = cond (discarded h) 0 (yes (nears p n h))

  -- "the four figures of every provisioned level" (document 02, K1), and "The sum comes last in each layer's group" (K7)
  abbrev pub five : List LevelEvent → List ℕ
  five h =
      near_blocks h
      ∷ cond (far_discarded h) 0 (tally (far p n) (plainly h))
      ∷ flag (cond (discarded h) false (some near_ds (plainly h)))
      ∷ flag (cond (far_discarded h) false (some far_ds (plainly h)))
      ∷ cond (far_discarded h) 0 (total (violations p n) (plainly h))
      ∷ []

  -- dDEG (6.2.3.4), "decided at a mark: a second is bad if its near-end block count, after discard, is at least DEGThr. DEGM bad seconds in a row raise it,
  -- DEGM others clear it." (document 01)
  unfoldable pub bads : List LevelEvent → List Bool
  bads [] = []
  bads (counted f counts ∷ h) = bads h
  bads (closed ∷ h) = leb o.thr (near_blocks h) ∷ bads h

  abbrev pub dDEG : List LevelEvent → Bool
  dDEG h = on_by o.degm (bads h)

  -- what stands after the last frame, and dDEG as the last mark decided it
  unfoldable pub stands : List LevelEvent → LevelStands
  stands h =
      let l : List Frame = frames_in h in
      record {
        ssf = ssf_at p l;
        status = status p n l;
        tim = dTIM l;
        disabled = o.disabled;
        bdi = dBDI p n l;
        iae = dIAE l;
        biae = dBIAE l;
        deg = dDEG h;
      }

  -- Consequent actions. aTSF: CI_SSF or (dAIS or dLTC or dOCI or dLCK or (dTIM and (not TIMActDis))). aTSD: dDEG
  unfoldable pub actions : List LevelEvent → LevelActions
  actions h =
      let l : List Frame = frames_in h in
      record { tsf = ssf_at p l || (dAIS p n l || dLTC p n l || dOCI p n l || dLCK p n l || tim_acts l); tsd = dDEG h }

  -- Fault causes. cSSF: CI_SSF or dAIS. cLTC, cOCI, cLCK: the defect and (not CI_SSF). cTIM: dTIM and none of CI_SSF, dAIS, dLTC, dOCI, dLCK. cDEG, cBDI: the
  -- defect and none of these five, and (not (dTIM and (not TIMActDis)))
  unfoldable pub causes : List LevelEvent → LevelCauses
  causes h =
      let l : List Frame = frames_in h in
      let ssf : Bool = ssf_at p l in
      record {
        ssf = ssf || dAIS p n l;
        ltc = dLTC p n l && not ssf;
        oci = dOCI p n l && not ssf;
        lck = dLCK p n l && not ssf;
        tim = dTIM l && not ssf && not (dAIS p n l) && not (dLTC p n l) && not (dOCI p n l) && not (dLCK p n l);
        deg = dDEG h && not ssf && not (dAIS p n l) && not (dLTC p n l) && not (dOCI p n l) && not (dLCK p n l) && not (tim_acts l);
        bdi = dBDI p n l && not ssf && not (dAIS p n l) && not (dLTC p n l) && not (dOCI p n l) && not (dLCK p n l) && not (tim_acts l);
      }

  -- the reading of the accepted trace; 13 "no accepted trace"
  abbrev pub traced : List LevelEvent → Traced
  traced h = read (accepted_trace p n (frames_in h))
    where
      read : AcceptedTrace → Traced
      read no_trace = record { refusal = 13; trace = replicate 64 0 }
      read (trace t) = record { refusal = 0; trace = t }

-- The refusals of a frame, as the page has them, each of the six counts being among those of 3, its level provisioned or not
abbrev pub frame_refusal : Frame → List ℕ → List LevelEvent → ℕ
frame_refusal f counts h =
    first_of
    (check 1 (eqb (length f.overhead) 64)
    ∷ check 2 (leb f.flags 3)
    ∷ check 3 (leb f.sm 8 && leb f.pm 8 && low_to 6 counts)
    ∷ check 4 (ltb (held (plainly h)) 400000)
    ∷ [])

-- no count of the history is above 8
abbrev pub Low : List LevelEvent → Type 0
Low [] = Unit {0}
Low (counted f counts ∷ h) = (low_to 6 counts ≡ true) × Low h
Low (closed ∷ h) = Low h

-- Lists of calls, in their order of time: levels provisioned, frames and marks.

-- the accepted ones of any calls, each after those before it
unfoldable pub taken_of : Tandem → List LevelCall → List LevelCall
taken_of t [] = []
taken_of t (c ∷ cs) = cond (eqb (refusal_of t c) 0) (c ∷ taken_of (tandem_by t c) cs) (taken_of t cs)

-- after any calls, accepted or refused, the supervisor is that of the accepted ones
pub record OfTaken (t : Tandem) (cs : List LevelCall) : Type 0 where
  pub state : tandem_after t cs ≡ tandem_after t (taken_of t cs)
  pub all : AllTaken t (taken_of t cs)

-- the frames and marks among them, with their counts
unfoldable pub events_of : List LevelCall → List LevelEvent
events_of [] = []
events_of (gives n r names ∷ cs) = events_of cs
events_of (records n r names ∷ cs) = events_of cs
events_of (frames f counts ∷ cs) = counted f counts ∷ events_of cs
events_of (closes ∷ cs) = closed ∷ events_of cs

-- what a level is provisioned with by them: the options of the call that names it, or nothing
pub data Provisioned : Type 0 where
  never : Provisioned
  with : Options → Provisioned

unfoldable pub provisioned : ℕ → List LevelCall → Provisioned
provisioned n [] = never
provisioned n (gives m r names ∷ cs) = cond (eqb m n) (with (options_of r names)) (provisioned n cs)
provisioned n (records m r names ∷ cs) = cond (eqb m n) (with (options_of r names)) (provisioned n cs)
provisioned n (frames f counts ∷ cs) = provisioned n cs
provisioned n (closes ∷ cs) = provisioned n cs

-- the supervisor that a list of calls hands back from fresh, under the settings p
abbrev pub reached : Settings → List LevelCall → Tandem
reached p cs = tandem_after (fresh_tandem (fresh_of p)) cs

-- What is said of a level on the sheet holds after every list of accepted calls, for each of the six levels that they provision
abbrev pub EachLevel : (Settings → ℕ → Options → Tandem → List LevelEvent → Type 0) → Type 0
EachLevel Said = (p : Settings) → SettingsIn p → (cs : List LevelCall) → AllTaken (fresh_tandem (fresh_of p)) cs
    → (n : ℕ) → 1 ≤ n → n ≤ 6 → (o : Options) → provisioned n cs ≡ with o → Said p n o (reached p cs) (reverse (events_of cs))

-- what stands of it, and its accepted trace
pub record LevelPage (p : Settings) (n : ℕ) (o : Options) (t : Tandem) (h : List LevelEvent) : Type 0 where
  pub given : (level_report t n).given ≡ true
  pub stood : (level_report t n).stands ≡ stands p n o h
  pub read : level_traced t n ≡ traced p n o h

-- its two actions and seven causes
pub record LevelFaults (p : Settings) (n : ℕ) (o : Options) (t : Tandem) (h : List LevelEvent) : Type 0 where
  pub acted : (level_report t n).actions ≡ actions p n o h
  pub caused : (level_report t n).causes ≡ causes p n o h

-- its five figures at the next mark
pub record LevelFive (p : Settings) (n : ℕ) (o : Options) (t : Tandem) (h : List LevelEvent) : Type 0 where
  pub figures : (marked_of t).refusal ≡ 0 → group_at (marked_of t).figures n ≡ five p n o h

-- of a level that they do not provision nothing is told
abbrev pub EachOther : Type 0
EachOther = (p : Settings) (cs : List LevelCall) → AllTaken (fresh_tandem (fresh_of p)) cs → (n : ℕ) → 1 ≤ n → n ≤ 6 → provisioned n cs ≡ never
    → Nothing (reached p cs) n

-- the next frame and the next mark are refused as on the sheet, whatever levels are provisioned
pub record LevelRefusals (t : Tandem) (h : List LevelEvent) : Type 0 where
  pub framed : (f : Frame) (counts : List ℕ) → refusal_at t f counts ≡ frame_refusal f counts h
  pub closed : (marked_of t).refusal ≡ cond (ltb (marks (plainly h)) 4294967295) 0 4

abbrev pub EachRefusal : Type 0
EachRefusal = (p : Settings) → SettingsIn p → (cs : List LevelCall) → AllTaken (fresh_tandem (fresh_of p)) cs → LevelRefusals (reached p cs) (reverse (events_of cs))

-- A history with levels, whichever are provisioned, is accepted if and only if it is so on the page and no count is above 8.
abbrev pub called : LevelEvent → LevelCall
called (counted f counts) = frames f counts
called closed = closes

abbrev pub LevelAcceptance : Type 0
LevelAcceptance = (p : Settings) → SettingsIn p → (t : Tandem) → t.base ≡ fresh_of p → (h : List LevelEvent)
    → AllTaken t (map called h) ↔ (Taken (reverse (plainly h)) × Low h)

-- What stands, said again without going frame by frame: where a filter was raised and not cleared since.
pub record LevelOn (p : Settings) (n : ℕ) (o : Options) (l : List Frame) (h : List LevelEvent) : Type 0 where
  pub bdi_is : (dBDI p n l ≡ true) ↔ On 5 (bits_since (each (bdi_bit p n) l))
  pub biae_is : (dBIAE p n o l ≡ true) ↔ On 3 (bits_since (each (biae_bit p n o) l))
  pub deg_is : (dDEG p n o h ≡ true) ↔ On o.degm (bads p n o h)

abbrev pub EachOn : Type 0
EachOn = (p : Settings) (n : ℕ) (o : Options) → OptionsIn o → (l : List Frame) (h : List LevelEvent) → LevelOn p n o l h
