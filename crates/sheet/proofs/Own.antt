-- Level n by itself, and that it is what a supervisor with levels holds of it after every list of accepted calls. Assumes nothing.
use Prim.Native.Nat.{ℕ, ◌+◌, ◌≤◌, ◌<◌}
use mathlib.Core.Path.{◌≡◌, refl, sym, ap, ap₂, ◌∙◌, subst, subst⁻¹}
use mathlib.Core.Bool.{Bool, true, false, cond, not, or-true}
use mathlib.Core.List.{List, [], ◌∷◌, ◌++◌, reverse_aux}
use native.Mathlib.Omega.{arith}
use lib.Dec.{leb, eqb, ltb}
use lib.ListN.{length}
use borrow.Author.Tests.{leb-true, eqb-true, eqb-false, eq-eqb, lt-ltb}
use Rattle.answer.proofs.Checks.{passed}
use Rattle.answer.proofs.Cond.{by_cond, and_left, and_right, not_so}
use Rattle.overhead.specs.Overhead.{level_field}
use Rattle.filter.specs.Filter.{up_of}
use Rattle.settings.specs.Settings.{degm_good, options_of}
use Rattle.settings.specs.declared.Options.{Options}
use Rattle.settings.specs.declared.Request.{Request}
use Rattle.settings.specs.declared.Settings.{Settings}
use Rattle.causes.specs.Causes.{path_ssf as ssf_of_path}
use Rattle.second.specs.Second.{count_of, one_frame}
use Rattle.level.specs.Level.{LevelFrame, level_frame, level_count, level_marked, fresh_level_second}
use Rattle.supervisor.specs.Supervisor.{fresh_of, step_refusal, frame_of, next_second}
use Rattle.supervisor.specs.declared.Supervisor.{Supervisor}
use Rattle.history.specs.History.{Frame, frame, mark, framed, stands_at, event_of, refusal_of as plain_refusal}
use Rattle.tandem.specs.Levels.{given_level, blank_level, stepped_level, marked_level, count_at, level_at, placed_at, free_at, is_level}
use Rattle.tandem.specs.Tandem.{fresh_tandem, begun, request_checks, place_checks, with_level, given_by, give_refusal, record_refusal, marked_of}
use Rattle.tandem.specs.declared.Level.{Level}
use Rattle.tandem.specs.declared.Tandem.{Tandem}
use Rattle.watch.specs.Watch.{LevelCall, gives, records, frames, marks as closes, refusal_at, framed_at, tandem_by, tandem_after, AllTaken, multi_at}
use Rattle.watch.proofs.Silent.{mark_refusal_lem}
use Rattle.watch.proofs.Alone.{at_frame, at_mark, given_other, placed_same, plain_accepts, frame_accepted, mark_accepted}
use Rattle.watch.proofs.Blank.{Six, six_call, six_fresh, blank_fresh}
use Rattle.page.proofs.Back.{sup, AcceptedBack, accepted_more}
use Rattle.sheet.specs.Sheet.{LevelEvent, counted, closed, plainly, events_of, Provisioned, never, with, provisioned}

-- the flags of the last frame
abbrev pub last_flags : List LevelEvent → ℕ
last_flags [] = 0
last_flags (counted f counts ∷ h) = f.flags
last_flags (closed ∷ h) = last_flags h

-- what a level provisioned with the options o, being number n, has come to after a history
module _ (p : Settings) (n : ℕ) (o : Options) where
  -- in the frame f, after the history h
  abbrev pub frame_of_level : Level → List LevelEvent → Frame → LevelFrame
  frame_of_level l h f =
      level_frame l.state o (ssf_of_path (stands_at (sup p (plainly h)) f)) (multi_at (sup p (plainly h)) f) (level_field f.overhead n)

  abbrev pub own : List LevelEvent → Level
  own [] = given_level o
  own (counted f counts ∷ h) =
      let a : LevelFrame = frame_of_level (own h) h f in
      record {
        given = true;
        options = o;
        state = a.state;
        second = level_count (own h).second a.stands (level_field f.overhead n).bei (count_at counts n);
      }
  own (closed ∷ h) = record { given = true; options = o; state = level_marked (own h).state o (own h).second; second = fresh_level_second }

  -- by the rules of one level
  own_frame_lem : (h : List LevelEvent) (f : Frame) (counts : List ℕ)
      → stepped_level (own h) (ssf_of_path (stands_at (sup p (plainly h)) f)) (multi_at (sup p (plainly h)) f) (level_field f.overhead n) (count_at counts n)
      ≡ own (counted f counts ∷ h)
  unfolding stepped_level
  own_frame_lem [] f counts = refl
  own_frame_lem (counted g others ∷ h) f counts = refl
  own_frame_lem (closed ∷ h) f counts = refl

  own_mark : (h : List LevelEvent) → marked_level (own h) ≡ own (closed ∷ h)
  unfolding marked_level
  own_mark [] = refl
  own_mark (counted f counts ∷ h) = refl
  own_mark (closed ∷ h) = refl

  pub own_given : (h : List LevelEvent) → (own h).given ≡ true
  own_given [] = refl
  own_given (counted f counts ∷ h) = refl
  own_given (closed ∷ h) = refl

  pub own_options : (h : List LevelEvent) → (own h).options ≡ o
  own_options [] = refl
  own_options (counted f counts ∷ h) = refl
  own_options (closed ∷ h) = refl

-- a supervisor has met a frame or a mark where its history has one
nothing_met : (p : Settings) (h : List LevelEvent) → not (begun (sup p (plainly h))) ≡ true → h ≡ []
unfolding event_of frame_of next_second count_of one_frame up_of
nothing_met p [] e = refl
nothing_met p (counted f counts ∷ h) e =
    let x : ℕ = (sup p (plainly h)).second.frames.0 in
    let some : ltb 0 (up_of x 400000) ≡ true =
    by_cond (λ (m : ℕ). ltb 0 m ≡ true) (ltb x 400000) (λ _. lt-ltb 0 (x + 1) (omega arith)) (λ _. refl) in
    absurd (not_so (sym (rw (some, or-true (ltb 0 (sup p (plainly h)).seconds)) at e)))
nothing_met p (closed ∷ h) e = absurd (not_so (sym (rw (lt-ltb 0 ((sup p (plainly h)).seconds + 1) (omega arith)) at e)))

-- what is settled of a provisioning that was accepted: dDEG takes some seconds, and the names are 32 bytes
abbrev pub Ready : Options → Type 0
Ready o = (0 < o.degm) × (length o.names ≡ 32)

abbrev ReadyIf : Provisioned → Type 0
ReadyIf never = Unit {0}
ReadyIf (with o) = Ready o

-- the earlier provisioning stays
abbrev earlier : Provisioned → Provisioned → Provisioned
earlier never w = w
earlier (with o) w = with o

never_with : {o : Options} → with o ≡ never → ⊥
never_with e = not_so (ap is e)
  where
    is : Provisioned → Bool
    is never = false
    is (with o) = true

-- what a provisioning that is accepted leaves
given_by_lem : (refusal : ℕ) (t : Tandem) (m : ℕ) (r : Request) (names : List ℕ) → refusal ≡ 0 → (given_by refusal t m r names).tandem ≡ with_level t m r names
unfolding given_by
given_by_lem refusal t m r names e = rw (eq-eqb refusal 0 e)

module _ (p : Settings) (n : ℕ) (low : 1 ≤ n) (high : n ≤ 6) where
  -- level n after a history, where it is provisioned, and where it is not
  abbrev held_by : Provisioned → List LevelEvent → Level
  held_by never h = blank_level
  held_by (with o) h = own p n o h

  held_frame : (w : Provisioned) (h : List LevelEvent) (f : Frame) (counts : List ℕ)
      → stepped_level (held_by w h) (ssf_of_path (stands_at (sup p (plainly h)) f)) (multi_at (sup p (plainly h)) f) (level_field f.overhead n) (count_at counts n)
      ≡ held_by w (counted f counts ∷ h)
  unfolding stepped_level
  held_frame never h f counts = refl
  held_frame (with o) h f counts = own_frame_lem p n o h f counts

  held_mark : (w : Provisioned) (h : List LevelEvent) → marked_level (held_by w h) ≡ held_by w (closed ∷ h)
  unfolding marked_level
  held_mark never h = refl
  held_mark (with o) h = own_mark p n o h

  -- the supervisor t is that of the history h, level n being provisioned or not
  pub record Is (t : Tandem) (w : Provisioned) (h : List LevelEvent) : Type 0 where
    pub base : t.base ≡ sup p (plainly h)
    pub flags : t.flags ≡ last_flags h
    pub six : Six t.levels
    pub level : level_at t.levels n ≡ held_by w h
    pub ready : ReadyIf w
    pub accepted : AcceptedBack p (plainly h)

  pub is_fresh : Is (fresh_tandem (fresh_of p)) never []
  is_fresh = record { base = refl; flags = refl; six = six_fresh; level = blank_fresh n low high; ready = tt; accepted = tt }

  is_frame : (t : Tandem) (w : Provisioned) (h : List LevelEvent) (f : Frame) (counts : List ℕ) → Is t w h → refusal_at t f counts ≡ 0
      → Is (framed_at t f counts).tandem w (counted f counts ∷ h)
  unfolding event_of plain_refusal tandem_by
  is_frame t w h f counts i e =
      let a = frame_accepted t f counts e in
      record {
        base = ap (λ (u : Tandem). u.base) a ∙ ap (λ (s : Supervisor). framed s f) i.base;
        flags = ap (λ (u : Tandem). u.flags) a;
        six = six_call t (frames f counts) i.six;
        level =
            at_frame t n i.six.0 low high f counts e
            ∙ ap₂ (λ (l : Level) (s : Supervisor). stepped_level l (ssf_of_path (stands_at s f)) (multi_at s f) (level_field f.overhead n) (count_at counts n))
            i.level i.base
            ∙ held_frame w h f counts;
        ready = i.ready;
        accepted =
            accepted_more p (frame f) (plainly h) i.accepted
            (subst (λ (s : Supervisor). step_refusal s f.overhead f.flags f.sm f.pm ≡ 0) i.base (plain_accepts t f counts e));
      }

  is_mark : (t : Tandem) (w : Provisioned) (h : List LevelEvent) → Is t w h → (marked_of t).refusal ≡ 0 → Is (marked_of t).tandem w (closed ∷ h)
  unfolding event_of plain_refusal tandem_by
  is_mark t w h i e =
      let a = mark_accepted t e in
      record {
        base = ap (λ (u : Tandem). u.base) a ∙ ap next_second i.base;
        flags = ap (λ (u : Tandem). u.flags) a ∙ i.flags;
        six = six_call t closes i.six;
        level = at_mark t n i.six.0 low high e ∙ ap marked_level i.level ∙ held_mark w h;
        ready = i.ready;
        accepted =
            accepted_more p mark (plainly h) i.accepted
            (subst (λ (s : Supervisor). plain_refusal s mark ≡ 0) i.base (sym (mark_refusal_lem t) ∙ e));
      }

  -- a provisioning that is accepted: what its tests settle
  record Fits (t : Tandem) (m : ℕ) (r : Request) (names : List ℕ) : Type 0 where
    fit : Ready (options_of r names)
    early : not (begun t.base) ≡ true
    free : free_at t.levels m ≡ true

  ready_of : (r : Request) (names : List ℕ) → degm_good r.degm ≡ true → eqb (length names) 32 ≡ true → Ready (options_of r names)
  unfolding degm_good
  ready_of r names d e =
      let two : 2 ≤ r.degm = leb-true _ _ (and_left (leb 2 r.degm) (leb r.degm 10) d) in
      (omega arith, eqb-true _ _ e)

  give_fits : (t : Tandem) (m : ℕ) (r : Request) (names : List ℕ) → give_refusal t m r names ≡ 0 → Fits t m r names
  unfolding give_refusal
  give_fits t m r names e =
      let c = passed 18 (request_checks t.base.settings.k r names ++ place_checks t m) refl e in
      record { fit = ready_of r names c.1.0 c.1.1.1.1.0; early = c.1.1.1.1.1.0; free = c.1.1.1.1.1.1.0 }

  record_fits : (t : Tandem) (m : ℕ) (r : Request) (names : List ℕ) → record_refusal t m r names ≡ 0 → Fits t m r names
  unfolding record_refusal
  record_fits t m r names e =
      let c = passed 18 (place_checks t m ++ request_checks t.base.settings.k r names) refl e in
      record { fit = ready_of r names c.1.1.1.0 c.1.1.1.1.1.1.0; early = c.0; free = c.1.0 }

  -- it provisions the level that it names, once, and before any frame and mark
  given_once : (t : Tandem) (w : Provisioned) (h : List LevelEvent) (r : Request) (names : List ℕ) → Is t w h → Fits t n r names
      → (w ≡ never) × (h ≡ [])
  given_once t never h r names i c = (refl, nothing_met p h (subst (λ (s : Supervisor). not (begun s) ≡ true) i.base c.early))
  given_once t (with o) h r names i c =
      let g : (level_at t.levels n).given ≡ true = ap (λ (l : Level). l.given) i.level ∙ own_given p n o h in
      absurd (not_so (sym (rw g at (and_right (is_level n) (not (level_at t.levels n).given) c.free))))

  is_given : (refusal : ℕ) (t : Tandem) (w : Provisioned) (h : List LevelEvent) (m : ℕ) (r : Request) (names : List ℕ) → refusal ≡ 0 → Is t w h
      → Fits t m r names → Six (given_by refusal t m r names).tandem.levels
      → Is (given_by refusal t m r names).tandem (cond (eqb m n) (with (options_of r names)) w) h
  is_given refusal t w h m r names e i c all = by (eqb m n) refl
    where
      a : (given_by refusal t m r names).tandem ≡ with_level t m r names
      a = given_by_lem refusal t m r names e

      named : m ≡ n → level_at (placed_at t.levels m (given_level (options_of r names))) n ≡ own p n (options_of r names) h
      named k =
          subst⁻¹ (λ (x : ℕ). level_at (placed_at t.levels x (given_level (options_of r names))) n ≡ given_level (options_of r names)) k
          (placed_same t.levels n (given_level (options_of r names)) i.six.0 low high)
          ∙ sym (ap (own p n (options_of r names)) (given_once t w h r names i (subst (λ (x : ℕ). Fits t x r names) k c)).1)

      by : (b : Bool) → eqb m n ≡ b → Is (given_by refusal t m r names).tandem (cond b (with (options_of r names)) w) h
      by true k = record {
        base = ap (λ (u : Tandem). u.base) a ∙ i.base;
        flags = ap (λ (u : Tandem). u.flags) a ∙ i.flags;
        six = all;
        level = ap (λ (u : Tandem). level_at u.levels n) a ∙ named (eqb-true m n k);
        ready = c.fit;
        accepted = i.accepted;
      }
      by false k = record {
        base = ap (λ (u : Tandem). u.base) a ∙ i.base;
        flags = ap (λ (u : Tandem). u.flags) a ∙ i.flags;
        six = all;
        level = given_other refusal t m n r names (eqb-false m n k) low high ∙ i.level;
        ready = i.ready;
        accepted = i.accepted;
      }

  -- what a list of calls provisions level n with, after what was so before it
  given_first : (t : Tandem) (w : Provisioned) (h : List LevelEvent) (m : ℕ) (r : Request) (names : List ℕ) (v : Provisioned) → Is t w h → Fits t m r names
      → earlier (cond (eqb m n) (with (options_of r names)) w) v ≡ earlier w (cond (eqb m n) (with (options_of r names)) v)
  given_first t never h m r names v i c = by (eqb m n)
    where
      by : (b : Bool) → earlier (cond b (with (options_of r names)) never) v ≡ cond b (with (options_of r names)) v
      by true = refl
      by false = refl
  given_first t (with o) h m r names v i c = by (eqb m n) refl
    where
      by : (b : Bool) → eqb m n ≡ b → earlier (cond b (with (options_of r names)) (with o)) v ≡ with o
      by true k = absurd (never_with (given_once t (with o) h r names i (subst (λ (x : ℕ). Fits t x r names) (eqb-true m n k) c)).0)
      by false k = refl

  -- after every list of accepted calls
  pub is_after : (t : Tandem) (w : Provisioned) (h : List LevelEvent) (cs : List LevelCall) → Is t w h → AllTaken t cs
      → Is (tandem_after t cs) (earlier w (provisioned n cs)) (reverse_aux (events_of cs) h)
  unfolding tandem_after tandem_by provisioned events_of
  is_after t never h [] i a = i
  is_after t (with o) h [] i a = i
  is_after t w h (gives m r names ∷ cs) i a =
      let c : Fits t m r names = give_fits t m r names a.0 in
      subst (λ (v : Provisioned). Is (tandem_after t (gives m r names ∷ cs)) v (reverse_aux (events_of cs) h)) (given_first t w h m r names (provisioned n cs) i c)
      (is_after (tandem_by t (gives m r names)) _ h cs (is_given _ t w h m r names a.0 i c (six_call t (gives m r names) i.six)) a.1)
  is_after t w h (records m r names ∷ cs) i a =
      let c : Fits t m r names = record_fits t m r names a.0 in
      subst (λ (v : Provisioned). Is (tandem_after t (records m r names ∷ cs)) v (reverse_aux (events_of cs) h)) (given_first t w h m r names (provisioned n cs) i c)
      (is_after (tandem_by t (records m r names)) _ h cs (is_given _ t w h m r names a.0 i c (six_call t (records m r names) i.six)) a.1)
  is_after t w h (frames f counts ∷ cs) i a = is_after (tandem_by t (frames f counts)) w (counted f counts ∷ h) cs (is_frame t w h f counts i a.0) a.1
  is_after t w h (closes ∷ cs) i a = is_after (tandem_by t closes) w (closed ∷ h) cs (is_mark t w h i a.0) a.1
