-- Each field of a report, and of what is told of a level, is read back from its place. Assumes nothing.
use mathlib.Core.Path.{◌≡◌, refl, sym, ap, ◌∙◌}
use mathlib.Core.Bool.{Bool, true, false}
use mathlib.Core.List.{List, [], ◌∷◌, ◌++◌}
use Prim.Native.Nat.{ℕ, zero, suc, ◌+◌, ◌/◌, ◌%◌, ◌^◌, ◌<◌}
use native.Mathlib.Nat.{mod-eq_of_lt, div-eq_of_lt, div-div-eq-div-mul, add-mul-div_left, add-mul-mod_self_left, div-one, zero-add}
use native.Mathlib.Omega.{arith}
use lib.ListN.{get_or, drop}
use lib.Pow.{pow_pos, pow-add}
use Rattle.causes.specs.Causes.{report_of, head_of}
use Rattle.signal.specs.Signal.{is_ais, is_oci, is_lck}
use Rattle.causes.specs.declared.Line.{Line}
use Rattle.causes.specs.declared.SectionStands.{SectionStands}
use Rattle.causes.specs.declared.PathStands.{PathStands}
use Rattle.causes.specs.declared.SectionActions.{SectionActions}
use Rattle.causes.specs.declared.PathActions.{PathActions}
use Rattle.causes.specs.declared.LineCauses.{LineCauses}
use Rattle.causes.specs.declared.SectionCauses.{SectionCauses}
use Rattle.causes.specs.declared.PathCauses.{PathCauses}
use Rattle.causes.specs.declared.Report.{Report}
use Rattle.causes.proofs.OneCause.{one_cause}
use Rattle.answer.specs.Bits.{flag}
use Rattle.level.specs.Level.{dAIS, dLTC, dOCI, dLCK}
use Rattle.level.specs.declared.LevelStands.{LevelStands}
use Rattle.level.specs.declared.LevelActions.{LevelActions}
use Rattle.level.specs.declared.LevelCauses.{LevelCauses}
use Rattle.word.specs.Level.{Told, told, level_fields, level_acted, level_caused, told_fields, level_word}
use Rattle.word.specs.Table.{Bits, report_table, level_table, bits_of, RowsRead, begins, side_by_side, EveryReportBack, EveryLevelBack}
use Rattle.word.specs.Report.{Field, number, packed, line_fields, section_fields, path_fields, section_acted, path_acted, line_caused, section_caused, path_caused, report_fields, report_word}

-- each number fits its bits
abbrev Fits : List Field → Type 0
Fits [] = Unit {0}
Fits (f ∷ fs) = (f.value < 2 ^ f.width) × Fits fs

-- what lies behind the first field
behind : (f : Field) (fs : List Field) → f.value < 2 ^ f.width → packed (f ∷ fs) / 2 ^ f.width ≡ packed fs
behind f fs h =
    add-mul-div_left f.value (packed fs) (pow_pos f.width)
    ∙ ap (λ (n : ℕ). n + packed fs) (div-eq_of_lt h)
    ∙ zero-add (packed fs)

-- rows as the fields of the thing that they tell
abbrev fields_by : {A : Type 0} → A → List (Bits A) → List Field
fields_by a [] = []
fields_by a (b ∷ bs) = number b.width (b.value a) ∷ fields_by a bs

-- rows that lie side by side read their values in a word whose bits from there on are their fields
rows_read : {A : Type 0} (word at : ℕ) (a : A) (bs : List (Bits A)) → begins bs ≡ side_by_side at bs → Fits (fields_by a bs)
    → word / 2 ^ at ≡ packed (fields_by a bs) → RowsRead word a bs
rows_read word at a [] e z h = tt
rows_read word at a (b ∷ bs) e z h =
    let f : Field = number b.width (b.value a) in
    let fs : List Field = fields_by a bs in
    let here : b.from ≡ at = ap (λ (l : List ℕ). get_or l 0 0) e in
    let first : word / 2 ^ b.from ≡ packed (f ∷ fs) = rw here h in
    let rest : word / 2 ^ (at + b.width) ≡ packed fs
    = ap (λ (n : ℕ). word / n) (pow-add 2 at b.width)
    ∙ sym (div-div-eq-div-mul word (2 ^ at) (2 ^ b.width))
    ∙ ap (λ (n : ℕ). n / 2 ^ b.width) h
    ∙ behind f fs z.0 in (
      ap (λ (n : ℕ). n % 2 ^ b.width) first ∙ add-mul-mod_self_left f.value (2 ^ f.width) (packed fs) ∙ mod-eq_of_lt z.0,
      rows_read word (at + b.width) a bs (ap (drop 1) e) z.1 rest,
    )

one_fits : (b : Bool) → flag b < 2 ^ 1
one_fits true = omega arith
one_fits false = omega arith

fits_append : (xs ys : List Field) → Fits xs → Fits ys → Fits (xs ++ ys)
fits_append [] ys p q = q
fits_append (x ∷ xs) ys p q = (p.0, fits_append xs ys p.1 q)

line_fits : (l : Line) → Fits (line_fields l)
line_fits l = (one_fits l.inframe, (one_fits l.inmulti, (one_fits l.lof, (one_fits l.lom, tt))))

section_fits : (ssf : Bool) (d : SectionStands) → Fits (section_fields ssf d)
section_fits ssf d = (one_fits ssf, (one_fits d.tim, (one_fits d.bdi, (one_fits d.iae, (one_fits d.biae, (one_fits d.deg, tt))))))

path_fits : (ssf : Bool) (d : PathStands) → Fits (path_fields ssf d)
path_fits ssf d = (one_fits ssf, (one_fits (is_ais d.signal), (one_fits (is_oci d.signal), (one_fits (is_lck d.signal), (one_fits d.tim, (one_fits d.bdi, (one_fits d.deg, tt)))))))

section_acts_fit : (a : SectionActions) → a.bei < 16 → Fits (section_acted a)
section_acts_fit a h = (one_fits a.tsf, (one_fits a.tsd, (one_fits a.bdi, (one_fits a.biae, (h, tt)))))

path_acts_fit : (a : PathActions) → a.bei < 16 → Fits (path_acted a)
path_acts_fit a h = (one_fits a.tsf, (one_fits a.tsd, (one_fits a.bdi, (h, tt))))

line_causes_fit : (c : LineCauses) → Fits (line_caused c)
line_causes_fit c = (one_fits c.lof, (one_fits c.lom, tt))

section_causes_fit : (c : SectionCauses) → Fits (section_caused c)
section_causes_fit c = (one_fits c.tim, (one_fits c.deg, (one_fits c.bdi, (one_fits c.ssf, tt))))

path_causes_fit : (c : PathCauses) → Fits (path_caused c)
path_causes_fit c = (one_fits c.oci, (one_fits c.lck, (one_fits c.tim, (one_fits c.deg, (one_fits c.bdi, (one_fits c.ssf, tt))))))

-- a report fits whose head and counts fit
report_fits : (r : Report) → r.head < 16 → r.section.bei < 16 → r.path.bei < 16 → Fits (report_fields r)
report_fits r h s p =
    let zero-fits : 0 < 256 = omega arith in
    let c3 : List Field = path_caused r.causes.path in
    let c2 : List Field = section_caused r.causes.section ++ c3 in
    let c1 : List Field = line_caused r.causes.line ++ c2 in
    let a2 : List Field = path_acted r.path ++ c1 in
    let a1 : List Field = section_acted r.section ++ a2 in
    let d2 : List Field = path_fields r.path.ssf r.standing.path ++ a1 in
    let d1 : List Field = section_fields r.section.ssf r.standing.section ++ d2 in
    let f2 = fits_append (section_caused r.causes.section) c3 (section_causes_fit r.causes.section) (path_causes_fit r.causes.path) in
    let f1 = fits_append (line_caused r.causes.line) c2 (line_causes_fit r.causes.line) f2 in
    let g2 = fits_append (path_acted r.path) c1 (path_acts_fit r.path p) f1 in
    let g1 = fits_append (section_acted r.section) a2 (section_acts_fit r.section s) g2 in
    let h2 = fits_append (path_fields r.path.ssf r.standing.path) a1 (path_fits r.path.ssf r.standing.path) g1 in
    let h1 = fits_append (section_fields r.section.ssf r.standing.section) d2 (section_fits r.section.ssf r.standing.section) h2 in
    (zero-fits, (h, fits_append (line_fields r.standing.line) d1 (line_fits r.standing.line) h1))

-- The report of an accepted frame: its head is at most 9 and its counts, by refusal 3, at most 8; so each row is read back.
pub report_back : EveryReportBack
unfolding report_word report_of
report_back d sm pm hs hp =
    let u : head_of d < 10 = (one_cause d).head in
    let r : Report = report_of d sm pm in
    let fits : Fits (report_fields r) = report_fits r (omega arith) (omega arith) (omega arith) in
    record { reads = rows_read (report_word r) 0 r report_table refl fits (div-one (report_word r)); beside = refl }

level_fits : (d : LevelStands) → Fits (level_fields d)
level_fits d = (one_fits d.ssf, (one_fits (dLTC d), (one_fits (dAIS d), (one_fits (dOCI d), (one_fits (dLCK d), (one_fits d.tim, (one_fits d.bdi, (one_fits d.iae, (one_fits d.biae, (one_fits d.deg, tt))))))))))

level_acts_fit : (a : LevelActions) → Fits (level_acted a)
level_acts_fit a = (one_fits a.tsf, (one_fits a.tsd, tt))

level_causes_fit : (c : LevelCauses) → Fits (level_caused c)
level_causes_fit c = (one_fits c.ssf, (one_fits c.ltc, (one_fits c.oci, (one_fits c.lck, (one_fits c.tim, (one_fits c.deg, (one_fits c.bdi, tt)))))))

told_fits : (t : Told) → Fits (told_fields t)
told_fits t =
    let zero-fits : 0 < 256 = omega arith in
    let rest = fits_append (level_acted t.actions) (level_caused t.causes) (level_acts_fit t.actions) (level_causes_fit t.causes) in
    (zero-fits, (one_fits t.given, fits_append (level_fields t.stands) (level_acted t.actions ++ level_caused t.causes) (level_fits t.stands) rest))

-- What is told of a level has no field but the refusal's that is more than one bit: each row is read back.
pub level_back : EveryLevelBack
unfolding level_word
level_back given d a c =
    let t : Told = told given d a c in
    record { reads = rows_read (level_word given d a c) 0 t level_table refl (told_fits t) (div-one (level_word given d a c)); beside = refl }

-- what the i-th row reads, and that it does
abbrev pub RowRead : {A : Type 0} → ℕ → ℕ → A → List (Bits A) → Type 0
RowRead i word a [] = Unit {0}
RowRead zero word a (b ∷ bs) = bits_of word b.from b.width ≡ b.value a
RowRead (suc i) word a (b ∷ bs) = RowRead i word a bs

pub row_read : {A : Type 0} (i word : ℕ) (a : A) (bs : List (Bits A)) → RowsRead word a bs → RowRead i word a bs
row_read i word a [] r = tt
row_read zero word a (b ∷ bs) r = r.0
row_read (suc i) word a (b ∷ bs) r = row_read i word a bs r.1
