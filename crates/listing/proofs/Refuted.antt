-- Contents and lengths that a tempting reading would give, shut out by the contracts at one input. Assumes nothing.
use Rattle.std.proofs.Common.{◌≡◌, ℕ, List, [], ◌∷◌, Fits, w64, length, replicate, ap, sym, ◌∙◌, arith}
use Rattle.std.proofs.Math.ListN.{get_or}
use contract.Lifetimes.{Lfts}
use borrow.Fn.Kinds.{Dens, ended_of, res_t}
use denote.Triple.Clauses.{AtExit}
use Rattle.answer.specs.Over.{over}
use Rattle.listing.specs.Bytes.{bytes}
use Rattle.listing.specs.Text.{decimal_in, spaced, fields_of, text_line, fitted}
use Rattle.listing.proofs.put_text.Kinds as text_kinds
use Rattle.listing.proofs.put_text.Reads as text_reads
use Rattle.listing.proofs.put_number.Kinds as number_kinds
use Rattle.listing.proofs.put_number.Reads as number_reads
use Rattle.listing.proofs.put_start.Kinds as start_kinds
use Rattle.listing.proofs.put_start.Reads as start_reads
use Rattle.listing.proofs.second_line.Kinds as second_kinds
use Rattle.listing.proofs.second_line.Reads as second_reads
use Rattle.listing.proofs.refusal_line.Kinds as refusal_kinds
use Rattle.listing.proofs.refusal_line.Reads as refusal_reads
use Rattle.listing.proofs.end_line.Kinds as end_kinds
use Rattle.listing.proofs.end_line.Reads as end_reads
use Rattle.listing.proofs.bin_line.Kinds as bin_kinds
use Rattle.listing.proofs.bin_line.Reads as bin_reads
use Rattle.listing.proofs.put_text_at.Kinds as text_at_kinds
use Rattle.listing.proofs.put_text_at.Reads as text_at_reads
use Rattle.listing.proofs.put_line_at.Kinds as line_at_kinds
use Rattle.listing.proofs.put_line_at.Reads as line_at_reads
use Rattle.listing.proofs.put_number_at.Kinds as number_at_kinds
use Rattle.listing.proofs.put_number_at.Reads as number_at_reads
use Rattle.listing.proofs.put_start_at.Kinds as start_at_kinds
use Rattle.listing.proofs.put_start_at.Reads as start_at_reads
use Rattle.listing.proofs.second_line_at.Kinds as second_at_kinds
use Rattle.listing.proofs.second_line_at.Reads as second_at_reads
use Rattle.listing.proofs.refusal_line_at.Kinds as refusal_at_kinds
use Rattle.listing.proofs.refusal_line_at.Reads as refusal_at_reads
use Rattle.listing.proofs.end_line_at.Kinds as end_at_kinds
use Rattle.listing.proofs.end_line_at.Reads as end_at_reads
use Rattle.listing.proofs.bin_line_at.Kinds as bin_at_kinds
use Rattle.listing.proofs.bin_line_at.Reads as bin_at_reads

-- a text is put behind what stands, not at the start
pub text_at_start : (h : Fits w64 2) (κs : Lfts 3) (a : Dens κs (text_kinds.ps 2 h)) (r : (res_t (text_kinds.r 2 h) κs).Denot) (s : AtExit (ended_of 3 (text_kinds.ps 2 h) (text_kinds.r 2 h)) κs)
    → a.0.now ≡ bytes "A" → a.1.0.now.items ≡ bytes "." → s.1.0.now.items ≡ bytes "A." → text_reads.Post 2 h κs a r s → ⊥
unfolding fitted
text_at_start h κs a r s v d o p =
    let e : s.1.0.now.items ≡ bytes ".A" = rw (v, d) at (text_reads.post-apart 2 h κs a r s p).put in
    let x : ◌≡◌ {A = ℕ} 65 46 = ap (λ (l : List ℕ). get_or l 0 0) (sym o ∙ e) in
    omega arith

-- 7 has one digit: its room is not its length
pub number_as_room : (h : Fits w64 20) (κs : Lfts 2) (a : Dens κs (number_kinds.ps 20 h)) (r : (res_t (number_kinds.r 20 h) κs).Denot) (s : AtExit (ended_of 2 (number_kinds.ps 20 h) (number_kinds.r 20 h)) κs)
    → a.0 ≡ 7 → a.1.0.now.items ≡ [] → length s.1.0.now.items ≡ 20 → number_reads.Post 20 h κs a r s → ⊥
unfolding fitted decimal_in
number_as_room h κs a r s n d o p =
    let e : length s.1.0.now.items ≡ 1 = rw (n, d) at (ap (λ (l : List ℕ). length l) (number_reads.post-apart 20 h κs a r s p).put) in
    omega arith

-- `F 1 3 12` has a blank before each number
pub start_without_blanks : (h : Fits w64 64) (κs : Lfts 2) (a : Dens κs (start_kinds.ps 64 h)) (r : (res_t (start_kinds.r 64 h) κs).Denot) (s : AtExit (ended_of 2 (start_kinds.ps 64 h) (start_kinds.r 64 h)) κs)
    → a.0 ≡ 70 → a.1.0 ≡ 1 ∷ 3 ∷ 12 ∷ [] → a.1.1.0.now.items ≡ [] → length s.1.1.0.now.items ≡ 5 → start_reads.Post 64 h κs a r s → ⊥
unfolding fitted fields_of spaced decimal_in
start_without_blanks h κs a r s letter ns d o p =
    let e : length s.1.1.0.now.items ≡ 8 = rw (letter, ns, d) at (ap (λ (l : List ℕ). length l) (start_reads.post-apart 64 h κs a r s p).put) in
    omega arith

-- 22 figures of one digit make 46 bytes: with one figure less they would be 44, with those of one level 56
pub second_short : (h : Fits w64 1094) (κs : Lfts 3) (a : Dens κs (second_kinds.ps 1094 h)) (r : (res_t (second_kinds.r 1094 h) κs).Denot) (s : AtExit (ended_of 3 (second_kinds.ps 1094 h) (second_kinds.r 1094 h)) κs)
    → a.0.now ≡ replicate 22 1 → a.1.0.now.items ≡ [] → length s.1.0.now.items ≡ 44 → second_reads.Post 1094 h κs a r s → ⊥
unfolding fitted text_line fields_of spaced decimal_in
second_short h κs a r s figures d o p =
    let e : length s.1.0.now.items ≡ 46 = rw (figures, d) at (ap (λ (l : List ℕ). length l) (second_reads.post-apart 1094 h κs a r s p).put) in
    omega arith

pub second_long : (h : Fits w64 1094) (κs : Lfts 3) (a : Dens κs (second_kinds.ps 1094 h)) (r : (res_t (second_kinds.r 1094 h) κs).Denot) (s : AtExit (ended_of 3 (second_kinds.ps 1094 h) (second_kinds.r 1094 h)) κs)
    → a.0.now ≡ replicate 22 1 → a.1.0.now.items ≡ [] → length s.1.0.now.items ≡ 56 → second_reads.Post 1094 h κs a r s → ⊥
unfolding fitted text_line fields_of spaced decimal_in
second_long h κs a r s figures d o p =
    let e : length s.1.0.now.items ≡ 46 = rw (figures, d) at (ap (λ (l : List ℕ). length l) (second_reads.post-apart 1094 h κs a r s p).put) in
    omega arith

-- a refusal prints its number and then the offset
pub offset_first : (h : Fits w64 44) (κs : Lfts 2) (a : Dens κs (refusal_kinds.ps 44 h)) (r : (res_t (refusal_kinds.r 44 h) κs).Denot) (s : AtExit (ended_of 2 (refusal_kinds.ps 44 h) (refusal_kinds.r 44 h)) κs)
    → a.0 ≡ 7 → a.1.0 ≡ 8 → a.1.1.0.now.items ≡ [] → s.1.1.0.now.items ≡ bytes "R 8 7\n" → refusal_reads.Post 44 h κs a r s → ⊥
unfolding fitted text_line fields_of spaced decimal_in
offset_first h κs a r s number offset d o p =
    let e : s.1.1.0.now.items ≡ bytes "R 7 8\n" = rw (number, offset, d) at (refusal_reads.post-apart 44 h κs a r s p).put in
    let x : ◌≡◌ {A = ℕ} 56 55 = ap (λ (l : List ℕ). get_or l 2 0) (sym o ∙ e) in
    omega arith

-- the last line prints marks and then frames
pub frames_first : (h : Fits w64 44) (κs : Lfts 2) (a : Dens κs (end_kinds.ps 44 h)) (r : (res_t (end_kinds.r 44 h) κs).Denot) (s : AtExit (ended_of 2 (end_kinds.ps 44 h) (end_kinds.r 44 h)) κs)
    → a.0 ≡ 1 → a.1.0 ≡ 2 → a.1.1.0.now.items ≡ [] → s.1.1.0.now.items ≡ bytes "E 2 1\n" → end_reads.Post 44 h κs a r s → ⊥
unfolding fitted text_line fields_of spaced decimal_in
frames_first h κs a r s marks frames d o p =
    let e : s.1.1.0.now.items ≡ bytes "E 1 2\n" = rw (marks, frames, d) at (end_reads.post-apart 44 h κs a r s p).put in
    let x : ◌≡◌ {A = ℕ} 50 49 = ap (λ (l : List ℕ). get_or l 2 0) (sym o ∙ e) in
    omega arith

-- bin_line: 23 figures of one digit and a number make 50 bytes, and not 48
pub bin_without_number : (h : Fits w64 506) (κs : Lfts 2) (a : Dens κs (bin_kinds.ps 506 h)) (r : (res_t (bin_kinds.r 506 h) κs).Denot) (s : AtExit (ended_of 2 (bin_kinds.ps 506 h) (bin_kinds.r 506 h)) κs)
    → a.1.0 ≡ 0 → a.1.1.0 ≡ replicate 23 1 → a.1.1.1.0.now.items ≡ [] → length s.1.1.1.0.now.items ≡ 48 → bin_reads.Post 506 h κs a r s → ⊥
unfolding fitted text_line fields_of spaced decimal_in
bin_without_number h κs a r s number ns d o p =
    let e : length s.1.1.1.0.now.items ≡ 50 = rw (number, ns, d) at (ap (λ (l : List ℕ). length l) (bin_reads.post-apart 506 h κs a r s p).put) in
    omega arith

-- a text is put at its place, not at the start
pub text_at_start_at : (κs : Lfts 2) (a : Dens κs text_at_kinds.ps) (r : ℕ) (s : AtExit (ended_of 2 text_at_kinds.ps text_at_kinds.r) κs)
    → a.0.now ≡ bytes "A" → a.1.0.now ≡ bytes ".." → a.1.1.0 ≡ 1 → s.1.0.now ≡ bytes "A." → text_at_reads.Post κs a r s → ⊥
unfolding fitted over
text_at_start_at κs a r s v d at o p =
    let e : s.1.0.now ≡ bytes ".A" = rw (v, d, at) at p.1 in
    let h : ◌≡◌ {A = ℕ} 65 46 = ap (λ (l : List ℕ). get_or l 0 0) (sym o ∙ e) in
    omega arith

-- 7 has one digit: its room is not its length
pub number_as_room_at : (κs : Lfts 1) (a : Dens κs number_at_kinds.ps) (s : AtExit (ended_of 1 number_at_kinds.ps number_at_kinds.r) κs)
    → a.0 ≡ 7 → a.1.0.now ≡ replicate 20 0 → a.1.1.0 ≡ 0 → number_at_reads.Post κs a 20 s → ⊥
unfolding fitted decimal_in
number_as_room_at κs a s n d at p =
    let h : ◌≡◌ {A = ℕ} 20 1 = rw (n, d, at) at p.0 in
    omega arith

-- `F 1 3 12` has a blank before each number
pub start_without_blanks_at : (κs : Lfts 1) (a : Dens κs start_at_kinds.ps) (s : AtExit (ended_of 1 start_at_kinds.ps start_at_kinds.r) κs)
    → a.0 ≡ 70 → a.1.0 ≡ 1 ∷ 3 ∷ 12 ∷ [] → a.1.1.0.now ≡ replicate 64 0 → a.1.1.1.0 ≡ 0 → start_at_reads.Post κs a 5 s → ⊥
unfolding fitted fields_of spaced decimal_in
start_without_blanks_at κs a s letter ns d at p =
    let h : ◌≡◌ {A = ℕ} 5 8 = rw (letter, ns, d, at) at p.0 in
    omega arith

-- 22 figures of one digit make 46 bytes: with one figure less they would be 44, with those of one level 56
pub second_short_at : (κs : Lfts 1) (a : Dens κs second_at_kinds.ps) (s : AtExit (ended_of 1 second_at_kinds.ps second_at_kinds.r) κs)
    → a.0 ≡ replicate 52 1 → a.1.0 ≡ 22 → a.1.1.0.now ≡ replicate 1094 0 → a.1.1.1.0 ≡ 0 → second_at_reads.Post κs a 44 s → ⊥
unfolding fitted text_line fields_of spaced decimal_in
second_short_at κs a s figures n d at p =
    let h : ◌≡◌ {A = ℕ} 44 46 = rw (figures, n, d, at) at p.0 in
    omega arith

pub second_long_at : (κs : Lfts 1) (a : Dens κs second_at_kinds.ps) (s : AtExit (ended_of 1 second_at_kinds.ps second_at_kinds.r) κs)
    → a.0 ≡ replicate 52 1 → a.1.0 ≡ 22 → a.1.1.0.now ≡ replicate 1094 0 → a.1.1.1.0 ≡ 0 → second_at_reads.Post κs a 56 s → ⊥
unfolding fitted text_line fields_of spaced decimal_in
second_long_at κs a s figures n d at p =
    let h : ◌≡◌ {A = ℕ} 56 46 = rw (figures, n, d, at) at p.0 in
    omega arith

-- a refusal prints its number and then the offset
pub offset_first_at : (κs : Lfts 1) (a : Dens κs refusal_at_kinds.ps) (r : ℕ) (s : AtExit (ended_of 1 refusal_at_kinds.ps refusal_at_kinds.r) κs)
    → a.0 ≡ 7 → a.1.0 ≡ 8 → a.1.1.0.now ≡ replicate 44 0 → a.1.1.1.0 ≡ 0 → s.1.1.0.now ≡ over (replicate 44 0) 0 (bytes "R 8 7\n")
    → refusal_at_reads.Post κs a r s → ⊥
unfolding fitted over text_line fields_of spaced decimal_in
offset_first_at κs a r s number offset d at o p =
    let e : s.1.1.0.now ≡ over (replicate 44 0) 0 (bytes "R 7 8\n") = rw (number, offset, d, at) at p.1 in
    let h : ◌≡◌ {A = ℕ} 56 55 = ap (λ (l : List ℕ). get_or l 2 0) (sym o ∙ e) in
    omega arith

-- the last line prints marks and then frames
pub frames_first_at : (κs : Lfts 1) (a : Dens κs end_at_kinds.ps) (r : ℕ) (s : AtExit (ended_of 1 end_at_kinds.ps end_at_kinds.r) κs)
    → a.0 ≡ 1 → a.1.0 ≡ 2 → a.1.1.0.now ≡ replicate 44 0 → a.1.1.1.0 ≡ 0 → s.1.1.0.now ≡ over (replicate 44 0) 0 (bytes "E 2 1\n")
    → end_at_reads.Post κs a r s → ⊥
unfolding fitted over text_line fields_of spaced decimal_in
frames_first_at κs a r s marks frames d at o p =
    let e : s.1.1.0.now ≡ over (replicate 44 0) 0 (bytes "E 1 2\n") = rw (marks, frames, d, at) at p.1 in
    let h : ◌≡◌ {A = ℕ} 50 49 = ap (λ (l : List ℕ). get_or l 2 0) (sym o ∙ e) in
    omega arith

-- bin_line: 23 figures of one digit and a number make 50 bytes, and not 48
pub bin_without_number_at : (κs : Lfts 1) (a : Dens κs bin_at_kinds.ps) (s : AtExit (ended_of 1 bin_at_kinds.ps bin_at_kinds.r) κs)
    → a.1.0 ≡ 0 → a.1.1.0 ≡ replicate 23 1 → a.1.1.1.0.now ≡ replicate 506 0 → a.1.1.1.1.0 ≡ 0 → bin_at_reads.Post κs a 48 s → ⊥
unfolding fitted text_line fields_of spaced decimal_in
bin_without_number_at κs a s number ns d at p =
    let h : ◌≡◌ {A = ℕ} 48 50 = rw (number, ns, d, at) at p.0 in
    omega arith

-- a text that finds no room answers the place it was given, also one beyond the end
pub text_beyond_at : (κs : Lfts 2) (a : Dens κs text_at_kinds.ps) (s : AtExit (ended_of 2 text_at_kinds.ps text_at_kinds.r) κs)
    → a.0.now ≡ bytes "A" → a.1.0.now ≡ bytes "." → a.1.1.0 ≡ 5 → text_at_reads.Post κs a 6 s → ⊥
unfolding fitted
text_beyond_at κs a s v d at p =
    let h : ◌≡◌ {A = ℕ} 6 5 = rw (v, d, at) at p.0 in
    omega arith

-- a line wants the room of all that its vector could hold: one byte in a vector of two is not put where one is free
pub line_by_length_at : (h : Fits w64 2) (κs : Lfts 3) (a : Dens κs (line_at_kinds.ps 2 h)) (s : AtExit (ended_of 3 (line_at_kinds.ps 2 h) (line_at_kinds.r 2 h)) κs)
    → a.0.now.items ≡ bytes "A" → a.1.0.now ≡ bytes "." → a.1.1.0 ≡ 0 → line_at_reads.Post 2 h κs a 1 s → ⊥
unfolding fitted
line_by_length_at h κs a s v d at p =
    let e : ◌≡◌ {A = ℕ} 1 0 = rw (v, d, at) at p.0 in
    omega arith
