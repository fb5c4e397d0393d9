-- "Alignment" (document 01): frame, dLOF, multiframe, dLOM. Every state is the state after the frame. Assumes nothing.
use Rattle.std.specs.Prelude.{ℕ, ◌+◌, ◌%◌, Bool, true, false, cond, ◌&&◌, eqb}
use Rattle.filter.specs.Filter.{up_of}
use Rattle.alignment.specs.declared.Framing.{Framing}
use Rattle.alignment.specs.declared.Lof.{Lof}
use Rattle.alignment.specs.declared.Multi.{Multi}
use Rattle.alignment.specs.declared.Alignment.{Alignment}

-- "N is 62, 247, 989 frames for k = 1, 2, 3 (3 ms rounded up, house)" (6.2.5.1, 6.2.5.2)
unfoldable pub frames_of : ℕ → ℕ
frames_of k = cond (eqb k 1) 62 (cond (eqb k 2) 247 989)

-- Frame (8.2.1).
-- "OOF becomes IF at a frame with columns 2 to 5 = F6 F6 28 28 that directly follows another such frame, both met in OOF.
-- IF becomes OOF at the fifth frame in a row without columns 3 to 5 = F6 28 28."
unfoldable pub framing_of : Framing → Bool → Bool → Framing
framing_of s four three =
    cond s.inframe
    (cond three
    (record { inframe = true; seen = false; misses = 0 })
    (cond (eqb (up_of s.misses 5) 5)
    (record { inframe = false; seen = false; misses = 0 })
    (record { inframe = true; seen = false; misses = up_of s.misses 5 })))
    (cond (four && s.seen)
    (record { inframe = true; seen = false; misses = 0 })
    (record { inframe = false; seen = four; misses = 0 }))

-- dLOF (6.2.5.1).
-- "Frames in OOF are added up. .. the total stops at N. N frames in a row in IF set the total to zero ..; shorter IF stretches
-- neither add nor reset."
unfoldable pub lof_of : Lof → ℕ → Bool → Lof
lof_of s n inframe =
    cond inframe
    (record { total = cond (eqb (up_of s.good n) n) 0 s.total; good = up_of s.good n })
    (record { total = up_of s.total n; good = 0 })

-- "At N in total dLOF is raised"; it is cleared with the total
abbrev pub dLOF : Alignment → ℕ → Bool
dLOF s n = eqb s.lof.total n

-- Multiframe (8.2.2).
-- one more, modulo 256
unfoldable pub next_of : ℕ → ℕ
next_of x = (x + 1) % 256

-- in IM: the local number and the run of mismatches
abbrev pub locked_at : ℕ → ℕ → Multi
locked_at number misses = record { inmulti = true; number = number; misses = misses; known = false; previous = 0 }

-- in OOM: the previous MFAS, where it is known
abbrev pub unlocked_at : Bool → ℕ → Multi
unlocked_at known previous = record { inmulti = false; number = 0; misses = 0; known = known; previous = previous }

-- "In IM the local number grows by 1 modulo 256 each frame, also in OOF. The fifth mismatch in a row (MFAS not the local number) gives
-- OOM, and that MFAS is the new previous one." "While OOF, MFAS is not looked at: IM or OOM stays, the run of mismatches stays, and
-- the previous MFAS is forgotten (house). While IF and OOM, IM is entered when MFAS is the previous frame's plus 1 modulo 256, the
-- local number becomes MFAS and the run of mismatches starts at zero."
unfoldable pub multi_of : Multi → Bool → ℕ → Multi
multi_of s inframe mfas =
    cond s.inmulti
    (cond inframe
    (cond (eqb mfas (next_of s.number))
    (locked_at (next_of s.number) 0)
    (cond (eqb (up_of s.misses 5) 5) (unlocked_at true mfas) (locked_at (next_of s.number) (up_of s.misses 5))))
    (locked_at (next_of s.number) s.misses))
    (cond inframe
    (cond (s.known && eqb mfas (next_of s.previous)) (locked_at mfas 0) (unlocked_at true mfas))
    (unlocked_at false 0))

-- dLOM (6.2.5.2). "N frames in a row in OOM raise it; IM clears it at once."
unfoldable pub lom_of : ℕ → ℕ → Bool → ℕ
lom_of run n inmulti = cond inmulti 0 (up_of run n)

abbrev pub dLOM : Alignment → ℕ → Bool
dLOM s n = eqb s.lom n

-- "Fresh: out of frame (OOF), out of multiframe (OOM), no defects, all counts zero."
abbrev pub fresh_alignment : Alignment
fresh_alignment = record {
  framing = record { inframe = false; seen = false; misses = 0 };
  lof = record { total = 0; good = 0 };
  multi = unlocked_at false 0;
  lom = 0;
}

-- the frame first, then what looks at its state
unfoldable pub align_of : Alignment → ℕ → Bool → Bool → ℕ → Alignment
align_of s n four three mfas =
    let framing : Framing = framing_of s.framing four three in
    let multi : Multi = multi_of s.multi framing.inframe mfas in
    record {
      framing = framing;
      lof = lof_of s.lof n framing.inframe;
      multi = multi;
      lom = lom_of s.lom n multi.inmulti;
    }
