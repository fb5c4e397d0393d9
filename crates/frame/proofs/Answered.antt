-- The two clauses of a frame say neither more nor less than advance_of. Assumes nothing.
use Rattle.std.proofs.Common.{◌≡◌, ap, ◌∙◌}
use contract.Lifetimes.{Lfts}
use borrow.Fn.Kinds.{Dens, ended_of}
use denote.Triple.Clauses.{AtExit}
use Rattle.causes.specs.declared.Standing.{Standing}
use Rattle.frame.specs.Layers.{layers_of, standing_of, Advanced, advance_of}
use Rattle.frame.specs.declared.Layers.{Layers}
use Rattle.frame.proofs.Layers.advance.Kinds as advance_kinds
use Rattle.frame.proofs.Layers.advance.Reads as advance_reads

abbrev pub advanced : Standing → Layers → Advanced
advanced d l = record { layers = l; standing = d }

module _ (κs : Lfts 3) (a : Dens κs advance_kinds.ps) (x : Standing) (s : AtExit (ended_of 3 advance_kinds.ps advance_kinds.r) κs) (e : advance_reads.Post κs a x s) where
  -- what stands after a frame, by the layers before it
  pub stood : x ≡ standing_of a.1.0.now (layers_of a.1.0.now a.0.now a.1.1.0.now a.1.1.1.0) a.1.1.1.0
  stood =
      let c = advance_reads.post-apart κs a x s e in
      c.standing ∙ ap (λ (l : Layers). standing_of a.1.0.now l a.1.1.1.0) c.layers

  pub advance_is : advanced x s.0.now ≡ advance_of a.1.0.now a.0.now a.1.1.0.now a.1.1.1.0
  advance_is = rw ((advance_reads.post-apart κs a x s e).layers, stood)
