use Rattle.std.proofs.Common.{◌≡◌, ◌+◌, ◌*◌}
use Rattle.names.specs.Names.{same_in, alike_in, unlike_in}
use Rattle.names.proofs.compare.Given as goal

abbrev pub invariant-loop-i : goal.invariant-loop-i
invariant-loop-i l = record {
  met : l.alike + l.unlike ≡ 2 * l.i;
  sapi_so_far : l.sapi ≡ same_in l.i 0 l.accepted l.names;
  dapi_so_far : l.dapi ≡ same_in l.i 16 l.accepted l.names;
  alike_so_far : l.alike ≡ alike_in l.i 0 l.accepted l.names + alike_in l.i 16 l.accepted l.names;
  unlike_so_far : l.unlike ≡ unlike_in l.i 0 l.accepted l.names + unlike_in l.i 16 l.accepted l.names;
}
