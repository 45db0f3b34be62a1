use Rattle.std.proofs.Common.{◌≡◌, ◌++◌, map, take}
use Rattle.encode_match.specs.Parts.{fence_atom}
use Rattle.encode.proofs.graphs.add_fences.Given as goal

abbrev pub invariant-loop-fence : goal.invariant-loop-fence
invariant-loop-fence l = l.atoms ≡ l.initial.atoms ++ map fence_atom (take l.fence-index l.fences)
