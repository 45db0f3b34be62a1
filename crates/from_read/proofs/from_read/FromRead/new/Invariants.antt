use Rattle.std.proofs.Common.{◌≡◌, map, take, vec_capacity}
use Rattle.from_read.proofs.from_read.FromRead.new.Given as goal

abbrev pub invariant-loop-atom : goal.invariant-loop-atom
invariant-loop-atom l = record {
  made : l.kinds.items ≡ map (λ a. a.kind) (take l.atom-index l.problem.atoms);
  room : vec_capacity l.kinds ≡ l.count;
}
