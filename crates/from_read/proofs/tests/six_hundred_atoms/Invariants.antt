use Rattle.std.proofs.Common.{◌≡◌, ◌≤◌, ◌<◌, ◌*◌, ℕ, length, vec_capacity}
use Rattle.std.specs.Prelude.{Contains}
use Rattle.from_read.proofs.tests.six_hundred_atoms.Given as goal

abbrev pub invariant-loop-node : goal.invariant-loop-node
invariant-loop-node g l = record {
  long : length l.nodes.items ≡ l.node;
  room : vec_capacity l.nodes ≡ 620;
}

abbrev pub invariant-loop-atom : goal.invariant-loop-atom
invariant-loop-atom g l = record {
  long : length l.kinds.items ≡ l.atom;
  room : vec_capacity l.kinds ≡ 600;
}

abbrev pub invariant-loop-atom-2 : goal.invariant-loop-atom-2
invariant-loop-atom-2 g l = record {
  all : length l.froms.kinds ≡ 600;
  below : (a : ℕ) → Contains l.froms.true_atoms a → a < l.atom;
  small : l.count ≤ 4294967295 * l.atom;
}
