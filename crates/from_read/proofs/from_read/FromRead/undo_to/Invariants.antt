use Rattle.std.proofs.Common.{◌≡◌, ◌≤◌, length, take}
use Rattle.from_read.proofs.from_read.FromRead.undo_to.Given as goal

abbrev pub invariant-loop-self : goal.invariant-loop-self
invariant-loop-self l = record {
  atoms : l.self.true_atoms ≡ take (length l.self.true_atoms) l.fn.self.true_atoms;
  least : l.mark ≤ length l.self.true_atoms;
  most : length l.self.true_atoms ≤ length l.fn.self.true_atoms;
  problem : (l.self.nodes ≡ l.fn.self.nodes) × (l.self.kinds ≡ l.fn.self.kinds);
  cut : l.self.derived ≡ take (length l.self.derived) l.fn.self.derived;
  fewer : length l.self.derived ≤ length l.fn.self.derived;
}

abbrev pub decreases-loop-self : goal.decreases-loop-self
decreases-loop-self l = length l.self.true_atoms
