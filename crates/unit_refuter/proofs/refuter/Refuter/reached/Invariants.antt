use Rattle.std.proofs.Common.{◌≡◌, take}
use Rattle.trail_state.specs.Trails.{true_lits}
use Rattle.unit_refuter.proofs.refuter.Refuter.reached.Given as goal

abbrev pub invariant-loop-i : goal.invariant-loop-i
invariant-loop-i l = l.lits ≡ take l.i (true_lits l.self.trail.entries)
