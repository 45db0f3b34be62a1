use Rattle.std.proofs.Common.{◌≤◌, length}
use Rattle.conflict_learn.proofs.Collecting.{CollectedFrom}
use Rattle.conflict_learn.proofs.resolvent.Resolvent.learnt.Given as goal

abbrev pub invariant-loop-i : goal.invariant-loop-i
invariant-loop-i l = record {
  within : l.i ≤ length l.trail.entries;
  collected : CollectedFrom l.trail.entries l.self.marked.items l.i l.lits l.back;
}

abbrev pub decreases-loop-i : goal.decreases-loop-i
decreases-loop-i l = l.i
