use Rattle.std.proofs.Common.{◌≤◌, ◌<◌, length}
use Rattle.conflict_learn.specs.Marking.{AreMarks, LastBelow, StillFollow}
use Rattle.conflict_learn.proofs.resolvent.Resolvent.reduce.Given as goal

abbrev pub invariant-loop-self : goal.invariant-loop-self
invariant-loop-self g l = record {
  marks : AreMarks l.trail l.self.marked.items l.self.last;
  some : 0 < l.self.last;
  within : l.i ≤ length l.trail.entries;
  below : LastBelow l.trail.entries l.self.marked.items l.i;
  follow : StillFollow (g.R.Reasons.clauses l.reasons) l.trail.entries l.initial.self.marked.items l.self.marked.items;
}

abbrev pub decreases-loop-self : goal.decreases-loop-self
decreases-loop-self g l = l.i
