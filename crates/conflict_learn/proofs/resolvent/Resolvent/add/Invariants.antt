use Rattle.std.proofs.Common.{◌≤◌, take}
use Rattle.conflict_learn.specs.Marking.{AreMarks, AddsMarks}
use Rattle.conflict_learn.proofs.resolvent.Resolvent.add.Given as goal

abbrev pub invariant-loop-lit : goal.invariant-loop-lit
invariant-loop-lit l = record {
  marks : AreMarks l.trail l.self.marked.items l.self.last;
  adds : AddsMarks l.trail.entries l.initial.self.marked.items l.self.marked.items (take l.lit-index l.clause);
  grows : l.initial.self.last ≤ l.self.last;
}
