use Rattle.std.proofs.Common.{◌≤◌, ◌-◌, ◌++◌, length}
use Rattle.trail_state.specs.Forcing.{AddsForced}
use Rattle.clause_store.specs.Stores.{AreWatched}
use Rattle.clause_store.proofs.propagate.visit_taken.Given as goal

abbrev pub invariant-loop-lit : goal.invariant-loop-lit
invariant-loop-lit l = record {
  watched : AreWatched (l.first ++ l.added) l.initial.trail.vars l.links (length (l.first ++ l.added)) l.trail;
  few : l.trail.taken ≤ length l.trail.entries;
  forced : AddsForced (l.first ++ l.added) l.initial.trail.entries l.trail.entries;
}

abbrev pub decreases-loop-lit : goal.decreases-loop-lit
decreases-loop-lit l = l.trail.vars - l.trail.taken
