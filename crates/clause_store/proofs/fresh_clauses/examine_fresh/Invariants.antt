use Rattle.std.proofs.Common.{◌≡◌, ◌≤◌, ◌++◌, length}
use Rattle.trail_state.specs.Forcing.{AddsForced}
use Rattle.clause_store.specs.Visiting.{IsFree}
use Rattle.clause_store.specs.Stores.{AreWatched}
use Rattle.clause_store.proofs.fresh_clauses.examine_fresh.Given as goal

abbrev pub invariant-loop-id : goal.invariant-loop-id
invariant-loop-id l = record {
  watched : AreWatched (l.first ++ l.added) l.initial.trail.vars l.links l.id l.trail;
  same : l.examined ≡ l.id;
  free : IsFree l.trail.entries;
  few : l.trail.taken ≤ length l.trail.entries;
  forced : AddsForced (l.first ++ l.added) l.initial.trail.entries l.trail.entries;
}
