use Rattle.std.proofs.Common.{◌≡◌, ℕ, ◌++◌, ◌≤◌, drop, None, Some}
use Rattle.consistency.specs.Numbering.{thread_nodes}
use Rattle.consistency.proofs.numbering.thread_nodes.Given as goal

abbrev pub invariant-loop-action : goal.invariant-loop-action
invariant-loop-action l = record {
  counted : l.index ≡ l.action-index;
  opened : (o : ℕ) → l.before ≡ Some o → o ≤ l.index;
  left : thread_nodes l.thread.handle l.first None 0 l.thread.actions ≡ l.nodes ++ thread_nodes l.thread.handle l.first l.before l.index (drop l.action-index l.thread.actions);
}
