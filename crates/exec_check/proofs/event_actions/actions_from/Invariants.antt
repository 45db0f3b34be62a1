use Rattle.std.proofs.Common.{◌≡◌, ◌++◌, drop}
use Rattle.exec_check.specs.EventActions as specs
use Rattle.exec_check.proofs.event_actions.actions_from.Given as goal

abbrev pub invariant-loop-action : goal.invariant-loop-action
invariant-loop-action l = record {
  counted : l.index ≡ l.action-index;
  left : specs.actions_from l.handle 0 l.actions ≡ l.list ++ specs.actions_from l.handle l.index (drop l.action-index l.actions);
}
