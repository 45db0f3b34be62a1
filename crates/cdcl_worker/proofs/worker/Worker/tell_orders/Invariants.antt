use Rattle.std.proofs.Common.{◌≡◌}
use Rattle.cdcl_worker.proofs.Told.{IsTelling}
use Rattle.cdcl_worker.proofs.worker.Worker.tell_orders.Given as goal

abbrev pub invariant-loop-i : goal.invariant-loop-i
invariant-loop-i l = record {
  log : l.self-inside.log ≡ l.initial.self-inside.log;
  pace : l.self-inside.pace ≡ l.initial.self-inside.pace;
  store : l.self-inside.store ≡ l.initial.self-inside.store;
  trail : l.self-inside.trail ≡ l.initial.self-inside.trail;
  choice : l.self-inside.choice ≡ l.initial.self-inside.choice;
  telling : IsTelling l.initial.self-inside.trail l.initial.self-inside.order l.self-inside.order l.i;
}
