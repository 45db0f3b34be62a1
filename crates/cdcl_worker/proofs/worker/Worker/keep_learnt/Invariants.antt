use Rattle.std.proofs.Common.{◌≡◌}
use Rattle.cdcl_worker.proofs.worker.Worker.keep_learnt.Given as goal

abbrev pub invariant-loop-lit : goal.invariant-loop-lit
invariant-loop-lit l = record {
  log : l.self-inside.log ≡ l.initial.self-inside.log;
  pace : l.self-inside.pace ≡ l.initial.self-inside.pace;
  store : l.self-inside.store ≡ l.initial.self-inside.store;
  trail : l.self-inside.trail ≡ l.initial.self-inside.trail;
  order : l.self-inside.order ≡ l.initial.self-inside.order;
  choice : l.self-inside.choice ≡ l.initial.self-inside.choice;
}
