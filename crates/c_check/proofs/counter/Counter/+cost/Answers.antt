use Rattle.c_check.proofs.Adding.{next_args, next_whole}
use Rattle.c_check.proofs.Namings.{call_cost}
use Rattle.c_check.proofs.counter.Counter.+cost.Goals as goal

pub arguments-loop-arg-preserved : goal.arguments-loop-arg-preserved
arguments-loop-arg-preserved t c = record {
  found = next_args c.args.self.now.items.now c.args.self.now.table.now c.args.scope.now c.loop-arg.count c.args.args.now c.loop-arg.arg-index c.arg-item.result
      c.loop-arg.found c.together-found.result _ c.loop-arg-test.true c.arg-item.is (cc) c.loop-arg.invariant.found;
  whole = next_whole c.loop-arg.found c.together-found.result _ c.together-found.ensures;
}

pub cost-returns-in-Call-clause-parts : goal.cost-returns-in-Call-clause-parts
cost-returns-in-Call-clause-parts t c =
    call_cost c.args.self.now.items.now c.args.self.now.table.now c.args.scope.now _ _ _ _ _ _ _ _ _ _ _ _ _ _ _ _ _
    c.in-Call.is c.as_slice-args.ensures c.as_slice-in-Call.ensures c.first_accesses.ensures c.arguments-arguments.ensures
    c.as_slice-in-Call-2.ensures c.thread-thread.ensures c.as_slice-in-Call-3.ensures c.body.ensures c.together-called.ensures
    c.of_weight.ensures c.together.ensures c.together-in-Call.ensures c.parts_only-in-Call.ensures.parts
