use Rattle.std.proofs.Common.{ap, ◌∙◌}
use Rattle.c_check.specs.Capped.{capped_sums}
use Rattle.c_check.proofs.Adding.{next_values, next_whole}
use Rattle.c_check.proofs.counter.Counter.values.Goals as goal

pub loop-expr-preserved : goal.loop-expr-preserved
loop-expr-preserved c = record {
  found = next_values c.args.self.now.items.now c.args.self.now.table.now c.args.scope.now c.args.exprs.now c.loop-expr.expr-index c.expr-item.result
      c.loop-expr.found c.together-found.result _ c.loop-expr-test.true c.expr-item.is (c.together-found.ensures ∙ ap (capped_sums.together c.loop-expr.found) c.value.ensures) c.loop-expr.invariant.found;
  whole = next_whole c.loop-expr.found c.together-found.result _ c.together-found.ensures;
}
