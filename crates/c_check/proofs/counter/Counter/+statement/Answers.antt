use Rattle.std.proofs.Common.{ap, ◌∙◌}
use Rattle.c_check.specs.Capped.{capped_sums}
use Rattle.c_rules.proofs.Growing.{further}
use Rattle.c_check.proofs.Adding.{next_stmt, next_whole}
use Rattle.c_check.proofs.counter.Counter.+statement.Goals as goal

pub sequence-loop-stmt-preserved : goal.sequence-loop-stmt-preserved
sequence-loop-stmt-preserved t c = record {
  found = next_stmt c.args.self.now.k c.args.self.now.items.now c.args.self.now.table.now c.args.body.now c.loop-stmt.stmt-index c.stmt-item.result
      c.loop-stmt.scope c.statement.new.scope c.loop-stmt.found c.together-found.result _ c.loop-stmt-test.true c.stmt-item.is
      c.in_ok-counts.ensures.scope (c.together-found.ensures ∙ ap (capped_sums.together c.loop-stmt.found) c.in_ok-counts.ensures.found) c.loop-stmt.invariant.found;
  whole = next_whole c.loop-stmt.found c.together-found.result _ c.together-found.ensures;
  grown = further c.args.scope.now c.loop-stmt.scope c.statement.new.scope c.loop-stmt.invariant.grown c.in_ok-counts.ensures.grown;
}
