use Rattle.std.proofs.Common.{◌≡◌, drop, map}
use Rattle.c_check.specs.Counts as counts
use Rattle.c_check.specs.Capped.{capped_sums, expr_cost}
use Rattle.c_check.proofs.counter.Counter.+cost.Given as goal

abbrev pub invariant-arguments-loop-arg : goal.invariant-arguments-loop-arg
invariant-arguments-loop-arg l = record {
  found : capped_sums.together l.found (counts.arguments capped_sums l.count (map (expr_cost l.self.items.now l.self.table.now l.scope) (drop l.arg-index l.args))) ≡ counts.arguments capped_sums l.first (map (expr_cost l.self.items.now l.self.table.now l.scope) l.args);
  whole : capped_sums.together l.found counts.no_counts ≡ l.found;
}
