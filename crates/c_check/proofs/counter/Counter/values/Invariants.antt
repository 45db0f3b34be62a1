use Rattle.std.proofs.Common.{◌≡◌, drop}
use Rattle.c_check.specs.Counts as counts
use Rattle.c_check.specs.Capped.{capped_sums, table_named}
use Rattle.c_check.proofs.counter.Counter.values.Given as goal

abbrev pub invariant-loop-expr : goal.invariant-loop-expr
invariant-loop-expr l = record {
  found : capped_sums.together l.found (counts.counts_in_all capped_sums (table_named l.self.items.now l.self.table.now) l.scope (drop l.expr-index l.exprs)) ≡ counts.counts_in_all capped_sums (table_named l.self.items.now l.self.table.now) l.scope l.exprs;
  whole : capped_sums.together l.found counts.no_counts ≡ l.found;
}
