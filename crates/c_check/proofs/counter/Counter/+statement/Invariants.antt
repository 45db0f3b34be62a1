use Rattle.std.proofs.Common.{◌≡◌, drop, map}
use Rattle.c_rules.specs.Walk as walk
use Rattle.c_rules.specs.Passes.{Extends}
use Rattle.c_check.specs.Counts.{no_counts}
use Rattle.c_check.specs.Capped.{capped_sums, table_walk}
use Rattle.c_check.proofs.counter.Counter.+statement.Given as goal

abbrev pub invariant-sequence-loop-stmt : goal.invariant-sequence-loop-stmt
invariant-sequence-loop-stmt l = record {
  found : capped_sums.together l.found (walk.in_turn (table_walk l.self.k l.self.items.now l.self.table.now) (map (walk.walk (table_walk l.self.k l.self.items.now l.self.table.now)) (drop l.stmt-index l.body)) l.scope) ≡ walk.in_turn (table_walk l.self.k l.self.items.now l.self.table.now) (map (walk.walk (table_walk l.self.k l.self.items.now l.self.table.now)) l.body) l.fn.scope;
  whole : capped_sums.together l.found no_counts ≡ l.found;
  grown : Extends l.fn.scope l.scope;
}
