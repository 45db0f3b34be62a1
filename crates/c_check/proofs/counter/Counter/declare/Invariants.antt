use Rattle.std.proofs.Common.{◌≡◌, drop}
use Rattle.c_rules.specs.Walk as walk
use Rattle.c_rules.specs.Passes.{Extends}
use Rattle.c_check.specs.Counts.{no_counts}
use Rattle.c_check.specs.Capped.{capped_sums, table_walk}
use Rattle.c_check.proofs.counter.Counter.declare.Given as goal

abbrev pub invariant-loop-declarator : goal.invariant-loop-declarator
invariant-loop-declarator l = record {
  found : capped_sums.together l.found (walk.declarators (table_walk l.self.k l.self.items.now l.self.table.now) l.word (drop l.declarator-index l.declarators) l.scope) ≡ walk.declarators (table_walk l.self.k l.self.items.now l.self.table.now) l.word l.declarators l.fn.scope;
  whole : capped_sums.together l.found no_counts ≡ l.found;
  scope : walk.declare_all l.word (drop l.declarator-index l.declarators) l.scope ≡ walk.declare_all l.word l.declarators l.fn.scope;
  grown : Extends l.fn.scope l.scope;
}
