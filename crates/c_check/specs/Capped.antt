-- Counts of 32 bits: each number above the largest u32 is that number. No public contract cites these sums: they come to the
-- exact counts, capped.
use Rattle.std.specs.Prelude.{ℕ, ◌+◌, ◌*◌, max, List, slice_get, Option, Some, None}
use Rattle.c_tree.specs.Level.{capped}
use Rattle.c_tree.specs.declared.program.Item.{Item}
use Rattle.c_tree.specs.declared.expr.Expr.{Expr}
use Rattle.c_rules.specs.Names.{Name, Scope, variable_named}
use Rattle.c_rules.specs.Walk.{Walk}
use Rattle.c_check.specs.declared.counts.Counts.{Counts}
use Rattle.c_check.specs.Counts.{Sums, Cost, no_counts, cost, counts_walk, counts_named}

abbrev pub capped_counts : Counts → Counts
capped_counts x = record {
  creates = capped x.creates;
  threads = capped x.threads;
  depth = capped x.depth;
  most = capped x.most;
  accesses = capped x.accesses;
  weight = capped x.weight;
}

unfoldable pub capped_sums : Sums
capped_sums = record {
  together = λ x y. record {
    creates = capped (x.creates + y.creates);
    threads = capped (x.threads + y.threads);
    depth = max x.depth y.depth;
    most = max x.most y.most;
    accesses = capped (x.accesses + y.accesses);
    weight = capped (x.weight + y.weight);
  };
  times = λ n x. record {
    creates = capped (n * x.creates);
    threads = capped (n * x.threads);
    depth = x.depth;
    most = x.most;
    accesses = capped (n * x.accesses);
    weight = capped (n * x.weight);
  };
  new_thread = λ x. record {
    creates = 1;
    threads = capped (1 + x.threads);
    depth = capped (1 + x.depth);
    most = max x.creates x.most;
    accesses = x.accesses;
    weight = x.weight;
  };
  accesses = λ n. record { creates = 0; threads = 0; depth = 0; most = 0; accesses = capped n; weight = 0 };
  weight = λ n. record { creates = 0; threads = 0; depth = 0; most = 0; accesses = 0; weight = capped n };
}

abbrev pub counts_or_none : Option Counts → Counts
counts_or_none None = no_counts
counts_or_none (Some x) = x

-- what a table says of the item of a number
abbrev pub table_at : List Counts → ℕ → Counts
table_at table i = counts_or_none (slice_get table i)

-- what a table says of the function that a name stands for
abbrev pub table_named : List Item → List Counts → Name → Counts
table_named items table n = counts_named (table_at table) items n

-- what an expression costs in a scope, by a table
abbrev pub expr_cost : List Item → List Counts → Scope → Expr → Cost
expr_cost items table s = cost capped_sums (table_named items table) (variable_named s)

-- the walk by a table
abbrev pub table_walk : ℕ → List Item → List Counts → Walk Counts
table_walk k items table = counts_walk capped_sums k (table_named items table)
