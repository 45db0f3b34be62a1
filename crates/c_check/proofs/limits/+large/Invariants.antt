use Rattle.std.proofs.Common.{◌≡◌, drop, map}
use Rattle.c_rules.specs.Names.{or_else}
use Rattle.c_check.specs.Limits.{large_in_all, large_in_stmt}
use Rattle.c_check.proofs.limits.+large.Given as goal

abbrev pub invariant-large_in_all-loop-stmt : goal.invariant-large_in_all-loop-stmt
invariant-large_in_all-loop-stmt l = or_else l.found (large_in_all (map large_in_stmt (drop l.stmt-index l.stmts))) ≡ large_in_all (map large_in_stmt l.stmts)
