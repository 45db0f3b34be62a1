use Rattle.std.proofs.Common.{◌≡◌, ◌++◌, drop, map}
use Rattle.c_check.specs.Recursion.{called_in_stmt, in_all}
use Rattle.c_check.specs.Graph.{numbers_of}
use Rattle.c_check.proofs.calls.Gatherer.+stmt.Given as goal

abbrev pub invariant-stmts-loop-stmt : goal.invariant-stmts-loop-stmt
invariant-stmts-loop-stmt l =
    l.into ++ numbers_of l.self.items.now (in_all (map called_in_stmt (drop l.stmt-index l.stmts)))
    ≡ l.fn.into ++ numbers_of l.self.items.now (in_all (map called_in_stmt l.stmts))
