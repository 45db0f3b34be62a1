use Rattle.std.proofs.Common.{◌≡◌, ◌++◌, drop, map}
use Rattle.c_check.specs.Recursion.{called, all_called}
use Rattle.c_check.specs.Graph.{numbers_of}
use Rattle.c_check.proofs.calls.Gatherer.+expr.Given as goal

abbrev pub invariant-exprs-loop-expr : goal.invariant-exprs-loop-expr
invariant-exprs-loop-expr l =
    l.into ++ numbers_of l.self.items.now (all_called (map called (drop l.expr-index l.exprs)))
    ≡ l.fn.into ++ numbers_of l.self.items.now (all_called (map called l.exprs))
