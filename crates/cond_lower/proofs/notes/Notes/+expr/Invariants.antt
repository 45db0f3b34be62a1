use Rattle.std.proofs.Common.{◌≡◌, ◌++◌, map, drop}
use Rattle.cond_lower.specs.Nodes.{nodes_of_all, noted}
use Rattle.cond_lower.proofs.notes.Notes.+expr.Given as goal

abbrev pub invariant-exprs-loop-expr : goal.invariant-exprs-loop-expr
invariant-exprs-loop-expr l = l.list ++ nodes_of_all (map noted (drop l.expr-index l.exprs)) ≡ l.fn.list ++ nodes_of_all (map noted l.exprs)
