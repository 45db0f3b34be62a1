use Rattle.std.proofs.Common.{◌≡◌, ◌++◌, drop}
use Rattle.cond_lower.specs.Nodes.{all_stmt_nodes}
use Rattle.cond_lower.proofs.notes.Notes.+stmt.Given as goal

abbrev pub invariant-stmts-loop-stmt : goal.invariant-stmts-loop-stmt
invariant-stmts-loop-stmt l = l.list ++ all_stmt_nodes (drop l.stmt-index l.stmts) ≡ l.fn.list ++ all_stmt_nodes l.stmts
