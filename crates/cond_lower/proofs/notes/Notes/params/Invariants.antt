use Rattle.std.proofs.Common.{◌≡◌, ◌++◌, map, drop}
use Rattle.cond_lower.specs.Nodes.{param_node}
use Rattle.cond_lower.proofs.notes.Notes.params.Given as goal

abbrev pub invariant-loop-param : goal.invariant-loop-param
invariant-loop-param l = l.list ++ map param_node (drop l.param-index l.params) ≡ l.fn.list ++ map param_node l.params
