use Rattle.std.proofs.Common.{◌≡◌, ◌++◌, drop}
use Rattle.cond_lower.specs.Nodes.{declarators_nodes}
use Rattle.cond_lower.proofs.notes.Notes.declarators.Given as goal

abbrev pub invariant-loop-declarator : goal.invariant-loop-declarator
invariant-loop-declarator l = l.list ++ declarators_nodes l.shared l.word (drop l.declarator-index l.declarators) ≡ l.fn.list ++ declarators_nodes l.shared l.word l.declarators
