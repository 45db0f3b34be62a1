use Rattle.std.proofs.Common.{◌≡◌, ◌++◌, drop}
use Rattle.cond_lower.specs.Nodes.{nodes_of_items}
use Rattle.cond_lower.proofs.notes.Notes.program.Given as goal

abbrev pub invariant-loop-item : goal.invariant-loop-item
invariant-loop-item l = l.list ++ nodes_of_items (drop l.item-index l.program.items) ≡ nodes_of_items l.program.items
