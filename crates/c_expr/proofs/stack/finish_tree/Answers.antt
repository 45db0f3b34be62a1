use Rattle.std.proofs.Common.{ap, ◌∙◌}
use Rattle.c_expr.specs.Machine as machine
use Rattle.c_expr.proofs.Stacks.{whole_unless}
use Rattle.c_expr.proofs.stack.finish_tree.Goals as goal

pub returns-else-is_empty : goal.returns-else-is_empty
returns-else-is_empty c =
    whole_unless c.in_ok-tree.tree c.close.new.stack c.is_empty.result c.is_empty.ensures c.if-is_empty.false
    ∙ ap (λ (h : machine.Held). machine.whole h.tree h.stack) c.in_ok-tree.ensures
