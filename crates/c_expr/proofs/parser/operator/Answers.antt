use Rattle.std.proofs.Common.{reverse}
use Rattle.c_expr.specs.Machine as machine
use Rattle.c_expr.specs.Parser as spec
use Rattle.c_expr.proofs.Stacks.{moved_step}
use Rattle.c_expr.proofs.parser.operator.Goals as goal

pub returns : goal.returns
returns c =
    moved_step c.push_over.result c.push_over.new.stack (λ h. machine.over c.args.limits.form c.args.limits.room c.args.level h (spec.opened c.args.opening c.args.place)) c.args.closing c.args.tree (reverse c.args.stack.now) _
    c.in_ok-closed.ensures c.push_over.ensures
