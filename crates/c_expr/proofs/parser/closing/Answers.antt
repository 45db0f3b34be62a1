use Rattle.std.proofs.Common.{reverse, subst}
use Rattle.std.specs.Prelude.{IfOk}
use Rattle.c_expr.specs.Machine as machine
use Rattle.c_expr.specs.Parser as spec
use Rattle.c_expr.proofs.Stacks.{moved_step, extend_shuts}
use Rattle.c_expr.proofs.parser.closing.Goals as goal

pub returns : goal.returns
returns c =
    subst (λ next. IfOk c.behind_closed.result (λ r. spec.StepGives r c.behind_closed.new.stack next (machine.Have c.args.tree (reverse c.args.stack.now))))
    (extend_shuts c.args.limits.form c.args.limits.room c.args.word c.args.place c.args.tree (reverse c.args.stack.now) c.requires)
    (moved_step c.behind_closed.result c.behind_closed.new.stack (λ (h : machine.Held). machine.behind_closed c.args.limits.form c.args.limits.room c.args.word c.args.place h.tree h.stack) 0 c.args.tree (reverse c.args.stack.now) _
    c.in_ok-closed.ensures c.behind_closed.ensures)
