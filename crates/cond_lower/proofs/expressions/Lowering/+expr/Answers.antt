use Rattle.std.proofs.Common.{◌≡◌, ◌∙◌, sym, ap, subst, IfOk}
use Rattle.c_tree.specs.declared.expr.Expr.{Expr}
use Rattle.cond_lower.specs.Calls.{cond_call_named}
use Rattle.cond_lower.proofs.Behind.{called_is}
use Rattle.cond_lower.proofs.expressions.Lowering.+expr.Goals as goal

pub call-returns-in-Some : goal.call-returns-in-Some
call-returns-in-Some t c =
    subst (λ (y : Expr). IfOk c.cond_call.result (λ x. x ≡ y))
    (called_is c.args.self.now.wakeups c.args.place c.args.name.now (cond_call_named c.args.name.now) c.in-Some.call c.cond_name.result.now c.args.args.now
    (sym (ap cond_call_named c.as_slice.ensures) ∙ sym c.cond_call_named.ensures ∙ c.in-Some.is) c.cond_name.ensures) c.cond_call.ensures
