use Rattle.std.proofs.Common.{sym, subst}
use Rattle.ssa_form.specs.States.{IsEntered}
use Rattle.ssa_form.proofs.Stepping.{on_ok}
use Rattle.ssa_form.proofs.Parting.{entered}
use Rattle.ssa_form.proofs.assign.enter.Goals as goal

pub returns : goal.returns
returns c =
    let a = c.args.walk.now in
    let e = entered a c.args.locals c.args.begin c.in_ok-walk.field-0 c.requires.walk c.requires.steps c.requires.begin c.in_ok-walk.ensures.count c.in_ok-walk.ensures.first in
    on_ok c.emit.result c.emit.ensures (λ same. subst (λ z. IsEntered a z c.args.locals c.args.begin) (sym same) e)
