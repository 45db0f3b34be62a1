use Rattle.std.proofs.Common.{◌∙◌, ap, sym, subst}
use Rattle.ssa_form.specs.Walks.{act_by, target}
use Rattle.ssa_form.specs.States.{IsWalk, AreNamed, IsChanged, noted}
use Rattle.ssa_form.proofs.Stepping.{made_walk, stepped, on_ok}
use Rattle.ssa_form.proofs.walk.Walk.step.Goals as goal

pub change-requires-clause-walk : goal.change-requires-clause-walk
change-requires-clause-walk c =
    let n = c.in_ok-named.ensures in
    let named = subst (λ z. AreNamed c.guard.new.self z c.args.step.now.act c.in_ok-named.named) n.only n in
    let same = c.in_ok-make.ensures ∙ ap (λ z. noted z c.in_ok-guard.guard.made (act_by c.args.step.now.act c.in_ok-named.named)) n.only in
    subst IsWalk (sym same) (made_walk c.args.self.now c.guard.new.self c.args.step.now c.in_ok-guard.guard c.in_ok-named.named c.named.new.self.terms c.requires.walk c.in_ok-guard.ensures named)

pub returns : goal.returns
returns c =
    let n = c.in_ok-named.ensures in
    let named = subst (λ z. AreNamed c.guard.new.self z c.args.step.now.act c.in_ok-named.named) n.only n in
    let same = c.in_ok-make.ensures ∙ ap (λ z. noted z c.in_ok-guard.guard.made (act_by c.args.step.now.act c.in_ok-named.named)) n.only in
    let change = subst (λ z. IsChanged z c.change.new.self c.in_ok-guard.guard (target c.args.step.now.act) c.in_ok-named.named.first) same c.in_ok-change.ensures in
    on_ok c.leave.result c.leave.ensures
    (stepped c.args.self.now c.guard.new.self c.args.step.now c.in_ok-guard.guard c.in_ok-named.named c.named.new.self.terms c.requires.walk c.in_ok-guard.ensures named c.change.new.self c.leave.new.self change)
