use Rattle.std.proofs.Common.{◌≡◌, false, true, ap, sym, ◌∙◌, subst}
use Rattle.log_checker.specs.Checking.{CheckerView}
use Rattle.log_checker.specs.Refusals.{Fails}
use Rattle.log_checker.specs.Refusals.Fails.{no_empty}
use Rattle.log_checker.specs.declared.refused.Refused.TheVariants.{NoEmpty}
use Rattle.log_checker.proofs.checker.Checker.finish.Goals as goal

pub returns-then-self-clause-ok : goal.returns-then-self-clause-ok
returns-then-self-clause-ok c p entries taken =
    let flag = ap (λ (v : CheckerView). v.ends_empty) (sym c.self.view_is) ∙ c.if-self.true in
    let count = ap (λ (v : CheckerView). v.taken) c.self.view_is in
    (taken.empty.0 flag, count ∙ taken.counted)

pub returns-clause-refused : goal.returns-clause-refused
returns-clause-refused c p entries taken =
    let flag = ap (λ (v : CheckerView). v.ends_empty) (sym c.self.view_is) ∙ c.if-self.false in
    let count = ap (λ (v : CheckerView). v.taken) c.self.view_is in
    subst (λ n. Fails p entries (NoEmpty n)) (sym (count ∙ taken.counted)) (no_empty taken.good (λ ends. let e : false ≡ true = sym flag ∙ taken.empty.1 ends in cc))
