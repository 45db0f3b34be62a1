use Rattle.std.proofs.Common.{subst, sym, ◌∙◌, arith}
use Rattle.cnf_problem.specs.Formulas.{IsBuilt}
use Rattle.cnf_problem.proofs.GateLaws.{constant_true, constant_false, constant_over}
use Rattle.cnf_problem.proofs.gates.Gates.constant.Goals as goal

pub returns-then-value-clause-over : goal.returns-then-value-clause-over
returns-then-value-clause-over c = (omega arith, constant_over c.args.self.now (subst (λ f. IsBuilt f) c.self.view_is c.self.invariant))

pub returns-then-value-clause-exact : goal.returns-then-value-clause-exact
returns-then-value-clause-exact c s h =
    constant_true c.args.self.now s (subst (λ f. IsBuilt f) c.self.view_is c.self.invariant) h ∙ sym c.if-value.true

pub returns-else-value-clause-over : goal.returns-else-value-clause-over
returns-else-value-clause-over c = (omega arith, constant_over c.args.self.now (subst (λ f. IsBuilt f) c.self.view_is c.self.invariant))

pub returns-else-value-clause-exact : goal.returns-else-value-clause-exact
returns-else-value-clause-exact c s h =
    constant_false c.args.self.now s (subst (λ f. IsBuilt f) c.self.view_is c.self.invariant) h ∙ sym c.if-value.false
