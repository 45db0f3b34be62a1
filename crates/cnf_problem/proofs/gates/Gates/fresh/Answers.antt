use Rattle.std.proofs.Common.{◌+◌, subst}
use Rattle.cnf_problem.specs.Formulas.{AddsFree}
use Rattle.cnf_problem.proofs.GateLaws.{adds_free}
use Rattle.cnf_problem.proofs.gates.Gates.fresh.Goals as goal

pub returns-clause-free : goal.returns-clause-free
returns-clause-free c =
    subst (λ f. AddsFree f (record { vars = c.self.inside.vars + 1; clauses = c.self.inside.clauses })) c.self.view_is
    (adds_free (record { vars = c.self.inside.vars; clauses = c.self.inside.clauses }) c.self.invariant)
