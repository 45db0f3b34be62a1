use Rattle.order_solver.proofs.Cycles.{cause_gives}
use Rattle.order_solver.proofs.explain.deny_step.Goals as goal

pub returns-in_ok-deny_cause-in-Some-clause-step : goal.returns-in_ok-deny_cause-in-Some-clause-step
returns-in_ok-deny_cause-in-Some-clause-step c = λ lits g caused.
    let at = c.in-Some.ensures in
    cause_gives c.args.problem.now lits c.deny_cause.new.clause (record { graph = g; from = c.args.from; to = c.args.to }) c.in-Some.cause (caused at.0 c.args.from c.args.to c.in-Some.cause at.1 at.2) c.in_ok-deny_cause-in-Some.ensures.denies

pub returns-in_ok-deny_cause-in-Some-clause-denying : goal.returns-in_ok-deny_cause-in-Some-clause-denying
returns-in_ok-deny_cause-in-Some-clause-denying c = λ lits g caused is.
    let at = c.in-Some.ensures in
    c.in_ok-deny_cause-in-Some.ensures.denying lits (record { graph = g; from = c.args.from; to = c.args.to }) (caused at.0 c.args.from c.args.to c.in-Some.cause at.1 at.2) is
