use Rattle.std.proofs.Common.{◌≡◌, List, Option, refl, sym, subst}
use Rattle.std.specs.Prelude.{MatchOption}
use Rattle.dg_base.specs.declared.Lit.{Lit}
use Rattle.cnf_problem.specs.Chains.{AllFalse}
use Rattle.trail_state.specs.Trails.{true_lits}
use Rattle.order_solver.specs.Ordering.{IsAcyclic, IsCycleClause}
use Rattle.cdcl_worker.specs.Outcomes.{WorkerView}
use Rattle.cdcl_worker.specs.Searching.{IsThinking}
use Rattle.cdcl_worker.proofs.Come.{thinking_asked}
use Rattle.cdcl_worker.proofs.worker.Worker.ask_orders.Goals as goal

pub propagate-requires-clause-fits : goal.propagate-requires-clause-fits
propagate-requires-clause-fits g c =
    let p = c.args.problem.now in
    let part = c.requires.thinking.0 in
    (subst (λ (x : WorkerView). IsThinking p x part) (sym c.self.view_is) (c.tell_orders.ensures.thinking p part c.requires.thinking.1)).ordering

pub check-requires : goal.check-requires
check-requires g c =
    let p = c.args.problem.now in
    let part = c.requires.thinking.0 in
    record { fits = (subst (λ (x : WorkerView). IsThinking p x part) (sym c.self.view_is) (c.tell_orders.ensures.thinking p part c.requires.thinking.1)).ordering }

pub returns-then-len-budget-clause-thinking : goal.returns-then-len-budget-clause-thinking
returns-then-len-budget-clause-thinking g c part was =
    let p = c.args.problem.now in
    let now = subst (λ (x : WorkerView). IsThinking p x part) (sym c.self.view_is) (c.tell_orders.ensures.thinking p part was) in
    thinking_asked p _ _ part refl refl refl c.propagate.ensures.asserted c.propagate.ensures.fits now

pub returns-in_err-clause-clause-thinking : goal.returns-in_err-clause-clause-thinking
returns-in_err-clause-clause-thinking g c part was =
    let p = c.args.problem.now in
    let now = subst (λ (x : WorkerView). IsThinking p x part) (sym c.self.view_is) (c.tell_orders.ensures.thinking p part was) in
    thinking_asked p _ _ part refl refl refl c.check.ensures.asserted c.check.ensures.fits now

pub returns-in-Some-clause-thinking : goal.returns-in-Some-clause-thinking
returns-in-Some-clause-thinking g c part was =
    let p = c.args.problem.now in
    let now = subst (λ (x : WorkerView). IsThinking p x part) (sym c.self.view_is) (c.tell_orders.ensures.thinking p part was) in
    thinking_asked p _ _ part refl refl refl c.check.ensures.asserted c.check.ensures.fits now

pub returns-in-Some-clause-step : goal.returns-in-Some-clause-step
returns-in-Some-clause-step g c loud =
    let p = c.args.problem.now in
    let lits = c.self.inside.order.asserted in
    let told = subst (λ (x : WorkerView). x.order.asserted ≡ true_lits x.trail.entries) (sym c.self.view_is) c.tell_orders.ensures.told in
    let found = subst (λ (o : Option (List Lit)). MatchOption o (IsAcyclic p lits) (λ clause. IsCycleClause p clause × AllFalse lits clause)) c.in-Some.is c.in_ok-clause.ensures.found in
    (found.0, subst (λ ls. AllFalse ls c.in-Some.clause) told found.1)

pub returns-clause-thinking : goal.returns-clause-thinking
returns-clause-thinking g c part was =
    let p = c.args.problem.now in
    let now = subst (λ (x : WorkerView). IsThinking p x part) (sym c.self.view_is) (c.tell_orders.ensures.thinking p part was) in
    thinking_asked p _ _ part refl refl refl c.check.ensures.asserted c.check.ensures.fits now
