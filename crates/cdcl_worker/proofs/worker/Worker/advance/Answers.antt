use Rattle.std.proofs.Common.{◌≢◌, ◌≤◌, Ok, refl, ap, sym, ◌∙◌, subst}
use Rattle.std.specs.Prelude.{All}
use Rattle.cnf_problem.specs.Literals.{IsOver}
use Rattle.trail_state.specs.Trails.{true_lits, IsAssigned}
use Rattle.order_solver.specs.declared.solver.Step.{Step}
use Rattle.order_solver.specs.declared.solver.Step.TheVariants.{Quiet}
use Rattle.order_solver.specs.Ordering.{IsStep}
use Rattle.clause_exchange.specs.Steps.{mine}
use Rattle.cdcl_worker.specs.Outcomes.{WorkerView}
use Rattle.cdcl_worker.proofs.Come.{come_then, come_asked, searching_come, at_answer, choice_over}
use Rattle.cdcl_worker.proofs.worker.Worker.advance.Goals as goal

pub propagate-requires-clause-thinking : goal.propagate-requires-clause-thinking
propagate-requires-clause-thinking c = (let s = c.requires.searching in (mine s.0, c.loop-found.invariant.come.thinking (mine s.0) s.1.going.thinking))

pub returns-in-Some-clause-found : goal.returns-in-Some-clause-found
returns-in-Some-clause-found c v s = c.in-Some.ensures.found v c.args.budget (searching_come c.args.problem.now c.args.budget _ _ v c.loop-found.invariant.come s)

pub ask_orders-requires-clause-thinking : goal.ask_orders-requires-clause-thinking
ask_orders-requires-clause-thinking c =
    let s = c.requires.searching in
    (mine s.0, c.in_default.ensures.come.thinking (mine s.0) (c.loop-found.invariant.come.thinking (mine s.0) s.1.going.thinking))

pub returns-in-Conflict-clause-found : goal.returns-in-Conflict-clause-found
returns-in-Conflict-clause-found c v s =
    let p = c.args.problem.now in
    let same = c.ask_orders.ensures.same in
    let asked = come_asked p _ _ same.0 same.1 same.2 same.3 c.ask_orders.ensures.thinking c.in_default.ensures.come.watching in
    let first = come_then p _ _ _ c.loop-found.invariant.come c.in_default.ensures.come in
    let at = at_answer p c.args.budget _ _ _ v first asked same.2 same.3 c.in_default.ensures.fixpoint s in
    let is = c.in-Conflict.is in
    let loud : c.in_ok-clause.field-0 ≢ Quiet = (λ quiet. absurd cc) in
    (at.0, at.1, subst (λ (x : Step). IsStep p (true_lits c.ask_orders.new.self.trail.entries) x) is (c.in_ok-clause.ensures.step loud))

pub returns-in-Implied-clause-found : goal.returns-in-Implied-clause-found
returns-in-Implied-clause-found c v s =
    let p = c.args.problem.now in
    let same = c.ask_orders.ensures.same in
    let asked = come_asked p _ _ same.0 same.1 same.2 same.3 c.ask_orders.ensures.thinking c.in_default.ensures.come.watching in
    let first = come_then p _ _ _ c.loop-found.invariant.come c.in_default.ensures.come in
    let at = at_answer p c.args.budget _ _ _ v first asked same.2 same.3 c.in_default.ensures.fixpoint s in
    let is = c.in-Implied.is in
    let loud : c.in_ok-clause.field-0 ≢ Quiet = (λ quiet. absurd cc) in
    (at.0, at.1, subst (λ (x : Step). IsStep p (true_lits c.ask_orders.new.self.trail.entries) x) is (c.in_ok-clause.ensures.step loud))

pub next-requires : goal.next-requires
next-requires c =
    let s = c.requires.searching in
    let p = c.args.problem.now in
    let t = c.ask_orders.ensures.thinking (mine s.0) (c.in_default.ensures.come.thinking (mine s.0) (c.loop-found.invariant.come.thinking (mine s.0) s.1.going.thinking)) in
    subst (λ (x : WorkerView). All (IsOver x.trail.vars) x.choice) (sym c.self-in-loop-found.view_is) (choice_over p _ (mine s.0) t)

pub loop-found-preserved : goal.loop-found-preserved
loop-found-preserved c =
    let p = c.args.problem.now in
    let same = c.ask_orders.ensures.same in
    let asked = come_asked p _ _ same.0 same.1 same.2 same.3 c.ask_orders.ensures.thinking c.in_default.ensures.come.watching in
    let first = come_then p _ _ _ c.loop-found.invariant.come c.in_default.ensures.come in
    record {
      come = come_then p _ _ _ (come_then p _ _ _ first asked) c.decide.ensures.come;
      well = c.decide.ensures.well;
    }

pub returns-in-None-clause-found : goal.returns-in-None-clause-found
returns-in-None-clause-found c v s =
    let p = c.args.problem.now in
    let same = c.ask_orders.ensures.same in
    let asked = come_asked p _ _ same.0 same.1 same.2 same.3 c.ask_orders.ensures.thinking c.in_default.ensures.come.watching in
    let first = come_then p _ _ _ c.loop-found.invariant.come c.in_default.ensures.come in
    let at = at_answer p c.args.budget _ _ _ v first asked same.2 same.3 c.in_default.ensures.fixpoint s in
    let here = c.self-in-loop-found.view_is in
    let vars = ap (λ (x : WorkerView). x.trail.vars) here ∙ at.0.going.thinking.vars in (
      at.0,
      at.1,
      c.in_ok-clause.ensures.quiet (ap Ok c.in-Quiet.is),
      λ n low high. subst (λ (x : WorkerView). IsAssigned x.trail.entries n) here (c.in-None.ensures.all refl n low (subst (λ m. n ≤ m) (sym vars) high)),
    )
