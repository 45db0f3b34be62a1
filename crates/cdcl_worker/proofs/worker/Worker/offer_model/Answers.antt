use Rattle.std.proofs.Common.{◌++◌, ◌∷◌, [], List, Bool, Some, ap, sym, ◌∙◌, subst}
use Rattle.cnf_problem.specs.declared.problem.Problem.{Problem}
use Rattle.cnf_problem.specs.Problems.{IsConsistent}
use Rattle.search_core.specs.declared.Verdict.TheVariants.{Unsafe}
use Rattle.clause_exchange.specs.declared.rule.View.{View}
use Rattle.clause_exchange.specs.Steps.{mine}
use Rattle.cdcl_worker.specs.Outcomes.{WorkerView}
use Rattle.cdcl_worker.specs.Searching.{HasFound}
use Rattle.cdcl_worker.specs.declared.search.Found.TheVariants.{Model}
use Rattle.cdcl_worker.proofs.Come.{left_offered}
use Rattle.cdcl_worker.proofs.Models.{consistent}
use Rattle.cdcl_worker.proofs.worker.Worker.offer_model.Goals as goal

pub offer-requires-clause-cause : goal.offer-requires-clause-cause
offer-requires-clause-cause c =
    let p = c.args.problem.now in
    let m = subst (λ (w : WorkerView). HasFound p c.requires.model.0 w c.args.seat.now.view Model) (sym c.self.view_is) c.requires.model.1 in (
      c.in_ok-values.values.items,
      subst (λ (q : Problem). IsConsistent q c.in_ok-values.values.items) (sym c.requires.problem)
          (consistent p c.self.inside.trail.entries m.3 c.in_ok-values.values.items c.in_ok-values.ensures.each c.self.inside.store.added m.1 m.2 c.in_ok-values.ensures.long),
    )

pub returns-clause-left : goal.returns-clause-left
returns-clause-left c = left_offered c.args.self.now c.args.seat.now.view c.offer.new.seat.view Unsafe (Some c.offer.result) c.requires.model.1.0.going.logging c.offer.ensures.stands

pub returns-clause-outcome : goal.returns-clause-outcome
returns-clause-outcome c budget =
    let p = c.args.problem.now in
    let m = subst (λ (w : WorkerView). HasFound p c.requires.model.0 w c.args.seat.now.view Model) (sym c.self.view_is) c.requires.model.1 in (
      subst (λ (xs : List Bool). IsConsistent p xs) (sym c.from_vec.ensures)
          (consistent p c.self.inside.trail.entries m.3 c.in_ok-values.values.items c.in_ok-values.ensures.each c.self.inside.store.added m.1 m.2 c.in_ok-values.ensures.long),
      ap (λ (x : View). (mine x).offers) c.offer.ensures.stands ∙ ap (λ xs. xs ++ Unsafe ∷ []) m.0.going.silent,
    )
