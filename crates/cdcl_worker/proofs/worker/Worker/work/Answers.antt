use Rattle.std.proofs.Common.{ap, ◌∙◌, subst}
use Rattle.cnf_problem.specs.declared.problem.Problem.{Problem}
use Rattle.clause_exchange.specs.Seats.{ExchangeId}
use Rattle.clause_exchange.specs.Steps.{mine}
use Rattle.worker_log.specs.Newness.{WereNew}
use Rattle.cdcl_worker.proofs.Begun.{fresh_may}
use Rattle.cdcl_worker.proofs.worker.Worker.work.Goals as goal

pub search-requires-clause-may : goal.search-requires-clause-may
search-requires-clause-may g c =
    fresh_may c.args.problem.now c.args.budget c.args.self.now c.args.seat.now.view c.requires.fresh c.requires.problem c.requires.idle c.requires.few

pub returns-in-Ok-clause-number : goal.returns-in-Ok-clause-number
returns-in-Ok-clause-number g c = c.search.ensures.left.number

pub returns-in-Ok-clause-booked : goal.returns-in-Ok-clause-booked
returns-in-Ok-clause-booked g c = c.search.ensures.left.logging.booked

pub returns-in-Ok-clause-new : goal.returns-in-Ok-clause-new
returns-in-Ok-clause-new g c = subst (λ (q : Problem). WereNew q (mine c.search.new.seat.view)) (ap (λ (x : ExchangeId). x.problem) c.search.ensures.same ∙ c.requires.problem) c.search.ensures.left.logging.new

pub returns-in-Ok-clause-outcome : goal.returns-in-Ok-clause-outcome
returns-in-Ok-clause-outcome g c = c.in-Ok.ensures.outcome

pub returns-in-Err-clause-number : goal.returns-in-Err-clause-number
returns-in-Err-clause-number g c = c.search.ensures.left.number

pub returns-in-Err-clause-booked : goal.returns-in-Err-clause-booked
returns-in-Err-clause-booked g c = c.search.ensures.left.logging.booked

pub returns-in-Err-clause-new : goal.returns-in-Err-clause-new
returns-in-Err-clause-new g c = subst (λ (q : Problem). WereNew q (mine c.search.new.seat.view)) (ap (λ (x : ExchangeId). x.problem) c.search.ensures.same ∙ c.requires.problem) c.search.ensures.left.logging.new

pub returns-in-Err-clause-outcome : goal.returns-in-Err-clause-outcome
returns-in-Err-clause-outcome g c = c.in-Err.ensures.err
