use Rattle.std.proofs.Common.{[], ap, sym, ◌∙◌, subst, lit≤}
use Rattle.cnf_problem.specs.declared.problem.Problem.{Problem}
use Rattle.cnf_problem.specs.Problems.{Follows}
use Rattle.clause_exchange.specs.Seats.{ExchangeId}
use Rattle.search_tests.proofs.Readiness.{ready_less, other_kept}
use Rattle.search_tests.proofs.exchange.threads.work_at.Goals as goal

pub append_and_share-zeroth-requires-clause-ready : goal.append_and_share-zeroth-requires-clause-ready
append_and_share-zeroth-requires-clause-ready c = ready_less _ 2 1 (lit≤ tt) c.requires.ready

pub append_and_share-next-requires-clause-ready : goal.append_and_share-next-requires-clause-ready
append_and_share-next-requires-clause-ready c = c.append_and_share-zeroth.ensures.on.ready 1 c.requires.ready

pub append_and_share-next-requires-clause-follows : goal.append_and_share-next-requires-clause-follows
append_and_share-next-requires-clause-follows c = subst (λ (p : Problem). Follows p [] c.args.second) (sym (ap (λ (x : ExchangeId). x.problem) c.append_and_share-zeroth.ensures.same)) c.requires.second

pub look_at-words-requires-clause-one : goal.look_at-words-requires-clause-one
look_at-words-requires-clause-one c = (c.append_and_share-next.ensures.on.ready 0 (c.append_and_share-zeroth.ensures.on.ready 1 c.requires.ready)).one

pub look_at-words-requires-clause-row : goal.look_at-words-requires-clause-row
look_at-words-requires-clause-row c = other_kept c.args.seat.view c.append_and_share-next.new.seat.view c.args.row (ap (λ (x : ExchangeId). x.workers) (c.append_and_share-next.ensures.same ∙ c.append_and_share-zeroth.ensures.same)) (c.append_and_share-next.ensures.on.number ∙ c.append_and_share-zeroth.ensures.on.number) c.requires.row

pub read_ticket-zeroth_read-requires-clause-row : goal.read_ticket-zeroth_read-requires-clause-row
read_ticket-zeroth_read-requires-clause-row c = other_kept c.args.seat.view c.look_at-words.new.seat.view c.args.row (ap (λ (x : ExchangeId). x.workers) (c.look_at-words.ensures.same ∙ (c.append_and_share-next.ensures.same ∙ c.append_and_share-zeroth.ensures.same))) (c.look_at-words.ensures.number ∙ (c.append_and_share-next.ensures.on.number ∙ c.append_and_share-zeroth.ensures.on.number)) c.requires.row

pub read_ticket-next_read-requires-clause-row : goal.read_ticket-next_read-requires-clause-row
read_ticket-next_read-requires-clause-row c = other_kept c.args.seat.view c.read_ticket-zeroth_read.new.seat.view c.args.row (ap (λ (x : ExchangeId). x.workers) (c.read_ticket-zeroth_read.ensures.same ∙ (c.look_at-words.ensures.same ∙ (c.append_and_share-next.ensures.same ∙ c.append_and_share-zeroth.ensures.same)))) (c.read_ticket-zeroth_read.ensures.number ∙ (c.look_at-words.ensures.number ∙ (c.append_and_share-next.ensures.on.number ∙ c.append_and_share-zeroth.ensures.on.number))) c.requires.row

pub read_ticket-no_more-requires-clause-row : goal.read_ticket-no_more-requires-clause-row
read_ticket-no_more-requires-clause-row c = other_kept c.args.seat.view c.read_ticket-next_read.new.seat.view c.args.row (ap (λ (x : ExchangeId). x.workers) (c.read_ticket-next_read.ensures.same ∙ (c.read_ticket-zeroth_read.ensures.same ∙ (c.look_at-words.ensures.same ∙ (c.append_and_share-next.ensures.same ∙ c.append_and_share-zeroth.ensures.same))))) (c.read_ticket-next_read.ensures.number ∙ (c.read_ticket-zeroth_read.ensures.number ∙ (c.look_at-words.ensures.number ∙ (c.append_and_share-next.ensures.on.number ∙ c.append_and_share-zeroth.ensures.on.number)))) c.requires.row
