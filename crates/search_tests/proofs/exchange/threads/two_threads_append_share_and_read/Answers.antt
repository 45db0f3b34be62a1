use Rattle.std.proofs.Common.{ap, sym, ◌∙◌, subst, lit≤}
use Rattle.clause_exchange.specs.declared.rule.View.{View}
use Rattle.clause_exchange.specs.Steps.{mine}
use Rattle.clause_exchange.specs.Seats.{ExchangeId, SeatState}
use Rattle.search_tests.specs.Ready.{IsReady}
use Rattle.search_tests.proofs.Readiness.{cut_two, left_one, right_one, ready_blank, has_both}
use Rattle.search_tests.proofs.exchange.threads.two_threads_append_share_and_read.Goals as goal

pub split-one-requires-clause-within : goal.split-one-requires-clause-within
split-one-requires-clause-within g c = cut_two _ _ _ c.in_ok-exchange.ensures.view

pub do_both-seat-requires-clause-ready : goal.do_both-seat-requires-clause-ready
do_both-seat-requires-clause-ready g c =
    let left = left_one _ 4 _ _ c.in_ok-exchange.ensures.view c.split-one.ensures.left in
    let right = right_one _ 4 _ _ c.in_ok-exchange.ensures.view c.split-one.ensures.right in
    let zeroth : IsReady c.in_ok-zeroth.zeroth.seat.view 2 = subst (λ (s : SeatState). IsReady s.view 2) (sym c.in_ok-zeroth.ensures.seat.0) (ready_blank _ 2 4 0 2 _ (lit≤ tt) left) in
    let first : IsReady c.in_ok-first.first.seat.view 2 = subst (λ (s : SeatState). IsReady s.view 2) (sym c.in_ok-first.ensures.seat.0) (ready_blank _ 2 4 1 2 _ (lit≤ tt) right) in
    let both : IsReady c.in_ok-zeroth.zeroth.seat.view 2 × IsReady c.in_ok-first.first.seat.view 2 = (zeroth, first) in
    both

pub close-next-requires-clause-all : goal.close-next-requires-clause-all
close-next-requires-clause-all g c =
    let left = left_one _ 4 _ _ c.in_ok-exchange.ensures.view c.split-one.ensures.left in
    let right = right_one _ 4 _ _ c.in_ok-exchange.ensures.view c.split-one.ensures.right in
    let two = ap (λ (x : ExchangeId). x.workers) c.do_both-seat.ensures.same.0 ∙ (ap (λ (s : SeatState). s.view.workers) c.in_ok-zeroth.ensures.seat.0 ∙ ap (λ (u : View). u.workers) left) in
    let zeroth = c.do_both-seat.ensures.number.0 ∙ (ap (λ (s : SeatState). (mine s.view).number) c.in_ok-zeroth.ensures.seat.0 ∙ ap (λ (u : View). (mine u).number) left) in
    let first = c.do_both-seat.ensures.number.1 ∙ (ap (λ (s : SeatState). (mine s.view).number) c.in_ok-first.ensures.seat.0 ∙ ap (λ (u : View). (mine u).number) right) in
    has_both c.do_both-seat.result.0.0.view c.do_both-seat.result.1.0.view c.join.new.seat.view two c.do_both-seat.ensures.one.0 c.do_both-seat.ensures.one.1 zeroth first c.join.ensures.both
