use Rattle.std.proofs.Common.{lit≤}
use Rattle.search_tests.proofs.Readiness.{cut_two, right_one, ready_blank}
use Rattle.search_tests.proofs.exchange.rows.share_sixth.Goals as goal

pub split-one-requires-clause-within : goal.split-one-requires-clause-within
split-one-requires-clause-within c = cut_two _ _ _ c.in_ok-exchange.ensures.view

pub append_and_share-ticket-requires-clause-ready : goal.append_and_share-ticket-requires-clause-ready
append_and_share-ticket-requires-clause-ready c =
    c.in_ok-append_some.ensures.ready 1 (ready_blank _ 2 _ 1 6 _ (lit≤ tt) (right_one _ _ _ _ c.in_ok-exchange.ensures.view c.split-one.ensures.right))
