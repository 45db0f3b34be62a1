use Rattle.worker_log.proofs.Testing.{cut_two}
use Rattle.worker_tests.proofs.Ready.{left_new}
use Rattle.worker_tests.proofs.in_turn.in_turn.Goals as goal

pub split-one-requires-clause-within : goal.split-one-requires-clause-within
split-one-requires-clause-within c = cut_two _ _ _ c.in_ok-exchange.ensures.view

pub search-requires-clause-unused : goal.search-requires-clause-unused
search-requires-clause-unused c = left_new _ _ _ _ c.in_ok-exchange.ensures.view c.split-one.ensures.left
