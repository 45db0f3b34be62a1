use Rattle.worker_tests.proofs.Ready.{alone_new}
use Rattle.worker_tests.proofs.alone.alone.Goals as goal

pub search-requires-clause-unused : goal.search-requires-clause-unused
search-requires-clause-unused c = alone_new _ _ _ c.in_ok-exchange.ensures.view
