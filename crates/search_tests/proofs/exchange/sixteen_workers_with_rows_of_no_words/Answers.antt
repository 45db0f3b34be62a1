use Rattle.search_tests.proofs.NewSeats.{has_all_new}
use Rattle.search_tests.proofs.exchange.sixteen_workers_with_rows_of_no_words.Goals as goal

pub close-next-requires-clause-all : goal.close-next-requires-clause-all
close-next-requires-clause-all g c = has_all_new _ 16 0 _ c.in_ok-exchange.ensures.view
