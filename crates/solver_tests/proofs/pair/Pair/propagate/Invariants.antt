-- The ledger is the blank's.
use Rattle.solver_tests.proofs.pair.Pair.propagate.Given as goal

abbrev pub ghosts-propagate_counted : goal.ghosts-propagate_counted
ghosts-propagate_counted a = record { name = a.blank.name; parts = a.blank.parts }
