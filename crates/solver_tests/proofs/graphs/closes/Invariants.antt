-- The ledger is the blank's.
use Rattle.solver_tests.proofs.graphs.closes.Given as goal

abbrev pub ghosts-closes_counted : goal.ghosts-closes_counted
ghosts-closes_counted a = record { name = a.blank.name; parts = a.blank.parts }
