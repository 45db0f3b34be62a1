-- The ledger is the blank's.
use Rattle.solver_tests.proofs.graphs.grow.Given as goal

abbrev pub ghosts-add_counted : goal.ghosts-add_counted
ghosts-add_counted a = record { name = a.blank.name; parts = a.blank.parts }
