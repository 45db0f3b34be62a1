-- The ledger is the blank's.
use Rattle.cycle_detect.proofs.tests.grow.Given as goal

abbrev pub ghosts-add_counted : goal.ghosts-add_counted
ghosts-add_counted a = record { name = a.blank.name; parts = a.blank.parts }
