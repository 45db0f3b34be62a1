-- The ledger is the blank's.
use Rattle.check_tests.proofs.adding.counted.Given as goal

abbrev pub ghosts-checked : goal.ghosts-checked
ghosts-checked a = record { name = a.blank.name; parts = a.blank.parts }
