-- The ledger is the blank's.
use Rattle.order_solver.proofs.solver.OrderSolver.new.Given as goal

abbrev pub ghosts-hold_fixed_counted : goal.ghosts-hold_fixed_counted
ghosts-hold_fixed_counted a = record { name = a.blank.name; parts = a.blank.parts }
