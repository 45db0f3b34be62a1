use Rattle.std.proofs.Common.{◌-◌, length}
use Rattle.trail_state.specs.Trails.{IsWell}
use Rattle.cdcl_worker.specs.Searching.{HasCome}
use Rattle.cdcl_worker.proofs.worker.Worker.advance.Given as goal

abbrev pub invariant-loop-found : goal.invariant-loop-found
invariant-loop-found l = record {
  come : HasCome l.problem l.fn.self l.self;
  well : IsWell l.self.trail;
}

abbrev pub decreases-loop-found : goal.decreases-loop-found
decreases-loop-found l = l.problem.vars - length l.self.trail.entries

-- the ledger is the blank's
abbrev pub ghosts-ask_orders : goal.ghosts-ask_orders
ghosts-ask_orders a = record { name = a.blank.name; parts = a.blank.parts }
