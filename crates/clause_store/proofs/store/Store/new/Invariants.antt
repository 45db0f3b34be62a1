use Rattle.std.proofs.Common.{[], take}
use Rattle.clause_store.specs.Stores.{AreWatched}
use Rattle.clause_store.proofs.store.Store.new.Given as goal

abbrev pub invariant-loop-id : goal.invariant-loop-id
invariant-loop-id l = AreWatched (take l.id l.problem.clauses) l.problem.vars l.links 0 (record { vars = l.problem.vars; entries = []; taken = 0 })
