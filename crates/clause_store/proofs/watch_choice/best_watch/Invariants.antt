use Rattle.std.proofs.Common.{take}
use Rattle.clause_store.specs.Choosing.{IsBest}
use Rattle.clause_store.proofs.watch_choice.best_watch.Given as goal

abbrev pub invariant-loop-i : goal.invariant-loop-i
invariant-loop-i l = IsBest l.trail.entries (take l.i l.clause) l.except l.best l.best_rank
