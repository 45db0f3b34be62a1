use Rattle.std.proofs.Common.{◌≡◌, ◌++◌, take}
use Rattle.cnf_problem.specs.declared.problem.Problem.{Problem}
use Rattle.clause_store.specs.Stores.{IsWatching}
use Rattle.cdcl_worker.proofs.known.add_all.Given as goal

abbrev pub invariant-loop-i : goal.invariant-loop-i
invariant-loop-i l = record {
  added : l.store.added ≡ l.fn.store.added ++ take l.i l.clauses;
  watching : (p : Problem) → IsWatching p l.fn.store l.trail → IsWatching p l.store l.trail;
}
