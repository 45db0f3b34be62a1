use Rattle.std.proofs.Common.{◌≡◌, ◌++◌, map, take}
use Rattle.cnf_problem.proofs.clauses.Clauses.push_all.Given as goal

abbrev pub invariant-loop-clause : goal.invariant-loop-clause
invariant-loop-clause l = l.self ≡ l.initial.self ++ map (λ c. c.now) (take l.clause-index l.clauses)
