use Rattle.std.proofs.Common.{◌≡◌, ◌++◌, [], ◌∷◌, map, take}
use Rattle.cnf_problem.specs.Literals.{negated}
use Rattle.encode.proofs.endings.put_endings.Given as goal

abbrev pub invariant-loop-guard : goal.invariant-loop-guard
invariant-loop-guard l = l.gates ≡ record { vars = l.initial.gates.vars; clauses = l.initial.gates.clauses ++ map (λ u. negated u ∷ []) (take l.guard-index l.endings.bad) }
