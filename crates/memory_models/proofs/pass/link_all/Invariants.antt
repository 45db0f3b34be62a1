use Rattle.std.proofs.Common.{◌≡◌, ◌++◌, map, take}
use Rattle.cnf_problem.specs.declared.problem.Graph.TheVariants.{Global}
use Rattle.memory_models.specs.Keeping.{edge}
use Rattle.memory_models.proofs.pass.link_all.Given as goal

abbrev pub invariant-loop-to : goal.invariant-loop-to
invariant-loop-to l = l.edges ≡ l.initial.edges ++ map (edge Global l.place) (take l.to-index l.ahead)
