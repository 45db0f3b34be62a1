use Rattle.std.proofs.Common.{List, take, subst, arith, rules}
use Rattle.std.specs.Prelude.{All}
use Rattle.std.proofs.lemmas.List.{take_all}
use Rattle.cnf_problem.specs.Bounds.{IsBetween}
use Rattle.cnf_problem.specs.declared.problem.Graph.TheVariants.{Local}
use Rattle.solver_tests.proofs.Driving.{all_more}
use Rattle.solver_tests.proofs.given.are_between.Goals as goal

pub loop-edge-preserved : goal.loop-edge-preserved
loop-edge-preserved c = all_more (IsBetween c.args.nodes) c.args.edges.now c.loop-edge.edge-index (record { graph = Local; from = 0; to = 0 }) c.loop-edge-test.true c.loop-edge.invariant (c.is_between.ensures (search (rules, c.if-not-is_between.false)))

pub returns : goal.returns
returns c = λ _. subst (All (IsBetween c.args.nodes)) (take_all c.loop-edge.edge-index c.args.edges.now (omega (arith, c.loop-edge-test.false))) c.loop-edge.invariant
