use Rattle.std.proofs.Common.{List, take, subst, arith, rules}
use Rattle.std.specs.Prelude.{All}
use Rattle.std.proofs.lemmas.List.{take_all}
use Rattle.cnf_problem.specs.Bounds.{IsNodeOf}
use Rattle.solver_tests.proofs.Driving.{all_more}
use Rattle.solver_tests.proofs.given.are_nodes.Goals as goal

pub loop-node-preserved : goal.loop-node-preserved
loop-node-preserved c = all_more (IsNodeOf c.args.nodes) c.args.list.now c.loop-node.node-index (record { block = 0; first = 0; last = 0 }) c.loop-node-test.true c.loop-node.invariant (c.is_node_of.ensures (search (rules, c.if-not-is_node_of.false)))

pub returns : goal.returns
returns c = λ _. subst (All (IsNodeOf c.args.nodes)) (take_all c.loop-node.node-index c.args.list.now (omega (arith, c.loop-node-test.false))) c.loop-node.invariant
