use Rattle.std.proofs.Common.{ℕ, take, subst, arith, rules}
use Rattle.std.specs.Prelude.{All}
use Rattle.std.proofs.lemmas.List.{take_all}
use Rattle.axiom_model.specs.Sorting.{EndsBelow}
use Rattle.solver_tests.proofs.Driving.{all_more}
use Rattle.solver_tests.proofs.searching.is_acyclic.Goals as goal

pub loop-edge-preserved : goal.loop-edge-preserved
loop-edge-preserved c =
    let none : ℕ × ℕ = (0, 0) in
    all_more (EndsBelow c.args.nodes) c.args.edges.now c.loop-edge.edge-index none c.loop-edge-test.true c.loop-edge.invariant (c.is_below.ensures (search (rules, c.if-not-is_below.false)))

pub acyclic-requires : goal.acyclic-requires
acyclic-requires c = subst (All (EndsBelow c.args.nodes)) (take_all c.loop-edge.edge-index c.args.edges.now (omega (arith, c.loop-edge-test.false))) c.loop-edge.invariant
