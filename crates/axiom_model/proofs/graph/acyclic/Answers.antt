use Rattle.std.proofs.Common.{arith}
use Rattle.axiom_model.specs.Sorting.{IsOrderOf}
use Rattle.axiom_model.proofs.Walking.{all_met, all_forward}
use Rattle.axiom_model.proofs.Forwards.{ordered-no_cycle}
use Rattle.axiom_model.proofs.graph.acyclic.Goals as goal

pub returns-clause-answer : goal.returns-clause-answer
returns-clause-answer c =
    let inv = c.loop-root.invariant in
    let h = c.loop-root-test.false in
    let o : IsOrderOf c.args.nodes c.loop-root.walk.order = all_met c.args.edges.now c.loop-root.walk c.args.nodes inv.walk inv.marks inv.path (λ v l. inv.met v (omega arith)) in
    (o, all_forward c.args.edges.now c.loop-root.walk c.args.nodes inv.walk o c.requires)

pub returns-clause-sorted_without_cycles : goal.returns-clause-sorted_without_cycles
returns-clause-sorted_without_cycles c =
    let inv = c.loop-root.invariant in
    let h = c.loop-root-test.false in
    let o : IsOrderOf c.args.nodes c.loop-root.walk.order = all_met c.args.edges.now c.loop-root.walk c.args.nodes inv.walk inv.marks inv.path (λ v l. inv.met v (omega arith)) in
    ((λ u. ordered-no_cycle c.args.edges.now c.loop-root.walk.order o.once (all_forward c.args.edges.now c.loop-root.walk c.args.nodes inv.walk o c.requires)), (λ n. tt))
