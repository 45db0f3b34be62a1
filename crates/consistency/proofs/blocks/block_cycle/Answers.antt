use Rattle.std.proofs.Common.{sym, ◌∙◌, ap, subst, length}
use Rattle.std.specs.Prelude.{All}
use Rattle.axiom_model.specs.Cycles.{NoCycle}
use Rattle.axiom_model.specs.Sorting.{EndsBelow, HasEdge, IsAnswer, IsSorted}
use Rattle.consistency.specs.Evidence.{IsBlockCycle}
use Rattle.consistency.specs.Blocks.{block_edges, cycle_ends}
use Rattle.consistency.proofs.Crossing.{blocks_below, no_block_cycle, block_cycle_from}
use Rattle.consistency.proofs.blocks.block_cycle.Goals as goal

pub acyclic-requires : goal.acyclic-requires
acyclic-requires c =
    subst (All (EndsBelow (length c.args.nodes.now))) (sym (c.as_slice.ensures ∙ c.in_ok-between.ensures)) (blocks_below c.args.nodes.now c.args.edges.now c.requires.blocks c.requires.ends)

pub returns-in-Sorted : goal.returns-in-Sorted
returns-in-Sorted c m x num lists =
    no_block_cycle m x c.args.nodes.now num c.args.edges.now lists
    (subst (λ l. NoCycle (HasEdge l)) (c.as_slice.ensures ∙ c.in_ok-between.ensures) (c.in_ok-acyclic.ensures.sorted_without_cycles.0 (subst IsSorted (sym c.in-Sorted.is) tt)))

pub returns : goal.returns
returns c m x num lists =
    subst (IsBlockCycle m x) (sym (c.in_ok-cycle_ends-in-Cycle.ensures ∙ ap (cycle_ends c.args.nodes.now c.args.edges.now) c.as_slice-in-Cycle.ensures))
    (block_cycle_from m x c.args.nodes.now num c.args.edges.now lists c.in-Cycle.cycle
    (subst (IsAnswer (length c.args.nodes.now) (block_edges c.args.nodes.now c.args.edges.now)) c.in-Cycle.is
    (subst (λ l. IsAnswer (length c.args.nodes.now) l c.in_ok-acyclic.field-0) (c.as_slice.ensures ∙ c.in_ok-between.ensures) c.in_ok-acyclic.ensures.answer)))
