use Rattle.std.proofs.Common.{sym, ◌∙◌, ap, map, subst, length}
use Rattle.axiom_model.specs.Sorting.{IsAnswer, IsSorted}
use Rattle.consistency.specs.Evidence.{IsEventCycle}
use Rattle.consistency.specs.Numbering.{event_at}
use Rattle.consistency.specs.Relations.{Edge}
use Rattle.consistency.proofs.Circling.{no_cycle_from, event_cycle_from}
use Rattle.consistency.proofs.cycles.event_cycle.Goals as goal

pub returns-in-Sorted : goal.returns-in-Sorted
returns-in-Sorted c k x num lists =
    no_cycle_from c.args.nodes.now (Edge k x) c.args.edges.now lists.complete (c.in_ok-acyclic.ensures.sorted_without_cycles.0 (subst IsSorted (sym c.in-Sorted.is) tt))

pub returns : goal.returns
returns c k x num lists =
    subst (IsEventCycle x (Edge k x)) (sym (c.in_ok-events_at-in-Cycle.ensures ∙ ap (map (event_at c.args.nodes.now)) c.as_slice.ensures))
    (event_cycle_from x c.args.nodes.now num (Edge k x) c.args.edges.now lists c.in-Cycle.cycle
    (subst (IsAnswer (length c.args.nodes.now) c.args.edges.now) c.in-Cycle.is c.in_ok-acyclic.ensures.answer))
