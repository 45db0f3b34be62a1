use Rattle.std.proofs.Common.{length, sym, ◌∙◌, subst}
use Rattle.std.specs.Prelude.{All}
use Rattle.axiom_model.specs.Sorting.{EndsBelow, GoesForward, HasEdge as IsListed, IsAnswer, IsOrderOf}
use Rattle.axiom_model.specs.declared.sorting.Acyclic.{Acyclic}
use Rattle.cnf_problem.specs.Edges.{HasCycle}
use Rattle.log_checker.proofs.Edges.{cycle_path, ends_below}
use Rattle.log_checker.proofs.denied.order_of.Goals as goal

pub acyclic-requires : goal.acyclic-requires
acyclic-requires c =
    let p = c.args.problem.now in
    let same = c.deref.ensures.value ∙ c.in_ok-edges.ensures in
    subst (λ n. All (EndsBelow n) c.deref.result.now) (sym c.len.ensures) (subst (λ es. All (EndsBelow (length p.nodes)) es) (sym same) (ends_below p c.args.places.now c.requires c.args.graph))

pub returns-in-Sorted : goal.returns-in-Sorted
returns-in-Sorted c =
    let same = c.deref.ensures.value ∙ c.in_ok-edges.ensures in
    let sorted = subst (λ (a : Acyclic). IsAnswer c.len.result c.deref.result.now a) c.in-Sorted.is c.in_ok-order.ensures.answer in
    (subst (λ n. IsOrderOf n c.in-Sorted.order) c.len.ensures sorted.0, subst (λ es. All (GoesForward c.in-Sorted.order) es) same sorted.1)

pub returns : goal.returns
returns c =
    let same = c.deref.ensures.value ∙ c.in_ok-edges.ensures in
    let simple = subst (λ (a : Acyclic). IsAnswer c.len.result c.deref.result.now a) c.in-Cycle.is c.in_ok-order.ensures.answer in
    subst (λ es. HasCycle (IsListed es)) same (cycle_path (IsListed c.deref.result.now) c.in-Cycle.field-0 simple.cycle)
