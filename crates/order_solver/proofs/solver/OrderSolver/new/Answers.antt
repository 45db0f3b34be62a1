use Rattle.std.proofs.Common.{◌∙◌, ap, arith}
use Rattle.from_read.specs.Derivations.{FromReadView}
use Rattle.order_solver.proofs.Building.{fresh_of}
use Rattle.order_solver.proofs.solver.OrderSolver.new.Goals as goal

pub invariant_of-solver : goal.invariant_of-solver
invariant_of-solver c = c.froms.invariant

pub hold_fixed_counted-requires-clause-fresh : goal.hold_fixed_counted-requires-clause-fresh
hold_fixed_counted-requires-clause-fresh c =
    let p = c.args.problem.now in
    let i = c.froms.inside in
    let froms : FromReadView = record { nodes = i.nodes.items; kinds = i.kinds.items; true_atoms = i.true_atoms.items; derived = i.found.list } in
    let same_nodes = ap (λ (f : FromReadView). f.nodes) c.froms.view_is in
    let same_kinds = ap (λ (f : FromReadView). f.kinds) c.froms.view_is in
    let same_atoms = ap (λ (f : FromReadView). f.true_atoms) c.froms.view_is in
    let local = c.in_ok-new.ensures in
    let global = c.in_ok-new-2.ensures in
    rw (c.in_ok-with_capacity.ensures.items, c.in_ok-with_capacity-2.ensures.items) (
    fresh_of p c.in_ok-new.field-0 c.in_ok-new-2.field-0 froms c.in_ok-atoms_by_literal.field-0 c.room.result
    (record { nodes = omega (arith, local.sizes.0, c.len-nodes.ensures); room = omega (arith, local.sizes.1, c.in_ok-room.ensures); edges = local.none.0; causes = local.none.1 })
    (record { nodes = omega (arith, global.sizes.0, c.len-nodes.ensures); room = omega (arith, global.sizes.1, c.in_ok-room.ensures); edges = global.none.0; causes = global.none.1 })
    (same_nodes ∙ c.in_ok-froms.ensures.nodes)
    (same_kinds ∙ c.in_ok-froms.ensures.kinds)
    (same_atoms ∙ c.in_ok-froms.ensures.none.0)
    (λ v n k is. c.room.ensures v (n ∙ same_nodes) (k ∙ same_kinds) is)
    c.in_ok-atoms_by_literal.ensures.codes
    c.in_ok-atoms_by_literal.ensures.list
    )
