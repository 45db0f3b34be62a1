use Rattle.std.proofs.Common.{◌<◌, ℕ, Option, length, sym, subst}
use Rattle.std.specs.Prelude.{All, MatchOption}
use Rattle.sqlite_items.specs.declared.items.Items.{Items}
use Rattle.axiom_model.specs.Sorting.{GoesForward, HasEdge as IsListed, IsOrderOf}
use Rattle.cnf_problem.specs.Edges.{HasCycle}
use Rattle.cnf_problem.specs.declared.problem.Graph.TheVariants.{Local, Global}
use Rattle.log_checker.specs.Graphs.{AreDenied}
use Rattle.log_checker.specs.Pairs.{all_edges, pairs_in}
use Rattle.log_checker.proofs.Atoms.{places_within}
use Rattle.log_checker.proofs.Edges.{cyclic_of, order_in}
use Rattle.log_checker.proofs.denied.AtomsByLit.orders.Goals as goal

pub order_of-requires : goal.order_of-requires
order_of-requires c = subst (λ z. All (λ k. k < length c.args.problem.now.atoms) z) (sym c.deref.ensures.value) (places_within c.args.problem.now c.args.lits.now c.in_ok-places.places.items c.in_ok-places.ensures)

pub order_of-requires-2 : goal.order_of-requires-2
order_of-requires-2 c = subst (λ z. All (λ k. k < length c.args.problem.now.atoms) z) (sym c.deref-2.ensures.value) (places_within c.args.problem.now c.args.lits.now c.in_ok-places.places.items c.in_ok-places.ensures)

pub returns-in_default : goal.returns-in_default
returns-in_default c =
    let p = c.args.problem.now in
    let lits = c.args.lits.now in
    let places = c.deref.result.now in
    let denied = subst (λ z. AreDenied p lits z) (sym c.deref.ensures.value) c.in_ok-places.ensures in
    let pairs = pairs_in Local (all_edges p places) in
    let cycle : HasCycle (IsListed pairs) = subst (λ (o : Option (Items ℕ)). MatchOption o (HasCycle (IsListed pairs)) (λ order. IsOrderOf (length p.nodes) order × All (GoesForward order) pairs)) c.in_default.is c.in_ok-local.ensures in
    cyclic_of p lits places denied Local cycle

pub returns-in_default-2 : goal.returns-in_default-2
returns-in_default-2 c =
    let p = c.args.problem.now in
    let lits = c.args.lits.now in
    let places = c.deref-2.result.now in
    let denied = subst (λ z. AreDenied p lits z) (sym c.deref-2.ensures.value) c.in_ok-places.ensures in
    let pairs = pairs_in Global (all_edges p places) in
    let cycle : HasCycle (IsListed pairs) = subst (λ (o : Option (Items ℕ)). MatchOption o (HasCycle (IsListed pairs)) (λ order. IsOrderOf (length p.nodes) order × All (GoesForward order) pairs)) c.in_default-2.is c.in_ok-global.ensures in
    cyclic_of p lits places denied Global cycle

pub returns : goal.returns
returns c =
    let p = c.args.problem.now in
    let lits = c.args.lits.now in
    let denied = subst (λ z. AreDenied p lits z) (sym c.deref.ensures.value) c.in_ok-places.ensures in
    let denied_too = subst (λ z. AreDenied p lits z) (sym c.deref-2.ensures.value) c.in_ok-places.ensures in
    let in_local = pairs_in Local (all_edges p c.deref.result.now) in
    let in_global = pairs_in Global (all_edges p c.deref-2.result.now) in
    let local = subst (λ (o : Option (Items ℕ)). MatchOption o (HasCycle (IsListed in_local)) (λ order. IsOrderOf (length p.nodes) order × All (GoesForward order) in_local)) c.in-Some.is c.in_ok-local.ensures in
    let global = subst (λ (o : Option (Items ℕ)). MatchOption o (HasCycle (IsListed in_global)) (λ order. IsOrderOf (length p.nodes) order × All (GoesForward order) in_global)) c.in-Some-2.is c.in_ok-global.ensures in
    (order_in p lits c.deref.result.now denied Local c.in-Some.local local.0 local.1, order_in p lits c.deref-2.result.now denied_too Global c.in-Some-2.global global.0 global.1)
