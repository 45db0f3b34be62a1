use Rattle.std.proofs.Common.{◌≤◌, [], length, ap, subst, arith}
use Rattle.cnf_problem.specs.Formulas.{Formula}
use Rattle.order_vars.specs.Orders.{IsOrderOf}
use Rattle.order_vars.proofs.EventWords.{words_of, events_more}
use Rattle.order_vars.proofs.Growth.{none_grown, order_made}
use Rattle.order_vars.proofs.order_vars.Goals as goal

pub loop-place-init : goal.loop-place-init
loop-place-init c = record { links = []; grown = none_grown c.args.graph.now (words_of c.args.values.now) c.reserve.new.gates; are_atoms = c.new-atoms.ensures }

pub link_into-requires-clause-over : goal.link_into-requires-clause-over
link_into-requires-clause-over c =
    let grows = c.loop-place.invariant.grown.grows in
    let same = ap (λ (f : Formula). f.vars) c.in_ok-reserve.ensures in
    events_more c.args.gates.now.vars c.loop-place.gates.vars c.args.graph.now (words_of c.args.values.now) (omega arith) c.requires.over

pub loop-place-preserved : goal.loop-place-preserved
loop-place-preserved c = c.in_ok-link_into.ensures c.reserve.new.gates c.loop-place.invariant

pub returns : goal.returns
returns c =
    let all : length c.args.graph.now ≤ c.loop-place.place = omega (arith, c.in-Ok.ensures) in
    subst (λ f. IsOrderOf c.args.model c.args.graph.now (words_of c.args.values.now) f c.loop-place.gates c.loop-place.atoms c.in_ok-fixed.fixed) c.in_ok-reserve.ensures
    (order_made c.args.model c.args.graph.now (words_of c.args.values.now) c.reserve.new.gates c.loop-place.gates c.loop-place.invariant.links c.loop-place.place c.loop-place.atoms c.in_ok-fixed.fixed
    all c.loop-place.invariant.grown c.loop-place.invariant.are_atoms c.in_ok-fixed.ensures)
