use Rattle.std.proofs.Common.{◌≡◌, ℕ, ◌≤◌, List, ap, sym, subst, arith}
use Rattle.cnf_problem.specs.Formulas.{Formula, IsBuilt}
use Rattle.memory_models.specs.declared.StaticEvent.{StaticEvent}
use Rattle.memory_models.specs.declared.EventBits.{EventBits}
use Rattle.memory_models.specs.Events.{AreStatic}
use Rattle.order_vars.specs.Orders.{AreEventsOver, IsOrderOf}
use Rattle.encode_match.specs.Parts.{words_of}
use Rattle.encode.specs.Graphs.{AreOrdersOver, IsProblemOf}
use Rattle.encode.specs.Prepared.{IsPrepared}
use Rattle.encode.proofs.Fitting.{over_more, orders_over}
use Rattle.encode.proofs.Making.{events_static, events_over, bad_over, fails_over, made_of}
use Rattle.encode.proofs.encode_form.Goals as goal

pub order_vars-requires-clause-events : goal.order_vars-requires-clause-events
order_vars-requires-clause-events c =
    subst (λ (es : List StaticEvent). AreStatic es) (sym c.as_slice-events.ensures)
    (events_static c.args.form.now c.in_ok-gates.gates c.prepare.new.gates c.in_ok-map.map c.in_ok-map.endings.bad c.in_ok-map.endings.fails c.requires c.in_ok-map.ensures c.events_are_static.ensures.listed)

pub order_vars-requires-clause-over : goal.order_vars-requires-clause-over
order_vars-requires-clause-over c =
    let first = ap (λ (f : Formula). f.vars) c.in_ok-gates.ensures in
    let low : 1 ≤ c.in_ok-gates.gates.vars = omega (arith, first) in
    subst (λ (es : List StaticEvent). AreEventsOver c.prepare.new.gates.vars es (words_of c.as_slice-values.result.now)) (sym c.as_slice-events.ensures)
    (subst (λ (bs : List EventBits). AreEventsOver c.prepare.new.gates.vars c.in_ok-map.map.graph.events (words_of bs)) (sym c.as_slice-values.ensures)
    (events_over c.args.form.now c.in_ok-gates.gates c.prepare.new.gates c.in_ok-map.map c.in_ok-map.endings.bad c.in_ok-map.endings.fails c.requires c.in_ok-map.ensures c.events_are_static.ensures.valued c.events_are_static.ensures.over low))

pub put_endings-requires-clause-bad : goal.put_endings-requires-clause-bad
put_endings-requires-clause-bad c =
    over_more c.prepare.new.gates.vars c.order_vars.new.gates.vars c.in_ok-map.endings.bad c.in_ok-order.ensures.grows
    (bad_over c.args.form.now c.in_ok-gates.gates c.prepare.new.gates c.in_ok-map.map c.in_ok-map.endings.bad c.in_ok-map.endings.fails c.requires c.in_ok-map.ensures)

pub put_endings-requires-clause-fails : goal.put_endings-requires-clause-fails
put_endings-requires-clause-fails c =
    over_more c.prepare.new.gates.vars c.order_vars.new.gates.vars c.in_ok-map.endings.fails c.in_ok-order.ensures.grows
    (fails_over c.args.form.now c.in_ok-gates.gates c.prepare.new.gates c.in_ok-map.map c.in_ok-map.endings.bad c.in_ok-map.endings.fails c.requires c.in_ok-map.ensures)

pub problem_of-requires-clause-events : goal.problem_of-requires-clause-events
problem_of-requires-clause-events c =
    subst (λ (es : List StaticEvent). AreStatic es) (sym c.as_slice-events.ensures)
    (events_static c.args.form.now c.in_ok-gates.gates c.prepare.new.gates c.in_ok-map.map c.in_ok-map.endings.bad c.in_ok-map.endings.fails c.requires c.in_ok-map.ensures c.events_are_static.ensures.listed)

pub problem_of-requires-clause-orders : goal.problem_of-requires-clause-orders
problem_of-requires-clause-orders c =
    let first = ap (λ (f : Formula). f.vars) c.in_ok-gates.ensures in
    let low : 1 ≤ c.in_ok-gates.gates.vars = omega (arith, first) in
    let es = c.as_slice-events.result.now in
    let words = words_of c.as_slice-values.result.now in
    let static : AreStatic es =
    subst (λ (l : List StaticEvent). AreStatic l) (sym c.as_slice-events.ensures)
    (events_static c.args.form.now c.in_ok-gates.gates c.prepare.new.gates c.in_ok-map.map c.in_ok-map.endings.bad c.in_ok-map.endings.fails c.requires c.in_ok-map.ensures c.events_are_static.ensures.listed) in
    let over : AreEventsOver c.prepare.new.gates.vars es words =
    subst (λ (l : List StaticEvent). AreEventsOver c.prepare.new.gates.vars l words) (sym c.as_slice-events.ensures)
    (subst (λ (bs : List EventBits). AreEventsOver c.prepare.new.gates.vars c.in_ok-map.map.graph.events (words_of bs)) (sym c.as_slice-values.ensures)
    (events_over c.args.form.now c.in_ok-gates.gates c.prepare.new.gates c.in_ok-map.map c.in_ok-map.endings.bad c.in_ok-map.endings.fails c.requires c.in_ok-map.ensures c.events_are_static.ensures.valued c.events_are_static.ensures.over low)) in
    subst (λ (n : ℕ). AreOrdersOver n es c.in_ok-order.order.atoms c.in_ok-order.order.fixed) (sym (ap (λ (f : Formula). f.vars) c.in_ok-put_endings.ensures))
    (orders_over c.args.model es words c.prepare.new.gates c.order_vars.new.gates c.in_ok-order.order.atoms c.in_ok-order.order.fixed static over c.in_ok-order.ensures)

pub returns : goal.returns
returns c = λ flat is.
    let x = c.in_ok-map.map in
    let atoms = c.in_ok-order.order.atoms in
    let creates = c.in_ok-order.order.fixed in
    let p = subst (λ (f : Formula). IsPrepared c.args.form.now f c.prepare.new.gates x c.in_ok-map.endings.bad c.in_ok-map.endings.fails) c.in_ok-gates.ensures c.in_ok-map.ensures in
    let o =
    subst (λ (bs : List EventBits). IsOrderOf c.args.model x.graph.events (words_of bs) c.prepare.new.gates c.order_vars.new.gates atoms creates) c.as_slice-values.ensures
    (subst (λ (es : List StaticEvent). IsOrderOf c.args.model es (words_of c.as_slice-values.result.now) c.prepare.new.gates c.order_vars.new.gates atoms creates) c.as_slice-events.ensures c.in_ok-order.ensures) in
    let k = subst (λ (es : List StaticEvent). IsProblemOf c.args.model es atoms creates c.put_endings.new.gates c.in_ok-problem.problem) c.as_slice-events.ensures c.in_ok-problem.ensures in
    let built = subst (λ (f : Formula). IsBuilt f) c.gates.view_is c.gates.invariant in
    made_of c.args.model flat c.args.form.now c.prepare.new.gates c.order_vars.new.gates c.put_endings.new.gates x c.in_ok-problem.problem c.in_ok-map.endings.bad c.in_ok-map.endings.fails atoms creates built is p o c.in_ok-put_endings.ensures k
