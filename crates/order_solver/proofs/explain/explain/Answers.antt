use Rattle.std.proofs.Common.{◌≤◌, ◌<◌, ◌-◌, ◌+◌, ◌≡◌, ℕ, List, length, get_or, sym, subst, arith}
use Rattle.std.specs.Prelude.{Some, slice_get}
use Rattle.std.proofs.lemmas.Option.{slice_get_within}
use Rattle.dg_base.specs.declared.Lit.{Lit}
use Rattle.order_solver.specs.Parts.{IsDenying}
use Rattle.order_solver.proofs.Cycles.{walk_step, steps_more, denies_more, denying_none, cause_gives, cause_within, held_cause, all_named, walk_cyclic}
use Rattle.order_solver.proofs.explain.explain.Goals as goal

pub loop-i-init : goal.loop-i-init
loop-i-init c = record {
  denies = c.in_ok-deny_cause.ensures.denies;
  denying = λ lits caused is. c.in_ok-deny_cause.ensures.denying lits c.args.closing.edge is (subst (λ (l : List Lit). IsDenying c.args.problem.now lits l) (sym c.new-clause.ensures) (denying_none c.args.problem.now lits));
  steps = λ k x y h e f. absurd (omega (arith, h));
}

pub deny_step-requires-clause-to : goal.deny_step-requires-clause-to
deny_step-requires-clause-to c =
    let p = c.args.problem.now in
    let walk = c.last_cycle-cycle.result.now in
    let i = c.loop-i.i in
    let low : 1 ≤ i = omega (arith, c.loop-i.auto.i) in
    let high : i < length walk = omega (arith, c.loop-i-test.true) in
    let held = walk_step c.args.graph.now.edges c.args.closing.edge.from c.args.closing.edge.to c.args.graph.now.cycle walk i c.last_cycle-cycle.ensures.nodes c.requires.closed low high in
    let said = c.requires.caused in
    let cause = held_cause p said.0 c.args.closing.edge.graph c.args.graph.now.edges c.args.graph.now.causes (get_or walk (i - 1) 0) (get_or walk i 0) said.1 c.last_cycle-cycle.ensures.causes held in
    let ends = cause_within p said.0 (record { graph = c.args.closing.edge.graph; from = get_or walk (i - 1) 0; to = get_or walk i 0 }) cause.0 cause.1 in
    omega (arith, ends.1, c.requires.nodes)

pub deny_step-requires-clause-held : goal.deny_step-requires-clause-held
deny_step-requires-clause-held c =
    let p = c.args.problem.now in
    let walk = c.last_cycle-cycle.result.now in
    let i = c.loop-i.i in
    let low : 1 ≤ i = omega (arith, c.loop-i.auto.i) in
    let high : i < length walk = omega (arith, c.loop-i-test.true) in
    let held = walk_step c.args.graph.now.edges c.args.closing.edge.from c.args.closing.edge.to c.args.graph.now.cycle walk i c.last_cycle-cycle.ensures.nodes c.requires.closed low high in
    held

pub deny_step-requires-clause-named : goal.deny_step-requires-clause-named
deny_step-requires-clause-named c =
    let said = c.requires.caused in
    all_named c.args.problem.now said.0 c.args.closing.edge.graph c.args.graph.now.edges c.args.graph.now.causes said.1 c.last_cycle-cycle.ensures.causes

pub loop-i-preserved : goal.loop-i-preserved
loop-i-preserved c =
    let p = c.args.problem.now in
    let said = c.requires.caused in
    let more = c.in_ok-deny_step.ensures.more in
    let low : 1 ≤ c.loop-i.i = omega (arith, c.loop-i.auto.i) in
    record {
      denies = denies_more p c.loop-i.clause c.deny_step.new.clause c.args.closing.cause more c.loop-i.invariant.denies;
      denying = λ lits caused is. c.in_ok-deny_step.ensures.denying lits c.args.closing.edge.graph caused (c.loop-i.invariant.denying lits caused is);
      steps = steps_more p c.loop-i.clause c.deny_step.new.clause c.args.closing.edge.graph c.last_cycle-cycle.result.now c.loop-i.i low more c.loop-i.invariant.steps (c.in_ok-deny_step.ensures.step said.0 c.args.closing.edge.graph said.1);
    }

pub returns-clause-explained : goal.returns-clause-explained
returns-clause-explained c = λ lits caused is.
    let p = c.args.problem.now in
    let nodes = c.last_cycle-cycle.ensures.nodes in
    let back = sym nodes in
    record {
      denying = c.loop-i.invariant.denying lits caused is;
      cyclic = walk_cyclic p c.loop-i.clause c.args.closing.edge c.args.graph.now.edges c.args.graph.now.cycle c.requires.closed
          (cause_gives p lits c.loop-i.clause c.args.closing.edge c.args.closing.cause is c.loop-i.invariant.denies)
          (λ k x y e f.
          let one = subst (λ (l : List ℕ). slice_get l k ≡ Some x) back e in
          let two = subst (λ (l : List ℕ). slice_get l (k + 1) ≡ Some y) back f in
          let below = slice_get_within c.last_cycle-cycle.result.now (k + 1) y two in
          c.loop-i.invariant.steps k x y (omega (arith, below, c.loop-i-test.false)) one two);
    }
