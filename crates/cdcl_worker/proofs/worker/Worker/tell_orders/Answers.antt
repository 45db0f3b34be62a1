use Rattle.std.proofs.Common.{◌≡◌, ℕ, ◌<◌, ◌≤◌, List, length, refl, ap, sym, ◌∙◌, subst, arith, Some, slice_get}
use Rattle.dg_base.specs.declared.Lit.{Lit}
use Rattle.trail_state.specs.Trails.{TrailView, true_lits}
use Rattle.cdcl_worker.specs.Outcomes.{WorkerView}
use Rattle.cdcl_worker.specs.Searching.{IsThinking}
use Rattle.clause_exchange.specs.declared.rule.Part.{Part}
use Rattle.cnf_problem.specs.declared.problem.Problem.{Problem}
use Rattle.cdcl_worker.proofs.Told.{telling_start, telling_next, next_over, next_free, told_all, thinking_told}
use Rattle.cdcl_worker.proofs.worker.Worker.tell_orders.Goals as goal

pub loop-i-init : goal.loop-i-init
loop-i-init c =
    let thinking = rw (← c.self.view_is) at c.requires.thinking in
    record { log = refl; pace = refl; store = refl; trail = refl; choice = refl; telling = telling_start thinking.0 _ thinking.1 c.len-i.result c.len-i.ensures thinking.2 }

pub lit_at-lit-requires : goal.lit_at-lit-requires
lit_at-lit-requires c =
    let same = ap (λ (t : TrailView). length t.entries) c.loop-i.invariant.trail in
    let end = c.len-i-end.ensures.count in
    omega (arith, c.loop-i-test.true)

pub assert_atom-requires-clause-fits : goal.assert_atom-requires-clause-fits
assert_atom-requires-clause-fits c =
    let thinking = rw (← c.self.view_is) at c.requires.thinking in
    let i = c.loop-i.invariant in
    let at = subst (λ (t : TrailView). slice_get (true_lits t.entries) c.loop-i.i ≡ Some c.lit_at-lit.result) i.trail c.lit_at-lit.ensures in
    (thinking.0, i.telling.fits thinking.0 thinking.2.vars thinking.2.ordering, next_over c.self.inside.trail c.self.inside.order c.loop-i.self-inside.order c.loop-i.i c.lit_at-lit.result c.len-i-end.ensures.well i.telling at thinking.0 thinking.2.vars)

pub assert_atom-requires-clause-free : goal.assert_atom-requires-clause-free
assert_atom-requires-clause-free c =
    let i = c.loop-i.invariant in
    let at = subst (λ (t : TrailView). slice_get (true_lits t.entries) c.loop-i.i ≡ Some c.lit_at-lit.result) i.trail c.lit_at-lit.ensures in
    next_free c.self.inside.trail c.self.inside.order c.loop-i.self-inside.order c.loop-i.i c.lit_at-lit.result c.len-i-end.ensures.well i.telling at

pub loop-i-preserved : goal.loop-i-preserved
loop-i-preserved c =
    let i = c.loop-i.invariant in
    let at = subst (λ (t : TrailView). slice_get (true_lits t.entries) c.loop-i.i ≡ Some c.lit_at-lit.result) i.trail c.lit_at-lit.ensures in
    record {
      log = i.log;
      pace = i.pace;
      store = i.store;
      trail = i.trail;
      choice = i.choice;
      telling = telling_next c.self.inside.trail c.self.inside.order c.loop-i.self-inside.order c.loop-i.i c.lit_at-lit.result c.len-i-end.ensures.well i.telling at c.assert_atom.new.self c.assert_atom.ensures.asserted c.assert_atom.ensures.fits;
    }

pub returns-clause-same : goal.returns-clause-same
returns-clause-same c =
    let i = c.loop-i.invariant in
    rw (← c.self.view_is) (i.log, ap (λ (p : _). p.since) i.pace, i.store, i.trail)

pub returns-clause-told : goal.returns-clause-told
returns-clause-told c =
    let i = c.loop-i.invariant in
    let end = c.len-i-end.ensures.count in
    told_all c.self.inside.trail c.self.inside.order c.loop-i.self-inside.order c.loop-i.i (omega (arith, c.loop-i-test.false)) i.telling
    ∙ ap (λ (t : TrailView). true_lits t.entries) (sym i.trail)

pub returns-clause-thinking : goal.returns-clause-thinking
returns-clause-thinking c =
    let i = c.loop-i.invariant in
    let end = c.len-i-end.ensures.count in
    let told = told_all c.self.inside.trail c.self.inside.order c.loop-i.self-inside.order c.loop-i.i (omega (arith, c.loop-i-test.false)) i.telling ∙ ap (λ (t : TrailView). true_lits t.entries) (sym i.trail) in
    λ p part thinking.
    let here = rw (← c.self.view_is) at thinking in
    thinking_told p _ _ part here i.trail i.store i.choice told (i.telling.fits p here.vars here.ordering)
