use Rattle.std.proofs.Common.{◌+◌, ◌≤◌, Bool, List, sym, subst, arith}
use Rattle.std.specs.Prelude.{Contains, MatchBool}
use Rattle.dg_base.specs.declared.Lit.{Lit}
use Rattle.trail_state.specs.Trails.{true_lits}
use Rattle.cdcl_worker.proofs.Assigned.{AreTruths, truths_none, truths_next, truths_all}
use Rattle.cdcl_worker.proofs.assignment.truth_values.Goals as goal

pub loop-v-init : goal.loop-v-init
loop-v-init c =
    let t = c.args.trail.now in
    subst (λ (values : List Bool). AreTruths (true_lits t.entries) 0 values) (sym c.in_ok-values.ensures.items) (truths_none t c.know_well.ensures)

pub loop-v-preserved : goal.loop-v-preserved
loop-v-preserved c =
    let t = c.args.trail.now in
    let tells = subst (λ (x : Lit). MatchBool c.is_true.result (Contains (true_lits t.entries) x) (Contains (true_lits t.entries) x → ⊥)) c.positive.ensures c.is_true.ensures in
    subst (λ (values : List Bool). AreTruths (true_lits t.entries) (c.loop-v.v + 1) values) (sym c.in_ok-push.ensures.items)
    (truths_next t c.loop-v.v c.loop-v.values.items c.is_true.result c.know_well.ensures c.loop-v.invariant tells)

pub returns-clause-each : goal.returns-clause-each
returns-clause-each c =
    let t = c.args.trail.now in
    let le : t.vars ≤ c.loop-v.v = omega arith in
    truths_all t c.loop-v.v c.loop-v.values.items c.know_well.ensures le c.loop-v.invariant
