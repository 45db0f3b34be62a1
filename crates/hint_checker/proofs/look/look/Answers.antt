use Rattle.std.proofs.Common.{◌≡◌, Some, List, get_or, take, sym, subst, arith}
use Rattle.std.specs.Prelude.{slice_get}
use Rattle.std.proofs.lemmas.List.{take_all}
use Rattle.std.proofs.lemmas.Option.{slice_get-get_or}
use Rattle.dg_base.specs.declared.Lit.{Lit}
use Rattle.trail_state.specs.Trails.{true_lits}
use Rattle.hint_checker.specs.Findings.{IsFinding}
use Rattle.hint_checker.proofs.Following.{front_next}
use Rattle.hint_checker.proofs.Looks.{nothing_found}
use Rattle.hint_checker.proofs.look.look.Goals as goal

pub loop-lit-init : goal.loop-lit-init
loop-lit-init g c = record { finding = nothing_found (true_lits c.args.set.now.entries); steps = omega arith }

pub loop-lit-preserved : goal.loop-lit-preserved
loop-lit-preserved g c =
    let clause = c.args.clause.now in
    let set = true_lits c.args.set.now.entries in
    let i = c.loop-lit.lit-index in
    let lit : Lit = get_or clause i (record { 0 = 0 }) in
    let at : slice_get clause i ≡ Some lit = slice_get-get_or clause i (record { 0 = 0 }) c.loop-lit-test.true in
    record {
      finding = subst (λ (z : List Lit). IsFinding set z c.with-finding.result) (sym (front_next clause i lit at)) (c.with-finding.ensures set (take i clause) c.value.ensures c.loop-lit.invariant.finding);
      steps = let t = c.tick.ensures in let s = c.loop-lit.invariant.steps in omega arith;
    }

pub returns-clause-finding : goal.returns-clause-finding
returns-clause-finding g c =
    let clause = c.args.clause.now in
    subst (λ (z : List Lit). IsFinding (true_lits c.args.set.now.entries) z c.loop-lit.finding) (take_all c.loop-lit.lit-index clause c.loop-lit-test.false) c.loop-lit.invariant.finding
