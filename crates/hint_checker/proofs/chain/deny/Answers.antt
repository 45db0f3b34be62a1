use Rattle.std.proofs.Common.{◌≡◌, Some, List, ◌++◌, ◌∷◌, [], get_or, map, take, refl, ap, sym, ◌∙◌, subst, arith}
use Rattle.std.specs.Prelude.{slice_get}
use Rattle.std.proofs.lemmas.List.{take_all}
use Rattle.std.proofs.lemmas.Option.{slice_get-get_or}
use Rattle.dg_base.specs.declared.Lit.{Lit}
use Rattle.cnf_problem.specs.Chains.{IsUnassigned}
use Rattle.cnf_problem.specs.Literals.{IsOver, negated, var}
use Rattle.cnf_problem.proofs.LiteralLaws.{var-negated}
use Rattle.trail_state.specs.Trails.{Assigned, true_lits, up_to}
use Rattle.hint_checker.proofs.Following.{denied_next, next_free}
use Rattle.hint_checker.proofs.chain.deny.Goals as goal

pub loop-lit-init : goal.loop-lit-init
loop-lit-init g c = record {
  lits = ap (λ (es : List Assigned). true_lits es) c.requires.empty;
  above = ap (λ (es : List Assigned). up_to 0 es) c.requires.empty;
  vars = refl;
  steps = omega arith;
}

pub put-requires-clause-over : goal.put-requires-clause-over
put-requires-clause-over g c =
    let lits = c.args.lits.now in
    let i = c.loop-lit.lit-index in
    let lit : Lit = get_or lits i (record { 0 = 0 }) in
    let over : IsOver c.args.set.now.vars lit = c.requires.over i (record { 0 = 0 }) c.loop-lit-test.true in
    let same : var c.negated.result ≡ var lit = ap (λ (x : Lit). var x) c.negated.ensures.value ∙ var-negated lit in
    let vars = c.loop-lit.invariant.vars in
    (omega arith, omega arith)

pub put-requires-clause-free : goal.put-requires-clause-free
put-requires-clause-free g c =
    let lits = c.args.lits.now in
    let i = c.loop-lit.lit-index in
    let lit : Lit = get_or lits i (record { 0 = 0 }) in
    let at : slice_get lits i ≡ Some lit = slice_get-get_or lits i (record { 0 = 0 }) c.loop-lit-test.true in
    subst (λ (z : List Lit). IsUnassigned z c.negated.result) (sym c.loop-lit.invariant.lits)
    (subst (λ (x : Lit). IsUnassigned (map negated (take i lits)) x) (sym c.negated.ensures.value) (next_free lits i lit c.requires.rising at))

pub put-requires-clause-above : goal.put-requires-clause-above
put-requires-clause-above g c = c.loop-lit.invariant.above

pub loop-lit-preserved : goal.loop-lit-preserved
loop-lit-preserved g c =
    let lits = c.args.lits.now in
    let i = c.loop-lit.lit-index in
    let lit : Lit = get_or lits i (record { 0 = 0 }) in
    let at : slice_get lits i ≡ Some lit = slice_get-get_or lits i (record { 0 = 0 }) c.loop-lit-test.true in
    record {
      lits = c.put.ensures.lits ∙ (ap (λ (z : List Lit). z ++ c.negated.result ∷ []) c.loop-lit.invariant.lits ∙ (ap (λ (x : Lit). map negated (take i lits) ++ x ∷ []) c.negated.ensures.value ∙ sym (denied_next lits i lit at)));
      above = c.put.ensures.above;
      vars = c.put.ensures.vars ∙ c.loop-lit.invariant.vars;
      steps = let t = c.tick.ensures in let s = c.loop-lit.invariant.steps in omega arith;
    }

pub returns-clause-lits : goal.returns-clause-lits
returns-clause-lits g c = c.loop-lit.invariant.lits ∙ ap (λ (z : List Lit). map negated z) (take_all c.loop-lit.lit-index c.args.lits.now c.loop-lit-test.false)
