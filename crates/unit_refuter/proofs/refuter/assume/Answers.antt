use Rattle.std.proofs.Common.{◌≡◌, Bool, false, true, Some, get_or, ap, sym, ◌∙◌, ◌+◌, subst}
use Rattle.std.specs.Prelude.{Contains, slice_get}
use Rattle.std.proofs.lemmas.Option.{slice_get-get_or}
use Rattle.dg_base.specs.declared.Lit.{Lit}
use Rattle.dg_base.proofs.Lists.{contains_place}
use Rattle.cnf_problem.specs.Literals.{negated}
use Rattle.cnf_problem.proofs.LiteralLaws.{negated-negated}
use Rattle.trail_state.specs.Trails.{HasValue, TrailView, true_lits}
use Rattle.unit_refuter.proofs.Denying.{IsPassed, each_all, passed_first, passed_next, passed_none, passed_true}
use Rattle.unit_refuter.proofs.refuter.assume.Goals.{in-Some-true, in-None+then-level-eq0, in-None+else-level-eq0}
use Rattle.unit_refuter.proofs.refuter.assume.Goals as goal

pub loop-lit-init : goal.loop-lit-init
loop-lit-init c = passed_none c.args.lits.now c.args.trail.now

pub returns-in-Some-false-clause-not_all : goal.returns-in-Some-false-clause-not_all
returns-in-Some-false-clause-not_all c e =
    let lits = c.args.lits.now in
    let lit : Lit = get_or lits c.loop-lit.lit-index (record { 0 = 0 }) in
    let at : slice_get lits c.loop-lit.lit-index ≡ Some lit = slice_get-get_or lits c.loop-lit.lit-index (record { 0 = 0 }) c.loop-lit-test.true in
    let denied : c.negated-denied.result ≡ negated lit = c.negated-denied.ensures.value in
    let v : HasValue (true_lits c.loop-lit.trail.entries) c.negated-denied.result (Some false) =
    subst (λ (b : Bool). HasValue (true_lits c.loop-lit.trail.entries) c.negated-denied.result (Some b)) c.in-Some-false.field-0-test c.in-Some-false.ensures in
    let back : negated c.negated-denied.result ≡ lit = ap negated denied ∙ negated-negated lit in
    (lit, contains_place lits c.loop-lit.lit-index lit at, subst (λ z. Contains (true_lits c.loop-lit.trail.entries) z) back v.0)

pub loop-lit-preserved : goal.loop-lit-preserved
loop-lit-preserved c =
    let lits = c.args.lits.now in
    let old = c.args.trail.now in
    let now = c.loop-lit.trail in
    let i = c.loop-lit.lit-index in
    let lit : Lit = get_or lits i (record { 0 = 0 }) in
    let at : slice_get lits i ≡ Some lit = slice_get-get_or lits i (record { 0 = 0 }) c.loop-lit-test.true in
    let d = c.negated-denied.result in
    let denied : d ≡ negated lit = c.negated-denied.ensures.value in
    elim c.match-value.branch [
      | in-Some-true w ↦
          let v : HasValue (true_lits now.entries) d (Some true) = subst (λ (b : Bool). HasValue (true_lits now.entries) d (Some b)) w.in-Some-true.field-0-test w.in-Some-true.ensures in
          subst (λ (t : TrailView). IsPassed lits old t (i + 1)) (sym w.trail-is) (passed_true lits old now i lit at c.loop-lit.invariant (subst (λ z. Contains (true_lits now.entries) z) denied v.0))
      | in-None+then-level-eq0 w ↦ passed_first lits old now c.match-value.trail i lit d at c.requires.ground c.loop-lit.invariant denied (sym w.level.ensures ∙ w.if-level-eq0.true) (w.trail-is ∙ w.decide.ensures)
      | in-None+else-level-eq0 w ↦ passed_next lits old now c.match-value.trail i lit d at c.requires.ground c.loop-lit.invariant denied (λ z. w.if-level-eq0.false (w.level.ensures ∙ z)) (w.trail-is ∙ w.assign.ensures)
    ]

pub returns-clause-all : goal.returns-clause-all
returns-clause-all c e = each_all c.args.lits.now (λ m. Contains (true_lits c.loop-lit.trail.entries) (negated m)) c.loop-lit.lit-index c.loop-lit-test.false c.loop-lit.invariant.all
