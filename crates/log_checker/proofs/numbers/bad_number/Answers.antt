use Rattle.std.proofs.Common.{◌≡◌, false, true, Some, get_or, refl, arith}
use Rattle.std.specs.Prelude.{slice_get}
use Rattle.std.proofs.lemmas.Option.{slice_get-get_or}
use Rattle.dg_base.specs.declared.Lit.{Lit}
use Rattle.cnf_problem.specs.Literals.{IsOver}
use Rattle.unit_refuter.proofs.Denying.{each_all, each_next}
use Rattle.log_checker.proofs.numbers.bad_number.Goals as goal

pub loop-lit-init : goal.loop-lit-init
loop-lit-init c k m h e = absurd (omega arith)

pub returns-then-not-is_over : goal.returns-then-not-is_over
returns-then-not-is_over c =
    let lits = c.args.lits.now in
    let i = c.loop-lit.lit-index in
    record {
      place = i;
      literal = get_or lits i (record { 0 = 0 });
      there = slice_get-get_or lits i (record { 0 = 0 }) c.loop-lit-test.true;
      before = c.loop-lit.invariant;
      bad = λ o. let e : false ≡ true = c.if-not-is_over.ensures.1 o in cc;
      named = c.var.ensures;
    }

pub loop-lit-preserved : goal.loop-lit-preserved
loop-lit-preserved c =
    let lits = c.args.lits.now in
    let i = c.loop-lit.lit-index in
    let lit : Lit = get_or lits i (record { 0 = 0 }) in
    let at : slice_get lits i ≡ Some lit = slice_get-get_or lits i (record { 0 = 0 }) c.loop-lit-test.true in
    each_next lits (λ m. IsOver c.args.vars m) i lit at c.loop-lit.invariant (c.if-not-is_over.ensures.0 refl)

pub returns : goal.returns
returns c = each_all c.args.lits.now (λ m. IsOver c.args.vars m) c.loop-lit.lit-index c.loop-lit-test.false c.loop-lit.invariant
