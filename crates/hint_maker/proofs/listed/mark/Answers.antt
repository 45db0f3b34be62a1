use Rattle.std.proofs.Common.{◌≡◌, ◌+◌, false, ap, ◌∙◌, arith, List, ◌<◌, Bool, true, length, set, Some, get_or, take, sym, subst}
use Rattle.std.specs.Prelude.{Contains, slice_get}
use Rattle.std.proofs.lemmas.List.{take_all}
use Rattle.std.proofs.lemmas.Option.{slice_get-get_or}
use Rattle.dg_base.specs.declared.Lit.{Lit}
use Rattle.cnf_problem.specs.Literals.{var}
use Rattle.hint_maker.specs.Walking.{AddsMarks}
use Rattle.hint_maker.proofs.Fronts.{taken_more}
use Rattle.hint_maker.proofs.Marking.{adds_listed, adds_marked, adds_none}
use Rattle.hint_maker.proofs.listed.mark.Goals as goal
use Rattle.hint_maker.proofs.listed.mark.Goals.{then-not-is_listed, else-not-is_listed}

pub loop-lit-init : goal.loop-lit-init
loop-lit-init c = adds_none c.args.lits.now c.args.marks.now

pub loop-lit-preserved : goal.loop-lit-preserved
loop-lit-preserved c =
    let clause = c.args.clause.now in
    let i = c.loop-lit.lit-index in
    let lit : Lit = get_or clause i (record { 0 = 0 }) in
    let at : slice_get clause i ≡ Some lit = slice_get-get_or clause i (record { 0 = 0 }) c.loop-lit-test.true in
    let one = taken_more clause i lit at in
    elim c.if-not-is_listed.branch [
      | then-not-is_listed w ↦
          let room : var lit < length c.loop-lit.marks = omega (arith, c.requires i (record { 0 = 0 }) c.loop-lit-test.true, c.loop-lit.auto.marks) in
          let other : ¬ Contains c.args.lits.now lit = λ m. let two : true ≡ false = sym (c.is_listed.ensures.1 m) ∙ w.if-not-is_listed.true in absurd (cc) in
          subst (λ (z : List Bool). AddsMarks c.args.lits.now (take (i + 1) clause) c.args.marks.now z) (sym (w.marks-is ∙ ap (λ v. set c.loop-lit.marks v true) w.var.ensures))
          (subst (λ (z : List Lit). AddsMarks c.args.lits.now z c.args.marks.now (set c.loop-lit.marks (var lit) true)) (sym one) (adds_marked c.args.lits.now (take i clause) c.args.marks.now c.loop-lit.marks lit other room c.loop-lit.invariant))
      | else-not-is_listed w ↦
          subst (λ (z : List Bool). AddsMarks c.args.lits.now (take (i + 1) clause) c.args.marks.now z) (sym w.marks-is)
          (subst (λ (z : List Lit). AddsMarks c.args.lits.now z c.args.marks.now c.loop-lit.marks) (sym one) (adds_listed c.args.lits.now (take i clause) c.args.marks.now c.loop-lit.marks lit (c.is_listed.ensures.0 w.if-not-is_listed.false) c.loop-lit.invariant))
    ]

pub returns : goal.returns
returns c = subst (λ (z : List Lit). AddsMarks c.args.lits.now z c.args.marks.now c.loop-lit.marks) (take_all c.loop-lit.lit-index c.args.clause.now c.loop-lit-test.false) c.loop-lit.invariant
