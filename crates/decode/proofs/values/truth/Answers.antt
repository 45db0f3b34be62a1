use Rattle.std.proofs.Common.{◌≡◌, ◌∙◌, ℕ, ◌-◌, ◌%◌, false, not, get_or, sym, ap, arith}
use Rattle.cnf_problem.proofs.LiteralLaws.{value-even, value-odd}
use Rattle.decode.proofs.values.truth.Goals as goal

pub returns-then-lit-eq0 : goal.returns-then-lit-eq0
returns-then-lit-eq0 c =
    c.variable_truth-is_true.ensures ∙ (ap (λ (n : ℕ). get_or c.args.truths.now (n - 1) false) c.var.ensures ∙ sym (value-even c.args.truths.now c.args.lit c.if-lit-eq0.true))

pub returns-else-lit-eq0 : goal.returns-else-lit-eq0
returns-else-lit-eq0 c =
    let odd : c.args.lit.0 % 2 ≡ 1 = omega (arith, c.if-lit-eq0.false) in
    ap not (c.variable_truth-is_true.ensures ∙ ap (λ (n : ℕ). get_or c.args.truths.now (n - 1) false) c.var.ensures) ∙ sym (value-odd c.args.truths.now c.args.lit odd)
