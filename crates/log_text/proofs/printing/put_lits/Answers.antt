use Rattle.std.proofs.Common.{◌≤◌, arith, rules}
use Rattle.std.proofs.lemmas.Grind.{common_steps}
use Rattle.dg_base.specs.declared.Lit.{Lit}
use Rattle.cnf_problem.specs.Literals.{var}
use Rattle.log_text.proofs.Listed.{all_behind, all_from}
use Rattle.log_text.proofs.printing.put_lits.Goals as goal

pub loop-lit-init : goal.loop-lit-init
loop-lit-init c = record { text = search rules; numbers = λ h. h }

pub loop-lit-preserved : goal.loop-lit-preserved
loop-lit-preserved c = record {
  text = grind (arith, common_steps);
  numbers = λ rest. c.loop-lit.invariant.numbers (all_from (λ (l : Lit). var l ≤ 2147483647) c.args.lits.now c.loop-lit.lit-index (record { 0 = 0 }) c.loop-lit-test.true c.put_lit.ensures.number rest);
}

pub returns-clause-numbers : goal.returns-clause-numbers
returns-clause-numbers c = c.loop-lit.invariant.numbers (all_behind (λ (l : Lit). var l ≤ 2147483647) c.args.lits.now c.loop-lit.lit-index c.loop-lit-test.false)
