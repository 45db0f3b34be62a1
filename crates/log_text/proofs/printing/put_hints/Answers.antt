use Rattle.std.proofs.Common.{arith, rules}
use Rattle.std.proofs.lemmas.Grind.{common_steps}
use Rattle.log_text.specs.Numbers.{IsHintNumber}
use Rattle.lemma_log.specs.declared.hints.Hint.TheVariants.{Clause}
use Rattle.log_text.proofs.Listed.{all_behind, all_from}
use Rattle.log_text.proofs.printing.put_hints.Goals as goal

pub loop-hint-init : goal.loop-hint-init
loop-hint-init c = record { text = search rules; numbers = λ h. h }

pub loop-hint-preserved : goal.loop-hint-preserved
loop-hint-preserved c = record {
  text = grind (arith, common_steps);
  numbers = λ rest. c.loop-hint.invariant.numbers (all_from IsHintNumber c.args.hints.now c.loop-hint.hint-index (Clause 0) c.loop-hint-test.true c.put_hint.ensures.number rest);
}

pub returns-clause-numbers : goal.returns-clause-numbers
returns-clause-numbers c = c.loop-hint.invariant.numbers (all_behind IsHintNumber c.args.hints.now c.loop-hint.hint-index c.loop-hint-test.false)
