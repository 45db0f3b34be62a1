use Rattle.std.proofs.Common.{arith, rules, subst}
use Rattle.std.proofs.lemmas.Grind.{common_steps}
use Rattle.witness_text.specs.Spelling.{HasThreadNumbers}
use Rattle.witness_text.proofs.Texts.{all_behind, all_from}
use Rattle.witness_text.proofs.printing.put_threads.Goals as goal

pub loop-part-init : goal.loop-part-init
loop-part-init c = record { text = search rules; numbers = λ h. h }

pub loop-part-preserved : goal.loop-part-preserved
loop-part-preserved c =
    let own = subst HasThreadNumbers c.part-item.is c.in_ok-put_thread.ensures.numbers in
    record {
      text = grind (arith, common_steps);
      numbers = λ rest. c.loop-part.invariant.numbers (all_from HasThreadNumbers c.args.parts.now c.loop-part.part-index c.part-item.result c.loop-part-test.true own rest);
    }

pub returns-clause-numbers : goal.returns-clause-numbers
returns-clause-numbers c = c.loop-part.invariant.numbers (all_behind HasThreadNumbers c.args.parts.now c.loop-part.part-index c.loop-part-test.false)
