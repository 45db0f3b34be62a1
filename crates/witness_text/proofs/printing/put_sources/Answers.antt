use Rattle.std.proofs.Common.{arith, rules}
use Rattle.std.proofs.lemmas.Grind.{common_steps}
use Rattle.axiom_model.specs.declared.Event.TheVariants.{Initial}
use Rattle.axiom_model.specs.declared.RfPair.{RfPair}
use Rattle.witness_text.specs.Spelling.{HasPairNumbers}
use Rattle.witness_text.proofs.Texts.{all_behind, all_from}
use Rattle.witness_text.proofs.printing.put_sources.Goals as goal

pub loop-pair-init : goal.loop-pair-init
loop-pair-init c = record { text = search rules; numbers = λ h. h }

pub loop-pair-preserved : goal.loop-pair-preserved
loop-pair-preserved c =
    let none : RfPair = record { reader = Initial; source = Initial } in
    record {
      text = grind (arith, common_steps);
      numbers = λ rest. c.loop-pair.invariant.numbers (all_from HasPairNumbers c.args.pairs.now c.loop-pair.pair-index none c.loop-pair-test.true c.in_ok-put_source.ensures.numbers rest);
    }

pub returns-clause-numbers : goal.returns-clause-numbers
returns-clause-numbers c = c.loop-pair.invariant.numbers (all_behind HasPairNumbers c.args.pairs.now c.loop-pair.pair-index c.loop-pair-test.false)
