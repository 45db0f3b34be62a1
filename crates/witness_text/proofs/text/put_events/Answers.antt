use Rattle.std.proofs.Common.{arith, rules}
use Rattle.std.proofs.lemmas.Grind.{common_steps}
use Rattle.axiom_model.specs.declared.Event.TheVariants.{Initial}
use Rattle.witness_text.specs.Spelling.{HasEventNumbers}
use Rattle.witness_text.proofs.Texts.{all_behind, all_from}
use Rattle.witness_text.proofs.text.put_events.Goals as goal

pub loop-event-init : goal.loop-event-init
loop-event-init c = record { text = search rules; numbers = λ h. h }

pub loop-event-preserved : goal.loop-event-preserved
loop-event-preserved c = record {
  text = grind (arith, common_steps);
  numbers = λ rest. c.loop-event.invariant.numbers (all_from HasEventNumbers c.args.events.now c.loop-event.event-index Initial c.loop-event-test.true (c.put_event.ensures.numbers) rest);
}

pub returns-clause-numbers : goal.returns-clause-numbers
returns-clause-numbers c = c.loop-event.invariant.numbers (all_behind HasEventNumbers c.args.events.now c.loop-event.event-index c.loop-event-test.false)
