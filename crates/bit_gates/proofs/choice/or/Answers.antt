use Rattle.bit_gates.proofs.Choices.{or_gate}
use Rattle.bit_gates.proofs.choice.or.Goals as goal

pub returns : goal.returns
returns c = or_gate _ _ c.args.a c.args.b c.negated.result c.negated-2.result c.in_ok-and.field-0 _ c.negated.ensures.value c.negated-2.ensures.value c.negated-3.ensures.value c.in_ok-and.ensures.gate
