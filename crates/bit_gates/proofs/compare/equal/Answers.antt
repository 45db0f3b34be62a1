use Rattle.bit_gates.proofs.Choices.{equal_gate}
use Rattle.bit_gates.proofs.compare.equal.Goals as goal

pub returns : goal.returns
returns c = equal_gate _ _ _ c.in_ok-apart.apart c.args.a.now c.args.b.now c.in_ok-any.field-0 _ c.negated.ensures.value c.in_ok-apart.ensures c.in_ok-any.ensures

pub any-requires : goal.any-requires
any-requires c = c.in_ok-apart.ensures.over
