use Rattle.bit_gates.proofs.Choices.{ok_as, less_bit}
use Rattle.bit_gates.proofs.Steps.{lit_more}
use Rattle.bit_gates.proofs.compare.less_by_bit.Goals as goal

pub returns : goal.returns
returns c = ok_as c.choose.result _ _ c.choose.ensures (λ l gate. less_bit _ _ _ c.in_ok-apart.apart c.args.a c.args.b c.args.lower l c.in_ok-apart.ensures.gate gate)

pub choose-requires-clause-choice : goal.choose-requires-clause-choice
choose-requires-clause-choice c = c.in_ok-apart.ensures.gate.over

pub choose-requires-clause-first : goal.choose-requires-clause-first
choose-requires-clause-first c = lit_more _ _ c.args.b c.in_ok-apart.ensures.gate.extends c.requires.second

pub choose-requires-clause-second : goal.choose-requires-clause-second
choose-requires-clause-second c = lit_more _ _ c.args.lower c.in_ok-apart.ensures.gate.extends c.requires.third
