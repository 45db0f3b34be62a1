use Rattle.bit_gates.proofs.Sums.{full_adder}
use Rattle.bit_gates.proofs.Steps.{lit_more}
use Rattle.bit_gates.proofs.adder.bit_sum.Goals as goal

pub returns : goal.returns
returns c = full_adder _ _ _ _ c.args.a c.args.b c.args.carry _ _ _ c.in_ok-apart.ensures.gate c.in_ok-sum.ensures.gate c.in_ok-next.ensures

pub xor-requires-2-clause-first : goal.xor-requires-2-clause-first
xor-requires-2-clause-first c = c.in_ok-apart.ensures.gate.over

pub xor-requires-2-clause-second : goal.xor-requires-2-clause-second
xor-requires-2-clause-second c = lit_more _ _ c.args.carry c.in_ok-apart.ensures.gate.extends c.requires.third

pub choose-requires-clause-choice : goal.choose-requires-clause-choice
choose-requires-clause-choice c = lit_more _ _ c.in_ok-apart.apart c.in_ok-sum.ensures.gate.extends c.in_ok-apart.ensures.gate.over

pub choose-requires-clause-first : goal.choose-requires-clause-first
choose-requires-clause-first c = lit_more _ _ c.args.carry c.in_ok-sum.ensures.gate.extends (lit_more _ _ c.args.carry c.in_ok-apart.ensures.gate.extends c.requires.third)

pub choose-requires-clause-second : goal.choose-requires-clause-second
choose-requires-clause-second c = lit_more _ _ c.args.a c.in_ok-sum.ensures.gate.extends (lit_more _ _ c.args.a c.in_ok-apart.ensures.gate.extends c.requires.first)
