use Rattle.bit_gates.proofs.Sums.{top_sum}
use Rattle.std.proofs.Common.{arith}
use Rattle.bit_gates.proofs.Steps.{bit_over, lit_more, word_more}
use Rattle.bit_gates.proofs.adder.add.Goals as goal

pub returns : goal.returns
returns c = top_sum _ _ _ _ _ c.args.a.now c.args.b.now _ c.args.carry _ _ (record { 0 = 0 }) (record { 0 = 0 }) c.requires.first.0 c.requires.second.0 c.in_ok-low.ensures c.in_ok-apart.ensures.gate c.in_ok-word.ensures.gate

pub xor-requires-clause-first : goal.xor-requires-clause-first
xor-requires-clause-first c = bit_over _ c.args.a.now 31 (record { 0 = 0 }) (omega arith) (word_more _ _ c.args.a.now c.in_ok-low.ensures.extends c.requires.first)

pub xor-requires-clause-second : goal.xor-requires-clause-second
xor-requires-clause-second c = bit_over _ c.args.b.now 31 (record { 0 = 0 }) (omega arith) (word_more _ _ c.args.b.now c.in_ok-low.ensures.extends c.requires.second)

pub xor-requires-2-clause-first : goal.xor-requires-2-clause-first
xor-requires-2-clause-first c = c.in_ok-apart.ensures.gate.over

pub xor-requires-2-clause-second : goal.xor-requires-2-clause-second
xor-requires-2-clause-second c = lit_more _ _ c.in_ok-low.low.carry c.in_ok-apart.ensures.gate.extends c.in_ok-low.ensures.carry_over
