use Rattle.std.proofs.Common.{arith}
use Rattle.cnf_problem.proofs.GateLaws.{extends_steps}
use Rattle.bit_gates.proofs.Choices.{ok_as}
use Rattle.bit_gates.proofs.Steps.{bit_over, word_more}
use Rattle.bit_blast.proofs.TwosComplement.{divided_int}
use Rattle.bit_blast.proofs.signed.divide_int.Goals as goal

pub negate_if-requires-clause-choice : goal.negate_if-requires-clause-choice
negate_if-requires-clause-choice c = bit_over _ c.args.a.now 31 (record { 0 = 0 }) (omega arith) c.requires.first

pub negate_if-requires-2-clause-choice : goal.negate_if-requires-2-clause-choice
negate_if-requires-2-clause-choice c = bit_over _ c.args.b.now 31 (record { 0 = 0 }) (omega arith) (word_more _ _ c.args.b.now c.in_ok-first.ensures.extends c.requires.second)

pub negate_if-requires-2-clause-word : goal.negate_if-requires-2-clause-word
negate_if-requires-2-clause-word c = word_more _ _ c.args.b.now c.in_ok-first.ensures.extends c.requires.second

pub divide-requires-clause-first : goal.divide-requires-clause-first
divide-requires-clause-first c = word_more _ _ c.in_ok-first.first c.in_ok-second.ensures.extends c.in_ok-first.ensures.over

pub divide-requires-clause-second : goal.divide-requires-clause-second
divide-requires-clause-second c = c.in_ok-second.ensures.over

pub xor-requires-clause-first : goal.xor-requires-clause-first
xor-requires-clause-first c = bit_over _ c.args.a.now 31 (record { 0 = 0 }) (omega arith) (word_more _ _ c.args.a.now (extends_steps _ _ _ c.in_ok-first.ensures.extends (extends_steps _ _ _ c.in_ok-second.ensures.extends c.in_ok-parts.ensures.extends)) c.requires.first)

pub xor-requires-clause-second : goal.xor-requires-clause-second
xor-requires-clause-second c = bit_over _ c.args.b.now 31 (record { 0 = 0 }) (omega arith) (word_more _ _ c.args.b.now (extends_steps _ _ _ c.in_ok-first.ensures.extends (extends_steps _ _ _ c.in_ok-second.ensures.extends c.in_ok-parts.ensures.extends)) c.requires.second)

pub negate_if-requires-3-clause-choice : goal.negate_if-requires-3-clause-choice
negate_if-requires-3-clause-choice c = c.in_ok-sign.ensures.gate.over

pub negate_if-requires-3-clause-word : goal.negate_if-requires-3-clause-word
negate_if-requires-3-clause-word c = word_more _ _ c.in_ok-parts.parts.quotient c.in_ok-sign.ensures.gate.extends c.in_ok-parts.ensures.quotient_over

pub returns : goal.returns
returns c = ok_as c.negate_if-3.result _ _ c.negate_if-3.ensures (λ w gate.
    divided_int _ _ _ _ _ _ c.args.a.now c.args.b.now c.in_ok-first.first c.in_ok-second.second c.in_ok-parts.parts.quotient c.in_ok-parts.parts.remainder w c.in_ok-sign.sign (record { 0 = 0 }) (record { 0 = 0 })
    c.requires.first.0 c.requires.second.0 c.in_ok-first.ensures c.in_ok-second.ensures c.in_ok-parts.ensures c.in_ok-sign.ensures.gate gate)
