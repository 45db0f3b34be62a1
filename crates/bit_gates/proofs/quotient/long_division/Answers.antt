use Rattle.std.proofs.Common.{◌-◌, arith}
use Rattle.bit_gates.proofs.Steps.{bit_over, word_more}
use Rattle.bit_gates.proofs.LongDivision.{none_divided, divided_more, divided}
use Rattle.bit_gates.proofs.quotient.long_division.Goals as goal

pub loop-i-init : goal.loop-i-init
loop-i-init c = none_divided _ c.args.a.now c.args.b.now _ _ c.requires.first.0 c.constant_word-quotient.ensures.over c.constant_word-remainder.ensures.over c.constant_word-remainder.ensures.exact

pub division_step-requires-clause-first : goal.division_step-requires-clause-first
division_step-requires-clause-first c = c.loop-i.invariant.remainder_over

pub division_step-requires-clause-second : goal.division_step-requires-clause-second
division_step-requires-clause-second c = bit_over _ c.args.a.now (31 - c.loop-i.i) (record { 0 = 0 }) (omega arith) (word_more _ _ c.args.a.now c.loop-i.invariant.extends c.requires.first)

pub division_step-requires-clause-third : goal.division_step-requires-clause-third
division_step-requires-clause-third c = word_more _ _ c.args.b.now c.loop-i.invariant.extends c.requires.second

pub loop-i-preserved : goal.loop-i-preserved
loop-i-preserved c = divided_more _ _ _ c.args.a.now c.args.b.now c.loop-i.quotient c.loop-i.remainder _ _ (record { 0 = 0 }) c.loop-i.i (31 - c.loop-i.i) c.loop-i-test.true (omega arith) c.requires.first.0 c.loop-i.invariant c.in_ok-step.ensures

pub returns : goal.returns
returns c = divided _ _ c.args.a.now c.args.b.now _ _ c.loop-i.i (omega arith) c.loop-i.invariant
