use Rattle.std.proofs.Common.{arith}
use Rattle.bit_gates.proofs.Steps.{bit_over, inverse_over, word_more}
use Rattle.bit_gates.proofs.Shifts.{up_over}
use Rattle.bit_gates.proofs.LongDivision.{divided_step}
use Rattle.bit_gates.proofs.quotient.division_step.Goals as goal

pub moved_up-longer-requires : goal.moved_up-longer-requires
moved_up-longer-requires c = omega arith

pub low_sum-requires-clause-first : goal.low_sum-requires-clause-first
low_sum-requires-clause-first c = up_over _ 1 c.args.remainder.now c.moved_up-longer.result c.args.next (omega arith) c.requires.first c.requires.second c.moved_up-longer.ensures

pub low_sum-requires-clause-second : goal.low_sum-requires-clause-second
low_sum-requires-clause-second c = inverse_over _ c.args.b.now c.inverted.result c.requires.third c.inverted.ensures

pub low_sum-requires-clause-third : goal.low_sum-requires-clause-third
low_sum-requires-clause-third c = c.constant-yes.ensures.over

pub or-requires-clause-first : goal.or-requires-clause-first
or-requires-clause-first c = bit_over _ c.args.remainder.now 31 (record { 0 = 0 }) (omega arith) (word_more _ _ c.args.remainder.now c.in_ok-rest.ensures.extends c.requires.first)

pub or-requires-clause-second : goal.or-requires-clause-second
or-requires-clause-second c = c.in_ok-rest.ensures.carry_over

pub choose_word-requires-clause-choice : goal.choose_word-requires-clause-choice
choose_word-requires-clause-choice c = c.in_ok-bit.ensures.over

pub choose_word-requires-clause-first : goal.choose_word-requires-clause-first
choose_word-requires-clause-first c = word_more _ _ c.in_ok-rest.rest.word c.in_ok-bit.ensures.extends c.in_ok-rest.ensures.over

pub choose_word-requires-clause-second : goal.choose_word-requires-clause-second
choose_word-requires-clause-second c = word_more _ _ c.moved_up-longer.result c.in_ok-bit.ensures.extends (word_more _ _ c.moved_up-longer.result c.in_ok-rest.ensures.extends
    (up_over _ 1 c.args.remainder.now c.moved_up-longer.result c.args.next (omega arith) c.requires.first c.requires.second c.moved_up-longer.ensures))

pub returns : goal.returns
returns c = divided_step _ _ _ _ c.args.remainder.now c.moved_up-longer.result c.inverted.result c.in_ok-rest.rest.word c.args.b.now _ c.args.next c.constant-yes.result c.in_ok-rest.rest.carry _ (record { 0 = 0 }) c.requires.first.0 c.requires.third.0
    (up_over _ 1 c.args.remainder.now c.moved_up-longer.result c.args.next (omega arith) c.requires.first c.requires.second c.moved_up-longer.ensures).0 c.moved_up-longer.ensures c.inverted.ensures c.constant-yes.ensures.exact
    c.in_ok-rest.ensures c.in_ok-bit.ensures c.in_ok-remainder.ensures
