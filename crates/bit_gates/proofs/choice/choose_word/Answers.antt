use Rattle.std.proofs.Common.{arith}
use Rattle.bit_gates.proofs.Choices.{choice_none, choice_more, choice_made}
use Rattle.bit_gates.proofs.Steps.{bit_over, lit_more, word_more}
use Rattle.bit_gates.proofs.choice.choose_word.Goals as goal

pub loop-i-init : goal.loop-i-init
loop-i-init c = choice_none _ c.args.a.now c.args.b.now c.args.c _ c.constant-word.ensures.over

pub loop-i-preserved : goal.loop-i-preserved
loop-i-preserved c = choice_more _ _ _ _ c.args.a.now c.args.b.now c.args.c _ (record { 0 = 0 }) (record { 0 = 0 }) c.loop-i.i c.loop-i-test.true c.requires.first.0 c.requires.second.0 c.loop-i.invariant c.in_ok-word.ensures

pub returns : goal.returns
returns c = choice_made _ _ _ c.args.a.now c.args.b.now c.args.c c.loop-i.i (omega arith) c.requires.first.0 c.requires.second.0 c.loop-i.invariant

pub choose-requires-clause-choice : goal.choose-requires-clause-choice
choose-requires-clause-choice c = lit_more _ _ c.args.c c.loop-i.invariant.extends c.requires.choice

pub choose-requires-clause-first : goal.choose-requires-clause-first
choose-requires-clause-first c = bit_over _ c.args.a.now c.loop-i.i (record { 0 = 0 }) c.loop-i-test.true (word_more _ _ c.args.a.now c.loop-i.invariant.extends c.requires.first)

pub choose-requires-clause-second : goal.choose-requires-clause-second
choose-requires-clause-second c = bit_over _ c.args.b.now c.loop-i.i (record { 0 = 0 }) c.loop-i-test.true (word_more _ _ c.args.b.now c.loop-i.invariant.extends c.requires.second)
