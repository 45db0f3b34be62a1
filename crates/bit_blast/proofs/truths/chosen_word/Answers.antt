use Rattle.bit_gates.proofs.Choices.{ok_as}
use Rattle.bit_gates.proofs.Steps.{word_more}
use Rattle.bit_blast.proofs.OperatorGates.{chosen_word as chosen}
use Rattle.bit_blast.proofs.truths.chosen_word.Goals as goal

pub choose_word-requires-clause-choice : goal.choose_word-requires-clause-choice
choose_word-requires-clause-choice c = c.in_ok-some.ensures.over

pub choose_word-requires-clause-first : goal.choose_word-requires-clause-first
choose_word-requires-clause-first c = word_more _ _ c.args.b.now c.in_ok-some.ensures.extends c.requires.second

pub choose_word-requires-clause-second : goal.choose_word-requires-clause-second
choose_word-requires-clause-second c = word_more _ _ c.args.c.now c.in_ok-some.ensures.extends c.requires.third

pub returns : goal.returns
returns c = ok_as c.choose_word.result _ _ c.choose_word.ensures (λ w gate. chosen _ _ _ c.args.a.now c.args.b.now c.args.c.now w c.in_ok-some.some c.in_ok-some.ensures gate)
