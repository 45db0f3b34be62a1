use Rattle.bit_gates.proofs.Choices.{ok_as}
use Rattle.bit_gates.proofs.Steps.{lit_more, word_more}
use Rattle.bit_blast.proofs.TwosComplement.{negated_word}
use Rattle.bit_blast.proofs.signed.negate_if.Goals as goal

pub choose_word-requires-clause-choice : goal.choose_word-requires-clause-choice
choose_word-requires-clause-choice c = lit_more _ _ c.args.sign c.in_ok-negative.ensures.extends c.requires.choice

pub choose_word-requires-clause-first : goal.choose_word-requires-clause-first
choose_word-requires-clause-first c = c.in_ok-negative.ensures.over

pub choose_word-requires-clause-second : goal.choose_word-requires-clause-second
choose_word-requires-clause-second c = word_more _ _ c.args.a.now c.in_ok-negative.ensures.extends c.requires.word

pub returns : goal.returns
returns c = ok_as c.choose_word.result _ _ c.choose_word.ensures (λ w gate. negated_word _ _ _ c.args.a.now c.in_ok-negative.negative w c.args.sign c.in_ok-negative.ensures gate)
