use Rattle.bit_gates.proofs.Steps.{lit_more, word_more}
use Rattle.bit_gates.proofs.LongDivision.{division_made}
use Rattle.bit_gates.proofs.quotient.divide.Goals as goal

pub long_division-requires-clause-first : goal.long_division-requires-clause-first
long_division-requires-clause-first c = word_more _ _ c.args.a.now c.in_ok-is_some.ensures.extends c.requires.first

pub long_division-requires-clause-second : goal.long_division-requires-clause-second
long_division-requires-clause-second c = word_more _ _ c.args.b.now c.in_ok-is_some.ensures.extends c.requires.second

pub choose_word-requires-clause-choice : goal.choose_word-requires-clause-choice
choose_word-requires-clause-choice c = lit_more _ _ c.in_ok-is_some.is_some c.in_ok-parts.ensures.extends c.in_ok-is_some.ensures.over

pub choose_word-requires-clause-first : goal.choose_word-requires-clause-first
choose_word-requires-clause-first c = c.in_ok-parts.ensures.quotient_over

pub choose_word-requires-clause-second : goal.choose_word-requires-clause-second
choose_word-requires-clause-second c = word_more _ _ c.constant_word-zero.result c.in_ok-parts.ensures.extends (word_more _ _ c.constant_word-zero.result c.in_ok-is_some.ensures.extends c.constant_word-zero.ensures.over)

pub choose_word-requires-2-clause-choice : goal.choose_word-requires-2-clause-choice
choose_word-requires-2-clause-choice c = lit_more _ _ c.in_ok-is_some.is_some c.in_ok-quotient.ensures.extends (lit_more _ _ c.in_ok-is_some.is_some c.in_ok-parts.ensures.extends c.in_ok-is_some.ensures.over)

pub choose_word-requires-2-clause-first : goal.choose_word-requires-2-clause-first
choose_word-requires-2-clause-first c = word_more _ _ c.in_ok-parts.parts.remainder c.in_ok-quotient.ensures.extends c.in_ok-parts.ensures.remainder_over

pub choose_word-requires-2-clause-second : goal.choose_word-requires-2-clause-second
choose_word-requires-2-clause-second c = word_more _ _ c.constant_word-zero.result c.in_ok-quotient.ensures.extends
    (word_more _ _ c.constant_word-zero.result c.in_ok-parts.ensures.extends (word_more _ _ c.constant_word-zero.result c.in_ok-is_some.ensures.extends c.constant_word-zero.ensures.over))

pub returns : goal.returns
returns c = division_made _ _ _ _ _ c.args.a.now c.args.b.now c.constant_word-zero.result c.in_ok-parts.parts.quotient c.in_ok-parts.parts.remainder _ _ c.in_ok-is_some.is_some c.constant_word-zero.ensures.exact c.in_ok-is_some.ensures c.in_ok-parts.ensures
    c.in_ok-quotient.ensures c.in_ok-remainder.ensures
