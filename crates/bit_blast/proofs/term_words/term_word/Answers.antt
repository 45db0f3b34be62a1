use Rattle.bit_gates.proofs.Steps.{word_of_older}
use Rattle.bit_blast.proofs.term_words.term_word.Goals as goal

pub applied_word-requires-clause-first : goal.applied_word-requires-clause-first
applied_word-requires-clause-first c = let behind = rw c.in-Apply.is at c.requires.behind in behind.0

pub applied_word-requires-clause-second : goal.applied_word-requires-clause-second
applied_word-requires-clause-second c = let behind = rw c.in-Apply.is at c.requires.behind in behind.1

pub applied_word-requires-clause-third : goal.applied_word-requires-clause-third
applied_word-requires-clause-third c = let behind = rw c.in-Apply.is at c.requires.behind in behind.2

pub returns-in-Input : goal.returns-in-Input
returns-in-Input c = rw c.in-Input.is c.input_word.ensures

pub returns-in-Constant : goal.returns-in-Constant
returns-in-Constant c = rw c.in-Constant.is (word_of_older _ c.constant_word.result _ c.constant_word.ensures.over c.constant_word.ensures.exact)

pub returns-in-Apply : goal.returns-in-Apply
returns-in-Apply c = rw c.in-Apply.is c.applied_word.ensures
