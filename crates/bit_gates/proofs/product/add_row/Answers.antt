use Rattle.std.proofs.Common.{arith}
use Rattle.bit_gates.proofs.Choices.{ok_as}
use Rattle.bit_gates.proofs.Steps.{lit_more, word_more}
use Rattle.bit_gates.proofs.Shifts.{up_over, row_added}
use Rattle.bit_gates.proofs.product.add_row.Goals as goal

pub moved_up-requires : goal.moved_up-requires
moved_up-requires c = let few = c.requires.few in omega arith

pub choose_word-requires-clause-choice : goal.choose_word-requires-clause-choice
choose_word-requires-clause-choice c = c.requires.third

pub choose_word-requires-clause-first : goal.choose_word-requires-clause-first
choose_word-requires-clause-first c = let few = c.requires.few in up_over _ c.args.places c.args.a.now c.moved_up.result c.constant-no.result (omega arith) c.requires.second c.constant-no.ensures.over c.moved_up.ensures

pub choose_word-requires-clause-second : goal.choose_word-requires-clause-second
choose_word-requires-clause-second c = c.constant_word-zero.ensures.over

pub add-requires-clause-first : goal.add-requires-clause-first
add-requires-clause-first c = word_more _ _ c.args.sum.now c.in_ok-row.ensures.extends c.requires.first

pub add-requires-clause-second : goal.add-requires-clause-second
add-requires-clause-second c = c.in_ok-row.ensures.over

pub add-requires-clause-third : goal.add-requires-clause-third
add-requires-clause-third c = lit_more _ _ c.constant-no.result c.in_ok-row.ensures.extends c.constant-no.ensures.over

pub returns : goal.returns
returns c = ok_as c.add.result _ _ c.add.ensures (λ w gate.
    row_added _ _ _ c.args.sum.now c.args.a.now c.in_ok-row.row c.moved_up.result c.constant_word-zero.result w c.args.bit c.constant-no.result c.args.places c.requires.few c.requires.second.0 c.moved_up.ensures c.constant-no.ensures.exact
    c.constant_word-zero.ensures.exact c.in_ok-row.ensures gate)
