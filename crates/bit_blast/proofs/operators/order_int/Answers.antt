use Rattle.bit_gates.proofs.Choices.{ok_as}
use Rattle.bit_blast.proofs.Groups.{last_order_int}
use Rattle.bit_blast.proofs.operators.order_int.Goals as goal

pub returns-in-LessInt : goal.returns-in-LessInt
returns-in-LessInt c = rw c.in-LessInt.is (ok_as c.less_int_word.result _ _ c.less_int_word.ensures (λ w gate rest. gate))

pub returns-in-AtMostInt : goal.returns-in-AtMostInt
returns-in-AtMostInt c = rw c.in-AtMostInt.is (ok_as c.at_most_int_word.result _ _ c.at_most_int_word.ensures (λ w gate rest. gate))

pub returns-in-GreaterInt : goal.returns-in-GreaterInt
returns-in-GreaterInt c = rw c.in-GreaterInt.is (ok_as c.less_int_word-in-GreaterInt.result _ _ c.less_int_word-in-GreaterInt.ensures (λ w gate rest. gate))

pub returns-in_default : goal.returns-in_default
returns-in_default c = let e = last_order_int c.args.op c.requires.kind c.in_default.not-LessInt c.in_default.not-AtMostInt c.in_default.not-GreaterInt in rw e (ok_as c.at_most_int_word-in_default.result _ _ c.at_most_int_word-in_default.ensures (λ w gate rest. gate))
