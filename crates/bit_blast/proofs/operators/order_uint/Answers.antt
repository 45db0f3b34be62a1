use Rattle.bit_gates.proofs.Choices.{ok_as}
use Rattle.bit_blast.proofs.Groups.{last_order_uint}
use Rattle.bit_blast.proofs.operators.order_uint.Goals as goal

pub returns-in-LessUint : goal.returns-in-LessUint
returns-in-LessUint c = rw c.in-LessUint.is (ok_as c.less_word.result _ _ c.less_word.ensures (λ w gate rest. gate))

pub returns-in-AtMostUint : goal.returns-in-AtMostUint
returns-in-AtMostUint c = rw c.in-AtMostUint.is (ok_as c.at_most_word.result _ _ c.at_most_word.ensures (λ w gate rest. gate))

pub returns-in-GreaterUint : goal.returns-in-GreaterUint
returns-in-GreaterUint c = rw c.in-GreaterUint.is (ok_as c.less_word-in-GreaterUint.result _ _ c.less_word-in-GreaterUint.ensures (λ w gate rest. gate))

pub returns-in_default : goal.returns-in_default
returns-in_default c = let e = last_order_uint c.args.op c.requires.kind c.in_default.not-LessUint c.in_default.not-AtMostUint c.in_default.not-GreaterUint in rw e (ok_as c.at_most_word-in_default.result _ _ c.at_most_word-in_default.ensures (λ w gate rest. gate))
