use Rattle.bit_gates.proofs.Choices.{ok_as}
use Rattle.bit_blast.proofs.operators.operator_word.Goals as goal

pub returns-in-Plus : goal.returns-in-Plus
returns-in-Plus c = ok_as c.arithmetic.result _ _ c.arithmetic.ensures (λ w gate. gate c.args.c.now)

pub returns-in-DivideInt : goal.returns-in-DivideInt
returns-in-DivideInt c = ok_as c.division.result _ _ c.division.ensures (λ w gate. gate c.args.c.now)

pub returns-in-ShiftLeft : goal.returns-in-ShiftLeft
returns-in-ShiftLeft c = ok_as c.shift.result _ _ c.shift.ensures (λ w gate. gate c.args.c.now)

pub returns-in-LessInt : goal.returns-in-LessInt
returns-in-LessInt c = ok_as c.order_int.result _ _ c.order_int.ensures (λ w gate. gate c.args.c.now)

pub returns-in-LessUint : goal.returns-in-LessUint
returns-in-LessUint c = ok_as c.order_uint.result _ _ c.order_uint.ensures (λ w gate. gate c.args.c.now)

pub returns-in-Equal : goal.returns-in-Equal
returns-in-Equal c = ok_as c.bits.result _ _ c.bits.ensures (λ w gate. gate c.args.c.now)
