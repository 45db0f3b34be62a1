use Rattle.bit_gates.proofs.Choices.{ok_as}
use Rattle.bit_blast.proofs.Groups.{last_shift}
use Rattle.bit_blast.proofs.operators.shift.Goals as goal

pub returns-in-ShiftLeft : goal.returns-in-ShiftLeft
returns-in-ShiftLeft c = rw c.in-ShiftLeft.is (ok_as c.shift_left.result _ _ c.shift_left.ensures (λ w gate rest. gate))

pub returns-in-ShiftRightInt : goal.returns-in-ShiftRightInt
returns-in-ShiftRightInt c = rw c.in-ShiftRightInt.is (ok_as c.shift_int.result _ _ c.shift_int.ensures (λ w gate rest. gate))

pub returns-in_default : goal.returns-in_default
returns-in_default c = let e = last_shift c.args.op c.requires.kind c.in_default.not-ShiftLeft c.in_default.not-ShiftRightInt in rw e (ok_as c.shift_uint.result _ _ c.shift_uint.ensures (λ w gate rest. gate))
