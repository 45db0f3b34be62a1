use Rattle.bit_gates.proofs.Choices.{ok_as}
use Rattle.bit_blast.proofs.Groups.{last_division}
use Rattle.bit_blast.proofs.operators.division.Goals as goal

pub returns-in-DivideInt : goal.returns-in-DivideInt
returns-in-DivideInt c = rw c.in-DivideInt.is (ok_as c.divide_int.result _ _ c.divide_int.ensures (λ w gate rest. gate))

pub returns-in-DivideUint : goal.returns-in-DivideUint
returns-in-DivideUint c = rw c.in-DivideUint.is (ok_as c.divide_uint.result _ _ c.divide_uint.ensures (λ w gate rest. gate))

pub returns-in-RemainderInt : goal.returns-in-RemainderInt
returns-in-RemainderInt c = rw c.in-RemainderInt.is (ok_as c.remainder_int_word.result _ _ c.remainder_int_word.ensures (λ w gate rest. gate))

pub returns-in_default : goal.returns-in_default
returns-in_default c = let e = last_division c.args.op c.requires.kind c.in_default.not-DivideInt c.in_default.not-DivideUint c.in_default.not-RemainderInt in rw e (ok_as c.remainder_uint.result _ _ c.remainder_uint.ensures (λ w gate rest. gate))
