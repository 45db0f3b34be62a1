use Rattle.bit_gates.proofs.Choices.{ok_as}
use Rattle.bit_blast.proofs.OperatorGates.{inverse_word}
use Rattle.bit_blast.proofs.Groups.{last_bits}
use Rattle.bit_blast.proofs.operators.bits.Goals as goal

pub returns-in-Equal : goal.returns-in-Equal
returns-in-Equal c = rw c.in-Equal.is (ok_as c.equal_word.result _ _ c.equal_word.ensures (λ w gate rest. gate))

pub returns-in-NotEqual : goal.returns-in-NotEqual
returns-in-NotEqual c = rw c.in-NotEqual.is (ok_as c.not_equal_word.result _ _ c.not_equal_word.ensures (λ w gate rest. gate))

pub returns-in-BitAnd : goal.returns-in-BitAnd
returns-in-BitAnd c = rw c.in-BitAnd.is (ok_as c.bitwise.result _ _ c.bitwise.ensures (λ w gate rest. gate))

pub returns-in-BitOr : goal.returns-in-BitOr
returns-in-BitOr c = rw c.in-BitOr.is (ok_as c.bitwise-in-BitOr.result _ _ c.bitwise-in-BitOr.ensures (λ w gate rest. gate))

pub returns-in-BitXor : goal.returns-in-BitXor
returns-in-BitXor c = rw c.in-BitXor.is (ok_as c.bitwise-in-BitXor.result _ _ c.bitwise-in-BitXor.ensures (λ w gate rest. gate))

pub returns-in_default : goal.returns-in_default
returns-in_default c = let e = last_bits c.args.op c.requires.kind c.in_default.not-Equal c.in_default.not-NotEqual c.in_default.not-BitAnd c.in_default.not-BitOr c.in_default.not-BitXor in rw e (λ rest. inverse_word _ c.args.a.now c.inverted.result c.requires.first c.inverted.ensures)
