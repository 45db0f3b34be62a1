use Rattle.std.proofs.Common.{refl}
use Rattle.bit_gates.proofs.Choices.{ok_as}
use Rattle.bit_gates.proofs.Steps.{word_of_older}
use Rattle.bit_blast.proofs.Groups.{last_arithmetic}
use Rattle.bit_blast.proofs.operators.arithmetic.Goals as goal

pub returns-in-Plus : goal.returns-in-Plus
returns-in-Plus c = rw c.in-Plus.is (ok_as c.sum.result _ _ c.sum.ensures (λ w gate rest. gate))

pub returns-in-Minus : goal.returns-in-Minus
returns-in-Minus c = rw c.in-Minus.is (ok_as c.subtract.result _ _ c.subtract.ensures (λ w gate rest. gate))

pub returns-in-Times : goal.returns-in-Times
returns-in-Times c = rw c.in-Times.is (ok_as c.multiply.result _ _ c.multiply.ensures (λ w gate rest. gate))

pub returns-in-Negate : goal.returns-in-Negate
returns-in-Negate c = rw c.in-Negate.is (ok_as c.negate.result _ _ c.negate.ensures (λ w gate rest. gate))

pub returns-in_default : goal.returns-in_default
returns-in_default c = let e = last_arithmetic c.args.op c.requires.kind c.in_default.not-Plus c.in_default.not-Minus c.in_default.not-Times c.in_default.not-Negate in rw e (λ rest. word_of_older _ c.args.a.now _ c.requires.first (λ s sat. refl))
