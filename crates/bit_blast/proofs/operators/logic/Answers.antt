use Rattle.bit_gates.proofs.Choices.{ok_as}
use Rattle.bit_blast.proofs.Groups.{last_logic}
use Rattle.bit_blast.proofs.operators.logic.Goals as goal

pub returns-in-LogicNot : goal.returns-in-LogicNot
returns-in-LogicNot c = rw c.in-LogicNot.is (ok_as c.not_word.result _ _ c.not_word.ensures (λ w gate. gate))

pub returns-in-LogicAnd : goal.returns-in-LogicAnd
returns-in-LogicAnd c = rw c.in-LogicAnd.is (ok_as c.both_word.result _ _ c.both_word.ensures (λ w gate. gate))

pub returns-in-LogicOr : goal.returns-in-LogicOr
returns-in-LogicOr c = rw c.in-LogicOr.is (ok_as c.either_word.result _ _ c.either_word.ensures (λ w gate. gate))

pub returns-in_default : goal.returns-in_default
returns-in_default c = let e = last_logic c.args.op c.requires.kind c.in_default.not-LogicNot c.in_default.not-LogicAnd c.in_default.not-LogicOr in rw e (ok_as c.chosen_word.result _ _ c.chosen_word.ensures (λ w gate. gate))
