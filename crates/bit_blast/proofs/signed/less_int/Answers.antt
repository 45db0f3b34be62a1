use Rattle.bit_gates.proofs.Choices.{ok_as}
use Rattle.bit_blast.proofs.TwosComplement.{less_of_flipped}
use Rattle.bit_blast.proofs.signed.less_int.Goals as goal

pub less-requires-clause-first : goal.less-requires-clause-first
less-requires-clause-first c = c.flipped.ensures.over _ c.requires.first

pub less-requires-clause-second : goal.less-requires-clause-second
less-requires-clause-second c = c.flipped-2.ensures.over _ c.requires.second

pub returns : goal.returns
returns c = ok_as c.less.result _ _ c.less.ensures (λ l gate.
    less_of_flipped _ _ c.args.a.now c.args.b.now c.flipped.result c.flipped-2.result l (record { 0 = 0 }) (record { 0 = 0 }) c.requires.first.0 c.requires.second.0 c.flipped.ensures.exact c.flipped-2.ensures.exact gate)
