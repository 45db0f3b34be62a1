use Rattle.std.proofs.Common.{refl}
use Rattle.std.specs.Prelude.{nat_lt}
use Rattle.bit_gates.specs.Words.{number}
use Rattle.bit_blast.proofs.OperatorGates.{flagged}
use Rattle.bit_blast.proofs.truths.less_word.Goals as goal

pub returns : goal.returns
returns c = flagged _ _ c.flag.result c.in_ok-lower.lower (λ s. nat_lt (number s c.args.a.now) (number s c.args.b.now)) (λ s. nat_lt (number s c.args.a.now) (number s c.args.b.now)) c.in_ok-lower.ensures c.flag.ensures.over c.flag.ensures.exact (λ s. refl)
