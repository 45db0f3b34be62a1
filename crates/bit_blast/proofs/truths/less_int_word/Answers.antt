use Rattle.std.proofs.Common.{refl}
use Rattle.std.specs.Prelude.{int_lt}
use Rattle.dg_base.specs.Values.{int_of}
use Rattle.bit_gates.specs.Words.{number}
use Rattle.bit_blast.proofs.OperatorGates.{flagged}
use Rattle.bit_blast.proofs.truths.less_int_word.Goals as goal

pub returns : goal.returns
returns c = flagged _ _ c.flag.result c.in_ok-lower.lower (λ s. int_lt (int_of (number s c.args.a.now)) (int_of (number s c.args.b.now))) (λ s. int_lt (int_of (number s c.args.a.now)) (int_of (number s c.args.b.now))) c.in_ok-lower.ensures c.flag.ensures.over c.flag.ensures.exact (λ s. refl)
