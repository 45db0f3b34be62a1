use Rattle.std.proofs.Common.{refl, not}
use Rattle.std.specs.Prelude.{nat_eq}
use Rattle.bit_gates.specs.Words.{number}
use Rattle.bit_blast.proofs.OperatorGates.{flagged_not}
use Rattle.bit_blast.proofs.truths.not_equal_word.Goals as goal

pub returns : goal.returns
returns c =
    flagged_not _ _ c.flag.result c.in_ok-same.same c.negated.result (λ s. nat_eq (number s c.args.a.now) (number s c.args.b.now)) (λ s. not (nat_eq (number s c.args.a.now) (number s c.args.b.now))) c.negated.ensures.value c.in_ok-same.ensures c.flag.ensures.over c.flag.ensures.exact
    (λ s. refl)
