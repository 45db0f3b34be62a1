use Rattle.std.specs.Prelude.{nat_lt, nat_le}
use Rattle.bit_gates.specs.Words.{number}
use Rattle.bit_blast.proofs.OperatorGates.{flagged_not, not_less}
use Rattle.bit_blast.proofs.truths.at_most_word.Goals as goal

pub returns : goal.returns
returns c =
    flagged_not _ _ c.flag.result c.in_ok-greater.greater c.negated.result (λ s. nat_lt (number s c.args.b.now) (number s c.args.a.now)) (λ s. nat_le (number s c.args.a.now) (number s c.args.b.now)) c.negated.ensures.value c.in_ok-greater.ensures c.flag.ensures.over c.flag.ensures.exact
    (λ s. not_less (number s c.args.a.now) (number s c.args.b.now))
