use Rattle.std.specs.Prelude.{int_lt, int_le}
use Rattle.dg_base.specs.Values.{int_of}
use Rattle.bit_gates.specs.Words.{number}
use Rattle.bit_blast.proofs.OperatorGates.{flagged_not, not_less_int}
use Rattle.bit_blast.proofs.truths.at_most_int_word.Goals as goal

pub returns : goal.returns
returns c =
    flagged_not _ _ c.flag.result c.in_ok-greater.greater c.negated.result (λ s. int_lt (int_of (number s c.args.b.now)) (int_of (number s c.args.a.now))) (λ s. int_le (int_of (number s c.args.a.now)) (int_of (number s c.args.b.now))) c.negated.ensures.value c.in_ok-greater.ensures c.flag.ensures.over c.flag.ensures.exact
    (λ s. not_less_int (int_of (number s c.args.a.now)) (int_of (number s c.args.b.now)))
