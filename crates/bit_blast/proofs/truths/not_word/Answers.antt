use Rattle.std.proofs.Common.{ap, not}
use Rattle.std.specs.Prelude.{nat_lt}
use Rattle.dg_base.specs.Values.{is_true}
use Rattle.bit_gates.specs.Words.{number}
use Rattle.bit_blast.proofs.OperatorGates.{flagged_not, some_is_true}
use Rattle.bit_blast.proofs.truths.not_word.Goals as goal

pub returns : goal.returns
returns c =
    flagged_not _ _ c.flag.result c.in_ok-some.some c.negated.result (λ s. nat_lt 0 (number s c.args.a.now)) (λ s. not (is_true (number s c.args.a.now))) c.negated.ensures.value c.in_ok-some.ensures c.flag.ensures.over c.flag.ensures.exact
    (λ s. ap not (some_is_true (number s c.args.a.now)))
