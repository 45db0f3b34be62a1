use Rattle.std.proofs.Common.{◌∙◌, arith}
use Rattle.std.proofs.lemmas.List.{length-set}
use Rattle.bv_term.proofs.Folded.{constants_more, not_constants}
use Rattle.bv_term.proofs.terms.Terms.constants.Goals as goal

pub returns-in_err-values-clause-none : goal.returns-in_err-values-clause-none
returns-in_err-values-clause-none c =
    not_constants c.args.self.now c.args.args.now c.loop-i.i (record { 0 = 0 }) c.from_residual.result c.loop-i-test.true c.in_err-values.ensures.none

pub loop-i-preserved : goal.loop-i-preserved
loop-i-preserved c = record {
  room = length-set c.loop-i.values c.loop-i.i c.in_ok-values.field-0 ∙ c.loop-i.invariant.room;
  so_far = constants_more c.args.self.now c.args.args.now c.loop-i.values c.loop-i.i c.in_ok-values.field-0 (record { 0 = 0 }) c.loop-i-test.true (omega arith)
      c.in_ok-values.ensures.some c.loop-i.invariant.so_far;
}
