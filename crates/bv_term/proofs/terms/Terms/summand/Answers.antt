use Rattle.std.proofs.Common.{subst}
use Rattle.bv_term.specs.Values.{AreTerms}
use Rattle.bv_term.proofs.Folded.{sum_with_zero, zero_with_sum}
use Rattle.bv_term.proofs.terms.Terms.summand.Goals as goal

pub returns-in-Some-eq0 : goal.returns-in-Some-eq0
returns-in-Some-eq0 c = (
  sum_with_zero c.args.self.now c.args.first c.args.second c.in-Some-eq0.field-0 (subst AreTerms c.self.view_is c.self.invariant) c.in-Some-eq0.ensures.some c.in-Some-eq0.field-0-test,
  c.requires.first,
)

pub returns-in-Some-eq0-constant_value : goal.returns-in-Some-eq0-constant_value
returns-in-Some-eq0-constant_value c = (
  zero_with_sum c.args.self.now c.args.first c.args.second c.in-Some-eq0-constant_value.field-0 (subst AreTerms c.self.view_is c.self.invariant)
      c.in-Some-eq0-constant_value.ensures.some c.in-Some-eq0-constant_value.field-0-test,
  c.requires.second,
)
