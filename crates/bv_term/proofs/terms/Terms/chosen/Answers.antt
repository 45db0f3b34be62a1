use Rattle.std.proofs.Common.{subst}
use Rattle.bv_term.specs.Values.{AreTerms}
use Rattle.bv_term.proofs.Folded.{choice_by_zero, choice_by_other}
use Rattle.bv_term.proofs.terms.Terms.chosen.Goals as goal

pub returns-then-value-eq0 : goal.returns-then-value-eq0
returns-then-value-eq0 c =
    choice_by_zero c.args.self.now c.args.condition c.args.yes c.args.no c.in_ok-value.value (subst AreTerms c.self.view_is c.self.invariant) c.in_ok-value.ensures.some c.requires.no c.if-value-eq0.true

pub returns-else-value-eq0 : goal.returns-else-value-eq0
returns-else-value-eq0 c =
    choice_by_other c.args.self.now c.args.condition c.args.yes c.args.no c.in_ok-value.value (subst AreTerms c.self.view_is c.self.invariant) c.in_ok-value.ensures.some c.requires.yes c.if-value-eq0.false
