use Rattle.std.proofs.Common.{subst, get_or}
use Rattle.bv_term.specs.declared.term.Term.TheVariants.{Apply}
use Rattle.bv_term.specs.Values.{AreTerms}
use Rattle.bv_term.proofs.Pushed.{pushed_grows, listed_constant, folded_computes, pushed_computes}
use Rattle.bv_term.proofs.terms.Terms.make.Goals as goal

pub returns-in-Some-clause-value : goal.returns-in-Some-clause-value
returns-in-Some-clause-value c =
    folded_computes c.args.self.now c.constant.new.self c.args.op c.args.args.now c.in-Some.value c.constant.result
    (subst AreTerms c.self.view_is c.self.invariant) c.requires.listed c.in-Some.ensures.some c.constant.ensures.value c.constant.ensures.grows

pub returns-in-Some-clause-listed : goal.returns-in-Some-clause-listed
returns-in-Some-clause-listed c = listed_constant c.constant.new.self c.in-Some.value c.constant.result c.constant.ensures.constant

pub returns-clause-grows : goal.returns-clause-grows
returns-clause-grows c =
    pushed_grows c.args.self.now c.push.new.self (Apply c.args.op (get_or c.args.args.now 0 (record { 0 = 0 })) c.argument_or.result c.argument_or-2.result) c.push.result c.push.ensures.ok

pub returns-clause-value : goal.returns-clause-value
returns-clause-value c =
    pushed_computes c.args.self.now c.push.new.self c.args.op c.args.args.now c.argument_or.result c.argument_or-2.result (record { 0 = 0 }) c.push.result c.push.ensures.number c.push.ensures.ok
    c.requires.arguments c.requires.listed c.argument_or.ensures c.argument_or-2.ensures
