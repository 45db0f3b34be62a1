use Rattle.bv_term.specs.declared.term.Term.TheVariants.{Constant}
use Rattle.bv_term.proofs.Pushed.{pushed_grows, pushed_constant}
use Rattle.bv_term.proofs.terms.Terms.constant.Goals as goal

pub returns-clause-value : goal.returns-clause-value
returns-clause-value c = pushed_constant c.args.self.now c.push.new.self c.args.value c.push.result c.push.ensures.number c.push.ensures.ok

pub returns-clause-grows : goal.returns-clause-grows
returns-clause-grows c = pushed_grows c.args.self.now c.push.new.self (Constant c.args.value) c.push.result c.push.ensures.ok
