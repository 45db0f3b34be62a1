use Rattle.bv_term.specs.declared.term.Term.TheVariants.{Input}
use Rattle.bv_term.proofs.Pushed.{pushed_grows, pushed_input}
use Rattle.bv_term.proofs.terms.Terms.input.Goals as goal

pub returns-clause-value : goal.returns-clause-value
returns-clause-value c = pushed_input c.args.self.now c.push.new.self c.push.result c.push.ensures.number c.push.ensures.ok

pub returns-clause-grows : goal.returns-clause-grows
returns-clause-grows c = pushed_grows c.args.self.now c.push.new.self Input c.push.result c.push.ensures.ok
