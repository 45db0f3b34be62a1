use Rattle.std.proofs.lemmas.Result.{IfOk-weaker}
use Rattle.cnf_problem.specs.Literals.{negated}
use Rattle.cnf_problem.proofs.LiteralLaws.{var-negated}
use Rattle.conflict_learn.specs.Learning.{IsLearnt}
use Rattle.conflict_learn.specs.Marking.{IsCollected}
use Rattle.conflict_learn.proofs.Asserting.{learnt_from}
use Rattle.conflict_learn.proofs.Resolving.{conflict_follows}
use Rattle.conflict_learn.proofs.Steps.{once_of}
use Rattle.conflict_learn.proofs.Walk.{conflict_counts}
use Rattle.conflict_learn.proofs.learning.learn.Goals as goal

pub add-requires-clause-assigned : goal.add-requires-clause-assigned
add-requires-clause-assigned g c = λ l h. (negated l, c.requires.refuted l h, var-negated l)

pub reduce-requires-clause-some : goal.reduce-requires-clause-some
reduce-requires-clause-some g c =
    let here = c.requires.here in
    conflict_counts c.args.trail.now c.args.conflict.now _ _ _ c.add.ensures.marks c.add.ensures.adds c.requires.refuted here.0 here.1 here.2 c.requires.above

pub returns : goal.returns
returns g c =
    let t = c.args.trail.now in
    let clauses = g.R.Reasons.clauses c.args.reasons.now in
    let once = once_of t c.in_ok-resolvent.ensures.well in
    let follows = c.reduce.ensures.follow c.args.conflict.now (conflict_follows clauses t.entries c.args.conflict.now _ c.add.new.self.marked.items once c.requires.refuted c.add.ensures.adds) in
    IfOk-weaker c.learnt.result (λ it. IsCollected t.entries c.reduce.new.self.marked.items it.lits it.back) (λ it. IsLearnt clauses t.entries c.args.conflict.now it.lits it.back)
    (λ it collected. learnt_from t clauses c.args.conflict.now c.reduce.new.self.marked.items c.reduce.new.self.last it.lits it.back once c.requires.forced c.reduce.ensures.marks c.reduce.ensures.one follows collected)
    c.learnt.ensures
