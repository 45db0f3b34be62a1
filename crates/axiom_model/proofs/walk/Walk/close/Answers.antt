use Rattle.std.proofs.Common.{arith, lit<}
use Rattle.axiom_model.specs.declared.walk.Mark.TheVariants.{Open, Closed}
use Rattle.axiom_model.proofs.Walking.{close_keeps, marks_less, set_onward, top_open, pop_front}
use Rattle.axiom_model.proofs.walk.Walk.close.Goals as goal

pub returns-clause-walk : goal.returns-clause-walk
returns-clause-walk c =
    rw (c.set.ensures, c.in_ok-push.ensures.ok)
    (close_keeps c.args.edges.now c.args.self.now c.pop-node.new.self c.args.node c.requires.walk (pop_front c.args.self.now.path c.pop-node.new.self c.args.node c.pop-node.result c.requires.top c.pop-node.ensures) c.requires.passed)

pub returns-clause-onward : goal.returns-clause-onward
returns-clause-onward c = set_onward c.args.self.now _ c.args.node Closed c.set.ensures (λ e. cc)

pub returns-clause-less : goal.returns-clause-less
returns-clause-less c =
    let h = marks_less c.args.self.now.marks c.args.node Open Closed (top_open c.args.edges.now c.args.self.now c.args.node c.requires.walk c.requires.top) (lit< tt) in
    rw c.set.ensures (omega (arith, h))
