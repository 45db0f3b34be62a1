use Rattle.std.proofs.Common.{arith, lit<}
use Rattle.std.proofs.lemmas.Option.{slice_get_within}
use Rattle.dg_base.proofs.Lists.{get_set_same}
use Rattle.axiom_model.specs.declared.walk.Mark.TheVariants.{New, Open}
use Rattle.axiom_model.proofs.Walking.{open_keeps, marks_less, set_onward}
use Rattle.axiom_model.proofs.walk.Walk.open.Goals as goal

pub returns-clause-walk : goal.returns-clause-walk
returns-clause-walk c =
    rw (c.set.ensures, c.in_ok-push.ensures.ok) (open_keeps c.args.edges.now c.args.self.now c.args.node c.requires.walk c.requires.fresh c.requires.leads)

pub returns-clause-onward : goal.returns-clause-onward
returns-clause-onward c = set_onward c.args.self.now _ c.args.node Open c.set.ensures (λ e. cc)

pub returns-clause-met : goal.returns-clause-met
returns-clause-met c =
    rw c.set.ensures (get_set_same c.args.self.now.marks c.args.node Open (slice_get_within c.args.self.now.marks c.args.node New c.requires.fresh))

pub returns-clause-less : goal.returns-clause-less
returns-clause-less c =
    let h = marks_less c.args.self.now.marks c.args.node New Open c.requires.fresh (lit< tt) in
    rw c.set.ensures (omega (arith, h))
