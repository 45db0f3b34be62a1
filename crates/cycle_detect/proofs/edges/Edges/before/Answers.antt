use Rattle.cycle_detect.proofs.Linked.{before_is}
use Rattle.cycle_detect.proofs.edges.Edges.before.Goals as goal

pub returns : goal.returns
returns c =
    let i = c.self.inside in
    let h = rw (← c.self.view_is) at c.requires in
    rw (← c.self.view_is) (λ x y e. before_is i.nodes i.ends.items i.older.items i.newest.items c.args.id c.index.result.now c.self.invariant.0 h c.index.ensures x y e)
