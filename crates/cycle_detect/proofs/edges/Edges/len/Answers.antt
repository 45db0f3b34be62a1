use Rattle.std.proofs.Common.{arith}
use Rattle.cycle_detect.proofs.Linked.{within_is}
use Rattle.cycle_detect.proofs.edges.Edges.len.Goals as goal

pub overflow_cast-result : goal.overflow_cast-result
overflow_cast-result c = let long = c.self.inside.ends.ok.0 in omega (arith, c.self.invariant.1, c.self.invariant.4, c.len.ensures)

pub returns-clause-within : goal.returns-clause-within
returns-clause-within c =
    let i = c.self.inside in
    rw (← c.self.view_is) (within_is i.nodes i.ends.items i.older.items i.newest.items c.self.invariant.0)
