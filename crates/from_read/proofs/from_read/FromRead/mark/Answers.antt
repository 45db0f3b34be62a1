use Rattle.std.proofs.Common.{arith}
use Rattle.from_read.proofs.Stacks.{few_atoms, seen_as}
use Rattle.from_read.proofs.from_read.FromRead.mark.Goals as goal

pub overflow_cast-result : goal.overflow_cast-result
overflow_cast-result c =
    let i = c.self.inside in
    let long = i.true_atoms.ok.0 in
    let few = few_atoms (seen_as i.nodes.items i.kinds.items i.true_atoms.items i.found.list) c.self.invariant.0.whole in
    omega (arith, few, c.self.invariant.3, c.len.ensures, long)
