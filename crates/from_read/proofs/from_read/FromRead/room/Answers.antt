use Rattle.from_read.proofs.Stacks.{few_derived}
use Rattle.from_read.proofs.from_read.FromRead.room.Goals as goal

pub returns : goal.returns
returns c =
    let i = c.self.inside in
    rw (← c.self.view_is) (λ v n k is. few_derived v i.nodes.items i.kinds.items i.room n k c.self.invariant.2 is)
