use Rattle.std.proofs.Common.{arith}
use Rattle.conflict_learn.proofs.Walk.{walk_goes_on}
use Rattle.conflict_learn.proofs.resolvent.Resolvent.reduce.Goals as goal

pub overflow_sub-i : goal.overflow_sub-i
overflow_sub-i g c =
    let s = c.loop-self.self in
    let inv = c.loop-self.invariant in
    let r = walk_goes_on c.args.trail.now s.marked.items s.last c.loop-self.i inv.marks inv.below inv.some in
    omega arith

pub loop-self-smaller : goal.loop-self-smaller
loop-self-smaller g c =
    let s = c.loop-self.self in
    let inv = c.loop-self.invariant in
    let r = walk_goes_on c.args.trail.now s.marked.items s.last c.loop-self.i inv.marks inv.below inv.some in
    omega arith
