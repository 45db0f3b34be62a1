use Rattle.std.proofs.Common.{ap, arith, map}
use Rattle.trail_state.specs.Trails.{TrailView, level}
use Rattle.trail_state.specs.Entries.{meaning}
use Rattle.trail_state.proofs.Cuts.{level-decided, level-le-length}
use Rattle.trail_state.proofs.trail.Trail.decide.Goals as goal

pub overflow_add-at : goal.overflow_add-at
overflow_add-at c =
    omega (arith, c.self.invariant.at_level, level-le-length (map meaning c.self.inside.entries.items), c.self.invariant.well.few, c.self.invariant.small)

pub put-requires-clause-level : goal.put-requires-clause-level
put-requires-clause-level c =
    let here = ap (λ (z : TrailView). level z.entries) c.self.view_is in
    omega (arith, c.self.invariant.at_level, here, level-decided c.args.self.now.entries c.args.lit)
