use Rattle.std.proofs.Common.{sym, ap, ◌∙◌}
use Rattle.trail_state.specs.Trails.{TrailView, level}
use Rattle.trail_state.proofs.Cuts.{level-forced}
use Rattle.trail_state.proofs.trail.Trail.assign.Goals as goal

pub put-requires-clause-level : goal.put-requires-clause-level
put-requires-clause-level c =
    c.self.invariant.at_level
    ∙ (ap (λ (z : TrailView). level z.entries) c.self.view_is ∙ sym (level-forced c.args.self.now.entries c.args.lit c.args.reason.0))
