use Rattle.std.proofs.Common.{map}
use Rattle.std.specs.Vec.{vec_capacity}
use Rattle.trail_state.specs.Entries.{meaning}
use Rattle.trail_state.proofs.Kept.{parts_reordered}
use Rattle.trail_state.proofs.trail.Trail.bump.Goals as goal

pub invariant_of-self : goal.invariant_of-self
invariant_of-self c =
    let t = c.self.inside in
    rw c.bump.ensures.vars
    (parts_reordered (record { vars = t.free.vars; entries = map meaning t.entries.items; taken = t.taken }) t.level (vec_capacity t.entries) t.values.items t.origins.items t.phases.items t.free.members c.bump.new.self.members c.self.invariant c.bump.ensures.members)
