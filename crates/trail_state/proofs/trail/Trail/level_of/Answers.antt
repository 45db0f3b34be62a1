use Rattle.std.proofs.Common.{ℕ, get_or, ap, ◌∙◌, subst}
use Rattle.std.specs.Vec.{vec_capacity}
use Rattle.trail_state.specs.Trails.{TrailView}
use Rattle.trail_state.specs.Slots.{AreParts}
use Rattle.trail_state.proofs.Values.{origin_at}
use Rattle.trail_state.proofs.trail.Trail.level_of.Goals as goal

pub returns : goal.returns
returns c =
    let t = c.self.inside in
    let parts = subst (λ (z : TrailView). AreParts z t.level (vec_capacity t.entries) t.values.items t.origins.items t.phases.items t.free.members) c.self.view_is c.self.invariant in
    let at_var = ap (λ (n : ℕ). get_or t.origins.items n c.index.result.now) c.var.ensures in
    (origin_at c.args.self.now t.level (vec_capacity t.entries) t.values.items t.origins.items t.phases.items t.free.members parts _ c.requires c.index.result.now (c.index.ensures ∙ at_var)).0
