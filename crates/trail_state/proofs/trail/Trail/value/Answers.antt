use Rattle.std.proofs.Common.{◌≡◌, ℕ, get_or, None, ap, sym, ◌∙◌, subst, arith}
use Rattle.std.proofs.lemmas.List.{get_or_read}
use Rattle.std.specs.Vec.{vec_capacity}
use Rattle.trail_state.specs.Trails.{TrailView}
use Rattle.trail_state.specs.Slots.{AreParts}
use Rattle.trail_state.proofs.Values.{has_value}
use Rattle.trail_state.proofs.trail.Trail.value.Goals as goal

pub returns : goal.returns
returns c =
    let t = c.self.inside in
    let parts = subst (λ (z : TrailView). AreParts z t.level (vec_capacity t.entries) t.values.items t.origins.items t.phases.items t.free.members) c.self.view_is c.self.invariant in
    let read : c.index.result.now ≡ get_or t.values.items c.var.result None = get_or_read t.values.items c.var.result c.index.result.now (omega (arith, parts.has_values.long, c.requires.1, c.var.ensures)) c.index.ensures None in
    let value = ap (λ (n : ℕ). get_or t.values.items n None) c.var.ensures ∙ parts.has_values.each _ c.requires.1 in
    rw c.value_by.ensures (has_value c.args.self.now parts.well c.args.lit c.index.result.now (sym (read ∙ value)))
