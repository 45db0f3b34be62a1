use Rattle.std.proofs.Common.{◌≤◌, ℕ, ap, ◌∙◌, sym, subst, arith, refl}
use Rattle.std.specs.Vec.{vec_capacity}
use Rattle.trail_state.specs.Trails.{TrailView}
use Rattle.trail_state.specs.Slots.{AreParts, value_of}
use Rattle.trail_state.proofs.Assigning.{none_missing, none_unassigned}
use Rattle.trail_state.proofs.Values.{none_free}
use Rattle.trail_state.proofs.trail.Trail.pick.Goals as goal

pub index-requires : goal.index-requires
index-requires c = let m = (c.self.invariant.has_free.range c.in-Some.v c.in-Some.ensures).1 in let long = c.self.inside.phases.ok.0 in omega (arith, c.self.invariant.phases_long)

pub literal-requires : goal.literal-requires
literal-requires c = let m = (c.self.invariant.has_free.range c.in-Some.v c.in-Some.ensures).1 in omega (arith, c.self.invariant.small)

pub returns-in-Some-clause-all : goal.returns-in-Some-clause-all
returns-in-Some-clause-all c =
    let t = c.self.inside in
    let parts = subst (λ (z : TrailView). AreParts z t.level (vec_capacity t.entries) t.values.items t.origins.items t.phases.items t.free.members) c.self.view_is c.self.invariant in
    let m = parts.has_free.range c.in-Some.v c.in-Some.ensures in
    let free = parts.has_free.unassigned c.in-Some.v c.in-Some.ensures in
    (λ e. absurd cc, λ all. absurd (let a = all c.in-Some.v m.0 m.1 in none_missing c.in-Some.v c.args.self.now.entries free a.0 a.1 a.2))

pub returns-in-Some-clause-free : goal.returns-in-Some-clause-free
returns-in-Some-clause-free c =
    let t = c.self.inside in
    let parts = subst (λ (z : TrailView). AreParts z t.level (vec_capacity t.entries) t.values.items t.origins.items t.phases.items t.free.members) c.self.view_is c.self.invariant in
    let m = parts.has_free.range c.in-Some.v c.in-Some.ensures in
    let free = parts.has_free.unassigned c.in-Some.v c.in-Some.ensures in
    (subst (λ (z : ℕ). (1 ≤ z) × (z ≤ c.args.self.now.vars)) (sym c.literal.ensures) m, none_unassigned c.args.self.now.entries c.literal.result (ap (λ (n : ℕ). value_of n c.args.self.now.entries) c.literal.ensures ∙ free))

pub returns-in-None-clause-all : goal.returns-in-None-clause-all
returns-in-None-clause-all c =
    let t = c.self.inside in
    let parts = subst (λ (z : TrailView). AreParts z t.level (vec_capacity t.entries) t.values.items t.origins.items t.phases.items t.free.members) c.self.view_is c.self.invariant in
    (λ e. none_free c.args.self.now t.level (vec_capacity t.entries) t.values.items t.origins.items t.phases.items t.free.members parts c.in-None.ensures, λ all. refl)
