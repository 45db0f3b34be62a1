use Rattle.std.proofs.Common.{◌≡◌, ◌-◌, ℕ, None, Some, List, [], ◌∷◌, ◌++◌, map, sym, ap, ◌∙◌, subst, arith}
use Rattle.std.specs.Vec.{vec_capacity}
use Rattle.std.proofs.lemmas.List.{map-append}
use Rattle.dg_base.specs.declared.Lit.{Lit}
use Rattle.cnf_problem.specs.Literals.{var, is_positive}
use Rattle.trail_state.specs.Entries.{meaning}
use Rattle.trail_state.specs.Heaps.{IsWithout}
use Rattle.trail_state.specs.Trails.{Assigned, lit_of}
use Rattle.trail_state.specs.Slots.{AreParts, value_of}
use Rattle.trail_state.proofs.Cuts.{level-append}
use Rattle.trail_state.proofs.Kept.{parts_pop, last_over, last_free, value_of-push_same}
use Rattle.trail_state.proofs.Values.{entries_long}
use Rattle.trail_state.proofs.trail.Trail.undo_last.Goals as goal

pub overflow_sub-self : goal.overflow_sub-self
overflow_sub-self c =
    let t = c.self.inside in
    let whole : map meaning t.entries.items ≡ map meaning c.pop.new.self.items ++ meaning c.in-Some.entry ∷ [] = ap (λ z. map meaning z) c.in-Some.ensures.items ∙ map-append meaning c.pop.new.self.items (c.in-Some.entry ∷ []) in
    let parts = subst (λ (z : List Assigned). AreParts (record { vars = t.free.vars; entries = z; taken = t.taken }) t.level (vec_capacity t.entries) t.values.items t.origins.items t.phases.items t.free.members) whole c.self.invariant in
    omega (arith, parts.at_level, level-append (map meaning c.pop.new.self.items) (meaning c.in-Some.entry ∷ []), c.rise.ensures)

pub insert-requires-clause-low : goal.insert-requires-clause-low
insert-requires-clause-low c =
    let t = c.self.inside in
    let whole : map meaning t.entries.items ≡ map meaning c.pop.new.self.items ++ meaning c.in-Some.entry ∷ [] = ap (λ z. map meaning z) c.in-Some.ensures.items ∙ map-append meaning c.pop.new.self.items (c.in-Some.entry ∷ []) in
    let parts = subst (λ (z : List Assigned). AreParts (record { vars = t.free.vars; entries = z; taken = t.taken }) t.level (vec_capacity t.entries) t.values.items t.origins.items t.phases.items t.free.members) whole c.self.invariant in
    let var_is : c.var-v.result ≡ var (lit_of (meaning c.in-Some.entry)) = c.var-v.ensures ∙ ap (λ (l : Lit). var l) c.lit-lit.ensures in
    let over = last_over t.free.vars t.taken (map meaning c.pop.new.self.items) (meaning c.in-Some.entry) parts.well in
    rw var_is over.0

pub insert-requires-clause-high : goal.insert-requires-clause-high
insert-requires-clause-high c =
    let t = c.self.inside in
    let whole : map meaning t.entries.items ≡ map meaning c.pop.new.self.items ++ meaning c.in-Some.entry ∷ [] = ap (λ z. map meaning z) c.in-Some.ensures.items ∙ map-append meaning c.pop.new.self.items (c.in-Some.entry ∷ []) in
    let parts = subst (λ (z : List Assigned). AreParts (record { vars = t.free.vars; entries = z; taken = t.taken }) t.level (vec_capacity t.entries) t.values.items t.origins.items t.phases.items t.free.members) whole c.self.invariant in
    let var_is : c.var-v.result ≡ var (lit_of (meaning c.in-Some.entry)) = c.var-v.ensures ∙ ap (λ (l : Lit). var l) c.lit-lit.ensures in
    let over = last_over t.free.vars t.taken (map meaning c.pop.new.self.items) (meaning c.in-Some.entry) parts.well in
    rw var_is over.1

pub insert-requires-clause-free : goal.insert-requires-clause-free
insert-requires-clause-free c =
    let t = c.self.inside in
    let whole : map meaning t.entries.items ≡ map meaning c.pop.new.self.items ++ meaning c.in-Some.entry ∷ [] = ap (λ z. map meaning z) c.in-Some.ensures.items ∙ map-append meaning c.pop.new.self.items (c.in-Some.entry ∷ []) in
    let parts = subst (λ (z : List Assigned). AreParts (record { vars = t.free.vars; entries = z; taken = t.taken }) t.level (vec_capacity t.entries) t.values.items t.origins.items t.phases.items t.free.members) whole c.self.invariant in
    let var_is : c.var-v.result ≡ var (lit_of (meaning c.in-Some.entry)) = c.var-v.ensures ∙ ap (λ (l : Lit). var l) c.lit-lit.ensures in
    λ m.
    let free = parts.has_free.unassigned c.var-v.result m in
    let some = value_of-push_same (map meaning c.pop.new.self.items) (meaning c.in-Some.entry) (last_free t.free.vars t.taken (map meaning c.pop.new.self.items) (meaning c.in-Some.entry) parts.well) in
    let bad : None ≡ Some (is_positive (lit_of (meaning c.in-Some.entry))) = sym free ∙ (ap (λ (v : ℕ). value_of v (map meaning c.pop.new.self.items ++ meaning c.in-Some.entry ∷ [])) var_is ∙ some) in
    cc

pub invariant_of-self : goal.invariant_of-self
invariant_of-self c =
    let t = c.self.inside in
    let whole : map meaning t.entries.items ≡ map meaning c.pop.new.self.items ++ meaning c.in-Some.entry ∷ [] = ap (λ z. map meaning z) c.in-Some.ensures.items ∙ map-append meaning c.pop.new.self.items (c.in-Some.entry ∷ []) in
    let parts = subst (λ (z : List Assigned). AreParts (record { vars = t.free.vars; entries = z; taken = t.taken }) t.level (vec_capacity t.entries) t.values.items t.origins.items t.phases.items t.free.members) whole c.self.invariant in
    let var_is : c.var-v.result ≡ var (lit_of (meaning c.in-Some.entry)) = c.var-v.ensures ∙ ap (λ (l : Lit). var l) c.lit-lit.ensures in
    let without = subst (λ (v : ℕ). IsWithout v c.insert.new.self.members t.free.members) var_is c.insert.ensures.members in
    let up = level-append (map meaning c.pop.new.self.items) (meaning c.in-Some.entry ∷ []) in
    let long = c.pop.new.self.ok.0 in
    let count = entries_long c.pop.new.self.items in
    rw (c.insert.ensures.vars, var_is)
    (parts_pop t.free.vars t.taken t.level (vec_capacity t.entries) (map meaning c.pop.new.self.items) (meaning c.in-Some.entry) t.values.items t.origins.items t.phases.items t.free.members parts (t.level - c.rise.result) (vec_capacity c.pop.new.self) c.min-self-inside.result c.insert.new.self.members c.is_positive.result (omega (arith, up, parts.at_level, c.rise.ensures)) (sym c.pop.ensures.capacity) (omega (arith, c.min-self-inside.ensures, c.len.ensures, count)) without)
