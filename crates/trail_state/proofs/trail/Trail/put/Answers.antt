use Rattle.std.proofs.Common.{◌≡◌, ℕ, [], ◌∷◌, ◌++◌, map, sym, ap, ◌∙◌, subst, refl}
use Rattle.std.specs.Prelude.{Contains}
use Rattle.std.specs.Vec.{vec_capacity}
use Rattle.std.proofs.lemmas.List.{map-append}
use Rattle.dg_base.specs.declared.Lit.{Lit}
use Rattle.cnf_problem.specs.Literals.{var, is_positive, IsOver}
use Rattle.cnf_problem.specs.Chains.{IsUnassigned}
use Rattle.trail_state.specs.Heaps.{IsWithout}
use Rattle.trail_state.specs.Entries.{meaning}
use Rattle.trail_state.specs.Trails.{TrailView, lit_of, true_lits, level}
use Rattle.trail_state.proofs.Assigning.{unassigned_none}
use Rattle.trail_state.proofs.Kept.{parts_push}
use Rattle.trail_state.proofs.trail.Trail.put.Goals as goal

over : (c : goal.After-remove-arg-1) → IsOver c.self.inside.free.vars (lit_of (meaning c.args.entry))
over c = subst (λ (t : TrailView). IsOver t.vars (lit_of (meaning c.args.entry))) (sym c.self.view_is) c.requires.over

free : (c : goal.After-remove-arg-1) → IsUnassigned (true_lits (map meaning c.self.inside.entries.items)) (lit_of (meaning c.args.entry))
free c = subst (λ (t : TrailView). IsUnassigned (true_lits t.entries) (lit_of (meaning c.args.entry))) (sym c.self.view_is) c.requires.free

var_is : (c : goal.After-remove-arg-1) → c.var-v.result ≡ var (lit_of (meaning c.args.entry))
var_is c = c.var-v.ensures ∙ ap (λ (l : Lit). var l) c.lit-lit.ensures

pub remove-requires : goal.remove-requires
remove-requires c =
    let m = c.self.invariant.has_free.all (var (lit_of (meaning c.args.entry))) (over c).0 (over c).1 (unassigned_none (map meaning c.self.inside.entries.items) (lit_of (meaning c.args.entry)) (free c)) in
    subst (λ (v : ℕ). Contains c.self.inside.free.members v) (sym (var_is c)) m

pub invariant_of-self : goal.invariant_of-self
invariant_of-self c =
    let t = c.self.inside in
    let a = meaning c.args.entry in
    let over : IsOver t.free.vars (lit_of (meaning c.args.entry)) = subst (λ (z : TrailView). IsOver z.vars (lit_of (meaning c.args.entry))) (sym c.self.view_is) c.requires.over in
    let free : IsUnassigned (true_lits (map meaning t.entries.items)) (lit_of (meaning c.args.entry)) = subst (λ (z : TrailView). IsUnassigned (true_lits z.entries) (lit_of (meaning c.args.entry))) (sym c.self.view_is) c.requires.free in
    let var_is : c.var-v.result ≡ var (lit_of (meaning c.args.entry)) = c.var-v.ensures ∙ ap (λ (l : Lit). var l) c.lit-lit.ensures in
    let level_is : c.args.at ≡ level (map meaning t.entries.items ++ meaning c.args.entry ∷ []) = c.requires.level ∙ ap (λ (z : TrailView). level (z.entries ++ meaning c.args.entry ∷ [])) (sym c.self.view_is) in
    let without = subst (λ (v : ℕ). IsWithout v t.free.members c.remove.new.self.members) var_is c.remove.ensures.members in
    let sign = c.is_positive.ensures ∙ ap (λ (l : Lit). is_positive l) c.lit-lit.ensures in
    rw (c.remove.ensures.vars, c.push_reserved.ensures.items, map-append meaning t.entries.items (c.args.entry ∷ []), var_is)
    (parts_push t.free.vars t.taken t.level (vec_capacity t.entries) (map meaning t.entries.items) t.values.items t.origins.items t.phases.items t.free.members c.self.invariant (meaning c.args.entry) over free c.args.at (vec_capacity c.push_reserved.new.self) c.remove.new.self.members c.is_positive.result (record { level = c.args.at; reason = c.reason.result }) level_is (sym c.push_reserved.ensures.capacity) without sign refl c.reason.ensures)
