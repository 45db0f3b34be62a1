-- A write's place in the order of its cell, as a count of atoms.
use Rattle.std.specs.Prelude.{◌≡◌, ℕ, List, Bool, false, ◌&&◌, nat_eq, Some, slice_get}
use Rattle.std.specs.List.{count_by}
use Rattle.dg_base.specs.declared.Lit.{Lit}
use Rattle.axiom_model.specs.declared.MemoryModel.{MemoryModel}
use Rattle.cnf_problem.specs.Literals.{value}
use Rattle.cnf_problem.specs.Problems.{IsConsistent}
use Rattle.cnf_problem.specs.declared.problem.AtomKind.{AtomKind}
use Rattle.cnf_problem.specs.declared.problem.AtomKind.TheVariants.{WriteOrder}
use Rattle.cnf_problem.specs.declared.problem.Atom.{Atom}
use Rattle.cnf_problem.specs.declared.problem.Problem.{Problem}
use Rattle.memory_models.specs.declared.StaticEvent.{StaticEvent}
use Rattle.encode_order.specs.Coherence.{IsOrderOfNodes, InitialsHappen, OrdersEvents}

-- whether the atom puts some write before v
abbrev pub is_order_into : ℕ → AtomKind → Bool
is_order_into v (WriteOrder w u) = nat_eq u v
is_order_into v _ = false

-- whether it does so under the assignment
abbrev pub puts_before : List Bool → ℕ → Atom → Bool
puts_before s v a = is_order_into v a.kind && value s a.lit

-- a write stands at the place that counts the true atoms which put a write before it
abbrev pub PlacesAreCounts : Type 0
PlacesAreCounts =
    (m : MemoryModel) (es : List StaticEvent) (words : List (List Lit)) (p : Problem) (s : List Bool) → OrdersEvents m es words p → IsConsistent p s → InitialsHappen es s
    → (c i v : ℕ) (nodes : List ℕ) → IsOrderOfNodes es p.atoms s c nodes → slice_get nodes i ≡ Some v → count_by (puts_before s v) p.atoms ≡ i
