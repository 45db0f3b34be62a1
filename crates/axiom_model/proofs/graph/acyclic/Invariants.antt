use Rattle.std.proofs.Common.{◌≡◌, ℕ, ◌<◌, [], length, Some}
use Rattle.std.specs.Prelude.{slice_get}
use Rattle.axiom_model.specs.declared.walk.Mark.TheVariants.{New}
use Rattle.axiom_model.specs.Walking.{IsWalk}
use Rattle.axiom_model.proofs.graph.acyclic.Given as goal

abbrev pub invariant-loop-root : goal.invariant-loop-root
invariant-loop-root l = record {
  walk : IsWalk l.edges l.walk;
  marks : length l.walk.marks ≡ l.nodes;
  path : l.walk.path ≡ [];
  met : (v : ℕ) → v < l.root → slice_get l.walk.marks v ≡ Some New → ⊥;
}
