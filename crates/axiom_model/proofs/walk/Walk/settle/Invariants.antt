use Rattle.std.proofs.Common.{◌≡◌, Some}
use Rattle.std.specs.Prelude.{slice_get}
use Rattle.axiom_model.specs.declared.walk.Mark.TheVariants.{New}
use Rattle.axiom_model.specs.Walking.{IsWalk, Onward, work}
use Rattle.axiom_model.proofs.walk.Walk.settle.Given as goal

abbrev pub invariant-loop-node : goal.invariant-loop-node
invariant-loop-node l = record {
  walk : IsWalk l.edges l.self;
  onward : Onward l.fn.self l.self;
  met : slice_get l.self.marks l.root ≡ Some New → ⊥;
}

abbrev pub decreases-loop-node : goal.decreases-loop-node
decreases-loop-node l = work l.self
