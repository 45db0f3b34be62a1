use Rattle.std.proofs.Common.{◌≡◌, ℕ, length, Some}
use Rattle.std.specs.Prelude.{slice_get}
use Rattle.axiom_model.specs.Walking.{AreLinks, IsLast}
use Rattle.axiom_model.proofs.walk.link.Given as goal

abbrev pub invariant-loop-place : goal.invariant-loop-place
invariant-loop-place l = record {
  earlier_len : length l.earlier ≡ l.place;
  left_len : length l.left ≡ l.nodes;
  links : AreLinks l.edges l.earlier;
  left : (v p : ℕ) → slice_get l.left v ≡ Some p → IsLast l.edges v l.place p;
}
