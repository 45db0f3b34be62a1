use Rattle.std.proofs.Common.{◌≡◌, ◌≢◌, ◌⊎◌, ℕ, ◌≤◌, Some}
use Rattle.std.specs.Prelude.{slice_get}
use Rattle.cycle_detect.proofs.Visiting.{after}
use Rattle.cycle_detect.proofs.edges.Edges.find.Given as goal

abbrev pub invariant-loop-next : goal.invariant-loop-next
invariant-loop-next l = record {
  link : (k : ℕ) → l.next ≡ Some k → (x : ℕ) × (slice_get l.self.list k ≡ Some (x, l.to));
  left : (j x : ℕ) → slice_get l.self.list j ≡ Some (x, l.to) → (x ≢ l.from) ⊎ ((k : ℕ) × (l.next ≡ Some k) × (j ≤ k));
}

abbrev pub decreases-loop-next : goal.decreases-loop-next
decreases-loop-next l = after l.next
