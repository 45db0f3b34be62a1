use Rattle.std.proofs.Common.{◌≡◌, ◌≢◌, ℕ, ◌+◌, ◌<◌, ◌≤◌, false, slice_index}
use Rattle.cycle_detect.specs.Parts.{is_seen}
use Rattle.cycle_detect.proofs.shift.renumber.Given as goal

abbrev pub invariant-loop-place : goal.invariant-loop-place
invariant-loop-place g l = record {
  inside : (k : ℕ) → l.low ≤ k → k < l.place → (slice_index l.places (slice_index l.order k) ≡ k) × (is_seen l.seen (slice_index l.order k) ≡ false);
  outside : (n : ℕ) → ((k : ℕ) → l.low ≤ k → k < l.place → slice_index l.order k ≢ n) → (slice_index l.places n ≡ slice_index l.fn.places n) × (is_seen l.seen n ≡ is_seen l.fn.seen n);
  ticks : l.steps + l.low ≡ l.fn.steps + l.place;
}
