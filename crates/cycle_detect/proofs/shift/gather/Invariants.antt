use Rattle.std.proofs.Common.{◌≡◌, ◌+◌, not, length, take, vec_capacity}
use Rattle.std.specs.Prelude.{filter}
use Rattle.std.proofs.lemmas.List.Filters.{FiltersInPlace}
use Rattle.cycle_detect.specs.Parts.{is_seen}
use Rattle.cycle_detect.proofs.shift.gather.Given as goal

abbrev pub invariant-loop-read : goal.invariant-loop-read
invariant-loop-read g l = record {
  moves : FiltersInPlace (is_seen l.seen) l.fn.nodes l.nodes l.write l.read;
  others : l.aside.items ≡ filter (λ n. not (is_seen l.seen n)) (take l.read l.fn.nodes);
  count : l.write + length l.aside.items ≡ l.read;
  room : vec_capacity l.aside ≡ vec_capacity l.fn.aside;
  ticks : l.steps ≡ l.fn.steps + l.read;
}
