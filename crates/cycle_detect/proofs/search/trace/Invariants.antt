use Rattle.std.proofs.Common.{◌≡◌, ◌+◌, ◌<◌, length, vec_capacity}
use Rattle.cycle_detect.specs.Parts.{IsTrace}
use Rattle.cycle_detect.proofs.search.trace.Given as goal

abbrev pub invariant-loop-at : goal.invariant-loop-at
invariant-loop-at g l = record {
  way : IsTrace l.visits l.start l.at l.nodes.items;
  within : l.at < length l.visits;
  room : vec_capacity l.nodes ≡ vec_capacity l.fn.nodes;
  ticks : l.steps ≡ l.fn.steps + length l.nodes.items;
}

abbrev pub decreases-loop-at : goal.decreases-loop-at
decreases-loop-at g l = l.at
