use Rattle.std.proofs.Common.{◌≡◌, drop, length}
use Rattle.c_check.specs.Searching.{mark_all}
use Rattle.c_check.proofs.reachability.Search.mark_all.Given as goal

abbrev pub invariant-loop-number : goal.invariant-loop-number
invariant-loop-number l = record {
  marked : mark_all l.self (drop l.number-index l.numbers) ≡ mark_all l.fn.self l.numbers;
  size : length l.self.marks ≡ length l.fn.self.marks;
}
