use Rattle.std.proofs.Common.{◌≡◌, ℕ, ◌<◌, length, take, get_or}
use Rattle.std.specs.List.{count_by}
use Rattle.encode_order.specs.Counts.{puts_before}
use Rattle.decode.proofs.tables.ranks.Given as goal

abbrev pub invariant-loop-atom : goal.invariant-loop-atom
invariant-loop-atom l = record {
  counted : length l.ranks ≡ l.count;
  each : (v : ℕ) → v < l.count → get_or l.ranks v 0 ≡ count_by (puts_before l.truths v) (take l.atom-index l.atoms);
}
