use Rattle.std.proofs.Common.{◌≡◌, length, sum_by}
use Rattle.lemma_log.specs.Merging.{ArePlaced}
use Rattle.lemma_log.proofs.merging.spots_of.Given as goal

abbrev pub invariant-loop-log : goal.invariant-loop-log
invariant-loop-log l = record { long : length l.spots.items ≡ sum_by length l.logs; placed : ArePlaced l.logs l.log 0 l.spots.items }

abbrev pub invariant-loop-at : goal.invariant-loop-at
invariant-loop-at l = record { long : length l.spots.items ≡ sum_by length l.logs; placed : ArePlaced l.logs l.log l.at l.spots.items }
