use Rattle.std.proofs.Common.{◌≡◌, ◌++◌, map, drop}
use Rattle.encode_match.specs.Spelling.{reads_from}
use Rattle.decode.specs.Relations.{pair_of}
use Rattle.decode.proofs.relations.pairs.Given as goal

abbrev pub invariant-loop-node : goal.invariant-loop-node
invariant-loop-node l = l.pairs ++ map (pair_of l.places l.sources) (reads_from l.truths l.node (drop l.node l.events)) ≡ map (pair_of l.places l.sources) (reads_from l.truths 0 l.events)
