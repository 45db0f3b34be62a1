use Rattle.std.proofs.Common.{take}
use Rattle.decode.specs.Tables.{AreSources}
use Rattle.decode.proofs.tables.sources.Given as goal

abbrev pub invariant-loop-atom : goal.invariant-loop-atom
invariant-loop-atom l = AreSources l.truths (take l.atom-index l.atoms) l.count l.sources
