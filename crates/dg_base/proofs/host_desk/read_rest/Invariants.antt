-- What was read so far is what the reader gave.
use Rattle.std.specs.Prelude.{◌+◌, ◌-◌, length}
use Rattle.std.specs.Io.KnownBytes.{Consumes}
use Rattle.dg_base.specs.declared.outside.TheConstants.{LONGEST_FILE}
use Rattle.dg_base.proofs.host_desk.read_rest.Given as goal

abbrev pub invariant-loop-chunk : goal.invariant-loop-chunk
invariant-loop-chunk g l = Consumes (g.F.Read.remaining l.fn.reader) (g.F.Read.remaining l.reader) l.into.items

abbrev pub decreases-loop-chunk : goal.decreases-loop-chunk
decreases-loop-chunk g l = LONGEST_FILE + 1 - length l.into.items
