use Rattle.std.proofs.Common.{length}
use Rattle.c_check.specs.PlainNames.{cell_names}
use Rattle.line_text.proofs.Reading.{Reached}
use Rattle.witness_text.proofs.Reader.{reader}
use Rattle.witness_text.proofs.reading.read_witness.Given as goal

abbrev pub invariant-loop-line : goal.invariant-loop-line
invariant-loop-line l = Reached (reader l.checked.functions (cell_names l.checked.cells)) l.text l.rest l.reading l.number

abbrev pub decreases-loop-line : goal.decreases-loop-line
decreases-loop-line l = length l.rest
