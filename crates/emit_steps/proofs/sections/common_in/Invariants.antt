use Rattle.std.proofs.Common.{◌≡◌, ◌++◌, drop}
use Rattle.emit_steps.specs.Pieces.{common_in}
use Rattle.emit_steps.proofs.sections.common_in.Given as goal

abbrev pub invariant-loop-cell : goal.invariant-loop-cell
invariant-loop-cell l = l.common ++ common_in (drop l.cell-index l.cells) ≡ common_in l.cells
