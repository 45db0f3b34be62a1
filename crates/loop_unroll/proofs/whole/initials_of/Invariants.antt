use Rattle.std.proofs.Common.{◌≡◌, ◌++◌, drop, map}
use Rattle.c_check.specs.declared.checked.CellInfo.{CellInfo}
use Rattle.loop_unroll.proofs.whole.initials_of.Given as goal

abbrev pub invariant-loop-cell : goal.invariant-loop-cell
invariant-loop-cell l = l.initials ++ map (λ (c : CellInfo). c.initial) (drop l.cell-index l.cells) ≡ map (λ (c : CellInfo). c.initial) l.cells
