use Rattle.std.proofs.Common.{◌∙◌, ◌++◌, ◌∷◌, [], ap}
use Rattle.c_check.specs.declared.checked.CellInfo.{CellInfo}
use Rattle.c_check.specs.Checked.{first_values}
use Rattle.c_check.proofs.Cells.{next_cell, same_info}
use Rattle.c_check.proofs.names_and_cells.push_array.Goals as goal

pub loop-cell-preserved : goal.loop-cell-preserved
loop-cell-preserved c =
    next_cell c.loop-cell.cells c.push.new.self c.args.count c.loop-cell.cell c.args.name.now (first_values c.args.start.now) _ c.loop-cell-test.true
    (c.in_ok-push.ensures.ok ∙ ap (λ (x : CellInfo). c.loop-cell.cells ++ x ∷ []) (same_info _ _ _ _ c.in_ok-indexed.ensures c.value_at.ensures)) c.loop-cell.invariant
