use Rattle.std.proofs.Common.{map, ap, ◌∙◌}
use Rattle.c_check.specs.declared.checked.CellInfo.{CellInfo}
use Rattle.emit_steps.specs.Tables.{shared_as}
use Rattle.loop_unroll.proofs.Unrolling.{setting_there, unrolled}
use Rattle.loop_unroll.proofs.whole.unroll.Goals as goal

pub returns : goal.returns
returns c =
    unrolled c.args.checked.now c.requires c.in_ok-instances.instances c.in_ok-initials_of.field-0 _ c.in_ok-main_of.field-0
    (setting_there c.args.checked.now (map shared_as c.as_slice.result.now) c.as_slice-items.result.now (ap (map shared_as) c.as_slice.ensures ∙ c.in_ok-shared.ensures) c.as_slice-items.ensures) c.in_ok-main_of.ensures c.in_ok-instances.ensures.queue
    c.in_ok-instances.ensures.count (c.in_ok-initials_of.ensures ∙ ap (map (λ (x : CellInfo). x.initial)) c.as_slice-2.ensures)
