use Rattle.std.proofs.Common.{◌≤◌, ap, length, sym, ◌∙◌, arith}
use Rattle.std.specs.Prelude.{unwrap_or}
use Rattle.consistency.proofs.Placing.{open_at-le, unwrapped-le}
use Rattle.consistency.proofs.numbering.thread_nodes.Goals as goal

pub overflow_add-first : goal.overflow_add-first
overflow_add-first c =
    let le : unwrap_or c.open_at-section.result c.loop-action.index ≤ c.loop-action.index = unwrapped-le c.open_at-section.result c.loop-action.index (λ o e. open_at-le c.loop-action.before c.loop-action.index _ c.loop-action.invariant.opened o (sym c.open_at-section.ensures ∙ e)) in
    omega (arith, ap length c.as_slice-action-items.ensures)
