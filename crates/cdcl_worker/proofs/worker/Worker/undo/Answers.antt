use Rattle.std.proofs.Common.{◌≤◌, length, refl, sym, subst, arith}
use Rattle.cdcl_worker.specs.Outcomes.{WorkerView}
use Rattle.cdcl_worker.specs.Searching.{IsThinking}
use Rattle.cdcl_worker.proofs.Undone.{thinking_undone}
use Rattle.cdcl_worker.proofs.worker.Worker.undo.Goals as goal

pub returns-clause-thinking : goal.returns-clause-thinking
returns-clause-thinking c p part was =
    let now = subst (λ (w : WorkerView). IsThinking p w part) (sym c.self.view_is) was in
    let few : c.min-known.result ≤ length c.self.inside.order.asserted = omega arith in
    let short : c.min-known.result ≤ length c.undo_to.new.self.entries = omega arith in
    thinking_undone p _ _ part c.args.level c.min-known.result
    (record { entries = c.undo_to.ensures.entries; taken = c.undo_to.ensures.taken; vars = c.undo_to.ensures.vars })
    refl refl few short c.undo_to-2.ensures.asserted (c.undo_to-2.ensures.fits p) now
