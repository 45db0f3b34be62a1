use Rattle.std.proofs.Common.{[], ◌∷◌, ◌++◌, ◌+◌, take, ap, sym, ◌∙◌, add-one}
use Rattle.trail_state.specs.Trails.{true_lits}
use Rattle.unit_refuter.specs.Refuting.{RefuterView}
use Rattle.unit_refuter.proofs.Chaining.{take_next}
use Rattle.unit_refuter.proofs.refuter.Refuter.reached.Goals as goal

pub loop-i-preserved : goal.loop-i-preserved
loop-i-preserved c =
    let lits = true_lits c.self.inside.trail.entries in
    let same = ap (λ (r : RefuterView). true_lits r.trail.entries) c.self.view_is in
    let x = c.lit_at.result in
    let longer = take_next lits c.loop-i.i x c.lit_at.ensures in
    c.in_ok-push.ensures.ok
    ∙ (ap (λ z. z ++ x ∷ []) (c.loop-i.invariant ∙ ap (λ z. take c.loop-i.i z) (sym same))
    ∙ (sym longer ∙ (ap (λ n. take n lits) (sym (add-one c.loop-i.i)) ∙ ap (λ z. take (c.loop-i.i + 1) z) same)))
