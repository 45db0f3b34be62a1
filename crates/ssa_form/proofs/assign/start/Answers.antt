use Rattle.std.proofs.Common.{refl, ap, ◌∙◌, ◌++◌, ◌∷◌, []}
use Rattle.ssa_form.proofs.Parting.{started}
use Rattle.ssa_form.proofs.assign.start.Goals as goal

pub returns-clause-walk : goal.returns-clause-walk
returns-clause-walk c =
    started _ c.constant.new.self c.in_ok-zero.ensures.constant c.in_ok-zero.ensures.value c.in_ok-one.ensures.grows c.in_ok-one.ensures.constant c.in_ok-one.ensures.value
    (c.in_ok-push.ensures.ok ∙ ap (λ l. l ++ record { start = c.in_ok-one.one; handle = c.in_ok-zero.zero; arg = c.in_ok-zero.zero } ∷ []) c.new-created.ensures) c.new-2.ensures refl refl c.new-3.ensures
