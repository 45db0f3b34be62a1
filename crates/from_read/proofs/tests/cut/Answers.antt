use Rattle.std.proofs.Common.{List, ℕ, take, subst}
use Rattle.std.specs.Prelude.{Contains}
use Rattle.dg_base.proofs.Lists.{contains_place, place_of}
use Rattle.from_read.proofs.Kept.{take_get}
use Rattle.from_read.proofs.tests.cut.Goals as goal

pub returns-then-mark-clause-below : goal.returns-then-mark-clause-below
returns-then-mark-clause-below c = λ b h a m.
    let old = c.args.froms.now.true_atoms in
    let p = place_of (take c.args.mark old) a (subst (λ (l : List ℕ). Contains l a) c.undo_to.ensures.atoms m) in
    h a (contains_place old p.0 a (take_get c.args.mark old p.0 a p.1).1)
