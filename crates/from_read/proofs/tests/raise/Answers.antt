use Rattle.std.proofs.Common.{List, [], ◌∷◌, ℕ, inl, inr, subst, arith}
use Rattle.std.specs.Prelude.{Contains}
use Rattle.dg_base.proofs.Lists.{contains_nothing, contains_cases}
use Rattle.cycle_detect.proofs.Counting.{contains_either}
use Rattle.from_read.proofs.tests.raise.Goals as goal

pub on_true-requires-clause-free : goal.on_true-requires-clause-free
on_true-requires-clause-free c = λ m. (let below = c.requires.below c.args.atom m in omega (arith, below))

pub returns-clause-below : goal.returns-clause-below
returns-clause-below c = λ a m.
    elim (contains_either c.args.froms.now.true_atoms (c.args.atom ∷ []) a (subst (λ (l : List ℕ). Contains l a) c.on_true.ensures.atoms m)) [
      | inl old ↦ omega (arith, c.requires.below a old)
      | inr new ↦ elim (contains_cases c.args.atom a [] new) [ inl e ↦ omega (arith, e) | inr n ↦ absurd (contains_nothing a n) ]
    ]
