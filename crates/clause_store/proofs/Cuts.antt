-- The trail cut at a level, where more is added.
use Rattle.std.proofs.Common.{ℕ, zero, suc, inl, inr, List, [], ◌∷◌, ◌++◌, sym, subst}
use Rattle.std.specs.Prelude.{Contains}
use Rattle.dg_base.proofs.Lists.{contains_head, contains_tail, contains_nothing, contains_cases}
use Rattle.dg_base.specs.declared.Lit.{Lit}
use Rattle.trail_state.specs.Trails.{Assigned, Decided, Forced, true_lits, up_to}

-- what a cut has it keeps when more is added
pub kept-up_to : (n : ℕ) (entries more : List Assigned) (l : Lit) → Contains (true_lits (up_to n entries)) l → Contains (true_lits (up_to n (entries ++ more))) l
kept-up_to n [] more l c = absurd (contains_nothing l c)
kept-up_to n (Forced m id ∷ entries) more l c =
    elim (contains_cases m l (true_lits (up_to n entries)) c) [
      | inl e ↦ subst (λ z. Contains (m ∷ true_lits (up_to n (entries ++ more))) z) (sym e) (contains_head m (true_lits (up_to n (entries ++ more))))
      | inr r ↦ contains_tail m l (true_lits (up_to n (entries ++ more))) (kept-up_to n entries more l r)
    ]
kept-up_to zero (Decided m ∷ entries) more l c = absurd (contains_nothing l c)
kept-up_to (suc n) (Decided m ∷ entries) more l c =
    elim (contains_cases m l (true_lits (up_to n entries)) c) [
      | inl e ↦ subst (λ z. Contains (m ∷ true_lits (up_to n (entries ++ more))) z) (sym e) (contains_head m (true_lits (up_to n (entries ++ more))))
      | inr r ↦ contains_tail m l (true_lits (up_to n (entries ++ more))) (kept-up_to n entries more l r)
    ]
