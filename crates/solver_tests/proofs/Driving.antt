-- For tests: a trail that goes back beside a solver, and what holds of all items of a list.
use Rattle.std.proofs.Common.{◌≡◌, ℕ, zero, suc, ◌+◌, ◌<◌, ◌≤◌, List, [], ◌∷◌, take, length, get_or, refl, ap, sym, subst, arith}
use Rattle.std.specs.Prelude.{All}
use Rattle.std.proofs.lemmas.List.{take_more}
use Rattle.std.proofs.lemmas.List.Elements.{All-push}
use Rattle.dg_base.specs.declared.Lit.{Lit}
use Rattle.trail_state.specs.Trails.{Assigned, Decided, Forced, true_lits, up_to}

-- the first levels of a trail are its first literals
pub up_to_prefix : (n : ℕ) (entries : List Assigned) → take (length (up_to n entries)) (true_lits entries) ≡ true_lits (up_to n entries)
up_to_prefix n [] = refl
up_to_prefix n (Forced l id ∷ entries) = ap (λ (z : List Lit). l ∷ z) (up_to_prefix n entries)
up_to_prefix zero (Decided l ∷ entries) = refl
up_to_prefix (suc n) (Decided l ∷ entries) = ap (λ (z : List Lit). l ∷ z) (up_to_prefix n entries)

pub up_to_shorter : (n : ℕ) (entries : List Assigned) → length (up_to n entries) ≤ length entries
up_to_shorter n [] = omega arith
up_to_shorter n (Forced l id ∷ entries) = let h = up_to_shorter n entries in omega arith
up_to_shorter zero (Decided l ∷ entries) = omega arith
up_to_shorter (suc n) (Decided l ∷ entries) = let h = up_to_shorter n entries in omega arith

-- what holds of the first items of a list, and of the next one
pub all_more : {X : Type 0} (P : X → Type 0) (xs : List X) (k : ℕ) (d : X) → k < length xs → All P (take k xs) → P (get_or xs k d) → All P (take (k + 1) xs)
all_more P xs k d h before here = subst (All P) (sym (take_more xs k d h)) (All-push P (take k xs) (get_or xs k d) before here)
