-- Uses of macros, one after another.
use Rattle.std.proofs.Common.{◌≡◌, ℕ, ◌+◌, ◌<◌, ◌≤◌, List, [], ◌∷◌, ◌++◌, length, take, flat_map, get_or, sym, ap, ◌∙◌, arith, append-nil}
use Rattle.std.proofs.lemmas.List.{take_more}
use Rattle.std.proofs.lemmas.List.Folds.{length-flat_map-take}
use Rattle.std.proofs.lemmas.Grind.{flat_map-append}
use Rattle.c_token.specs.Bytes.{capped}

-- counts that are capped add up
pub capped_sum : (a b : ℕ) → capped (capped a + capped b) ≡ capped (a + b)
capped_sum a b = omega arith

-- one more item
pub flat_map_next : {X A : Type 0} (f : X → List A) (xs : List X) (i : ℕ) (d : X) → i < length xs → flat_map f (take (i + 1) xs) ≡ flat_map f (take i xs) ++ f (get_or xs i d)
flat_map_next f xs i d h = ap (flat_map f) (take_more xs i d h) ∙ (flat_map-append f (take i xs) (get_or xs i d ∷ []) ∙ ap (λ l. flat_map f (take i xs) ++ l) (append-nil _))

-- one part is no longer than all
pub part_short : {X A : Type 0} (f : X → List A) (xs : List X) (i : ℕ) (d : X) (n : ℕ) → i < length xs → length (flat_map f xs) ≤ n → length (f (get_or xs i d)) ≤ n
part_short f xs i d n h short = omega (arith, length-flat_map-take f xs i d h)

-- what is gathered with one more part
pub gathered_next : {X A : Type 0} (f : X → List A) (xs : List X) (i : ℕ) (d : X) (old new : List A) → i < length xs → old ≡ flat_map f (take i xs) → new ≡ old ++ f (get_or xs i d)
    → new ≡ flat_map f (take (i + 1) xs)
gathered_next f xs i d old new h e k = k ∙ (ap (λ l. l ++ f (get_or xs i d)) e ∙ sym (flat_map_next f xs i d h))
