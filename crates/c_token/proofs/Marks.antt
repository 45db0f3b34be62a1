-- Words at the front of a text.
use Rattle.std.proofs.Common.{◌≡◌, ℕ, ◌+◌, ◌<◌, cond, List, length, drop, map, get_or, nat_eq, Some, refl, drop-cons, add-one}
use Rattle.std.specs.List.{starts_with}
use Rattle.c_token.specs.Bytes.{first_front}

-- the search from the i-th word on looks at that word, and then at those behind it
pub first_front_from : {A : Type 0} (f : A → List ℕ) (xs : List A) (text : List ℕ) (i : ℕ) (d : A) → i < length xs
    → first_front (map f (drop i xs)) text ≡ cond (starts_with nat_eq text (f (get_or xs i d))) (Some (length (f (get_or xs i d)))) (first_front (map f (drop (i + 1) xs)) text)
first_front_from f xs text i d h = rw (add-one, drop-cons xs i d) refl
