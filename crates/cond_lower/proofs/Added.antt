-- What is added to a list one by one.
use Rattle.std.proofs.Common.{◌≡◌, List, [], ◌∷◌, ◌++◌, append_assoc}

pub two : {A : Type 0} (xs : List A) (a b : A) (ys : List A) → xs ++ a ∷ [] ++ b ∷ [] ++ ys ≡ xs ++ (a ∷ b ∷ ys)
two xs a b ys = simp append_assoc
