-- Optional values that are there, or are not.
use Rattle.std.proofs.Common.{◌≡◌, Option, Some, None, refl}

pub none_else : {A : Type 0} (o : Option A) → ((a : A) → o ≡ Some a → ⊥) → o ≡ None
none_else None n = refl
none_else (Some a) n = absurd (n a refl)

pub some_else : {A : Type 0} (o : Option A) → (o ≡ None → ⊥) → (a : A) × (o ≡ Some a)
some_else None n = absurd (n refl)
some_else (Some a) n = (a, refl)
