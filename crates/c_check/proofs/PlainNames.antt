-- Texts that lack a byte, and lists whose elements all have a property.
use Rattle.std.proofs.Common.{◌≡◌, ℕ, Bool, true, false, cond, eqb, List, [], ◌∷◌, ◌++◌}
use Rattle.std.specs.List.{AllByRecursion}
use Rattle.c_check.specs.PlainNames.{lacks}

pub lacks_append : (b : ℕ) (x y : List ℕ) → lacks b x ≡ true → lacks b y ≡ true → lacks b (x ++ y) ≡ true
lacks_append b [] y e f = f
lacks_append b (c ∷ xs) y e f = step (eqb c b) e (λ g. lacks_append b xs y g f)
  where
    step : (t : Bool) → cond t false (lacks b xs) ≡ true → (lacks b xs ≡ true → lacks b (xs ++ y) ≡ true) → cond t false (lacks b (xs ++ y)) ≡ true
    step true g more = g
    step false g more = more g

pub all_map : {A : Type 0} (P Q : A → Type 0) (xs : List A) → ((x : A) → P x → Q x) → AllByRecursion P xs → AllByRecursion Q xs
all_map P Q [] f h = tt
all_map P Q (x ∷ xs) f h = (f x h.0, all_map P Q xs f h.1)

pub all_append : {A : Type 0} (P : A → Type 0) (xs ys : List A) → AllByRecursion P xs → AllByRecursion P ys → AllByRecursion P (xs ++ ys)
all_append P [] ys h k = k
all_append P (x ∷ xs) ys h k = (h.0, all_append P xs ys h.1 k)

pub all_front : {A : Type 0} (P : A → Type 0) (xs ys : List A) → AllByRecursion P (xs ++ ys) → AllByRecursion P xs
all_front P [] ys h = tt
all_front P (x ∷ xs) ys h = (h.0, all_front P xs ys h.1)

pub all_back : {A : Type 0} (P : A → Type 0) (xs ys : List A) → AllByRecursion P (xs ++ ys) → AllByRecursion P ys
all_back P [] ys h = h
all_back P (x ∷ xs) ys h = all_back P xs ys h.1
