-- The words of an entry one by one.
use Rattle.std.proofs.Common.{◌≡◌, ℕ, zero, suc, ◌+◌, ◌*◌, ◌/◌, List, [], ◌∷◌, ◌++◌, length, take, ap, sym, ◌∙◌, subst, arith, Some, slice_get}
use Rattle.std.proofs.lemmas.Option.{same_Some}
use Rattle.dg_base.proofs.Lists.{get_nothing}
use Rattle.dg_base.specs.declared.Lit.{Lit}
use Rattle.clause_exchange.specs.Spelling.{spelled_lits}

pub pair_there : (lits : List Lit) (i : ℕ) (a b : Lit) → slice_get lits (2 * i) ≡ Some a → slice_get lits (2 * i + 1) ≡ Some b → slice_get (spelled_lits lits) i ≡ Some (a.0 + 4294967296 * b.0)
pair_there [] i a b h g = absurd (get_nothing (2 * i) a h)
pair_there (x ∷ []) zero a b h g = absurd (get_nothing 0 b g)
pair_there (x ∷ []) (suc i) a b h g = absurd (get_nothing (2 * i + 1) a (subst (λ n. slice_get (x ∷ []) n ≡ Some a) (twice i) h))
  where
    twice : (i : ℕ) → 2 * suc i ≡ suc (2 * i + 1)
    twice i = omega arith
pair_there (x ∷ y ∷ rest) zero a b h g = let e = same_Some x a h in let f = same_Some y b g in ap Some (ap (λ (z : Lit). z.0 + 4294967296 * y.0) e ∙ ap (λ (z : Lit). a.0 + 4294967296 * z.0) f)
pair_there (x ∷ y ∷ rest) (suc i) a b h g = pair_there rest i a b (subst (λ n. slice_get (x ∷ y ∷ rest) n ≡ Some a) (twice i) h) (subst (λ n. slice_get (x ∷ y ∷ rest) n ≡ Some b) (once i) g)
  where
    twice : (i : ℕ) → 2 * suc i ≡ suc (suc (2 * i))
    twice i = omega arith

    once : (i : ℕ) → 2 * suc i + 1 ≡ suc (suc (2 * i + 1))
    once i = omega arith

pub last_there : (lits : List Lit) (i : ℕ) (a : Lit) → slice_get lits (2 * i) ≡ Some a → length lits ≡ 2 * i + 1 → slice_get (spelled_lits lits) i ≡ Some a.0
last_there [] i a h e = absurd (get_nothing (2 * i) a h)
last_there (x ∷ []) zero a h e = ap Some (ap (λ (z : Lit). z.0) (same_Some x a h))
last_there (x ∷ []) (suc i) a h e = absurd (omega arith)
last_there (x ∷ y ∷ rest) zero a h e = absurd (omega arith)
last_there (x ∷ y ∷ rest) (suc i) a h e = last_there rest i a (subst (λ n. slice_get (x ∷ y ∷ rest) n ≡ Some a) (twice i) h) (omega arith)
  where
    twice : (i : ℕ) → 2 * suc i ≡ suc (suc (2 * i))
    twice i = omega arith

pub lits_size : (lits : List Lit) → length (spelled_lits lits) ≡ (length lits + 1) / 2
lits_size [] = omega arith
lits_size (x ∷ []) = omega arith
lits_size (x ∷ y ∷ rest) = let r = lits_size rest in omega arith

-- one more element of a list
pub take_more : {X : Type 0} (xs : List X) (n : ℕ) (x : X) → slice_get xs n ≡ Some x → take n xs ++ x ∷ [] ≡ take (suc n) xs
take_more [] n x h = absurd (get_nothing n x h)
take_more (y ∷ ys) zero x h = ap (λ z. z ∷ []) (sym (same_Some y x h))
take_more (y ∷ ys) (suc n) x h = ap (λ zs. y ∷ zs) (take_more ys n x h)
