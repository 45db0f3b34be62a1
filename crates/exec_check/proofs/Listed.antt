-- Tests of the items of a list, and the first item that does not pass.
use Rattle.std.proofs.Common.{◌≡◌, ℕ, zero, suc, ◌+◌, ◌<◌, List, [], ◌∷◌, Bool, true, false, cond, Option, Some, None, refl, sym, ap, ◌∙◌, subst, ⊎_elim, inl, inr, Decides, arith}
use Rattle.std.specs.Prelude.{slice_get, ◌⊎◌}
use Rattle.std.specs.List.{list_any, list_all}
use Rattle.std.proofs.lemmas.Bool.{cases_Bool, or_cases, or_left, or_right, cond-true, cond-false}
use Rattle.std.proofs.lemmas.Option.{none-some, same_Some}
use Rattle.dg_base.proofs.Lists.{list_all_at, list_all_from}
use Rattle.c_rules.specs.Names.{or_else}
use Rattle.exec_check.specs.ThreadTests.{first_not, passing}

-- ---- some item, each item

any_found : {A : Type 0} (f : A → Bool) (l : List A) → list_any f l ≡ true → (k : ℕ) × (a : A) × (slice_get l k ≡ Some a) × (f a ≡ true)
any_found f [] t = cc
any_found f (a ∷ l) t =
    ⊎_elim (λ h. (0, a, refl, h)) (λ h. let r = any_found f l h in (suc r.0, r.1, r.2, r.3)) (or_cases (f a) (list_any f l) t)

any_from : {A : Type 0} (f : A → Bool) (l : List A) (k : ℕ) (a : A) → slice_get l k ≡ Some a → f a ≡ true → list_any f l ≡ true
any_from f [] k a e t = absurd (none-some a e)
any_from f (b ∷ l) zero a e t = or_left (f b) (list_any f l) (subst (λ z. f z ≡ true) (sym (same_Some b a e)) t)
any_from f (b ∷ l) (suc k) a e t = or_right (f b) (list_any f l) (any_from f l k a e t)

pub any_decides : {A : Type 0} (f : A → Bool) (P : A → Type 0) → ((a : A) → Decides (f a) (P a)) → (l : List A) → Decides (list_any f l) ((k : ℕ) × (a : A) × (slice_get l k ≡ Some a) × P a)
any_decides f P d l =
    (λ t. let r = any_found f l t in (r.0, r.1, r.2, (d r.1).0 r.3), λ w. any_from f l w.0 w.1 w.2 ((d w.1).1 w.3))

pub all_decides : {A : Type 0} (f : A → Bool) (P : A → Type 0) → ((a : A) → Decides (f a) (P a)) → (l : List A) → Decides (list_all f l) ((k : ℕ) (a : A) → slice_get l k ≡ Some a → P a)
all_decides f P d l = (λ t k a e. (d a).0 (list_all_at f l t k a e), λ h. list_all_from f l (λ k a e. (d a).1 (h k a e)))

-- ---- the first that does not pass

pub cond_none : {B : Type 0} (t : Bool) (o : Option B) (b : B) → cond t o (Some b) ≡ None → (t ≡ true) × (o ≡ None)
cond_none true o b e = (refl, e)
cond_none false o b e = absurd (none-some b (sym e))

pub cond_either : {B : Type 0} (t : Bool) (o : Option B) (b c : B) → cond t o (Some b) ≡ Some c → ((t ≡ true) × (o ≡ Some c)) ⊎ ((t ≡ false) × (b ≡ c))
cond_either true o b c e = inl (refl, e)
cond_either false o b c e = inr (refl, same_Some b c e)

pub first_not-none : {A B : Type 0} (f : A → Bool) (key : A → B) (l : List A) → first_not f key l ≡ None → (k : ℕ) (a : A) → slice_get l k ≡ Some a → f a ≡ true
first_not-none f key [] e k a g = absurd (none-some a g)
first_not-none f key (b ∷ l) e zero a g = subst (λ z. f z ≡ true) (same_Some b a g) (cond_none (f b) (first_not f key l) (key b) e).0
first_not-none f key (b ∷ l) e (suc k) a g = first_not-none f key l (cond_none (f b) (first_not f key l) (key b) e).1 k a g

-- the item at the place does not pass, and each one before does
pub record Stops {A : Type 0} (f : A → Bool) (l : List A) (k : ℕ) (a : A) : Type 0 where
  pub there : slice_get l k ≡ Some a
  pub fails : f a ≡ false
  pub before : (j : ℕ) (b : A) → j < k → slice_get l j ≡ Some b → f b ≡ true

passes_later : {A : Type 0} (f : A → Bool) (a : A) (l : List A) (k : ℕ) → f a ≡ true → ((j : ℕ) (b : A) → j < k → slice_get l j ≡ Some b → f b ≡ true) → (j : ℕ) (b : A) → j < suc k → slice_get (a ∷ l) j ≡ Some b → f b ≡ true
passes_later f a l k t h zero b d e = subst (λ z. f z ≡ true) (same_Some a b e) t
passes_later f a l k t h (suc j) b d e = h j b (omega arith) e

pub first_not-some : {A B : Type 0} (f : A → Bool) (key : A → B) (l : List A) (b : B) → first_not f key l ≡ Some b → (k : ℕ) × (a : A) × Stops f l k a × (key a ≡ b)
first_not-some f key [] b e = absurd (none-some b e)
first_not-some f key (a ∷ l) b e =
    ⊎_elim (λ h. let r = first_not-some f key l b h.1 in (suc r.0, r.1, record { there = r.2.there; fails = r.2.fails; before = passes_later f a l r.0 h.0 r.2.before }, r.3))
    (λ h. (0, a, record { there = refl; fails = h.0; before = λ j c d g. absurd (omega arith) }, h.1))
    (cond_either (f a) (first_not f key l) (key a) b e)

-- ---- the first of two

pub or_else-none : {A : Type 0} (o p : Option A) → or_else o p ≡ None → (o ≡ None) × (p ≡ None)
or_else-none (Some a) p e = absurd (none-some a (sym e))
or_else-none None p e = (refl, e)

pub or_else-some : {A : Type 0} (o p : Option A) (a : A) → or_else o p ≡ Some a → (o ≡ Some a) ⊎ ((o ≡ None) × (p ≡ Some a))
or_else-some (Some b) p a e = inl e
or_else-some None p a e = inr (refl, e)

-- ---- exactly one

pub count_none : {A : Type 0} (f : A → Bool) (l : List A) → passing f l ≡ 0 → (k : ℕ) (a : A) → slice_get l k ≡ Some a → f a ≡ true → ⊥
count_none f [] c k a e t = none-some a e
count_none f (b ∷ l) c zero a e t =
    let h : passing f (b ∷ l) ≡ 1 + passing f l = cond-true (f b) (1 + passing f l) (passing f l) (subst (λ z. f z ≡ true) (sym (same_Some b a e)) t) in
    absurd (omega arith)
count_none f (b ∷ l) c (suc k) a e t =
    ⊎_elim (λ h. let g : passing f (b ∷ l) ≡ 1 + passing f l = cond-true (f b) (1 + passing f l) (passing f l) h in absurd (omega arith))
    (λ h. count_none f l (sym (cond-false (f b) (1 + passing f l) (passing f l) h) ∙ c) k a e t)
    (cases_Bool (f b))

pub count_one : {A : Type 0} (f : A → Bool) (l : List A) → passing f l ≡ 1 → (i j : ℕ) (a b : A) → slice_get l i ≡ Some a → f a ≡ true → slice_get l j ≡ Some b → f b ≡ true → i ≡ j
count_one f [] c i j a b e t g u = absurd (none-some a e)
count_one f (d ∷ l) c zero zero a b e t g u = refl
count_one f (d ∷ l) c zero (suc j) a b e t g u = absurd (count_none f l (rest (subst (λ z. f z ≡ true) (sym (same_Some d a e)) t)) j b g u)
  where
    rest : f d ≡ true → passing f l ≡ 0
    rest h = let k : passing f (d ∷ l) ≡ 1 + passing f l = cond-true (f d) (1 + passing f l) (passing f l) h in omega arith
count_one f (d ∷ l) c (suc i) zero a b e t g u = absurd (count_none f l (rest (subst (λ z. f z ≡ true) (sym (same_Some d b g)) u)) i a e t)
  where
    rest : f d ≡ true → passing f l ≡ 0
    rest h = let k : passing f (d ∷ l) ≡ 1 + passing f l = cond-true (f d) (1 + passing f l) (passing f l) h in omega arith
count_one f (d ∷ l) c (suc i) (suc j) a b e t g u =
    ⊎_elim (λ h. let k : passing f (d ∷ l) ≡ 1 + passing f l = cond-true (f d) (1 + passing f l) (passing f l) h in absurd (count_none f l (omega arith) i a e t))
    (λ h. ap suc (count_one f l (sym (cond-false (f d) (1 + passing f l) (passing f l) h) ∙ c) i j a b e t g u))
    (cases_Bool (f d))

pub none_count : {A : Type 0} (f : A → Bool) (l : List A) → ((k : ℕ) (a : A) → slice_get l k ≡ Some a → f a ≡ true → ⊥) → passing f l ≡ 0
none_count f [] h = refl
none_count f (a ∷ l) h =
    ⊎_elim (λ t. absurd (h 0 a refl t)) (λ t. cond-false (f a) (1 + passing f l) (passing f l) t ∙ none_count f l (λ k b e u. h (suc k) b e u)) (cases_Bool (f a))

pub one_count : {A : Type 0} (f : A → Bool) (l : List A) (i : ℕ) (a : A) → slice_get l i ≡ Some a → f a ≡ true → ((k : ℕ) (b : A) → slice_get l k ≡ Some b → f b ≡ true → k ≡ i) → passing f l ≡ 1
one_count f [] i a e t h = absurd (none-some a e)
one_count f (b ∷ l) zero a e t h =
    let u : f b ≡ true = subst (λ z. f z ≡ true) (sym (same_Some b a e)) t in
    let n : passing f l ≡ 0 = none_count f l (λ k d g v. let z : suc k ≡ 0 = h (suc k) d g v in absurd (omega arith)) in
    cond-true (f b) (1 + passing f l) (passing f l) u ∙ ap (λ z. 1 + z) n
one_count f (b ∷ l) (suc i) a e t h =
    ⊎_elim (λ u. let z : 0 ≡ suc i = h 0 b refl u in absurd (omega arith))
    (λ u. cond-false (f b) (1 + passing f l) (passing f l) u ∙ one_count f l i a e t (λ k d g v. let z : suc k ≡ suc i = h (suc k) d g v in omega arith))
    (cases_Bool (f b))
