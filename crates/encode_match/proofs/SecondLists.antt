-- Two lists in the order of a relation that have the same elements are one list.
use Rattle.std.proofs.Common.{◌≡◌, ℕ, suc, ◌<◌, ⊎_elim, List, [], ◌∷◌, refl, ap, sym, ◌∙◌, subst, arith}
use Rattle.std.specs.Prelude.{Some, slice_get, Contains}
use Rattle.dg_base.proofs.Lists.{contains_nothing, contains_head, contains_tail, contains_cases, place_of}
use Rattle.axiom_model.specs.declared.ThreadPart.{ThreadPart}
use Rattle.encode_order.proofs.Lines.{AreSorted}

abbrev pub Within : {A : Type 0} → List A → List A → Type 0
Within {A} xs ys = (a : A) → Contains xs a → Contains ys a

-- what stands in the order of its places is sorted
pub sorted_places : {A : Type 0} (R : A → A → Type 0) (xs : List A) → ((i j : ℕ) (a b : A) → i < j → slice_get xs i ≡ Some a → slice_get xs j ≡ Some b → R a b) → AreSorted R xs
sorted_places R [] h = tt
sorted_places R (x ∷ xs) h = (
  (λ y c. let r = place_of xs y c in h 0 (suc r.0) x y (omega arith) refl r.1),
  sorted_places R xs (λ i j a b l p q. h (suc i) (suc j) a b (omega (arith, l)) p q),
)

-- the first of both is one
same_first : {A : Type 0} (R : A → A → Type 0) → ((a b : A) → R a b → R b a → ⊥) → (x y : A) (xs ys : List A) → AreSorted R (x ∷ xs) → AreSorted R (y ∷ ys) → Within (x ∷ xs) (y ∷ ys) → Within (y ∷ ys) (x ∷ xs) → x ≡ y
same_first R one_way x y xs ys a b to from =
    ⊎_elim
    (λ e. e)
    (λ l. ⊎_elim (λ e. sym e) (λ m. absurd (one_way y x (b.0 x l) (a.0 y m))) (contains_cases x y xs (from y (contains_head y ys))))
    (contains_cases y x ys (to x (contains_head x xs)))

-- so the others are the same
rest_within : {A : Type 0} (R : A → A → Type 0) → ((a b : A) → R a b → R b a → ⊥) → (x y : A) (xs ys : List A) → x ≡ y → AreSorted R (x ∷ xs) → Within (x ∷ xs) (y ∷ ys) → Within xs ys
rest_within R one_way x y xs ys same a to t c =
    ⊎_elim
    (λ e. let twice : R x x = subst (λ z. R x z) (e ∙ sym same) (a.0 t c) in absurd (one_way x x twice twice))
    (λ l. l)
    (contains_cases y t ys (to t (contains_tail x t xs c)))

pub one_sorted : {A : Type 0} (R : A → A → Type 0) → ((a b : A) → R a b → R b a → ⊥) → (xs ys : List A) → AreSorted R xs → AreSorted R ys → Within xs ys → Within ys xs → xs ≡ ys
one_sorted R one_way [] [] a b to from = refl
one_sorted R one_way [] (y ∷ ys) a b to from = absurd (contains_nothing y (from y (contains_head y ys)))
one_sorted R one_way (x ∷ xs) [] a b to from = absurd (contains_nothing x (to x (contains_head x xs)))
one_sorted R one_way (x ∷ xs) (y ∷ ys) a b to from =
    let same = same_first R one_way x y xs ys a b to from in
    ap (λ z. z ∷ xs) same
    ∙ ap (λ l. y ∷ l) (one_sorted R one_way xs ys a.1 b.1 (rest_within R one_way x y xs ys same a to) (rest_within R one_way y x ys xs (sym same) b from))

-- ---- threads

-- handles rise
abbrev pub Rise : List ThreadPart → Type 0
Rise ts = AreSorted (λ (t u : ThreadPart). t.handle < u.handle) ts

pub one_list : (xs ys : List ThreadPart) → Rise xs → Rise ys → Within xs ys → Within ys xs → xs ≡ ys
one_list xs ys a b to from = one_sorted (λ (t u : ThreadPart). t.handle < u.handle) (λ t u h g. absurd (omega (arith, h, g))) xs ys a b to from

-- one handle is one element
pub one_element : (xs : List ThreadPart) (t u : ThreadPart) → Rise xs → Contains xs t → Contains xs u → t.handle ≡ u.handle → t ≡ u
one_element [] t u r a b e = absurd (contains_nothing t a)
one_element (x ∷ xs) t u r a b e =
    ⊎_elim
    (λ s. ⊎_elim
    (λ o. s ∙ sym o)
    (λ o. let h : x.handle < u.handle = r.0 u o in let g : t.handle ≡ x.handle = ap (λ (z : ThreadPart). z.handle) s in absurd (omega (arith, h, g, e)))
    (contains_cases x u xs b))
    (λ s. ⊎_elim
    (λ o. let h : x.handle < t.handle = r.0 t s in let g : u.handle ≡ x.handle = ap (λ (z : ThreadPart). z.handle) o in absurd (omega (arith, h, g, e)))
    (λ o. one_element xs t u r.1 s o e)
    (contains_cases x u xs b))
    (contains_cases x t xs a)
