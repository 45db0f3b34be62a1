-- Lists of events in the order of a rank.
use Rattle.std.proofs.Common.{◌≡◌, ℕ, zero, suc, ◌<◌, ◌≤◌, List, [], ◌∷◌, ◌++◌, Some, Bool, true, false, refl, sym, ap, ◌∙◌, subst, inl, inr, ◌⊎◌, ⊎_elim, arith}
use Rattle.std.specs.Prelude.{nat_lt, nat_eq, slice_get}
use Rattle.std.proofs.lemmas.Bool.{cases_lt, eqb-true, eqb-false, ltb-true, lt-ltb, false≢true}
use Rattle.std.proofs.lemmas.Option.{same_Some}
use Rattle.dg_base.proofs.Lists.{get_nothing}

module _ (E : Type 0) where
  abbrev pub In : E → List E → Type 0
  In e [] = ⊥
  In e (x ∷ xs) = (e ≡ x) ⊎ In e xs

  pub in_left : (e : E) (xs ys : List E) → In e xs → In e (xs ++ ys)
  in_left e [] ys h = absurd h
  in_left e (x ∷ xs) ys (inl h) = inl h
  in_left e (x ∷ xs) ys (inr h) = inr (in_left e xs ys h)

  pub in_right : (e : E) (xs ys : List E) → In e ys → In e (xs ++ ys)
  in_right e [] ys h = h
  in_right e (x ∷ xs) ys h = inr (in_right e xs ys h)

  pub in_cases : (e : E) (xs ys : List E) → In e (xs ++ ys) → In e xs ⊎ In e ys
  in_cases e [] ys h = inr h
  in_cases e (x ∷ xs) ys (inl h) = inl (inl h)
  in_cases e (x ∷ xs) ys (inr h) = ⊎_elim (λ y. inl (inr y)) inr (in_cases e xs ys h)

  pub in_at : (e : E) (xs : List E) (i : ℕ) → slice_get xs i ≡ Some e → In e xs
  in_at e [] i h = absurd (get_nothing i e h)
  in_at e (x ∷ xs) zero h = inl (sym (same_Some x e h))
  in_at e (x ∷ xs) (suc i) h = inr (in_at e xs i h)

  pub at_in : (e : E) (xs : List E) → In e xs → (i : ℕ) × (slice_get xs i ≡ Some e)
  at_in e [] h = absurd h
  at_in e (x ∷ xs) (inl h) = (0, ap (λ z. Some z) (sym h))
  at_in e (x ∷ xs) (inr h) = let it = at_in e xs h in (suc it.0, it.1)

  module _ (key : E → ℕ) where
    -- ranks rise strictly
    abbrev pub Ascending : List E → Type 0
    Ascending [] = Unit {0}
    Ascending (x ∷ xs) = ((y : E) → In y xs → key x < key y) × Ascending xs

    pub ascending_at : (xs : List E) → Ascending xs → (i j : ℕ) (a b : E) → i < j → slice_get xs i ≡ Some a → slice_get xs j ≡ Some b → key a < key b
    ascending_at [] h i j a b l p q = absurd (get_nothing i a p)
    ascending_at (x ∷ xs) h zero zero a b l p q = omega (arith, l)
    ascending_at (x ∷ xs) h zero (suc j) a b l p q = subst (λ z. key z < key b) (same_Some x a p) (h.0 b (in_at b xs j q))
    ascending_at (x ∷ xs) h (suc i) zero a b l p q = omega (arith, l)
    ascending_at (x ∷ xs) h (suc i) (suc j) a b l p q = ascending_at xs h.1 i j a b (omega (arith, l)) p q

    pub one_place : (xs : List E) → Ascending xs → (i j : ℕ) (e : E) → slice_get xs i ≡ Some e → slice_get xs j ≡ Some e → i ≡ j
    one_place xs h i j e p q =
        ⊎_elim (λ l. absurd (let x = ascending_at xs h i j e e l p q in omega (arith, x)))
        (λ g. ⊎_elim (λ l. absurd (let x = ascending_at xs h j i e e l q p in omega (arith, x))) (λ k. omega (arith, g, k)) (cases_lt j i)) (cases_lt i j)

    abbrev place : Bool → Bool → E → E → List E → List E → List E
    place true b e x xs rest = e ∷ x ∷ xs
    place false true e x xs rest = x ∷ xs
    place false false e x xs rest = x ∷ rest

    pub insert : E → List E → List E
    insert e [] = e ∷ []
    insert e (x ∷ xs) = place (nat_lt (key e) (key x)) (nat_eq (key e) (key x)) e x xs (insert e xs)

    pub sort : List E → List E
    sort [] = []
    sort (e ∷ es) = insert e (sort es)

    -- the same key, or in the list
    module _ (e : E) where
      insert_from : (xs : List E) (y : E) → In y (insert e xs) → (y ≡ e) ⊎ In y xs
      unfolding insert
      insert_from [] y (inl h) = inl h
      insert_from [] y (inr h) = absurd h
      insert_from (x ∷ xs) y h = by (λ z. insert_from xs y z) (nat_lt (key e) (key x)) (nat_eq (key e) (key x)) h where
        by : (In y (insert e xs) → (y ≡ e) ⊎ In y xs) → (a b : Bool) → In y (place a b e x xs (insert e xs)) → (y ≡ e) ⊎ In y (x ∷ xs)
        by f true b (inl z) = inl z
        by f true b (inr z) = inr z
        by f false true z = inr z
        by f false false (inl z) = inr (inl z)
        by f false false (inr z) = ⊎_elim inl (λ w. inr (inr w)) (f z)

      insert_kept : (xs : List E) (y : E) → In y xs → In y (insert e xs)
      unfolding insert
      insert_kept [] y h = absurd h
      insert_kept (x ∷ xs) y h = by (λ z. insert_kept xs y z) (nat_lt (key e) (key x)) (nat_eq (key e) (key x)) h where
        by : (In y xs → In y (insert e xs)) → (a b : Bool) → In y (x ∷ xs) → In y (place a b e x xs (insert e xs))
        by f true b z = inr z
        by f false true z = z
        by f false false (inl z) = inl z
        by f false false (inr z) = inr (f z)

      insert_has : (xs : List E) → (y : E) × In y (insert e xs) × (key y ≡ key e)
      unfolding insert
      insert_has [] = (e, inl refl, refl)
      insert_has (x ∷ xs) = by (insert_has xs) (nat_lt (key e) (key x)) (nat_eq (key e) (key x)) refl where
        by : ((y : E) × In y (insert e xs) × (key y ≡ key e)) → (a b : Bool) → nat_eq (key e) (key x) ≡ b → (y : E) × In y (place a b e x xs (insert e xs)) × (key y ≡ key e)
        by it true b s = (e, inl refl, refl)
        by it false true s = (x, inl refl, sym (eqb-true (key e) (key x) s))
        by it false false s = (it.0, inr it.1, it.2)

      insert_ascending : (xs : List E) → Ascending xs → Ascending (insert e xs)
      unfolding insert
      insert_ascending [] h = ((λ y z. absurd z), tt)
      insert_ascending (x ∷ xs) h = by (insert_ascending xs h.1) (nat_lt (key e) (key x)) (nat_eq (key e) (key x)) refl refl where
        by : Ascending (insert e xs) → (a b : Bool) → nat_lt (key e) (key x) ≡ a → nat_eq (key e) (key x) ≡ b → Ascending (place a b e x xs (insert e xs))
        by f true b l s =
            let low : key e < key x = ltb-true (key e) (key x) l in
            ((λ y z. ⊎_elim (λ w. subst (λ u. key e < key u) (sym w) low) (λ w. omega (arith, low, h.0 y w)) z), h)
        by f false true l s = h
        by f false false l s =
            let high : key x < key e = ⊎_elim (λ w. absurd (false≢true (sym l ∙ lt-ltb (key e) (key x) w))) (λ w. strictly w (eqb-false (key e) (key x) s)) (cases_lt (key e) (key x)) in
            ((λ y z. ⊎_elim (λ w. subst (λ u. key x < key u) (sym w) high) (λ w. h.0 y w) (insert_from xs y z)), f) where
              strictly : key x ≤ key e → (key e ≡ key x → ⊥) → key x < key e
              strictly w ne = ⊎_elim (λ lt. lt) (λ ge. absurd (ne (omega (arith, w, ge)))) (cases_lt (key x) (key e))

    pub sort_ascending : (es : List E) → Ascending (sort es)
    unfolding sort
    sort_ascending [] = tt
    sort_ascending (e ∷ es) = insert_ascending e (sort es) (sort_ascending es)

    pub sort_sound : (es : List E) (y : E) → In y (sort es) → In y es
    unfolding sort
    sort_sound [] y h = h
    sort_sound (e ∷ es) y h = ⊎_elim inl (λ z. inr (sort_sound es y z)) (insert_from e (sort es) y h)

    -- where no two elements have one rank
    pub sort_complete : (es : List E) → ((a b : E) → In a es → In b es → key a ≡ key b → a ≡ b) → (y : E) → In y es → In y (sort es)
    unfolding sort
    sort_complete [] d y h = h
    sort_complete (e ∷ es) d y (inl h) =
        let it = insert_has e (sort es) in
        let there : In it.0 (e ∷ es) = ⊎_elim inl (λ z. inr (sort_sound es it.0 z)) (insert_from e (sort es) it.0 it.1) in
        let same : it.0 ≡ e = d it.0 e there (inl refl) it.2 in
        subst (λ z. In z (insert e (sort es))) (same ∙ sym h) it.1
    sort_complete (e ∷ es) d y (inr h) = insert_kept e (sort es) y (sort_complete es (λ a b p q s. d a b (inr p) (inr q) s) y h)
