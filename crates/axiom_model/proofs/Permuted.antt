-- Where the items of a list stand in a permutation of it.
use Rattle.std.proofs.Common.{◌≡◌, ◌≢◌, ℕ, ◌<◌, List, Some, length, get_or, refl, sym, ap, ◌∙◌, subst, ⊎_elim, arith}
use Rattle.std.specs.Prelude.{cond, nat_eq, slice_get, IsPermutation}
use Rattle.std.specs.List.{swap}
use Rattle.std.proofs.lemmas.Bool.{cases_eq, eq-eqb, ne_eqb, cond-true, cond-false}
use Rattle.std.proofs.lemmas.List.Edits.{swapped_from_swap}
use Rattle.std.proofs.lemmas.List.Sorted.{IsPermutation-keeps, length_permutation, IsPermutation-swap}
use Rattle.std.proofs.lemmas.Option.{get_or_from_slice_get, slice_get-get_or, slice_get_within}

-- each item of the first list stands in the second at a place of its own, and each of the second comes from one of the first
pub record Moved {A : Type 0} (xs ys : List A) : Type 0 where
  pub to : ℕ → ℕ
  pub from : ℕ → ℕ
  pub there : (k : ℕ) (a : A) → slice_get xs k ≡ Some a → slice_get ys (to k) ≡ Some a
  pub back : (k : ℕ) (a : A) → slice_get ys k ≡ Some a → slice_get xs (from k) ≡ Some a
  pub again : (k : ℕ) → to (from k) ≡ k

-- i and j change places
abbrev exchange : ℕ → ℕ → ℕ → ℕ
exchange i j k = cond (nat_eq k i) j (cond (nat_eq k j) i k)

exchange-first : (i j k : ℕ) → k ≡ i → exchange i j k ≡ j
exchange-first i j k e = cond-true (nat_eq k i) j _ (eq-eqb k i e)

exchange-second : (i j k : ℕ) → k ≡ j → exchange i j k ≡ i
exchange-second i j k e =
    ⊎_elim (λ f. exchange-first i j k f ∙ sym e ∙ f) (λ n. cond-false (nat_eq k i) j _ (ne_eqb k i n) ∙ cond-true (nat_eq k j) i k (eq-eqb k j e)) (cases_eq k i)

exchange-other : (i j k : ℕ) → k ≢ i → k ≢ j → exchange i j k ≡ k
exchange-other i j k n m = cond-false (nat_eq k i) j _ (ne_eqb k i n) ∙ cond-false (nat_eq k j) i k (ne_eqb k j m)

exchange-twice : (i j k : ℕ) → exchange i j (exchange i j k) ≡ k
exchange-twice i j k =
    ⊎_elim (λ e. exchange-second i j _ (exchange-first i j k e) ∙ sym e) (λ n.
    ⊎_elim (λ e. exchange-first i j _ (exchange-second i j k e) ∙ sym e) (λ m. exchange-other i j _ (subst (λ x. x ≢ i) (sym (exchange-other i j k n m)) n) (subst (λ x. x ≢ j) (sym (exchange-other i j k n m)) m) ∙ exchange-other i j k n m)
    (cases_eq k j)) (cases_eq k i)

exchange-within : (n i j k : ℕ) → i < n → j < n → k < n → exchange i j k < n
exchange-within n i j k p q r =
    ⊎_elim (λ e. subst (λ m. m < n) (sym (exchange-first i j k e)) q) (λ a.
    ⊎_elim (λ e. subst (λ m. m < n) (sym (exchange-second i j k e)) p) (λ b. subst (λ m. m < n) (sym (exchange-other i j k a b)) r)
    (cases_eq k j)) (cases_eq k i)

module _ {A : Type 0} where
  reads_swapped : (l : List A) (i j k : ℕ) (d : A) → i < length l → j < length l → get_or (swap l i j) (exchange i j k) d ≡ get_or l k d
  reads_swapped l i j k d p q =
      let s = swapped_from_swap l (swap l i j) i j d p q refl in
      let at : (n : ℕ) → exchange i j k ≡ n → get_or (swap l i j) (exchange i j k) d ≡ get_or (swap l i j) n d = λ n e. ap (λ m. get_or (swap l i j) m d) e in
      ⊎_elim (λ e. at j (exchange-first i j k e) ∙ s.1 ∙ ap (λ m. get_or l m d) (sym e)) (λ n.
      ⊎_elim (λ e. at i (exchange-second i j k e) ∙ s.0 ∙ ap (λ m. get_or l m d) (sym e)) (λ m. at k (exchange-other i j k n m) ∙ s.2 k n m)
      (cases_eq k j)) (cases_eq k i)

  swap-long : (l : List A) (i j : ℕ) → i < length l → j < length l → length (swap l i j) ≡ length l
  swap-long l i j p q = length_permutation l (swap l i j) (IsPermutation-swap l (swap l i j) i j p q refl)

  -- an item of a list stands where it was, or where it changed places
  swapped_there : (l : List A) (i j k : ℕ) (a : A) → i < length l → j < length l → slice_get l k ≡ Some a → slice_get (swap l i j) (exchange i j k) ≡ Some a
  swapped_there l i j k a p q e =
      let low : k < length l = slice_get_within l k a e in
      let within : exchange i j k < length (swap l i j) = subst (λ n. exchange i j k < n) (sym (swap-long l i j p q)) (exchange-within (length l) i j k p q low) in
      slice_get-get_or (swap l i j) (exchange i j k) a within ∙ ap Some (reads_swapped l i j k a p q ∙ get_or_from_slice_get l k a a e)

  -- and the other way round
  swapped_back : (l : List A) (i j k : ℕ) (a : A) → i < length l → j < length l → slice_get (swap l i j) k ≡ Some a → slice_get l (exchange i j k) ≡ Some a
  swapped_back l i j k a p q e =
      let low : k < length l = subst (λ n. k < n) (swap-long l i j p q) (slice_get_within (swap l i j) k a e) in
      let read : get_or (swap l i j) k a ≡ get_or l (exchange i j k) a = ap (λ m. get_or (swap l i j) m a) (sym (exchange-twice i j k)) ∙ reads_swapped l i j (exchange i j k) a p q in
      slice_get-get_or l (exchange i j k) a (exchange-within (length l) i j k p q low) ∙ ap Some (sym read ∙ get_or_from_slice_get (swap l i j) k a a e)

  swap_moves : (xs l : List A) (i j : ℕ) → i < length l → j < length l → Moved xs l → Moved xs (swap l i j)
  swap_moves xs l i j p q m = record {
    to = λ k. exchange i j (m.to k);
    from = λ k. m.from (exchange i j k);
    there = λ k a e. swapped_there l i j (m.to k) a p q (m.there k a e);
    back = λ k a e. m.back (exchange i j k) a (swapped_back l i j k a p q e);
    again = λ k. ap (exchange i j) (m.again (exchange i j k)) ∙ exchange-twice i j k;
  }

  -- a permutation moves the items
  pub moved_from : (xs ys : List A) → IsPermutation xs ys → Moved xs ys
  moved_from xs ys = IsPermutation-keeps xs (Moved xs) (record { to = λ k. k; from = λ k. k; there = λ k a e. e; back = λ k a e. e; again = λ k. refl }) (λ l i j p q m. swap_moves xs l i j p q m) ys
