-- Linked lists: a list that was taken out, link after link, is put back at the heads of lists.
use Rattle.std.proofs.Common.{◌≡◌, ◌≢◌, ℕ, ◌<◌, ◌≤◌, ◌⊎◌, inl, inr, List, [], ◌∷◌, length, set, refl, ap, sym, ◌∙◌, subst, arith}
use Rattle.std.specs.Prelude.{Contains, slice_index}
use Rattle.std.proofs.lemmas.Bool.{cases_eq}
use Rattle.std.proofs.lemmas.List.{length-set, get_or-set_same, get_or-set_other}
use Rattle.std.proofs.lemmas.List.Sums.{sum_by-set}
use Rattle.dg_base.proofs.Lists.{contains_head, contains_tail, contains_nothing, contains_cases}
use Rattle.clause_store.specs.Linked.{IsChain, end_of_list, list_of, IsLinked}

-- a write at a link that is not in the list
pub chain_other : (next : List ℕ) (k v from : ℕ) (links : List ℕ) → (Contains links k → ⊥) → IsChain next from links → IsChain (set next k v) from links
chain_other next k v from [] away h = h
chain_other next k v from (x ∷ xs) away (here, within, rest) =
    let other : x ≢ k = (λ e. away (subst (λ z. Contains (x ∷ xs) z) e (contains_head x xs))) in
    (here, rw length-set within, rw (get_or-set_other next k x v 0 other) (chain_other next k v (slice_index next x) xs (λ c. away (contains_tail x k xs c)) rest))

-- a list is told by where it starts
pub chain_same : (next : List ℕ) (from : ℕ) (xs ys : List ℕ) → length next ≤ end_of_list → IsChain next from xs → IsChain next from ys → xs ≡ ys
chain_same next from [] [] small h g = refl
chain_same next from [] (y ∷ ys) small h (g, within, rest) = absurd (omega arith)
chain_same next from (x ∷ xs) [] small (h, within, rest) g = absurd (omega arith)
chain_same next from (x ∷ xs) (y ∷ ys) small (h, within, rest) (g, within2, rest2) =
    let e : x ≡ y = sym h ∙ g in
    let r = chain_same next (slice_index next x) xs ys small rest (rw e rest2) in
    ap (λ z. z ∷ xs) e ∙ ap (λ zs. y ∷ zs) r

-- a link of a list begins a shorter one
pub chain_from : (next : List ℕ) (from : ℕ) (xs : List ℕ) (k : ℕ) → IsChain next from xs → Contains xs k → (ys : List ℕ) × IsChain next k ys × (length ys ≤ length xs)
chain_from next from [] k h c = absurd (contains_nothing k c)
chain_from next from (x ∷ xs) k (here, within, rest) c =
    elim (contains_cases x k xs c) [
      | inl e ↦ (x ∷ xs, (e, within, rest), omega arith)
      | inr m ↦ let r = chain_from next (slice_index next x) xs k rest m in (r.0, r.1, (let q = r.2 in omega arith))
    ]

-- no link comes twice
pub chain_once : (next : List ℕ) (x : ℕ) (xs : List ℕ) → length next ≤ end_of_list → IsChain next x (x ∷ xs) → Contains xs x → ⊥
chain_once next x xs small (here, within, rest) c =
    let r = chain_from next (slice_index next x) xs x rest c in
    let same = chain_same next x (x ∷ xs) r.0 small (refl, within, rest) r.1 in
    let e = ap length same in
    let q = r.2 in
    omega arith

-- the link that was taken out first is put at the head of an owner's list
pub relinked : (next heads owner_of : List ℕ) (at k : ℕ) (out : List ℕ) (lists : List (List ℕ)) (o : ℕ) → length next ≤ end_of_list → o < length heads → IsLinked next heads owner_of at (k ∷ out) lists → IsLinked (set next k (slice_index heads o)) (set heads o k) (set owner_of k o) (slice_index next k) out (set lists o (k ∷ list_of lists o))
relinked next heads owner_of at k out lists o small within l = record {
  owners = rw (length-set, length-set) l.owners;
  long = rw (length-set, length-set) l.long;
  chains = λ p h. chains p (rw length-set at h);
  out_chain = chain_other next k (slice_index heads o) (slice_index next k) out once l.out_chain.2;
  owned = λ p j h c. owned p j (rw length-set at h) c;
  apart = λ p j h c away. apart p j (rw length-set at h) c away;
  listed = λ j h. listed j (rw length-set at h);
  total = (let s = sum_by-set length lists o (k ∷ list_of lists o) [] (rw l.owners within) in let t = l.total in rw length-set (omega arith));
}
  where
    k_in : k < length next
    k_in = l.out_chain.1

    once : Contains out k → ⊥
    once c = chain_once next k out small (refl, k_in, l.out_chain.2) c

    away : (p : ℕ) → p < length heads → Contains (list_of lists p) k → ⊥
    away p h c = l.apart p k h c (contains_head k out)

    list_at : (p : ℕ) → ((p ≡ o) × (list_of (set lists o (k ∷ list_of lists o)) p ≡ k ∷ list_of lists o)) ⊎ ((p ≢ o) × (list_of (set lists o (k ∷ list_of lists o)) p ≡ list_of lists p))
    list_at p = elim (cases_eq p o) [
      | inl e ↦ inl (e, rw e (get_or-set_same lists o (k ∷ list_of lists o) [] (rw l.owners within)))
      | inr other ↦ inr (other, get_or-set_other lists o p (k ∷ list_of lists o) [] other)
    ]

    chains : (p : ℕ) → p < length heads → IsChain (set next k (slice_index heads o)) (slice_index (set heads o k) p) (list_of (set lists o (k ∷ list_of lists o)) p)
    chains p h = elim (list_at p) [
      | inl r ↦ rw (r.1, r.0, get_or-set_same heads o k 0 within, get_or-set_same next k (slice_index heads o) 0 k_in, length-set)
          (refl, k_in, chain_other next k (slice_index heads o) (slice_index heads o) (list_of lists o) (away o within) (l.chains o within))
      | inr r ↦ rw (r.1, get_or-set_other heads o p k 0 r.0)
          (chain_other next k (slice_index heads o) (slice_index heads p) (list_of lists p) (away p h) (l.chains p h))
    ]

    owned : (p j : ℕ) → p < length heads → Contains (list_of (set lists o (k ∷ list_of lists o)) p) j → slice_index (set owner_of k o) j ≡ p
    owned p j h c = elim (cases_eq j k) [
      | inl e ↦ elim (list_at p) [
        | inl r ↦ rw (e, get_or-set_same owner_of k o 0 (rw l.long k_in)) (sym r.0)
        | inr r ↦ absurd (away p h (subst (λ z. Contains (list_of lists p) z) e (rw r.1 at c)))
      ]
      | inr other ↦ rw (get_or-set_other owner_of k j o 0 other)
          (elim (list_at p) [
            | inl r ↦ elim (contains_cases k j (list_of lists o) (rw r.1 at c)) [
              | inl e ↦ absurd (other e)
              | inr m ↦ l.owned o j within m ∙ sym r.0
            ]
            | inr r ↦ l.owned p j h (rw r.1 at c)
          ])
    ]

    apart : (p j : ℕ) → p < length heads → Contains (list_of (set lists o (k ∷ list_of lists o)) p) j → Contains out j → ⊥
    apart p j h c out_there = elim (list_at p) [
      | inl r ↦ elim (contains_cases k j (list_of lists o) (rw r.1 at c)) [
        | inl e ↦ once (subst (λ z. Contains out z) e out_there)
        | inr m ↦ l.apart o j within m (contains_tail k j out out_there)
      ]
      | inr r ↦ l.apart p j h (rw r.1 at c) (contains_tail k j out out_there)
    ]

    listed : (j : ℕ) → j < length next → Contains out j ⊎ ((slice_index (set owner_of k o) j < length (set heads o k)) × Contains (list_of (set lists o (k ∷ list_of lists o)) (slice_index (set owner_of k o) j)) j)
    listed j h = elim (cases_eq j k) [
      | inl e ↦ inr (rw (e, get_or-set_same owner_of k o 0 (rw l.long k_in), length-set, get_or-set_same lists o (k ∷ list_of lists o) [] (rw l.owners within)) (within, contains_head k (list_of lists o)))
      | inr other ↦ elim (l.listed j h) [
        | inl m ↦ elim (contains_cases k j out m) [ inl e ↦ absurd (other e) | inr q ↦ inl q ]
        | inr q ↦ inr (rw (get_or-set_other owner_of k j o 0 other, length-set) (q.0, still (slice_index owner_of j) j q.1))
      ]
    ]
      where
        still : (p j : ℕ) → Contains (list_of lists p) j → Contains (list_of (set lists o (k ∷ list_of lists o)) p) j
        still p j m = elim (list_at p) [
          | inl r ↦ rw r.1 (contains_tail k j (list_of lists o) (subst (λ z. Contains (list_of lists z) j) r.0 m))
          | inr r ↦ rw r.1 m
        ]

-- an owner's list is taken out
pub taken_out : (next heads owner_of : List ℕ) (lists : List (List ℕ)) (o : ℕ) → o < length heads → IsLinked next heads owner_of end_of_list [] lists → IsLinked next (set heads o end_of_list) owner_of (slice_index heads o) (list_of lists o) (set lists o [])
taken_out next heads owner_of lists o within l = record {
  owners = rw (length-set {A = List ℕ}) (rw length-set l.owners);
  long = l.long;
  chains = λ p h. chains p (rw length-set at h);
  out_chain = l.chains o within;
  owned = λ p j h c. owned p j (rw length-set at h) c;
  apart = λ p j h c d. apart p j (rw length-set at h) c d;
  listed = λ j h. listed j h;
  total = (let s = sum_by-set length lists o [] [] (rw l.owners within) in let t = l.total in omega arith);
}
  where
    list_at : (p : ℕ) → ((p ≡ o) × (list_of (set lists o []) p ≡ [])) ⊎ ((p ≢ o) × (list_of (set lists o []) p ≡ list_of lists p))
    list_at p = elim (cases_eq p o) [
      | inl e ↦ inl (e, rw e (get_or-set_same lists o [] [] (rw l.owners within)))
      | inr other ↦ inr (other, get_or-set_other lists o p [] [] other)
    ]

    chains : (p : ℕ) → p < length heads → IsChain next (slice_index (set heads o end_of_list) p) (list_of (set lists o []) p)
    chains p h = elim (list_at p) [
      | inl r ↦ rw (r.1, r.0) (get_or-set_same heads o end_of_list 0 within)
      | inr r ↦ rw (r.1, get_or-set_other heads o p end_of_list 0 r.0) (l.chains p h)
    ]

    owned : (p j : ℕ) → p < length heads → Contains (list_of (set lists o []) p) j → slice_index owner_of j ≡ p
    owned p j h c = elim (list_at p) [
      | inl r ↦ absurd (contains_nothing j (rw r.1 at c))
      | inr r ↦ l.owned p j h (rw r.1 at c)
    ]

    apart : (p j : ℕ) → p < length heads → Contains (list_of (set lists o []) p) j → Contains (list_of lists o) j → ⊥
    apart p j h c d = elim (list_at p) [
      | inl r ↦ contains_nothing j (rw r.1 at c)
      | inr r ↦ r.0 (sym (l.owned p j h (rw r.1 at c)) ∙ l.owned o j within d)
    ]

    listed : (j : ℕ) → j < length next → Contains (list_of lists o) j ⊎ ((slice_index owner_of j < length (set heads o end_of_list)) × Contains (list_of (set lists o []) (slice_index owner_of j)) j)
    listed j h = elim (l.listed j h) [
      | inl m ↦ absurd (contains_nothing j m)
      | inr q ↦ elim (list_at (slice_index owner_of j)) [
        | inl r ↦ inl (subst (λ n. Contains (list_of lists n) j) r.0 q.1)
        | inr r ↦ inr (rw length-set q.0, rw r.1 q.1)
      ]
    ]
