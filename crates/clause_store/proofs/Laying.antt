-- Two more links are put behind the others.
use Rattle.std.proofs.Common.{◌≡◌, ℕ, zero, suc, ◌+◌, ◌<◌, ◌≤◌, ◌⊎◌, inl, inr, List, [], ◌∷◌, ◌++◌, length, set, refl, ap, sym, ◌∙◌, arith, length-append}
use Rattle.std.specs.Prelude.{Contains, slice_index, replicate}
use Rattle.std.proofs.lemmas.Bool.{cases_eq, cases_lt}
use Rattle.std.proofs.lemmas.List.{length-set, length-replicate, get_or-replicate}
use Rattle.std.proofs.lemmas.List.Folds.{sum_by-replicate}
use Rattle.dg_base.proofs.Lists.{contains_head, contains_tail, contains_nothing, contains_cases}
use Rattle.clause_store.specs.Linked.{IsChain, IsLaid, IsLinked, LinksView, end_of_list, list_of}
use Rattle.clause_store.proofs.Chains.{relinked}

-- a place in the first of two lists
pub index_left : (xs ys : List ℕ) (k : ℕ) → k < length xs → slice_index (xs ++ ys) k ≡ slice_index xs k
index_left [] ys k h = absurd (omega arith)
index_left (x ∷ xs) ys zero h = refl
index_left (x ∷ xs) ys (suc k) h = index_left xs ys k (omega arith)

-- a place in the second of two lists
pub index_right : (xs ys : List ℕ) (k j : ℕ) → k ≡ length xs + j → slice_index (xs ++ ys) k ≡ slice_index ys j
index_right [] ys k j h = ap (λ n. slice_index ys n) (let e : k ≡ j = omega arith in e)
index_right (x ∷ xs) ys zero j h = absurd (omega arith)
index_right (x ∷ xs) ys (suc k) j h = index_right xs ys k j (omega arith)

-- a write in the second of two lists
pub set_right : (xs ys : List ℕ) (k j v : ℕ) → k ≡ length xs + j → set (xs ++ ys) k v ≡ xs ++ set ys j v
set_right [] ys k j v h = ap (λ n. set ys n v) (let e : k ≡ j = omega arith in e)
set_right (x ∷ xs) ys zero j v h = absurd (omega arith)
set_right (x ∷ xs) ys (suc k) j v h = ap (λ z. x ∷ z) (set_right xs ys k j v (omega arith))

-- a list of links is one where there are more links, and its links are among the first ones
pub chain_more : (next more : List ℕ) (from : ℕ) (links : List ℕ) → IsChain next from links → IsChain (next ++ more) from links
chain_more next more from [] h = h
chain_more next more from (x ∷ xs) (here, within, rest) =
    (here, (let n = length-append next more in omega arith), rw (index_left next more x within) (chain_more next more (slice_index next x) xs rest))

pub chain_within : (next : List ℕ) (from : ℕ) (links : List ℕ) (k : ℕ) → IsChain next from links → Contains links k → k < length next
chain_within next from [] k h c = absurd (contains_nothing k c)
chain_within next from (x ∷ xs) k (here, within, rest) c =
    elim (contains_cases x k xs c) [
      | inl e ↦ rw e within
      | inr m ↦ chain_within next (slice_index next x) xs k rest m
    ]

-- two links are taken for links that were taken out
pub extended : (next heads owner_of : List ℕ) (lists : List (List ℕ)) → IsLinked next heads owner_of end_of_list [] lists
    → IsLinked (next ++ (length next + 1) ∷ end_of_list ∷ []) heads (owner_of ++ 0 ∷ 0 ∷ []) (length next) (length next ∷ (length next + 1) ∷ []) lists
extended next heads owner_of lists l = record {
  owners = l.owners;
  long = (let a = length-append next ((length next + 1) ∷ end_of_list ∷ []) in let b = length-append owner_of (0 ∷ 0 ∷ []) in let c = l.long in omega arith);
  chains = λ o h. chain_more next more (slice_index heads o) (list_of lists o) (l.chains o h);
  out_chain = (refl, within (length next) 0 (omega arith) (omega arith), rw at_first (refl, within (length next + 1) 1 refl (omega arith), at_second));
  owned = λ o k h c. rw (index_left owner_of (0 ∷ 0 ∷ []) k (old o k h c)) (l.owned o k h c);
  apart = λ o k h c out. (let q = old o k h c in let r = l.long in elim (contains_cases (length next) k ((length next + 1) ∷ []) out) [
    | inl e ↦ omega arith
    | inr m ↦ elim (contains_cases (length next + 1) k [] m) [ inl e ↦ omega arith | inr n ↦ contains_nothing k n ]
  ]);
  listed = listed;
  total = (let t = l.total in let a = length-append next ((length next + 1) ∷ end_of_list ∷ []) in omega arith);
}
  where
    more : List ℕ
    more = (length next + 1) ∷ end_of_list ∷ []

    within : (k j : ℕ) → k ≡ length next + j → j < 2 → k < length (next ++ (length next + 1) ∷ end_of_list ∷ [])
    within k j e h = let a = length-append next ((length next + 1) ∷ end_of_list ∷ []) in omega arith

    at_first : slice_index (next ++ (length next + 1) ∷ end_of_list ∷ []) (length next) ≡ length next + 1
    at_first = index_right next ((length next + 1) ∷ end_of_list ∷ []) (length next) 0 (omega arith)

    at_second : slice_index (next ++ (length next + 1) ∷ end_of_list ∷ []) (length next + 1) ≡ end_of_list
    at_second = index_right next ((length next + 1) ∷ end_of_list ∷ []) (length next + 1) 1 (omega arith)

    old : (o k : ℕ) → o < length heads → Contains (list_of lists o) k → k < length owner_of
    old o k h c = let q = chain_within next (slice_index heads o) (list_of lists o) k (l.chains o h) c in let r = l.long in omega arith

    listed : (k : ℕ) → k < length (next ++ (length next + 1) ∷ end_of_list ∷ []) → Contains (length next ∷ (length next + 1) ∷ []) k ⊎ ((slice_index (owner_of ++ 0 ∷ 0 ∷ []) k < length heads) × Contains (list_of lists (slice_index (owner_of ++ 0 ∷ 0 ∷ []) k)) k)
    listed k h = elim (cases_lt k (length next)) [
      | inl lt ↦ rw (index_left owner_of (0 ∷ 0 ∷ []) k (let r = l.long in omega arith)) (elim (l.listed k lt) [
        | inl m ↦ absurd (contains_nothing k m)
        | inr q ↦ inr q
      ])
      | inr ge ↦ inl (elim (cases_eq k (length next)) [
        | inl e ↦ rw e (contains_head (length next) ((length next + 1) ∷ []))
        | inr other ↦
            let a = length-append next ((length next + 1) ∷ end_of_list ∷ []) in
            let e : k ≡ length next + 1 = omega arith in
            rw e (contains_tail (length next) (length next + 1) ((length next + 1) ∷ []) (contains_head (length next + 1) []))
      ])
    ]

-- and each is put into its owner's list
pub laid : (before grown first after : LinksView) (a b : ℕ)
    → length before.next + 2 ≤ end_of_list → a < length before.heads → b < length before.heads → length before.owner_of ≡ length before.next
    → grown.next ≡ before.next ++ (length before.next + 1) ∷ end_of_list ∷ [] → grown.heads ≡ before.heads → grown.owner_of ≡ before.owner_of ++ 0 ∷ 0 ∷ []
    → first.next ≡ set grown.next (length before.next) (slice_index grown.heads a) → first.heads ≡ set grown.heads a (length before.next) → first.owner_of ≡ set grown.owner_of (length before.next) a
    → after.next ≡ set first.next (length before.next + 1) (slice_index first.heads b) → after.heads ≡ set first.heads b (length before.next + 1) → after.owner_of ≡ set first.owner_of (length before.next + 1) b
    → IsLaid before a b after
laid before grown first after a b small a_in b_in long gn gh go fn fh fo an ah ao = record {
  next = longer;
  small = (let q = longer in omega arith);
  heads = rw (ah, length-set, fh, length-set, gh) refl;
  owners = rw (ao, fo, go) (ap (λ z. set z (length before.next + 1) b) (set_right before.owner_of (0 ∷ 0 ∷ []) (length before.next) 0 a (omega arith)) ∙ set_right before.owner_of (a ∷ 0 ∷ []) (length before.next + 1) 1 b (omega arith));
  linked = λ lists l. linked lists l;
}
  where
    longer : length after.next ≡ length before.next + 2
    longer = rw (an, length-set, fn, length-set, gn) (let q = length-append before.next ((length before.next + 1) ∷ end_of_list ∷ []) in omega arith)

    linked : (lists : List (List ℕ)) → IsLinked before.next before.heads before.owner_of end_of_list [] lists → (more : List (List ℕ)) × IsLinked after.next after.heads after.owner_of end_of_list [] more
    linked lists l =
        let n = length before.next in
        let e : IsLinked grown.next grown.heads grown.owner_of n (n ∷ (n + 1) ∷ []) lists = rw (gn, gh, go) (extended before.next before.heads before.owner_of lists l) in
        let grown_small : length grown.next ≤ end_of_list = rw gn (let q = length-append before.next ((length before.next + 1) ∷ end_of_list ∷ []) in omega arith) in
        let one = relinked grown.next grown.heads grown.owner_of n n ((n + 1) ∷ []) lists a grown_small (rw gh a_in) e in
        let at_one : slice_index grown.next n ≡ n + 1 = e.out_chain.2.0 in
        let step : IsLinked first.next first.heads first.owner_of (n + 1) ((n + 1) ∷ []) (set lists a (n ∷ list_of lists a)) = rw (fn, fh, fo) (rw at_one at one) in
        let first_small : length first.next ≤ end_of_list = rw (fn, length-set) grown_small in
        let two = relinked first.next first.heads first.owner_of (n + 1) (n + 1) [] (set lists a (n ∷ list_of lists a)) b first_small (rw (fh, length-set, gh) b_in) step in
        let over : slice_index first.next (n + 1) ≡ end_of_list = two.out_chain in
        (set (set lists a (n ∷ list_of lists a)) b ((n + 1) ∷ list_of (set lists a (n ∷ list_of lists a)) b), rw (an, ah, ao, ← over) two)

-- no links are lists without links
pub no_links : (owners : ℕ) → IsLinked [] (replicate owners end_of_list) [] end_of_list [] (replicate owners [])
no_links owners = record {
  owners = length-replicate {A = List ℕ} owners [] ∙ sym (length-replicate owners end_of_list);
  long = refl;
  chains = λ o h. let within : o < owners = (rw length-replicate at h) in rw (get_or-replicate owners o end_of_list 0 within, get_or-replicate {A = List ℕ} owners o [] [] within) refl;
  out_chain = refl;
  owned = λ o k h c. absurd (nothing o k (rw length-replicate at h) c);
  apart = λ o k h c out. contains_nothing k out;
  listed = λ k h. absurd (omega arith);
  total = (let t = sum_by-replicate {X = List ℕ} (length {A = ℕ}) owners [] in omega arith);
}
  where
    nothing : (o k : ℕ) → o < owners → Contains (list_of (replicate owners []) o) k → ⊥
    nothing o k within c = contains_nothing k (rw (get_or-replicate {A = List ℕ} owners o [] [] within) at c)
