-- Two items of a list change places.
use Rattle.std.proofs.Common.{◌≡◌, ◌≢◌, ℕ, ◌<◌, ◌≤◌, inl, inr, List, length, set, get_or, ap, sym, ◌∙◌, subst, arith, get_or-set_same, get_or-set_other}
use Rattle.std.proofs.Math.ListN.{length-set}
use Rattle.std.proofs.lemmas.Bool.{cases_eq}
use Rattle.trail_state.specs.Heaps.{IsPlaced, IsReordered}
use Rattle.trail_state.proofs.Places.{member_at, at_member, place_is}

-- after two writes: the later place
pub at_last : (xs : List ℕ) (p q x y : ℕ) → q < length xs → get_or (set (set xs p x) q y) q 0 ≡ y
at_last xs p q x y h = get_or-set_same (set xs p x) q y 0 (omega (arith, length-set xs p x))

-- the earlier place
at_first : (xs : List ℕ) (p q x y : ℕ) → p < length xs → p ≢ q → get_or (set (set xs p x) q y) p 0 ≡ x
at_first xs p q x y h ne = get_or-set_other (set xs p x) q p y 0 ne ∙ get_or-set_same xs p x 0 h

-- any other place
at_other : (xs : List ℕ) (p q x y k : ℕ) → k ≢ p → k ≢ q → get_or (set (set xs p x) q y) k 0 ≡ get_or xs k 0
at_other xs p q x y k np nq = get_or-set_other (set xs p x) q k y 0 nq ∙ get_or-set_other xs p k x 0 np

module _ (items : List ℕ) (i j a b : ℕ) (i_in : i < length items) (j_in : j < length items) (at_i : get_or items i 0 ≡ a) (at_j : get_or items j 0 ≡ b) where
  swapped : List ℕ
  swapped = set (set items i b) j a

  long : length (set (set items i b) j a) ≡ length items
  long = length-set (set items i b) j a ∙ length-set items i b

  -- the same items
  pub reordered_by_swap : IsReordered items (set (set items i b) j a)
  reordered_by_swap = record {
    kept = λ u m.
        let r = member_at items u m in
        elim (cases_eq r.0 i) [
          | inl e ↦
              let same : a ≡ u = sym at_i ∙ (ap (λ z. get_or items z 0) (sym e) ∙ r.2) in
              at_member (set (set items i b) j a) j u (omega (arith, long)) (at_last items i j b a j_in ∙ same)
          | inr apart ↦ elim (cases_eq r.0 j) [
            | inl e ↦
                let same : b ≡ u = sym at_j ∙ (ap (λ z. get_or items z 0) (sym e) ∙ r.2) in
                let ne : i ≢ j = λ z. apart (e ∙ sym z) in
                at_member (set (set items i b) j a) i u (omega (arith, long)) (at_first items i j b a i_in ne ∙ same)
            | inr ne ↦ at_member (set (set items i b) j a) r.0 u (omega (arith, long)) (at_other items i j b a r.0 apart ne ∙ r.2)
          ]
        ];
    from = λ u m.
        let r = member_at (set (set items i b) j a) u m in
        elim (cases_eq r.0 j) [
          | inl e ↦
              let same : a ≡ u = sym (at_last items i j b a j_in) ∙ (ap (λ z. get_or (set (set items i b) j a) z 0) (sym e) ∙ r.2) in
              at_member items i u i_in (at_i ∙ same)
          | inr ne ↦ elim (cases_eq r.0 i) [
            | inl e ↦
                let same : b ≡ u = sym (at_first items i j b a i_in (λ z. ne (e ∙ z))) ∙ (ap (λ z. get_or (set (set items i b) j a) z 0) (sym e) ∙ r.2) in
                at_member items j u j_in (at_j ∙ same)
            | inr apart ↦ at_member items r.0 u (omega (arith, long)) (sym (at_other items i j b a r.0 apart ne) ∙ r.2)
          ]
        ];
    count = long;
  }

  -- and the places follow
  pub placed_swap : (places : List ℕ) → IsPlaced items places → IsPlaced (set (set items i b) j a) (set (set places b i) a j)
  placed_swap places placed = record {
    small = let f = placed.small in omega (arith, places_long);
    few = let f = placed.few in omega (arith, long, places_long);
    range = λ k h. rw places_long (elim (cases_eq k j) [
      | inl e ↦ subst (λ z. (1 ≤ z) × (z < length places)) (sym (rw e (at_last items i j b a j_in))) a_range
      | inr ne ↦ elim (cases_eq k i) [
        | inl e ↦ subst (λ z. (1 ≤ z) × (z < length places)) (sym (rw e (at_first items i j b a i_in (λ z. ne (e ∙ z))))) b_range
        | inr apart ↦ subst (λ z. (1 ≤ z) × (z < length places)) (sym (at_other items i j b a k apart ne)) (placed.range k (omega (arith, long)))
      ]
    ]);
    forth = λ k h. elim (cases_eq k j) [
      | inl e ↦ rw e (rw (at_last items i j b a j_in) (at_last places b a i j a_in))
      | inr ne ↦ elim (cases_eq k i) [
        | inl e ↦ rw e (rw (at_first items i j b a i_in (λ z. ne (e ∙ z))) (at_first places b a i j b_in (λ z. ne (e ∙ one z))))
        | inr apart ↦
            rw (at_other items i j b a k apart ne)
            (at_other places b a i j (get_or items k 0) (λ z. ne (sym (place_is items places placed k b (omega (arith, long)) z) ∙ place_b)) (λ z. apart (sym (place_is items places placed k a (omega (arith, long)) z) ∙ place_a)) ∙ placed.forth k (omega (arith, long)))
      ]
    ];
    back = λ v le0 ne. let le : v < length places = omega (arith, places_long) in elim (cases_eq v a) [
      | inl e ↦
          let g : get_or (set (set places b i) a j) v 0 ≡ j = rw e (at_last places b a i j a_in) in
          rw g (omega (arith, long), at_last items i j b a j_in ∙ sym e)
      | inr not_a ↦ elim (cases_eq v b) [
        | inl e ↦
            let g : get_or (set (set places b i) a j) v 0 ≡ i = rw e (at_first places b a i j b_in (λ z. not_a (e ∙ z))) in
            rw g (omega (arith, long), at_first items i j b a i_in (λ z. not_a (e ∙ (sym at_j ∙ (ap (λ w. get_or items w 0) (sym z) ∙ at_i)))) ∙ sym e)
        | inr not_b ↦
            let g : get_or (set (set places b i) a j) v 0 ≡ get_or places v 0 = at_other places b a i j v not_b not_a in
            let p = placed.back v le (λ z. ne (g ∙ z)) in
            rw g (omega (arith, long), at_other items i j b a (get_or places v 0) (λ z. not_a (sym p.1 ∙ (ap (λ w. get_or items w 0) z ∙ at_i))) (λ z. not_b (sym p.1 ∙ (ap (λ w. get_or items w 0) z ∙ at_j))) ∙ p.1)
      ]
    ];
  }
    where
      places_long : length (set (set places b i) a j) ≡ length places
      places_long = length-set (set places b i) a j ∙ length-set places b i

      a_range : (1 ≤ a) × (a < length places)
      a_range = subst (λ z. (1 ≤ z) × (z < length places)) at_i (placed.range i i_in)

      b_range : (1 ≤ b) × (b < length places)
      b_range = subst (λ z. (1 ≤ z) × (z < length places)) at_j (placed.range j j_in)

      a_in : a < length places
      a_in = a_range.1

      b_in : b < length places
      b_in = b_range.1

      place_a : get_or places a 0 ≡ i
      place_a = place_is items places placed i a i_in at_i

      place_b : get_or places b 0 ≡ j
      place_b = place_is items places placed j b j_in at_j

      one : b ≡ a → i ≡ j
      one z = sym place_a ∙ (ap (λ w. get_or places w 0) (sym z) ∙ place_b)
