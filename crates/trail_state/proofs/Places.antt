-- A list of variables with the place of each.
use Rattle.std.proofs.Common.{◌≡◌, ◌≢◌, ℕ, zero, suc, ◌+◌, ◌-◌, ◌<◌, ◌≤◌, inl, inr, List, [], ◌∷◌, ◌++◌, length, take, drop, set, get_or, refl, ap, sym, ◌∙◌, subst, arith, get_or-set_same, get_or-set_other}
use Rattle.std.specs.Prelude.{Contains}
use Rattle.std.proofs.lemmas.List.{drop_all, append-nil, take_all, length-take, length_push, get_or_push, get_or_append_left, get_or-take}
use Rattle.std.proofs.Math.ListN.{length-set}
use Rattle.std.proofs.lemmas.List.Elements.{Contains-get_or}
use Rattle.std.proofs.lemmas.Bool.{cases_eq}
use Rattle.trail_state.specs.Heaps.{IsPlaced, IsWithout, IsReordered, IsFull, nowhere}

-- where a member stands
pub member_at : (items : List ℕ) (v : ℕ) → Contains items v → (i : ℕ) × (i < length items) × (get_or items i 0 ≡ v)
member_at [] v (k, h, e) = absurd (omega arith)
member_at (x ∷ xs) v (zero, h, e) = (0, omega arith, e)
member_at (x ∷ xs) v (suc k, h, e) = let r = member_at xs v (k, omega arith, e) in (suc r.0, omega arith, r.2)

-- what stands at a place is a member
pub at_member : (items : List ℕ) (i v : ℕ) → i < length items → get_or items i 0 ≡ v → Contains items v
at_member items i v h e = subst (λ z. Contains items z) e (Contains-get_or items i 0 h)

module _ (items places : List ℕ) (placed : IsPlaced items places) where
  -- a variable at place i has that place
  pub place_is : (i v : ℕ) → i < length items → get_or items i 0 ≡ v → get_or places v 0 ≡ i
  place_is i v h e = ap (λ z. get_or places z 0) (sym e) ∙ placed.forth i h

  -- a member has a place
  pub placed_member : (v : ℕ) → Contains items v → (get_or places v 0 < length items) × (get_or items (get_or places v 0) 0 ≡ v)
  placed_member v m =
      let r = member_at items v m in
      let e : get_or places v 0 ≡ r.0 = place_is r.0 v r.1 r.2 in
      (omega arith, rw e r.2)

  -- what has a place is a member
  pub member_placed : (v : ℕ) → v < length places → get_or places v 0 ≢ nowhere → Contains items v
  member_placed v le ne = let b = placed.back v le ne in at_member items (get_or places v 0) v b.0 b.1

  -- what is no member has no place
  pub unplaced : (v : ℕ) → v < length places → ¬ Contains items v → get_or places v 0 ≡ nowhere
  unplaced v le free = elim (cases_eq (get_or places v 0) nowhere) [ inl e ↦ e | inr ne ↦ absurd (free (member_placed v le ne)) ]

  -- a member is one of the variables
  pub member_range : (v : ℕ) → Contains items v → (1 ≤ v) × (v < length places)
  member_range v m = let r = member_at items v m in subst (λ z. (1 ≤ z) × (z < length places)) r.2 (placed.range r.0 r.1)

  -- one more item behind the others
  pub placed_push : (v : ℕ) → 1 ≤ v → v < length places → ¬ Contains items v → length items + 1 < length places → IsPlaced (items ++ v ∷ []) (set places v (length items))
  placed_push v low high free room = record {
    small = let f = placed.small in omega (arith, length-set places v (length items));
    few = omega (arith, length_push items v, length-set places v (length items));
    range = λ i h. elim (cases_eq i (length items)) [
      | inl e ↦ let g = get_or_push items v 0 i (sym e) in (omega arith, omega (arith, length-set places v (length items)))
      | inr ne ↦
          let lt : i < length items = omega (arith, length_push items v) in
          let g = get_or_append_left items (v ∷ []) 0 i lt in
          let r = placed.range i lt in
          (omega arith, omega (arith, length-set places v (length items)))
    ];
    forth = λ i h. elim (cases_eq i (length items)) [
      | inl e ↦ rw (get_or_push items v 0 i (sym e)) (get_or-set_same places v (length items) 0 within ∙ sym e)
      | inr ne ↦
          let lt : i < length items = omega (arith, length_push items v) in
          rw (get_or_append_left items (v ∷ []) 0 i lt)
          (get_or-set_other places v (get_or items i 0) (length items) 0 (λ e. free (at_member items i v lt e)) ∙ placed.forth i lt)
    ];
    back = λ u le0 ne. let le : u < length places = omega (arith, length-set places v (length items)) in elim (cases_eq u v) [
      | inl e ↦
          let g : get_or (set places v (length items)) u 0 ≡ length items = rw e (get_or-set_same places v (length items) 0 within) in
          rw g (omega (arith, length_push items v), get_or_push items v 0 (length items) refl ∙ sym e)
      | inr apart ↦
          let g : get_or (set places v (length items)) u 0 ≡ get_or places u 0 = get_or-set_other places v u (length items) 0 apart in
          let b = placed.back u le (λ z. ne (g ∙ z)) in
          rw g (omega (arith, length_push items v), get_or_append_left items (v ∷ []) 0 (get_or places u 0) b.0 ∙ b.1)
    ];
  }
    where
      within : v < length places
      within = high

  -- the last item leaves
  pub placed_pop : (v : ℕ) (n : ℕ) → length items ≡ n + 1 → get_or items n 0 ≡ v → IsPlaced (take n items) (set places v nowhere)
  placed_pop v n e last = record {
    small = let f = placed.small in omega (arith, length-set places v nowhere);
    few = let f = placed.few in omega (arith, length-take n items, length-set places v nowhere);
    range = λ i h.
        let lt : i < n = omega (arith, length-take n items) in
        let g = get_or-take n items i 0 lt in
        let r = placed.range i (omega arith) in
        (omega arith, omega (arith, length-set places v nowhere));
    forth = λ i h.
        let lt : i < n = omega (arith, length-take n items) in
        rw (get_or-take n items i 0 lt)
        (get_or-set_other places v (get_or items i 0) nowhere 0 (λ z. let p = place_is i v (omega arith) z in let q = place_is n v (omega arith) last in omega arith) ∙ placed.forth i (omega arith));
    back = λ u le0 ne. let le : u < length places = omega (arith, length-set places v nowhere) in elim (cases_eq u v) [
      | inl same ↦ absurd (ne (rw same (get_or-set_same places v nowhere 0 within)))
      | inr apart ↦
          let g : get_or (set places v nowhere) u 0 ≡ get_or places u 0 = get_or-set_other places v u nowhere 0 apart in
          let b = placed.back u le (λ z. ne (g ∙ z)) in
          let lt : get_or places u 0 < n = elim (cases_eq (get_or places u 0) n) [ inl same ↦ absurd (apart (sym b.1 ∙ rw same last)) | inr other ↦ omega arith ] in
          rw g (omega (arith, length-take n items), get_or-take n items (get_or places u 0) 0 lt ∙ b.1)
    ];
  }
    where
      within : v < length places
      within = let r = placed.range n (omega arith) in omega arith

  -- what the last item's leaving takes away
  pub without_last : (v : ℕ) (n : ℕ) → length items ≡ n + 1 → get_or items n 0 ≡ v → IsWithout v items (take n items)
  without_last v n e last = record {
    had = at_member items n v (omega arith) last;
    gone = λ m.
        let r = member_at (take n items) v m in
        let lt : r.0 < n = omega (arith, length-take n items) in
        let p = place_is r.0 v (omega arith) (sym (get_or-take n items r.0 0 lt) ∙ r.2) in
        let q = place_is n v (omega arith) last in
        omega arith;
    kept = λ u m ne.
        let r = member_at items u m in
        elim (cases_eq r.0 n) [
          | inl same ↦ absurd (ne (sym r.2 ∙ (ap (λ z. get_or items z 0) same ∙ last)))
          | inr other ↦
              let lt : r.0 < n = omega arith in
              at_member (take n items) r.0 u (omega (arith, length-take n items)) (get_or-take n items r.0 0 lt ∙ r.2)
        ];
    from = λ u m.
        let r = member_at (take n items) u m in
        let lt : r.0 < n = omega (arith, length-take n items) in
        at_member items r.0 u (omega arith) (sym (get_or-take n items r.0 0 lt) ∙ r.2);
    count = omega (arith, length-take n items);
  }

-- one more item
pub with_pushed : (items : List ℕ) (v : ℕ) → ¬ Contains items v → IsWithout v (items ++ v ∷ []) items
with_pushed items v free = record {
  had = at_member (items ++ v ∷ []) (length items) v (omega (arith, length_push items v)) (get_or_push items v 0 (length items) refl);
  gone = free;
  kept = λ u m ne.
      let r = member_at (items ++ v ∷ []) u m in
      elim (cases_eq r.0 (length items)) [
        | inl e ↦ absurd (ne (sym r.2 ∙ get_or_push items v 0 r.0 (sym e)))
        | inr other ↦
            let lt : r.0 < length items = omega (arith, length_push items v) in
            at_member items r.0 u lt (sym (get_or_append_left items (v ∷ []) 0 r.0 lt) ∙ r.2)
      ];
  from = λ u m.
      let r = member_at items u m in
      at_member (items ++ v ∷ []) r.0 u (omega (arith, length_push items v)) (get_or_append_left items (v ∷ []) 0 r.0 r.1 ∙ r.2);
  count = length_push items v;
}

-- the first n variables stand in their order
pub record IsFilled (n : ℕ) (items places : List ℕ) : Type 0 where
  pub items_long : length items ≡ n
  pub places_long : length places ≡ n + 1
  pub zeroth : get_or places 0 0 ≡ nowhere
  pub item : (k : ℕ) → k < n → get_or items k 0 ≡ k + 1
  pub place : (k : ℕ) → k < n → get_or places (k + 1) 0 ≡ k

-- one variable more
pub filled_push : (n : ℕ) (items places : List ℕ) → IsFilled n items places → IsFilled (n + 1) (items ++ (n + 1) ∷ []) (places ++ n ∷ [])
filled_push n items places f = record {
  items_long = omega (arith, length_push items (n + 1), f.items_long);
  places_long = omega (arith, length_push places n, f.places_long);
  zeroth = get_or_append_left places (n ∷ []) 0 0 (omega (arith, f.places_long)) ∙ f.zeroth;
  item = λ k h. elim (cases_eq k n) [
    | inl e ↦ get_or_push items (n + 1) 0 k (f.items_long ∙ sym e) ∙ ap (λ z. z + 1) (sym e)
    | inr ne ↦ get_or_append_left items ((n + 1) ∷ []) 0 k (omega (arith, f.items_long)) ∙ f.item k (omega arith)
  ];
  place = λ k h. elim (cases_eq k n) [
    | inl e ↦ get_or_push places n 0 (k + 1) (omega (arith, f.places_long)) ∙ sym e
    | inr ne ↦ get_or_append_left places (n ∷ []) 0 (k + 1) (omega (arith, f.places_long)) ∙ f.place k (omega arith)
  ];
}

-- such variables have their places
pub placed_filled : (n : ℕ) (items places : List ℕ) → n ≤ 2147483647 → IsFilled n items places → IsPlaced items places
placed_filled n items places small f = record {
  small = omega (arith, f.places_long);
  few = omega (arith, f.items_long, f.places_long);
  range = λ i h. let e = f.item i (omega (arith, f.items_long)) in (omega arith, omega (arith, f.places_long, f.items_long));
  forth = λ i h. let e = f.item i (omega (arith, f.items_long)) in rw e (f.place i (omega (arith, f.items_long)));
  back = λ v h ne. elim (cases_eq v 0) [
    | inl e ↦ absurd (ne (rw e f.zeroth))
    | inr other ↦
        let split : v ≡ (v - 1) + 1 = omega arith in
        let p : get_or places v 0 ≡ v - 1 = ap (λ z. get_or places z 0) split ∙ f.place (v - 1) (omega (arith, f.places_long)) in
        (omega (arith, f.items_long, f.places_long), rw p (f.item (v - 1) (omega (arith, f.places_long)) ∙ sym split))
  ];
}

-- and all are there
pub full_filled : (n : ℕ) (items places : List ℕ) → IsFilled n items places → IsFull n items
full_filled n items places f = record {
  has = λ v low high. at_member items (v - 1) v (omega (arith, f.items_long)) (let e = f.item (v - 1) (omega arith) in omega arith);
  from = λ v m. let r = member_at items v m in let e = f.item r.0 (omega (arith, f.items_long)) in (omega arith, omega (arith, f.items_long));
  count = f.items_long;
}

-- what a slice that was lent by a vector of its length leaves there
pub written_back : {X : Type 0} (n : ℕ) (xs ys : List X) → length xs ≡ length ys → n ≡ length ys → take n (xs ++ drop (length xs) ys) ≡ xs
written_back n xs ys e en = rw (drop_all (length xs) ys (omega arith), append-nil xs) (take_all n xs (omega arith))

-- reordered, and then without
pub without_reordered : {xs ys zs : List ℕ} {v : ℕ} → IsReordered xs ys → IsWithout v ys zs → IsWithout v xs zs
without_reordered r w = record {
  had = r.from _ w.had;
  gone = w.gone;
  kept = λ u m ne. w.kept u (r.kept u m) ne;
  from = λ u m. r.from u (w.from u m);
  count = let e = r.count in let f = w.count in omega arith;
}

-- without, and then reordered
pub reordered_without : {xs ys zs : List ℕ} {v : ℕ} → IsWithout v xs ys → IsReordered ys zs → IsWithout v xs zs
reordered_without w r = record {
  had = w.had;
  gone = λ m. w.gone (r.from _ m);
  kept = λ u m ne. r.kept u (w.kept u m ne);
  from = λ u m. w.from u (r.from u m);
  count = let e = r.count in let f = w.count in omega arith;
}

-- reordered twice
pub reordered_twice : {xs ys zs : List ℕ} → IsReordered xs ys → IsReordered ys zs → IsReordered xs zs
reordered_twice r s = record {
  kept = λ u m. s.kept u (r.kept u m);
  from = λ u m. r.from u (s.from u m);
  count = let e = r.count in let f = s.count in omega arith;
}

-- not reordered
pub reordered_never : (xs : List ℕ) → IsReordered xs xs
reordered_never xs = record { kept = λ u m. m; from = λ u m. m; count = refl }
