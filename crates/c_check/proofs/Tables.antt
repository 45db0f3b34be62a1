-- A table of what functions come to, callees before their callers: more fuel changes nothing.
use Rattle.std.proofs.Common.{◌≡◌, ◌∙◌, ◌≢◌, ◌≤◌, ◌<◌, ◌⊎◌, inl, inr, ◌+◌, ◌-◌, ◌||◌, ℕ, zero, suc, refl, ap, sym, subst, List, [], ◌∷◌, Bool, true, false, length, set, Option, Some, None, arith, length-set}
use Rattle.std.specs.Prelude.{slice_get, eqb}
use Rattle.std.specs.List.{IsDistinct, list_any}
use Rattle.std.proofs.lemmas.List.Elements.{recursion_from_All}
use Rattle.std.proofs.lemmas.Option.{slice_get_within, slice_get-get_or, same_Some}
use Rattle.std.proofs.lemmas.Bool.Decides.{nat_tests}
use Rattle.std.proofs.lemmas.Map.Steps.{length-le_from_distinct_below}
use Rattle.std.proofs.Common.{get_or, replicate}
use Rattle.std.proofs.lemmas.List.{length-map}
use Rattle.dg_base.proofs.Lists.{get_set_other, get_set_same}
use Rattle.axiom_model.specs.Sorting.{NoRepeats, IsOrderOf}
use Rattle.c_tree.specs.declared.program.Item.{Item}
use Rattle.c_tree.specs.declared.program.Item.TheVariants as item
use Rattle.c_rules.specs.Names.{Name}
use Rattle.c_rules.specs.declared.names.Entry.{Entry}
use Rattle.c_check.specs.declared.counts.Counts.{Counts}
use Rattle.c_check.specs.Recursion.{number_of, called_by, Calls}
use Rattle.c_check.specs.Graph.{callees_in, callees_of}
use Rattle.c_check.specs.Counts.{exact, no_counts, top_before, item_counts, counts_at, at_number, counts_named, counts_within}
use Rattle.c_check.specs.Capped.{capped_counts, capped_sums, counts_or_none, table_at, table_named}
use Rattle.c_check.specs.Ordering.{IsCallOrder, Holds}
use Rattle.c_check.proofs.SameCost.{Knows}
use Rattle.c_check.proofs.SameWalk.{body_capped}
use Rattle.c_check.proofs.Edges.{called, number_from_below}

-- an order is no longer than what it orders
differs : (x y : ℕ) → (x ≡ y → ⊥) → eqb x y ≡ false
differs x y h = grind (arith, nat_tests)

distinct : (l : List ℕ) → NoRepeats l → IsDistinct eqb l
unfolding IsDistinct
distinct [] o = tt
distinct (x ∷ xs) o = (
  recursion_from_All (λ y. eqb x y ≡ false) xs (λ k d h. differs x (get_or xs k d) (λ e.
      let q : zero ≡ suc k = o zero (suc k) x refl (slice_get-get_or xs k d h ∙ ap Some (sym e)) in absurd (omega arith))),
  distinct xs (λ i j v a b. let q : suc i ≡ suc j = o (suc i) (suc j) v a b in omega arith),
)

same_test : (x y : ℕ) → eqb x y ≡ true → x ≡ y
same_test x y h = grind (arith, nat_tests)

found_below : (q x n : ℕ) (b : Bool) (r : Bool) → eqb q x ≡ b → x < n → (r ≡ true → q < n) → (b || r) ≡ true → q < n
found_below q x n true r e h k t = let s = same_test q x e in omega arith
found_below q x n false r e h k t = k t

any_below : (q n : ℕ) (xs : List ℕ) → ((i v : ℕ) → slice_get xs i ≡ Some v → v < n) → list_any (eqb q) xs ≡ true → q < n
any_below q n [] h t = absurd (cc)
any_below q n (x ∷ xs) h t = found_below q x n (eqb q x) (list_any (eqb q) xs) refl (h zero x refl) (any_below q n xs (λ i v e. h (suc i) v e)) t

pub order_short : (n : ℕ) (l : List ℕ) → IsOrderOf n l → length l ≤ n
order_short n l o = length-le_from_distinct_below l n (distinct l o.once) (λ q t. any_below q n l o.sound t)

named_capped : (m k : ℕ) (items : List Item) (table : List Counts) (o : Option ℕ) → ((j : ℕ) → o ≡ Some j → table_at table j ≡ capped_counts (counts_within m k items j))
    → at_number (table_at table) o ≡ capped_counts (at_number (counts_within m k items) o)
named_capped m k items table None h = refl
named_capped m k items table (Some j) h = h j refl

item_capped : (k : ℕ) (body known : Name → Counts) (top : List Entry) (o : Option Item)
    → ((f : _) → o ≡ Some (item.Function f) → Knows body known (called_by f))
    → item_counts capped_sums k known top o ≡ capped_counts (item_counts exact k body top o)
item_capped k body known top None h = refl
item_capped k body known top (Some (item.Function f)) h = body_capped k body known top f (h f refl)
item_capped k body known top (Some (item.Prototype p w n)) h = refl
item_capped k body known top (Some (item.Shared d)) h = refl

-- what is computed from the table is right, for fuel that is one more
computed : (m k : ℕ) (items : List Item) (order : List ℕ) (table : List Counts) (from v : ℕ) → IsCallOrder items order → Holds k items order table (suc from)
    → slice_get order from ≡ Some v → length order ≤ m + suc from
    → counts_at capped_sums k (table_named items table) items v ≡ capped_counts (counts_within (suc m) k items v)
computed m k items order table from v o h e l =
    item_capped k (counts_named (counts_within m k items) items) (table_named items table) (top_before items v) (slice_get items v)
    (λ f s n c. named_capped m k items table (number_of items n) (λ j q.
    let call : Calls items v j = record { caller = f; stands = s; name = n; called = c; callee = q } in
    let g = o.ordered.forward v j (called items v j call) in
    let r : from ≡ g.0 = o.ordered.whole.once from g.0 v e g.3 in
    h.right g.1 j m g.4 (omega (arith, g.2)) l))

same_or_other : (u v : ℕ) → (u ≡ v) ⊎ (u ≢ v)
same_or_other u v = grind arith

enough : (k : ℕ) (items : List Item) (order : List ℕ) (table : List Counts) (from v m : ℕ) → IsCallOrder items order → Holds k items order table (suc from)
    → slice_get order from ≡ Some v → length order ≤ m + from
    → counts_at capped_sums k (table_named items table) items v ≡ capped_counts (counts_within m k items v)
enough k items order table from v zero o h e l = let w : suc from ≤ length order = h.within in absurd (omega arith)
enough k items order table from v (suc m) o h e l = computed m k items order table from v o h e (omega arith)

pub in_order : (items : List Item) (order : List ℕ) (p v : ℕ) → IsCallOrder items order → slice_get order p ≡ Some v → v < length items
in_order items order p v o e = let b : v < length (callees_of items) = o.ordered.whole.sound p v e in omega (arith, length-map items (callees_in items))

pub table_step : (k : ℕ) (items : List Item) (order : List ℕ) (table : List Counts) (from v : ℕ) (c : Counts) → IsCallOrder items order → Holds k items order table (suc from)
    → slice_get order from ≡ Some v → c ≡ counts_at capped_sums k (table_named items table) items v → Holds k items order (set table v c) from
table_step k items order table from v c o h e q = record {
  size = length-set table v c ∙ h.size;
  within = let w : suc from ≤ length order = h.within in omega arith;
  right = λ p u m a b l. elim (same_or_other p from) [
    | inl s ↦
        let y : v ≡ u = same_Some v u (sym e ∙ (ap (slice_get order) (sym s) ∙ a)) in
        let i : v < length table = let j = in_order items order from v o e in omega (arith, h.size) in
        ap (table_at (set table v c)) (sym y)
        ∙ (ap counts_or_none (get_set_same table v c i)
        ∙ (q ∙ (enough k items order table from v m o h e l ∙ ap (λ w. capped_counts (counts_within m k items w)) y)))
    | inr n ↦
        let d : u ≢ v = λ z. n (o.ordered.whole.once p from v (a ∙ ap Some z) e) in
        let f : suc from ≤ p = omega arith in
        ap counts_or_none (get_set_other table v u c d) ∙ h.right p u m a f (omega arith)
  ];
}

length_replicate : {X : Type 0} (n : ℕ) (x : X) → length (replicate n x) ≡ n
length_replicate zero x = refl
length_replicate (suc n) x = omega (arith, length_replicate n x)

pub table_begins : (k : ℕ) (items : List Item) (order : List ℕ) (table : List Counts) → table ≡ replicate (length items) no_counts → Holds k items order table (length order)
table_begins k items order table e = record {
  size = ap (length {A = Counts}) e ∙ length_replicate (length items) no_counts;
  within = omega arith;
  right = λ p v m a b l. let w = slice_get_within order p v a in absurd (omega arith);
}

-- at the end the table is right for the fuel of the definition
pub table_right : (k : ℕ) (items : List Item) (order : List ℕ) (table : List Counts) (n : Name) → IsCallOrder items order → Holds k items order table 0
    → table_named items table n ≡ capped_counts (counts_named (counts_within (length items) k items) items n)
table_right k items order table n o h =
    named_capped (length items) k items table (number_of items n) (λ j q.
    let b : j < 0 + length items = number_from_below 0 items n j q in
    let c = o.ordered.whole.complete j (let z : j < length (callees_of items) = omega (arith, length-map items (callees_in items)) in z) in
    let s : length order ≤ length (callees_of items) = order_short (length (callees_of items)) order o.ordered.whole in
    h.right c.0 j (length items) c.1 (omega arith) (omega (arith, length-map items (callees_in items))))

pub table_next : (k : ℕ) (items : List Item) (order : List ℕ) (table seen new : List Counts) (left : ℕ) (c : Counts) → 0 < left → IsCallOrder items order → Holds k items order table left
    → seen ≡ table → c ≡ counts_at capped_sums k (table_named items seen) items (get_or order (left - 1) 0) → new ≡ set table (get_or order (left - 1) 0) c
    → Holds k items order new (left - 1)
table_next k items order table seen new left c p o h s q e =
    let w : left ≤ length order = h.within in
    let i : left - 1 < length order = omega arith in
    let r : left ≡ suc (left - 1) = omega arith in
    subst (λ (l : List Counts). Holds k items order l (left - 1)) (sym e)
    (table_step k items order table (left - 1) (get_or order (left - 1) 0) c o (subst (Holds k items order table) r h) (slice_get-get_or order (left - 1) 0 i)
    (q ∙ ap (λ (l : List Counts). counts_at capped_sums k (table_named items l) items (get_or order (left - 1) 0)) s))

pub table_ends : (k : ℕ) (items : List Item) (order : List ℕ) (table : List Counts) (left : ℕ) → left ≤ 0 → Holds k items order table left → Holds k items order table 0
table_ends k items order table left l h = let e : left ≡ 0 = omega arith in subst (Holds k items order table) e h
