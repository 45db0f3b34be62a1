-- Rows, paths and edges; and what they say of calls.
use Rattle.std.proofs.Common.{◌≡◌, ◌∙◌, ◌<◌, ◌⊎◌, inl, inr, ◌+◌, ◌++◌, ℕ, zero, suc, refl, ap, sym, subst, List, [], ◌∷◌, map, length, get_or, drop, Option, Some, None, cond, Bool, true, false, arith, zero-add, append_assoc}
use Rattle.std.proofs.lemmas.List.{length-map}
use Rattle.std.specs.Prelude.{slice_get, All, option_map}
use Rattle.std.specs.List.{Contains, filter_map, cons_option}
use Rattle.std.proofs.lemmas.List.Elements.{Contains-append_left, Contains-append_right, Contains-append_cases, Contains-get_or, All-contains}
use Rattle.std.proofs.lemmas.Option.{slice_get_within, slice_get-map, same_Some, none-some}
use Rattle.std.specs.Str.{bytes_eq}
use Rattle.dg_base.proofs.Lists.{contains_head, contains_nothing, contains_place}
use Rattle.axiom_model.specs.Cycles.{Chain, Cycle}
use Rattle.axiom_model.specs.Sorting.{EndsBelow, HasEdge, IsOrderOf, GoesForward, IsSimpleCycle, IsAnswer}
use Rattle.axiom_model.specs.declared.sorting.Acyclic.{Acyclic}
use Rattle.axiom_model.specs.declared.sorting.Acyclic.TheVariants as is
use Rattle.c_tree.specs.declared.program.Function.{Function}
use Rattle.c_tree.specs.declared.program.Item.{Item}
use Rattle.c_tree.specs.declared.program.Item.TheVariants as item
use Rattle.c_rules.specs.Names.{Name}
use Rattle.c_check.specs.Recursion.{number_from, number_of, called_by, Calls, Leads, at_once, over, NoRecursion, IsFirstRecursive}
use Rattle.c_check.specs.Graph.{numbers_of, callees_in, callees_of, row_or_none, row_at, Path, one, next, IsClosed, IsFirstBack, edges_from}
use Rattle.c_check.specs.Ordering.{IsRowOrder, IsCallOrder}
use Rattle.c_check.proofs.Walking.{drop_cons}
use Rattle.dg_base.specs.declared.Place.{Place}

-- numbers of functions are numbers of items
by_test : (b : Bool) (i j m : ℕ) (o : Option ℕ) → (o ≡ Some j → j < i + 1 + m) → cond b (Some i) o ≡ Some j → j < i + suc m
by_test true i j m o h q = let k : i ≡ j = same_Some i j q in omega arith
by_test false i j m o h q = omega (arith, h q)

pub number_from_below : (i : ℕ) (xs : List Item) (n : Name) (j : ℕ) → number_from i xs n ≡ Some j → j < i + length xs
number_from_below i [] n j e = absurd (none-some j e)
number_from_below i (item.Function f ∷ xs) n j e = by_test (bytes_eq f.name n) i j (length xs) (number_from (i + 1) xs n) (number_from_below (i + 1) xs n j) e
number_from_below i (item.Prototype p w m ∷ xs) n j e = omega (arith, number_from_below (i + 1) xs n j e)
number_from_below i (item.Shared d ∷ xs) n j e = omega (arith, number_from_below (i + 1) xs n j e)

in_cons : {X : Type 0} (x : X) (xs : List X) (y : X) → Contains (x ∷ xs) y → (x ≡ y) ⊎ Contains xs y
in_cons x xs y (zero, h, e) = inl e
in_cons x xs y (suc i, h, e) = inr (i, omega arith, e)

-- a number among those of names is that of one of them, and the other way round
named_by : (items : List Item) (n : Name) (ns : List Name) (j : ℕ) (o : Option ℕ) → number_of items n ≡ o
    → (Contains (filter_map (number_of items) ns) j → (m : Name) × Contains ns m × (number_of items m ≡ Some j))
    → Contains (cons_option o (filter_map (number_of items) ns)) j → (m : Name) × Contains (n ∷ ns) m × (number_of items m ≡ Some j)
named_by items n ns j None e h c = let r = h c in (r.0, Contains-append_right (n ∷ []) ns r.0 r.1, r.2)
named_by items n ns j (Some i) e h c = elim (in_cons i (filter_map (number_of items) ns) j c) [
  | inl q ↦ (n, contains_head n ns, e ∙ ap Some q)
  | inr d ↦ let r = h d in (r.0, Contains-append_right (n ∷ []) ns r.0 r.1, r.2)
]

pub named : (items : List Item) (ns : List Name) (j : ℕ) → Contains (numbers_of items ns) j → (n : Name) × Contains ns n × (number_of items n ≡ Some j)
unfolding numbers_of
named items [] j c = absurd (contains_nothing j c)
named items (n ∷ ns) j c = named_by items n ns j (number_of items n) refl (named items ns j) c

naming_by : (items : List Item) (ns : List Name) (j : ℕ) (o : Option ℕ) → Contains (filter_map (number_of items) ns) j → Contains (cons_option o (filter_map (number_of items) ns)) j
naming_by items ns j None c = c
naming_by items ns j (Some i) c = Contains-append_right (i ∷ []) _ j c

pub naming : (items : List Item) (ns : List Name) (n : Name) (j : ℕ) → Contains ns n → number_of items n ≡ Some j → Contains (numbers_of items ns) j
unfolding numbers_of
naming items [] n j c e = absurd (contains_nothing n c)
naming items (m ∷ ns) n j c e = elim (in_cons m ns n c) [
  | inl q ↦ subst (λ o. Contains (cons_option o (filter_map (number_of items) ns)) j) (sym (ap (number_of items) q ∙ e)) (contains_head j _)
  | inr d ↦ naming_by items ns j (number_of items m) (naming items ns n j d e)
]

-- rows say what calls
row_of : (items : List Item) (i : ℕ) → row_at (callees_of items) i ≡ row_or_none (option_map (callees_in items) (slice_get items i))
row_of items i = ap row_or_none (slice_get-map (callees_in items) items i)

calls_by : (items : List Item) (i j : ℕ) (o : Option Item) → slice_get items i ≡ o → Contains (row_or_none (option_map (callees_in items) o)) j → Calls items i j
calls_by items i j None e c = absurd (contains_nothing j c)
calls_by items i j (Some (item.Function f)) e c =
    let r = named items (called_by f) j c in record { caller = f; stands = e; name = r.0; called = r.1; callee = r.2 }
calls_by items i j (Some (item.Prototype p w n)) e c = absurd (contains_nothing j c)
calls_by items i j (Some (item.Shared d)) e c = absurd (contains_nothing j c)

pub calls : (items : List Item) (i j : ℕ) → Contains (row_at (callees_of items) i) j → Calls items i j
calls items i j c = calls_by items i j (slice_get items i) refl (subst (λ (l : List ℕ). Contains l j) (row_of items i) c)

pub called : (items : List Item) (i j : ℕ) → Calls items i j → Contains (row_at (callees_of items) i) j
called items i j c =
    subst (λ (l : List ℕ). Contains l j) (sym (row_of items i ∙ ap (λ (o : Option Item). row_or_none (option_map (callees_in items) o)) c.stands))
    (naming items (called_by c.caller) c.name j c.called c.callee)

pub leads : (items : List Item) (i j : ℕ) → Path (callees_of items) i j → Leads items i j
leads items i j (one c) = at_once (calls items i j c)
leads items i j (next {m = m} c p) = over (calls items i m c) (leads items m j p)

pub path : (items : List Item) (i j : ℕ) → Leads items i j → Path (callees_of items) i j
path items i j (at_once c) = one (called items i j c)
path items i j (over {m = m} c p) = next (called items i m c) (path items m j p)

pub callees_closed : (items : List Item) → IsClosed (callees_of items)
callees_closed items i j c =
    let k = calls items i j c in
    let b : j < 0 + length items = number_from_below 0 items k.name j k.callee in
    omega (arith, length-map items (callees_in items))

-- a function stands where calls begin
pub stands : (items : List Item) (i j : ℕ) → Leads items i j → (f : Function) × (slice_get items i ≡ Some (item.Function f))
stands items i j (at_once c) = (c.caller, c.stands)
stands items i j (over c p) = (c.caller, c.stands)

row_within_by : (rows : List (List ℕ)) (i j : ℕ) (o : Option (List ℕ)) → slice_get rows i ≡ o → Contains (row_or_none o) j → i < length rows
row_within_by rows i j None e c = absurd (contains_nothing j c)
row_within_by rows i j (Some r) e c = slice_get_within rows i r e

row_within : (rows : List (List ℕ)) (i j : ℕ) → Contains (row_at rows i) j → i < length rows
row_within rows i j c = row_within_by rows i j (slice_get rows i) refl c

-- paths begin at rows
pub path_within : (rows : List (List ℕ)) (i j : ℕ) → Path rows i j → i < length rows
path_within rows i j (one c) = row_within rows i j c
path_within rows i j (next {m = m} c p) = row_within rows i m c

-- rows and edges
in_map : (i j : ℕ) (r : List ℕ) → Contains r j → Contains {X = ℕ × ℕ} (map (λ (x : ℕ). (i, x)) r) (i, j)
in_map i j [] c = absurd (contains_nothing j c)
in_map i j (x ∷ r) c = elim (in_cons x r j c) [
  | inl q ↦ subst (λ y. Contains {X = ℕ × ℕ} ((i, x) ∷ map (λ (x : ℕ). (i, x)) r) (i, y)) q (contains_head {X = ℕ × ℕ} (i, x) _)
  | inr d ↦ Contains-append_right {X = ℕ × ℕ} ((i, x) ∷ []) _ (i, j) (in_map i j r d)
]

from_map : (i : ℕ) (r : List ℕ) (e : ℕ × ℕ) → Contains (map (λ (x : ℕ). (i, x)) r) e → (e.0 ≡ i) × Contains r e.1
from_map i [] e c = absurd (contains_nothing e c)
from_map i (x ∷ r) e c = elim (in_cons (i, x) (map (λ (x : ℕ). (i, x)) r) e c) [
  | inl q ↦ (sym (ap (λ (p : ℕ × ℕ). p.0) q), subst (λ y. Contains (x ∷ r) y) (ap (λ (p : ℕ × ℕ). p.1) q) (contains_head x r))
  | inr d ↦ let k = from_map i r e d in (k.0, Contains-append_right (x ∷ []) r e.1 k.1)
]

pub edge_in : (n : ℕ) (rows : List (List ℕ)) (i j : ℕ) → Contains (row_at rows i) j → Contains {X = ℕ × ℕ} (edges_from n rows) (n + i, j)
edge_in n [] i j c = absurd (contains_nothing j c)
edge_in n (r ∷ rows) zero j c =
    let e : n ≡ n + 0 = omega arith in
    subst (λ x. Contains {X = ℕ × ℕ} (edges_from n (r ∷ rows)) (x, j)) e (Contains-append_left (map (λ (x : ℕ). (n, x)) r) (edges_from (n + 1) rows) (n, j) (in_map n j r c))
edge_in n (r ∷ rows) (suc i) j c =
    let e : n + 1 + i ≡ n + suc i = omega arith in
    Contains-append_right (map (λ (x : ℕ). (n, x)) r) (edges_from (n + 1) rows) (n + suc i, j)
    (subst (λ x. Contains {X = ℕ × ℕ} (edges_from (n + 1) rows) (x, j)) e (edge_in (n + 1) rows i j c))

pub edge_from : (n : ℕ) (rows : List (List ℕ)) (e : ℕ × ℕ) → Contains (edges_from n rows) e → (i : ℕ) × (e.0 ≡ n + i) × Contains (row_at rows i) e.1
edge_from n [] e c = absurd (contains_nothing e c)
edge_from n (r ∷ rows) e c = elim (Contains-append_cases (map (λ (x : ℕ). (n, x)) r) (edges_from (n + 1) rows) e c) [
  | inl d ↦ let k = from_map n r e d in (zero, omega (arith, k.0), k.1)
  | inr d ↦ let k = edge_from (n + 1) rows e d in (suc k.0, omega (arith, k.1), k.2)
]

row_edge : (rows : List (List ℕ)) (a b : ℕ) → HasEdge (edges_from 0 rows) a b → Contains (row_at rows a) b
row_edge rows a b h =
    let k = edge_from 0 rows (a, b) (contains_place (edges_from 0 rows) h.0 (a, b) h.1) in
    let q : k.0 ≡ a = omega (arith, k.1) in
    subst (λ x. Contains (row_at rows x) b) q k.2

pub edges_below : (rows : List (List ℕ)) → IsClosed rows → All (EndsBelow (length rows)) (edges_from 0 rows)
edges_below rows cl k d h =
    let r = edge_from 0 rows (get_or (edges_from 0 rows) k d) (Contains-get_or (edges_from 0 rows) k d h) in
    (omega (arith, r.1, row_within rows r.0 _ r.2), cl r.0 _ r.2)

chain_path : (rows : List (List ℕ)) (a : ℕ) (l : List ℕ) (b : ℕ) → Chain (HasEdge (edges_from 0 rows)) a l b → Path rows a b
chain_path rows a [] b c = one (row_edge rows a b c)
chain_path rows a (x ∷ l) b c = next (row_edge rows a x c.0) (chain_path rows x l b c.1)

cycle_path : (rows : List (List ℕ)) (l : List ℕ) → Cycle (HasEdge (edges_from 0 rows)) l → (i : ℕ) × Path rows i i
cycle_path rows [] c = absurd c
cycle_path rows (x ∷ l) c = (x, chain_path rows x l x c)

pub back_by_cycle : (rows : List (List ℕ)) (l : List ℕ) → IsSimpleCycle (edges_from 0 rows) l → (i : ℕ) × Path rows i i
back_by_cycle rows l h = cycle_path rows l h.cycle

pub ordered_rows : (rows : List (List ℕ)) (order : List ℕ) → IsOrderOf (length rows) order → All (GoesForward order) (edges_from 0 rows) → IsRowOrder rows order
ordered_rows rows order w f = record {
  whole = w;
  forward = λ i j c. All-contains (GoesForward order) (edges_from 0 rows) (i, j) f (subst (λ x. Contains {X = ℕ × ℕ} (edges_from 0 rows) (x, j)) (zero-add i) (edge_in 0 rows i j c));
}

-- paths go forward, so that none leads back
forward_path : (rows : List (List ℕ)) (order : List ℕ) → IsRowOrder rows order → (i j : ℕ) → Path rows i j → GoesForward order (i, j)
forward_path rows order o i j (one c) = o.forward i j c
forward_path rows order o i j (next {m = m} c p) =
    let a = o.forward i m c in
    let b = forward_path rows order o m j p in
    let q : a.1 ≡ b.0 = o.whole.once a.1 b.0 m a.4 b.3 in
    (a.0, b.1, omega (arith, a.2, b.2), a.3, b.4)

pub no_way_back : (rows : List (List ℕ)) (order : List ℕ) → IsRowOrder rows order → (i : ℕ) → Path rows i i → ⊥
no_way_back rows order o i p =
    let a = forward_path rows order o i i p in
    let q : a.0 ≡ a.1 = o.whole.once a.0 a.1 i a.3 a.4 in
    omega (arith, a.2)

pub straight : (items : List Item) (order : List ℕ) → IsRowOrder (callees_of items) order → NoRecursion items
straight items order o = λ i l. no_way_back (callees_of items) order o i (path items i i l)

-- a row of numbers of rows
pub row_bounded : (rows : List (List ℕ)) (i n : ℕ) (r : List ℕ) → IsClosed rows → slice_get rows i ≡ Some r → n ≡ length rows → All (λ v. v < n) r
row_bounded rows i n r cl e q k d h =
    let b : get_or r k d < length rows = cl i (get_or r k d) (subst (λ (o : Option (List ℕ)). Contains (row_or_none o) (get_or r k d)) (sym e) (Contains-get_or r k d h)) in
    omega arith

-- one more row
pub next_row : (rows : List (List ℕ)) (i n : ℕ) (r s : List ℕ) (a b w : List (ℕ × ℕ)) → i < length rows → r ≡ get_or rows i r → n ≡ i → s ≡ r
    → b ≡ a ++ map (λ (j : ℕ). (n, j)) s → a ++ edges_from i (drop i rows) ≡ w → b ++ edges_from (i + 1) (drop (i + 1) rows) ≡ w
next_row rows i n r s a b w h e p q k v =
    ap (λ (l : List (ℕ × ℕ)). l ++ edges_from (i + 1) (drop (i + 1) rows))
    (k ∙ (ap (λ (m : ℕ). a ++ map (λ (j : ℕ). (m, j)) s) p ∙ ap (λ (l : List ℕ). a ++ map (λ (j : ℕ). (i, j)) l) q))
    ∙ (append_assoc a (map (λ (j : ℕ). (i, j)) r) (edges_from (i + 1) (drop (i + 1) rows))
    ∙ (ap (λ (l : List (List ℕ)). a ++ edges_from i l) (sym (drop_cons rows i r h e)) ∙ v))

-- the first number from which rows lead back to it is that of a function
pub first_function : (items : List Item) (i : ℕ) (f : Function) (p : Place) → slice_get items i ≡ Some (item.Function f) → IsFirstBack (callees_of items) i → f.place ≡ p → IsFirstRecursive items p
first_function items i f p e h q = record {
  number = i;
  function = f;
  stands = e;
  recursive = leads items i i h.back;
  first = λ j l m. h.first j l (path items j j m);
  is = q;
}

-- there is a function
abbrev pub MatchItem : Option Item → Type 0
MatchItem (Some (item.Function f)) = Unit {0}
MatchItem _ = ⊥

no_function_by : (o : Option Item) (f : Function) → o ≡ Some (item.Function f) → MatchItem o
no_function_by o f e = subst MatchItem (sym e) tt

-- and nothing else
pub is_function : (items : List Item) (i : ℕ) → IsFirstBack (callees_of items) i → MatchItem (slice_get items i)
is_function items i h = let s = stands items i i (leads items i i h.back) in no_function_by (slice_get items i) s.0 s.1

pub rows_closed : (items : List Item) (rows : List (List ℕ)) → rows ≡ callees_of items → IsClosed rows
rows_closed items rows e = subst IsClosed (sym e) (callees_closed items)

pub call_ordered : (items : List Item) (rows : List (List ℕ)) (order : List ℕ) → rows ≡ callees_of items → IsRowOrder rows order → IsCallOrder items order
call_ordered items rows order e o =
    let q : IsRowOrder (callees_of items) order = subst (λ (r : List (List ℕ)). IsRowOrder r order) e o in
    record { straight = straight items order q; ordered = q }

pub rows_ordered : (rows : List (List ℕ)) (edges : List (ℕ × ℕ)) (n : ℕ) (order : List ℕ) (a : Acyclic) → a ≡ is.Sorted order → n ≡ length rows → edges ≡ edges_from 0 rows
    → IsAnswer n edges a → IsRowOrder rows order
rows_ordered rows edges n order a e q h s =
    let k : IsAnswer n edges (is.Sorted order) = subst (IsAnswer n edges) e s in
    ordered_rows rows order (subst (λ m. IsOrderOf m order) q k.0) (subst (All (GoesForward order)) h k.1)

pub other_item : (items : List Item) (rows : List (List ℕ)) (i : ℕ) (o : Option Item) → rows ≡ callees_of items → IsFirstBack rows i → slice_get items i ≡ o → MatchItem o
other_item items rows i o e h q = subst MatchItem q (is_function items i (subst (λ (r : List (List ℕ)). IsFirstBack r i) e h))
