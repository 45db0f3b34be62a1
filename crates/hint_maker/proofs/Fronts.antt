-- The first literals of a trail.
use Rattle.std.proofs.Common.{◌≡◌, ◌⊎◌, inl, inr, ℕ, zero, suc, ◌+◌, ◌<◌, ◌≤◌, List, [], ◌∷◌, ◌++◌, take, drop, Some, sym, subst, ap, ◌∙◌, add-one, arith}
use Rattle.std.specs.Prelude.{Contains, slice_get}
use Rattle.std.proofs.lemmas.List.{length-take, map-append, take-append-drop}
use Rattle.std.proofs.lemmas.List.Elements.{Contains-append_left, Contains-append_right, Contains-append_cases}
use Rattle.std.proofs.lemmas.Option.{slice_get_within}
use Rattle.dg_base.proofs.Lists.{contains_cases, contains_head, contains_nothing, contains_place, get_append_left, get_from_map, get_map, get_nothing, one_answer, place_of}
use Rattle.dg_base.specs.declared.Lit.{Lit}
use Rattle.cnf_problem.specs.Literals.{var}
use Rattle.trail_state.specs.Trails.{Assigned, IsWell, TrailView, lit_of, true_lits}
use Rattle.unit_refuter.proofs.Chaining.{take_next}

-- one more of a list
pub taken_more : {X : Type 0} (xs : List X) (n : ℕ) (x : X) → slice_get xs n ≡ Some x → take (n + 1) xs ≡ take n xs ++ x ∷ []
taken_more xs n x e = ap (λ k. take k xs) (add-one n) ∙ take_next xs n x e

-- what is in a list with one more is in the list, or that one
pub push_cases : {X : Type 0} (xs : List X) (x y : X) → Contains (xs ++ x ∷ []) y → Contains xs y ⊎ (y ≡ x)
push_cases xs x y c =
    elim (Contains-append_cases xs (x ∷ []) y c) [
      | inl d ↦ inl d
      | inr d ↦ elim (contains_cases x y [] d) [ inl e ↦ inr e | inr n ↦ absurd (contains_nothing y n) ]
    ]

-- what is in a list's front is in the list, at a lower place
pub in_front : {X : Type 0} (xs : List X) (n k : ℕ) (x : X) → slice_get (take n xs) k ≡ Some x → (k < n) × (slice_get xs k ≡ Some x)
in_front xs n k x e =
    let within = slice_get_within (take n xs) k x e in
    (omega (arith, length-take n xs), subst (λ z. slice_get z k ≡ Some x) (take-append-drop n xs) (get_append_left (take n xs) (drop n xs) k x e))

-- a literal of the front stands at a lower place of the trail
pub front_place : (es : List Assigned) (n : ℕ) (l : Lit) → Contains (true_lits (take n es)) l → (k : ℕ) × (k < n) × (slice_get (true_lits es) k ≡ Some l)
front_place es n l c =
    let k = place_of (true_lits (take n es)) l c in
    let b = get_from_map lit_of (take n es) k.0 l k.1 in
    let there = in_front es n k.0 b.0 b.1 in
    (k.0, there.0, subst (λ z. slice_get (true_lits es) k.0 ≡ Some z) b.2 (get_map lit_of es k.0 b.0 there.1))

pub front_within : (es : List Assigned) (n : ℕ) (l : Lit) → Contains (true_lits (take n es)) l → Contains (true_lits es) l
front_within es n l c = let k = front_place es n l c in contains_place (true_lits es) k.0 l k.2

-- what is in a front is in each wider one
pub front_wider : (es : List Assigned) (n m : ℕ) (l : Lit) → n ≤ m → Contains (true_lits (take n es)) l → Contains (true_lits (take m es)) l
front_wider es n m l h c =
    let k = front_place es n l c in
    let lower : k.0 < n = k.1 in
    let b = get_from_map lit_of es k.0 l k.2 in
    contains_place (true_lits (take m es)) k.0 l (subst (λ z. slice_get (true_lits (take m es)) k.0 ≡ Some z) b.2 (get_map lit_of (take m es) k.0 b.0 (at_front es m k.0 b.0 (omega arith) b.1)))
  where
    at_front : {X : Type 0} (xs : List X) (n k : ℕ) (x : X) → k < n → slice_get xs k ≡ Some x → slice_get (take n xs) k ≡ Some x
    at_front [] n k x lt e = absurd (get_nothing k x e)
    at_front (y ∷ ys) zero k x lt e = absurd (omega arith)
    at_front (y ∷ ys) (suc n) zero x lt e = e
    at_front (y ∷ ys) (suc n) (suc k) x lt e = at_front ys n k x (omega arith) e

-- one more literal of the trail
front_next : (es : List Assigned) (n : ℕ) (a : Assigned) → slice_get es n ≡ Some a → true_lits (take (suc n) es) ≡ true_lits (take n es) ++ lit_of a ∷ []
front_next es n a e = ap true_lits (take_next es n a e) ∙ map-append lit_of (take n es) (a ∷ [])

pub front_cases : (es : List Assigned) (n : ℕ) (a : Assigned) (l : Lit) → slice_get es n ≡ Some a → Contains (true_lits (take (suc n) es)) l → Contains (true_lits (take n es)) l ⊎ (l ≡ lit_of a)
front_cases es n a l e c = push_cases (true_lits (take n es)) (lit_of a) l (subst (λ z. Contains z l) (front_next es n a e) c)

pub front_more : (es : List Assigned) (n : ℕ) (a : Assigned) (l : Lit) → slice_get es n ≡ Some a → Contains (true_lits (take n es)) l → Contains (true_lits (take (suc n) es)) l
front_more es n a l e c = subst (λ z. Contains z l) (sym (front_next es n a e)) (Contains-append_left (true_lits (take n es)) (lit_of a ∷ []) l c)

pub front_last : (es : List Assigned) (n : ℕ) (a : Assigned) → slice_get es n ≡ Some a → Contains (true_lits (take (suc n) es)) (lit_of a)
front_last es n a e = subst (λ z. Contains z (lit_of a)) (sym (front_next es n a e)) (Contains-append_right (true_lits (take n es)) (lit_of a ∷ []) (lit_of a) (contains_head (lit_of a) []))

-- no variable stands twice on a trail
pub older_other : (t : TrailView) (n : ℕ) (a : Assigned) (l : Lit) → IsWell t → slice_get t.entries n ≡ Some a → Contains (true_lits (take n t.entries)) l → var l ≡ var (lit_of a) → ⊥
older_other t n a l well e c same =
    let k = front_place t.entries n l c in
    let here = get_map lit_of t.entries n a e in
    let twice : k.0 ≡ n = well.once k.0 n l (lit_of a) k.2 here same in
    let lower : k.0 < n = k.1 in
    omega arith

pub same_in_front : (t : TrailView) (n : ℕ) (a b : Lit) → IsWell t → Contains (true_lits (take n t.entries)) a → Contains (true_lits (take n t.entries)) b → var a ≡ var b → a ≡ b
same_in_front t n a b well c d same =
    let i = front_place t.entries n a c in
    let j = front_place t.entries n b d in
    let twice : i.0 ≡ j.0 = well.once i.0 j.0 a b i.2 j.2 same in
    one_answer (slice_get (true_lits t.entries) j.0) a b (subst (λ k. slice_get (true_lits t.entries) k ≡ Some a) twice i.2) j.2
