-- A relation without a cycle that is shortest, from its least element on, has no cycle.
use Rattle.std.proofs.Common.{◌≡◌, ℕ, zero, suc, ◌+◌, ◌<◌, ◌⊎◌, List, [], ◌∷◌, ◌++◌, length, Some, refl, sym, ap, subst, ⊎_elim, arith, length-append}
use Rattle.std.specs.Prelude.{slice_get}
use Rattle.std.proofs.lemmas.Bool.{cases_order}
use Rattle.std.proofs.lemmas.Option.{none-some, same_Some}
use Rattle.dg_base.proofs.Lists.{get_append_left, get_append_cases}
use Rattle.axiom_model.specs.Cycles.{Chain, Cycle, NoCycle}
use Rattle.axiom_model.proofs.Places.{place_right}
use Rattle.axiom_model.proofs.Turning.{cycle_turn}

-- ---- an element of a list, with what stands before and behind it

record Split {E : Type 0} (l : List E) (v : E) : Type 0 where
  before : List E
  behind : List E
  is : l ≡ before ++ v ∷ behind

split_at : {E : Type 0} (l : List E) (i : ℕ) (v : E) → slice_get l i ≡ Some v → Split l v
split_at [] i v e = absurd (none-some v e)
split_at (x ∷ l) zero v e = record { before = []; behind = l; is = ap (λ y. y ∷ l) (same_Some x v e) }
split_at (x ∷ l) (suc i) v e = let s = split_at l i v e in record { before = x ∷ s.before; behind = s.behind; is = ap (λ m. x ∷ m) s.is }

-- a chain through an element, cut there
chain_front : {E : Type 0} (R : E → E → Type 0) (a : E) (xs : List E) (b : E) (ys : List E) (c : E) → Chain R a (xs ++ b ∷ ys) c → Chain R a xs b
chain_front R a [] b ys c e = e.0
chain_front R a (x ∷ xs) b ys c e = (e.0, chain_front R x xs b ys c e.1)

chain_goes : {E : Type 0} (R : E → E → Type 0) (a : E) (xs : List E) (b : E) → Chain R a xs b → (d : E) × R a d
chain_goes R a [] b e = (b, e)
chain_goes R a (x ∷ xs) b e = (x, e.0)

chain_behind : {E : Type 0} (R : E → E → Type 0) (a : E) (xs : List E) (b : E) (ys : List E) (c : E) → Chain R a (xs ++ b ∷ ys) c → (d : E) × R b d
chain_behind R a [] b ys c e = chain_goes R b ys c e.1
chain_behind R a (x ∷ xs) b ys c e = chain_behind R x xs b ys c e.1

-- what leads to each element of a cycle
chain_last : {E : Type 0} (R : E → E → Type 0) (a : E) (xs : List E) (b : E) → Chain R a xs b → (d : E) × R d b
chain_last R a [] b e = (a, e)
chain_last R a (x ∷ xs) b e = chain_last R x xs b e.1

chain_into : {E : Type 0} (R : E → E → Type 0) (a : E) (xs : List E) (b : E) → Chain R a xs b → (i : ℕ) (v : E) → slice_get xs i ≡ Some v → (d : E) × R d v
chain_into R a [] b e i v g = absurd (none-some v g)
chain_into R a (x ∷ xs) b e zero v g = (a, subst (R a) (same_Some x v g) e.0)
chain_into R a (x ∷ xs) b e (suc i) v g = chain_into R x xs b e.1 i v g

pub cycle_into : {E : Type 0} (R : E → E → Type 0) (l : List E) → Cycle R l → (i : ℕ) (v : E) → slice_get l i ≡ Some v → (d : E) × R d v
cycle_into R [] c i v g = absurd c
cycle_into R (x ∷ xs) c zero v g = let d = chain_last R x xs x c in (d.0, subst (R d.0) (same_Some x v g) d.1)
cycle_into R (x ∷ xs) c (suc i) v g = chain_into R x xs x c i v g

module _ {E : Type 0} (R : E → E → Type 0) (before : E → E → Type 0) (total : (a b : E) → before a b ⊎ before b a) (trans : (a b c : E) → before a b → before b c → before a c) where
  -- ---- a cycle that begins at its least element

  record Least (l : List E) : Type 0 where
    least : E
    split : Split l least
    below : (k : ℕ) (u : E) → slice_get l k ≡ Some u → before least u

  self : (x : E) → before x x
  self x = ⊎_elim (λ b. b) (λ b. b) (total x x)

  least_one : (x : E) → Least (x ∷ [])
  least_one x = record { least = x; split = record { before = []; behind = []; is = refl }; below = below }
    where
      below : (k : ℕ) (u : E) → slice_get (x ∷ []) k ≡ Some u → before x u
      below zero u e = subst (before x) (same_Some x u e) (self x)
      below (suc k) u e = absurd (none-some u e)

  least_more : (x : E) (l : List E) → Least l → Least (x ∷ l)
  least_more x l r = ⊎_elim here there (total x r.least)
    where
      here : before x r.least → Least (x ∷ l)
      here le = record { least = x; split = record { before = []; behind = l; is = refl }; below = below }
        where
          below : (k : ℕ) (u : E) → slice_get (x ∷ l) k ≡ Some u → before x u
          below zero u e = subst (before x) (same_Some x u e) (self x)
          below (suc k) u e = trans x r.least u le (r.below k u e)

      there : before r.least x → Least (x ∷ l)
      there le = record { least = r.least; split = record { before = x ∷ r.split.before; behind = r.split.behind; is = ap (λ m. x ∷ m) r.split.is }; below = below }
        where
          below : (k : ℕ) (u : E) → slice_get (x ∷ l) k ≡ Some u → before r.least u
          below zero u e = subst (before r.least) (same_Some x u e) le
          below (suc k) u e = r.below k u e

  least_of : (x : E) (xs : List E) → Least (x ∷ xs)
  least_of x [] = least_one x
  least_of x (y ∷ ys) = least_more x (y ∷ ys) (least_of y ys)

  record Turned (n : ℕ) : Type 0 where
    first : E
    rest : List E
    cycle : Cycle R (first ∷ rest)
    long : length (first ∷ rest) ≡ n
    below : (k : ℕ) (u : E) → slice_get (first ∷ rest) k ≡ Some u → before first u

  turned : (x : E) (xs : List E) → Cycle R (x ∷ xs) → Turned (length (x ∷ xs))
  turned x xs c = from (least_of x xs)
    where
      from : Least (x ∷ xs) → Turned (length (x ∷ xs))
      from m = record { first = m.least; rest = m.split.behind ++ m.split.before; cycle = cycle_turn R m.split.before (m.least ∷ m.split.behind) (subst (Cycle R) m.split.is c); long = long; below = below }
        where
          long : length (m.least ∷ (m.split.behind ++ m.split.before)) ≡ length (x ∷ xs)
          long =
              let all = ap (λ (l : List E). length l) m.split.is in
              let one = length-append m.split.before (m.least ∷ m.split.behind) in
              let two = length-append m.split.behind m.split.before in
              omega arith

          below : (k : ℕ) (u : E) → slice_get (m.least ∷ (m.split.behind ++ m.split.before)) k ≡ Some u → before m.least u
          below k u e =
              ⊎_elim
              (λ p. m.below (length m.split.before + k) u (subst (λ l. slice_get l (length m.split.before + k) ≡ Some u) (sym m.split.is) (place_right m.split.before (m.least ∷ m.split.behind) (length m.split.before + k) k u refl p)))
              (λ p. m.below p.0 u (subst (λ l. slice_get l p.0 ≡ Some u) (sym m.split.is) (get_append_left m.split.before (m.least ∷ m.split.behind) p.0 u p.2)))
              (get_append_cases (m.least ∷ m.split.behind) m.split.before k u e)

  -- ---- a cycle with two elements that are alike holds a shorter one

  module _ (alike : E → E → Type 0) (turns : (a b : E) → alike a b → alike b a) (goes : (a b c d : E) → alike a b → R a c → R b d → R b c) where
    record Shorter (n : ℕ) : Type 0 where
      list : List E
      cycle : Cycle R list
      short : length list < n

    -- a chain from an element is one from an element that is alike
    chain_from : (a b : E) (xs : List E) (c d : E) → alike a b → Chain R a xs c → R b d → Chain R b xs c
    chain_from a b [] c d s e f = goes a b c d s e f
    chain_from a b (x ∷ xs) c d s e f = (goes a b x d s e.0 f, e.1)

    short_from : (v : E) (rest : List E) (w : E) → Cycle R (v ∷ rest) → alike v w → Split rest w → Shorter (length (v ∷ rest))
    short_from v rest w c same s = record {
      list = w ∷ s.before;
      cycle =
          let whole = subst (λ l. Chain R v l v) s.is c in
          let on = chain_behind R v s.before w s.behind v whole in
          chain_from v w s.before w on.0 same (chain_front R v s.before w s.behind v whole) on.1;
      short = let all = ap (λ (l : List E). length l) s.is in let parts = length-append s.before (w ∷ s.behind) in omega arith;
    }

    -- what stands before the first of the two, turned behind the rest
    shorter : (l : List E) (i j : ℕ) (v w : E) → Cycle R l → i < j → slice_get l i ≡ Some v → slice_get l j ≡ Some w → alike v w → Shorter (length l)
    shorter [] i j v w c d e f s = absurd (none-some v e)
    shorter (x ∷ l) zero zero v w c d e f s = absurd (omega arith)
    shorter (x ∷ l) zero (suc j) v w c d e f s = short_from x l w c (subst (λ u. alike u w) (sym (same_Some x v e)) s) (split_at l j w f)
    shorter (x ∷ l) (suc i) zero v w c d e f s = absurd (omega arith)
    shorter (x ∷ l) (suc i) (suc j) v w c d e f s =
        let r = shorter (l ++ x ∷ []) i j v w (cycle_turn R (x ∷ []) l c) (omega arith) (get_append_left l (x ∷ []) i v e) (get_append_left l (x ∷ []) j w f) s in
        let long = length-append l (x ∷ []) in
        let short = r.short in
        record { list = r.list; cycle = r.cycle; short = omega arith }

    -- ---- no shortest cycle, no cycle

    -- no two of the cycle are alike, and it begins at its least element
    pub record IsShortest (l : List E) : Type 0 where
      pub cycle : Cycle R l
      pub once : (i j : ℕ) (v w : E) → slice_get l i ≡ Some v → slice_get l j ≡ Some w → alike v w → i ≡ j
      pub least_first : (i : ℕ) (v w : E) → slice_get l 0 ≡ Some v → slice_get l i ≡ Some w → before v w

    is_shortest : (n : ℕ) (t : Turned n) → (Shorter n → ⊥) → IsShortest (t.first ∷ t.rest)
    is_shortest n t none = record { cycle = t.cycle; once = once; least_first = λ i v w e f. subst (λ u. before u w) (same_Some t.first v e) (t.below i w f) }
      where
        twice : (i j : ℕ) (v w : E) → i < j → slice_get (t.first ∷ t.rest) i ≡ Some v → slice_get (t.first ∷ t.rest) j ≡ Some w → alike v w → ⊥
        twice i j v w d e f s = none (subst Shorter t.long (shorter (t.first ∷ t.rest) i j v w t.cycle d e f s))

        once : (i j : ℕ) (v w : E) → slice_get (t.first ∷ t.rest) i ≡ Some v → slice_get (t.first ∷ t.rest) j ≡ Some w → alike v w → i ≡ j
        once i j v w e f s = ⊎_elim (λ same. same) (⊎_elim (λ l. absurd (twice i j v w l e f s)) (λ l. absurd (twice j i w v l f e (turns v w s)))) (cases_order i j)

    no_longer : ((l : List E) → IsShortest l → ⊥) → (n : ℕ) (l : List E) → length l < n → Cycle R l → ⊥
    no_longer none zero l h c = absurd (omega arith)
    no_longer none (suc n) [] h c = c
    no_longer none (suc n) (x ∷ xs) h c =
        let t = turned x xs c in
        none (t.first ∷ t.rest) (is_shortest (length (x ∷ xs)) t (λ r. let short = r.short in no_longer none n r.list (omega arith) r.cycle))

    pub no_shortest_no_cycle : ((l : List E) → IsShortest l → ⊥) → NoCycle R
    no_shortest_no_cycle none l c = no_longer none (suc (length l)) l (omega arith) c
