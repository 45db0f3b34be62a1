-- An order in which every edge goes forward excludes cycles.
use Rattle.std.proofs.Common.{◌≡◌, ℕ, zero, suc, List, [], ◌∷◌, cond, Some, ap, subst, arith}
use Rattle.std.specs.Prelude.{All, slice_get, nat_eq}
use Rattle.std.proofs.lemmas.Option.{none-some, same_Some, slice_get_within, get_or_from_slice_get}
use Rattle.axiom_model.specs.Cycles.{NoCycle}
use Rattle.axiom_model.specs.Orders.{Forward}
use Rattle.axiom_model.specs.Sorting.{HasEdge, NoRepeats, GoesForward}
use Rattle.axiom_model.proofs.Orders.{forward-no_cycle}

-- the first place of a node in a list
place_in : List ℕ → ℕ → ℕ
place_in [] v = 0
place_in (x ∷ xs) v = cond (nat_eq x v) 0 (suc (place_in xs v))

place_in_is : (l : List ℕ) → NoRepeats l → (i v : ℕ) → slice_get l i ≡ Some v → place_in l v ≡ i
unfolding place_in
place_in_is [] o i v e = absurd (none-some v e)
place_in_is (x ∷ xs) o zero v e = grind (arith, same_Some x v e)
place_in_is (x ∷ xs) o (suc i) v e =
    let r : place_in xs v ≡ i = place_in_is xs (λ a b w h k. let q : suc a ≡ suc b = o (suc a) (suc b) w h k in omega arith) i v e in
    let n : x ≡ v → ⊥ = λ q. let z : zero ≡ suc i = o zero (suc i) v (ap Some q) e in absurd (omega arith) in
    grind (arith, r, n)

goes_forward : (edges : List (ℕ × ℕ)) (order : List ℕ) → NoRepeats order → All (GoesForward order) edges → Forward (place_in order) (HasEdge edges)
goes_forward edges order o f a b e =
    let g = subst (λ x. GoesForward order x) (get_or_from_slice_get edges e.0 (a, b) (a, b) e.1) (f e.0 (a, b) (slice_get_within edges e.0 (a, b) e.1)) in
    let s = place_in_is order o g.0 a g.3 in
    let t = place_in_is order o g.1 b g.4 in
    omega (arith, g.2, s, t)

pub ordered-no_cycle : (edges : List (ℕ × ℕ)) (order : List ℕ) → NoRepeats order → All (GoesForward order) edges → NoCycle (HasEdge edges)
ordered-no_cycle edges order o f = forward-no_cycle (place_in order) (goes_forward edges order o f)
