-- How many edges distinct atoms have of their own.
use Rattle.std.proofs.Common.{◌≡◌, ℕ, zero, suc, ◌+◌, ◌<◌, ◌≤◌, ◌⊎◌, inl, inr, List, [], ◌∷◌, ◌++◌, map, length, refl, ap, sym, ◌∙◌, subst, arith}
use Rattle.std.specs.Prelude.{Some, Contains, slice_get, sum_by}
use Rattle.std.proofs.lemmas.List.{length-map}
use Rattle.std.proofs.lemmas.List.Sums.{sum_by-append, sum_by-cons}
use Rattle.dg_base.proofs.Lists.{contains_nothing, contains_head, contains_tail, contains_cases}
use Rattle.cycle_detect.proofs.Counting.{Distinct, distinct_once, contains_left, contains_right, contains_either}
use Rattle.cnf_problem.specs.declared.problem.Atom.{Atom}
use Rattle.cnf_problem.specs.declared.problem.Problem.{Problem}
use Rattle.from_read.specs.Derivations.{FromReadView, IsDerived}
use Rattle.from_read.proofs.Enough.{numbers, has_number}
use Rattle.order_solver.specs.Ordering.{GraphView, own_at, own_count, all_count, IsCounted, IsRoomy}
use Rattle.order_solver.proofs.Holding.{kind_of}

split_at : {X : Type 0} (xs : List X) (x : X) → Contains xs x → (front back : List X) × (xs ≡ front ++ (x ∷ back))
split_at [] x m = absurd (contains_nothing x m)
split_at (z ∷ zs) x m =
    elim (contains_cases z x zs m) [
      | inl e ↦ ([], zs, ap (λ y. y ∷ zs) (sym e))
      | inr h ↦ (let r = split_at zs x h in (z ∷ r.0, r.1, ap (λ l. z ∷ l) r.2))
    ]

-- distinct items of a list sum up to no more than the list
sum_within : {X : Type 0} (f : X → ℕ) (ns xs : List X) → Distinct ns → ((n : X) → Contains ns n → Contains xs n) → sum_by f ns ≤ sum_by f xs
sum_within f [] xs d h = omega arith
sum_within {X} f (n ∷ ns) xs d h =
    let r = split_at xs n (h n (contains_head n ns)) in
    let rest = sum_within f ns (r.0 ++ r.1) d.1 (λ m k.
    elim (contains_either r.0 (n ∷ r.1) m (subst (λ (l : List X). Contains l m) r.2 (h m (contains_tail n m ns k)))) [
      | inl a ↦ contains_left r.0 r.1 m a
      | inr b ↦ elim (contains_cases n m r.1 b) [
        | inl e ↦ absurd (d.0 (subst (λ (y : X). Contains ns y) e k))
        | inr c ↦ contains_right r.0 r.1 m c
      ]
    ]) in
    let whole = ap (λ (l : List X). sum_by f l) r.2 in
    omega (arith, rest, whole, sum_by-append f r.0 r.1, sum_by-append f r.0 (n ∷ r.1), sum_by-cons f n r.1, sum_by-cons f n ns)

-- the numbers one further on
sum_shift : (f : ℕ → ℕ) (n : ℕ) → sum_by f (numbers (suc n)) ≡ sum_by (λ k. f (suc k)) (numbers n) + f 0
sum_shift f zero = let one = sum_by-cons f 0 [] in omega (arith, one)
sum_shift f (suc n) =
    let rest = sum_shift f n in
    let one = sum_by-cons f (suc n) (numbers (suc n)) in
    let two = sum_by-cons (λ (k : ℕ). f (suc k)) n (numbers n) in
    omega (arith, rest, one, two)

own_numbers : (atoms : List Atom) → sum_by (own_at atoms) (numbers (length atoms)) ≡ sum_by (λ x. length x.edges) atoms
own_numbers [] = refl
own_numbers (x ∷ atoms) =
    let rest = own_numbers atoms in
    let one = sum_shift (own_at (x ∷ atoms)) (length atoms) in
    let two = sum_by-cons (λ (y : Atom). length y.edges) x atoms in
    let same : sum_by (λ (k : ℕ). own_at (x ∷ atoms) (suc k)) (numbers (length atoms)) ≡ sum_by (own_at atoms) (numbers (length atoms)) = refl in
    omega (arith, rest, one, two, same)

-- distinct atoms, and one more that is not among them, have no more edges than all
pub own_fits : (p : Problem) (ns : List ℕ) (a : ℕ) → ((i j n : ℕ) → slice_get ns i ≡ Some n → slice_get ns j ≡ Some n → i ≡ j) → ((n : ℕ) → Contains ns n → n < length p.atoms) → a < length p.atoms → ¬ Contains ns a → own_count p ns + own_at p.atoms a ≤ all_count p
own_fits p ns a once within below free =
    let few = sum_within (own_at p.atoms) (a ∷ ns) (numbers (length p.atoms)) (free, distinct_once ns once) (λ n m. has_number (length p.atoms) n (elim (contains_cases a n ns m) [
      | inl same ↦ subst (λ (z : ℕ). z < length p.atoms) (sym same) below
      | inr old ↦ within n old
    ])) in
    omega (arith, few, sum_by-cons (own_at p.atoms) a ns, own_numbers p.atoms)

-- so there is room for the own edges of an atom that is not true
pub room_own : (p : Problem) (froms : FromReadView) (g : GraphView) (a : ℕ) → froms.kinds ≡ map kind_of p.atoms → IsDerived froms → IsRoomy p froms g → IsCounted p froms froms.true_atoms (length g.edges) → a < length p.atoms → ¬ Contains froms.true_atoms a → length g.edges + own_at p.atoms a ≤ g.room
room_own p froms g a kinds is roomy counted below free =
    let long = ap (λ l. length l) kinds in
    let fits = own_fits p froms.true_atoms a is.apart (λ n m. (let h = is.within n m in omega (arith, h, long, length-map p.atoms kind_of))) below free in
    omega (arith, fits, roomy.1 froms.true_atoms froms.derived is, counted froms.derived is)
