-- The literals of a lemma, by their variables.
use Rattle.std.proofs.Common.{◌≡◌, ◌≢◌, ℕ, ◌+◌, ◌<◌, ◌≤◌, inl, inr, List, [], ◌∷◌, map, length, get_or, set, ap, sym, ◌∙◌, subst, arith, Some, slice_get}
use Rattle.std.specs.List.{swap}
use Rattle.std.specs.List.Sorted.{IsPermutation, IsStrictlyIncreasing, IsNonDecreasingBy}
use Rattle.std.proofs.lemmas.List.{length-map}
use Rattle.std.proofs.lemmas.List.Sorted.{IsPermutation-keeps, IsPermutation-sym, Contains-permutation}
use Rattle.std.proofs.lemmas.Option.{slice_get-get_or, get_or_from_slice_get}
use Rattle.dg_base.proofs.Lists.{get_there, get_map, get_set_cases}
use Rattle.dg_base.specs.declared.Lit.{Lit}
use Rattle.cnf_problem.specs.Literals.{var, IsWithoutRepeats}
use Rattle.cnf_problem.specs.Laws.{IsWithin}

-- where the literal at place p stood before the literals at i and j changed their places
data StoodAt (lits : List Lit) (i j p : ℕ) (a : Lit) : Type 0 where
  first : p ≡ j → slice_get lits i ≡ Some a → StoodAt lits i j p a
  second : p ≡ i → slice_get lits j ≡ Some a → StoodAt lits i j p a
  there : p ≢ j → p ≢ i → slice_get lits p ≡ Some a → StoodAt lits i j p a

stood_at : (d : Lit) (rest : List Lit) (i j p : ℕ) (a : Lit) → i < length (d ∷ rest) → j < length (d ∷ rest) → slice_get (swap (d ∷ rest) i j) p ≡ Some a → StoodAt (d ∷ rest) i j p a
stood_at d rest i j p a lt_i lt_j at =
    elim (get_set_cases (set (d ∷ rest) i (get_or (d ∷ rest) j d)) j p (get_or (d ∷ rest) i d) a at) [
      | inl e ↦ first e.0 (slice_get-get_or (d ∷ rest) i d lt_i ∙ ap Some (sym e.1))
      | inr e ↦ elim (get_set_cases (d ∷ rest) i p (get_or (d ∷ rest) j d) a e.1) [
        | inl f ↦ second f.0 (slice_get-get_or (d ∷ rest) j d lt_j ∙ ap Some (sym f.1))
        | inr f ↦ there e.0 f.0 f.1
      ]
    ]

one_place : (lits : List Lit) (i j p q : ℕ) (a b : Lit) → IsWithoutRepeats lits → StoodAt lits i j p a → StoodAt lits i j q b → var a ≡ var b → p ≡ q
one_place lits i j p q a b once (first e x) (first f y) same = e ∙ sym f
one_place lits i j p q a b once (first e x) (second f y) same = let k : i ≡ j = once i j a b x y same in omega arith
one_place lits i j p q a b once (first e x) (there m n y) same = absurd (n (sym (once i q a b x y same)))
one_place lits i j p q a b once (second e x) (first f y) same = let k : j ≡ i = once j i a b x y same in omega arith
one_place lits i j p q a b once (second e x) (second f y) same = e ∙ sym f
one_place lits i j p q a b once (second e x) (there m n y) same = absurd (m (sym (once j q a b x y same)))
one_place lits i j p q a b once (there m n x) (first f y) same = absurd (n (once p i a b x y same))
one_place lits i j p q a b once (there m n x) (second f y) same = absurd (m (once p j a b x y same))
one_place lits i j p q a b once (there m n x) (there o r y) same = once p q a b x y same

swap_once : (lits : List Lit) (i j : ℕ) → i < length lits → j < length lits → IsWithoutRepeats lits → IsWithoutRepeats (swap lits i j)
swap_once [] i j lt_i lt_j once = absurd (omega arith)
swap_once (d ∷ rest) i j lt_i lt_j once = λ p q a b x y same. one_place (d ∷ rest) i j p q a b once (stood_at d rest i j p a lt_i lt_j x) (stood_at d rest i j q b lt_i lt_j y) same

-- no variable stands twice in another order
moved_once : (lits moved : List Lit) → IsPermutation lits moved → IsWithoutRepeats lits → IsWithoutRepeats moved
moved_once lits moved order once = IsPermutation-keeps lits IsWithoutRepeats once swap_once moved order

-- literals of different variables rise by their variables where they rise by their codes
pub variables_rise : (lits moved : List Lit) → IsWithoutRepeats lits → IsPermutation lits moved → IsNonDecreasingBy (λ (l : Lit). l.0) moved → IsStrictlyIncreasing (map var moved)
variables_rise lits moved once order codes = λ k lt.
    let long = length-map moved var in
    let a = get_there moved k (omega arith) in
    let b = get_there moved (k + 1) (omega arith) in
    let var_a = get_or_from_slice_get (map var moved) k (var a.0) 0 (get_map var moved k a.0 a.1) in
    let var_b = get_or_from_slice_get (map var moved) (k + 1) (var b.0) 0 (get_map var moved (k + 1) b.0 b.1) in
    let code_a = get_or_from_slice_get moved k a.0 a.0 a.1 in
    let code_b = get_or_from_slice_get moved (k + 1) b.0 a.0 b.1 in
    let rise : (a.0).0 ≤ (b.0).0 = subst (λ (x : Lit). x.0 ≤ (b.0).0) code_a (subst (λ (y : Lit). (get_or moved k a.0).0 ≤ y.0) code_b (codes k (k + 1) a.0 (omega arith) (omega arith))) in
    let apart : var a.0 ≢ var b.0 = (λ e. let same : k ≡ k + 1 = moved_once lits moved order once k (k + 1) a.0 b.0 a.1 b.1 e in omega arith) in
    omega arith

pub same_members : (lits moved : List Lit) → IsPermutation lits moved → IsWithin moved lits × IsWithin lits moved
same_members lits moved order = (λ x h. Contains-permutation moved lits x (IsPermutation-sym lits moved order) h, λ x h. Contains-permutation lits moved x order h)
