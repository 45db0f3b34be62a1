-- Right hints are few: each but the last makes a further variable true.
use Rattle.std.proofs.Common.{◌≡◌, ◌∙◌, inl, inr, ℕ, zero, suc, ◌<◌, ◌≤◌, ◌+◌, ◌||◌, Bool, true, false, refl, ap, sym, subst, List, [], ◌∷◌, length, map, get_or, Some, arith}
use Rattle.std.specs.Prelude.{All, Contains, eqb, slice_get}
use Rattle.std.specs.List.{IsDistinct, list_any}
use Rattle.std.specs.List.Sorted.{IsStrictlyIncreasing}
use Rattle.std.proofs.lemmas.Bool.{cases_eq, cases_lt}
use Rattle.unit_refuter.proofs.Chaining.{rising_lt, var_at}
use Rattle.std.proofs.lemmas.Bool.Decides.{nat_tests}
use Rattle.std.proofs.lemmas.List.{length-map}
use Rattle.std.proofs.lemmas.List.Elements.{All-contains, recursion_from_All}
use Rattle.std.proofs.lemmas.Map.Steps.{length-le_from_distinct_below}
use Rattle.std.proofs.lemmas.Option.{slice_get-get_or, slice_get_within}
use Rattle.dg_base.proofs.Lists.{contains_place, get_from_map}
use Rattle.dg_base.specs.declared.Lit.{Lit}
use Rattle.cnf_problem.specs.declared.problem.Problem.{Problem}
use Rattle.cnf_problem.specs.Chains.{IsUnassigned}
use Rattle.cnf_problem.specs.Literals.{IsOver, negated, var}
use Rattle.cnf_problem.proofs.LiteralLaws.{var-negated}
use Rattle.trail_state.proofs.Assigning.{same_or_negated}
use Rattle.lemma_log.specs.declared.hints.Hint.{Hint}
use Rattle.lemma_log.specs.declared.hints.Hint.TheVariants.{Clause, Ticket}
use Rattle.log_checker.specs.Hints.{AreRight, named}
use Rattle.log_checker.specs.Hints.AreRight.{last, next}

-- no number stands twice, and each is from 1 to n
pub record AreOnceIn (n : ℕ) (xs : List ℕ) : Type 0 where
  pub once : (i j v : ℕ) → slice_get xs i ≡ Some v → slice_get xs j ≡ Some v → i ≡ j
  pub range : (i v : ℕ) → slice_get xs i ≡ Some v → (1 ≤ v) × (v ≤ n)

differs : (x y : ℕ) → (x ≡ y → ⊥) → eqb x y ≡ false
differs x y h = grind (arith, nat_tests)

distinct : (xs : List ℕ) → ((i j v : ℕ) → slice_get xs i ≡ Some v → slice_get xs j ≡ Some v → i ≡ j) → IsDistinct eqb xs
unfolding IsDistinct
distinct [] o = tt
distinct (x ∷ xs) o = (
  recursion_from_All (λ y. eqb x y ≡ false) xs (λ k d h. differs x (get_or xs k d) (λ e.
      let q : zero ≡ suc k = o zero (suc k) x refl (slice_get-get_or xs k d h ∙ ap (λ z. Some z) (sym e)) in absurd (omega arith))),
  distinct xs (λ i j v a b. let q : suc i ≡ suc j = o (suc i) (suc j) v a b in omega arith),
)

same_test : (x y : ℕ) → eqb x y ≡ true → x ≡ y
same_test x y h = grind (arith, nat_tests)

found_below : (q x n : ℕ) (b r : Bool) → eqb q x ≡ b → x < n → (r ≡ true → q < n) → (b || r) ≡ true → q < n
found_below q x n true r e h k t = let s = same_test q x e in omega arith
found_below q x n false r e h k t = k t

any_below : (q n : ℕ) (xs : List ℕ) → ((i v : ℕ) → slice_get xs i ≡ Some v → v < n) → list_any (eqb q) xs ≡ true → q < n
any_below q n [] h t = absurd (cc)
any_below q n (x ∷ xs) h t = found_below q x n (eqb q x) (list_any (eqb q) xs) refl (h zero x refl) (any_below q n xs (λ i v e. h (suc i) v e)) t

-- so there are at most n
pub once_few : (n : ℕ) (xs : List ℕ) → AreOnceIn n xs → length xs ≤ n
once_few n xs h =
    let all = length-le_from_distinct_below (0 ∷ xs) (n + 1) (distinct (0 ∷ xs) once) (λ q t. any_below q (n + 1) (0 ∷ xs) below t) in
    omega arith
  where
    once : (i j v : ℕ) → slice_get (0 ∷ xs) i ≡ Some v → slice_get (0 ∷ xs) j ≡ Some v → i ≡ j
    once zero zero v a b = refl
    once zero (suc j) v a b = let e : 0 ≡ v = cc in let r = h.range j v b in absurd (omega (arith, r.0))
    once (suc i) zero v a b = let e : 0 ≡ v = cc in let r = h.range i v a in absurd (omega (arith, r.0))
    once (suc i) (suc j) v a b = let q = h.once i j v a b in omega arith

    below : (i v : ℕ) → slice_get (0 ∷ xs) i ≡ Some v → v < n + 1
    below zero v a = let e : 0 ≡ v = cc in omega arith
    below (suc i) v a = let r = h.range i v a in omega (arith, r.1)

-- a variable of a literal that is unassigned is a further one
once_more : (n : ℕ) (set : List Lit) (l : Lit) → IsUnassigned set l → IsOver n l → AreOnceIn n (map var set) → AreOnceIn n (map var (l ∷ set))
once_more n set l free over h = record { once = once; range = range }
  where
    fresh : (j v : ℕ) → var l ≡ v → slice_get (map var set) j ≡ Some v → ⊥
    fresh j v e at =
        let m = get_from_map var set j v at in
        elim (same_or_negated m.0 l (m.2 ∙ sym e)) [
          | inl same ↦ free.0 (subst (λ x. Contains set x) same (contains_place set j m.0 m.1))
          | inr other ↦ free.1 (subst (λ x. Contains set x) other (contains_place set j m.0 m.1))
        ]

    once : (i j v : ℕ) → slice_get (map var (l ∷ set)) i ≡ Some v → slice_get (map var (l ∷ set)) j ≡ Some v → i ≡ j
    once zero zero v a b = refl
    once zero (suc j) v a b = absurd (fresh j v (let e : var l ≡ v = cc in e) b)
    once (suc i) zero v a b = absurd (fresh i v (let e : var l ≡ v = cc in e) a)
    once (suc i) (suc j) v a b = let q = h.once i j v a b in omega arith

    range : (i v : ℕ) → slice_get (map var (l ∷ set)) i ≡ Some v → (1 ≤ v) × (v ≤ n)
    range zero v a = let e : var l ≡ v = cc in subst (λ x. (1 ≤ x) × (x ≤ n)) e over
    range (suc i) v a = h.range i v a

named_over : (p : Problem) (before : List (List Lit)) (h : Hint) (clause : List Lit) → All (All (IsOver p.vars)) before → named p before h ≡ Some clause → All (IsOver p.vars) clause
named_over p before (Clause zero) clause over e = absurd (cc)
named_over p before (Clause (suc n)) clause over e = All-contains (All (IsOver p.vars)) p.clauses clause p.over.each_literal (contains_place p.clauses n clause e)
named_over p before (Ticket t) clause over e = All-contains (All (IsOver p.vars)) before clause over (contains_place before t clause e)

-- right hints and the literals that are true make up at most one more than the variables
pub right_few : {p : Problem} {before : List (List Lit)} {set : List Lit} {hints : List Hint} → AreRight p before set hints → All (All (IsOver p.vars)) before → AreOnceIn p.vars (map var set) → length hints + length set ≤ p.vars + 1
right_few {p = p} {set = set} (last h clause is false_now) over once = let few = once_few p.vars (map var set) once in omega (arith, few, length-map set var)
right_few {p = p} {before = before} {set = set} (next h clause l is gives rest) over once =
    let mine = All-contains (IsOver p.vars) clause l (named_over p before h clause over is) gives.has in
    let few = right_few rest over (once_more p.vars set l gives.free mine once) in
    omega (arith, few)

-- the negations of a clause whose variables rise stand once
pub denied_once : (n : ℕ) (lits : List Lit) → IsStrictlyIncreasing (map var lits) → All (IsOver n) lits → AreOnceIn n (map var (map negated lits))
denied_once n lits rising over = record {
  once = λ i j v a b. elim (cases_lt i j) [
    | inl lt ↦ absurd (apart i j v a b lt)
    | inr ge ↦ elim (cases_eq i j) [ inl same ↦ same | inr other ↦ absurd (apart j i v b a (omega arith)) ]
  ];
  range = λ i v a.
      let l = own i v a in
      subst (λ x. (1 ≤ x) × (x ≤ n)) l.2 (All-contains (IsOver n) lits l.0 over (contains_place lits i l.0 l.1));
}
  where
    own : (i v : ℕ) → slice_get (map var (map negated lits)) i ≡ Some v → (l : Lit) × (slice_get lits i ≡ Some l) × (var l ≡ v)
    own i v a =
        let m = get_from_map var (map negated lits) i v a in
        let l = get_from_map negated lits i m.0 m.1 in
        (l.0, l.1, sym (var-negated l.0) ∙ (ap var l.2 ∙ m.2))

    apart : (i j v : ℕ) → slice_get (map var (map negated lits)) i ≡ Some v → slice_get (map var (map negated lits)) j ≡ Some v → i < j → ⊥
    apart i j v a b lt =
        let x = own i v a in
        let y = own j v b in
        let w = slice_get_within lits j y.0 y.1 in
        let rise = rising_lt (map var lits) rising i j lt (omega (arith, w, length-map lits var)) in
        omega (arith, rise, var_at lits i x.0 x.1, var_at lits j y.0 y.1, x.2, y.2)
