-- What clauses say whose first literal is a negation: where the literal is true, so is one of the others.
use Rattle.std.proofs.Common.{◌≡◌, inl, inr, ◌⊎◌, Bool, true, false, not, List, [], ◌∷◌, ◌++◌, map, length, refl, ap, sym, ◌∙◌, subst, arith}
use Rattle.std.proofs.lemmas.List.Elements.{Contains-append_left, Contains-append_right, Contains-append_cases}
use Rattle.dg_base.specs.declared.Lit.{Lit}
use Rattle.dg_base.proofs.Lists.{contains_head, contains_tail, contains_cases, contains_nothing}
use Rattle.cnf_problem.specs.Literals.{value, negated, IsSatisfied, AreSatisfied}
use Rattle.cnf_problem.proofs.LiteralLaws.{value-negated}
use Rattle.order_vars.specs.Clauses.{both_clauses, same_clauses}

-- ---- lists of clauses

-- clauses behind others
pub satisfied_parts : (s : List Bool) (xs ys : List (List Lit)) → AreSatisfied s (xs ++ ys) → AreSatisfied s xs × AreSatisfied s ys
satisfied_parts s xs ys sat =
    ((λ clause listed. sat clause (Contains-append_left xs ys clause listed)), (λ clause listed. sat clause (Contains-append_right xs ys clause listed)))

pub satisfied_both : (s : List Bool) (xs ys : List (List Lit)) → AreSatisfied s xs → AreSatisfied s ys → AreSatisfied s (xs ++ ys)
satisfied_both s xs ys a b clause listed = elim (Contains-append_cases xs ys clause listed) [ inl h ↦ a clause h | inr h ↦ b clause h ]

pub satisfied_none : (s : List Bool) → AreSatisfied s []
satisfied_none s clause listed = absurd (contains_nothing clause listed)

pub satisfied_first : (s : List Bool) (c : List Lit) (cs : List (List Lit)) → AreSatisfied s (c ∷ cs) → IsSatisfied s c × AreSatisfied s cs
satisfied_first s c cs sat = (sat c (contains_head c cs), (λ clause listed. sat clause (contains_tail c clause cs listed)))

pub satisfied_more : (s : List Bool) (c : List Lit) (cs : List (List Lit)) → IsSatisfied s c → AreSatisfied s cs → AreSatisfied s (c ∷ cs)
satisfied_more s c cs first rest clause listed =
    elim (contains_cases c clause cs listed) [ inl e ↦ subst (λ z. IsSatisfied s z) (sym e) first | inr h ↦ rest clause h ]

pub satisfied_one : (s : List Bool) (c : List Lit) → IsSatisfied s c → AreSatisfied s (c ∷ [])
satisfied_one s c first = satisfied_more s c [] first (satisfied_none s)

-- ---- one clause

-- a literal is true or its negation is
pub true_or_negated : (s : List Bool) (l : Lit) → (value s l ≡ true) ⊎ (value s (negated l) ≡ true)
true_or_negated s l = by_value (value s l) refl
  where
    by_value : (b : Bool) → value s l ≡ b → (value s l ≡ true) ⊎ (value s (negated l) ≡ true)
    by_value true e = inl e
    by_value false e = inr (value-negated s l ∙ ap not e)

-- but not both
pub not_both : (s : List Bool) (l : Lit) → value s l ≡ true → value s (negated l) ≡ true → ⊥
not_both s l e h =
    let n = value-negated s l in
    let turned : not (value s l) ≡ false = ap not e in
    cc

-- where the negated literal is true, the rest of the clause holds
pub then_rest : (s : List Bool) (l : Lit) (rest : List Lit) → IsSatisfied s (negated l ∷ rest) → value s l ≡ true → IsSatisfied s rest
then_rest s l rest (m, listed, e) h =
    elim (contains_cases (negated l) m rest listed) [
      | inl same ↦ absurd (not_both s l h (subst (λ z. value s z ≡ true) same e))
      | inr behind ↦ (m, behind, e)
    ]

-- the clause holds where its rest does if the literal is true
pub from_rest : (s : List Bool) (l : Lit) (rest : List Lit) → (value s l ≡ true → IsSatisfied s rest) → IsSatisfied s (negated l ∷ rest)
from_rest s l rest f =
    elim (true_or_negated s l) [
      | inl e ↦ let r = f e in (r.0, contains_tail (negated l) r.0 rest r.1, r.2)
      | inr e ↦ (negated l, contains_head (negated l) rest, e)
    ]

-- a clause of one literal
pub one_true : (s : List Bool) (l : Lit) → IsSatisfied s (l ∷ []) → value s l ≡ true
one_true s l (m, listed, e) =
    elim (contains_cases l m [] listed) [ inl same ↦ subst (λ z. value s z ≡ true) same e | inr behind ↦ absurd (contains_nothing m behind) ]

pub one_satisfied : (s : List Bool) (l : Lit) → value s l ≡ true → IsSatisfied s (l ∷ [])
one_satisfied s l e = (l, contains_head l [], e)

-- a clause of two literals
pub two_true : (s : List Bool) (l m : Lit) → IsSatisfied s (l ∷ m ∷ []) → (value s l ≡ true) ⊎ (value s m ≡ true)
two_true s l m (x, listed, e) =
    elim (contains_cases l x (m ∷ []) listed) [
      | inl same ↦ inl (subst (λ z. value s z ≡ true) same e)
      | inr behind ↦ inr (one_true s m (x, behind, e))
    ]

pub two_satisfied : (s : List Bool) (l m : Lit) → (value s l ≡ true) ⊎ (value s m ≡ true) → IsSatisfied s (l ∷ m ∷ [])
two_satisfied s l m h =
    elim h [
      | inl e ↦ (l, contains_head l (m ∷ []), e)
      | inr e ↦ (m, contains_tail l m (m ∷ []) (contains_head m []), e)
    ]

-- ---- both guards

pub both_say : (s : List Bool) (l a b : Lit) → AreSatisfied s (both_clauses l a b) → value s l ≡ true → (value s a ≡ true) × (value s b ≡ true)
both_say s l a b sat e =
    let p = satisfied_first s (negated l ∷ a ∷ []) ((negated l ∷ b ∷ []) ∷ []) sat in
    let q = satisfied_first s (negated l ∷ b ∷ []) [] p.1 in
    (one_true s a (then_rest s l (a ∷ []) p.0 e), one_true s b (then_rest s l (b ∷ []) q.0 e))

pub both_hold : (s : List Bool) (l a b : Lit) → (value s l ≡ true → (value s a ≡ true) × (value s b ≡ true)) → AreSatisfied s (both_clauses l a b)
both_hold s l a b f =
    satisfied_more s (negated l ∷ a ∷ []) ((negated l ∷ b ∷ []) ∷ []) (from_rest s l (a ∷ []) (λ e. one_satisfied s a (f e).0))
    (satisfied_one s (negated l ∷ b ∷ []) (from_rest s l (b ∷ []) (λ e. one_satisfied s b (f e).1)))

-- ---- equal bits

-- two literals that follow from each other are true together
same_value : (s : List Bool) (a b : Lit) → (value s (negated a) ≡ true) ⊎ (value s b ≡ true) → (value s a ≡ true) ⊎ (value s (negated b) ≡ true) → value s a ≡ value s b
same_value s a b f g =
    elim f [
      | inl na ↦ elim g [
        | inl ya ↦ absurd (not_both s a ya na)
        | inr nb ↦
            let x = value-negated s a in
            let y = value-negated s b in
            turned (value s a) (value s b) (sym x ∙ na) (sym y ∙ nb)
      ]
      | inr yb ↦ elim g [
        | inl ya ↦ ya ∙ sym yb
        | inr nb ↦ absurd (not_both s b yb nb)
      ]
    ]
  where
    turned : (a b : Bool) → not a ≡ true → not b ≡ true → a ≡ b
    turned true b e h = cc
    turned false true e h = cc
    turned false false e h = refl

-- and such literals make both clauses true
same_first : (s : List Bool) (a b : Lit) → value s a ≡ value s b → (value s (negated a) ≡ true) ⊎ (value s b ≡ true)
same_first s a b e = elim (true_or_negated s a) [ inl y ↦ inr (sym e ∙ y) | inr n ↦ inl n ]

same_second : (s : List Bool) (a b : Lit) → value s a ≡ value s b → (value s a ≡ true) ⊎ (value s (negated b) ≡ true)
same_second s a b e = elim (true_or_negated s b) [ inl y ↦ inl (e ∙ y) | inr n ↦ inr n ]

pub same_say : (s : List Bool) (l : Lit) (xs ys : List Lit) → length xs ≡ length ys → AreSatisfied s (same_clauses l xs ys) → value s l ≡ true → map (value s) xs ≡ map (value s) ys
same_say s l [] [] long sat e = refl
same_say s l [] (y ∷ ys) long sat e = absurd (omega arith)
same_say s l (x ∷ xs) [] long sat e = absurd (omega arith)
same_say s l (x ∷ xs) (y ∷ ys) long sat e =
    let p = satisfied_first s (negated l ∷ negated x ∷ y ∷ []) ((negated l ∷ x ∷ negated y ∷ []) ∷ same_clauses l xs ys) sat in
    let q = satisfied_first s (negated l ∷ x ∷ negated y ∷ []) (same_clauses l xs ys) p.1 in
    let first = two_true s (negated x) y (then_rest s l (negated x ∷ y ∷ []) p.0 e) in
    let second = two_true s x (negated y) (then_rest s l (x ∷ negated y ∷ []) q.0 e) in
    let bit : value s x ≡ value s y = same_value s x y first second in
    let rest : map (value s) xs ≡ map (value s) ys = same_say s l xs ys (omega arith) q.1 e in
    ap (λ b. b ∷ map (value s) xs) bit ∙ ap (λ bs. value s y ∷ bs) rest

-- the first and the other elements of equal images
head_same : (a b : Bool) (xs ys : List Bool) → a ∷ xs ≡ b ∷ ys → a ≡ b
head_same a b xs ys e = cc

tail_same : (a b : Bool) (xs ys : List Bool) → a ∷ xs ≡ b ∷ ys → xs ≡ ys
tail_same a b xs ys e = cc

pub same_hold : (s : List Bool) (l : Lit) (xs ys : List Lit) → (value s l ≡ true → map (value s) xs ≡ map (value s) ys) → AreSatisfied s (same_clauses l xs ys)
same_hold s l [] ys f = satisfied_none s
same_hold s l (x ∷ xs) [] f = satisfied_none s
same_hold s l (x ∷ xs) (y ∷ ys) f =
    satisfied_more s (negated l ∷ negated x ∷ y ∷ []) ((negated l ∷ x ∷ negated y ∷ []) ∷ same_clauses l xs ys)
    (from_rest s l (negated x ∷ y ∷ []) (λ e. two_satisfied s (negated x) y (same_first s x y (head_same (value s x) (value s y) (map (value s) xs) (map (value s) ys) (f e)))))
    (satisfied_more s (negated l ∷ x ∷ negated y ∷ []) (same_clauses l xs ys)
    (from_rest s l (x ∷ negated y ∷ []) (λ e. two_satisfied s x (negated y) (same_second s x y (head_same (value s x) (value s y) (map (value s) xs) (map (value s) ys) (f e)))))
    (same_hold s l xs ys (λ e. tail_same (value s x) (value s y) (map (value s) xs) (map (value s) ys) (f e))))
