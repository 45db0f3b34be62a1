-- Assignments that grow by further variables, and clauses by the truth values of their literals.
use Rattle.std.proofs.Common.{◌≡◌, ℕ, ◌+◌, ◌-◌, ◌*◌, ◌%◌, ◌<◌, ◌≤◌, inl, inr, Bool, true, false, not, ◌||◌, List, [], ◌∷◌, ◌++◌, length, get_or, refl, ap, sym, ◌∙◌, subst, arith}
use Rattle.std.specs.Prelude.{All, ⊤}
use Rattle.std.proofs.lemmas.List.{get_or_append_left}
use Rattle.std.proofs.lemmas.List.Elements.{All-contains, All-from_recursion}
use Rattle.std.proofs.Math.Seq.{get_or-append_seam}
use Rattle.dg_base.proofs.Lists.{contains_head, contains_tail, contains_nothing, contains_cases}
use Rattle.dg_base.specs.declared.Lit.{Lit}
use Rattle.cnf_problem.specs.Literals.{var, positive, negated, value, IsOver, IsSatisfied, AreSatisfied}
use Rattle.cnf_problem.proofs.LiteralLaws.{parity, value-even, value-odd, var-negated}

-- the variable of the literal that is a variable
pub var-positive : (v : ℕ) → var (positive v) ≡ v
var-positive v = omega arith

-- its value is that of the variable
pub value-positive : (s : List Bool) (v : ℕ) → value s (positive v) ≡ get_or s (v - 1) false
value-positive s v =
    let even : (2 * v) % 2 ≡ 0 = grind arith in
    value-even s (positive v) even ∙ ap (λ n. get_or s (n - 1) false) (var-positive v)

-- a literal over the older variables keeps its value
pub value-append : (s t : List Bool) (l : Lit) → IsOver (length s) l → value (s ++ t) l ≡ value s l
value-append s t l (low, high) =
    let within : var l - 1 < length s = omega arith in
    let same = get_or_append_left s t false (var l - 1) within in
    elim (parity l.0) [
      | inl e ↦ value-even (s ++ t) l e ∙ same ∙ sym (value-even s l e)
      | inr e ↦ value-odd (s ++ t) l e ∙ ap not same ∙ sym (value-odd s l e)
    ]

-- the next variable has the value that is put behind the others
pub value-next : (s : List Bool) (b : Bool) → value (s ++ b ∷ []) (positive (length s + 1)) ≡ b
value-next s b =
    value-positive (s ++ b ∷ []) (length s + 1)
    ∙ ap (λ n. get_or (s ++ b ∷ []) n false) (omega arith)
    ∙ get_or-append_seam s b [] false

-- a clause over the older variables stays true
pub satisfied-append : (s t : List Bool) (clause : List Lit) → All (IsOver (length s)) clause → IsSatisfied s clause → IsSatisfied (s ++ t) clause
satisfied-append s t clause over (l, listed, e) = (l, listed, value-append s t l (All-contains (IsOver (length s)) clause l over listed) ∙ e)

-- what is over some variables is over more
pub over_more : (n m : ℕ) (l : Lit) → n ≤ m → IsOver n l → IsOver m l
over_more n m l h (low, high) = (low, omega arith)

-- a negation is over the same variables
pub over-negated : (n : ℕ) (l : Lit) → IsOver n l → IsOver n (negated l)
over-negated n l h = rw var-negated h

-- the next variable is one of those with it
pub over_next : (n : ℕ) → IsOver (n + 1) (positive (n + 1))
over_next n = let e = var-positive (n + 1) in (omega arith, omega arith)

-- a clause of two literals
pub over_two : (n : ℕ) (l m : Lit) → IsOver n l → IsOver n m → All (IsOver n) (l ∷ m ∷ [])
over_two n l m h k = All-from_recursion (IsOver n) (l ∷ m ∷ []) (h, (k, tt))

-- a clause of three literals
pub over_three : (n : ℕ) (l m o : Lit) → IsOver n l → IsOver n m → IsOver n o → All (IsOver n) (l ∷ m ∷ o ∷ [])
over_three n l m o h k i = All-from_recursion (IsOver n) (l ∷ m ∷ o ∷ []) (h, (k, (i, tt)))

-- whether some literal of the clause is true
abbrev pub clause_value : List Bool → List Lit → Bool
clause_value s [] = false
clause_value s (l ∷ ls) = value s l || clause_value s ls

-- a clause is true where that is so
pub satisfied_true : (s : List Bool) (clause : List Lit) → IsSatisfied s clause → clause_value s clause ≡ true
satisfied_true s [] (l, listed, e) = absurd (contains_nothing l listed)
satisfied_true s (x ∷ xs) (l, listed, e) =
    elim (contains_cases x l xs listed) [
      | inl same ↦ rw (← same, e) refl
      | inr m ↦ rw (satisfied_true s xs (l, m, e)) (or_true (value s x))
    ]
  where
    or_true : (b : Bool) → (b || true) ≡ true
    or_true true = refl
    or_true false = refl

-- and that is so where the clause is true
pub true_satisfied : (s : List Bool) (clause : List Lit) → clause_value s clause ≡ true → IsSatisfied s clause
true_satisfied s [] e = absurd (cc)
true_satisfied s (x ∷ xs) e = by_value (value s x) refl (true_satisfied s xs) e
  where
    by_value : (b : Bool) → value s x ≡ b → (clause_value s xs ≡ true → IsSatisfied s xs) → (b || clause_value s xs) ≡ true → IsSatisfied s (x ∷ xs)
    by_value true q later e = (x, contains_head x xs, q)
    by_value false q later e = let r = later e in (r.0, contains_tail x r.0 xs r.1, r.2)

-- each of the clauses has a true literal
abbrev pub EachTrue : List Bool → List (List Lit) → Type 0
EachTrue s [] = ⊤
EachTrue s (clause ∷ clauses) = (clause_value s clause ≡ true) × EachTrue s clauses

-- clauses are true where each has a true literal
pub satisfied_each : (s : List Bool) (clauses : List (List Lit)) → AreSatisfied s clauses → EachTrue s clauses
satisfied_each s [] h = tt
satisfied_each s (c ∷ cs) h =
    (satisfied_true s c (h c (contains_head c cs)), satisfied_each s cs (λ other listed. h other (contains_tail c other cs listed)))

-- and each has one where the clauses are true
pub each_satisfied : (s : List Bool) (clauses : List (List Lit)) → EachTrue s clauses → AreSatisfied s clauses
each_satisfied s [] h clause listed = absurd (contains_nothing clause listed)
each_satisfied s (c ∷ cs) (first, rest) clause listed =
    elim (contains_cases c clause cs listed) [
      | inl same ↦ subst (λ z. IsSatisfied s z) (sym same) (true_satisfied s c first)
      | inr m ↦ each_satisfied s cs rest clause m
    ]
