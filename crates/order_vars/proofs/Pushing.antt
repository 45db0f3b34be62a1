-- What the clauses that are pushed are over, and how they add up.
use Rattle.std.proofs.Common.{◌≡◌, ℕ, ◌+◌, ◌<◌, List, [], ◌∷◌, ◌++◌, length, take, set, get_or, refl, ap, sym, ◌∙◌, subst, arith}
use Rattle.std.specs.Prelude.{All}
use Rattle.std.proofs.lemmas.List.{append_assoc, length-take-le, take_all, take_more, take_more_set}
use Rattle.std.proofs.lemmas.List.Elements.{All-from_recursion, All-cons}
use Rattle.dg_base.specs.declared.Lit.{Lit}
use Rattle.cnf_problem.specs.Literals.{negated, IsOver}
use Rattle.cnf_problem.specs.Formulas.{Formula}
use Rattle.cnf_problem.proofs.Assignments.{over-negated}
use Rattle.order_vars.specs.Clauses.{with_clauses, bit_clauses, same_clauses}

-- a negation is over the same variables
pub over_negation : (n : ℕ) (l x : Lit) → x ≡ negated l → IsOver n l → IsOver n x
over_negation n l x e h = subst (λ z. IsOver n z) (sym e) (over-negated n l h)

pub over_four : (n : ℕ) (a b c d : Lit) → IsOver n a → IsOver n b → IsOver n c → IsOver n d → All (IsOver n) (a ∷ b ∷ c ∷ d ∷ [])
over_four n a b c d x y z w = All-from_recursion (IsOver n) (a ∷ b ∷ c ∷ d ∷ []) (x, (y, (z, (w, tt))))

-- the clauses of one more pair of bits
same_push : (l : Lit) (xs ys : List Lit) (a b : Lit) → length xs ≡ length ys → same_clauses l (xs ++ a ∷ []) (ys ++ b ∷ []) ≡ same_clauses l xs ys ++ bit_clauses l a b
same_push l [] [] a b e = refl
same_push l [] (y ∷ ys) a b e = absurd (omega arith)
same_push l (x ∷ xs) [] a b e = absurd (omega arith)
same_push l (x ∷ xs) (y ∷ ys) a b e =
    ap (λ cs. (negated l ∷ negated x ∷ y ∷ []) ∷ (negated l ∷ x ∷ negated y ∷ []) ∷ cs) (same_push l xs ys a b (omega arith))

pub same_more : (f : Formula) (l : Lit) (xs ys : List Lit) (i : ℕ) (d : Lit) → length xs ≡ 32 → length ys ≡ 32 → i < 32
    → with_clauses (with_clauses f (same_clauses l (take i xs) (take i ys))) (bit_clauses l (get_or xs i d) (get_or ys i d)) ≡ with_clauses f (same_clauses l (take (i + 1) xs) (take (i + 1) ys))
same_more f l xs ys i d long long2 below =
    let inx : i < length xs = omega arith in
    let iny : i < length ys = omega arith in
    let lx = length-take-le i xs (omega arith) in
    let ly = length-take-le i ys (omega arith) in
    let step = same_push l (take i xs) (take i ys) (get_or xs i d) (get_or ys i d) (lx ∙ sym ly) in
    let more : same_clauses l (take (i + 1) xs) (take (i + 1) ys) ≡ same_clauses l (take i xs) (take i ys) ++ bit_clauses l (get_or xs i d) (get_or ys i d) =
    ap (λ z. same_clauses l z (take (i + 1) ys)) (take_more xs i d inx) ∙ ap (λ z. same_clauses l (take i xs ++ get_or xs i d ∷ []) z) (take_more ys i d iny) ∙ step in
    ap (λ cs. let g : Formula = record { vars = f.vars; clauses = cs } in g) (append_assoc f.clauses (same_clauses l (take i xs) (take i ys)) (bit_clauses l (get_or xs i d) (get_or ys i d)))
    ∙ ap (λ cs. with_clauses f cs) (sym more)

-- a clause of a literal and the bits of a word, as it is written place by place
pub bits_more : (i : ℕ) (clause bits : List Lit) (x d : Lit) → i < 32 → length clause ≡ 33 → length bits ≡ 32 → take (i + 1) clause ≡ x ∷ take i bits
    → take ((i + 1) + 1) (set clause (i + 1) (get_or bits i d)) ≡ x ∷ take (i + 1) bits
bits_more i clause bits x d below long long_b far =
    take_more_set clause (i + 1) (get_or bits i d) (omega arith) ∙ ap (λ z. z ++ get_or bits i d ∷ []) far ∙ ap (λ z. x ∷ z) (sym (take_more bits i d (omega arith)))

pub bits_made : (i : ℕ) (clause bits : List Lit) (x : Lit) → i ≡ 32 → length clause ≡ 33 → length bits ≡ 32 → take (i + 1) clause ≡ x ∷ take i bits → clause ≡ x ∷ bits
bits_made i clause bits x e long long_b far = sym (take_all (i + 1) clause (omega arith)) ∙ far ∙ ap (λ z. x ∷ z) (take_all i bits (omega arith))

pub over_bits : (n : ℕ) (clause bits : List Lit) (l : Lit) → clause ≡ negated l ∷ bits → IsOver n l → All (IsOver n) bits → All (IsOver n) clause
over_bits n clause bits l e h hs = subst (λ z. All (IsOver n) z) (sym e) (All-cons (IsOver n) (negated l) bits (over-negated n l h) hs)
