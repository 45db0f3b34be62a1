-- The numbers that lists of literals spell.
use Rattle.std.proofs.Common.{◌≡◌, ℕ, zero, suc, ◌+◌, ◌*◌, ◌/◌, ◌%◌, ◌^◌, ◌<◌, ◌≤◌, Bool, true, false, not, List, [], ◌∷◌, ◌++◌, map, length, take, drop, set, get_or, refl, ap, sym, ◌∙◌, subst, arith}
use Rattle.std.specs.Prelude.{replicate}
use Rattle.std.proofs.lemmas.List.{take_more, take_more_set, drop_more, length-take-le, take-append-drop, drop-set}
use Rattle.std.proofs.lemmas.Nat.{shr_high, mod_low}
use Rattle.dg_base.specs.declared.Lit.{Lit}
use Rattle.dg_base.specs.Values.{truth_of}
use Rattle.cnf_problem.specs.Literals.{value, negated}
use Rattle.cnf_problem.proofs.LiteralLaws.{value-negated}
use Rattle.bit_gates.specs.Words.{number}

-- a bit is 0 or 1
pub truth_below : (b : Bool) → truth_of b < 2
truth_below true = omega arith
truth_below false = omega arith

pub truth-not : (b : Bool) → truth_of (not b) + truth_of b ≡ 1
truth-not true = refl
truth-not false = refl

-- a list behind another
pub number-append : (s : List Bool) (xs ys : List Lit) → number s (xs ++ ys) ≡ number s xs + 2 ^ length xs * number s ys
number-append s [] ys = omega arith
number-append s (x ∷ xs) ys =
    let rest = number-append s xs ys in
    let P = 2 ^ length xs in
    let double : 2 ^ suc (length xs) ≡ 2 * P = omega arith in
    rw double (omega (arith, rest))

pub number_push : (s : List Bool) (xs : List Lit) (l : Lit) → number s (xs ++ l ∷ []) ≡ number s xs + 2 ^ length xs * truth_of (value s l)
number_push s xs l = number-append s xs (l ∷ []) ∙ ap (λ n. number s xs + 2 ^ length xs * n) (omega arith)

-- a number fits its literals
pub number_below : (s : List Bool) (xs : List Lit) → number s xs < 2 ^ length xs
number_below s [] = omega arith
number_below s (x ∷ xs) =
    let rest = number_below s xs in
    let bit = truth_below (value s x) in
    let double : 2 ^ suc (length xs) ≡ 2 * 2 ^ length xs = omega arith in
    rw double (omega arith)

-- one more bit
pub number_more : (s : List Bool) (xs : List Lit) (i : ℕ) (d : Lit) → i < length xs
    → number s (take (i + 1) xs) ≡ number s (take i xs) + 2 ^ i * truth_of (value s (get_or xs i d))
number_more s xs i d h =
    ap (number s) (take_more xs i d h) ∙ number_push s (take i xs) (get_or xs i d)
    ∙ ap (λ n. number s (take i xs) + 2 ^ n * truth_of (value s (get_or xs i d))) (length-take-le i xs (omega arith))

-- one more bit that is written
pub number_written : (s : List Bool) (xs : List Lit) (i : ℕ) (l : Lit) → i < length xs
    → number s (take (i + 1) (set xs i l)) ≡ number s (take i xs) + 2 ^ i * truth_of (value s l)
number_written s xs i l h =
    ap (number s) (take_more_set xs i l h) ∙ number_push s (take i xs) l
    ∙ ap (λ n. number s (take i xs) + 2 ^ n * truth_of (value s l)) (length-take-le i xs (omega arith))

-- the low and the high part
pub number_parts : (s : List Bool) (k : ℕ) (xs : List Lit) → k ≤ length xs → number s xs ≡ number s (take k xs) + 2 ^ k * number s (drop k xs)
number_parts s k xs h =
    ap (number s) (sym (take-append-drop k xs)) ∙ number-append s (take k xs) (drop k xs)
    ∙ ap (λ n. number s (take k xs) + 2 ^ n * number s (drop k xs)) (length-take-le k xs h)

pub number_low : (s : List Bool) (k : ℕ) (xs : List Lit) → k ≤ length xs → number s (take k xs) < 2 ^ k
number_low s k xs h = subst (λ n. number s (take k xs) < 2 ^ n) (length-take-le k xs h) (number_below s (take k xs))

pub number-take : (s : List Bool) (k : ℕ) (xs : List Lit) → k ≤ length xs → number s (take k xs) ≡ number s xs % 2 ^ k
number-take s k xs h =
    let parts = number_parts s k xs h in
    let low = number_low s k xs h in
    let turned : number s xs ≡ number s (drop k xs) * 2 ^ k + number s (take k xs) = omega arith in
    sym (ap (λ n. n % 2 ^ k) turned ∙ mod_low (number s (drop k xs)) k (number s (take k xs)) low)

pub number-drop : (s : List Bool) (k : ℕ) (xs : List Lit) → k ≤ length xs → number s (drop k xs) ≡ number s xs / 2 ^ k
number-drop s k xs h =
    let parts = number_parts s k xs h in
    let low = number_low s k xs h in
    let turned : number s xs ≡ number s (drop k xs) * 2 ^ k + number s (take k xs) = omega arith in
    sym (ap (λ n. n / 2 ^ k) turned ∙ shr_high (number s (drop k xs)) k (number s (take k xs)) low)

-- from a bit on
pub number_from : (s : List Bool) (xs : List Lit) (i : ℕ) (d : Lit) → i < length xs
    → number s (drop i xs) ≡ truth_of (value s (get_or xs i d)) + 2 * number s (drop (i + 1) xs)
number_from s xs i d h = ap (number s) (drop_more xs i d h)

pub number_from_written : (s : List Bool) (xs : List Lit) (i : ℕ) (l : Lit) → i < length xs
    → number s (drop i (set xs i l)) ≡ truth_of (value s l) + 2 * number s (drop (i + 1) xs)
number_from_written s xs i l h = ap (number s) (drop-set xs i l h)

-- each bit inverted
pub number-inverse : (s : List Bool) (xs : List Lit) → number s (map negated xs) + number s xs + 1 ≡ 2 ^ length xs
number-inverse s [] = omega arith
number-inverse s (x ∷ xs) =
    let rest = number-inverse s xs in
    let bit : truth_of (value s (negated x)) + truth_of (value s x) ≡ 1 = rw value-negated (truth-not (value s x)) in
    let double : 2 ^ suc (length xs) ≡ 2 * 2 ^ length xs = omega arith in
    rw double (omega arith)

-- the same bit everywhere
pub number-replicate_false : (s : List Bool) (n : ℕ) (l : Lit) → value s l ≡ false → number s (replicate n l) ≡ 0
number-replicate_false s zero l e = refl
number-replicate_false s (suc n) l e =
    let rest = number-replicate_false s n l e in
    let bit : truth_of (value s l) ≡ 0 = rw e refl in
    omega arith

pub number-replicate_true : (s : List Bool) (n : ℕ) (l : Lit) → value s l ≡ true → number s (replicate n l) + 1 ≡ 2 ^ n
number-replicate_true s zero l e = omega arith
number-replicate_true s (suc n) l e =
    let rest = number-replicate_true s n l e in
    let bit : truth_of (value s l) ≡ 1 = rw e refl in
    let double : 2 ^ suc n ≡ 2 * 2 ^ n = omega arith in
    rw double (omega arith)
