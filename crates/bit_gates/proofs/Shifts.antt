-- Words moved up and down, and products.
use Rattle.std.proofs.Common.{◌≡◌, ℕ, ◌+◌, ◌-◌, ◌*◌, ◌/◌, ◌%◌, ◌^◌, ◌<◌, ◌≤◌, Bool, true, false, List, ◌++◌, map, length, take, drop, get_or, refl, ap, sym, ◌∙◌, subst, arith}
use Rattle.std.specs.Prelude.{if◌then◌else◌, replicate}
use Rattle.std.proofs.lemmas.List.{take_all, length-replicate, length-append, length-take-le, length-drop, drop-map, length-map}
use Rattle.std.proofs.lemmas.List.Elements.{All-append, All-replicate, All-take, All-drop}
use Rattle.std.proofs.lemmas.Nat.{pow-add}
use Rattle.dg_base.specs.declared.Lit.{Lit}
use Rattle.dg_base.specs.Values.{truth_of}
use Rattle.cnf_problem.specs.Literals.{value, negated, IsOver}
use Rattle.cnf_problem.specs.Formulas.{Formula, HasValue}
use Rattle.bit_gates.specs.Words.{number, filled_shift, IsWordOver, Spells, IsWordGate}
use Rattle.bit_gates.proofs.Arith.{row_step, row_sum, moved_within}
use Rattle.bit_gates.proofs.Numbers.{number-append, number-take, number-drop, number_more, number_below, number-inverse, number-replicate_false, number-replicate_true}
use Rattle.bit_gates.proofs.Steps.{older, word_as, word_behind, word_of_older}

-- a word fits 32 bits
pub word_fits : (s : List Bool) (w : List Lit) → length w ≡ 32 → number s w < 2 ^ 32
word_fits s w long = subst (λ n. number s w < 2 ^ n) long (number_below s w)

-- a word moved up is a word
pub up_over : (n p : ℕ) (w moved : List Lit) (fill : Lit) → p ≤ 32 → IsWordOver n w → IsOver n fill → moved ≡ replicate p fill ++ take (32 - p) w → IsWordOver n moved
up_over n p w moved fill few (long, over) fill_over e =
    let front = length-replicate p fill in
    let back : length (take (32 - p) w) ≡ 32 - p = length-take-le (32 - p) w (omega arith) in
    let all = length-append (replicate p fill) (take (32 - p) w) in
    subst (λ z. IsWordOver n z) (sym e)
    (omega arith, All-append (IsOver n) (replicate p fill) (take (32 - p) w) (All-replicate (IsOver n) p fill fill_over) (All-take (IsOver n) (32 - p) w over))

pub down_over : (n p : ℕ) (w moved : List Lit) (fill : Lit) → p ≤ 32 → IsWordOver n w → IsOver n fill → moved ≡ drop p w ++ replicate p fill → IsWordOver n moved
down_over n p w moved fill few (long, over) fill_over e =
    let front = length-drop p w in
    let back = length-replicate p fill in
    let all = length-append (drop p w) (replicate p fill) in
    subst (λ z. IsWordOver n z) (sym e)
    (omega arith, All-append (IsOver n) (drop p w) (replicate p fill) (All-drop (IsOver n) p w over) (All-replicate (IsOver n) p fill fill_over))

-- the number moved up
pub number_up : (s : List Bool) (p : ℕ) (w moved : List Lit) (fill : Lit) → p ≤ 32 → length w ≡ 32 → value s fill ≡ false → moved ≡ replicate p fill ++ take (32 - p) w
    → number s moved ≡ (number s w * 2 ^ p) % 2 ^ 32
number_up s p w moved fill few long off e =
    let none = number-replicate_false s p fill off in
    let low = number-take s (32 - p) w (omega arith) in
    ap (number s) e ∙ number-append s (replicate p fill) (take (32 - p) w)
    ∙ ap (λ z. z + 2 ^ length (replicate p fill) * number s (take (32 - p) w)) none
    ∙ ap (λ z. 0 + 2 ^ z * number s (take (32 - p) w)) (length-replicate p fill)
    ∙ ap (λ z. 0 + 2 ^ p * z) low
    ∙ zero_and (2 ^ p * (number s w % 2 ^ (32 - p))) ∙ moved_within (number s w) p (32 - p) (omega arith)
  where
    zero_and : (n : ℕ) → 0 + n ≡ n
    zero_and n = omega arith

-- the number moved down
pub number_down : (s : List Bool) (p : ℕ) (w moved : List Lit) (fill : Lit) → p ≤ 32 → length w ≡ 32 → moved ≡ drop p w ++ replicate p fill
    → number s moved ≡ filled_shift (value s fill) (number s w) p
number_down s p w moved fill few long e = by_fill (value s fill) refl
  where
    times_zero : (n m : ℕ) → n + m * 0 ≡ n
    times_zero n m = omega arith

    times : (P r Q : ℕ) → r + 1 ≡ Q → P * r + P ≡ P * Q
    times P r Q e = rw (← e) (omega arith)

    filled : (h P Q r i : ℕ) → r + 1 ≡ Q → P * Q ≡ 2 ^ 32 → i + h + 1 ≡ P → h + P * r ≡ 2 ^ 32 - 1 - i
    filled h P Q r i ones powers high =
        let all : P * r + P ≡ 2 ^ 32 = times P r Q ones ∙ powers in
        omega arith

    split : number s moved ≡ number s (drop p w) + 2 ^ (32 - p) * number s (replicate p fill)
    split =
        ap (number s) e ∙ number-append s (drop p w) (replicate p fill)
        ∙ ap (λ z. number s (drop p w) + 2 ^ z * number s (replicate p fill)) (length-drop p w ∙ ap (λ n. n - p) long)

    by_fill : (b : Bool) → value s fill ≡ b → number s moved ≡ filled_shift b (number s w) p
    by_fill false off =
        let none = number-replicate_false s p fill off in
        split ∙ ap (λ z. number s (drop p w) + 2 ^ (32 - p) * z) none ∙ times_zero (number s (drop p w)) (2 ^ (32 - p)) ∙ number-drop s p w (omega arith)
    by_fill true on =
        let ones = number-replicate_true s p fill on in
        let places : 32 - p + p ≡ 32 = omega arith in
        let powers : 2 ^ (32 - p) * 2 ^ p ≡ 2 ^ 32 = sym (pow-add 2 (32 - p) p) ∙ ap (λ n. 2 ^ n) places in
        let inverse : number s (map negated w) + number s w + 1 ≡ 2 ^ 32 = number-inverse s w ∙ ap (λ n. 2 ^ n) long in
        let moved_inverse : number s (map negated (drop p w)) ≡ number s (map negated w) / 2 ^ p =
        ap (number s) (sym (drop-map negated p w)) ∙ number-drop s p (map negated w) (let l = length-map w negated in omega arith) in
        let high : number s (map negated (drop p w)) + number s (drop p w) + 1 ≡ 2 ^ (32 - p) = number-inverse s (drop p w) ∙ ap (λ n. 2 ^ n) (length-drop p w ∙ ap (λ n. n - p) long) in
        let turned : number s (map negated w) ≡ 2 ^ 32 - 1 - number s w = omega arith in
        split ∙ filled (number s (drop p w)) (2 ^ (32 - p)) (2 ^ p) (number s (replicate p fill)) (number s (map negated (drop p w))) ones powers high
        ∙ ap (λ z. 2 ^ 32 - 1 - z) (moved_inverse ∙ ap (λ z. z / 2 ^ p) turned)

-- one row of a product
pub row_added : (f g h : Formula) (sum a row moved zero w : List Lit) (bit off : Lit) (p : ℕ) → p < 32 → length a ≡ 32 → moved ≡ replicate p off ++ take (32 - p) a
    → HasValue f.clauses off (λ _. false) → Spells f.clauses zero (λ _. 0)
    → IsWordGate f g row (λ s. if value s bit then number s moved else number s zero)
    → IsWordGate g h w (λ s. (number s sum + number s row + truth_of (value s off)) % 2 ^ 32)
    → IsWordGate f h w (λ s. (number s sum + truth_of (value s bit) * (number s a * 2 ^ p)) % 2 ^ 32)
row_added f g h sum a row moved zero w bit off p few long e never none first second =
    word_as f h w (λ s. (number s sum + number s row + truth_of (value s off)) % 2 ^ 32) (λ s. (number s sum + truth_of (value s bit) * (number s a * 2 ^ p)) % 2 ^ 32)
    (word_behind f g h w (λ s. (number s sum + number s row + truth_of (value s off)) % 2 ^ 32) first.extends second)
    (λ s sat.
    let at_g = older g h s second.extends sat in
    let at_f = older f g s first.extends at_g in
    let is_off = never s at_f in
    ap (λ z. (number s sum + z + truth_of (value s off)) % 2 ^ 32)
    (first.exact s at_g ∙ ap (λ z. if value s bit then z else number s zero) (number_up s p a moved off (omega arith) long is_off e) ∙ ap (λ z. if value s bit then (number s a * 2 ^ p) % 2 ^ 32 else z) (none s at_f))
    ∙ ap (λ z. (number s sum + (if value s bit then (number s a * 2 ^ p) % 2 ^ 32 else 0) + truth_of z) % 2 ^ 32) is_off
    ∙ row_sum (number s sum) (number s a * 2 ^ p) (value s bit))

pub product_none : (f : Formula) (a b zero : List Lit) → IsWordOver f.vars zero → Spells f.clauses zero (λ _. 0) → IsWordGate f f zero (λ s. (number s a * number s (take 0 b)) % 2 ^ 32)
product_none f a b zero over none = word_of_older f zero (λ s. (number s a * number s (take 0 b)) % 2 ^ 32) over (λ s sat. none s sat ∙ nothing (number s a))
  where
    nothing : (n : ℕ) → 0 ≡ (n * 0) % 2 ^ 32
    nothing n = omega arith

pub product_more : (f g h : Formula) (a b sum w : List Lit) (d : Lit) (i : ℕ) → i < 32 → length b ≡ 32
    → IsWordGate f g sum (λ s. (number s a * number s (take i b)) % 2 ^ 32)
    → IsWordGate g h w (λ s. (number s sum + truth_of (value s (get_or b i d)) * (number s a * 2 ^ i)) % 2 ^ 32)
    → IsWordGate f h w (λ s. (number s a * number s (take (i + 1) b)) % 2 ^ 32)
product_more f g h a b sum w d i within long far row =
    word_as f h w (λ s. (number s sum + truth_of (value s (get_or b i d)) * (number s a * 2 ^ i)) % 2 ^ 32) (λ s. (number s a * number s (take (i + 1) b)) % 2 ^ 32)
    (word_behind f g h w (λ s. (number s sum + truth_of (value s (get_or b i d)) * (number s a * 2 ^ i)) % 2 ^ 32) far.extends row)
    (λ s sat.
    ap (λ z. (z + truth_of (value s (get_or b i d)) * (number s a * 2 ^ i)) % 2 ^ 32) (far.exact s (older g h s row.extends sat))
    ∙ row_step (number s a) (number s (take i b)) i (value s (get_or b i d))
    ∙ ap (λ z. (number s a * z) % 2 ^ 32) (sym (number_more s b i d (omega arith))))

pub product_made : (f g : Formula) (a b w : List Lit) (i : ℕ) → i ≡ 32 → length b ≡ 32 → IsWordGate f g w (λ s. (number s a * number s (take i b)) % 2 ^ 32)
    → IsWordGate f g w (λ s. (number s a * number s b) % 2 ^ 32)
product_made f g a b w i e long gate =
    word_as f g w (λ s. (number s a * number s (take i b)) % 2 ^ 32) (λ s. (number s a * number s b) % 2 ^ 32) gate
    (λ s sat. ap (λ z. (number s a * number s z) % 2 ^ 32) (take_all i b (omega arith)))
