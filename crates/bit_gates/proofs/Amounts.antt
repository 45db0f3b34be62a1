-- Shifts in five steps.
use Rattle.std.proofs.Common.{◌≡◌, ℕ, zero, suc, ◌+◌, ◌-◌, ◌*◌, ◌%◌, ◌^◌, ◌<◌, ◌≤◌, Bool, true, false, List, ◌++◌, length, take, drop, get_or, ap, sym, ◌∙◌, arith}
use Rattle.std.specs.Prelude.{if◌then◌else◌, replicate}
use Rattle.dg_base.specs.declared.Lit.{Lit}
use Rattle.dg_base.specs.Values.{truth_of}
use Rattle.cnf_problem.specs.Literals.{value}
use Rattle.cnf_problem.specs.Formulas.{Formula, HasValue}
use Rattle.bit_gates.specs.Words.{number, filled_shift, IsWordOver, IsWordGate}
use Rattle.bit_gates.proofs.Arith.{up_step, down_step}
use Rattle.bit_gates.proofs.Numbers.{number-take, number_more}
use Rattle.bit_gates.proofs.Shifts.{number_up, number_down, word_fits}
use Rattle.bit_gates.proofs.Steps.{older, word_as, word_behind, word_of_older}

-- the places of a step
pub few_places : (j : ℕ) → j < 5 → 2 ^ j ≤ 16
few_places zero h = omega arith
few_places (suc zero) h = omega arith
few_places (suc (suc zero)) h = omega arith
few_places (suc (suc (suc zero))) h = omega arith
few_places (suc (suc (suc (suc zero)))) h = omega arith
few_places (suc (suc (suc (suc (suc j))))) h = absurd (omega arith)

-- before the first step
pub left_none : (f : Formula) (a amount : List Lit) → IsWordOver f.vars a → IsWordGate f f a (λ s. (number s a * 2 ^ number s (take 0 amount)) % 2 ^ 32)
left_none f a amount over = word_of_older f a (λ s. (number s a * 2 ^ number s (take 0 amount)) % 2 ^ 32) over (λ s sat. same (number s a) (word_fits s a over.0))
  where
    same : (n : ℕ) → n < 2 ^ 32 → n ≡ (n * 2 ^ 0) % 2 ^ 32
    same n h = omega arith

pub right_none : (f : Formula) (a amount : List Lit) (fill : Lit) → IsWordOver f.vars a → IsWordGate f f a (λ s. filled_shift (value s fill) (number s a) (number s (take 0 amount)))
right_none f a amount fill over = word_of_older f a (λ s. filled_shift (value s fill) (number s a) (number s (take 0 amount))) over (λ s sat. same (value s fill) (number s a) (word_fits s a over.0))
  where
    same : (b : Bool) (n : ℕ) → n < 2 ^ 32 → n ≡ filled_shift b n 0
    same true n h = omega arith
    same false n h = omega arith

-- one step
pub left_more : (f g h : Formula) (a amount word moved w : List Lit) (off d : Lit) (j p : ℕ) → j < 5 → p ≡ 2 ^ j → length amount ≡ 32 → HasValue f.clauses off (λ _. false)
    → moved ≡ replicate p off ++ take (32 - p) word
    → IsWordGate f g word (λ s. (number s a * 2 ^ number s (take j amount)) % 2 ^ 32)
    → IsWordGate g h w (λ s. if value s (get_or amount j d) then number s moved else number s word)
    → IsWordGate f h w (λ s. (number s a * 2 ^ number s (take (j + 1) amount)) % 2 ^ 32)
left_more f g h a amount word moved w off d j p within at long never e far step =
    word_as f h w (λ s. if value s (get_or amount j d) then number s moved else number s word) (λ s. (number s a * 2 ^ number s (take (j + 1) amount)) % 2 ^ 32)
    (word_behind f g h w (λ s. if value s (get_or amount j d) then number s moved else number s word) far.extends step)
    (λ s sat.
    let at_g = older g h s step.extends sat in
    let is_off = never s (older f g s far.extends at_g) in
    let few = few_places j within in
    let up = number_up s p word moved off (omega arith) far.over.0 is_off e in
    let before = far.exact s at_g in
    ap (λ z. if value s (get_or amount j d) then z else number s word) up
    ∙ ap (λ z. if value s (get_or amount j d) then (z * 2 ^ p) % 2 ^ 32 else z) before
    ∙ up_step (number s a) (number s (take j amount)) p (value s (get_or amount j d))
    ∙ ap (λ z. (number s a * 2 ^ (number s (take j amount) + z * truth_of (value s (get_or amount j d)))) % 2 ^ 32) at
    ∙ ap (λ z. (number s a * 2 ^ z) % 2 ^ 32) (sym (number_more s amount j d (omega arith))))

pub right_more : (f g h : Formula) (a amount word moved w : List Lit) (fill d : Lit) (j p : ℕ) → j < 5 → p ≡ 2 ^ j → length a ≡ 32 → length amount ≡ 32
    → moved ≡ drop p word ++ replicate p fill
    → IsWordGate f g word (λ s. filled_shift (value s fill) (number s a) (number s (take j amount)))
    → IsWordGate g h w (λ s. if value s (get_or amount j d) then number s moved else number s word)
    → IsWordGate f h w (λ s. filled_shift (value s fill) (number s a) (number s (take (j + 1) amount)))
right_more f g h a amount word moved w fill d j p within at long_a long e far step =
    word_as f h w (λ s. if value s (get_or amount j d) then number s moved else number s word) (λ s. filled_shift (value s fill) (number s a) (number s (take (j + 1) amount)))
    (word_behind f g h w (λ s. if value s (get_or amount j d) then number s moved else number s word) far.extends step)
    (λ s sat.
    let at_g = older g h s step.extends sat in
    let few = few_places j within in
    let down = number_down s p word moved fill (omega arith) far.over.0 e in
    let before = far.exact s at_g in
    ap (λ z. if value s (get_or amount j d) then z else number s word) down
    ∙ ap (λ z. if value s (get_or amount j d) then filled_shift (value s fill) z p else z) before
    ∙ down_step (value s fill) (number s a) (number s (take j amount)) p (value s (get_or amount j d)) (word_fits s a long_a)
    ∙ ap (λ z. filled_shift (value s fill) (number s a) (number s (take j amount) + z * truth_of (value s (get_or amount j d)))) at
    ∙ ap (λ z. filled_shift (value s fill) (number s a) z) (sym (number_more s amount j d (omega arith))))

-- the low five bits
amount_of : (s : List Bool) (amount : List Lit) (j : ℕ) → j ≡ 5 → length amount ≡ 32 → number s (take j amount) ≡ number s amount % 32
amount_of s amount j e long = ap (λ n. number s (take n amount)) e ∙ number-take s 5 amount (omega arith)

pub left_made : (f g : Formula) (a amount w : List Lit) (j : ℕ) → j ≡ 5 → length amount ≡ 32 → IsWordGate f g w (λ s. (number s a * 2 ^ number s (take j amount)) % 2 ^ 32)
    → IsWordGate f g w (λ s. (number s a * 2 ^ (number s amount % 32)) % 2 ^ 32)
left_made f g a amount w j e long gate =
    word_as f g w (λ s. (number s a * 2 ^ number s (take j amount)) % 2 ^ 32) (λ s. (number s a * 2 ^ (number s amount % 32)) % 2 ^ 32) gate
    (λ s sat. ap (λ z. (number s a * 2 ^ z) % 2 ^ 32) (amount_of s amount j e long))

pub right_made : (f g : Formula) (a amount w : List Lit) (fill : Lit) (j : ℕ) → j ≡ 5 → length amount ≡ 32 → IsWordGate f g w (λ s. filled_shift (value s fill) (number s a) (number s (take j amount)))
    → IsWordGate f g w (λ s. filled_shift (value s fill) (number s a) (number s amount % 32))
right_made f g a amount w fill j e long gate =
    word_as f g w (λ s. filled_shift (value s fill) (number s a) (number s (take j amount))) (λ s. filled_shift (value s fill) (number s a) (number s amount % 32)) gate
    (λ s sat. ap (filled_shift (value s fill) (number s a)) (amount_of s amount j e long))
