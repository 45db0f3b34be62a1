-- Words that are written place by place.
use Rattle.std.proofs.Common.{◌≡◌, ℕ, ◌+◌, ◌-◌, ◌<◌, ◌≤◌, List, [], ◌∷◌, ◌++◌, map, length, take, drop, set, get_or, ap, sym, ◌∙◌, arith}
use Rattle.std.specs.Prelude.{replicate}
use Rattle.std.proofs.lemmas.List.{append-nil, append_assoc, take_all, take_more, take_more_set, take-replicate, drop-replicate, drop-drop, drop-set-lt, get_or-drop, length-drop, take-append-drop, map_push}
use Rattle.dg_base.specs.declared.Lit.{Lit}
use Rattle.cnf_problem.specs.Literals.{negated}

pub up_none : (p : ℕ) (w : List Lit) (fill : Lit) → p ≤ 32 → take (p + 0) (replicate 32 fill) ≡ replicate p fill ++ take 0 w
up_none p w fill h = ap (λ n. take n (replicate 32 fill)) (omega arith) ∙ take-replicate p 32 fill h ∙ sym (append-nil (replicate p fill))

pub up_more : (p i : ℕ) (w moved : List Lit) (fill d : Lit) → p + i < 32 → length moved ≡ 32 → length w ≡ 32 → take (p + i) moved ≡ replicate p fill ++ take i w
    → take (p + (i + 1)) (set moved (p + i) (get_or w i d)) ≡ replicate p fill ++ take (i + 1) w
up_more p i w moved fill d h long long_w far =
    ap (λ n. take n (set moved (p + i) (get_or w i d))) (omega arith) ∙ take_more_set moved (p + i) (get_or w i d) (omega arith)
    ∙ ap (λ z. z ++ get_or w i d ∷ []) far ∙ append_assoc (replicate p fill) (take i w) (get_or w i d ∷ [])
    ∙ ap (λ z. replicate p fill ++ z) (sym (take_more w i d (omega arith)))

pub up_made : (p i : ℕ) (w moved : List Lit) (fill : Lit) → p ≤ 32 → i ≡ 32 - p → length moved ≡ 32 → take (p + i) moved ≡ replicate p fill ++ take i w
    → moved ≡ replicate p fill ++ take (32 - p) w
up_made p i w moved fill h e long far = sym (take_all (p + i) moved (omega arith)) ∙ far ∙ ap (λ n. replicate p fill ++ take n w) e

pub down_more : (p i : ℕ) (w moved : List Lit) (fill d : Lit) → p + i < 32 → length moved ≡ 32 → length w ≡ 32 → take i moved ≡ take i (drop p w) → drop i moved ≡ replicate (32 - i) fill
    → (take (i + 1) (set moved i (get_or w (p + i) d)) ≡ take (i + 1) (drop p w)) × (drop (i + 1) (set moved i (get_or w (p + i) d)) ≡ replicate (32 - (i + 1)) fill)
down_more p i w moved fill d h long long_w front back =
    let size = length-drop p w in
    let here : get_or w (p + i) d ≡ get_or (drop p w) i d = sym (get_or-drop p w i d) in (
      take_more_set moved i (get_or w (p + i) d) (omega arith) ∙ ap (λ z. z ++ get_or w (p + i) d ∷ []) front ∙ ap (λ z. take i (drop p w) ++ z ∷ []) here
          ∙ sym (take_more (drop p w) i d (omega arith)),
      drop-set-lt (i + 1) moved i (get_or w (p + i) d) (omega arith) ∙ sym (drop-drop 1 i moved) ∙ ap (drop 1) back ∙ drop-replicate 1 (32 - i) fill ∙ ap (λ n. replicate n fill) (omega arith),
    )

pub down_made : (p i : ℕ) (w moved : List Lit) (fill : Lit) → p ≤ 32 → i ≡ 32 - p → length w ≡ 32 → take i moved ≡ take i (drop p w) → drop i moved ≡ replicate (32 - i) fill
    → moved ≡ drop p w ++ replicate p fill
down_made p i w moved fill h e long front back =
    let size = length-drop p w in
    sym (take-append-drop i moved) ∙ ap (λ z. z ++ drop i moved) (front ∙ take_all i (drop p w) (omega arith)) ∙ ap (λ z. drop p w ++ z) (back ∙ ap (λ n. replicate n fill) (omega arith))

pub inverse_more : (i : ℕ) (w inverse : List Lit) (l d : Lit) → i < 32 → length inverse ≡ 32 → length w ≡ 32 → l ≡ negated (get_or w i d) → take i inverse ≡ map negated (take i w)
    → take (i + 1) (set inverse i l) ≡ map negated (take (i + 1) w)
inverse_more i w inverse l d h long long_w e far =
    take_more_set inverse i l (omega arith) ∙ ap (λ z. z ++ l ∷ []) far ∙ ap (λ z. map negated (take i w) ++ z ∷ []) e
    ∙ sym (map_push negated (take i w) (get_or w i d)) ∙ ap (map negated) (sym (take_more w i d (omega arith)))

pub inverse_made : (i : ℕ) (w inverse : List Lit) → i ≡ 32 → length inverse ≡ 32 → length w ≡ 32 → take i inverse ≡ map negated (take i w) → inverse ≡ map negated w
inverse_made i w inverse e long long_w far = sym (take_all i inverse (omega arith)) ∙ far ∙ ap (map negated) (take_all i w (omega arith))
