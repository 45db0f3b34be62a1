-- Lists that a loop makes, one item more each turn.
use Rattle.std.proofs.Common.{◌≡◌, ◌∙◌, ◌≤◌, ◌+◌, ℕ, zero, suc, List, [], ◌∷◌, ◌++◌, Some, refl, sym, ap, arith, take, map, length}
use Rattle.std.specs.Prelude.{slice_get}
use Rattle.std.proofs.lemmas.List.{map_push}
use Rattle.std.proofs.Math.Seq.{take-length}
use Rattle.dg_base.proofs.Lists.{get_nothing, one_answer}

pub take_through : {X : Type 0} (xs : List X) (i : ℕ) (x : X) → slice_get xs i ≡ Some x → take (suc i) xs ≡ take i xs ++ x ∷ []
take_through [] i x at = absurd (get_nothing i x at)
take_through (y ∷ ys) zero x at = ap (λ z. z ∷ []) (one_answer (Some y) y x refl at)
take_through (y ∷ ys) (suc i) x at = ap (λ zs. y ∷ zs) (take_through ys i x at)

pub one_more : {X Y : Type 0} (f : X → Y) (xs new : List X) (x : X) (ys : List Y) (i : ℕ) → map f xs ≡ take i ys → new ≡ xs ++ x ∷ []
    → slice_get ys i ≡ Some (f x) → map f new ≡ take (i + 1) ys
one_more f xs new x ys i so_far grown at =
    let on : i + 1 ≡ suc i = omega arith in
    ap (map f) grown ∙ map_push f xs x ∙ ap (λ zs. zs ++ f x ∷ []) so_far ∙ sym (ap (λ n. take n ys) on ∙ take_through ys i (f x) at)

pub all_taken : {X : Type 0} (xs : List X) (i n : ℕ) → n ≡ length xs → n ≤ i → i ≤ n → take i xs ≡ xs
all_taken xs i n whole low high =
    let e : i ≡ length xs = omega arith in
    ap (λ k. take k xs) e ∙ take-length xs
