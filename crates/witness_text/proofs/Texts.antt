-- Texts that are written part by part.
use Rattle.std.proofs.Common.{◌≡◌, ◌+◌, ◌<◌, ◌≤◌, ℕ, List, [], ◌∷◌, ◌++◌, add-one, append_assoc, drop, drop-cons, get_or, length, refl, ap, subst, sym, ◌∙◌}
use Rattle.std.specs.List.{AllByRecursion}
use Rattle.std.proofs.Math.ListN.{drop_of_length-le}
use Rattle.std.specs.Prelude.{codes}
use Rattle.line_text.specs.Lines.{text_of}
use Rattle.line_text.proofs.Texts.{text_of_append}
use Rattle.witness_text.specs.Witness.{first_line, last_line}

-- the whole text behind what was there
pub whole_text : (o : List ℕ) (a b c : List (List ℕ))
    → (((((o ++ codes "deagle-witness 1\n") ++ text_of a) ++ text_of b) ++ text_of c) ++ codes "end\n") ≡ o ++ text_of (first_line ∷ (a ++ (b ++ (c ++ last_line ∷ []))))
whole_text o a b c =
    let inner : text_of (a ++ (b ++ (c ++ last_line ∷ []))) ≡ text_of a ++ (text_of b ++ (text_of c ++ codes "end\n")) =
    text_of_append a (b ++ (c ++ last_line ∷ [])) ∙ ap (λ t. text_of a ++ t) (text_of_append b (c ++ last_line ∷ []) ∙ ap (λ t. text_of b ++ t) (text_of_append c (last_line ∷ []))) in
    simp append_assoc (ap (λ t. o ++ (codes "deagle-witness 1\n" ++ t)) (sym inner))

-- what all from an index on have, and the one before it, all from that one on have
pub all_from : {A : Type 0} (P : A → Type 0) (xs : List A) (i : ℕ) (d : A) → i < length xs → P (get_or xs i d) → AllByRecursion P (drop (i + 1) xs) → AllByRecursion P (drop i xs)
all_from P xs i d l h rest = rw (drop-cons xs i d l) (h, subst (λ (k : ℕ). AllByRecursion P (drop k xs)) (add-one i) rest)

-- behind the last one nothing is left
pub all_behind : {A : Type 0} (P : A → Type 0) (xs : List A) (i : ℕ) → length xs ≤ i → AllByRecursion P (drop i xs)
all_behind P xs i l = rw (drop_of_length-le xs {i = i} l) tt
