-- Lists of which each stands before the next one.
use Rattle.std.proofs.Common.{◌≡◌, suc, ◌-◌, Bool, true, List, [], ◌∷◌, ◌++◌, length, Some, refl, ap, sym, ◌∙◌, arith}
use Rattle.std.specs.Prelude.{slice_get}
use Rattle.std.proofs.lemmas.Bool.{and_parts}
use Rattle.witness_text.specs.Spelling.{rises_from, rises}
use Rattle.witness_text.specs.Machine.{last_before, may_follow}

-- the last of a list that is not empty
abbrev final : {A : Type 0} → A → List A → A
final x [] = x
final x (y ∷ ys) = final y ys

final_at : {A : Type 0} (x : A) (xs : List A) → slice_get (x ∷ xs) (length xs) ≡ Some (final x xs)
final_at x [] = refl
final_at x (y ∷ ys) = final_at y ys

last_is : {A : Type 0} (x : A) (xs : List A) → slice_get (x ∷ xs) (length (x ∷ xs) - 1) ≡ Some (final x xs)
last_is {A} x xs =
    let n : suc (length xs) - 1 ≡ length xs = omega arith in
    ap (slice_get (x ∷ xs)) n ∙ final_at x xs

rises_from_push : {A : Type 0} (before : A → A → Bool) (x : A) (xs : List A) (y : A) → rises_from before x xs ≡ true → before (final x xs) y ≡ true → rises_from before x (xs ++ y ∷ []) ≡ true
rises_from_push before x [] y h k = rw k refl
rises_from_push before x (z ∷ zs) y h k =
    let p = and_parts (before x z) (rises_from before z zs) h in
    rw p.0 (rises_from_push before z zs y p.1 k)

pub rises_push : {A : Type 0} (before : A → A → Bool) (xs : List A) (y : A) → rises before xs ≡ true → may_follow before xs y ≡ true → rises before (xs ++ y ∷ []) ≡ true
rises_push before [] y h k = refl
rises_push before (x ∷ xs) y h k = rises_from_push before x xs y h (sym (ap (λ o. last_before before o y) (last_is x xs)) ∙ k)

from_follows : {A : Type 0} (before : A → A → Bool) (x : A) (xs : List A) (y : A) (ys : List A) → rises_from before x (xs ++ y ∷ ys) ≡ true → before (final x xs) y ≡ true
from_follows before x [] y ys h = (and_parts (before x y) (rises_from before y ys) h).0
from_follows before x (z ∷ zs) y ys h = from_follows before z zs y ys (and_parts (before x z) (rises_from before z (zs ++ y ∷ ys)) h).1

pub rises_follows : {A : Type 0} (before : A → A → Bool) (xs : List A) (y : A) (ys : List A) → rises before (xs ++ y ∷ ys) ≡ true → may_follow before xs y ≡ true
rises_follows before [] y ys h = refl
rises_follows before (x ∷ xs) y ys h = ap (λ o. last_before before o y) (last_is x xs) ∙ from_follows before x xs y ys h
