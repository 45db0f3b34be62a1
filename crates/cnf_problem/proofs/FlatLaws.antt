-- A list that is cut into pieces.
use Rattle.std.proofs.Common.{◌≡◌, ℕ, zero, suc, ◌+◌, ◌-◌, ◌<◌, ◌≤◌, List, [], ◌∷◌, ◌++◌, length, take, drop, get_or, refl, ap, sym, subst, arith, length-drop, length-append}
use Rattle.std.specs.Prelude.{slice_range}
use Rattle.std.proofs.lemmas.List.{drop-take, take-take, length-take, take-append-le, drop-append-le, take_all, drop_at}
use Rattle.cnf_problem.specs.Flat.{pieces, AreEnds, start_of}

-- there are as many pieces as ends
pub length-pieces : {A : Type 0} (xs : List A) (from : ℕ) (ends : List ℕ) → length (pieces xs from ends) ≡ length ends
length-pieces xs from [] = refl
length-pieces xs from (e ∷ es) = ap suc (length-pieces xs e es)

-- the ends lie within the list
pub ends_le : {A : Type 0} (xs : List A) (from : ℕ) (ends : List ℕ) → AreEnds xs from ends → from ≤ length xs
ends_le xs from [] h = omega arith
ends_le xs from (e ∷ es) (le, rest) = let k = ends_le xs e es rest in omega arith

-- piece k lies from where it starts to its end
pub piece_at : {A : Type 0} (xs : List A) (from : ℕ) (ends : List ℕ) (k : ℕ) (d : List A) → k < length ends → get_or (pieces xs from ends) k d ≡ slice_range xs (start_of from ends k) (get_or ends k 0)
piece_at xs from [] k d h = absurd (omega arith)
piece_at xs from (e ∷ es) zero d h = refl
piece_at xs from (e ∷ es) (suc zero) d h = piece_at xs e es 0 d (omega arith)
piece_at xs from (e ∷ es) (suc (suc k)) d h = piece_at xs e es (suc k) d (omega arith)

-- a piece lies within the list
pub piece_within : {A : Type 0} (xs : List A) (from : ℕ) (ends : List ℕ) (k : ℕ) → AreEnds xs from ends → k < length ends → (start_of from ends k ≤ get_or ends k 0) × (get_or ends k 0 ≤ length xs)
piece_within xs from [] k a h = absurd (omega arith)
piece_within xs from (e ∷ es) zero (le, rest) h = (le, ends_le xs e es rest)
piece_within xs from (e ∷ es) (suc zero) (le, rest) h = piece_within xs e es 0 rest (omega arith)
piece_within xs from (e ∷ es) (suc (suc k)) (le, rest) h = piece_within xs e es (suc k) rest (omega arith)

-- a range of the first part of a list
pub range_append : {A : Type 0} (xs ys : List A) (a b : ℕ) → a ≤ b → b ≤ length xs → slice_range (xs ++ ys) a b ≡ slice_range xs a b
range_append xs ys a b h k =
    let d = drop-append-le a xs ys (omega arith) in
    rw (d) (take-append-le (b - a) (drop a xs) ys (omega (arith, length-drop a xs)))

-- the range of the last part
pub range_last : {A : Type 0} (xs ys : List A) → slice_range (xs ++ ys) (length xs) (length (xs ++ ys)) ≡ ys
range_last xs ys =
    rw (drop_at xs ys (length xs) refl) (take_all (length (xs ++ ys) - length xs) ys (omega (arith, length-append xs ys)))

-- one more piece behind the others
pub pieces_push : {A : Type 0} (xs ys : List A) (from : ℕ) (ends : List ℕ) → AreEnds xs from ends → pieces (xs ++ ys) from (ends ++ length (xs ++ ys) ∷ []) ≡ pieces xs from ends ++ ys ∷ []
pieces_push xs ys from [] h = rw (← h) (ap (λ z. z ∷ []) (range_last xs ys))
pieces_push xs ys from (e ∷ es) (le, rest) =
    let r = range_append xs ys from e le (ends_le xs e es rest) in
    rw (r) (ap (λ z. slice_range xs from e ∷ z) (pieces_push xs ys e es rest))

-- its end is the end of the list
pub ends_push : {A : Type 0} (xs ys : List A) (from : ℕ) (ends : List ℕ) → AreEnds xs from ends → AreEnds (xs ++ ys) from (ends ++ length (xs ++ ys) ∷ [])
ends_push xs ys from [] h = (omega (arith, length-append xs ys), refl)
ends_push xs ys from (e ∷ es) (le, rest) = (le, ends_push xs ys e es rest)

-- where a piece behind the first starts
pub start_later : (from : ℕ) (ends : List ℕ) (k : ℕ) → 0 < k → start_of from ends k ≡ get_or ends (k - 1) 0
start_later from ends zero h = absurd (omega arith)
start_later from ends (suc k) h = ap (λ n. get_or ends n 0) (omega arith)

-- as many pieces as the view has
pub cut_up_to : {A : Type 0} (xs : List A) (ends : List ℕ) (v : List (List A)) (k : ℕ) → pieces xs 0 ends ≡ v → k ≤ length v → k ≤ length ends
cut_up_to xs ends v k e h = let n = length-pieces xs 0 ends in let m = ap length e in omega arith

-- a piece of the view
pub cut_within : {A : Type 0} (xs : List A) (ends : List ℕ) (v : List (List A)) (k : ℕ) → pieces xs 0 ends ≡ v → k < length v → k < length ends
cut_within xs ends v k e h = let n = length-pieces xs 0 ends in let m = ap length e in omega arith

-- where a later piece starts
pub start_cons : (from e : ℕ) (es : List ℕ) (n : ℕ) → start_of from (e ∷ es) (suc n) ≡ start_of e es n
start_cons from e es zero = refl
start_cons from e es (suc n) = refl

-- a piece starts within the list
pub start_le : {A : Type 0} (xs : List A) (from : ℕ) (ends : List ℕ) (n : ℕ) → AreEnds xs from ends → n ≤ length ends → (from ≤ start_of from ends n) × (start_of from ends n ≤ length xs)
start_le xs from ends zero a h = (omega arith, ends_le xs from ends a)
start_le xs from [] (suc n) a h = absurd (omega arith)
start_le xs from (e ∷ es) (suc n) (le, rest) h = let r = start_le xs e es n rest (omega arith) in rw (start_cons from e es n) ((omega arith, r.1))

-- a range that ends within the first elements
pub range_take : {A : Type 0} (xs : List A) (n a b : ℕ) → a ≤ b → b ≤ n → slice_range (take n xs) a b ≡ slice_range xs a b
range_take xs n a b h k =
    let e : n ≡ a + (n - a) = omega arith in
    let q : b - a ≤ n - a = omega arith in
    subst (λ m. take (b - a) (drop a (take m xs)) ≡ take (b - a) (drop a xs)) (sym e)
    (rw drop-take (take-take (b - a) (n - a) (drop a xs) q))

-- the first pieces are the pieces of the list up to where the next one starts
pub pieces_take : {A : Type 0} (xs : List A) (from : ℕ) (ends : List ℕ) (n : ℕ) → AreEnds xs from ends → n ≤ length ends → pieces (take (start_of from ends n) xs) from (take n ends) ≡ take n (pieces xs from ends)
pieces_take xs from ends zero a h = refl
pieces_take xs from [] (suc n) a h = absurd (omega arith)
pieces_take xs from (e ∷ es) (suc n) (le, rest) h =
    let r = start_le xs e es n rest (omega arith) in
    let k = range_take xs (start_of e es n) from e le r.0 in
    let q = pieces_take xs e es n rest (omega arith) in
    let s = start_cons from e es n in
    subst (λ m. slice_range (take m xs) from e ∷ pieces (take m xs) e (take n es) ≡ slice_range xs from e ∷ take n (pieces xs e es)) (sym s) (rw (k, q) refl)

-- the first ends are the ends of that list
pub ends_take : {A : Type 0} (xs : List A) (from : ℕ) (ends : List ℕ) (n : ℕ) → AreEnds xs from ends → n ≤ length ends → AreEnds (take (start_of from ends n) xs) from (take n ends)
ends_take xs from ends zero a h = let k = ends_le xs from ends a in omega (arith, length-take from xs)
ends_take xs from [] (suc n) a h = absurd (omega arith)
ends_take xs from (e ∷ es) (suc n) (le, rest) h =
    (le, subst (λ m. AreEnds (take m xs) e (take n es)) (sym (start_cons from e es n)) (ends_take xs e es n rest (omega arith)))
