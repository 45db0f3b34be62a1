-- The trail cut at a level.
use Rattle.std.proofs.Common.{◌≡◌, ℕ, zero, suc, ◌+◌, ◌-◌, ◌<◌, ◌≤◌, List, [], ◌∷◌, ◌++◌, length, min, take, refl, ap, sym, ◌∙◌, subst, arith}
use Rattle.std.specs.Prelude.{Contains}
use Rattle.std.proofs.lemmas.List.{map-append, length-append}
use Rattle.std.proofs.lemmas.List.Elements.{Contains-append_left}
use Rattle.dg_base.specs.declared.Lit.{Lit}
use Rattle.trail_state.specs.Trails.{Assigned, Decided, Forced, true_lits, level, up_to}

-- with all its levels a trail is whole
pub up_to_all : (n : ℕ) (entries : List Assigned) → level entries ≤ n → up_to n entries ≡ entries
up_to_all n [] h = refl
up_to_all n (Forced l id ∷ entries) h = ap (λ z. Forced l id ∷ z) (up_to_all n entries h)
up_to_all zero (Decided l ∷ entries) h = absurd (omega arith)
up_to_all (suc n) (Decided l ∷ entries) h = ap (λ z. Decided l ∷ z) (up_to_all n entries (omega arith))

-- a cut of a cut
pub up_to-up_to : (m n : ℕ) (entries : List Assigned) → m ≤ n → up_to m (up_to n entries) ≡ up_to m entries
up_to-up_to m n [] h = refl
up_to-up_to m n (Forced l id ∷ entries) h = ap (λ z. Forced l id ∷ z) (up_to-up_to m n entries h)
up_to-up_to zero zero (Decided l ∷ entries) h = refl
up_to-up_to zero (suc n) (Decided l ∷ entries) h = refl
up_to-up_to (suc m) zero (Decided l ∷ entries) h = absurd (omega arith)
up_to-up_to (suc m) (suc n) (Decided l ∷ entries) h = ap (λ z. Decided l ∷ z) (up_to-up_to m n entries (omega arith))

-- the level of a cut
pub level-up_to : (n : ℕ) (entries : List Assigned) → n ≤ level entries → level (up_to n entries) ≡ n
level-up_to n [] h = omega arith
level-up_to n (Forced l id ∷ entries) h = level-up_to n entries h
level-up_to zero (Decided l ∷ entries) h = refl
level-up_to (suc n) (Decided l ∷ entries) h = ap suc (level-up_to n entries (omega arith))

-- the level of a cut, at most that of the trail
pub level-up_to_min : (n : ℕ) (entries : List Assigned) → level (up_to n entries) ≡ min n (level entries)
level-up_to_min n [] = omega arith
level-up_to_min n (Forced l id ∷ entries) = level-up_to_min n entries
level-up_to_min zero (Decided l ∷ entries) = omega arith
level-up_to_min (suc n) (Decided l ∷ entries) = let h = level-up_to_min n entries in omega arith

-- below the last level a cut does not see what is added
pub up_to-append : (n : ℕ) (entries more : List Assigned) → n < level entries → up_to n (entries ++ more) ≡ up_to n entries
up_to-append n [] more h = absurd (omega arith)
up_to-append n (Forced l id ∷ entries) more h = ap (λ z. Forced l id ∷ z) (up_to-append n entries more h)
up_to-append zero (Decided l ∷ entries) more h = refl
up_to-append (suc n) (Decided l ∷ entries) more h = ap (λ z. Decided l ∷ z) (up_to-append n entries more (omega arith))

-- a cut does not see a last entry of a higher level
pub up_to-push : (n : ℕ) (entries : List Assigned) (a : Assigned) → n < level (entries ++ a ∷ []) → up_to n (entries ++ a ∷ []) ≡ up_to n entries
up_to-push n [] (Forced m i) h = absurd (omega arith)
up_to-push zero [] (Decided m) h = refl
up_to-push (suc n) [] (Decided m) h = absurd (omega arith)
up_to-push n (Forced l id ∷ entries) a h = ap (λ z. Forced l id ∷ z) (up_to-push n entries a h)
up_to-push zero (Decided l ∷ entries) a h = refl
up_to-push (suc n) (Decided l ∷ entries) a h = ap (λ z. Decided l ∷ z) (up_to-push n entries a (omega arith))

-- there are no more levels than entries
pub level-le-length : (entries : List Assigned) → level entries ≤ length entries
level-le-length [] = omega arith
level-le-length (Forced m i ∷ xs) = let h = level-le-length xs in omega arith
level-le-length (Decided m ∷ xs) = let h = level-le-length xs in omega arith

-- a trail is its front and its last entry
pub last_entry : (entries : List Assigned) → 0 < length entries → (a : Assigned) × (take (length entries - 1) entries ++ a ∷ [] ≡ entries)
last_entry [] h = absurd (omega arith)
last_entry (x ∷ []) h = (x, refl)
last_entry (x ∷ y ∷ ys) h =
    let r = last_entry (y ∷ ys) (omega arith) in
    let n : length (x ∷ y ∷ ys) - 1 ≡ suc (length (y ∷ ys) - 1) = omega arith in
    (r.0, rw n (ap (λ z. x ∷ z) r.1))

-- a cut below the last level does not see the last entry
pub up_to_short : (n : ℕ) (entries : List Assigned) → n < level entries → up_to n (take (length entries - 1) entries) ≡ up_to n entries
up_to_short n entries h =
    let some = level-le-length entries in
    let r = last_entry entries (omega arith) in
    sym (sym (ap (λ z. up_to n z) r.1) ∙ up_to-push n (take (length entries - 1) entries) r.0 (rw r.1 h))

-- a decision begins a level
pub up_to-decided : (entries : List Assigned) (a : Assigned) (n : ℕ) → n ≡ level entries → (b : Lit) → a ≡ Decided b → up_to n (entries ++ a ∷ []) ≡ entries
up_to-decided [] a n e b d = rw (e, d) refl
up_to-decided (Forced l id ∷ entries) a n e b d = ap (λ z. Forced l id ∷ z) (up_to-decided entries a n e b d)
up_to-decided (Decided l ∷ entries) a zero e b d = absurd (omega arith)
up_to-decided (Decided l ∷ entries) a (suc n) e b d = ap (λ z. Decided l ∷ z) (up_to-decided entries a n (omega arith) b d)

-- a cut is a front
pub up_to_front : (n : ℕ) (entries : List Assigned) → (rest : List Assigned) × (up_to n entries ++ rest ≡ entries)
up_to_front n [] = ([], refl)
up_to_front n (Forced l id ∷ entries) = let r = up_to_front n entries in (r.0, ap (λ z. Forced l id ∷ z) r.1)
up_to_front zero (Decided l ∷ entries) = (Decided l ∷ entries, refl)
up_to_front (suc n) (Decided l ∷ entries) = let r = up_to_front n entries in (r.0, ap (λ z. Decided l ∷ z) r.1)

-- a cut is the front of its length
pub up_to_take : (n : ℕ) (entries : List Assigned) → up_to n entries ≡ take (length (up_to n entries)) entries
up_to_take n [] = refl
up_to_take n (Forced l id ∷ entries) = ap (λ z. Forced l id ∷ z) (up_to_take n entries)
up_to_take zero (Decided l ∷ entries) = refl
up_to_take (suc n) (Decided l ∷ entries) = ap (λ z. Decided l ∷ z) (up_to_take n entries)

-- a cut is no longer than the trail
pub length-up_to : (n : ℕ) (entries : List Assigned) → length (up_to n entries) ≤ length entries
length-up_to n entries = let r = up_to_front n entries in omega (arith, length-append (up_to n entries) r.0, ap length r.1)

-- a literal with a reason begins no level
pub level-forced : (entries : List Assigned) (b : Lit) (id : ℕ) → level (entries ++ Forced b id ∷ []) ≡ level entries
level-forced [] b id = refl
level-forced (Forced m i ∷ xs) b id = level-forced xs b id
level-forced (Decided m ∷ xs) b id = ap suc (level-forced xs b id)

-- a decision is one level more
pub level-decided : (entries : List Assigned) (b : Lit) → level (entries ++ Decided b ∷ []) ≡ level entries + 1
level-decided [] b = refl
level-decided (Forced m i ∷ xs) b = level-decided xs b
level-decided (Decided m ∷ xs) b = let h = level-decided xs b in omega arith

-- the levels of a longer trail are at least those of its front
pub level-append : (entries more : List Assigned) → level (entries ++ more) ≡ level entries + level more
level-append [] more = omega arith
level-append (Forced m i ∷ xs) more = level-append xs more
level-append (Decided m ∷ xs) more = let h = level-append xs more in omega arith

-- a cut has no literal that the trail has not
pub cut_within : (n : ℕ) (entries : List Assigned) (l : Lit) → Contains (true_lits (up_to n entries)) l → Contains (true_lits entries) l
cut_within n entries l c =
    let r = up_to_front n entries in
    subst (λ z. Contains (true_lits z) l) r.1 (rw map-append (Contains-append_left (true_lits (up_to n entries)) (true_lits r.0) l c))
