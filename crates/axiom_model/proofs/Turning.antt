-- A path that turns back holds a cycle, which can be turned to begin at any of its nodes.
use Rattle.std.proofs.Common.{◌≡◌, ℕ, zero, suc, ◌+◌, ◌-◌, ◌<◌, ◌≤◌, List, [], ◌∷◌, ◌++◌, length, get_or, take, drop, Some, refl, sym, ◌∙◌, ap, subst, arith}
use Rattle.std.specs.Prelude.{All, slice_get, slice_index, reverse}
use Rattle.std.proofs.lemmas.List.{append-nil, reverse-append, take-append-drop, get_or_append_left, get_or-reverse, get_or-take, length-reverse, length-take-le}
use Rattle.std.proofs.lemmas.List.Elements.{All-append, All-take, All-drop}
use Rattle.std.proofs.lemmas.List.Sorted.{All-permutation, IsPermutation-reverse}
use Rattle.std.proofs.lemmas.Option.{slice_get_within}
use Rattle.axiom_model.specs.Cycles.{Chain, Cycle}
use Rattle.axiom_model.specs.Sorting.{HasEdge, NoRepeats, IsSimpleCycle}
use Rattle.axiom_model.specs.Walking.{IsTop, TurnsBack}
use Rattle.axiom_model.proofs.Places.{place_drop, once_drop, once_reverse, once_turn}

chain_append : {E : Type 0} (R : E → E → Type 0) (a : E) (xs : List E) (b : E) (ys : List E) (c : E) → Chain R a xs b → Chain R b ys c → Chain R a (xs ++ b ∷ ys) c
chain_append R a [] b ys c e f = (e, f)
chain_append R a (x ∷ xs) b ys c e f = (e.0, chain_append R x xs b ys c e.1 f)

chain_split : {E : Type 0} (R : E → E → Type 0) (a : E) (xs : List E) (b : E) (ys : List E) (c : E) → Chain R a (xs ++ b ∷ ys) c → Chain R a xs b × Chain R b ys c
chain_split R a [] b ys c e = (e.0, e.1)
chain_split R a (x ∷ xs) b ys c e = let r = chain_split R x xs b ys c e.1 in ((e.0, r.0), r.1)

-- a cycle may begin at any of its elements
pub cycle_turn : {E : Type 0} (R : E → E → Type 0) (xs ys : List E) → Cycle R (xs ++ ys) → Cycle R (ys ++ xs)
cycle_turn R [] ys c = subst (λ l. Cycle R l) (sym (append-nil ys)) c
cycle_turn R (x ∷ xs) [] c = subst (λ l. Cycle R l) (append-nil (x ∷ xs)) c
cycle_turn R (x ∷ xs) (y ∷ ys) c =
    let s = chain_split R x xs y ys x c in chain_append R y ys x xs y s.1 s.0

reverse_cons : {E : Type 0} (x : E) (xs : List E) → reverse (x ∷ xs) ≡ reverse xs ++ x ∷ []
reverse_cons x xs = reverse-append (x ∷ []) xs

chain_back : {E : Type 0} (R : E → E → Type 0) (a : E) (xs : List E) (b : E) → Chain (λ p q. R q p) a xs b → Chain R b (reverse xs) a
chain_back R a [] b e = e
chain_back R a (x ∷ xs) b e =
    subst (λ l. Chain R b l a) (sym (reverse_cons x xs)) (chain_append R b (reverse xs) x [] a (chain_back R x xs b e.1) e.0)

-- a cycle against the edges is a cycle along them, from the last to the first
pub cycle_back : {E : Type 0} (R : E → E → Type 0) (l : List E) → Cycle (λ p q. R q p) l → Cycle R (reverse l)
cycle_back R [] c = absurd c
cycle_back R (x ∷ xs) c =
    subst (λ l. Cycle R l) (sym (reverse_cons x xs)) (cycle_turn R (x ∷ []) (reverse xs) (chain_back R x xs x c))

-- neighbours that are joined make a chain
way_chain : (R : ℕ → ℕ → Type 0) (x : ℕ) (xs : List ℕ) (y : ℕ) → ((i a b : ℕ) → slice_get (x ∷ xs) i ≡ Some a → slice_get (x ∷ xs) (suc i) ≡ Some b → R a b) → ((v : ℕ) → IsTop (x ∷ xs) v → R v y) → Chain R x xs y
way_chain R x [] y w t = t x (0, refl, refl)
way_chain R x (z ∷ zs) y w t =
    (w 0 x z refl refl, way_chain R z zs y (λ i. w (suc i)) (λ v p. t v (suc p.0, ap suc p.1, p.2)))

-- the last of what is left is the last of all
top_drop : (n : ℕ) (l : List ℕ) (v : ℕ) → IsTop (drop n l) v → IsTop l v
top_drop zero l v t = t
top_drop (suc n) [] v t = let h = t.1 in absurd (omega arith)
top_drop (suc n) (z ∷ l) v t = let r = top_drop n l v t in (suc r.0, ap suc r.1, r.2)

first_of : (n : ℕ) (l : List ℕ) (v : ℕ) → slice_get l n ≡ Some v → (xs : List ℕ) × (drop n l ≡ v ∷ xs)
first_of n [] v e = let h = slice_get_within [] n v e in absurd (omega arith)
first_of zero (z ∷ l) v e = (l, cc)
first_of (suc n) (z ∷ l) v e = first_of n l v e

-- the part of a path from the node to which it turns back
section_cycle : (edges : List (ℕ × ℕ)) (path : List ℕ) (source n : ℕ) → slice_get path n ≡ Some source → TurnsBack edges path source → Cycle (λ p q. HasEdge edges q p) (drop n path)
section_cycle edges path source n e t =
    let f = first_of n path source e in
    subst (λ l. Cycle (λ p q. HasEdge edges q p) l) (sym f.1)
    (way_chain (λ p q. HasEdge edges q p) source f.0 source
    (λ i a b h k. t.steps (n + i) a b (here f i a h) (next f i b k))
    (λ v p. t.back v (top_drop n path v (subst (λ l. IsTop l v) (sym f.1) p))))
  where
    here : (f : (xs : List ℕ) × (drop n path ≡ source ∷ xs)) (i a : ℕ) → slice_get (source ∷ f.0) i ≡ Some a → slice_get path (n + i) ≡ Some a
    here f i a h = place_drop n path i a (subst (λ l. slice_get l i ≡ Some a) (sym f.1) h)

    next : (f : (xs : List ℕ) × (drop n path ≡ source ∷ xs)) (i a : ℕ) → slice_get (source ∷ f.0) (suc i) ≡ Some a → slice_get path (suc (n + i)) ≡ Some a
    next f i a h = let e : n + suc i ≡ suc (n + i) = omega arith in subst (λ k. slice_get path k ≡ Some a) e (here f (suc i) a h)

-- a list from its m-th element back to its first, and then from its last
abbrev pub turned : List ℕ → ℕ → List ℕ
turned l m = reverse (take m l) ++ reverse (drop m l)

turned_is : (l : List ℕ) (m : ℕ) → reverse (drop m l ++ take m l) ≡ turned l m
turned_is l m = reverse-append (drop m l) (take m l)

first_is : (l : List ℕ) (m : ℕ) → m < length l → slice_index (turned l (m + 1)) 0 ≡ slice_index l m
first_is l m h =
    let n : length (take (m + 1) l) ≡ m + 1 = length-take-le (m + 1) l (omega arith) in
    let r : length (reverse (take (m + 1) l)) ≡ length (take (m + 1) l) = length-reverse (take (m + 1) l) in
    let k : length (take (m + 1) l) - 1 - 0 ≡ m = omega arith in
    get_or_append_left (reverse (take (m + 1) l)) (reverse (drop (m + 1) l)) 0 0 (omega arith)
    ∙ get_or-reverse (take (m + 1) l) 0 0 (omega arith)
    ∙ ap (λ i. get_or (take (m + 1) l) i 0) k
    ∙ get_or-take (m + 1) l m 0 (omega arith)

turned_all : (P : ℕ → Type 0) (l : List ℕ) (m : ℕ) → All P l → All P (turned l m)
turned_all P l m a =
    All-append P (reverse (take m l)) (reverse (drop m l))
    (All-permutation P (take m l) (reverse (take m l)) (IsPermutation-reverse (take m l)) (All-take P m l a))
    (All-permutation P (drop m l) (reverse (drop m l)) (IsPermutation-reverse (drop m l)) (All-drop P m l a))

-- the cycle that a path holds which turns back, from its least node on
pub turns_back-cycle : (edges : List (ℕ × ℕ)) (path : List ℕ) (source n m : ℕ) → slice_get path n ≡ Some source → m < length (drop n path) → All (λ v. slice_index (drop n path) m ≤ v) (drop n path) → TurnsBack edges path source → IsSimpleCycle edges (turned (drop n path) (m + 1))
turns_back-cycle edges path source n m e h a t =
    let l = drop n path in
    let c : Cycle (λ p q. HasEdge edges q p) (take (m + 1) l ++ drop (m + 1) l) = subst (λ x. Cycle (λ p q. HasEdge edges q p) x) (sym (take-append-drop (m + 1) l)) (section_cycle edges path source n e t) in
    let o : NoRepeats (take (m + 1) l ++ drop (m + 1) l) = subst (λ x. NoRepeats x) (sym (take-append-drop (m + 1) l)) (once_drop n path t.once) in
    record {
      cycle = subst (λ x. Cycle (HasEdge edges) x) (turned_is l (m + 1)) (cycle_back (HasEdge edges) (drop (m + 1) l ++ take (m + 1) l) (cycle_turn (λ p q. HasEdge edges q p) (take (m + 1) l) (drop (m + 1) l) c));
      once = subst (λ x. NoRepeats x) (turned_is l (m + 1)) (once_reverse (drop (m + 1) l ++ take (m + 1) l) (once_turn (take (m + 1) l) (drop (m + 1) l) o));
      least_first = subst (λ x. All (λ v. x ≤ v) (turned l (m + 1))) (sym (first_is l m h)) (turned_all (λ v. slice_index l m ≤ v) l (m + 1) a);
    }

-- the same, with the section given
pub turns_back-section : (edges : List (ℕ × ℕ)) (path : List ℕ) (source n m : ℕ) (l : List ℕ) → l ≡ drop n path → slice_get path n ≡ Some source → m < length l → All (λ v. slice_index l m ≤ v) l → TurnsBack edges path source → IsSimpleCycle edges (turned l (m + 1))
turns_back-section edges path source n m l is e h a t =
    subst (λ x. IsSimpleCycle edges (turned x (m + 1))) (sym is)
    (turns_back-cycle edges path source n m e (subst (λ x. m < length x) is h) (subst (λ x. All (λ v. slice_index x m ≤ v) x) is a) t)
