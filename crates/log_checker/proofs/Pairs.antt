-- The pairs of one graph: which edges they list, and how the list grows.
use Rattle.std.proofs.Common.{◌≡◌, ℕ, zero, suc, ◌+◌, ◌<◌, ◌≤◌, inl, inr, Bool, true, false, List, [], ◌∷◌, ◌++◌, length, drop, get_or, refl, ap, sym, ◌∙◌, subst, append-nil, append_assoc, add-one}
use Rattle.std.specs.Prelude.{Contains, flat_map, if◌then◌else◌}
use Rattle.std.proofs.lemmas.List.Elements.{Contains-append_cases, Contains-append_left, Contains-append_right}
use Rattle.std.proofs.Common.{drop-cons}
use Rattle.std.proofs.lemmas.List.{drop_all}
use Rattle.std.proofs.lemmas.Option.{get_or_from_slice_get, slice_get_read}
use Rattle.dg_base.proofs.Lists.{contains_cases, contains_head, contains_tail, get_nothing, place_of}
use Rattle.axiom_model.specs.Sorting.{HasEdge as IsListed}
use Rattle.cnf_problem.specs.declared.problem.Atom.{Atom}
use Rattle.cnf_problem.specs.declared.problem.AtomKind.TheVariants.{Plain}
use Rattle.cnf_problem.specs.declared.problem.Edge.{Edge}
use Rattle.cnf_problem.specs.declared.problem.Graph.{Graph}
use Rattle.cnf_problem.specs.declared.problem.Graph.TheVariants.{Local, Global}
use Rattle.cnf_problem.specs.declared.problem.Problem.{Problem}
use Rattle.log_checker.specs.Pairs.{all_derived, all_edges, atom_at, own_edges, pairs_in, same_graph}

abbrev pub edge : Graph → ℕ → ℕ → Edge
edge graph x y = record { graph = graph; from = x; to = y }

-- ---- one graph

same_self : (g : Graph) → same_graph g g ≡ true
same_self Local = refl
same_self Global = refl

same_is : (g h : Graph) → same_graph g h ≡ true → h ≡ g
same_is Local Local e = refl
same_is Local Global e = absurd cc
same_is Global Local e = absurd cc
same_is Global Global e = refl

edge_is : (e : Edge) (g : Graph) (x y : ℕ) → e.graph ≡ g → e.from ≡ x → e.to ≡ y → e ≡ edge g x y
edge_is e g x y a b c = ap (λ (z : Graph). edge z e.from e.to) a ∙ (ap (λ (z : ℕ). edge g z e.to) b ∙ ap (λ (z : ℕ). edge g x z) c)

-- a listed pair stands for an edge of this graph
pub from_listed : (g : Graph) (edges : List Edge) (x y : ℕ) → IsListed (pairs_in g edges) x y → Contains edges (edge g x y)
from_listed g [] x y (k, h) = absurd (get_nothing k (x, y) h)
from_listed g (e ∷ edges) x y listed = by (same_graph g e.graph) refl listed (from_listed g edges x y)
  where
    by : (b : Bool) → same_graph g e.graph ≡ b → IsListed (if b then (e.from, e.to) ∷ pairs_in g edges else pairs_in g edges) x y → (IsListed (pairs_in g edges) x y → Contains edges (edge g x y)) → Contains (e ∷ edges) (edge g x y)
    by true same (zero, h) more =
        let ends : (e.from, e.to) ≡ (x, y) = cc in
        subst (λ z. Contains (e ∷ edges) z) (edge_is e g x y (same_is g e.graph same) (ap (λ (z : ℕ × ℕ). z.0) ends) (ap (λ (z : ℕ × ℕ). z.1) ends)) (contains_head e edges)
    by true same (suc k, h) more = contains_tail e (edge g x y) edges (more (k, h))
    by false same h more = contains_tail e (edge g x y) edges (more h)

-- each edge of this graph is listed
pub listed_in : (g : Graph) (edges : List Edge) (x y : ℕ) → Contains edges (edge g x y) → IsListed (pairs_in g edges) x y
listed_in g [] x y c = let p = place_of [] (edge g x y) c in absurd (get_nothing p.0 (edge g x y) p.1)
listed_in g (e ∷ edges) x y c =
    elim (contains_cases e (edge g x y) edges c) [
      | inl own ↦ subst (λ (z : Edge). IsListed (pairs_in g (z ∷ edges)) x y) own (here (same_graph g g) (same_self g))
      | inr more ↦ later (same_graph g e.graph) (listed_in g edges x y more)
    ]
  where
    here : (b : Bool) → b ≡ true → IsListed (if b then (x, y) ∷ pairs_in g edges else pairs_in g edges) x y
    here true e = (0, refl)
    here false e = absurd cc

    later : (b : Bool) → IsListed (pairs_in g edges) x y → IsListed (if b then (e.from, e.to) ∷ pairs_in g edges else pairs_in g edges) x y
    later true (k, h) = (suc k, h)
    later false h = h

-- ---- how the list grows

pub pairs_in-append : (g : Graph) (xs ys : List Edge) → pairs_in g (xs ++ ys) ≡ pairs_in g xs ++ pairs_in g ys
pairs_in-append g [] ys = refl
pairs_in-append g (e ∷ xs) ys = by (same_graph g e.graph) (pairs_in-append g xs ys)
  where
    by : (b : Bool) → pairs_in g (xs ++ ys) ≡ pairs_in g xs ++ pairs_in g ys
        → (if b then (e.from, e.to) ∷ pairs_in g (xs ++ ys) else pairs_in g (xs ++ ys)) ≡ (if b then (e.from, e.to) ∷ pairs_in g xs else pairs_in g xs) ++ pairs_in g ys
    by true h = ap (λ z. (e.from, e.to) ∷ z) h
    by false h = h

-- a turn of a loop that puts edges behind others, one by one
pub edge_turn : (g : Graph) (edges : List Edge) (i : ℕ) (d : Edge) (old new whole : List (ℕ × ℕ)) → i < length edges
    → new ≡ old ++ pairs_in g (get_or edges i d ∷ []) → old ++ pairs_in g (drop i edges) ≡ whole → new ++ pairs_in g (drop (i + 1) edges) ≡ whole
edge_turn g edges i d old new whole w is was =
    let front : drop i edges ≡ get_or edges i d ∷ drop (i + 1) edges = drop-cons edges i d w ∙ ap (λ z. get_or edges i d ∷ drop z edges) (sym (add-one i)) in
    ap (λ z. z ++ pairs_in g (drop (i + 1) edges)) is ∙ (append_assoc old (pairs_in g (get_or edges i d ∷ [])) (pairs_in g (drop (i + 1) edges))
    ∙ (ap (λ z. old ++ z) (sym (ap (pairs_in g) front ∙ pairs_in-append g (get_or edges i d ∷ []) (drop (i + 1) edges))) ∙ was))

-- and of one that puts several at a time
pub put_turn : {X : Type 0} (g : Graph) (f : X → List Edge) (xs : List X) (i : ℕ) (d : X) (old new whole : List (ℕ × ℕ)) → i < length xs
    → new ≡ old ++ pairs_in g (f (get_or xs i d)) → old ++ pairs_in g (flat_map f (drop i xs)) ≡ whole → new ++ pairs_in g (flat_map f (drop (i + 1) xs)) ≡ whole
put_turn g f xs i d old new whole w is was =
    let front : drop i xs ≡ get_or xs i d ∷ drop (i + 1) xs = drop-cons xs i d w ∙ ap (λ z. get_or xs i d ∷ drop z xs) (sym (add-one i)) in
    ap (λ z. z ++ pairs_in g (flat_map f (drop (i + 1) xs))) is ∙ (append_assoc old (pairs_in g (f (get_or xs i d))) (pairs_in g (flat_map f (drop (i + 1) xs)))
    ∙ (ap (λ z. old ++ z) (sym (ap (λ z. pairs_in g (flat_map f z)) front ∙ pairs_in-append g (f (get_or xs i d)) (flat_map f (drop (i + 1) xs)))) ∙ was))

-- ---- members of lists that are joined

pub in_joined : {X Y : Type 0} (f : X → List Y) (xs : List X) (x : X) (y : Y) → Contains xs x → Contains (f x) y → Contains (flat_map f xs) y
in_joined f [] x y c d = let p = place_of [] x c in absurd (get_nothing p.0 x p.1)
in_joined f (z ∷ xs) x y c d =
    elim (contains_cases z x xs c) [
      | inl own ↦ Contains-append_left (f z) (flat_map f xs) y (subst (λ w. Contains (f w) y) own d)
      | inr more ↦ Contains-append_right (f z) (flat_map f xs) y (in_joined f xs x y more d)
    ]

pub from_joined : {X Y : Type 0} (f : X → List Y) (xs : List X) (y : Y) → Contains (flat_map f xs) y → (x : X) × Contains xs x × Contains (f x) y
from_joined f [] y c = let p = place_of [] y c in absurd (get_nothing p.0 y p.1)
from_joined f (x ∷ xs) y c =
    elim (Contains-append_cases (f x) (flat_map f xs) y c) [
      | inl own ↦ (x, contains_head x xs, own)
      | inr more ↦ let r = from_joined f xs y more in (r.0, contains_tail x r.0 xs r.1, r.2)
    ]

-- ---- ends of loops, and reads

pub edges_done : (g : Graph) (edges : List Edge) (i : ℕ) (now whole : List (ℕ × ℕ)) → length edges ≤ i → now ++ pairs_in g (drop i edges) ≡ whole → now ≡ whole
edges_done g edges i now whole w h = sym (append-nil now) ∙ (ap (λ z. now ++ pairs_in g z) (sym (drop_all i edges w)) ∙ h)

pub puts_done : {X : Type 0} (g : Graph) (f : X → List Edge) (xs : List X) (i : ℕ) (now whole : List (ℕ × ℕ)) → length xs ≤ i → now ++ pairs_in g (flat_map f (drop i xs)) ≡ whole → now ≡ whole
puts_done g f xs i now whole w h = sym (append-nil now) ∙ (ap (λ z. now ++ pairs_in g (flat_map f z)) (sym (drop_all i xs w)) ∙ h)

-- what is read at a place is the atom there
pub atom_is : (atoms : List Atom) (k : ℕ) (a : Atom) → k < length atoms → a ≡ get_or atoms k a → atom_at atoms k ≡ a
atom_is atoms k a w is = get_or_from_slice_get atoms k a (record { lit = record { 0 = 0 }; kind = Plain; edges = [] }) (slice_get_read atoms (length atoms) k a refl w is)

-- all edges are put
pub all_put : (p : Problem) (places : List ℕ) (g : Graph) (n a b e : List (ℕ × ℕ)) → n ≡ [] → a ≡ n ++ pairs_in g p.fixed → b ≡ a ++ pairs_in g (own_edges p.atoms places) → e ≡ b ++ pairs_in g (all_derived p.nodes p.atoms places)
    → e ≡ pairs_in g (all_edges p places)
all_put p places g n a b e none fixed own derived =
    let x = pairs_in g p.fixed in
    let y = pairs_in g (own_edges p.atoms places) in
    let z = pairs_in g (all_derived p.nodes p.atoms places) in
    let first : a ≡ x = fixed ∙ ap (λ w. w ++ x) none in
    derived ∙ (ap (λ w. w ++ z) (own ∙ ap (λ w. w ++ y) first) ∙ (append_assoc x y z
    ∙ sym (pairs_in-append g p.fixed (own_edges p.atoms places ++ all_derived p.nodes p.atoms places) ∙ ap (λ w. x ++ w) (pairs_in-append g (own_edges p.atoms places) (all_derived p.nodes p.atoms places)))))
