-- The edges of denied atoms are those of the problem where these hold; cycles and orders of them.
use Rattle.std.proofs.Common.{◌≡◌, ℕ, ◌<◌, inl, inr, Bool, true, false, Some, List, [], ◌∷◌, ◌++◌, length, get_or, sym, subst, arith}
use Rattle.std.specs.Prelude.{◌==◌, All, Contains, if◌then◌else◌, slice_get}
use Rattle.std.proofs.lemmas.List.Elements.{All-contains, Contains-append_cases, Contains-append_left, Contains-append_right}
use Rattle.std.proofs.lemmas.Option.{get_or_from_slice_get, slice_get-get_or}
use Rattle.dg_base.specs.declared.Lit.{Lit}
use Rattle.dg_base.proofs.Lists.{contains_cases, contains_place, get_nothing, get_there, place_of}
use Rattle.axiom_model.specs.Cycles.{Chain, Cycle}
use Rattle.axiom_model.specs.Sorting.{EndsBelow, GoesForward, HasEdge as IsListed, IsOrderOf}
use Rattle.cnf_problem.specs.Bounds.{IsAtomOver, IsBetween, IsNodeOf, nodes_of}
use Rattle.cnf_problem.specs.declared.problem.Atom.{Atom}
use Rattle.cnf_problem.specs.declared.problem.AtomKind.{AtomKind}
use Rattle.cnf_problem.specs.declared.problem.AtomKind.TheVariants.{Plain, ReadFrom, WriteOrder}
use Rattle.cnf_problem.specs.declared.problem.Edge.{Edge}
use Rattle.cnf_problem.specs.declared.problem.Graph.{Graph}
use Rattle.cnf_problem.specs.declared.problem.Graph.TheVariants.{Global, Local}
use Rattle.cnf_problem.specs.declared.problem.Node.{Node}
use Rattle.cnf_problem.specs.declared.problem.Problem.{Problem}
use Rattle.cnf_problem.specs.Edges.{EdgeIn, HasCycle, HasEdge, IsCyclic, Path, derived_edges, global_edge, node_at}
use Rattle.cnf_problem.specs.Edges.HasEdge.{derived, fixed, own}
use Rattle.cnf_problem.specs.Edges.Path.{last, then as further}
use Rattle.cnf_problem.proofs.LemmaLaws.{path_more}
use Rattle.log_checker.specs.Graphs.{AreDenied, IsDenied}
use Rattle.log_checker.specs.Pairs.{all_derived, all_edges, atom_at, derived_with, own_edges, pairs_in}
use Rattle.log_checker.specs.Refusals.{IsOrder}
use Rattle.log_checker.proofs.Pairs.{edge, from_joined, from_listed, in_joined, listed_in}

module _ (p : Problem) (lits : List Lit) (places : List ℕ) (denied : AreDenied p lits places) where
  -- the atom at a denied place
  atom_there : (k : ℕ) → Contains places k → (a : Atom) × (slice_get p.atoms k ≡ Some a) × (atom_at p.atoms k ≡ a) × IsDenied lits a.lit
  atom_there k c =
      let a = get_there p.atoms k (denied.within k c) in
      (a.0, a.1, get_or_from_slice_get p.atoms k a.0 (record { lit = record { 0 = 0 }; kind = Plain; edges = [] }) a.1, (denied.each k a.0 a.1).0 c)

  -- the place of an atom that is denied
  place_there : (a : Atom) → Contains p.atoms a → IsDenied lits a.lit → (k : ℕ) × Contains places k × (atom_at p.atoms k ≡ a)
  place_there a c d =
      let k = place_of p.atoms a c in
      (k.0, (denied.each k.0 a k.1).1 d, get_or_from_slice_get p.atoms k.0 a (record { lit = record { 0 = 0 }; kind = Plain; edges = [] }) k.1)

  pub edge_of_all : (e : Edge) → Contains (all_edges p places) e → HasEdge p (IsDenied lits) e
  edge_of_all e c =
      elim (Contains-append_cases p.fixed (own_edges p.atoms places ++ all_derived p.nodes p.atoms places) e c) [
        | inl f ↦ fixed f
        | inr more ↦ elim (Contains-append_cases (own_edges p.atoms places) (all_derived p.nodes p.atoms places) e more) [
          | inl o ↦
              let r = from_joined (λ k. (atom_at p.atoms k).edges) places e o in
              let a = atom_there r.0 r.1 in
              own a.0 (contains_place p.atoms r.0 a.0 a.1) a.3 (subst (λ (z : Atom). Contains z.edges e) a.2 r.2)
          | inr d ↦
              let r = from_joined (λ k. derived_with p.nodes p.atoms (atom_at p.atoms k).kind places) places e d in
              let s = from_joined (λ k. derived_edges p.nodes (atom_at p.atoms r.0).kind (atom_at p.atoms k).kind) places e r.2 in
              let a = atom_there r.0 r.1 in
              let b = atom_there s.0 s.1 in
              derived a.0 b.0 (contains_place p.atoms r.0 a.0 a.1) a.3 (contains_place p.atoms s.0 b.0 b.1) b.3
              (subst (λ (z : Atom). Contains (derived_edges p.nodes a.0.kind z.kind) e) b.2 (subst (λ (z : Atom). Contains (derived_edges p.nodes z.kind (atom_at p.atoms s.0).kind) e) a.2 s.2))
        ]
      ]

  pub all_of_edge : (e : Edge) → HasEdge p (IsDenied lits) e → Contains (all_edges p places) e
  all_of_edge e (fixed f) = Contains-append_left p.fixed (own_edges p.atoms places ++ all_derived p.nodes p.atoms places) e f
  all_of_edge e (own a c d f) =
      let k = place_there a c d in
      let there : Contains (own_edges p.atoms places) e = in_joined (λ k. (atom_at p.atoms k).edges) places k.0 e k.1 (subst (λ (z : Atom). Contains z.edges e) (sym k.2) f) in
      Contains-append_right p.fixed (own_edges p.atoms places ++ all_derived p.nodes p.atoms places) e (Contains-append_left (own_edges p.atoms places) (all_derived p.nodes p.atoms places) e there)
  all_of_edge e (derived a b c d g h f) =
      let j = place_there a c d in
      let k = place_there b g h in
      let with_it : Contains (derived_with p.nodes p.atoms (atom_at p.atoms j.0).kind places) e =
      in_joined (λ k. derived_edges p.nodes (atom_at p.atoms j.0).kind (atom_at p.atoms k).kind) places k.0 e k.1
      (subst (λ (z : Atom). Contains (derived_edges p.nodes (atom_at p.atoms j.0).kind z.kind) e) (sym k.2) (subst (λ (z : Atom). Contains (derived_edges p.nodes z.kind b.kind) e) (sym j.2) f)) in
      let there : Contains (all_derived p.nodes p.atoms places) e = in_joined (λ k. derived_with p.nodes p.atoms (atom_at p.atoms k).kind places) places j.0 e j.1 with_it in
      Contains-append_right p.fixed (own_edges p.atoms places ++ all_derived p.nodes p.atoms places) e (Contains-append_right (own_edges p.atoms places) (all_derived p.nodes p.atoms places) e there)

  -- a cycle of the pairs is one of the graph
  pub cyclic_of : (g : Graph) → HasCycle (IsListed (pairs_in g (all_edges p places))) → IsCyclic p (IsDenied lits)
  cyclic_of g (n, path) =
      (g, (n, path_more (IsListed (pairs_in g (all_edges p places))) (EdgeIn p (IsDenied lits) g) (λ x y l. edge_of_all (edge g x y) (from_listed g (all_edges p places) x y l)) path))

  -- an order of the pairs is one of the graph
  pub order_in : (g : Graph) (order : List ℕ) → IsOrderOf (length p.nodes) order → All (GoesForward order) (pairs_in g (all_edges p places)) → IsOrder p lits g order
  order_in g order is forward = record {
    all = is;
    forward = λ x y e.
        let l = listed_in g (all_edges p places) x y (all_of_edge (edge g x y) e) in
        All-contains (GoesForward order) (pairs_in g (all_edges p places)) (x, y) forward (contains_place (pairs_in g (all_edges p places)) l.0 (x, y) l.1);
  }

-- ---- cycles as paths

chain_path : (E : ℕ → ℕ → Type 0) (a : ℕ) (xs : List ℕ) (b : ℕ) → Chain E a xs b → Path E a b
chain_path E a [] b h = last h
chain_path E a (x ∷ xs) b h = further h.0 (chain_path E x xs b h.1)

pub cycle_path : (E : ℕ → ℕ → Type 0) (l : List ℕ) → Cycle E l → HasCycle E
cycle_path E [] h = absurd h
cycle_path E (x ∷ xs) h = (x, chain_path E x xs x h)

-- ---- the ends of edges

global_between : (nodes : List Node) (r v : ℕ) → All (IsNodeOf (length nodes)) nodes → r < length nodes → v < length nodes → IsBetween (length nodes) (global_edge nodes r v)
global_between nodes r v all low high = by ((node_at nodes r).block == (node_at nodes v).block)
  where
    by : (b : Bool) → IsBetween (length nodes) (if b then edge Global r v else edge Global (node_at nodes r).last (node_at nodes v).first)
    by true = (low, high)
    by false = ((all r (record { block = r; first = r; last = r }) low).1, (all v (record { block = v; first = v; last = v }) high).0)

derived_between : (nodes : List Node) (a b : AtomKind) → All (IsNodeOf (length nodes)) nodes → All (λ n. n < length nodes) (nodes_of a) → All (λ n. n < length nodes) (nodes_of b) → (e : Edge) → Contains (derived_edges nodes a b) e → IsBetween (length nodes) e
derived_between nodes (ReadFrom w r) (WriteOrder u v) all of_a of_b e c = by (w == u) c
  where
    low : r < length nodes
    low = of_a 1 0 (omega arith)

    high : v < length nodes
    high = of_b 1 0 (omega arith)

    by : (t : Bool) → Contains (if t then edge Local r v ∷ global_edge nodes r v ∷ [] else []) e → IsBetween (length nodes) e
    by false d = absurd (get_nothing (place_of [] e d).0 e (place_of [] e d).1)
    by true d = elim (contains_cases (edge Local r v) e (global_edge nodes r v ∷ []) d) [
      | inl first ↦ subst (λ z. IsBetween (length nodes) z) (sym first) (low, high)
      | inr more ↦ elim (contains_cases (global_edge nodes r v) e [] more) [
        | inl is ↦ subst (λ z. IsBetween (length nodes) z) (sym is) (global_between nodes r v all low high)
        | inr gone ↦ absurd (get_nothing (place_of [] e gone).0 e (place_of [] e gone).1)
      ]
    ]
derived_between nodes (ReadFrom w r) (ReadFrom x s) all of_a of_b e c = absurd (get_nothing (place_of [] e c).0 e (place_of [] e c).1)
derived_between nodes (ReadFrom w r) Plain all of_a of_b e c = absurd (get_nothing (place_of [] e c).0 e (place_of [] e c).1)
derived_between nodes (WriteOrder u v) b all of_a of_b e c = absurd (get_nothing (place_of [] e c).0 e (place_of [] e c).1)
derived_between nodes Plain b all of_a of_b e c = absurd (get_nothing (place_of [] e c).0 e (place_of [] e c).1)

module _ (p : Problem) (places : List ℕ) (within : All (λ k. k < length p.atoms) places) where
  -- the atom at a place is the problem's
  atom_over : (k : ℕ) → Contains places k → IsAtomOver p.vars (length p.nodes) (atom_at p.atoms k)
  atom_over k c = p.graphs.each_atom k (record { lit = record { 0 = 0 }; kind = Plain; edges = [] }) (All-contains (λ j. j < length p.atoms) places k within c)

  between_all : (e : Edge) → Contains (all_edges p places) e → IsBetween (length p.nodes) e
  between_all e c =
      elim (Contains-append_cases p.fixed (own_edges p.atoms places ++ all_derived p.nodes p.atoms places) e c) [
        | inl f ↦ All-contains (IsBetween (length p.nodes)) p.fixed e p.graphs.each_edge f
        | inr more ↦ elim (Contains-append_cases (own_edges p.atoms places) (all_derived p.nodes p.atoms places) e more) [
          | inl o ↦
              let r = from_joined (λ k. (atom_at p.atoms k).edges) places e o in
              All-contains (IsBetween (length p.nodes)) (atom_at p.atoms r.0).edges e (atom_over r.0 r.1).edges r.2
          | inr d ↦
              let r = from_joined (λ k. derived_with p.nodes p.atoms (atom_at p.atoms k).kind places) places e d in
              let s = from_joined (λ k. derived_edges p.nodes (atom_at p.atoms r.0).kind (atom_at p.atoms k).kind) places e r.2 in
              derived_between p.nodes (atom_at p.atoms r.0).kind (atom_at p.atoms s.0).kind p.graphs.blocks (atom_over r.0 r.1).kind (atom_over s.0 s.1).kind e s.2
        ]
      ]

  -- each listed pair is between two nodes
  pub ends_below : (g : Graph) → All (EndsBelow (length p.nodes)) (pairs_in g (all_edges p places))
  ends_below g k d w =
      let pairs = pairs_in g (all_edges p places) in
      let e : ℕ × ℕ = get_or pairs k d in
      between_all (edge g e.0 e.1) (from_listed g (all_edges p places) e.0 e.1 (k, slice_get-get_or pairs k d w))
