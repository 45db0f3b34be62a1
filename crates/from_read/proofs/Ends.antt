-- Edges by their ends, both graphs in one.
use Rattle.std.proofs.Common.{◌≡◌, ℕ, ◌+◌, ◌*◌, ◌≤◌, List, [], ◌∷◌, ◌++◌, map, take, length, refl, ap, sym, ◌∙◌, subst, arith}
use Rattle.std.specs.Prelude.{Some, Contains, slice_get}
use Rattle.std.proofs.lemmas.List.{map-append, take-map, length-map}
use Rattle.dg_base.proofs.Lists.{contains_map, contains_from_map, contains_place}
use Rattle.cnf_problem.specs.declared.problem.Graph.{Graph}
use Rattle.cnf_problem.specs.declared.problem.Graph.TheVariants.{Local, Global}
use Rattle.cnf_problem.specs.declared.problem.Edge.{Edge}
use Rattle.cycle_detect.specs.Orders.{Held}
use Rattle.from_read.specs.declared.edge_set.DerivedEdge.{DerivedEdge}
use Rattle.from_read.specs.Parts.{HasEdge, bit_of, ends_of}

pub bit_small : (g : Graph) → bit_of g ≤ 1
bit_small Local = omega arith
bit_small Global = omega arith

same_graph : (g h : Graph) → bit_of g ≡ bit_of h → g ≡ h
same_graph Local Local e = refl
same_graph Local Global e = absurd (omega arith)
same_graph Global Local e = absurd (omega arith)
same_graph Global Global e = refl

same_edge : (g h : Graph) (x y u v : ℕ) → g ≡ h → x ≡ u → y ≡ v → ◌≡◌ {A = Edge} (record { graph = g; from = x; to = y }) (record { graph = h; from = u; to = v })
same_edge g h x y u v e f k = cc

-- two edges with the same ends are one
pub same_ends : (a b : Edge) → ends_of a ≡ ends_of b → a ≡ b
same_ends a b e =
    let from = ap (λ (p : ℕ × ℕ). p.0) e in
    let to = ap (λ (p : ℕ × ℕ). p.1) e in
    let p = bit_small a.graph in
    let q = bit_small b.graph in
    same_edge a.graph b.graph a.from a.to b.from b.to (same_graph a.graph b.graph (omega arith)) from (omega arith)

-- an edge of the list is held by its ends
pub has_held : (list : List DerivedEdge) (e : Edge) → HasEdge list e → Held (map (λ d. ends_of d.edge) list) e.from (2 * e.to + bit_of e.graph)
has_held list e h = subst (λ (z : Edge). Contains (map (λ (d : DerivedEdge). ends_of d.edge) list) (ends_of z)) h.2 (contains_map (λ (d : DerivedEdge). ends_of d.edge) list h.0 h.1)

pub held_has : (list : List DerivedEdge) (e : Edge) → Held (map (λ d. ends_of d.edge) list) e.from (2 * e.to + bit_of e.graph) → HasEdge list e
held_has list e m =
    let d = contains_from_map (λ (d : DerivedEdge). ends_of d.edge) list (ends_of e) m in
    (d.0, d.1, sym (same_ends e d.0.edge d.2))

-- one edge more
pub ends_push : (list : List DerivedEdge) (ends : List (ℕ × ℕ)) (d : DerivedEdge) → ends ≡ map (λ d. ends_of d.edge) list → ends ++ ends_of d.edge ∷ [] ≡ map (λ d. ends_of d.edge) (list ++ d ∷ [])
ends_push list ends d e = ap (λ (l : List (ℕ × ℕ)). l ++ ends_of d.edge ∷ []) e ∙ sym (map-append (λ (d : DerivedEdge). ends_of d.edge) list (d ∷ []))

-- one edge less
pub ends_pop : (list : List DerivedEdge) (ends : List (ℕ × ℕ)) (n : ℕ) → ends ≡ map (λ d. ends_of d.edge) list → take n ends ≡ map (λ d. ends_of d.edge) (take n list)
ends_pop list ends n e = ap (λ (l : List (ℕ × ℕ)). take n l) e ∙ take-map (λ (d : DerivedEdge). ends_of d.edge) n list

pub ends_long : (list : List DerivedEdge) (ends : List (ℕ × ℕ)) → ends ≡ map (λ d. ends_of d.edge) list → length ends ≡ length list
ends_long list ends e = ap (λ (l : List (ℕ × ℕ)). length l) e ∙ length-map list (λ (d : DerivedEdge). ends_of d.edge)

-- an edge is there where its ends are
pub not_there : (list : List DerivedEdge) (ends : List (ℕ × ℕ)) (e : Edge) (end : ℕ) → ends ≡ map (λ d. ends_of d.edge) list → end ≡ 2 * e.to + bit_of e.graph → ¬ Held ends e.from end → ¬ HasEdge list e
not_there list ends e end is to fails h = fails (subst (λ (l : List (ℕ × ℕ)). Held l e.from end) (sym is) (subst (λ (n : ℕ). Held (map (λ (d : DerivedEdge). ends_of d.edge) list) e.from n) (sym to) (has_held list e h)))

pub there : (list : List DerivedEdge) (ends : List (ℕ × ℕ)) (e : Edge) (end i : ℕ) → ends ≡ map (λ d. ends_of d.edge) list → end ≡ 2 * e.to + bit_of e.graph → slice_get ends i ≡ Some (e.from, end) → HasEdge list e
there list ends e end i is to at =
    held_has list e (subst (λ (n : ℕ). Held (map (λ (d : DerivedEdge). ends_of d.edge) list) e.from n) to (subst (λ (l : List (ℕ × ℕ)). Held l e.from end) is (contains_place ends i (e.from, end) at)))
