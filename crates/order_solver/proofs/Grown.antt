-- Graphs that get edges behind those that they had.
use Rattle.std.proofs.Common.{◌≡◌, ℕ, ◌+◌, ◌≤◌, inl, inr, Bool, List, [], ◌∷◌, ◌++◌, take, length, refl, ap, sym, ◌∙◌, subst, arith}
use Rattle.std.specs.Prelude.{Some, Contains, slice_get}
use Rattle.std.proofs.lemmas.Bool.{cases_Bool}
use Rattle.std.proofs.lemmas.List.{length-take, length_push, take_all, take-take, take-append-le}
use Rattle.std.proofs.lemmas.Option.{slice_get_within}
use Rattle.dg_base.proofs.Lists.{contains_place, place_of, get_push_cases}
use Rattle.from_read.proofs.Kept.{take_get}
use Rattle.dg_base.specs.declared.Lit.{Lit}
use Rattle.cnf_problem.specs.declared.problem.Graph.{Graph}
use Rattle.cnf_problem.specs.declared.problem.Edge.{Edge}
use Rattle.cnf_problem.specs.declared.problem.Problem.{Problem}
use Rattle.cycle_detect.specs.Orders.{Held}
use Rattle.from_read.specs.Derivations.{FromReadView}
use Rattle.order_solver.specs.declared.caused.Cause.{Cause}
use Rattle.order_solver.specs.Ordering.{GraphView, SolverView, IsCause}
use Rattle.order_solver.specs.Parts.{graph_in, HasPut, IsSameGraph, IsTried, IsExtended, IsRest, AreCaused}
use Rattle.order_solver.specs.Working.{IsGrown, AreGrown}
use Rattle.order_solver.proofs.Growing.{graph_cases}

-- a list has its first part
pub first_part : {X : Type 0} (xs ys : List X) → take (length xs) ys ≡ xs → length xs ≤ length ys
first_part xs ys e = omega (arith, length-take (length xs) ys, ap (λ l. length l) e)

pub contains_part : {X : Type 0} (xs ys : List X) (x : X) → take (length xs) ys ≡ xs → Contains xs x → Contains ys x
contains_part {X} xs ys x e m =
    let k = place_of xs x m in
    let back : slice_get (take (length xs) ys) k.0 ≡ Some x = ap (λ (l : List X). slice_get l k.0) e ∙ k.1 in
    contains_place ys k.0 x (take_get (length xs) ys k.0 x back).1

part_part : {X : Type 0} (xs ys zs : List X) → take (length xs) ys ≡ xs → take (length ys) zs ≡ ys → take (length xs) zs ≡ xs
part_part {X} xs ys zs e f =
    sym (take-take (length xs) (length ys) zs (first_part xs ys e)) ∙ ap (λ (l : List X). take (length xs) l) f ∙ e

-- ---- one graph

pub grown_refl : (g : GraphView) → IsGrown g g
grown_refl g = record { nodes = refl; room = refl; edges = take_all (length g.edges) g.edges (omega arith); causes = refl }

pub grown_then : (a b c : GraphView) → IsGrown a b → IsGrown b c → IsGrown a c
grown_then a b c is more =
    let low = first_part a.edges b.edges is.edges in
    record {
      nodes = more.nodes ∙ is.nodes;
      room = more.room ∙ is.room;
      edges = part_part a.edges b.edges c.edges is.edges more.edges;
      causes =
          sym (take-take (length a.edges) (length b.edges) c.causes low)
          ∙ ap (λ (l : List Cause). take (length a.edges) l) more.causes
          ∙ take-take (length a.edges) (length b.edges) b.causes low
          ∙ is.causes;
    }

grown_same : (before mid after : GraphView) → IsGrown before mid → IsSameGraph mid after → IsGrown before after
grown_same before mid after is same = record {
  nodes = same.nodes ∙ is.nodes;
  room = same.room ∙ is.room;
  edges = ap (λ (l : List (ℕ × ℕ)). take (length before.edges) l) same.edges ∙ is.edges;
  causes = ap (λ (l : List Cause). take (length before.edges) l) same.causes ∙ is.causes;
}

grown_put : (before mid after : GraphView) (e : Edge) (c : Cause) → length mid.causes ≡ length mid.edges → IsGrown before mid → HasPut mid e c after → IsGrown before after
grown_put before mid after e c long is put =
    let low = first_part before.edges mid.edges is.edges in
    record {
      nodes = put.nodes ∙ is.nodes;
      room = put.room ∙ is.room;
      edges = ap (λ (l : List (ℕ × ℕ)). take (length before.edges) l) put.edges ∙ take-append-le (length before.edges) mid.edges ((e.from, e.to) ∷ []) low ∙ is.edges;
      causes = ap (λ (l : List Cause). take (length before.edges) l) put.causes ∙ take-append-le (length before.edges) mid.causes (c ∷ []) (omega (arith, low, long)) ∙ is.causes;
    }

-- an edge that is held stays so
pub grown_held : (before after : GraphView) (x y : ℕ) → IsGrown before after → Held before.edges x y → Held after.edges x y
grown_held before after x y is held = contains_part before.edges after.edges (x, y) is.edges held

extended_grown : (p : Problem) (a k : ℕ) (g : Graph) (before after : GraphView) → IsExtended p a g k before after → IsGrown before after
extended_grown p a k g before after is = record { nodes = is.nodes; room = is.room; edges = is.edges; causes = is.causes }

-- ---- both

pub are_grown_then : (a b c : SolverView) → AreGrown a b → AreGrown b c → AreGrown a c
are_grown_then a b c is more = record {
  graphs = λ g. grown_then (graph_in a g) (graph_in b g) (graph_in c g) (is.graphs g) (more.graphs g);
  nodes = more.nodes ∙ is.nodes;
  kinds = more.kinds ∙ is.kinds;
  true_atoms = part_part a.froms.true_atoms b.froms.true_atoms c.froms.true_atoms is.true_atoms more.true_atoms;
  atoms = more.atoms ∙ is.atoms;
  asserted = more.asserted ∙ is.asserted;
  marks = more.marks ∙ is.marks;
  stuck = more.stuck ∙ is.stuck;
}

pub are_grown_refl : (a : SolverView) → AreGrown a a
are_grown_refl a = record {
  graphs = λ g. grown_refl (graph_in a g);
  nodes = refl;
  kinds = refl;
  true_atoms = take_all (length a.froms.true_atoms) a.froms.true_atoms (omega arith);
  atoms = refl;
  asserted = refl;
  marks = refl;
  stuck = refl;
}

-- under the own edges of an atom
pub own_grown : (p : Problem) (a k : ℕ) (before after : SolverView) → ((g : Graph) → IsExtended p a g k (graph_in before g) (graph_in after g)) → IsRest before after → AreGrown before after
own_grown p a k before after more rest = record {
  graphs = λ g. extended_grown p a k g (graph_in before g) (graph_in after g) (more g);
  nodes = ap (λ (f : FromReadView). f.nodes) rest.froms;
  kinds = ap (λ (f : FromReadView). f.kinds) rest.froms;
  true_atoms = ap (λ (f : FromReadView). take (length before.froms.true_atoms) f.true_atoms) rest.froms ∙ take_all (length before.froms.true_atoms) before.froms.true_atoms (omega arith);
  atoms = rest.atoms;
  asserted = rest.asserted;
  marks = rest.marks;
  stuck = rest.stuck;
}

-- an edge was tried
pub tried_grown : (e : Edge) (c : Cause) (closes : Bool) (before mid after : SolverView) → AreGrown before mid → IsTried mid e c closes after → AreGrown before after
tried_grown e c closes before mid after is tried = record {
  graphs = λ g. elim (graph_cases g e.graph) [
    | inl same ↦
        let here : IsGrown (graph_in before e.graph) (graph_in after e.graph) = elim (cases_Bool closes) [
          | inl shut ↦ grown_same (graph_in before e.graph) (graph_in mid e.graph) (graph_in after e.graph) (is.graphs e.graph) (tried.same shut)
          | inr free ↦ grown_put (graph_in before e.graph) (graph_in mid e.graph) (graph_in after e.graph) e c tried.long (is.graphs e.graph) (tried.put free)
        ] in
        subst (λ (z : Graph). IsGrown (graph_in before z) (graph_in after z)) (sym same) here
    | inr other ↦ subst (λ (z : GraphView). IsGrown (graph_in before g) z) (sym (tried.other g other)) (is.graphs g)
  ];
  nodes = ap (λ (f : FromReadView). f.nodes) tried.rest.froms ∙ is.nodes;
  kinds = ap (λ (f : FromReadView). f.kinds) tried.rest.froms ∙ is.kinds;
  true_atoms = ap (λ (f : FromReadView). take (length before.froms.true_atoms) f.true_atoms) tried.rest.froms ∙ is.true_atoms;
  atoms = tried.rest.atoms ∙ is.atoms;
  asserted = tried.rest.asserted ∙ is.asserted;
  marks = tried.rest.marks ∙ is.marks;
  stuck = tried.rest.stuck ∙ is.stuck;
}

-- ---- causes

-- an edge with its cause, put last
pub caused_push : (p : Problem) (lits : List Lit) (e : Edge) (c : Cause) (edges : List (ℕ × ℕ)) (causes : List Cause) → length causes ≡ length edges → IsCause p lits e c → AreCaused p lits e.graph edges causes → AreCaused p lits e.graph (edges ++ (e.from, e.to) ∷ []) (causes ++ c ∷ [])
caused_push p lits e c edges causes long cause was i u v d f h =
    elim (get_push_cases edges (e.from, e.to) i (u, v) f) [
      | inl old ↦ elim (get_push_cases causes c i d h) [
        | inl same ↦ was i u v d old same
        | inr new ↦ absurd (omega (arith, slice_get_within edges i (u, v) old, new.0, long))
      ]
      | inr now ↦ elim (get_push_cases causes c i d h) [
        | inl old ↦ absurd (omega (arith, slice_get_within causes i d old, now.0, long))
        | inr new ↦
            let from : e.from ≡ u = sym (ap (λ (q : ℕ × ℕ). q.0) now.1) in
            let to : e.to ≡ v = sym (ap (λ (q : ℕ × ℕ). q.1) now.1) in
            let one = subst (λ (n : ℕ). IsCause p lits (record { graph = e.graph; from = n; to = e.to }) c) from cause in
            let two = subst (λ (n : ℕ). IsCause p lits (record { graph = e.graph; from = u; to = n }) c) to one in
            subst (λ (z : Cause). IsCause p lits (record { graph = e.graph; from = u; to = v }) z) (sym new.1) two
      ]
    ]

-- so under an edge that was tried
pub tried_caused : (p : Problem) (lits : List Lit) (e : Edge) (c : Cause) (closes : Bool) (mid after : SolverView) → IsTried mid e c closes after → IsCause p lits e c → ((g : Graph) → AreCaused p lits g (graph_in mid g).edges (graph_in mid g).causes) → (g : Graph) → AreCaused p lits g (graph_in after g).edges (graph_in after g).causes
tried_caused p lits e c closes mid after tried cause was g =
    elim (graph_cases g e.graph) [
      | inl same ↦
          let here : AreCaused p lits e.graph (graph_in after e.graph).edges (graph_in after e.graph).causes = elim (cases_Bool closes) [
            | inl shut ↦ as_lists (graph_in mid e.graph).edges (graph_in after e.graph).edges (graph_in mid e.graph).causes (graph_in after e.graph).causes (tried.same shut).edges (tried.same shut).causes (was e.graph)
            | inr free ↦ as_lists ((graph_in mid e.graph).edges ++ (e.from, e.to) ∷ []) (graph_in after e.graph).edges ((graph_in mid e.graph).causes ++ c ∷ []) (graph_in after e.graph).causes (tried.put free).edges (tried.put free).causes (caused_push p lits e c (graph_in mid e.graph).edges (graph_in mid e.graph).causes tried.long cause (was e.graph))
          ] in
          subst (λ (z : Graph). AreCaused p lits z (graph_in after z).edges (graph_in after z).causes) (sym same) here
      | inr other ↦ subst (λ (z : GraphView). AreCaused p lits g z.edges z.causes) (sym (tried.other g other)) (was g)
    ]
  where
    as_lists : (xs ys : List (ℕ × ℕ)) (cs ds : List Cause) → ys ≡ xs → ds ≡ cs → AreCaused p lits e.graph xs cs → AreCaused p lits e.graph ys ds
    as_lists xs ys cs ds a b is = subst (λ (l : List Cause). AreCaused p lits e.graph ys l) (sym b) (subst (λ (l : List (ℕ × ℕ)). AreCaused p lits e.graph l cs) (sym a) is)

-- one edge more at most
pub tried_few : (e : Edge) (c : Cause) (closes : Bool) (mid after : SolverView) (g : Graph) → IsTried mid e c closes after → length (graph_in after g).edges ≤ length (graph_in mid g).edges + 1
tried_few e c closes mid after g tried =
    elim (graph_cases g e.graph) [
      | inl same ↦
          let here : length (graph_in after e.graph).edges ≤ length (graph_in mid e.graph).edges + 1 = elim (cases_Bool closes) [
            | inl shut ↦ (let a = ap (λ (l : List (ℕ × ℕ)). length l) (tried.same shut).edges in omega (arith, a))
            | inr free ↦ (let b = ap (λ (l : List (ℕ × ℕ)). length l) (tried.put free).edges in omega (arith, b, length_push (graph_in mid e.graph).edges (e.from, e.to)))
          ] in
          subst (λ (z : Graph). length (graph_in after z).edges ≤ length (graph_in mid z).edges + 1) (sym same) here
      | inr other ↦ (let a = ap (λ (z : GraphView). length z.edges) (tried.other g other) in omega (arith, a))
    ]
