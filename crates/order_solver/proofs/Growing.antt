-- A graph under one edge more of an atom.
use Rattle.std.proofs.Common.{◌≡◌, ◌≢◌, ℕ, zero, suc, ◌+◌, ◌<◌, ◌≤◌, ◌⊎◌, inl, inr, Bool, true, false, List, [], ◌∷◌, ◌++◌, take, length, refl, ap, sym, ◌∙◌, subst, arith}
use Rattle.std.specs.Prelude.{Some, Contains, slice_get}
use Rattle.std.proofs.lemmas.Bool.{cases_Bool}
use Rattle.std.proofs.lemmas.List.{length_push, take-append-le}
use Rattle.std.proofs.lemmas.Option.{same_Some, slice_get_within}
use Rattle.dg_base.proofs.Lists.{get_nothing, contains_head, get_push_cases}
use Rattle.cycle_detect.proofs.Counting.{contains_left, contains_right}
use Rattle.dg_base.specs.declared.Lit.{Lit}
use Rattle.cnf_problem.specs.declared.problem.Graph.{Graph}
use Rattle.cnf_problem.specs.declared.problem.Graph.TheVariants.{Local, Global}
use Rattle.cnf_problem.specs.declared.problem.Edge.{Edge}
use Rattle.cnf_problem.specs.declared.problem.Atom.{Atom}
use Rattle.cnf_problem.specs.declared.problem.Problem.{Problem}
use Rattle.cycle_detect.specs.Orders.{Held}
use Rattle.order_solver.specs.declared.caused.Cause.{Cause}
use Rattle.order_solver.specs.declared.caused.Cause.TheVariants.{Own}
use Rattle.order_solver.specs.Ordering.{GraphView, SolverView, IsCause, own_at}
use Rattle.order_solver.specs.Parts.{graph_in, HasPut, IsSameGraph, IsTried, IsExtended, AreCaused}

-- an atom's own edges are counted
pub own_is : (atoms : List Atom) (a : ℕ) (x : Atom) → slice_get atoms a ≡ Some x → own_at atoms a ≡ length x.edges
own_is [] a x e = absurd (get_nothing a x e)
own_is (y ∷ atoms) zero x e = ap (λ (z : Atom). length z.edges) (same_Some y x e)
own_is (y ∷ atoms) (suc a) x e = own_is atoms a x e

pub graph_cases : (g h : Graph) → (g ≡ h) ⊎ (g ≢ h)
graph_cases Local Local = inl refl
graph_cases Local Global = inr (λ e. (let never : ⊥ = cc in never))
graph_cases Global Local = inr (λ e. (let never : ⊥ = cc in never))
graph_cases Global Global = inl refl

-- the same edges, and more leave to come
extended_same : (p : Problem) (a : ℕ) (g : Graph) (k : ℕ) (before mid after : GraphView) → IsExtended p a g k before mid → IsSameGraph mid after → IsExtended p a g (k + 1) before after
extended_same p a g k before mid after is same =
    let long = ap (λ (l : List (ℕ × ℕ)). length l) same.edges in
    record {
      nodes = same.nodes ∙ is.nodes;
      room = same.room ∙ is.room;
      edges = ap (λ (l : List (ℕ × ℕ)). take (length before.edges) l) same.edges ∙ is.edges;
      causes = ap (λ (l : List Cause). take (length before.edges) l) same.causes ∙ is.causes;
      few = omega (arith, long, is.few);
      least = omega (arith, long, is.least);
      caused = λ lits has was. subst (λ (l : List Cause). AreCaused p lits g after.edges l) (sym same.causes) (subst (λ (l : List (ℕ × ℕ)). AreCaused p lits g l mid.causes) (sym same.edges) (is.caused lits has was));
    }

caused_put : (p : Problem) (lits : List Lit) (a : ℕ) (x : Atom) (e : Edge) (edges : List (ℕ × ℕ)) (causes : List Cause) → length causes ≡ length edges → slice_get p.atoms a ≡ Some x → Contains lits x.lit → Contains x.edges e → AreCaused p lits e.graph edges causes → AreCaused p lits e.graph (edges ++ (e.from, e.to) ∷ []) (causes ++ Own a ∷ [])
caused_put p lits a x e edges causes long at in_lits inside was i u v c f h =
    elim (get_push_cases edges (e.from, e.to) i (u, v) f) [
      | inl old ↦ elim (get_push_cases causes (Own a) i c h) [
        | inl same ↦ was i u v c old same
        | inr new ↦ absurd (omega (arith, slice_get_within edges i (u, v) old, new.0, long))
      ]
      | inr now ↦ elim (get_push_cases causes (Own a) i c h) [
        | inl old ↦ absurd (omega (arith, slice_get_within causes i c old, now.0, long))
        | inr new ↦
            let from : e.from ≡ u = sym (ap (λ (q : ℕ × ℕ). q.0) now.1) in
            let to : e.to ≡ v = sym (ap (λ (q : ℕ × ℕ). q.1) now.1) in
            let one : Contains x.edges (record { graph = e.graph; from = u; to = e.to }) = subst (λ (n : ℕ). Contains x.edges (record { graph = e.graph; from = n; to = e.to })) from inside in
            let two : Contains x.edges (record { graph = e.graph; from = u; to = v }) = subst (λ (n : ℕ). Contains x.edges (record { graph = e.graph; from = u; to = n })) to one in
            subst (λ (z : Cause). IsCause p lits (record { graph = e.graph; from = u; to = v }) z) (sym new.1) (x, (at, in_lits), two)
      ]
    ]

extended_put : (p : Problem) (a k : ℕ) (x : Atom) (e : Edge) (before mid after : GraphView) → length mid.causes ≡ length mid.edges → slice_get p.atoms a ≡ Some x → Contains x.edges e → IsExtended p a e.graph k before mid → HasPut mid e (Own a) after → IsExtended p a e.graph (k + 1) before after
extended_put p a k x e before mid after long at inside is put =
    let more = ap (λ (l : List (ℕ × ℕ)). length l) put.edges in
    let push = length_push mid.edges (e.from, e.to) in
    record {
      nodes = put.nodes ∙ is.nodes;
      room = put.room ∙ is.room;
      edges = ap (λ (l : List (ℕ × ℕ)). take (length before.edges) l) put.edges ∙ take-append-le (length before.edges) mid.edges ((e.from, e.to) ∷ []) is.least ∙ is.edges;
      causes = ap (λ (l : List Cause). take (length before.edges) l) put.causes ∙ take-append-le (length before.edges) mid.causes (Own a ∷ []) (omega (arith, is.least, long)) ∙ is.causes;
      few = omega (arith, more, push, is.few);
      least = omega (arith, more, push, is.least);
      caused = λ lits has was.
          subst (λ (l : List Cause). AreCaused p lits e.graph after.edges l) (sym put.causes) (subst (λ (l : List (ℕ × ℕ)). AreCaused p lits e.graph l (mid.causes ++ Own a ∷ [])) (sym put.edges)
          (caused_put p lits a x e mid.edges mid.causes long at (has x at) inside (is.caused lits has was)));
    }

-- whichever graph
pub tried_extended : (p : Problem) (a k : ℕ) (x : Atom) (e : Edge) (old mid new : SolverView) (closes : Bool) → slice_get p.atoms a ≡ Some x → Contains x.edges e → ((h : Graph) → IsExtended p a h k (graph_in old h) (graph_in mid h)) → IsTried mid e (Own a) closes new → (h : Graph) → IsExtended p a h (k + 1) (graph_in old h) (graph_in new h)
tried_extended p a k x e old mid new closes at inside is tried h =
    elim (graph_cases h e.graph) [
      | inl same ↦
          let here : IsExtended p a e.graph (k + 1) (graph_in old e.graph) (graph_in new e.graph) = elim (cases_Bool closes) [
            | inl shut ↦ extended_same p a e.graph k (graph_in old e.graph) (graph_in mid e.graph) (graph_in new e.graph) (is e.graph) (tried.same shut)
            | inr open_end ↦ extended_put p a k x e (graph_in old e.graph) (graph_in mid e.graph) (graph_in new e.graph) tried.long at inside (is e.graph) (tried.put open_end)
          ] in
          subst (λ (z : Graph). IsExtended p a z (k + 1) (graph_in old z) (graph_in new z)) (sym same) here
      | inr other ↦ subst (λ (z : GraphView). IsExtended p a h (k + 1) (graph_in old h) z) (sym (tried.other h other)) (extended_same p a h k (graph_in old h) (graph_in mid h) (graph_in mid h) (is h) (record { nodes = refl; room = refl; edges = refl; causes = refl }))
    ]

-- with more leave to come nothing changes
pub extended_more : (p : Problem) (a k n : ℕ) (h : Graph) (before after : GraphView) → k ≤ n → IsExtended p a h k before after → IsExtended p a h n before after
extended_more p a k n h before after le is = record {
  nodes = is.nodes;
  room = is.room;
  edges = is.edges;
  causes = is.causes;
  few = omega (arith, is.few, le);
  least = is.least;
  caused = is.caused;
}

-- a held edge stays, and the new one is held
pub tried_keeps : (e f : Edge) (c : Cause) (mid new : SolverView) → IsTried mid e c false new → Held (graph_in mid f.graph).edges f.from f.to → Held (graph_in new f.graph).edges f.from f.to
tried_keeps e f c mid new tried held =
    elim (graph_cases f.graph e.graph) [
      | inl same ↦
          let here : Held (graph_in mid e.graph).edges f.from f.to = subst (λ (z : Graph). Held (graph_in mid z).edges f.from f.to) same held in
          let put = tried.put refl in
          let there : Held (graph_in new e.graph).edges f.from f.to = subst (λ (l : List (ℕ × ℕ)). Held l f.from f.to) (sym put.edges) (contains_left (graph_in mid e.graph).edges ((e.from, e.to) ∷ []) (f.from, f.to) here) in
          subst (λ (z : Graph). Held (graph_in new z).edges f.from f.to) (sym same) there
      | inr other ↦ subst (λ (z : GraphView). Held z.edges f.from f.to) (sym (tried.other f.graph other)) held
    ]

pub tried_held : (e : Edge) (c : Cause) (mid new : SolverView) → IsTried mid e c false new → Held (graph_in new e.graph).edges e.from e.to
tried_held e c mid new tried =
    let put = tried.put refl in
    subst (λ (l : List (ℕ × ℕ)). Held l e.from e.to) (sym put.edges) (contains_right (graph_in mid e.graph).edges ((e.from, e.to) ∷ []) (e.from, e.to) (contains_head (e.from, e.to) []))
