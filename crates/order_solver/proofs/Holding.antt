-- Held edges and what is there where literals are true.
use Rattle.std.proofs.Common.{◌≡◌, ℕ, List, map, refl, ap, sym, ◌∙◌, subst}
use Rattle.std.specs.Prelude.{Some, Contains, slice_get}
use Rattle.std.proofs.lemmas.Option.{get_or_from_slice_get}
use Rattle.dg_base.proofs.Lists.{one_answer, contains_place, place_of, get_map}
use Rattle.dg_base.specs.declared.Lit.{Lit}
use Rattle.cnf_problem.specs.declared.problem.Graph.{Graph}
use Rattle.cnf_problem.specs.declared.problem.Node.{Node}
use Rattle.cnf_problem.specs.declared.problem.Edge.{Edge}
use Rattle.cnf_problem.specs.declared.problem.Atom.{Atom}
use Rattle.cnf_problem.specs.declared.problem.AtomKind.{AtomKind}
use Rattle.cnf_problem.specs.declared.problem.AtomKind.TheVariants.{Plain}
use Rattle.cnf_problem.specs.declared.problem.Problem.{Problem}
use Rattle.cnf_problem.specs.Edges.{HasEdge, EdgeIn, derived_edges}
use Rattle.cycle_detect.specs.Orders.{Held}
use Rattle.from_read.specs.declared.edge_set.DerivedEdge.{DerivedEdge}
use Rattle.from_read.specs.Derivations.{FromReadView, kind_at, Derives, IsFirst, IsDerived}
use Rattle.order_solver.specs.declared.caused.Cause.{Cause}
use Rattle.order_solver.specs.declared.caused.Cause.TheVariants.{Fixed, Own, Pair}
use Rattle.order_solver.specs.Ordering.{IsTrueAtom, IsCause, AreHeld}
use Rattle.order_solver.specs.Parts.{IsHolding}

abbrev pub kind_of : Atom → AtomKind
kind_of a = a.kind

-- the kind of an atom, as the derivation keeps it
pub kind_is : (atoms : List Atom) (kinds : List AtomKind) (k : ℕ) (a : Atom) → kinds ≡ map kind_of atoms → slice_get atoms k ≡ Some a → kind_at kinds k ≡ a.kind
kind_is atoms kinds k a is at =
    get_or_from_slice_get kinds k a.kind Plain (ap (λ (l : List AtomKind). slice_get l k) is ∙ get_map kind_of atoms k a at)

-- the edges that two atoms derive, by their numbers and by themselves
pub gives_is : (p : Problem) (froms : FromReadView) (k l : ℕ) (a b : Atom) → froms.nodes ≡ p.nodes → froms.kinds ≡ map kind_of p.atoms → slice_get p.atoms k ≡ Some a → slice_get p.atoms l ≡ Some b → derived_edges froms.nodes (kind_at froms.kinds k) (kind_at froms.kinds l) ≡ derived_edges p.nodes a.kind b.kind
gives_is p froms k l a b nodes kinds at bt =
    let one = kind_is p.atoms froms.kinds k a kinds at in
    let two = kind_is p.atoms froms.kinds l b kinds bt in
    ap (λ (n : List Node). derived_edges n (kind_at froms.kinds k) (kind_at froms.kinds l)) nodes
    ∙ ap (λ (z : AtomKind). derived_edges p.nodes z (kind_at froms.kinds l)) one
    ∙ ap (λ (z : AtomKind). derived_edges p.nodes a.kind z) two

-- where the true atoms are those of the literals, each edge that is there is held
pub all_held : (p : Problem) (lits : List Lit) (froms : FromReadView) (graph : Graph) (edges : List (ℕ × ℕ)) (causes : List Cause) → IsHolding p lits froms graph edges causes → froms.nodes ≡ p.nodes → froms.kinds ≡ map kind_of p.atoms → IsDerived froms → ((a : ℕ) (x : Atom) → IsTrueAtom p lits a x → Contains froms.true_atoms a) → (x y : ℕ) → EdgeIn p (Contains lits) graph x y → Held edges x y
all_held p lits froms graph edges causes holds nodes kinds is all x y (HasEdge.fixed m) = holds.fixed (record { graph = graph; from = x; to = y }) m refl
all_held p lits froms graph edges causes holds nodes kinds is all x y (HasEdge.own a m in_lits inside) =
    let k = place_of p.atoms a m in
    holds.own k.0 a (record { graph = graph; from = x; to = y }) (all k.0 a (k.1, in_lits)) k.1 inside refl
all_held p lits froms graph edges causes holds nodes kinds is all x y (HasEdge.derived a b m a_in n b_in gives) =
    let e : Edge = record { graph = graph; from = x; to = y } in
    let k = place_of p.atoms a m in
    let l = place_of p.atoms b n in
    let i = place_of froms.true_atoms k.0 (all k.0 a (k.1, a_in)) in
    let j = place_of froms.true_atoms l.0 (all l.0 b (l.1, b_in)) in
    let same = gives_is p froms k.0 l.0 a b nodes kinds k.1 l.1 in
    let d = is.all i.0 j.0 e (record { read_from = k.0; write_order = l.0; first_is = i.1; second_is = j.1; gives = subst (λ (z : List Edge). Contains z e) (sym same) gives }) in
    let held = holds.derived d.0 d.1 (ap (λ (z : Edge). z.graph) d.2) in
    subst (λ (z : Edge). Held edges z.from z.to) d.2 held

-- so the held edges are exactly those that are there
pub holding_held : (p : Problem) (lits : List Lit) (froms : FromReadView) (graph : Graph) (edges : List (ℕ × ℕ)) (causes : List Cause) → IsHolding p lits froms graph edges causes → froms.nodes ≡ p.nodes → froms.kinds ≡ map kind_of p.atoms → IsDerived froms → ((a : ℕ) (x : Atom) → IsTrueAtom p lits a x → Contains froms.true_atoms a) → AreHeld p lits graph edges causes
holding_held p lits froms graph edges causes holds nodes kinds is all = record {
  caused = holds.caused;
  complete = all_held p lits froms graph edges causes holds nodes kinds is all;
}

-- and the other way round
edge_in : (p : Problem) (lits : List Lit) (graph : Graph) (edges : List (ℕ × ℕ)) (causes : List Cause) (e : Edge) → AreHeld p lits graph edges causes → e.graph ≡ graph → HasEdge p (Contains lits) e → Held edges e.from e.to
edge_in p lits graph edges causes e held same there = held.complete e.from e.to (subst (λ (g : Graph). HasEdge p (Contains lits) (record { graph = g; from = e.from; to = e.to })) same there)

pub held_holding : (p : Problem) (lits : List Lit) (froms : FromReadView) (graph : Graph) (edges : List (ℕ × ℕ)) (causes : List Cause) → AreHeld p lits graph edges causes → froms.nodes ≡ p.nodes → froms.kinds ≡ map kind_of p.atoms → IsDerived froms → ((a : ℕ) → Contains froms.true_atoms a → (x : Atom) × IsTrueAtom p lits a x) → IsHolding p lits froms graph edges causes
held_holding p lits froms graph edges causes held nodes kinds is only = record {
  caused = held.caused;
  fixed = λ e m same. edge_in p lits graph edges causes e held same (HasEdge.fixed m);
  own = λ a x e m at inside same.
      let t = only a m in
      let is_x = one_answer (slice_get p.atoms a) t.0 x t.1.0 at in
      let in_lits = subst (λ (z : Atom). Contains lits z.lit) is_x t.1.1 in
      edge_in p lits graph edges causes e held same (HasEdge.own x (contains_place p.atoms a x at) in_lits inside);
  derived = λ d m same.
      let w = (is.each d m).derives in
      let a = only w.read_from (contains_place froms.true_atoms (is.each d m).i w.read_from w.first_is) in
      let b = only w.write_order (contains_place froms.true_atoms (is.each d m).j w.write_order w.second_is) in
      let gives = subst (λ (z : List Edge). Contains z d.edge) (gives_is p froms w.read_from w.write_order a.0 b.0 nodes kinds a.1.0 b.1.0) w.gives in
      edge_in p lits graph edges causes d.edge held same (HasEdge.derived a.0 b.0 (contains_place p.atoms w.read_from a.0 a.1.0) a.1.1 (contains_place p.atoms w.write_order b.0 b.1.0) b.1.1 gives);
}

-- a cause under fewer literals is one under more
pub cause_more : (p : Problem) (lits more : List Lit) (e : Edge) (c : Cause) → ((l : Lit) → Contains lits l → Contains more l) → IsCause p lits e c → IsCause p more e c
cause_more p lits more e Fixed within is = is
cause_more p lits more e (Own a) within is = (is.0, (is.1.0, within is.0.lit is.1.1), is.2)
cause_more p lits more e (Pair a b) within is = (is.0, is.1, (is.2.0, within is.0.lit is.2.1), (is.3.0, within is.1.lit is.3.1), is.4)
