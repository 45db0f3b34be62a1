-- A look at an atom whose literal is unassigned.
use Rattle.std.proofs.Common.{◌≡◌, ◌≢◌, ℕ, ◌+◌, ◌<◌, ◌≤◌, ◌⊎◌, inl, inr, Bool, true, false, List, [], ◌∷◌, ◌++◌, map, take, length, refl, ap, sym, ◌∙◌, subst, arith}
use Rattle.std.specs.Prelude.{Some, Contains, slice_get}
use Rattle.std.proofs.lemmas.List.{take_all}
use Rattle.dg_base.proofs.Lists.{one_answer, contains_head, contains_place, place_of}
use Rattle.from_read.proofs.Kept.{take_get}
use Rattle.cycle_detect.proofs.Counting.{contains_left, contains_right}
use Rattle.dg_base.specs.declared.Lit.{Lit}
use Rattle.cnf_problem.specs.declared.problem.Graph.{Graph}
use Rattle.cnf_problem.specs.declared.problem.Graph.TheVariants.{Local, Global}
use Rattle.cnf_problem.specs.declared.problem.Edge.{Edge}
use Rattle.cnf_problem.specs.declared.problem.Atom.{Atom}
use Rattle.cnf_problem.specs.declared.problem.Problem.{Problem}
use Rattle.cnf_problem.specs.Literals.{negated}
use Rattle.cnf_problem.specs.Chains.{IsUnassigned}
use Rattle.cnf_problem.specs.Edges.{HasCycle}
use Rattle.cycle_detect.specs.Orders.{Held}
use Rattle.from_read.specs.declared.edge_set.DerivedEdge.{DerivedEdge}
use Rattle.from_read.specs.Derivations.{FromReadView, IsDerived}
use Rattle.order_solver.specs.declared.caused.Cause.{Cause}
use Rattle.order_solver.specs.declared.caused.Cause.TheVariants.{Own}
use Rattle.order_solver.specs.declared.explain.Closing.{Closing}
use Rattle.order_solver.specs.Ordering.{GraphView, SolverView, Mark, IsCause, AreHeld, IsCounted, IsMarked, IsOrdering, IsCycleClause, IsUnit, HasEdgeWith, own_at, mark_now}
use Rattle.order_solver.specs.Parts.{graph_in, IsExtended, IsOwnClosing, AreCaused, Denies, IsExplained}
use Rattle.order_solver.proofs.Counting.{room_own}
use Rattle.order_solver.proofs.Cycles.{no_cycle, apart_push, explained_clause, explained_unit}
use Rattle.order_solver.proofs.Holding.{cause_more}
use Rattle.order_solver.proofs.Undoing.{held_as, free_var}

-- the solver has worked all in, and looks at an atom whose literal is unassigned
pub record IsLook (p : Problem) (s : SolverView) (a : ℕ) : Type 0 where
  pub fits : IsOrdering p s
  pub going : s.stuck ≡ false
  pub worked : length s.marks ≡ length s.asserted
  pub below : a < length p.atoms
  pub free : (x : Atom) → slice_get p.atoms a ≡ Some x → IsUnassigned s.asserted x.lit
  pub derived : IsDerived s.froms
  pub long : (g : Graph) → length (graph_in s g).causes ≡ length (graph_in s g).edges

-- the edges that are held now
pub held_now : (p : Problem) (s : SolverView) (a : ℕ) → IsLook p s a → (g : Graph) → AreHeld p s.asserted g (graph_in s g).edges (graph_in s g).causes
held_now p s a is Local =
    held_as p Local (take (length s.marks) s.asserted) s.asserted (take (length s.local.edges) s.local.edges) s.local.edges (take (length s.local.edges) s.local.causes) s.local.causes (take_all (length s.marks) s.asserted (omega (arith, is.worked))) (take_all (length s.local.edges) s.local.edges (omega arith)) (take_all (length s.local.edges) s.local.causes (omega (arith, is.long Local))) (is.fits.present is.going).local
held_now p s a is Global =
    held_as p Global (take (length s.marks) s.asserted) s.asserted (take (length s.global.edges) s.global.edges) s.global.edges (take (length s.global.edges) s.global.causes) s.global.causes (take_all (length s.marks) s.asserted (omega (arith, is.worked))) (take_all (length s.global.edges) s.global.edges (omega arith)) (take_all (length s.global.edges) s.global.causes (omega (arith, is.long Global))) (is.fits.present is.going).global

-- the atom is not true
pub not_true : (p : Problem) (s : SolverView) (a : ℕ) → IsLook p s a → ¬ Contains s.froms.true_atoms a
not_true p s a is m =
    let all = take_all (length s.froms.true_atoms) s.froms.true_atoms (omega arith) in
    let x = (is.fits.present is.going).only a (subst (λ (l : List ℕ). Contains l a) (sym all) m) in
    (is.free x.0 x.1.0).0 (subst (λ (l : List Lit). Contains l x.0.lit) (take_all (length s.marks) s.asserted (omega (arith, is.worked))) x.1.1)

-- so there is room for its own edges
pub look_room : (p : Problem) (s : SolverView) (a : ℕ) → IsLook p s a → (g : Graph) → length (graph_in s g).edges + own_at p.atoms a ≤ (graph_in s g).room
look_room p s a is Local =
    let all = take_all (length s.froms.true_atoms) s.froms.true_atoms (omega arith) in
    room_own p s.froms s.local a is.fits.kinds is.derived is.fits.local (subst (λ (l : List ℕ). IsCounted p s.froms l (length s.local.edges)) all (is.fits.present is.going).local_few) is.below (not_true p s a is)
look_room p s a is Global =
    let all = take_all (length s.froms.true_atoms) s.froms.true_atoms (omega arith) in
    room_own p s.froms s.global a is.fits.kinds is.derived is.fits.global (subst (λ (l : List ℕ). IsCounted p s.froms l (length s.global.edges)) all (is.fits.present is.going).global_few) is.below (not_true p s a is)

pub look_nodes : (p : Problem) (s : SolverView) (a : ℕ) → IsLook p s a → (g : Graph) → (graph_in s g).nodes ≡ length p.nodes
look_nodes p s a is Local = is.fits.local.0
look_nodes p s a is Global = is.fits.global.0

-- where the own edges are held too, each edge has a cause under the atom's literal as well
pub look_caused : (p : Problem) (s new : SolverView) (a : ℕ) (x : Atom) (n : ℕ) (g : Graph) → IsLook p s a → slice_get p.atoms a ≡ Some x → IsExtended p a g n (graph_in s g) (graph_in new g) → AreCaused p (s.asserted ++ x.lit ∷ []) g (graph_in new g).edges (graph_in new g).causes
look_caused p s new a x n g is at more =
    let lits = s.asserted ++ x.lit ∷ [] in
    more.caused lits
    (λ y f. subst (λ (z : Atom). Contains lits z.lit) (one_answer (slice_get p.atoms a) x y at f) (contains_right s.asserted (x.lit ∷ []) x.lit (contains_head x.lit [])))
    (λ i u v c e f. cause_more p s.asserted lits (record { graph = g; from = u; to = v }) c (λ l m. contains_left s.asserted (x.lit ∷ []) l m) ((held_now p s a is g).caused i u v c e f))

pub look_cause : (p : Problem) (s new : SolverView) (a : ℕ) (x : Atom) (closing : Closing) → slice_get p.atoms a ≡ Some x → IsOwnClosing p a new closing → IsCause p (s.asserted ++ x.lit ∷ []) closing.edge closing.cause
look_cause p s new a x closing at is = subst (λ (c : Cause). IsCause p (s.asserted ++ x.lit ∷ []) closing.edge c) (sym is.cause) (x, (at, contains_right s.asserted (x.lit ∷ []) x.lit (contains_head x.lit [])), is.own x at)

-- the clause that explains it is a cycle clause, and unit
pub look_unit : (p : Problem) (s new : SolverView) (a : ℕ) (x : Atom) (closing : Closing) (clause : List Lit) → IsLook p s a → slice_get p.atoms a ≡ Some x → IsOwnClosing p a new closing → IsExplained p (s.asserted ++ x.lit ∷ []) clause → Denies p clause closing.cause → IsCycleClause p clause × IsUnit s.asserted clause
look_unit p s new a x closing clause is at own explained denies =
    let lits = s.asserted ++ x.lit ∷ [] in
    let free = is.free x at in
    let apart = apart_push s.asserted x.lit is.fits.once (λ m h. free_var s.asserted x.lit m free h) in
    let has : Contains clause (negated x.lit) = (let d : Denies p clause (Own a) = subst (λ (c : Cause). Denies p clause c) own.cause denies in d x at) in
    (explained_clause p lits clause apart explained, explained_unit p s.asserted clause x.lit free explained has)

-- a held edge is held still
kept : (p : Problem) (a n : ℕ) (g : Graph) (before after : GraphView) (u v : ℕ) → IsExtended p a g n before after → Held before.edges u v → Held after.edges u v
kept p a n g before after u v more held =
    let k = place_of before.edges (u, v) held in
    let back : slice_get (take (length before.edges) after.edges) k.0 ≡ Some (u, v) = ap (λ (l : List (ℕ × ℕ)). slice_get l k.0) more.edges ∙ k.1 in
    contains_place after.edges k.0 (u, v) (take_get (length before.edges) after.edges k.0 (u, v) back).1

held_with : (p : Problem) (s new : SolverView) (a : ℕ) (x : Atom) (n : ℕ) (g : Graph) (u v : ℕ) → IsLook p s a → slice_get p.atoms a ≡ Some x → IsExtended p a g n (graph_in s g) (graph_in new g) → ((y : Atom) (e : Edge) → slice_get p.atoms a ≡ Some y → Contains y.edges e → Held (graph_in new e.graph).edges e.from e.to) → HasEdgeWith p s.asserted x (record { graph = g; from = u; to = v }) → Held (graph_in new g).edges u v
held_with p s new a x n g u v is at more own (HasEdgeWith.there h) = kept p a n g (graph_in s g) (graph_in new g) u v more ((held_now p s a is g).complete u v h)
held_with p s new a x n g u v is at more own (HasEdgeWith.own m) = own x (record { graph = g; from = u; to = v }) at m

-- where none closes a cycle
pub look_none : (p : Problem) (s new : SolverView) (a : ℕ) (x : Atom) (n : ℕ) (g : Graph) → IsLook p s a → slice_get p.atoms a ≡ Some x → IsExtended p a g n (graph_in s g) (graph_in new g) → ((y : Atom) (e : Edge) → slice_get p.atoms a ≡ Some y → Contains y.edges e → Held (graph_in new e.graph).edges e.from e.to) → ¬ HasCycle (Held (graph_in new g).edges) → ¬ HasCycle (λ u v. HasEdgeWith p s.asserted x (record { graph = g; from = u; to = v }))
look_none p s new a x n g is at more own none = no_cycle (λ u v. HasEdgeWith p s.asserted x (record { graph = g; from = u; to = v })) (graph_in new g).edges (λ u v h. held_with p s new a x n g u v is at more own h) none

-- what is told of each graph holds of both
pub long_both : (s : SolverView) → length s.local.causes ≡ length s.local.edges → length s.global.causes ≡ length s.global.edges → (g : Graph) → length (graph_in s g).causes ≡ length (graph_in s g).edges
long_both s a b Local = a
long_both s a b Global = b

pub acyclic_both : (s : SolverView) → ¬ HasCycle (Held s.local.edges) → ¬ HasCycle (Held s.global.edges) → (g : Graph) → ¬ HasCycle (Held (graph_in s g).edges)
acyclic_both s a b Local = a
acyclic_both s a b Global = b
