-- A solver before its first literal: the fixed edges alone are held.
use Rattle.std.proofs.Common.{◌≡◌, ◌≢◌, ℕ, ◌+◌, ◌*◌, ◌≤◌, inl, inr, Bool, true, false, List, [], ◌∷◌, ◌++◌, map, take, length, refl, ap, sym, ◌∙◌, subst, arith}
use Rattle.std.specs.Prelude.{Some, Contains, slice_get, All}
use Rattle.std.proofs.lemmas.List.{length_push, take_all}
use Rattle.std.proofs.lemmas.Option.{slice_get_within}
use Rattle.dg_base.proofs.Lists.{get_nothing, contains_nothing, contains_cases, contains_head, get_push_cases}
use Rattle.cycle_detect.proofs.Counting.{contains_left, contains_right, contains_either}
use Rattle.dg_base.specs.declared.Lit.{Lit}
use Rattle.cnf_problem.specs.declared.problem.Graph.{Graph}
use Rattle.cnf_problem.specs.declared.problem.Graph.TheVariants.{Local, Global}
use Rattle.cnf_problem.specs.declared.problem.Edge.{Edge}
use Rattle.cnf_problem.specs.declared.problem.Problem.{Problem}
use Rattle.cnf_problem.specs.Literals.{IsOver}
use Rattle.cnf_problem.specs.Edges.{HasEdge, EdgeIn, IsCyclic}
use Rattle.cycle_detect.specs.Orders.{Held, IsClosed}
use Rattle.cycle_detect.specs.Parts.{EdgesView}
use Rattle.from_read.specs.Derivations.{FromReadView, IsDerived}
use Rattle.order_solver.specs.declared.caused.Cause.{Cause}
use Rattle.order_solver.specs.declared.caused.Cause.TheVariants.{Fixed, Own, Pair}
use Rattle.order_solver.specs.Ordering.{GraphView, SolverView, Mark, IsCause, AreHeld, IsMarked, IsRoomy, IsOrdering, all_count, mark_now}
use Rattle.order_solver.specs.Parts.{graph_in, HasPut, IsRest, IsTried, AreCaused}
use Rattle.order_solver.specs.Fresh.{IsFresh}
use Rattle.order_solver.proofs.Cycles.{walk_cycle, held_cause}
use Rattle.order_solver.proofs.Growing.{graph_cases}
use Rattle.order_solver.proofs.Undoing.{held_as}

-- ---- the room

-- where no atom is true, nothing is derived
pub derived_none : (froms : FromReadView) → IsDerived (record froms { true_atoms = []; derived = [] })
derived_none froms = record {
  each = λ d m. absurd (contains_nothing d m);
  all = λ i j e d. absurd (get_nothing i d.read_from d.first_is);
  once = λ i j c d at also same. absurd (get_nothing i c at);
  apart = λ i j a at also. absurd (get_nothing i a at);
  within = λ a m. absurd (contains_nothing a m);
}

-- there is room for the fixed edges
pub room_fixed : (p : Problem) (froms : FromReadView) (g : GraphView) → IsRoomy p froms g → length p.fixed ≤ g.room
room_fixed p froms g roomy = let h = roomy.1 [] [] (derived_none froms) in omega (arith, h)

-- room for so many derived edges beside those that are listed is enough, if no more are ever derived
pub room_whole : (p : Problem) (froms : FromReadView) (g : GraphView) (derived : ℕ) → g.nodes ≡ length p.nodes → g.room ≡ derived + length p.fixed + all_count p → ((v : FromReadView) → v.nodes ≡ froms.nodes → v.kinds ≡ froms.kinds → IsDerived v → length v.derived ≤ derived) → IsRoomy p froms g
room_whole p froms g derived nodes room most = (
  nodes,
  λ atoms edges is. (let few = most (record froms { true_atoms = atoms; derived = edges }) refl refl is in omega (arith, few, room)),
)

-- ---- one fixed edge more

-- an edge is put last with its cause
pub caused_more : (p : Problem) (lits : List Lit) (e : Edge) (c : Cause) (edges : List (ℕ × ℕ)) (causes : List Cause) → length causes ≡ length edges → IsCause p lits e c → AreCaused p lits e.graph edges causes → AreCaused p lits e.graph (edges ++ (e.from, e.to) ∷ []) (causes ++ c ∷ [])
caused_more p lits e c edges causes long is was i u v d f h =
    elim (get_push_cases edges (e.from, e.to) i (u, v) f) [
      | inl old ↦ elim (get_push_cases causes c i d h) [
        | inl same ↦ was i u v d old same
        | inr new ↦ absurd (omega (arith, slice_get_within edges i (u, v) old, new.0, long))
      ]
      | inr now ↦ elim (get_push_cases causes c i d h) [
        | inl old ↦ absurd (omega (arith, slice_get_within causes i d old, now.0, long))
        | inr new ↦
            let from : e.from ≡ u = sym (ap (λ (q : ℕ × ℕ). q.0) now.1) in
            let to : e.to ≡ v = sym (ap (λ (q : ℕ × ℕ). q.1) now.1) in
            let one : IsCause p lits (record { graph = e.graph; from = u; to = e.to }) c = subst (λ (n : ℕ). IsCause p lits (record { graph = e.graph; from = n; to = e.to }) c) from is in
            let two : IsCause p lits (record { graph = e.graph; from = u; to = v }) c = subst (λ (n : ℕ). IsCause p lits (record { graph = e.graph; from = u; to = n }) c) to one in
            subst (λ (z : Cause). IsCause p lits (record { graph = e.graph; from = u; to = v }) z) (sym new.1) two
      ]
    ]

-- a graph holds those of these edges that are in it, as fixed ones, and no others
pub record HasFixed (p : Problem) (fixed : List Edge) (g : Graph) (before after : GraphView) : Type 0 where
  pub nodes : after.nodes ≡ before.nodes
  pub room : after.room ≡ before.room
  pub long : length after.causes ≡ length after.edges
  pub few : length after.edges ≤ length fixed
  pub caused : AreCaused p [] g after.edges after.causes
  pub complete : (e : Edge) → Contains fixed e → e.graph ≡ g → Held after.edges e.from e.to

-- none of none
pub fixed_none : (p : Problem) (s : SolverView) (g : Graph) → IsFresh p s → HasFixed p [] g (graph_in s g) (graph_in s g)
fixed_none p s g fresh =
    let none = fresh.none g in
    let edges = ap (λ (l : List (ℕ × ℕ)). length l) none.0 in
    let causes = ap (λ (l : List Cause). length l) none.1 in
    record {
      nodes = refl;
      room = refl;
      long = omega (arith, edges, causes);
      few = omega (arith, edges);
      caused = λ i x y c at also. absurd (get_nothing i (x, y) (subst (λ (l : List (ℕ × ℕ)). slice_get l i ≡ Some (x, y)) none.0 at));
      complete = λ e m same. absurd (contains_nothing e m);
    }

fixed_put : (p : Problem) (fixed : List Edge) (e : Edge) (before mid after : GraphView) → Contains p.fixed e → HasFixed p fixed e.graph before mid → HasPut mid e Fixed after → HasFixed p (fixed ++ e ∷ []) e.graph before after
fixed_put p fixed e before mid after inside is put =
    let edges = ap (λ (l : List (ℕ × ℕ)). length l) put.edges in
    let causes = ap (λ (l : List Cause). length l) put.causes in
    let push_e = length_push mid.edges (e.from, e.to) in
    let push_c = length_push mid.causes Fixed in
    let push_f = length_push fixed e in
    let caused = caused_more p [] e Fixed mid.edges mid.causes is.long inside is.caused in
    record {
      nodes = put.nodes ∙ is.nodes;
      room = put.room ∙ is.room;
      long = omega (arith, edges, causes, push_e, push_c, is.long);
      few = omega (arith, edges, push_e, push_f, is.few);
      caused = subst (λ (l : List Cause). AreCaused p [] e.graph after.edges l) (sym put.causes) (subst (λ (l : List (ℕ × ℕ)). AreCaused p [] e.graph l (mid.causes ++ Fixed ∷ [])) (sym put.edges) caused);
      complete = λ f m same. subst (λ (l : List (ℕ × ℕ)). Held l f.from f.to) (sym put.edges) (elim (contains_either fixed (e ∷ []) f m) [
        | inl old ↦ contains_left mid.edges ((e.from, e.to) ∷ []) (f.from, f.to) (is.complete f old same)
        | inr new ↦ elim (contains_cases e f [] new) [
          | inl now ↦ contains_right mid.edges ((e.from, e.to) ∷ []) (f.from, f.to) (subst (λ (z : Edge). Held ((e.from, e.to) ∷ []) z.from z.to) (sym now) (contains_head (e.from, e.to) []))
          | inr never ↦ absurd (contains_nothing f never)
        ]
      ]);
    }

fixed_other : (p : Problem) (fixed : List Edge) (e : Edge) (g : Graph) (before after : GraphView) → g ≢ e.graph → HasFixed p fixed g before after → HasFixed p (fixed ++ e ∷ []) g before after
fixed_other p fixed e g before after other is =
    let push = length_push fixed e in
    record {
      nodes = is.nodes;
      room = is.room;
      long = is.long;
      few = omega (arith, push, is.few);
      caused = is.caused;
      complete = λ f m same. elim (contains_either fixed (e ∷ []) f m) [
        | inl old ↦ is.complete f old same
        | inr new ↦ elim (contains_cases e f [] new) [
          | inl now ↦ absurd (other (sym same ∙ ap (λ (z : Edge). z.graph) now))
          | inr never ↦ absurd (contains_nothing f never)
        ]
      ];
    }

-- whichever graph
pub fixed_tried : (p : Problem) (fixed : List Edge) (e : Edge) (old mid new : SolverView) → Contains p.fixed e → ((g : Graph) → HasFixed p fixed g (graph_in old g) (graph_in mid g)) → IsTried mid e Fixed false new → (g : Graph) → HasFixed p (fixed ++ e ∷ []) g (graph_in old g) (graph_in new g)
fixed_tried p fixed e old mid new inside is tried g =
    elim (graph_cases g e.graph) [
      | inl same ↦
          let here = fixed_put p fixed e (graph_in old e.graph) (graph_in mid e.graph) (graph_in new e.graph) inside (is e.graph) (tried.put refl) in
          subst (λ (z : Graph). HasFixed p (fixed ++ e ∷ []) z (graph_in old z) (graph_in new z)) (sym same) here
      | inr other ↦ subst (λ (z : GraphView). HasFixed p (fixed ++ e ∷ []) g (graph_in old g) z) (sym (tried.other g other)) (fixed_other p fixed e g (graph_in old g) (graph_in mid g) other (is g))
    ]

-- ---- a fixed edge that closes a cycle

-- a cause under no literal is a fixed edge's
cause_fixed : (p : Problem) (e : Edge) (c : Cause) → IsCause p [] e c → Contains p.fixed e
cause_fixed p e Fixed is = is
cause_fixed p e (Own a) is = absurd (contains_nothing is.0.lit is.1.1)
cause_fixed p e (Pair a b) is = absurd (contains_nothing is.0.lit is.2.1)

-- so the fixed edges have a cycle
pub fixed_cyclic : (p : Problem) (fixed : List Edge) (e : Edge) (before after : GraphView) (cycle : List ℕ) → Contains p.fixed e → HasFixed p fixed e.graph before after → IsClosed after.edges e.from e.to cycle → IsCyclic p (Contains [])
fixed_cyclic p fixed e before after cycle inside is closed =
    let held : (x y : ℕ) → Held after.edges x y → EdgeIn p (Contains []) e.graph x y = λ x y h.
    (let c = held_cause p [] e.graph after.edges after.causes x y is.caused is.long h in
    HasEdge.fixed (cause_fixed p (record { graph = e.graph; from = x; to = y }) c.0 c.1)) in
    (e.graph, walk_cycle (EdgeIn p (Contains []) e.graph) after.edges e.from e.to cycle closed (HasEdge.fixed inside) (λ i x y at also. held x y (closed.leads i x y at also)))

-- ---- the whole

-- an edge that is there under no literal is a fixed one, and each of them is held
fixed_there : (p : Problem) (g : Graph) (before after : GraphView) → HasFixed p p.fixed g before after → (x y : ℕ) → EdgeIn p (Contains []) g x y → Held after.edges x y
fixed_there p g before after is x y (HasEdge.fixed m) = is.complete (record { graph = g; from = x; to = y }) m refl
fixed_there p g before after is x y (HasEdge.own a m in_lits inside) = absurd (contains_nothing a.lit in_lits)
fixed_there p g before after is x y (HasEdge.derived a b m a_in n b_in gives) = absurd (contains_nothing a.lit a_in)

fixed_held : (p : Problem) (g : Graph) (before after : GraphView) → HasFixed p p.fixed g before after → AreHeld p [] g after.edges after.causes
fixed_held p g before after is = record { caused = is.caused; complete = fixed_there p g before after is }

fixed_cut : (p : Problem) (g : Graph) (lits : List Lit) (before after : GraphView) → lits ≡ [] → HasFixed p p.fixed g before after → AreHeld p lits g (take (length after.edges) after.edges) (take (length after.edges) after.causes)
fixed_cut p g lits before after none is =
    held_as p g [] lits after.edges (take (length after.edges) after.edges) after.causes (take (length after.edges) after.causes) (sym none)
    (sym (take_all (length after.edges) after.edges (omega arith)))
    (sym (take_all (length after.edges) after.causes (omega (arith, is.long))))
    (fixed_held p g before after is)

pub fixed_marked : (p : Problem) (s : SolverView) (old : SolverView) → s.asserted ≡ [] → s.marks ≡ [] → s.froms.true_atoms ≡ [] → ((g : Graph) → HasFixed p p.fixed g (graph_in old g) (graph_in s g)) → IsMarked p s (length s.marks) (mark_now s)
fixed_marked p s old asserted marks atoms is =
    let lits : take (length s.marks) s.asserted ≡ [] = ap (λ (l : List Mark). take (length l) s.asserted) marks in
    let none : take (length s.froms.true_atoms) s.froms.true_atoms ≡ [] = ap (λ (l : List ℕ). take (length l) l) atoms in
    let local = is Local in
    let global = is Global in
    record {
      local_in = omega arith;
      global_in = omega arith;
      atoms_in = omega arith;
      local = fixed_cut p Local (take (length s.marks) s.asserted) old.local s.local lits local;
      global = fixed_cut p Global (take (length s.marks) s.asserted) old.global s.global lits global;
      local_few = λ derived d. omega (arith, local.few);
      global_few = λ derived d. omega (arith, global.few);
      only = λ a m. absurd (contains_nothing a (subst (λ (l : List ℕ). Contains l a) none m));
      all = λ a x t. absurd (contains_nothing x.lit (subst (λ (l : List Lit). Contains l x.lit) lits t.1));
    }

-- what stays of a fresh solver while the fixed edges are put in, but for the graphs and whether they are stuck
pub record IsBuilt (before after : SolverView) : Type 0 where
  pub froms : after.froms ≡ before.froms
  pub atoms : after.atoms ≡ before.atoms
  pub asserted : after.asserted ≡ before.asserted
  pub marks : after.marks ≡ before.marks
  pub sizes : (g : Graph) → ((graph_in after g).nodes ≡ (graph_in before g).nodes) × ((graph_in after g).room ≡ (graph_in before g).room)

roomy_same : (p : Problem) (froms later : FromReadView) (before after : GraphView) → later ≡ froms → after.nodes ≡ before.nodes → after.room ≡ before.room → IsRoomy p froms before → IsRoomy p later after
roomy_same p froms later before after same nodes room is = (
  nodes ∙ is.0,
  λ atoms derived d. (let h = is.1 atoms derived (subst (λ (f : FromReadView). IsDerived (record f { true_atoms = atoms; derived = derived })) same d) in omega (arith, h, room)),
)

-- then the solver fits the problem: it is stuck and the fixed edges have a cycle, or all of them are held
pub fresh_ordering : (p : Problem) (old new : SolverView) → IsFresh p old → IsBuilt old new → (new.stuck ≡ true → IsCyclic p (Contains [])) → (new.stuck ≡ false → (g : Graph) → HasFixed p p.fixed g (graph_in old g) (graph_in new g)) → IsOrdering p new
fresh_ordering p old new fresh built cyclic held =
    let asserted : new.asserted ≡ [] = built.asserted ∙ fresh.asserted in
    let marks : new.marks ≡ [] = built.marks ∙ fresh.marks in
    let no_atoms : new.froms.true_atoms ≡ [] = ap (λ (f : FromReadView). f.true_atoms) built.froms ∙ fresh.no_atoms in
    let few = ap (λ (l : List Mark). length l) marks in
    let no_lit : (i : ℕ) (l : Lit) → slice_get new.asserted i ≡ Some l → ⊥ = λ i l at. get_nothing i l (subst (λ (z : List Lit). slice_get z i ≡ Some l) asserted at) in
    let no_mark : (i : ℕ) (m : Mark) → slice_get new.marks i ≡ Some m → ⊥ = λ i m at. get_nothing i m (subst (λ (z : List Mark). slice_get z i ≡ Some m) marks at) in
    record {
      over = subst (λ (z : List Lit). All (IsOver p.vars) z) (sym asserted) (λ k d h. absurd (omega arith));
      once = λ i j l m at also same. absurd (no_lit i l at);
      worked = omega (arith, few);
      nodes = ap (λ (f : FromReadView). f.nodes) built.froms ∙ fresh.nodes;
      kinds = ap (λ (f : FromReadView). f.kinds) built.froms ∙ fresh.kinds;
      codes = ap (λ (e : EdgesView). e.nodes) built.atoms ∙ fresh.codes;
      atoms = ap (λ (e : EdgesView). e.list) built.atoms ∙ fresh.atoms;
      local = roomy_same p old.froms new.froms old.local new.local built.froms (built.sizes Local).0 (built.sizes Local).1 (fresh.roomy Local);
      global = roomy_same p old.froms new.froms old.global new.global built.froms (built.sizes Global).0 (built.sizes Global).1 (fresh.roomy Global);
      stuck = λ h. (marks, cyclic h);
      marks = λ h n m at. absurd (no_mark n m at);
      present = λ h. fixed_marked p new old asserted marks no_atoms (held h);
      rising = λ i j m n below at also. absurd (no_mark i m at);
    }

-- ---- as the code comes to it

no_more : (b : Bool) → b ≡ true → b ≡ false → ⊥
no_more b is also = (let never : ⊥ = cc in never)

abbrev SameSize : SolverView → SolverView → Graph → Type 0
SameSize before after g = ((graph_in after g).nodes ≡ (graph_in before g).nodes) × ((graph_in after g).room ≡ (graph_in before g).room)

stuck_size : (old new : SolverView) → ((g : Graph) → SameSize old new g) → (g : Graph) → SameSize old (record new { stuck = true }) g
stuck_size old new is Local = is Local
stuck_size old new is Global = is Global

closed_size : (p : Problem) (fixed : List Edge) (e : Edge) (old mid new : SolverView) → ((g : Graph) → HasFixed p fixed g (graph_in old g) (graph_in mid g)) → IsTried mid e Fixed true new → (g : Graph) → SameSize old new g
closed_size p fixed e old mid new is tried g =
    elim (graph_cases g e.graph) [
      | inl same ↦
          let size = tried.same refl in
          let here : SameSize old new e.graph = (size.nodes ∙ (is e.graph).nodes, size.room ∙ (is e.graph).room) in
          subst (SameSize old new) (sym same) here
      | inr other ↦
          let size = tried.other g other in
          (ap (λ (z : GraphView). z.nodes) size ∙ (is g).nodes, ap (λ (z : GraphView). z.room) size ∙ (is g).room)
    ]

-- a fixed edge closes a cycle
pub closed_ordering : (p : Problem) (fixed : List Edge) (e : Edge) (old mid new : SolverView) → IsFresh p old → Contains p.fixed e → ((g : Graph) → HasFixed p fixed g (graph_in old g) (graph_in mid g)) → IsRest old mid → IsTried mid e Fixed true new → IsOrdering p (record new { stuck = true })
closed_ordering p fixed e old mid new fresh inside is rest tried =
    let now = tried.rest in
    let cyclic = fixed_cyclic p fixed e (graph_in old e.graph) (graph_in mid e.graph) (graph_in new e.graph).cycle inside (is e.graph) (tried.closed refl) in
    let built : IsBuilt old (record new { stuck = true }) = record {
      froms = now.froms ∙ rest.froms;
      atoms = now.atoms ∙ rest.atoms;
      asserted = now.asserted ∙ rest.asserted;
      marks = now.marks ∙ rest.marks;
      sizes = stuck_size old new (closed_size p fixed e old mid new is tried);
    } in
    fresh_ordering p old (record new { stuck = true }) fresh built (λ h. cyclic) (λ h. absurd (no_more true refl h))

-- none does
pub whole_ordering : (p : Problem) (old new : SolverView) → IsFresh p old → ((g : Graph) → HasFixed p p.fixed g (graph_in old g) (graph_in new g)) → IsRest old new → IsOrdering p new
whole_ordering p old new fresh is rest =
    let built : IsBuilt old new = record {
      froms = rest.froms;
      atoms = rest.atoms;
      asserted = rest.asserted;
      marks = rest.marks;
      sizes = λ g. ((is g).nodes, (is g).room);
    } in
    fresh_ordering p old new fresh built (λ h. absurd (no_more new.stuck h (rest.stuck ∙ fresh.going))) (λ h. is)

-- ---- a new solver

-- a graph without edges, with room for so many derived ones beside those that are listed
pub record IsEmptyGraph (p : Problem) (derived : ℕ) (g : GraphView) : Type 0 where
  pub nodes : g.nodes ≡ length p.nodes
  pub room : g.room ≡ derived + length p.fixed + all_count p
  pub edges : g.edges ≡ []
  pub causes : g.causes ≡ []

each_graph : (P : Graph → Type 0) → P Local → P Global → (g : Graph) → P g
each_graph P local global Local = local
each_graph P local global Global = global

abbrev pub fresh_view : GraphView → GraphView → FromReadView → EdgesView → SolverView
fresh_view local global froms atoms = record { local = local; global = global; froms = froms; atoms = atoms; asserted = []; marks = []; stuck = false }

pub fresh_of : (p : Problem) (local global : GraphView) (froms : FromReadView) (atoms : EdgesView) (derived : ℕ) → IsEmptyGraph p derived local → IsEmptyGraph p derived global → froms.nodes ≡ p.nodes → froms.kinds ≡ map (λ a. a.kind) p.atoms → froms.true_atoms ≡ [] → ((v : FromReadView) → v.nodes ≡ froms.nodes → v.kinds ≡ froms.kinds → IsDerived v → length v.derived ≤ derived) → atoms.nodes ≡ 2 * p.vars + 2 → atoms.list ≡ map (λ a. (a.lit.0, a.lit.0)) p.atoms → IsFresh p (fresh_view local global froms atoms)
fresh_of p local global froms atoms derived l g nodes kinds none most codes list =
    let s = fresh_view local global froms atoms in
    record {
      none = each_graph (λ h. ((graph_in s h).edges ≡ []) × ((graph_in s h).causes ≡ [])) (l.edges, l.causes) (g.edges, g.causes);
      no_atoms = none;
      asserted = refl;
      marks = refl;
      going = refl;
      nodes = nodes;
      kinds = kinds;
      codes = codes;
      atoms = list;
      roomy = each_graph (λ h. IsRoomy p froms (graph_in s h)) (room_whole p froms local derived l.nodes l.room most) (room_whole p froms global derived g.nodes g.room most);
    }
