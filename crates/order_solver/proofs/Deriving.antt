-- The edges that an atom derives with true atoms, as they are held.
use Rattle.std.proofs.Common.{◌≡◌, ℕ, ◌+◌, ◌<◌, ◌≤◌, inl, inr, true, false, List, [], ◌∷◌, ◌++◌, map, take, length, refl, ap, sym, ◌∙◌, subst, arith}
use Rattle.std.specs.Prelude.{Some, Contains, slice_get}
use Rattle.std.proofs.lemmas.Bool.{cases_lt}
use Rattle.std.proofs.lemmas.List.{length-map, take_all, take-append-le}
use Rattle.std.proofs.lemmas.List.Sums.{sum_by-append, sum_by-cons}
use Rattle.std.proofs.lemmas.Option.{slice_get_within}
use Rattle.dg_base.proofs.Lists.{one_answer, get_there, get_from_map, contains_nothing, contains_cases, contains_place, contains_map, contains_from_map, place_of}
use Rattle.cycle_detect.proofs.Counting.{distinct_once, contains_either}
use Rattle.from_read.proofs.Enough.{no_longer}
use Rattle.from_read.proofs.Kept.{take_get}
use Rattle.dg_base.specs.declared.Lit.{Lit}
use Rattle.cnf_problem.specs.declared.problem.Graph.{Graph}
use Rattle.cnf_problem.specs.declared.problem.Graph.TheVariants.{Local, Global}
use Rattle.cnf_problem.specs.declared.problem.Node.{Node}
use Rattle.cnf_problem.specs.declared.problem.Edge.{Edge}
use Rattle.cnf_problem.specs.declared.problem.Atom.{Atom}
use Rattle.cnf_problem.specs.declared.problem.AtomKind.{AtomKind}
use Rattle.cnf_problem.specs.declared.problem.Problem.{Problem}
use Rattle.cnf_problem.specs.Bounds.{IsBetween}
use Rattle.cycle_detect.specs.Orders.{Held, IsClosed}
use Rattle.from_read.specs.declared.edge_set.DerivedEdge.{DerivedEdge}
use Rattle.from_read.specs.Derivations.{FromReadView, IsDerived}
use Rattle.order_solver.specs.declared.caused.Cause.{Cause}
use Rattle.order_solver.specs.declared.caused.Cause.TheVariants.{Pair}
use Rattle.order_solver.specs.Ordering.{GraphView, SolverView, IsTrueAtom, IsCause, IsRoomy, own_at, own_count, all_count}
use Rattle.order_solver.specs.Parts.{graph_in, IsTried, AreCaused, IsHolding}
use Rattle.order_solver.specs.Working.{IsGrown, AreGrown, AreWorkedIn, IsWorking, IsNext, IsOwnHeld, IsClosing}
use Rattle.order_solver.proofs.Counting.{own_fits}
use Rattle.order_solver.proofs.Cycles.{cause_within}
use Rattle.order_solver.proofs.Growing.{tried_keeps, tried_held}
use Rattle.order_solver.proofs.Grown.{grown_refl, grown_held, tried_grown, tried_caused, tried_few}
use Rattle.order_solver.proofs.Holding.{kind_of, gives_is}

-- ---- derived edges of true atoms

-- the same derivation of the same atoms
pub derived_as : (nodes nodes2 : List Node) (kinds kinds2 : List AtomKind) (atoms : List ℕ) (derived : List DerivedEdge) → nodes2 ≡ nodes → kinds2 ≡ kinds → IsDerived (record { nodes = nodes2; kinds = kinds2; true_atoms = atoms; derived = derived }) → IsDerived (record { nodes = nodes; kinds = kinds; true_atoms = atoms; derived = derived })
derived_as nodes nodes2 kinds kinds2 atoms derived a b is =
    subst (λ (k : List AtomKind). IsDerived (record { nodes = nodes; kinds = k; true_atoms = atoms; derived = derived })) b
    (subst (λ (n : List Node). IsDerived (record { nodes = n; kinds = kinds2; true_atoms = atoms; derived = derived })) a is)

-- and its graphs have room as before
pub roomy_as : (p : Problem) (before after : FromReadView) (g h : GraphView) → after.nodes ≡ before.nodes → after.kinds ≡ before.kinds → IsGrown g h → IsRoomy p before g → IsRoomy p after h
roomy_as p before after g h a b grown is = (
  grown.nodes ∙ is.0,
  λ atoms derived d. (let room = is.1 atoms derived (derived_as before.nodes after.nodes before.kinds after.kinds atoms derived a b d) in let same = grown.room in omega arith),
)

-- the list is no longer than another of the same atoms
pub derived_fewest : (v : FromReadView) (list : List DerivedEdge) → IsDerived v → IsDerived (record v { derived = list }) → length v.derived ≤ length list
derived_fewest v list is other =
    let edge = λ (d : DerivedEdge). d.edge in
    let few = no_longer (map edge v.derived) (map edge list)
    (distinct_once (map edge v.derived) (λ i j e f g.
    let a = get_from_map edge v.derived i e f in
    let b = get_from_map edge v.derived j e g in
    is.once i j a.0 b.0 a.1 b.1 (a.2 ∙ sym b.2)))
    (λ e m.
    let a = contains_from_map edge v.derived e m in
    let first = is.each a.0 a.1 in
    let w = first.derives in
    let d = other.all first.i first.j a.0.edge (record { read_from = w.read_from; write_order = w.write_order; first_is = w.first_is; second_is = w.second_is; gives = w.gives }) in
    subst (λ (z : Edge). Contains (map edge list) z) (d.2 ∙ sym a.2) (contains_map edge list d.0 d.1)) in
    omega (arith, few, length-map v.derived edge, length-map list edge)

-- a derived edge has its pair as a cause
pub pair_cause : (p : Problem) (lits : List Lit) (v : FromReadView) (d : DerivedEdge) → v.nodes ≡ p.nodes → v.kinds ≡ map kind_of p.atoms → ((a : ℕ) → Contains v.true_atoms a → (x : Atom) × IsTrueAtom p lits a x) → IsDerived v → Contains v.derived d → IsCause p lits d.edge (Pair d.read_from d.write_order)
pair_cause p lits v d nodes kinds only is m =
    let first = is.each d m in
    let w = first.derives in
    let one : w.read_from ≡ d.read_from = one_answer (slice_get v.true_atoms first.i) w.read_from d.read_from w.first_is first.first_is in
    let two : w.write_order ≡ d.write_order = one_answer (slice_get v.true_atoms first.j) w.write_order d.write_order w.second_is first.second_is in
    let a = only w.read_from (contains_place v.true_atoms first.i w.read_from w.first_is) in
    let b = only w.write_order (contains_place v.true_atoms first.j w.write_order w.second_is) in
    let gives = subst (λ (z : List Edge). Contains z d.edge) (gives_is p v w.read_from w.write_order a.0 b.0 nodes kinds a.1.0 b.1.0) w.gives in
    let here : IsCause p lits d.edge (Pair w.read_from w.write_order) = (a.0, b.0, a.1, b.1, gives) in
    let first_as = subst (λ (n : ℕ). IsCause p lits d.edge (Pair n w.write_order)) one here in
    subst (λ (n : ℕ). IsCause p lits d.edge (Pair d.read_from n)) two first_as

-- ---- the walk over what an atom derives

-- so many of all derived edges were tried, and are held
pub record IsDeriving (a count : ℕ) (before after : SolverView) : Type 0 where
  pub grown : AreGrown before after
  pub put : after.froms.true_atoms ≡ before.froms.true_atoms ++ a ∷ []
  pub derived : IsDerived after.froms
  pub older : take (length before.froms.derived) after.froms.derived ≡ before.froms.derived
  pub least : length before.froms.derived ≤ count
  pub few : (g : Graph) → length (graph_in after g).edges + length before.froms.derived ≤ length (graph_in before g).edges + count
  pub held : (k : ℕ) (d : DerivedEdge) → length before.froms.derived ≤ k → k < count → slice_get after.froms.derived k ≡ Some d → Held (graph_in after d.edge.graph).edges d.edge.from d.edge.to
  pub caused : (p : Problem) (lits : List Lit) → IsOwnHeld p lits a before → (g : Graph) → AreCaused p lits g (graph_in after g).edges (graph_in after g).causes

-- at the beginning none of the new ones was
pub deriving_start : (a count : ℕ) (before mid : SolverView) (old : FromReadView) → old ≡ before.froms → count ≡ length old.derived → mid.local ≡ before.local → mid.global ≡ before.global → mid.atoms ≡ before.atoms → mid.asserted ≡ before.asserted → mid.marks ≡ before.marks → mid.stuck ≡ before.stuck → mid.froms.nodes ≡ old.nodes → mid.froms.kinds ≡ old.kinds → mid.froms.true_atoms ≡ old.true_atoms ++ a ∷ [] → take (length old.derived) mid.froms.derived ≡ old.derived → IsDerived mid.froms → IsDeriving a count before mid
deriving_start a count before mid old same long local global atoms asserted marks stuck nodes kinds put older derived =
    let graphs : (g : Graph) → graph_in mid g ≡ graph_in before g = λ g. both g in
    let count_is : count ≡ length before.froms.derived = long ∙ ap (λ (f : FromReadView). length f.derived) same in
    let put_is : mid.froms.true_atoms ≡ before.froms.true_atoms ++ a ∷ [] = put ∙ ap (λ (f : FromReadView). f.true_atoms ++ a ∷ []) same in
    record {
      grown = record {
        graphs = λ g. subst (λ (z : GraphView). IsGrown (graph_in before g) z) (sym (graphs g)) (grown_refl (graph_in before g));
        nodes = nodes ∙ ap (λ (f : FromReadView). f.nodes) same;
        kinds = kinds ∙ ap (λ (f : FromReadView). f.kinds) same;
        true_atoms = ap (λ (l : List ℕ). take (length before.froms.true_atoms) l) put_is ∙ take-append-le (length before.froms.true_atoms) before.froms.true_atoms (a ∷ []) (omega arith) ∙ take_all (length before.froms.true_atoms) before.froms.true_atoms (omega arith);
        atoms = atoms;
        asserted = asserted;
        marks = marks;
        stuck = stuck;
      };
      put = put_is;
      derived = derived;
      older = subst (λ (f : FromReadView). take (length f.derived) mid.froms.derived ≡ f.derived) same older;
      least = omega (arith, count_is);
      few = λ g. (let one = ap (λ (z : GraphView). length z.edges) (graphs g) in omega (arith, one, count_is));
      held = λ k d low high. absurd (omega (arith, count_is));
      caused = λ p lits own g. subst (λ (z : GraphView). AreCaused p lits g z.edges z.causes) (sym (graphs g)) (own.worked.holding g).caused;
    }
  where
    both : (g : Graph) → graph_in mid g ≡ graph_in before g
    both Local = local
    both Global = global

-- the true atoms and the next one are those of the literals
pub only_next : (p : Problem) (lits : List Lit) (a : ℕ) (before : SolverView) (atoms : List ℕ) → atoms ≡ before.froms.true_atoms ++ a ∷ [] → IsNext p lits a before → ((b : ℕ) → Contains before.froms.true_atoms b → (x : Atom) × IsTrueAtom p lits b x) → (b : ℕ) → Contains atoms b → (x : Atom) × IsTrueAtom p lits b x
only_next p lits a before atoms put next only b m =
    elim (contains_either before.froms.true_atoms (a ∷ []) b (subst (λ (l : List ℕ). Contains l b) put m)) [
      | inl old ↦ only b old
      | inr new ↦ elim (contains_cases a b [] new) [
        | inl same ↦
            let x = get_there p.atoms a next.below in
            subst (λ (n : ℕ). (y : Atom) × IsTrueAtom p lits n y) (sym same) (x.0, (x.1, next.has x.0 x.1))
        | inr n ↦ absurd (contains_nothing b n)
      ]
    ]

-- a derived edge is there
pub deriving_cause : (p : Problem) (lits : List Lit) (a count : ℕ) (before mid : SolverView) (d : DerivedEdge) → IsOwnHeld p lits a before → IsDeriving a count before mid → Contains mid.froms.derived d → IsCause p lits d.edge (Pair d.read_from d.write_order)
deriving_cause p lits a count before mid d own is m =
    pair_cause p lits mid.froms d (is.grown.nodes ∙ own.worked.nodes) (is.grown.kinds ∙ own.worked.kinds) (only_next p lits a before mid.froms.true_atoms is.put own.next own.worked.only) is.derived m

-- it is between nodes of the graph
pub deriving_within : (p : Problem) (lits : List Lit) (a count : ℕ) (before mid : SolverView) (d : DerivedEdge) → IsOwnHeld p lits a before → IsDeriving a count before mid → Contains mid.froms.derived d → IsBetween (graph_in mid d.edge.graph).nodes d.edge
deriving_within p lits a count before mid d own is m =
    let within = cause_within p lits d.edge (Pair d.read_from d.write_order) (deriving_cause p lits a count before mid d own is m) in
    let same = (is.grown.graphs d.edge.graph).nodes ∙ (own.worked.roomy d.edge.graph).0 in
    subst (λ (n : ℕ). IsBetween n d.edge) (sym same) within

pub own_push : (p : Problem) (atoms : List ℕ) (a : ℕ) → own_count p (atoms ++ a ∷ []) ≡ own_count p atoms + own_at p.atoms a
own_push p atoms a =
    let one = sum_by-append (own_at p.atoms) atoms (a ∷ []) in
    let two = sum_by-cons (own_at p.atoms) a [] in
    omega (arith, one, two)

pub own_next : (p : Problem) (lits : List Lit) (a : ℕ) (s : SolverView) (atoms : List ℕ) → AreWorkedIn p lits atoms s → IsNext p lits a s → own_count p (s.froms.true_atoms ++ a ∷ []) ≤ all_count p
own_next p lits a s atoms is next =
    let long = ap (λ l. length l) is.kinds in
    let fits = own_fits p s.froms.true_atoms a is.derived.apart (λ n m. (let h = is.derived.within n m in omega (arith, h, long, length-map p.atoms kind_of))) next.below next.free in
    omega (arith, fits, own_push p s.froms.true_atoms a)

-- and there is room for it
pub deriving_room : (p : Problem) (lits : List Lit) (a count : ℕ) (before mid : SolverView) (g : Graph) → IsOwnHeld p lits a before → IsDeriving a count before mid → count < length mid.froms.derived → length (graph_in mid g).edges < (graph_in mid g).room
deriving_room p lits a count before mid g own is high =
    let all = own_next p lits a before (before.froms.true_atoms ++ a ∷ []) own.worked own.next in
    let room = (own.worked.roomy g).1 mid.froms.true_atoms mid.froms.derived (derived_as before.froms.nodes mid.froms.nodes before.froms.kinds mid.froms.kinds mid.froms.true_atoms mid.froms.derived is.grown.nodes is.grown.kinds is.derived) in
    let same = (is.grown.graphs g).room in
    omega (arith, all, room, same, is.few g, own.worked.few g, high)

-- one edge more is held
pub deriving_put : (a count : ℕ) (before mid after : SolverView) (d : DerivedEdge) → IsDeriving a count before mid → slice_get mid.froms.derived count ≡ Some d → IsTried mid d.edge (Pair d.read_from d.write_order) false after → IsDeriving a (count + 1) before after
deriving_put a count before mid after d is at tried =
    let c : Cause = Pair d.read_from d.write_order in
    let same = tried.rest.froms in
    record {
      grown = tried_grown d.edge c false before mid after is.grown tried;
      put = ap (λ (f : FromReadView). f.true_atoms) same ∙ is.put;
      derived = subst (λ (f : FromReadView). IsDerived f) (sym same) is.derived;
      older = ap (λ (f : FromReadView). take (length before.froms.derived) f.derived) same ∙ is.older;
      least = omega (arith, is.least);
      few = λ g. omega (arith, is.few g, tried_few d.edge c false mid after g tried);
      held = λ k e low high f.
          let back : slice_get mid.froms.derived k ≡ Some e = ap (λ (v : FromReadView). slice_get v.derived k) (sym same) ∙ f in
          elim (cases_lt k count) [
            | inl h ↦ tried_keeps d.edge e.edge c mid after tried (is.held k e low h back)
            | inr h ↦
                let here : k ≡ count = omega arith in
                let it : d ≡ e = one_answer (slice_get mid.froms.derived count) d e at (subst (λ (n : ℕ). slice_get mid.froms.derived n ≡ Some e) here back) in
                subst (λ (z : DerivedEdge). Held (graph_in after z.edge.graph).edges z.edge.from z.edge.to) it (tried_held d.edge c mid after tried)
          ];
      caused = λ p lits own. tried_caused p lits d.edge c false mid after tried (deriving_cause p lits a count before mid d own is (contains_place mid.froms.derived count d at)) (is.caused p lits own);
    }

-- where one would close a cycle
pub deriving_shut : (p : Problem) (lits : List Lit) (a count : ℕ) (before mid after : SolverView) (d : DerivedEdge) → IsOwnHeld p lits a before → IsDeriving a count before mid → Contains mid.froms.derived d → IsTried mid d.edge (Pair d.read_from d.write_order) true after → IsClosing p lits after (record { edge = d.edge; cause = Pair d.read_from d.write_order })
deriving_shut p lits a count before mid after d own is m tried =
    let c : Cause = Pair d.read_from d.write_order in
    let cause = deriving_cause p lits a count before mid d own is m in
    let same = tried.same refl in
    record {
      nodes = same.nodes ∙ (is.grown.graphs d.edge.graph).nodes ∙ (own.worked.roomy d.edge.graph).0;
      caused = tried_caused p lits d.edge c true mid after tried cause (is.caused p lits own) d.edge.graph;
      cause = cause;
      closed = subst (λ (l : List (ℕ × ℕ)). IsClosed l d.edge.from d.edge.to (graph_in after d.edge.graph).cycle) (sym same.edges) (tried.closed refl);
    }

-- where all are held
deriving_holding : (p : Problem) (lits : List Lit) (a count : ℕ) (before after : SolverView) (g : Graph) → IsOwnHeld p lits a before → IsDeriving a count before after → length after.froms.derived ≤ count → IsHolding p lits after.froms g (graph_in after g).edges (graph_in after g).causes
deriving_holding p lits a count before after g own is all =
    let was = own.worked.holding g in
    let keeps : (x y : ℕ) → Held (graph_in before g).edges x y → Held (graph_in after g).edges x y = λ x y h. grown_held (graph_in before g) (graph_in after g) x y (is.grown.graphs g) h in
    record {
      caused = is.caused p lits own g;
      fixed = λ e m same. keeps e.from e.to (was.fixed e m same);
      own = λ b x e m at inside same. elim (contains_either before.froms.true_atoms (a ∷ []) b (subst (λ (l : List ℕ). Contains l b) is.put m)) [
        | inl old ↦ keeps e.from e.to (was.own b x e old at inside same)
        | inr new ↦ elim (contains_cases a b [] new) [
          | inl this ↦
              let here = own.own x e (subst (λ (n : ℕ). slice_get p.atoms n ≡ Some x) this at) inside in
              keeps e.from e.to (subst (λ (z : Graph). Held (graph_in before z).edges e.from e.to) same here)
          | inr n ↦ absurd (contains_nothing b n)
        ]
      ];
      derived = λ d m same.
          let k = place_of after.froms.derived d m in
          let within = slice_get_within after.froms.derived k.0 d k.1 in
          elim (cases_lt k.0 (length before.froms.derived)) [
            | inl low ↦
                keeps d.edge.from d.edge.to (was.derived d (older_has before.froms.derived after.froms.derived k.0 d is.older low k.1) same)
            | inr high ↦ subst (λ (z : Graph). Held (graph_in after z).edges d.edge.from d.edge.to) same (is.held k.0 d high (omega arith) k.1)
          ];
    }
  where
    older_has : (xs ys : List DerivedEdge) (k : ℕ) (d : DerivedEdge) → take (length xs) ys ≡ xs → k < length xs → slice_get ys k ≡ Some d → Contains xs d
    older_has xs ys k d part low at =
        let x = get_there xs k low in
        let back : slice_get (take (length xs) ys) k ≡ Some x.0 = ap (λ (l : List DerivedEdge). slice_get l k) part ∙ x.1 in
        let same = one_answer (slice_get ys k) x.0 d (take_get (length xs) ys k x.0 back).1 at in
        subst (λ (z : DerivedEdge). Contains xs z) same (contains_place xs k x.0 x.1)

pub deriving_done : (p : Problem) (lits : List Lit) (a count : ℕ) (before after : SolverView) → IsOwnHeld p lits a before → IsDeriving a count before after → count ≡ length after.froms.derived → IsWorking p lits after
deriving_done p lits a count before after own is all = record {
  nodes = is.grown.nodes ∙ own.worked.nodes;
  kinds = is.grown.kinds ∙ own.worked.kinds;
  derived = is.derived;
  only = only_next p lits a before after.froms.true_atoms is.put own.next own.worked.only;
  holding = λ g. deriving_holding p lits a count before after g own is (omega arith);
  few = λ g. (let same = ap (λ (l : List ℕ). own_count p l) is.put in omega (arith, same, is.few g, own.worked.few g, all));
  roomy = λ g. roomy_as p before.froms after.froms (graph_in before g) (graph_in after g) is.grown.nodes is.grown.kinds (is.grown.graphs g) (own.worked.roomy g);
}
