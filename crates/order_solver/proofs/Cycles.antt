-- Cycles of held edges, and the clauses that deny their causes.
use Rattle.std.proofs.Common.{◌≡◌, ◌≢◌, ℕ, zero, suc, ◌+◌, ◌-◌, ◌<◌, ◌≤◌, ◌⊎◌, inl, inr, List, [], ◌∷◌, ◌++◌, length, refl, ap, sym, ◌∙◌, subst, arith, get_or}
use Rattle.std.specs.Prelude.{Some, Contains, slice_get, All, ◌==◌}
use Rattle.std.proofs.lemmas.Bool.{cases_Bool, cases_lt}
use Rattle.std.proofs.lemmas.Option.{same_Some, slice_get_within, slice_get-get_or, get_or_from_slice_get}
use Rattle.dg_base.proofs.Lists.{get_nothing, get_there, contains_nothing, contains_head, contains_cases, contains_place, place_of, get_push_cases, get_push_last, get_append_left}
use Rattle.cycle_detect.proofs.Counting.{contains_left, contains_right, contains_either}
use Rattle.dg_base.specs.declared.Lit.{Lit}
use Rattle.cnf_problem.specs.declared.problem.Graph.{Graph}
use Rattle.cnf_problem.specs.declared.problem.Edge.{Edge}
use Rattle.cnf_problem.specs.declared.problem.Atom.{Atom}
use Rattle.cnf_problem.specs.declared.problem.Problem.{Problem}
use Rattle.cnf_problem.specs.Literals.{var, negated, IsOver, IsWithoutRepeats}
use Rattle.cnf_problem.specs.Chains.{AllFalse, OthersFalse, IsUnassigned}
use Rattle.cnf_problem.specs.Edges.{HasEdge, EdgeIn, Path, last, then, HasCycle, IsCyclic, derived_edges, global_edge, node_at}
use Rattle.cnf_problem.specs.Bounds.{IsAtomOver, IsNodeOf, IsBetween, nodes_of}
use Rattle.cnf_problem.specs.declared.problem.Node.{Node}
use Rattle.cnf_problem.specs.declared.problem.Graph.TheVariants.{Local}
use Rattle.cnf_problem.specs.declared.problem.AtomKind.{AtomKind}
use Rattle.cnf_problem.specs.declared.problem.AtomKind.TheVariants.{ReadFrom, WriteOrder, Plain}
use Rattle.cnf_problem.proofs.LiteralLaws.{var-negated, negated-negated}
use Rattle.cnf_problem.proofs.LemmaLaws.{edge_more, path_more}
use Rattle.cycle_detect.specs.Orders.{Held, IsClosed}
use Rattle.order_solver.specs.declared.caused.Cause.{Cause}
use Rattle.order_solver.specs.declared.caused.Cause.TheVariants.{Fixed, Own, Pair}
use Rattle.order_solver.specs.Ordering.{IsTrueAtom, IsCause, IsAcyclic, IsCycleClause, IsUnit, HasEdgeWith, ClosesNone}
use Rattle.order_solver.specs.Parts.{Denied, Denies, IsAdded, IsNamed, IsDenying, AreCaused, IsExplained}

-- ---- cycles

-- where each edge of one graph is held, and the held edges have no cycle, neither have those
pub no_cycle : (E : ℕ → ℕ → Type 0) (edges : List (ℕ × ℕ)) → ((x y : ℕ) → E x y → Held edges x y) → ¬ HasCycle (Held edges) → ¬ HasCycle E
no_cycle E edges all none c = none (c.0, path_more E (Held edges) all c.1)

snoc : (E : ℕ → ℕ → Type 0) {x y : ℕ} (z : ℕ) → Path E x y → E y z → Path E x z
snoc E z (last e) f = then e (last f)
snoc E z (then e rest) f = then e (snoc E z rest f)

-- along a closed walk: the edge that closes it, and then each step
way_to : (E : ℕ → ℕ → Type 0) (edges : List (ℕ × ℕ)) (from to : ℕ) (cycle : List ℕ) → IsClosed edges from to cycle → E from to → ((i x y : ℕ) → slice_get cycle i ≡ Some x → slice_get cycle (i + 1) ≡ Some y → E x y) → (k x : ℕ) → slice_get cycle k ≡ Some x → Path E from x
way_to E edges from to cycle is closing steps zero x e =
    let same : to ≡ x = same_Some to x (sym is.first ∙ e) in
    subst (λ (n : ℕ). Path E from n) same (last closing)
way_to E edges from to cycle is closing steps (suc k) x e =
    let before = get_there cycle k (let h = slice_get_within cycle (suc k) x e in omega arith) in
    let next : slice_get cycle (k + 1) ≡ Some x = ap (λ (n : ℕ). slice_get cycle n) (omega arith) ∙ e in
    snoc E x (way_to E edges from to cycle is closing steps k before.0 before.1) (steps k before.0 x before.1 next)

pub walk_cycle : (E : ℕ → ℕ → Type 0) (edges : List (ℕ × ℕ)) (from to : ℕ) (cycle : List ℕ) → IsClosed edges from to cycle → E from to → ((i x y : ℕ) → slice_get cycle i ≡ Some x → slice_get cycle (i + 1) ≡ Some y → E x y) → HasCycle E
walk_cycle E edges from to cycle is closing steps = (from, way_to E edges from to cycle is closing steps (length cycle - 1) from is.last)

-- ---- causes

-- where a clause denies the cause of an edge, the edge is there under what the clause denies
pub cause_gives : (p : Problem) (lits clause : List Lit) (e : Edge) (c : Cause) → IsCause p lits e c → Denies p clause c → HasEdge p (Denied clause) e
cause_gives p lits clause e Fixed is denies = HasEdge.fixed is
cause_gives p lits clause e (Own a) is denies = HasEdge.own is.0 (contains_place p.atoms a is.0 is.1.0) (denies is.0 is.1.0) is.2
cause_gives p lits clause e (Pair a b) is denies = HasEdge.derived is.0 is.1 (contains_place p.atoms a is.0 is.2.0) (denies.0 is.0 is.2.0) (contains_place p.atoms b is.1 is.3.0) (denies.1 is.1 is.3.0) is.4

-- a clause with more literals denies as much
pub denies_more : (p : Problem) (clause more : List Lit) (c : Cause) → ((l : Lit) → Contains clause l → Contains more l) → Denies p clause c → Denies p more c
denies_more p clause more Fixed within d = tt
denies_more p clause more (Own a) within d = λ x e. within (negated x.lit) (d x e)
denies_more p clause more (Pair a b) within d = (λ x e. within (negated x.lit) (d.0 x e), λ x e. within (negated x.lit) (d.1 x e))

-- ---- clauses

-- literals of which no variable stands twice
abbrev pub AreApart : List Lit → Type 0
AreApart lits = (i j : ℕ) (l m : Lit) → slice_get lits i ≡ Some l → slice_get lits j ≡ Some m → var l ≡ var m → i ≡ j

apart_same : (lits : List Lit) (a b : Lit) → AreApart lits → Contains lits a → Contains lits b → var a ≡ var b → a ≡ b
apart_same lits a b apart h k same =
    let p = place_of lits a h in
    let q = place_of lits b k in
    let at = apart p.0 q.0 a b p.1 q.1 same in
    same_Some a b (sym p.1 ∙ ap (λ (n : ℕ). slice_get lits n) at ∙ q.1)

-- a clause of negations of such literals, each once, has no variable twice
pub no_repeats : (lits clause : List Lit) → AreApart lits → ((l : Lit) → Contains clause l → Contains lits (negated l)) → ((i j : ℕ) (l : Lit) → slice_get clause i ≡ Some l → slice_get clause j ≡ Some l → i ≡ j) → IsWithoutRepeats clause
no_repeats lits clause apart from once i j a b e f same =
    let x = from a (contains_place clause i a e) in
    let y = from b (contains_place clause j b f) in
    let vars : var (negated a) ≡ var (negated b) = var-negated a ∙ same ∙ sym (var-negated b) in
    let equal = apart_same lits (negated a) (negated b) apart x y vars in
    let back : a ≡ b = sym (negated-negated a) ∙ ap negated equal ∙ negated-negated b in
    once i j b (e ∙ ap Some back) f

-- what explains a cycle is a cycle clause
pub explained_clause : (p : Problem) (lits clause : List Lit) → AreApart lits → IsExplained p lits clause → IsCycleClause p clause
explained_clause p lits clause apart is = record {
  over = λ k d h. is.denying.over (get_or clause k d) (contains_place clause k (get_or clause k d) (slice_get-get_or clause k d h));
  cyclic = is.cyclic;
  no_repeats = no_repeats lits clause apart is.denying.from is.denying.once;
}

-- and false, where these literals are true
pub explained_false : (p : Problem) (lits clause : List Lit) → IsExplained p lits clause → AllFalse lits clause
explained_false p lits clause is m h = is.denying.from m h

-- a literal more, of a variable that is not there
pub apart_push : (lits : List Lit) (l : Lit) → AreApart lits → ((m : Lit) → Contains lits m → var m ≢ var l) → AreApart (lits ++ l ∷ [])
apart_push lits l apart free i j a b e f same =
    elim (get_push_cases lits l i a e) [
      | inl x ↦ elim (get_push_cases lits l j b f) [
        | inl y ↦ apart i j a b x y same
        | inr y ↦ absurd (free a (contains_place lits i a x) (same ∙ ap var y.1))
      ]
      | inr x ↦ elim (get_push_cases lits l j b f) [
        | inl y ↦ absurd (free b (contains_place lits j b y) (sym same ∙ ap var x.1))
        | inr y ↦ x.0 ∙ sym y.0
      ]
    ]

-- a clause that denies true literals and one that is unassigned is unit
pub explained_unit : (p : Problem) (lits clause : List Lit) (l : Lit) → IsUnassigned lits l → IsExplained p (lits ++ l ∷ []) clause → Contains clause (negated l) → IsUnit lits clause
explained_unit p lits clause l free is has = (
  negated l,
  has,
  (free.1, λ h. free.0 (subst (λ (z : Lit). Contains lits z) (negated-negated l) h)),
  λ m k. elim (contains_either lits (l ∷ []) (negated m) (is.denying.from m k)) [
    | inl a ↦ inr a
    | inr b ↦ elim (contains_cases l (negated m) [] b) [ inl e ↦ inl (sym (negated-negated m) ∙ ap negated e) | inr n ↦ absurd (contains_nothing (negated m) n) ]
  ],
)

-- ---- one literal more

pub added_has : (before after : List Lit) (l : Lit) → IsAdded before l after → Contains after l
added_has before after l (inl h) = subst (λ (c : List Lit). Contains c l) (sym h.1) h.0
added_has before after l (inr h) = subst (λ (c : List Lit). Contains c l) (sym h.1) (contains_right before (l ∷ []) l (contains_head l []))

pub added_keeps : (before after : List Lit) (l m : Lit) → IsAdded before l after → Contains before m → Contains after m
added_keeps before after l m (inl h) k = subst (λ (c : List Lit). Contains c m) (sym h.1) k
added_keeps before after l m (inr h) k = subst (λ (c : List Lit). Contains c m) (sym h.1) (contains_left before (l ∷ []) m k)

added_from : (before after : List Lit) (l m : Lit) → IsAdded before l after → Contains after m → Contains before m ⊎ (m ≡ l)
added_from before after l m (inl h) k = inl (subst (λ (c : List Lit). Contains c m) h.1 k)
added_from before after l m (inr h) k =
    elim (contains_either before (l ∷ []) m (subst (λ (c : List Lit). Contains c m) h.1 k)) [
      | inl a ↦ inl a
      | inr b ↦ elim (contains_cases l m [] b) [ inl e ↦ inr e | inr n ↦ absurd (contains_nothing m n) ]
    ]

abbrev EachOnce : List Lit → Type 0
EachOnce clause = (i j : ℕ) (l : Lit) → slice_get clause i ≡ Some l → slice_get clause j ≡ Some l → i ≡ j

added_once : (before after : List Lit) (l : Lit) → IsAdded before l after → EachOnce before → EachOnce after
added_once before after l (inl h) once = subst EachOnce (sym h.1) once
added_once before after l (inr h) once = subst EachOnce (sym h.1) (λ i j m e f.
    elim (get_push_cases before l i m e) [
      | inl x ↦ elim (get_push_cases before l j m f) [
        | inl y ↦ once i j m x y
        | inr y ↦ absurd (h.0 (subst (λ (z : Lit). Contains before z) y.1 (contains_place before i m x)))
      ]
      | inr x ↦ elim (get_push_cases before l j m f) [
        | inl y ↦ absurd (h.0 (subst (λ (z : Lit). Contains before z) x.1 (contains_place before j m y)))
        | inr y ↦ x.0 ∙ sym y.0
      ]
    ])

-- the literal of an atom is over the problem's variables, and so is its negation
negation_over : (p : Problem) (a : ℕ) (x : Atom) → slice_get p.atoms a ≡ Some x → IsOver p.vars (negated x.lit)
negation_over p a x at =
    let m = contains_place p.atoms a x at in
    let one : IsAtomOver p.vars (length p.nodes) x = subst (IsAtomOver p.vars (length p.nodes)) m.2 (p.graphs.each_atom m.0 x m.1) in
    let same = var-negated x.lit in
    (omega (arith, one.lit.0, same), omega (arith, one.lit.1, same))

pub denying_add : (p : Problem) (lits before after : List Lit) (a : ℕ) (x : Atom) → IsTrueAtom p lits a x → IsAdded before (negated x.lit) after → IsDenying p lits before → IsDenying p lits after
denying_add p lits before after a x true_atom added is = record {
  over = λ l m. elim (added_from before after (negated x.lit) l added m) [
    | inl old ↦ is.over l old
    | inr new ↦ subst (IsOver p.vars) (sym new) (negation_over p a x true_atom.0)
  ];
  from = λ l m. elim (added_from before after (negated x.lit) l added m) [
    | inl old ↦ is.from l old
    | inr new ↦ subst (λ (z : Lit). Contains lits z) (sym (ap negated new ∙ negated-negated x.lit)) true_atom.1
  ];
  once = added_once before after (negated x.lit) added is.once;
}

pub denying_none : (p : Problem) (lits : List Lit) → IsDenying p lits []
denying_none p lits = record {
  over = λ l m. absurd (contains_nothing l m);
  from = λ l m. absurd (contains_nothing l m);
  once = λ i j l e f. absurd (get_nothing i l e);
}

-- a clause with more literals keeps the edges
pub denied_more : (p : Problem) (clause more : List Lit) (e : Edge) → ((l : Lit) → Contains clause l → Contains more l) → HasEdge p (Denied clause) e → HasEdge p (Denied more) e
denied_more p clause more e within h = edge_more p (Denied clause) (Denied more) e (λ l m. within (negated l) m) h

-- ---- where edges end

-- a cause names atoms that are there
pub cause_named : (p : Problem) (lits : List Lit) (e : Edge) (c : Cause) → IsCause p lits e c → IsNamed p c
cause_named p lits e Fixed is = tt
cause_named p lits e (Own a) is = slice_get_within p.atoms a is.0 is.1.0
cause_named p lits e (Pair a b) is = (slice_get_within p.atoms a is.0 is.2.0, slice_get_within p.atoms b is.1 is.3.0)

atom_over : (p : Problem) (a : ℕ) (x : Atom) → slice_get p.atoms a ≡ Some x → IsAtomOver p.vars (length p.nodes) x
atom_over p a x at = let m = contains_place p.atoms a x at in subst (IsAtomOver p.vars (length p.nodes)) m.2 (p.graphs.each_atom m.0 x m.1)

global_within : (nodes : List Node) (r v : ℕ) → All (IsNodeOf (length nodes)) nodes → r < length nodes → v < length nodes → IsBetween (length nodes) (global_edge nodes r v)
global_within nodes r v blocks h k =
    elim (cases_Bool ((node_at nodes r).block == (node_at nodes v).block)) [
      | inl same ↦ rw same (h, k)
      | inr other ↦ rw other ((blocks r (record { block = r; first = r; last = r }) h).1, (blocks v (record { block = v; first = v; last = v }) k).0)
    ]

derived_within : (p : Problem) (k l : AtomKind) (e : Edge) → All (λ n. n < length p.nodes) (nodes_of k) → All (λ n. n < length p.nodes) (nodes_of l) → Contains (derived_edges p.nodes k l) e → IsBetween (length p.nodes) e
derived_within p (ReadFrom w r) (WriteOrder u v) e h k m =
    let r_in : r < length p.nodes = h 1 0 (omega arith) in
    let v_in : v < length p.nodes = k 1 0 (omega arith) in
    elim (cases_Bool (w == u)) [
      | inl same ↦
          let both = rw same at m in
          elim (contains_cases (record { graph = Local; from = r; to = v }) e (global_edge p.nodes r v ∷ []) both) [
            | inl local ↦ subst (IsBetween (length p.nodes)) (sym local) (r_in, v_in)
            | inr more ↦ elim (contains_cases (global_edge p.nodes r v) e [] more) [
              | inl global ↦ subst (IsBetween (length p.nodes)) (sym global) (global_within p.nodes r v p.graphs.blocks r_in v_in)
              | inr n ↦ absurd (contains_nothing e n)
            ]
          ]
      | inr other ↦ absurd (contains_nothing e (rw other at m))
    ]
derived_within p (ReadFrom w r) (ReadFrom x y) e h k m = absurd (contains_nothing e m)
derived_within p (ReadFrom w r) Plain e h k m = absurd (contains_nothing e m)
derived_within p (WriteOrder u v) l e h k m = absurd (contains_nothing e m)
derived_within p Plain l e h k m = absurd (contains_nothing e m)

-- an edge with a cause is between nodes of the problem
pub cause_within : (p : Problem) (lits : List Lit) (e : Edge) (c : Cause) → IsCause p lits e c → IsBetween (length p.nodes) e
cause_within p lits e Fixed is = subst (IsBetween (length p.nodes)) is.2 (p.graphs.each_edge is.0 e is.1)
cause_within p lits e (Own a) is =
    let over = (atom_over p a is.0 is.1.0).edges in
    subst (IsBetween (length p.nodes)) is.2.2 (over is.2.0 e is.2.1)
cause_within p lits e (Pair a b) is = derived_within p is.0.kind is.1.kind e (atom_over p a is.0 is.2.0).kind (atom_over p b is.1 is.3.0).kind is.4

-- each held edge has a cause, if there are as many causes as edges
pub held_cause : (p : Problem) (lits : List Lit) (graph : Graph) (edges : List (ℕ × ℕ)) (causes : List Cause) (x y : ℕ) → AreCaused p lits graph edges causes → length causes ≡ length edges → Held edges x y → (c : Cause) × IsCause p lits (record { graph = graph; from = x; to = y }) c
held_cause p lits graph edges causes x y caused long held =
    let k = place_of edges (x, y) held in
    let c = get_there causes k.0 (let h = slice_get_within edges k.0 (x, y) k.1 in omega (arith, h, long)) in
    (c.0, caused k.0 x y c.0 k.1 c.1)

-- and so is the cause at each place
pub all_named : (p : Problem) (lits : List Lit) (graph : Graph) (edges : List (ℕ × ℕ)) (causes : List Cause) → AreCaused p lits graph edges causes → length causes ≡ length edges → (i : ℕ) (c : Cause) → slice_get causes i ≡ Some c → IsNamed p c
all_named p lits graph edges causes caused long i c at =
    let e = get_there edges i (let h = slice_get_within causes i c at in omega (arith, h, long)) in
    cause_named p lits (record { graph = graph; from = e.0.0; to = e.0.1 }) c (caused i e.0.0 e.0.1 c e.1 at)

-- the steps of a closed walk, each of which a clause denies, and the edge that closes it
pub walk_cyclic : (p : Problem) (clause : List Lit) (edge : Edge) (edges : List (ℕ × ℕ)) (cycle : List ℕ) → IsClosed edges edge.from edge.to cycle → HasEdge p (Denied clause) edge → ((k x y : ℕ) → slice_get cycle k ≡ Some x → slice_get cycle (k + 1) ≡ Some y → HasEdge p (Denied clause) (record { graph = edge.graph; from = x; to = y })) → IsCyclic p (Denied clause)
walk_cyclic p clause edge edges cycle closed closing steps = (edge.graph, walk_cycle (EdgeIn p (Denied clause) edge.graph) edges edge.from edge.to cycle closed closing steps)

-- ---- what the code puts for a cause

-- the clause has the atom's negation now, and the literals that it had
pub record IsDenial (p : Problem) (c : Cause) (before after : List Lit) : Type 0 where
  pub denies : Denies p after c
  pub more : (l : Lit) → Contains before l → Contains after l
  pub denying : (lits : List Lit) (e : Edge) → IsCause p lits e c → IsDenying p lits before → IsDenying p lits after

abbrev AddsAtom : Problem → ℕ → List Lit → List Lit → Type 0
AddsAtom p a before after = (x : Atom) → slice_get p.atoms a ≡ Some x → IsAdded before (negated x.lit) after

pub own_denied : (p : Problem) (a : ℕ) (before after : List Lit) → IsNamed p (Own a) → AddsAtom p a before after → IsDenial p (Own a) before after
own_denied p a before after there adds =
    let x = get_there p.atoms a there in
    record {
      denies = λ y at. added_has before after (negated y.lit) (adds y at);
      more = λ l m. added_keeps before after (negated x.0.lit) l (adds x.0 x.1) m;
      denying = λ lits e is d. denying_add p lits before after a is.0 is.1 (adds is.0 is.1.0) d;
    }

pub pair_denied : (p : Problem) (a b : ℕ) (before mid after : List Lit) → IsNamed p (Pair a b) → AddsAtom p a before mid → AddsAtom p b mid after → IsDenial p (Pair a b) before after
pair_denied p a b before mid after there first second =
    let x = get_there p.atoms a there.0 in
    let y = get_there p.atoms b there.1 in
    let keeps : (l : Lit) → Contains mid l → Contains after l = λ l m. added_keeps mid after (negated y.0.lit) l (second y.0 y.1) m in
    record {
      denies = (λ z at. keeps (negated z.lit) (added_has before mid (negated z.lit) (first z at)), λ z at. added_has mid after (negated z.lit) (second z at));
      more = λ l m. keeps l (added_keeps before mid (negated x.0.lit) l (first x.0 x.1) m);
      denying = λ lits e is d. denying_add p lits mid after b is.1 is.3 (second is.1 is.3.0) (denying_add p lits before mid a is.0 is.2 (first is.0 is.2.0) d);
    }

-- ---- along the walk

-- each step of a closed walk is held
pub walk_step : (edges : List (ℕ × ℕ)) (from to : ℕ) (cycle walk : List ℕ) (i : ℕ) → walk ≡ cycle → IsClosed edges from to cycle → 1 ≤ i → i < length walk → Held edges (get_or walk (i - 1) 0) (get_or walk i 0)
walk_step edges from to cycle walk i is closed low high =
    let here = subst (λ (l : List ℕ). IsClosed edges from to l) (sym is) closed in
    let next : i - 1 + 1 ≡ i = omega (arith, low) in
    here.leads (i - 1) (get_or walk (i - 1) 0) (get_or walk i 0) (slice_get-get_or walk (i - 1) 0 (omega (arith, low, high))) (ap (λ (n : ℕ). slice_get walk n) next ∙ slice_get-get_or walk i 0 high)

pub steps_more : (p : Problem) (clause more : List Lit) (graph : Graph) (walk : List ℕ) (i : ℕ) → 1 ≤ i → ((l : Lit) → Contains clause l → Contains more l) → ((k x y : ℕ) → k + 1 < i → slice_get walk k ≡ Some x → slice_get walk (k + 1) ≡ Some y → HasEdge p (Denied clause) (record { graph = graph; from = x; to = y })) → HasEdge p (Denied more) (record { graph = graph; from = get_or walk (i - 1) 0; to = get_or walk i 0 }) → (k x y : ℕ) → k + 1 < i + 1 → slice_get walk k ≡ Some x → slice_get walk (k + 1) ≡ Some y → HasEdge p (Denied more) (record { graph = graph; from = x; to = y })
steps_more p clause more graph walk i low within old new k x y h e f =
    elim (cases_lt (k + 1) i) [
      | inl before ↦ denied_more p clause more (record { graph = graph; from = x; to = y }) within (old k x y before e f)
      | inr now ↦
          let first : i - 1 ≡ k = omega (arith, low, h, now) in
          let second : i ≡ k + 1 = omega (arith, low, h, now) in
          let from : get_or walk (i - 1) 0 ≡ x = ap (λ (n : ℕ). get_or walk n 0) first ∙ get_or_from_slice_get walk k x 0 e in
          let to : get_or walk i 0 ≡ y = ap (λ (n : ℕ). get_or walk n 0) second ∙ get_or_from_slice_get walk (k + 1) y 0 f in
          let one = subst (λ (n : ℕ). HasEdge p (Denied more) (record { graph = graph; from = n; to = get_or walk i 0 })) from new in
          subst (λ (n : ℕ). HasEdge p (Denied more) (record { graph = graph; from = x; to = n })) to one
    ]
