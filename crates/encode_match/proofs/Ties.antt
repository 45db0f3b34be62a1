-- The edges of a problem's graphs, where an assignment makes its clauses true: static ones, those of creations, and those of tied nodes.
use Rattle.std.proofs.Common.{◌≡◌, ℕ, zero, suc, ◌⊎◌, inl, inr, Bool, true, cond, eqb, List, [], ◌∷◌, map, refl, ap, sym, ◌∙◌, subst, arith}
use Rattle.std.specs.Prelude.{Some, slice_get, slice_index_or, Contains}
use Rattle.std.proofs.lemmas.Bool.{cases_eq, cases_Bool, cond-true, cond-false, eq-eqb, ne_eqb}
use Rattle.std.proofs.lemmas.Option.{same_Some}
use Rattle.std.proofs.lemmas.List.Elements.{Contains-append_left, Contains-append_right, Contains-append_cases}
use Rattle.dg_base.specs.declared.Lit.{Lit}
use Rattle.dg_base.proofs.Lists.{get_nothing, contains_nothing, contains_head, contains_tail, contains_cases, contains_map, contains_from_map}
use Rattle.axiom_model.specs.declared.MemoryModel.{MemoryModel}
use Rattle.cnf_problem.specs.declared.problem.Graph.{Graph}
use Rattle.cnf_problem.specs.declared.problem.Graph.TheVariants.{Local, Global}
use Rattle.cnf_problem.specs.declared.problem.Edge.{Edge}
use Rattle.cnf_problem.specs.declared.problem.Node.{Node}
use Rattle.cnf_problem.specs.declared.problem.AtomKind.{AtomKind}
use Rattle.cnf_problem.specs.declared.problem.AtomKind.TheVariants.{ReadFrom, WriteOrder, Plain}
use Rattle.cnf_problem.specs.declared.problem.Atom.{Atom}
use Rattle.cnf_problem.specs.Literals.{value}
use Rattle.cnf_problem.specs.Edges.{global_edge, derived_edges, HasEdge, fixed, own, derived}
use Rattle.memory_models.specs.declared.StaticEvent.{StaticEvent}
use Rattle.memory_models.specs.declared.StaticKind.{StaticKind}
use Rattle.memory_models.specs.declared.StaticKind.TheVariants as kind
use Rattle.memory_models.specs.declared.FenceEdge.{FenceEdge}
use Rattle.memory_models.specs.Events.{IsAt}
use Rattle.memory_models.specs.Keeping.{IsThere, always, fenced}
use Rattle.event_graph.specs.Laws.{happens, guard_at}
use Rattle.order_vars.specs.Links.{Link, reading, beginning, rivalry, joining, IsWriteOf, IsKindOf, is_write}
use Rattle.order_vars.specs.Atoms.{local, is_global_rf, read_edges, read_atom, order_atom, join_atom, link_atoms, atoms_of, nodes_of}
use Rattle.order_vars.specs.Holding.{BothHappen}
use Rattle.encode_match.specs.declared.Encoded.{Encoded}
use Rattle.encode_match.specs.Spelling.{ReadsFrom, IsBefore}
use Rattle.encode_match.specs.Parts.{fence_atom}
use Rattle.encode_match.specs.Matching.{GraphHolds, IsCreation, WaitsFor}

-- ---- atoms of links

from_atoms : (m : MemoryModel) (es : List StaticEvent) (links : List Link) (a : Atom) → Contains (atoms_of m es links) a → (l : Link) × Contains links l × Contains (link_atoms m es l) a
from_atoms m es [] a c = absurd (contains_nothing a c)
from_atoms m es (l ∷ links) a c =
    elim (Contains-append_cases (link_atoms m es l) (atoms_of m es links) a c) [
      | inl h ↦ (l, contains_head l links, h)
      | inr h ↦ let r = from_atoms m es links a h in (r.0, contains_tail l r.0 links r.1, r.2)
    ]

to_atoms : (m : MemoryModel) (es : List StaticEvent) (links : List Link) (l : Link) (a : Atom) → Contains links l → Contains (link_atoms m es l) a → Contains (atoms_of m es links) a
to_atoms m es [] l a c h = absurd (contains_nothing l c)
to_atoms m es (k ∷ links) l a c h =
    elim (contains_cases k l links c) [
      | inl e ↦ Contains-append_left (link_atoms m es k) (atoms_of m es links) a (subst (λ (z : Link). Contains (link_atoms m es z) a) e h)
      | inr d ↦ Contains-append_right (link_atoms m es k) (atoms_of m es links) a (to_atoms m es links l a d h)
    ]

-- one of one
one_of : {X : Type 0} (y x : X) → Contains (y ∷ []) x → x ≡ y
one_of y x c = elim (contains_cases y x [] c) [ inl e ↦ e | inr h ↦ absurd (contains_nothing x h) ]

-- an event's guard
guard_is : (es : List StaticEvent) (n : ℕ) (t d : StaticEvent) → slice_get es n ≡ Some t → (slice_index_or es n d).guard ≡ t.guard
guard_is [] n t d h = absurd (get_nothing n t h)
guard_is (e ∷ es) zero t d h = ap (λ (f : StaticEvent). f.guard) (same_Some e t h)
guard_is (e ∷ es) (suc n) t d h = guard_is es n t d h

pub at_guard : (es : List StaticEvent) (n : ℕ) (t : StaticEvent) → IsAt es n t → guard_at es n ≡ t.guard
at_guard es n t h = guard_is es n t (record { instance = 0; kind = kind.Full; cell = 0; guard = record { 0 = 3 }; block = n }) h

pub happens_is : (s : List Bool) (es : List StaticEvent) (n : ℕ) (t : StaticEvent) → IsAt es n t → happens s es n ≡ value s t.guard
happens_is s es n t h = ap (value s) (at_guard es n t h)

-- ---- ties

-- the source is seen by all threads at once, where that is asked
abbrev pub IsSeen : MemoryModel → List StaticEvent → Graph → ℕ → ℕ → Type 0
IsSeen m es Local w r = Unit {0}
IsSeen m es Global w r = is_global_rf m es w r ≡ true

-- nodes that a true atom ties, or two
pub data Tie (m : MemoryModel) (x : Encoded) (s : List Bool) (links : List Link) (g : Graph) : ℕ → ℕ → Type 0 where
  reads : {w r : ℕ} → ReadsFrom x s w r → IsSeen m x.map.graph.events g w r → Tie m x s links g w r
  orders : {w v : ℕ} → IsBefore x s w v → Tie m x s links g w v
  after : {r v : ℕ} (w : ℕ) → ReadsFrom x s w r → IsBefore x s w v → Tie m x s links g r v
  waits : {e j : ℕ} → g ≡ Global → WaitsFor links s e j → Tie m x s links g e j

abbrev pub tie_edge : List StaticEvent → Graph → ℕ → ℕ → Edge
tie_edge es Local a b = local a b
tie_edge es Global a b = global_edge (nodes_of es) a b

-- what an edge is
pub data Step (m : MemoryModel) (x : Encoded) (s : List Bool) (f : List Edge) (fences : List FenceEdge) (links : List Link) (e : Edge) : Type 0 where
  static : IsThere f fences (happens s x.map.graph.events) e → Step m x s f fences links e
  created : (a b : ℕ) → IsCreation x.map.graph.events a b → e ≡ global_edge (nodes_of x.map.graph.events) a b → Step m x s f fences links e
  tied : (g : Graph) (a b : ℕ) → Tie m x s links g a b → e ≡ tie_edge x.map.graph.events g a b → Step m x s f fences links e

-- the reads-from edges of an atom
seen_edge : (m : MemoryModel) (es : List StaticEvent) (w r : ℕ) (e : Edge) → Contains (read_edges m es w r) e → (e ≡ local w r) ⊎ ((is_global_rf m es w r ≡ true) × (e ≡ global_edge (nodes_of es) w r))
seen_edge m es w r e c =
    elim (contains_cases (local w r) e (cond (is_global_rf m es w r) (global_edge (nodes_of es) w r ∷ []) []) c) [
      | inl h ↦ inl h
      | inr h ↦ elim (cases_Bool (is_global_rf m es w r)) [
        | inl t ↦ inr (t, one_of (global_edge (nodes_of es) w r) e (subst (λ (l : List Edge). Contains l e) (cond-true (is_global_rf m es w r) (global_edge (nodes_of es) w r ∷ []) [] t) h))
        | inr n ↦ absurd (contains_nothing e (subst (λ (l : List Edge). Contains l e) (cond-false (is_global_rf m es w r) (global_edge (nodes_of es) w r ∷ []) [] n) h))
      ]
    ]

-- one of two
one_of_two : {X : Type 0} (y z x : X) → Contains (y ∷ z ∷ []) x → (x ≡ y) ⊎ (x ≡ z)
one_of_two y z x c = elim (contains_cases y x (z ∷ []) c) [ inl e ↦ inl e | inr h ↦ inr (one_of z x h) ]

-- the kinds of two atoms that derive edges
pub record IsDerived (nodes : List Node) (a b : AtomKind) (e : Edge) : Type 0 where
  pub write : ℕ
  pub read : ℕ
  pub later : ℕ
  pub first_kind : a ≡ ReadFrom write read
  pub second_kind : b ≡ WriteOrder write later
  pub same : (e ≡ local read later) ⊎ (e ≡ global_edge nodes read later)

derived_at : (nodes : List Node) (w r u v : ℕ) (e : Edge) → w ≡ u → Contains (derived_edges nodes (ReadFrom w r) (WriteOrder u v)) e → IsDerived nodes (ReadFrom w r) (WriteOrder u v) e
derived_at nodes w r u v e same c = record {
  write = w;
  read = r;
  later = v;
  first_kind = refl;
  second_kind = ap (λ (z : ℕ). WriteOrder z v) (sym same);
  same = one_of_two (local r v) (global_edge nodes r v) e (subst (λ (l : List Edge). Contains l e) (cond-true (eqb w u) (local r v ∷ global_edge nodes r v ∷ []) [] (eq-eqb w u same)) c);
}

derived_by : (nodes : List Node) (a b : AtomKind) (e : Edge) → Contains (derived_edges nodes a b) e → IsDerived nodes a b e
derived_by nodes (ReadFrom w r) (WriteOrder u v) e c =
    elim (cases_eq w u) [
      | inl same ↦ derived_at nodes w r u v e same c
      | inr other ↦ absurd (contains_nothing e (subst (λ (l : List Edge). Contains l e) (cond-false (eqb w u) (local r v ∷ global_edge nodes r v ∷ []) [] (ne_eqb w u other)) c))
    ]
derived_by nodes (ReadFrom w r) (ReadFrom u v) e c = absurd (contains_nothing e c)
derived_by nodes (ReadFrom w r) Plain e c = absurd (contains_nothing e c)
derived_by nodes (WriteOrder u v) b e c = absurd (contains_nothing e c)
derived_by nodes Plain b e c = absurd (contains_nothing e c)

-- ---- kinds of atoms

abbrev first_of : AtomKind → ℕ
first_of (ReadFrom a b) = a
first_of (WriteOrder a b) = a
first_of Plain = 0

abbrev second_of : AtomKind → ℕ
second_of (ReadFrom a b) = b
second_of (WriteOrder a b) = b
second_of Plain = 0

abbrev number_of : AtomKind → ℕ
number_of (ReadFrom a b) = 0
number_of (WriteOrder a b) = 1
number_of Plain = 2

not_reading : {u v w r : ℕ} → WriteOrder u v ≡ ReadFrom w r → ⊥
not_reading e = let q : 1 ≡ 0 = ap number_of e in omega (arith, q)

not_ordering : {u v w r : ℕ} → ReadFrom u v ≡ WriteOrder w r → ⊥
not_ordering e = let q : 0 ≡ 1 = ap number_of e in omega (arith, q)

not_plain_read : {w r : ℕ} → Plain ≡ ReadFrom w r → ⊥
not_plain_read e = let q : 2 ≡ 0 = ap number_of e in omega (arith, q)

not_plain_order : {w r : ℕ} → Plain ≡ WriteOrder w r → ⊥
not_plain_order e = let q : 2 ≡ 1 = ap number_of e in omega (arith, q)

abbrev graph_number : Graph → ℕ
graph_number Local = 0
graph_number Global = 1

pub local_not_global : Local ≡ Global → ⊥
local_not_global e = let q : 0 ≡ 1 = ap graph_number e in omega (arith, q)

-- ---- kinds of events

write_kind : (es : List StaticEvent) (k : StaticKind) (c n : ℕ) → is_write k ≡ true → IsKindOf es k c n → IsWriteOf es c n
write_kind es k c n w p = record { event = p.event; there = p.there; writes = subst (λ (z : StaticKind). is_write z ≡ true) (sym p.same_kind) w; same_cell = p.same_cell }

pub write_initial : (es : List StaticEvent) (c n : ℕ) → IsKindOf es kind.Initial c n → IsWriteOf es c n
write_initial es c n p = write_kind es kind.Initial c n refl p

pub write_other : (es : List StaticEvent) (c n : ℕ) → IsKindOf es kind.Write c n → IsWriteOf es c n
write_other es c n p = write_kind es kind.Write c n refl p

-- ---- for one problem and one assignment

module _ (m : MemoryModel) (x : Encoded) (s : List Bool) (g : GraphHolds m x s) where
  Holds : Lit → Type 0
  Holds l = value s l ≡ true

  abbrev Stepping : Edge → Type 0
  Stepping e = Step m x s g.fixed g.fences g.links e

  abbrev es : List StaticEvent
  es = x.map.graph.events

  order_step : (a : Atom) (l : Lit) (w v : ℕ) (e : Edge) → Contains x.problem.atoms a → value s a.lit ≡ true → a ≡ order_atom es l w v → Contains a.edges e → Stepping e
  order_step a l w v e c h same k =
      let before : IsBefore x s w v = record { atom = a; listed = c; same_kind = ap (λ (z : Atom). z.kind) same; holds = h } in
      elim (one_of_two (local w v) (global_edge (nodes_of es) w v) e (subst (λ (z : Atom). Contains z.edges e) same k)) [
        | inl q ↦ tied Local w v (orders before) q
        | inr q ↦ tied Global w v (orders before) q
      ]

  link_step : (a : Atom) (l : Link) (e : Edge) → Contains x.problem.atoms a → value s a.lit ≡ true → Contains g.links l → Contains (link_atoms m es l) a → Contains a.edges e → Stepping e
  link_step a (reading w r l) e c h d k q =
      let same : a ≡ read_atom m es l w r = one_of (read_atom m es l w r) a k in
      let from : ReadsFrom x s w r = record { atom = a; listed = c; same_kind = ap (λ (z : Atom). z.kind) same; holds = h } in
      elim (seen_edge m es w r e (subst (λ (z : Atom). Contains z.edges e) same q)) [
        | inl p ↦ tied Local w r (reads from tt) p
        | inr p ↦ tied Global w r (reads from p.0) p.1
      ]
  link_step a (beginning i w l) e c h d k q = order_step a l i w e c h (one_of (order_atom es l i w) a k) q
  link_step a (rivalry w v l back) e c h d k q =
      elim (one_of_two (order_atom es l w v) (order_atom es back v w) a k) [
        | inl same ↦ order_step a l w v e c h same q
        | inr same ↦ order_step a back v w e c h same q
      ]
  link_step a (joining n j l) e c h d k q =
      let same : a ≡ join_atom es l n j = one_of (join_atom es l n j) a k in
      tied Global n j (waits refl (l, d, ap (λ (z : Atom). value s z.lit) (sym same) ∙ h)) (one_of (global_edge (nodes_of es) n j) e (subst (λ (z : Atom). Contains z.edges e) same q))

  fence_step : (a : Atom) (f : FenceEdge) (e : Edge) → value s a.lit ≡ true → Contains g.fences f → a ≡ fence_atom f → Contains a.edges e → Stepping e
  fence_step a f e h c same k =
      let on = g.kept.fences_on f c in
      let is : e ≡ f.edge = one_of f.edge e (subst (λ (z : Atom). Contains z.edges e) same k) in
      let true_guard : value s f.guard ≡ true = ap (λ (z : Atom). value s z.lit) (sym same) ∙ h in
      let now : happens s es f.edge.from ≡ true = happens_is s es f.edge.from on.1.0 on.1.1 ∙ (ap (value s) (sym on.1.2) ∙ true_guard) in
      static (fenced f c (sym is) (subst (λ (z : Edge). happens s es z.from ≡ true) (sym is) now))

  own_step : (a : Atom) (e : Edge) → Contains x.problem.atoms a → value s a.lit ≡ true → Contains a.edges e → Stepping e
  own_step a e c h k =
      elim (Contains-append_cases (atoms_of m es g.links) (map fence_atom g.fences) a (subst (λ (l : List Atom). Contains l a) g.atoms c)) [
        | inl d ↦ let r = from_atoms m es g.links a d in link_step a r.0 e c h r.1 r.2 k
        | inr d ↦ let r = contains_from_map fence_atom g.fences a d in fence_step a r.0 e h r.1 r.2 k
      ]

  derived_step : (a b : Atom) (e : Edge) → Contains x.problem.atoms a → value s a.lit ≡ true → Contains x.problem.atoms b → value s b.lit ≡ true
      → Contains (derived_edges x.problem.nodes a.kind b.kind) e → Stepping e
  derived_step a b e c h d k q =
      let r = derived_by (nodes_of es) a.kind b.kind e (subst (λ (n : List Node). Contains (derived_edges n a.kind b.kind) e) g.nodes q) in
      let from : ReadsFrom x s r.write r.read = record { atom = a; listed = c; same_kind = r.first_kind; holds = h } in
      let before : IsBefore x s r.write r.later = record { atom = b; listed = d; same_kind = r.second_kind; holds = k } in
      elim r.same [
        | inl p ↦ tied Local r.read r.later (after r.write from before) p
        | inr p ↦ tied Global r.read r.later (after r.write from before) p
      ]

  fixed_step : (e : Edge) → Contains x.problem.fixed e → Stepping e
  fixed_step e c =
      elim (Contains-append_cases g.fixed g.create_edges e (subst (λ (l : List Edge). Contains l e) g.edges c)) [
        | inl d ↦ static (always d)
        | inr d ↦ let r = g.created.sound e d in
            created r.create r.start (record { creating = r.creating; starting = r.starting; creates = r.creates; starts = r.starts; same_instance = r.same_kinds.0; is_start = r.same_kinds.1 }) r.same_edge
      ]

  -- each edge is one of these
  pub step_of : (e : Edge) → HasEdge x.problem (λ l. value s l ≡ true) e → Step m x s g.fixed g.fences g.links e
  step_of e (fixed c) = fixed_step e c
  step_of e (own a c h k) = own_step a e c h k
  step_of e (derived a b c h d k q) = derived_step a b e c h d k q

  -- ---- back

  pub static_edge : (e : Edge) → IsThere g.fixed g.fences (happens s es) e → HasEdge x.problem (λ l. value s l ≡ true) e
  static_edge e (always c) = fixed (subst (λ (l : List Edge). Contains l e) (sym g.edges) (Contains-append_left g.fixed g.create_edges e c))
  static_edge e (fenced f c same h) =
      let on = g.kept.fences_on f c in
      own (fence_atom f) (subst (λ (l : List Atom). Contains l (fence_atom f)) (sym g.atoms) (Contains-append_right (atoms_of m es g.links) (map fence_atom g.fences) (fence_atom f) (contains_map fence_atom g.fences f c)))
      (ap (value s) on.1.2 ∙ (sym (happens_is s es f.edge.from on.1.0 on.1.1) ∙ subst (λ (z : Edge). happens s es z.from ≡ true) (sym same) h))
      (subst (λ (z : Edge). Contains (f.edge ∷ []) z) same (contains_head f.edge []))

  pub create_edge : (a b : ℕ) → IsCreation es a b → HasEdge x.problem (λ l. value s l ≡ true) (global_edge (nodes_of es) a b)
  create_edge a b c =
      fixed (subst (λ (l : List Edge). Contains l (global_edge (nodes_of es) a b)) (sym g.edges)
      (Contains-append_right g.fixed g.create_edges (global_edge (nodes_of es) a b)
      (g.created.complete (global_edge (nodes_of es) a b)
      (record { create = a; start = b; creating = c.creating; starting = c.starting; creates = c.creates; starts = c.starts; same_kinds = (c.same_instance, c.is_start); same_edge = refl }))))

  link_listed : (l : Link) (a : Atom) → Contains g.links l → Contains (link_atoms m es l) a → Contains x.problem.atoms a
  link_listed l a c k = subst (λ (z : List Atom). Contains z a) (sym g.atoms) (Contains-append_left (atoms_of m es g.links) (map fence_atom g.fences) a (to_atoms m es g.links l a c k))

  -- what an atom of a read and its source tells
  pub record IsReading (w r : ℕ) : Type 0 where
    pub lit : Lit
    pub listed : Contains x.problem.atoms (read_atom m es lit w r)
    pub holds : value s lit ≡ true
    pub cell : ℕ
    pub source : IsWriteOf es cell w
    pub reader : IsKindOf es kind.Read cell r
    pub both : BothHappen s es w r

  -- and one of two writes
  pub record IsOrdering (w v : ℕ) : Type 0 where
    pub lit : Lit
    pub listed : Contains x.problem.atoms (order_atom es lit w v)
    pub holds : value s lit ≡ true
    pub cell : ℕ
    pub first : IsWriteOf es cell w
    pub second : IsKindOf es kind.Write cell v
    pub both : BothHappen s es w v

  plain_ordering : (l : Lit) (w v c : ℕ) → Contains x.problem.atoms (order_atom es l w v) → value s l ≡ true → IsWriteOf es c w → IsKindOf es kind.Write c v → BothHappen s es w v → IsOrdering w v
  plain_ordering l w v c k h a b o = record { lit = l; listed = k; holds = h; cell = c; first = a; second = b; both = o }

  reading_at : (a : Atom) (l : Link) (w r : ℕ) → value s a.lit ≡ true → Contains g.links l → Contains (link_atoms m es l) a → a.kind ≡ ReadFrom w r → IsReading w r
  reading_at a (reading u v l) w r h c k e =
      let same : a ≡ read_atom m es l u v = one_of (read_atom m es l u v) a k in
      let kinds : ReadFrom u v ≡ ReadFrom w r = sym (ap (λ (z : Atom). z.kind) same) ∙ e in
      let may = (g.tied (reading u v l) c).0 in
      let now : value s l ≡ true = ap (λ (z : Atom). value s z.lit) (sym same) ∙ h in
      let agreed = (g.tied (reading u v l) c).1 now in
      let made : IsReading u v = record {
        lit = l;
        listed = link_listed (reading u v l) (read_atom m es l u v) c (contains_head (read_atom m es l u v) []);
        holds = now;
        cell = may.0;
        source = may.1;
        reader = may.2;
        both = agreed.0;
      } in
      subst (λ (z : ℕ). IsReading w z) (ap second_of kinds) (subst (λ (z : ℕ). IsReading z v) (ap first_of kinds) made)
  reading_at a (beginning i u l) w r h c k e = absurd (not_reading (sym (ap (λ (z : Atom). z.kind) (one_of (order_atom es l i u) a k)) ∙ e))
  reading_at a (rivalry u v l back) w r h c k e =
      elim (one_of_two (order_atom es l u v) (order_atom es back v u) a k) [
        | inl same ↦ absurd (not_reading (sym (ap (λ (z : Atom). z.kind) same) ∙ e))
        | inr same ↦ absurd (not_reading (sym (ap (λ (z : Atom). z.kind) same) ∙ e))
      ]
  reading_at a (joining n j l) w r h c k e = absurd (not_plain_read (sym (ap (λ (z : Atom). z.kind) (one_of (join_atom es l n j) a k)) ∙ e))

  ordering_from : (a : Atom) (u v w z c : ℕ) (l : Lit) → value s a.lit ≡ true → a ≡ order_atom es l u v → a.kind ≡ WriteOrder w z
      → Contains x.problem.atoms (order_atom es l u v) → IsWriteOf es c u → IsKindOf es kind.Write c v → (value s l ≡ true → BothHappen s es u v) → IsOrdering w z
  ordering_from a u v w z c l h same e k p q o =
      let kinds : WriteOrder u v ≡ WriteOrder w z = sym (ap (λ (y : Atom). y.kind) same) ∙ e in
      let now : value s l ≡ true = ap (λ (y : Atom). value s y.lit) (sym same) ∙ h in
      let made : IsOrdering u v = plain_ordering l u v c k now p q (o now) in
      subst (λ (y : ℕ). IsOrdering w y) (ap second_of kinds) (subst (λ (y : ℕ). IsOrdering y v) (ap first_of kinds) made)

  ordering_at : (a : Atom) (l : Link) (w v : ℕ) → value s a.lit ≡ true → Contains g.links l → Contains (link_atoms m es l) a → a.kind ≡ WriteOrder w v → IsOrdering w v
  ordering_at a (reading u z l) w v h c k e = absurd (not_ordering (sym (ap (λ (y : Atom). y.kind) (one_of (read_atom m es l u z) a k)) ∙ e))
  ordering_at a (beginning i u l) w v h c k e =
      let may = (g.tied (beginning i u l) c).0.0 in
      let guard = (g.tied (beginning i u l) c).0.1 in
      ordering_from a i u w v may.0 l h (one_of (order_atom es l i u) a k) e
      (link_listed (beginning i u l) (order_atom es l i u) c (contains_head (order_atom es l i u) [])) (write_initial es may.0 i may.1) may.2
      (λ now. ((may.1.event, may.1.there, (g.initials i may.1.event may.1.there may.1.same_kind).1), (guard.0, guard.1, ap (value s) (sym guard.2) ∙ now)))
  ordering_at a (rivalry u z l back) w v h c k e =
      let may = (g.tied (rivalry u z l back) c).0 in
      let happen = (g.tied (rivalry u z l back) c).1 in
      elim (one_of_two (order_atom es l u z) (order_atom es back z u) a k) [
        | inl same ↦ ordering_from a u z w v may.0 l h same e
            (link_listed (rivalry u z l back) (order_atom es l u z) c (contains_head (order_atom es l u z) (order_atom es back z u ∷ []))) (write_other es may.0 u may.1) may.2 (λ now. happen.0 now)
        | inr same ↦ ordering_from a z u w v may.0 back h same e
            (link_listed (rivalry u z l back) (order_atom es back z u) c (contains_tail (order_atom es l u z) (order_atom es back z u) (order_atom es back z u ∷ []) (contains_head (order_atom es back z u) []))) (write_other es may.0 z may.2) may.1 (λ now. let b = happen.1 now in (b.1, b.0))
      ]
  ordering_at a (joining n j l) w v h c k e = absurd (not_plain_order (sym (ap (λ (y : Atom). y.kind) (one_of (join_atom es l n j) a k)) ∙ e))

  linked_or_fence : (a : Atom) → Contains x.problem.atoms a → ((l : Link) × Contains g.links l × Contains (link_atoms m es l) a) ⊎ (a.kind ≡ Plain)
  linked_or_fence a c =
      elim (Contains-append_cases (atoms_of m es g.links) (map fence_atom g.fences) a (subst (λ (l : List Atom). Contains l a) g.atoms c)) [
        | inl d ↦ inl (from_atoms m es g.links a d)
        | inr d ↦ inr (ap (λ (z : Atom). z.kind) (contains_from_map fence_atom g.fences a d).2)
      ]

  pub reading_of : (w r : ℕ) → ReadsFrom x s w r → IsReading w r
  reading_of w r f =
      elim (linked_or_fence f.atom f.listed) [
        | inl d ↦ reading_at f.atom d.0 w r f.holds d.1 d.2 f.same_kind
        | inr e ↦ absurd (not_plain_read (sym e ∙ f.same_kind))
      ]

  pub ordering_of : (w v : ℕ) → IsBefore x s w v → IsOrdering w v
  ordering_of w v f =
      elim (linked_or_fence f.atom f.listed) [
        | inl d ↦ ordering_at f.atom d.0 w v f.holds d.1 d.2 f.same_kind
        | inr e ↦ absurd (not_plain_order (sym e ∙ f.same_kind))
      ]

  -- ---- the edges of ties

  abbrev Has : Edge → Type 0
  Has e = HasEdge x.problem (λ l. value s l ≡ true) e

  both_edges : (w v : ℕ) → Contains (order_atom es (record { 0 = 0 }) w v).edges (local w v) × Contains (order_atom es (record { 0 = 0 }) w v).edges (global_edge (nodes_of es) w v)
  both_edges w v = (contains_head (local w v) (global_edge (nodes_of es) w v ∷ []), contains_tail (local w v) (global_edge (nodes_of es) w v) (global_edge (nodes_of es) w v ∷ []) (contains_head (global_edge (nodes_of es) w v) []))

  read_seen : (w r : ℕ) (l : Lit) → is_global_rf m es w r ≡ true → Contains (read_atom m es l w r).edges (global_edge (nodes_of es) w r)
  read_seen w r l t =
      contains_tail (local w r) (global_edge (nodes_of es) w r) (cond (is_global_rf m es w r) (global_edge (nodes_of es) w r ∷ []) [])
      (subst (λ (z : List Edge). Contains z (global_edge (nodes_of es) w r)) (sym (cond-true (is_global_rf m es w r) (global_edge (nodes_of es) w r ∷ []) [] t)) (contains_head (global_edge (nodes_of es) w r) []))

  derived_edge : (w r v : ℕ) (e : Edge) → IsReading w r → IsOrdering w v → Contains (local r v ∷ global_edge (nodes_of es) r v ∷ []) e → Has e
  derived_edge w r v e p q k =
      derived (read_atom m es p.lit w r) (order_atom es q.lit w v) p.listed p.holds q.listed q.holds
      (subst (λ (n : List Node). Contains (derived_edges n (ReadFrom w r) (WriteOrder w v)) e) (sym g.nodes)
      (subst (λ (z : List Edge). Contains z e) (sym (cond-true (eqb w w) (local r v ∷ global_edge (nodes_of es) r v ∷ []) [] (eq-eqb w w refl))) k))

  join_edge : (n j : ℕ) → WaitsFor g.links s n j → Has (global_edge (nodes_of es) n j)
  join_edge n j w =
      own (join_atom es w.0 n j) (link_listed (joining n j w.0) (join_atom es w.0 n j) w.1 (contains_head (join_atom es w.0 n j) [])) w.2 (contains_head (global_edge (nodes_of es) n j) [])

  pub local_tie_edge : (a b : ℕ) → Tie m x s g.links Local a b → Has (local a b)
  local_tie_edge a b (reads f t) = let p = reading_of a b f in own (read_atom m es p.lit a b) p.listed p.holds (contains_head (local a b) (cond (is_global_rf m es a b) (global_edge (nodes_of es) a b ∷ []) []))
  local_tie_edge a b (orders f) = let p = ordering_of a b f in own (order_atom es p.lit a b) p.listed p.holds (both_edges a b).0
  local_tie_edge a b (after w f h) = derived_edge w a b (local a b) (reading_of w a f) (ordering_of w b h) (both_edges a b).0
  local_tie_edge a b (waits e w) = absurd (local_not_global e)

  pub global_tie_edge : (a b : ℕ) → Tie m x s g.links Global a b → Has (global_edge (nodes_of es) a b)
  global_tie_edge a b (reads f t) = let p = reading_of a b f in own (read_atom m es p.lit a b) p.listed p.holds (read_seen a b p.lit t)
  global_tie_edge a b (orders f) = let p = ordering_of a b f in own (order_atom es p.lit a b) p.listed p.holds (both_edges a b).1
  global_tie_edge a b (after w f h) = derived_edge w a b (global_edge (nodes_of es) a b) (reading_of w a f) (ordering_of w b h) (both_edges a b).1
  global_tie_edge a b (waits e w) = join_edge a b w
