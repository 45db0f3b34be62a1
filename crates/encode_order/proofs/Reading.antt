-- What the atoms that tell sources say.
use Rattle.std.proofs.Common.{◌≡◌, ◌≢◌, ℕ, inl, inr, Bool, true, cond, List, [], ◌∷◌, refl, ap, sym, ◌∙◌, subst}
use Rattle.std.specs.Prelude.{◌==◌, if◌then◌else◌, Contains}
use Rattle.std.proofs.lemmas.Bool.{eq-eqb}
use Rattle.std.proofs.lemmas.List.Elements.{Contains-append_cases}
use Rattle.dg_base.specs.declared.Lit.{Lit}
use Rattle.dg_base.proofs.Lists.{contains_head, contains_cases, contains_nothing, one_answer}
use Rattle.axiom_model.specs.declared.MemoryModel.{MemoryModel}
use Rattle.cnf_problem.specs.Literals.{value}
use Rattle.cnf_problem.specs.Problems.{IsConsistent}
use Rattle.cnf_problem.specs.Edges.{own, derived, last, then, EdgeIn, derived_edges, global_edge}
use Rattle.cnf_problem.specs.declared.problem.Graph.TheVariants.{Local}
use Rattle.cnf_problem.specs.declared.problem.AtomKind.{AtomKind}
use Rattle.cnf_problem.specs.declared.problem.AtomKind.TheVariants.{ReadFrom, WriteOrder, Plain}
use Rattle.cnf_problem.specs.declared.problem.Atom.{Atom}
use Rattle.cnf_problem.specs.declared.problem.Edge.{Edge}
use Rattle.cnf_problem.specs.declared.problem.Problem.{Problem}
use Rattle.memory_models.specs.declared.StaticEvent.{StaticEvent}
use Rattle.order_vars.specs.Links.{Link, reading, beginning, rivalry, joining}
use Rattle.order_vars.specs.Atoms.{local, nodes_of, is_global_rf, read_atom, order_atom, join_atom, link_atoms, atoms_of}
use Rattle.encode_order.specs.Coherence.{IsBefore, WritesCell, HasOneInitial, OrdersEvents}
use Rattle.encode_order.specs.Sources.{MayComeFrom, ReadsCell, IsSource}
use Rattle.encode_order.proofs.Lines.{same_or_not}
use Rattle.encode_order.proofs.Before.{atom_link, atoms_there, listed_atom, clauses_hold, writes_ordered}

-- an atom that tells a source is that of a link
pub record ReadBy (m : MemoryModel) (es : List StaticEvent) (links : List Link) (a : Atom) (w r : ℕ) : Type 0 where
  pub listed : Contains links (reading w r a.lit)
  pub same : a ≡ read_atom m es a.lit w r

read_by : (m : MemoryModel) (es : List StaticEvent) (links : List Link) (x : Link) (a : Atom) (w r : ℕ) → Contains links x → Contains (link_atoms m es x) a → a.kind ≡ ReadFrom w r → ReadBy m es links a w r
read_by m es links (reading u t l) a w r listed here is =
    elim (contains_cases (read_atom m es l u t) a [] here) [
      | inl e ↦
          let lits : l ≡ a.lit = sym (ap (λ (x : Atom). x.lit) e) in
          let kinds : ReadFrom u t ≡ ReadFrom w r = sym (ap (λ (x : Atom). x.kind) e) ∙ is in
          let writes : u ≡ w = cc in
          let reads : t ≡ r = cc in
          let link : reading u t l ≡ reading w r a.lit = cc (lits, writes, reads) in
          record {
            listed = subst (λ (z : Link). Contains links z) link listed;
            same = e ∙ ap (λ (k : Lit). read_atom m es k u t) lits ∙ ap (λ (n : ℕ). read_atom m es a.lit n t) writes ∙ ap (λ (n : ℕ). read_atom m es a.lit w n) reads;
          }
      | inr none ↦ absurd (contains_nothing a none)
    ]
read_by m es links (beginning i u l) a w r listed here is =
    elim (contains_cases (order_atom es l i u) a [] here) [
      | inl e ↦ absurd (let kinds : WriteOrder i u ≡ ReadFrom w r = sym (ap (λ (x : Atom). x.kind) e) ∙ is in cc)
      | inr none ↦ absurd (contains_nothing a none)
    ]
read_by m es links (rivalry u t l back) a w r listed here is =
    elim (contains_cases (order_atom es l u t) a (order_atom es back t u ∷ []) here) [
      | inl e ↦ absurd (let kinds : WriteOrder u t ≡ ReadFrom w r = sym (ap (λ (x : Atom). x.kind) e) ∙ is in cc)
      | inr rest ↦ elim (contains_cases (order_atom es back t u) a [] rest) [
        | inl e ↦ absurd (let kinds : WriteOrder t u ≡ ReadFrom w r = sym (ap (λ (x : Atom). x.kind) e) ∙ is in cc)
        | inr none ↦ absurd (contains_nothing a none)
      ]
    ]
read_by m es links (joining n j l) a w r listed here is =
    elim (contains_cases (join_atom es l n j) a [] here) [
      | inl e ↦ absurd (let kinds : Plain ≡ ReadFrom w r = sym (ap (λ (x : Atom). x.kind) e) ∙ is in cc)
      | inr none ↦ absurd (contains_nothing a none)
    ]

pub read_link : (m : MemoryModel) (es : List StaticEvent) (words : List (List Lit)) (p : Problem) (s : List Bool) (has : OrdersEvents m es words p) (w r : ℕ) → (h : MayComeFrom p.atoms s w r)
    → ReadBy m es has.orders.links h.atom w r
read_link m es words p s has w r h =
    elim (Contains-append_cases (atoms_of m es has.orders.links) has.others h.atom (subst (λ (xs : List Atom). Contains xs h.atom) (atoms_there m es words p has) h.listed)) [
      | inl order ↦ let link = atom_link m es has.orders.links h.atom order in read_by m es has.orders.links link.0 h.atom w r link.1 link.2 h.same_kind
      | inr other ↦ absurd (let kinds : Plain ≡ ReadFrom w r = sym (has.others_plain h.atom other) ∙ h.same_kind in cc)
    ]

-- ---- some source

pub has_source : (m : MemoryModel) (es : List StaticEvent) (words : List (List Lit)) (p : Problem) (s : List Bool) → OrdersEvents m es words p → IsConsistent p s
    → (c r : ℕ) → ReadsCell es s c r → (w : ℕ) × MayComeFrom p.atoms s w r
has_source m es words p s has consistent c r read =
    let source = (clauses_hold m es words p s has consistent).some_source r read.event read.there read.reads read.happens in (
      source.0,
      record {
        atom = read_atom m es source.1 source.0 r;
        listed = listed_atom m es words p has (reading source.0 r source.1) (read_atom m es source.1 source.0 r) source.2 (contains_head (read_atom m es source.1 source.0 r) []);
        same_kind = refl;
        holds = source.3;
      },
    )

-- ---- what a source is

pub is_source : (m : MemoryModel) (es : List StaticEvent) (words : List (List Lit)) (p : Problem) (s : List Bool) → OrdersEvents m es words p → IsConsistent p s
    → (w r : ℕ) → MayComeFrom p.atoms s w r → IsSource es words s w r
is_source m es words p s has consistent w r h =
    let by = read_link m es words p s has w r h in
    let may = (has.orders.sound (reading w r h.atom.lit) by.listed).0 in
    let holds = (clauses_hold m es words p s has consistent).each (reading w r h.atom.lit) by.listed h.holds in
    let write_same : holds.0.0.0 ≡ may.1.event = one_answer _ holds.0.0.0 may.1.event holds.0.0.1 may.1.there in
    let read_same : holds.0.1.0 ≡ may.2.event = one_answer _ holds.0.1.0 may.2.event holds.0.1.1 may.2.there in
    record {
      cell = may.0;
      write = record {
        event = may.1.event;
        there = may.1.there;
        happens = sym (ap (λ (x : StaticEvent). value s x.guard) write_same) ∙ holds.0.0.2;
        writes = may.1.writes;
        same_cell = may.1.same_cell;
      };
      read = record {
        event = may.2.event;
        there = may.2.there;
        happens = sym (ap (λ (x : StaticEvent). value s x.guard) read_same) ∙ holds.0.1.2;
        reads = may.2.same_kind;
        same_cell = may.2.same_cell;
      };
      same_bits = holds.1;
    }

-- ---- one source

read_edge : (m : MemoryModel) (es : List StaticEvent) (words : List (List Lit)) (p : Problem) (s : List Bool) (has : OrdersEvents m es words p) (w r : ℕ) → MayComeFrom p.atoms s w r
    → EdgeIn p (λ l. value s l ≡ true) Local w r
read_edge m es words p s has w r h =
    let by = read_link m es words p s has w r h in
    let edges : h.atom.edges ≡ (read_atom m es h.atom.lit w r).edges = ap (λ (x : Atom). x.edges) by.same in
    own h.atom h.listed h.holds (subst (λ (xs : List Edge). Contains xs (local w r)) (sym edges) (contains_head (local w r) (cond (is_global_rf m es w r) (global_edge (nodes_of es) w r ∷ []) [])))

-- a read is before the writes that come behind its source
from_read_edge : (p : Problem) (s : List Bool) (w v r : ℕ) → MayComeFrom p.atoms s w r → IsBefore p.atoms s w v → EdgeIn p (λ l. value s l ≡ true) Local r v
from_read_edge p s w v r read before =
    let yes : (w == w) ≡ true = eq-eqb w w refl in
    let edges : derived_edges p.nodes (ReadFrom w r) (WriteOrder w v) ≡ local r v ∷ global_edge p.nodes r v ∷ [] =
    ap (λ (b : Bool). if b then local r v ∷ global_edge p.nodes r v ∷ [] else []) yes in
    let there : Contains (derived_edges p.nodes (ReadFrom w r) (WriteOrder w v)) (local r v) =
    subst (λ (xs : List Edge). Contains xs (local r v)) (sym edges) (contains_head (local r v) (global_edge p.nodes r v ∷ [])) in
    derived read.atom before.atom read.listed read.holds before.listed before.holds
    (subst (λ (k : AtomKind). Contains (derived_edges p.nodes k before.atom.kind) (local r v)) (sym read.same_kind)
    (subst (λ (k : AtomKind). Contains (derived_edges p.nodes (ReadFrom w r) k) (local r v)) (sym before.same_kind) there))

not_between : (m : MemoryModel) (es : List StaticEvent) (words : List (List Lit)) (p : Problem) (s : List Bool) (has : OrdersEvents m es words p) → IsConsistent p s
    → (w v r : ℕ) → MayComeFrom p.atoms s w r → MayComeFrom p.atoms s v r → IsBefore p.atoms s w v → ⊥
not_between m es words p s has consistent w v r from_w from_v before =
    consistent.acyclic (Local, (r, (then) (from_read_edge p s w v r from_w before) (last (read_edge m es words p s has v r from_v))))

pub one_source : (m : MemoryModel) (es : List StaticEvent) (words : List (List Lit)) (p : Problem) (s : List Bool) → OrdersEvents m es words p → IsConsistent p s → HasOneInitial es
    → (w v r : ℕ) → MayComeFrom p.atoms s w r → MayComeFrom p.atoms s v r → w ≡ v
one_source m es words p s has consistent one w v r from_w from_v =
    elim (same_or_not w v) [
      | inl same ↦ same
      | inr apart ↦ absurd (by_cell (is_source m es words p s has consistent w r from_w) (is_source m es words p s has consistent v r from_v) apart)
    ]
  where
    by_cell : IsSource es words s w r → IsSource es words s v r → w ≢ v → ⊥
    by_cell w_is v_is apart =
        let same : w_is.read.event ≡ v_is.read.event = one_answer _ w_is.read.event v_is.read.event w_is.read.there v_is.read.there in
        let cells : v_is.cell ≡ w_is.cell = sym v_is.read.same_cell ∙ sym (ap (λ (x : StaticEvent). x.cell) same) ∙ w_is.read.same_cell in
        elim (writes_ordered m es words p s has consistent one w_is.cell w v w_is.write (subst (λ (c : ℕ). WritesCell es s c v) cells v_is.write) apart) [
          | inl before ↦ not_between m es words p s has consistent w v r from_w from_v before
          | inr behind ↦ not_between m es words p s has consistent v w r from_v from_w behind
        ]
