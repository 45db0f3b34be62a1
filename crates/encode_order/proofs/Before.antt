-- What the atoms that order writes say, under an assignment that makes the clauses true and neither graph cyclic.
use Rattle.std.proofs.Common.{◌≡◌, ◌≢◌, ℕ, ◌<◌, ◌⊎◌, inl, inr, Bool, true, false, ◌&&◌, nat_eq, List, [], ◌∷◌, ◌++◌, refl, ap, sym, ◌∙◌, subst}
use Rattle.std.specs.Prelude.{Option, Some, None, slice_get, Contains}
use Rattle.std.proofs.lemmas.Bool.{and_from, and_parts, eq-eqb, eqb-true}
use Rattle.std.proofs.lemmas.List.Elements.{Contains-append_left, Contains-append_right, Contains-append_cases}
use Rattle.dg_base.specs.declared.Lit.{Lit}
use Rattle.dg_base.proofs.Lists.{contains_head, contains_tail, contains_cases, contains_nothing, one_answer}
use Rattle.axiom_model.specs.declared.MemoryModel.{MemoryModel}
use Rattle.cnf_problem.specs.Literals.{value}
use Rattle.cnf_problem.specs.Problems.{IsConsistent}
use Rattle.cnf_problem.specs.Edges.{own, last, then, EdgeIn, global_edge}
use Rattle.cnf_problem.specs.declared.problem.Graph.TheVariants.{Local}
use Rattle.cnf_problem.specs.declared.problem.AtomKind.TheVariants.{ReadFrom, WriteOrder, Plain}
use Rattle.cnf_problem.specs.declared.problem.Atom.{Atom}
use Rattle.cnf_problem.specs.declared.problem.Edge.{Edge}
use Rattle.cnf_problem.specs.declared.problem.Problem.{Problem}
use Rattle.memory_models.specs.declared.StaticEvent.{StaticEvent}
use Rattle.memory_models.specs.declared.StaticKind.{StaticKind}
use Rattle.memory_models.specs.declared.StaticKind.TheVariants as kind
use Rattle.order_vars.specs.Links.{Link, reading, beginning, rivalry, joining, is_write, IsKindOf, MayBegin, AreRivals}
use Rattle.order_vars.specs.Atoms.{local, nodes_of, read_atom, order_atom, join_atom, link_atoms, atoms_of}
use Rattle.order_vars.specs.Holding.{Happens, BothHappen, OrderHolds}
use Rattle.encode_order.specs.Coherence.{IsBefore, WritesCell, IsInitialOf, HasOneInitial, InitialsHappen, OrdersEvents}
use Rattle.encode_order.specs.Laws.{AreTwoWrites}
use Rattle.encode_order.proofs.Lines.{IsLinear, which_first, same_or_not}

-- ---- atoms of links

-- each atom is a link's
pub atom_link : (m : MemoryModel) (es : List StaticEvent) (links : List Link) (a : Atom) → Contains (atoms_of m es links) a → (x : Link) × Contains links x × Contains (link_atoms m es x) a
atom_link m es [] a h = absurd (contains_nothing a h)
atom_link m es (x ∷ links) a h =
    elim (Contains-append_cases (link_atoms m es x) (atoms_of m es links) a h) [
      | inl here ↦ (x, contains_head x links, here)
      | inr more ↦ let r = atom_link m es links a more in (r.0, contains_tail x r.0 links r.1, r.2)
    ]

link_atom : (m : MemoryModel) (es : List StaticEvent) (links : List Link) (x : Link) (a : Atom) → Contains links x → Contains (link_atoms m es x) a → Contains (atoms_of m es links) a
link_atom m es [] x a h here = absurd (contains_nothing x h)
link_atom m es (y ∷ links) x a h here =
    elim (contains_cases y x links h) [
      | inl e ↦ Contains-append_left (link_atoms m es y) (atoms_of m es links) a (subst (λ (z : Link). Contains (link_atoms m es z) a) e here)
      | inr more ↦ Contains-append_right (link_atoms m es y) (atoms_of m es links) a (link_atom m es links x a more here)
    ]

-- the links by which a literal orders two writes
pub data Ordering (links : List Link) (l : Lit) (w v : ℕ) : Type 0 where
  begun : Contains links (beginning w v l) → Ordering links l w v
  first : (back : Lit) → Contains links (rivalry w v l back) → Ordering links l w v
  second : (front : Lit) → Contains links (rivalry v w front l) → Ordering links l w v

-- an atom that orders two writes is that of a link of theirs
pub record OrderedBy (es : List StaticEvent) (links : List Link) (a : Atom) (w v : ℕ) : Type 0 where
  pub ordering : Ordering links a.lit w v
  pub same : a ≡ order_atom es a.lit w v

-- an order atom of these places
record SamePlaces (es : List StaticEvent) (a : Atom) (l : Lit) (i u w v : ℕ) : Type 0 where
  lits : l ≡ a.lit
  firsts : i ≡ w
  seconds : u ≡ v
  same : a ≡ order_atom es a.lit w v

same_places : (es : List StaticEvent) (a : Atom) (l : Lit) (i u w v : ℕ) → a ≡ order_atom es l i u → a.kind ≡ WriteOrder w v → SamePlaces es a l i u w v
same_places es a l i u w v e is =
    let lits : l ≡ a.lit = sym (ap (λ (x : Atom). x.lit) e) in
    let kinds : WriteOrder i u ≡ WriteOrder w v = sym (ap (λ (x : Atom). x.kind) e) ∙ is in
    let firsts : i ≡ w = cc in
    let seconds : u ≡ v = cc in
    record {
      lits = lits;
      firsts = firsts;
      seconds = seconds;
      same = e ∙ ap (λ (k : Lit). order_atom es k i u) lits ∙ ap (λ (n : ℕ). order_atom es a.lit n u) firsts ∙ ap (λ (n : ℕ). order_atom es a.lit w n) seconds;
    }

pub ordered_by : (m : MemoryModel) (es : List StaticEvent) (links : List Link) (x : Link) (a : Atom) (w v : ℕ) → Contains links x → Contains (link_atoms m es x) a → a.kind ≡ WriteOrder w v
    → OrderedBy es links a w v
ordered_by m es links (reading u r l) a w v listed here is =
    elim (contains_cases (read_atom m es l u r) a [] here) [
      | inl e ↦ absurd (let kinds : ReadFrom u r ≡ WriteOrder w v = sym (ap (λ (x : Atom). x.kind) e) ∙ is in cc)
      | inr none ↦ absurd (contains_nothing a none)
    ]
ordered_by m es links (beginning i u l) a w v listed here is =
    elim (contains_cases (order_atom es l i u) a [] here) [
      | inl e ↦
          let r = same_places es a l i u w v e is in
          let link : beginning i u l ≡ beginning w v a.lit = cc (r.lits, r.firsts, r.seconds) in
          record { ordering = begun (subst (λ (z : Link). Contains links z) link listed); same = r.same }
      | inr none ↦ absurd (contains_nothing a none)
    ]
ordered_by m es links (rivalry u t l back) a w v listed here is =
    elim (contains_cases (order_atom es l u t) a (order_atom es back t u ∷ []) here) [
      | inl e ↦
          let r = same_places es a l u t w v e is in
          let link : rivalry u t l back ≡ rivalry w v a.lit back = cc (r.lits, r.firsts, r.seconds) in
          record { ordering = first back (subst (λ (z : Link). Contains links z) link listed); same = r.same }
      | inr rest ↦ elim (contains_cases (order_atom es back t u) a [] rest) [
        | inl e ↦
            let r = same_places es a back t u w v e is in
            let link : rivalry u t l back ≡ rivalry v w l a.lit = cc (r.lits, r.firsts, r.seconds) in
            record { ordering = second l (subst (λ (z : Link). Contains links z) link listed); same = r.same }
        | inr none ↦ absurd (contains_nothing a none)
      ]
    ]
ordered_by m es links (joining n j l) a w v listed here is =
    elim (contains_cases (join_atom es l n j) a [] here) [
      | inl e ↦ absurd (let kinds : Plain ≡ WriteOrder w v = sym (ap (λ (x : Atom). x.kind) e) ∙ is in cc)
      | inr none ↦ absurd (contains_nothing a none)
    ]

-- ---- a problem with these atoms

pub atoms_there : (m : MemoryModel) (es : List StaticEvent) (words : List (List Lit)) (p : Problem) (has : OrdersEvents m es words p) → p.atoms ≡ atoms_of m es has.orders.links ++ has.others
atoms_there m es words p has = has.atoms ∙ ap (λ (xs : List Atom). xs ++ has.others) has.orders.are_atoms

-- the atom of a link is one of the problem's
pub listed_atom : (m : MemoryModel) (es : List StaticEvent) (words : List (List Lit)) (p : Problem) (has : OrdersEvents m es words p) (x : Link) (a : Atom)
    → Contains has.orders.links x → Contains (link_atoms m es x) a → Contains p.atoms a
listed_atom m es words p has x a h here =
    subst (λ (xs : List Atom). Contains xs a) (sym (atoms_there m es words p has))
    (Contains-append_left (atoms_of m es has.orders.links) has.others a (link_atom m es has.orders.links x a h here))

before_ordered : (m : MemoryModel) (es : List StaticEvent) (words : List (List Lit)) (p : Problem) (s : List Bool) (has : OrdersEvents m es words p) (w v : ℕ) → (h : IsBefore p.atoms s w v)
    → OrderedBy es has.orders.links h.atom w v
before_ordered m es words p s has w v h =
    elim (Contains-append_cases (atoms_of m es has.orders.links) has.others h.atom (subst (λ (xs : List Atom). Contains xs h.atom) (atoms_there m es words p has) h.listed)) [
      | inl order ↦ let r = atom_link m es has.orders.links h.atom order in ordered_by m es has.orders.links r.0 h.atom w v r.1 r.2 h.same_kind
      | inr other ↦ absurd (let kinds : Plain ≡ WriteOrder w v = sym (has.others_plain h.atom other) ∙ h.same_kind in cc)
    ]

pub before_link : (m : MemoryModel) (es : List StaticEvent) (words : List (List Lit)) (p : Problem) (s : List Bool) (has : OrdersEvents m es words p) (w v : ℕ) → (h : IsBefore p.atoms s w v)
    → Ordering has.orders.links h.atom.lit w v
before_link m es words p s has w v h = (before_ordered m es words p s has w v h).ordering

-- the clauses hold
pub clauses_hold : (m : MemoryModel) (es : List StaticEvent) (words : List (List Lit)) (p : Problem) (s : List Bool) (has : OrdersEvents m es words p) → IsConsistent p s → OrderHolds es words has.orders.links s
clauses_hold m es words p s has consistent =
    (has.orders.exact s).0 (λ clause listed.
    let made : Contains has.new.clauses clause = subst (λ (xs : List (List Lit)). Contains xs clause) (sym has.orders.clauses) (Contains-append_right has.old.clauses has.orders.added clause listed) in
    consistent.clauses clause (subst (λ (xs : List (List Lit)). Contains xs clause) (sym has.clauses) (Contains-append_left has.new.clauses has.more clause made)))

-- ---- the local graph

-- where one write is before another there is an edge
pub before_edge : (m : MemoryModel) (es : List StaticEvent) (words : List (List Lit)) (p : Problem) (s : List Bool) (has : OrdersEvents m es words p) (w v : ℕ) → IsBefore p.atoms s w v
    → EdgeIn p (λ l. value s l ≡ true) Local w v
before_edge m es words p s has w v h =
    let r = before_ordered m es words p s has w v h in
    let edges : h.atom.edges ≡ (order_atom es h.atom.lit w v).edges = ap (λ (x : Atom). x.edges) r.same in
    own h.atom h.listed h.holds (subst (λ (xs : List Edge). Contains xs (local w v)) (sym edges) (contains_head (local w v) (global_edge (nodes_of es) w v ∷ [])))

pub one_way : (m : MemoryModel) (es : List StaticEvent) (words : List (List Lit)) (p : Problem) (s : List Bool) (has : OrdersEvents m es words p) → IsConsistent p s → (w v : ℕ)
    → IsBefore p.atoms s w v → IsBefore p.atoms s v w → ⊥
one_way m es words p s has consistent w v there back =
    consistent.acyclic (Local, (w, then (before_edge m es words p s has w v there) (last (before_edge m es words p s has v w back))))

no_round : (m : MemoryModel) (es : List StaticEvent) (words : List (List Lit)) (p : Problem) (s : List Bool) (has : OrdersEvents m es words p) → IsConsistent p s → (w v u : ℕ)
    → IsBefore p.atoms s w v → IsBefore p.atoms s v u → IsBefore p.atoms s u w → ⊥
no_round m es words p s has consistent w v u a b c =
    consistent.acyclic (
      Local,
      (w, then (before_edge m es words p s has w v a) (then (before_edge m es words p s has v u b) (last (before_edge m es words p s has u w c)))),
    )

-- ---- writes

write_kinds : (k : StaticKind) → is_write k ≡ true → (k ≡ kind.Initial) ⊎ (k ≡ kind.Write)
write_kinds kind.Initial h = inl refl
write_kinds kind.Write h = inr refl
write_kinds _ h = absurd (cc)

-- the initial write is before another one that happens
initial_before : (m : MemoryModel) (es : List StaticEvent) (words : List (List Lit)) (p : Problem) (s : List Bool) (has : OrdersEvents m es words p) (c i w : ℕ) (i_is : WritesCell es s c i) (w_is : WritesCell es s c w)
    → i_is.event.kind ≡ kind.Initial → w_is.event.kind ≡ kind.Write → IsBefore p.atoms s i w
initial_before m es words p s has c i w i_is w_is initial write =
    let may : MayBegin es i w = (
      c,
      record { event = i_is.event; there = i_is.there; same_kind = initial; same_cell = i_is.same_cell },
      record { event = w_is.event; there = w_is.there; same_kind = write; same_cell = w_is.same_cell },
    ) in
    let r = has.orders.complete.begins i w may in
    let guard = (has.orders.sound (beginning i w r.0) r.1).0.1 in
    let same : guard.0 ≡ w_is.event = one_answer _ guard.0 w_is.event guard.1 w_is.there in
    record {
      atom = order_atom es r.0 i w;
      listed = listed_atom m es words p has (beginning i w r.0) (order_atom es r.0 i w) r.1 (contains_head (order_atom es r.0 i w) []);
      same_kind = refl;
      holds = ap (value s) guard.2 ∙ ap (λ (e : StaticEvent). value s e.guard) same ∙ w_is.happens;
    }

-- of two writes that happen, neither the initial one, one is before the other
rivals_ordered : (m : MemoryModel) (es : List StaticEvent) (words : List (List Lit)) (p : Problem) (s : List Bool) (has : OrdersEvents m es words p) → IsConsistent p s
    → (c w v : ℕ) (w_is : WritesCell es s c w) (v_is : WritesCell es s c v) → w_is.event.kind ≡ kind.Write → v_is.event.kind ≡ kind.Write → w < v
    → IsBefore p.atoms s w v ⊎ IsBefore p.atoms s v w
rivals_ordered m es words p s has consistent c w v w_is v_is w_write v_write below =
    let may : AreRivals es w v = (
      c,
      record { event = w_is.event; there = w_is.there; same_kind = w_write; same_cell = w_is.same_cell },
      record { event = v_is.event; there = v_is.there; same_kind = v_write; same_cell = v_is.same_cell },
      below,
    ) in
    let r = has.orders.complete.rivals w v may in
    let holds = (clauses_hold m es words p s has consistent).each (rivalry w v r.0 r.1) r.2 in
    let both : BothHappen s es w v = ((w_is.event, w_is.there, w_is.happens), (v_is.event, v_is.there, v_is.happens)) in
    elim (holds.2 both) [
      | inl ahead ↦ inl (record {
        atom = order_atom es r.0 w v;
        listed = listed_atom m es words p has (rivalry w v r.0 r.1) (order_atom es r.0 w v) r.2 (contains_head (order_atom es r.0 w v) (order_atom es r.1 v w ∷ []));
        same_kind = refl;
        holds = ahead;
      })
      | inr behind ↦ inr (record {
        atom = order_atom es r.1 v w;
        listed = listed_atom m es words p has (rivalry w v r.0 r.1) (order_atom es r.1 v w) r.2
            (contains_tail (order_atom es r.0 w v) (order_atom es r.1 v w) (order_atom es r.1 v w ∷ []) (contains_head (order_atom es r.1 v w) []));
        same_kind = refl;
        holds = behind;
      })
    ]

swapped : {A B : Type 0} → A ⊎ B → B ⊎ A
swapped (inl a) = inr a
swapped (inr b) = inl b

-- one of two writes is before the other
pub writes_ordered : (m : MemoryModel) (es : List StaticEvent) (words : List (List Lit)) (p : Problem) (s : List Bool) (has : OrdersEvents m es words p) → IsConsistent p s → HasOneInitial es
    → (c w v : ℕ) → WritesCell es s c w → WritesCell es s c v → w ≢ v → IsBefore p.atoms s w v ⊎ IsBefore p.atoms s v w
writes_ordered m es words p s has consistent one c w v w_is v_is apart =
    elim (write_kinds w_is.event.kind w_is.writes) [
      | inl w_initial ↦ elim (write_kinds v_is.event.kind v_is.writes) [
        | inl v_initial ↦ absurd (apart (one c w v
            (record { event = w_is.event; there = w_is.there; same_kind = w_initial; same_cell = w_is.same_cell })
            (record { event = v_is.event; there = v_is.there; same_kind = v_initial; same_cell = v_is.same_cell })))
        | inr v_write ↦ inl (initial_before m es words p s has c w v w_is v_is w_initial v_write)
      ]
      | inr w_write ↦ elim (write_kinds v_is.event.kind v_is.writes) [
        | inl v_initial ↦ inr (initial_before m es words p s has c v w v_is w_is v_initial w_write)
        | inr v_write ↦ elim (which_first w v) [
          | inl below ↦ rivals_ordered m es words p s has consistent c w v w_is v_is w_write v_write below
          | inr rest ↦ elim rest [
            | inl same ↦ absurd (apart same)
            | inr above ↦ swapped (rivals_ordered m es words p s has consistent c v w v_is w_is v_write w_write above)
          ]
        ]
      ]
    ]

-- ---- the writes of a cell that happen, as a test

abbrev is_wanted : List Bool → ℕ → Option StaticEvent → Bool
is_wanted s c None = false
is_wanted s c (Some e) = (is_write e.kind && nat_eq e.cell c) && value s e.guard

abbrev pub wanted_at : List StaticEvent → List Bool → ℕ → ℕ → Bool
wanted_at es s c n = is_wanted s c (slice_get es n)

pub wanted_writes : (es : List StaticEvent) (s : List Bool) (c n : ℕ) → wanted_at es s c n ≡ true → WritesCell es s c n
wanted_writes es s c n h = by_event (slice_get es n) refl h
  where
    by_event : (o : Option StaticEvent) → slice_get es n ≡ o → is_wanted s c o ≡ true → WritesCell es s c n
    by_event None e h = absurd (let no : false ≡ true = h in cc)
    by_event (Some x) e h =
        let parts = and_parts (is_write x.kind && nat_eq x.cell c) (value s x.guard) h in
        let both = and_parts (is_write x.kind) (nat_eq x.cell c) parts.0 in
        record { event = x; there = e; happens = parts.1; writes = both.0; same_cell = eqb-true x.cell c both.1 }

pub writes_wanted : (es : List StaticEvent) (s : List Bool) (c n : ℕ) → WritesCell es s c n → wanted_at es s c n ≡ true
writes_wanted es s c n w =
    ap (is_wanted s c) w.there
    ∙ and_from (is_write w.event.kind && nat_eq w.event.cell c) (value s w.event.guard)
    (and_from (is_write w.event.kind) (nat_eq w.event.cell c) w.writes (eq-eqb w.event.cell c w.same_cell))
    w.happens

-- they are in a line
pub writes_linear : (m : MemoryModel) (es : List StaticEvent) (words : List (List Lit)) (p : Problem) (s : List Bool) (has : OrdersEvents m es words p) → IsConsistent p s → HasOneInitial es → (c : ℕ)
    → IsLinear (λ n. wanted_at es s c n ≡ true) (IsBefore p.atoms s)
writes_linear m es words p s has consistent one c = record {
  either = λ x y x_is y_is apart. writes_ordered m es words p s has consistent one c x y (wanted_writes es s c x x_is) (wanted_writes es s c y y_is) apart;
  onward = λ x y z x_is y_is z_is before behind. elim (same_or_not x z) [
    | inl same ↦ absurd (one_way m es words p s has consistent x y before (subst (λ (n : ℕ). IsBefore p.atoms s y n) (sym same) behind))
    | inr apart ↦ elim (writes_ordered m es words p s has consistent one c x z (wanted_writes es s c x x_is) (wanted_writes es s c z z_is) apart) [
      | inl there ↦ there
      | inr back ↦ absurd (no_round m es words p s has consistent x y z before behind back)
    ]
  ];
}

-- ---- what is ordered

-- a write that happens writes its cell
write_here : (es : List StaticEvent) (s : List Bool) (c n : ℕ) → IsKindOf es kind.Write c n → Happens s es n → WritesCell es s c n
write_here es s c n k (e, at, happens) =
    let same : e ≡ k.event = one_answer _ e k.event at k.there in
    record { event = k.event; there = k.there; happens = sym (ap (λ (x : StaticEvent). value s x.guard) same) ∙ happens; writes = ap is_write k.same_kind; same_cell = k.same_cell }

initial_here : (es : List StaticEvent) (s : List Bool) (c n : ℕ) → InitialsHappen es s → IsKindOf es kind.Initial c n → WritesCell es s c n
initial_here es s c n happen k = record { event = k.event; there = k.there; happens = happen n k.event k.there k.same_kind; writes = ap is_write k.same_kind; same_cell = k.same_cell }

pub two_writes : (m : MemoryModel) (es : List StaticEvent) (words : List (List Lit)) (p : Problem) (s : List Bool) (has : OrdersEvents m es words p) → IsConsistent p s → InitialsHappen es s
    → (w v : ℕ) → IsBefore p.atoms s w v → AreTwoWrites es s w v
two_writes m es words p s has consistent happen w v h = by_link (before_link m es words p s has w v h)
  where
    apart : w ≢ v
    apart same = let around : IsBefore p.atoms s v v = subst (λ (n : ℕ). IsBefore p.atoms s n v) same h in one_way m es words p s has consistent v v around around

    by_link : Ordering has.orders.links h.atom.lit w v → AreTwoWrites es s w v
    by_link (begun listed) =
        let is = (has.orders.sound (beginning w v h.atom.lit) listed).0 in
        let guard = is.1 in
        let there : Happens s es v = (guard.0, guard.1, sym (ap (value s) guard.2) ∙ h.holds) in
        record { cell = is.0.0; first = initial_here es s is.0.0 w happen is.0.1; second = write_here es s is.0.0 v is.0.2 there; apart = apart }
    by_link (first back listed) =
        let is = (has.orders.sound (rivalry w v h.atom.lit back) listed).0 in
        let both = ((clauses_hold m es words p s has consistent).each (rivalry w v h.atom.lit back) listed).0 h.holds in
        record { cell = is.0; first = write_here es s is.0 w is.1 both.0; second = write_here es s is.0 v is.2 both.1; apart = apart }
    by_link (second front listed) =
        let is = (has.orders.sound (rivalry v w front h.atom.lit) listed).0 in
        let both = ((clauses_hold m es words p s has consistent).each (rivalry v w front h.atom.lit) listed).1 h.holds in
        record { cell = is.0; first = write_here es s is.0 w is.2 both.1; second = write_here es s is.0 v is.1 both.0; apart = apart }

-- nothing is before an initial write
not_both_kinds : (es : List StaticEvent) (c d n : ℕ) → IsInitialOf es c n → IsKindOf es kind.Write d n → ⊥
not_both_kinds es c d n i w =
    let same : i.event ≡ w.event = one_answer _ i.event w.event i.there w.there in
    let kinds : kind.Initial ≡ kind.Write = sym i.same_kind ∙ ap (λ (x : StaticEvent). x.kind) same ∙ w.same_kind in
    cc

pub none_before_initial : (m : MemoryModel) (es : List StaticEvent) (words : List (List Lit)) (p : Problem) (s : List Bool) (has : OrdersEvents m es words p) (c w n : ℕ) → IsInitialOf es c n
    → IsBefore p.atoms s w n → ⊥
none_before_initial m es words p s has c w n initial h = by_link (before_link m es words p s has w n h)
  where
    by_link : Ordering has.orders.links h.atom.lit w n → ⊥
    by_link (begun listed) = let is = (has.orders.sound (beginning w n h.atom.lit) listed).0 in not_both_kinds es c is.0.0 n initial is.0.2
    by_link (first back listed) = let is = (has.orders.sound (rivalry w n h.atom.lit back) listed).0 in not_both_kinds es c is.0 n initial is.2
    by_link (second front listed) = let is = (has.orders.sound (rivalry n w front h.atom.lit) listed).0 in not_both_kinds es c is.0 n initial is.1
