-- One true atom more: the edges that are derived afterwards.
use Rattle.std.proofs.Common.{◌≡◌, ℕ, ◌<◌, ◌⊎◌, inl, inr, max, min, List, [], ◌∷◌, ◌++◌, length, refl, ap, sym, ◌∙◌, subst, arith}
use Rattle.std.specs.Prelude.{Some, Contains, slice_get}
use Rattle.std.proofs.lemmas.Bool.{cases_lt}
use Rattle.std.proofs.lemmas.Option.{slice_get_within}
use Rattle.dg_base.proofs.Lists.{contains_nothing, contains_place, get_append_left, get_push_cases, get_push_last, contains_map, contains_from_map}
use Rattle.cycle_detect.proofs.Counting.{contains_either}
use Rattle.dg_base.proofs.Lists.{contains_cases}
use Rattle.cnf_problem.specs.declared.problem.Node.{Node}
use Rattle.cnf_problem.specs.declared.problem.Edge.{Edge}
use Rattle.cnf_problem.specs.declared.problem.AtomKind.{AtomKind}
use Rattle.cnf_problem.specs.declared.problem.AtomKind.TheVariants.{ReadFrom, WriteOrder, Plain}
use Rattle.cnf_problem.specs.Edges.{derived_edges}
use Rattle.from_read.specs.declared.edge_set.DerivedEdge.{DerivedEdge}
use Rattle.from_read.specs.Derivations.{FromReadView, kind_at, Derives, IsFirst, IsDerived}
use Rattle.from_read.specs.Parts.{HasEdge, ArePutFor, pair_edges}
use Rattle.from_read.proofs.Puts.{IsNew, for_grown, for_once, for_has, for_from, grown_edge}

-- the same with one more true atom, and these edges
abbrev pub with_atom : FromReadView → ℕ → List DerivedEdge → FromReadView
with_atom v a new = record { nodes = v.nodes; kinds = v.kinds; true_atoms = v.true_atoms ++ a ∷ []; derived = new }

-- a pair with the new atom: the place of the other one, and the edge with the pair
pub record IsPair (v : FromReadView) (f : ℕ → List DerivedEdge) (first_place second_place : ℕ → ℕ) (m n : ℕ) (e : Edge) : Type 0 where
  pub place : ℕ
  pub other : ℕ
  pub item : DerivedEdge
  pub stands : slice_get v.true_atoms place ≡ Some other
  pub gives : Contains (f other) item
  pub is : item.edge ≡ e
  pub reader : m ≡ first_place place
  pub orderer : n ≡ second_place place

-- how a pair with the new atom is told: the place of the other atom gives the places of the reader and of the one that orders
pub record Tells (v : FromReadView) (a : ℕ) (f : ℕ → List DerivedEdge) (new : List DerivedEdge) (first_place second_place : ℕ → ℕ) : Type 0 where
  pub latest : (j : ℕ) → j < length v.true_atoms → (max (first_place j) (second_place j) ≡ length v.true_atoms) × (min (first_place j) (second_place j) ≡ j)
  pub classify : (m n : ℕ) (e : Edge) → Derives (with_atom v a new) m n e → Derives v m n e ⊎ IsPair v f first_place second_place m n e
  pub made : (j b : ℕ) (c : DerivedEdge) → slice_get v.true_atoms j ≡ Some b → Contains (f b) c → (slice_get (v.true_atoms ++ a ∷ []) (first_place j) ≡ Some c.read_from) × (slice_get (v.true_atoms ++ a ∷ []) (second_place j) ≡ Some c.write_order) × Derives (with_atom v a new) (first_place j) (second_place j) c.edge

-- an edge that was derived keeps its first pair
old_first : (v : FromReadView) (a : ℕ) (f : ℕ → List DerivedEdge) (new : List DerivedEdge) (g h : ℕ → ℕ) → Tells v a f new g h → (c : DerivedEdge) → IsFirst v c → IsFirst (with_atom v a new) c
old_first v a f new g h tells c is = record {
  i = is.i;
  j = is.j;
  first_is = get_append_left v.true_atoms (a ∷ []) is.i c.read_from is.first_is;
  second_is = get_append_left v.true_atoms (a ∷ []) is.j c.write_order is.second_is;
  derives = let d = is.derives in record {
    read_from = d.read_from;
    write_order = d.write_order;
    first_is = get_append_left v.true_atoms (a ∷ []) is.i d.read_from d.first_is;
    second_is = get_append_left v.true_atoms (a ∷ []) is.j d.write_order d.second_is;
    gives = d.gives;
  };
  first = λ m n w. elim (tells.classify m n c.edge w) [
    | inl old ↦ is.first m n old
    | inr new ↦
        let p = slice_get_within v.true_atoms is.i c.read_from is.first_is in
        let q = slice_get_within v.true_atoms is.j c.write_order is.second_is in
        let l = tells.latest new.place (slice_get_within v.true_atoms new.place new.other new.stands) in
        let top : max m n ≡ length v.true_atoms = rw (new.reader, new.orderer) l.0 in
        inl (omega arith)
  ];
}

-- a new edge has its first pair
new_first : (v : FromReadView) (a : ℕ) (f : ℕ → List DerivedEdge) (new : List DerivedEdge) (g h : ℕ → ℕ) → Tells v a f new g h → IsDerived v → (c : DerivedEdge) → IsNew f v.true_atoms v.derived c → IsFirst (with_atom v a new) c
new_first v a f new g h tells is c n =
    let m = tells.made n.place n.other c n.stands n.gives in
    let l = tells.latest n.place (slice_get_within v.true_atoms n.place n.other n.stands) in
    record {
      i = g n.place;
      j = h n.place;
      first_is = m.0;
      second_is = m.1;
      derives = m.2;
      first = λ x y w. elim (tells.classify x y c.edge w) [
        | inl old ↦ absurd (n.fresh (is.all x y c.edge old))
        | inr p ↦
            let k = tells.latest p.place (slice_get_within v.true_atoms p.place p.other p.stands) in
            let top : max x y ≡ length v.true_atoms = rw (p.reader, p.orderer) k.0 in
            let low : min x y ≡ p.place = rw (p.reader, p.orderer) k.1 in
            elim (cases_lt p.place n.place) [
              | inl before ↦ absurd (n.first p.place p.other p.item before p.stands p.gives p.is)
              | inr not_before ↦ inr (l.0 ∙ sym top, omega (arith, l.1))
            ]
      ];
    }

-- with one true atom more exactly the pairs' edges are derived
pub stepped : (v : FromReadView) (a : ℕ) (f : ℕ → List DerivedEdge) (new : List DerivedEdge) (g h : ℕ → ℕ) → Tells v a f new g h → IsDerived v → ¬ Contains v.true_atoms a → a < length v.kinds → ArePutFor f v.true_atoms v.derived new → IsDerived (with_atom v a new)
stepped v a f new g h tells is free within put = record {
  each = λ d m. elim (for_from f v.true_atoms v.derived new d put m) [
    | inl old ↦ old_first v a f new g h tells d (is.each d old)
    | inr n ↦ new_first v a f new g h tells is d n
  ];
  all = λ i j e w. elim (tells.classify i j e w) [
    | inl old ↦ grown_edge v.derived new e (for_grown f v.true_atoms v.derived new put) (is.all i j e old)
    | inr p ↦ subst (λ (z : Edge). HasEdge new z) p.is (for_has f v.true_atoms v.derived new p.place p.other p.item put p.stands p.gives)
  ];
  once = for_once f v.true_atoms v.derived new put is.once;
  apart = λ i j b p q. elim (get_push_cases v.true_atoms a i b p) [
    | inl x ↦ elim (get_push_cases v.true_atoms a j b q) [
      | inl y ↦ is.apart i j b x y
      | inr y ↦ absurd (free (subst (λ (z : ℕ). Contains v.true_atoms z) y.1 (contains_place v.true_atoms i b x)))
    ]
    | inr x ↦ elim (get_push_cases v.true_atoms a j b q) [
      | inl y ↦ absurd (free (subst (λ (z : ℕ). Contains v.true_atoms z) x.1 (contains_place v.true_atoms j b y)))
      | inr y ↦ x.0 ∙ sym y.0
    ]
  ];
  within = λ b m. elim (contains_either v.true_atoms (a ∷ []) b m) [
    | inl x ↦ is.within b x
    | inr x ↦ elim (contains_cases a b [] x) [ inl e ↦ subst (λ (z : ℕ). z < length v.kinds) (sym e) within | inr n ↦ absurd (contains_nothing b n) ]
  ];
}

-- ---- the three kinds

-- a reader is no atom that orders
none_before_read : (nodes : List Node) (k : AtomKind) (w r : ℕ) → derived_edges nodes k (ReadFrom w r) ≡ []
none_before_read nodes (ReadFrom x y) w r = refl
none_before_read nodes (WriteOrder x y) w r = refl
none_before_read nodes Plain w r = refl

none_before_plain : (nodes : List Node) (k : AtomKind) → derived_edges nodes k Plain ≡ []
none_before_plain nodes (ReadFrom x y) = refl
none_before_plain nodes (WriteOrder x y) = refl
none_before_plain nodes Plain = refl

pub tells_read : (v : FromReadView) (a w r : ℕ) (new : List DerivedEdge) → kind_at v.kinds a ≡ ReadFrom w r → Tells v a (λ b. pair_edges v.nodes v.kinds a b) new (λ j. length v.true_atoms) (λ j. j)
tells_read v a w r new is = record {
  latest = λ j h. (omega arith, omega arith);
  classify = λ m n e d. elim (get_push_cases v.true_atoms a n d.write_order d.second_is) [
    | inl y ↦ elim (get_push_cases v.true_atoms a m d.read_from d.first_is) [
      | inl x ↦ inl (record { read_from = d.read_from; write_order = d.write_order; first_is = x; second_is = y; gives = d.gives })
      | inr x ↦
          let gives = subst (λ (z : ℕ). Contains (derived_edges v.nodes (kind_at v.kinds z) (kind_at v.kinds d.write_order)) e) x.1 d.gives in
          inr (record { place = n; other = d.write_order; item = record { edge = e; read_from = a; write_order = d.write_order }; stands = y; gives = contains_map (λ (z : Edge). record { edge = z; read_from = a; write_order = d.write_order }) (derived_edges v.nodes (kind_at v.kinds a) (kind_at v.kinds d.write_order)) e gives; is = refl; reader = x.0; orderer = refl })
    ]
    | inr y ↦
        let at_a = subst (λ (z : ℕ). Contains (derived_edges v.nodes (kind_at v.kinds d.read_from) (kind_at v.kinds z)) e) y.1 d.gives in
        let at_kind = subst (λ (z : AtomKind). Contains (derived_edges v.nodes (kind_at v.kinds d.read_from) z) e) is at_a in
        absurd (contains_nothing e (subst (λ (z : List Edge). Contains z e) (none_before_read v.nodes (kind_at v.kinds d.read_from) w r) at_kind))
  ];
  made = λ j b c g m.
      let p = contains_from_map (λ (z : Edge). record { edge = z; read_from = a; write_order = b }) (derived_edges v.nodes (kind_at v.kinds a) (kind_at v.kinds b)) c m in
      let one = get_push_last v.true_atoms a in
      let two = get_append_left v.true_atoms (a ∷ []) j b g in (
        one ∙ ap (λ (z : DerivedEdge). Some z.read_from) (sym p.2),
        two ∙ ap (λ (z : DerivedEdge). Some z.write_order) (sym p.2),
        record { read_from = a; write_order = b; first_is = one; second_is = two; gives = subst (λ (z : DerivedEdge). Contains (derived_edges v.nodes (kind_at v.kinds a) (kind_at v.kinds b)) z.edge) (sym p.2) p.1 },
      );
}

pub tells_order : (v : FromReadView) (a x y : ℕ) (new : List DerivedEdge) → kind_at v.kinds a ≡ WriteOrder x y → Tells v a (λ b. pair_edges v.nodes v.kinds b a) new (λ j. j) (λ j. length v.true_atoms)
tells_order v a x y new is = record {
  latest = λ j h. (omega arith, omega arith);
  classify = λ m n e d. elim (get_push_cases v.true_atoms a m d.read_from d.first_is) [
    | inl p ↦ elim (get_push_cases v.true_atoms a n d.write_order d.second_is) [
      | inl q ↦ inl (record { read_from = d.read_from; write_order = d.write_order; first_is = p; second_is = q; gives = d.gives })
      | inr q ↦
          let gives = subst (λ (z : ℕ). Contains (derived_edges v.nodes (kind_at v.kinds d.read_from) (kind_at v.kinds z)) e) q.1 d.gives in
          inr (record { place = m; other = d.read_from; item = record { edge = e; read_from = d.read_from; write_order = a }; stands = p; gives = contains_map (λ (z : Edge). record { edge = z; read_from = d.read_from; write_order = a }) (derived_edges v.nodes (kind_at v.kinds d.read_from) (kind_at v.kinds a)) e gives; is = refl; reader = refl; orderer = q.0 })
    ]
    | inr p ↦
        let at_a = subst (λ (z : ℕ). Contains (derived_edges v.nodes (kind_at v.kinds z) (kind_at v.kinds d.write_order)) e) p.1 d.gives in
        let at_kind = subst (λ (z : AtomKind). Contains (derived_edges v.nodes z (kind_at v.kinds d.write_order)) e) is at_a in
        absurd (contains_nothing e at_kind)
  ];
  made = λ j b c g m.
      let p = contains_from_map (λ (z : Edge). record { edge = z; read_from = b; write_order = a }) (derived_edges v.nodes (kind_at v.kinds b) (kind_at v.kinds a)) c m in
      let one = get_append_left v.true_atoms (a ∷ []) j b g in
      let two = get_push_last v.true_atoms a in (
        one ∙ ap (λ (z : DerivedEdge). Some z.read_from) (sym p.2),
        two ∙ ap (λ (z : DerivedEdge). Some z.write_order) (sym p.2),
        record { read_from = b; write_order = a; first_is = one; second_is = two; gives = subst (λ (z : DerivedEdge). Contains (derived_edges v.nodes (kind_at v.kinds b) (kind_at v.kinds a)) z.edge) (sym p.2) p.1 },
      );
}

-- an atom of neither kind derives nothing
pub tells_plain : (v : FromReadView) (a : ℕ) (new : List DerivedEdge) → kind_at v.kinds a ≡ Plain → Tells v a (λ b. []) new (λ j. j) (λ j. length v.true_atoms)
tells_plain v a new is = record {
  latest = λ j h. (omega arith, omega arith);
  classify = λ m n e d. elim (get_push_cases v.true_atoms a m d.read_from d.first_is) [
    | inl p ↦ elim (get_push_cases v.true_atoms a n d.write_order d.second_is) [
      | inl q ↦ inl (record { read_from = d.read_from; write_order = d.write_order; first_is = p; second_is = q; gives = d.gives })
      | inr q ↦
          let at_a = subst (λ (z : ℕ). Contains (derived_edges v.nodes (kind_at v.kinds d.read_from) (kind_at v.kinds z)) e) q.1 d.gives in
          let at_kind = subst (λ (z : AtomKind). Contains (derived_edges v.nodes (kind_at v.kinds d.read_from) z) e) is at_a in
          absurd (contains_nothing e (subst (λ (z : List Edge). Contains z e) (none_before_plain v.nodes (kind_at v.kinds d.read_from)) at_kind))
    ]
    | inr p ↦
        let at_a = subst (λ (z : ℕ). Contains (derived_edges v.nodes (kind_at v.kinds z) (kind_at v.kinds d.write_order)) e) p.1 d.gives in
        let at_kind = subst (λ (z : AtomKind). Contains (derived_edges v.nodes z (kind_at v.kinds d.write_order)) e) is at_a in
        absurd (contains_nothing e at_kind)
  ];
  made = λ j b c g m. absurd (contains_nothing c m);
}

pub nothing_put : (bs : List ℕ) (list : List DerivedEdge) → ArePutFor (λ b. []) bs list list
nothing_put [] list = refl
nothing_put (b ∷ bs) list = (list, refl, nothing_put bs list)
