-- The parts of the derivation together, under one true atom more and one less.
use Rattle.std.proofs.Common.{◌≡◌, ℕ, zero, suc, ◌<◌, ◌≤◌, inl, inr, List, [], ◌∷◌, ◌++◌, map, length, take, ap, sym, ◌∙◌, subst, arith}
use Rattle.std.specs.Prelude.{Some, Contains, slice_get, filter}
use Rattle.std.proofs.lemmas.List.{length_push, length-append, length-map, length-take, take_all, take-take, take-append-le}
use Rattle.std.proofs.lemmas.Option.{slice_get_within}
use Rattle.dg_base.proofs.Lists.{get_nothing, contains_nothing, contains_cases, contains_place, get_push_cases, get_from_map, contains_from_map}
use Rattle.cycle_detect.proofs.Counting.{contains_either}
use Rattle.cnf_problem.specs.declared.problem.Node.{Node}
use Rattle.cnf_problem.specs.declared.problem.Edge.{Edge}
use Rattle.cnf_problem.specs.declared.problem.AtomKind.{AtomKind}
use Rattle.from_read.specs.declared.edge_set.DerivedEdge.{DerivedEdge}
use Rattle.from_read.specs.Derivations.{FromReadView, kind_at, IsDerived}
use Rattle.from_read.specs.Parts.{EdgeSetView, HasEdge, IsPut, AreParts, IsFine, IsDerivable, IsEnough, is_read, is_order}
use Rattle.from_read.proofs.Puts.{Grown, put_once}
use Rattle.from_read.proofs.Steps.{with_atom}

-- ---- the list of edges

-- there is room for an edge that is not there
pub fine_room : (nodes : List Node) (kinds : List AtomKind) (s : EdgeSetView) (e : Edge) → IsFine nodes kinds s → IsDerivable nodes kinds e → ¬ HasEdge s.list e → length s.list < s.limit
fine_room nodes kinds s e fine able fails =
    let es = map (λ (d : DerivedEdge). d.edge) s.list in
    let few = fine.enough (es ++ e ∷ [])
    (λ i j f p q. elim (get_push_cases es e i f p) [
      | inl x ↦ elim (get_push_cases es e j f q) [
        | inl y ↦
            let a = get_from_map (λ (d : DerivedEdge). d.edge) s.list i f x in
            let b = get_from_map (λ (d : DerivedEdge). d.edge) s.list j f y in
            fine.once i j a.0 b.0 a.1 b.1 (a.2 ∙ sym b.2)
        | inr y ↦ let a = get_from_map (λ (d : DerivedEdge). d.edge) s.list i f x in absurd (fails (a.0, contains_place s.list i a.0 a.1, a.2 ∙ y.1))
      ]
      | inr x ↦ elim (get_push_cases es e j f q) [
        | inl y ↦ let b = get_from_map (λ (d : DerivedEdge). d.edge) s.list j f y in absurd (fails (b.0, contains_place s.list j b.0 b.1, b.2 ∙ x.1))
        | inr y ↦ x.0 ∙ sym y.0
      ]
    ])
    (λ f m. elim (contains_either es (e ∷ []) f m) [
      | inl x ↦ let d = contains_from_map (λ (d : DerivedEdge). d.edge) s.list f x in subst (λ (z : Edge). IsDerivable nodes kinds z) (sym d.2) (fine.able d.0 d.1)
      | inr x ↦ elim (contains_cases e f [] x) [ inl same ↦ subst (λ (z : Edge). IsDerivable nodes kinds z) (sym same) able | inr n ↦ absurd (contains_nothing f n) ]
    ]) in
    omega (arith, few, length_push es e, length-map s.list (λ (d : DerivedEdge). d.edge))

-- an edge more
pub fine_put : (nodes : List Node) (kinds : List AtomKind) (before after : EdgeSetView) (d : DerivedEdge) → IsFine nodes kinds before → IsDerivable nodes kinds d.edge → IsPut before.list d after.list → after.nodes ≡ before.nodes → after.limit ≡ before.limit → IsFine nodes kinds after
fine_put nodes kinds before after d fine able put n l = record {
  sizes = n ∙ fine.sizes;
  blocks = fine.blocks;
  kinds_over = fine.kinds_over;
  once = put_once before.list after.list d put fine.once;
  able = λ c m. elim put [
    | inl h ↦ fine.able c (subst (λ (z : List DerivedEdge). Contains z c) h.1 m)
    | inr h ↦ elim (contains_either before.list (d ∷ []) c (subst (λ (z : List DerivedEdge). Contains z c) h.1 m)) [
      | inl x ↦ fine.able c x
      | inr x ↦ elim (contains_cases d c [] x) [ inl same ↦ subst (λ (z : DerivedEdge). IsDerivable nodes kinds z.edge) (sym same) able | inr e ↦ absurd (contains_nothing c e) ]
    ]
  ];
  enough = subst (λ (z : ℕ). IsEnough nodes kinds z) (sym l) fine.enough;
}

-- ---- the true atoms

-- what is at a place of the first items is at that place
pub take_get : {X : Type 0} (n : ℕ) (xs : List X) (k : ℕ) (x : X) → slice_get (take n xs) k ≡ Some x → (k < n) × (slice_get xs k ≡ Some x)
take_get zero xs k x e = absurd (get_nothing k x e)
take_get (suc n) [] k x e = absurd (get_nothing k x e)
take_get (suc n) (y ∷ ys) zero x e = (omega arith, e)
take_get (suc n) (y ∷ ys) (suc k) x e = let r = take_get n ys k x e in (omega (arith, r.0), r.1)

-- the same with other true atoms and edges
abbrev pub at_mark : FromReadView → List ℕ → List DerivedEdge → FromReadView
at_mark v atoms edges = record { nodes = v.nodes; kinds = v.kinds; true_atoms = atoms; derived = edges }

-- one atom more
pub parts_push : (v : FromReadView) (marks reads orders : List ℕ) (a : ℕ) (new : List DerivedEdge) (reads_now orders_now : List ℕ) → AreParts v marks reads orders → IsDerived (with_atom v a new) → Grown v.derived new → reads_now ≡ filter (λ b. is_read (kind_at v.kinds b)) (v.true_atoms ++ a ∷ []) → orders_now ≡ filter (λ b. is_order (kind_at v.kinds b)) (v.true_atoms ++ a ∷ []) → AreParts (with_atom v a new) (marks ++ length v.derived ∷ []) reads_now orders_now
parts_push v marks reads orders a new reads_now orders_now are whole grown r_is o_is =
    let atoms = v.true_atoms in
    let long = ap (λ (l : List DerivedEdge). length l) grown.1 in
    let more = length-append v.derived grown.0 in
    let marks_more = length_push marks (length v.derived) in
    let goal : ℕ → ℕ → Type 0 = λ t m. (m ≤ length new) × IsDerived (at_mark v (take t (atoms ++ a ∷ [])) (take m new)) in
    let begins : (m : ℕ) → m ≤ length v.derived → take m new ≡ take m v.derived = λ m h. ap (λ (l : List DerivedEdge). take m l) grown.1 ∙ take-append-le m v.derived grown.0 h in
    let same : (t m : ℕ) → t ≤ length atoms → m ≤ length v.derived → IsDerived (at_mark v (take t atoms) (take m v.derived)) → goal t m = λ t m h k d.
    let one = subst (λ (l : List ℕ). IsDerived (at_mark v l (take m v.derived))) (sym (take-append-le t atoms (a ∷ []) h)) d in
    (omega arith, subst (λ (l : List DerivedEdge). IsDerived (at_mark v (take t (atoms ++ a ∷ [])) l)) (sym (begins m k)) one) in
    record {
      whole = whole;
      marks_long = omega (arith, marks_more, length_push atoms a, are.marks_long);
      before = λ t m e. elim (get_push_cases marks (length v.derived) t m e) [
        | inl o ↦
            let b = are.before t m o in
            let h = slice_get_within marks t m o in
            same t m (omega (arith, are.marks_long)) b.0 b.1
        | inr n ↦
            let all_atoms = take_all (length atoms) atoms (omega arith) in
            let all_edges = take_all (length v.derived) v.derived (omega arith) in
            let one = subst (λ (l : List ℕ). IsDerived (at_mark v l v.derived)) (sym all_atoms) are.whole in
            let both = subst (λ (l : List DerivedEdge). IsDerived (at_mark v (take (length atoms) atoms) l)) (sym all_edges) one in
            let here = same (length atoms) (length v.derived) (omega arith) (omega arith) both in
            let place : length atoms ≡ t = omega (arith, n.0, are.marks_long) in
            subst (λ (k : ℕ). goal t k) (sym n.1) (subst (λ (k : ℕ). goal k (length v.derived)) place here)
      ];
      rising = λ s t m n l e f. elim (get_push_cases marks (length v.derived) s m e) [
        | inl o ↦ elim (get_push_cases marks (length v.derived) t n f) [
          | inl p ↦ are.rising s t m n l o p
          | inr q ↦ let b = (are.before s m o).0 in omega (arith, q.1)
        ]
        | inr r ↦ elim (get_push_cases marks (length v.derived) t n f) [
          | inl p ↦ absurd (omega (arith, r.0, slice_get_within marks t n p))
          | inr q ↦ absurd (omega (arith, r.0, q.0))
        ]
      ];
      reads_are = r_is;
      orders_are = o_is;
    }

-- one atom less
pub parts_pop : (v : FromReadView) (marks reads orders : List ℕ) (n m : ℕ) (reads_now orders_now : List ℕ) → AreParts v marks reads orders → n ≤ length v.true_atoms → slice_get marks n ≡ Some m → reads_now ≡ filter (λ b. is_read (kind_at v.kinds b)) (take n v.true_atoms) → orders_now ≡ filter (λ b. is_order (kind_at v.kinds b)) (take n v.true_atoms) → AreParts (at_mark v (take n v.true_atoms) (take m v.derived)) (take n marks) reads_now orders_now
parts_pop v marks reads orders n m reads_now orders_now are h here r_is o_is = record {
  whole = (are.before n m here).1;
  marks_long = omega (arith, length-take n marks, length-take n v.true_atoms, are.marks_long);
  before = λ t k e.
      let g = take_get n marks t k e in
      let b = are.before t k g.1 in
      let l = are.rising t n k m g.0 g.1 here in
      let one = subst (λ (z : List ℕ). IsDerived (at_mark v z (take k v.derived))) (sym (take-take t n v.true_atoms (omega (arith, g.0)))) b.1 in
      let both = subst (λ (z : List DerivedEdge). IsDerived (at_mark v (take t (take n v.true_atoms)) z)) (sym (take-take k m v.derived l)) one in
      (omega (arith, length-take m v.derived, b.0, l), both);
  rising = λ s t i j l e f. are.rising s t i j l (take_get n marks s i e).1 (take_get n marks t j f).1;
  reads_are = r_is;
  orders_are = o_is;
}
