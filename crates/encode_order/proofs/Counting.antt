-- How many writes come before one.
use Rattle.std.proofs.Common.{◌≡◌, ◌≢◌, ℕ, ◌<◌, ◌⊎◌, inl, inr, Bool, true, false, List, [], ◌∷◌, map, length, refl, ap, sym, ◌∙◌, subst, arith}
use Rattle.std.specs.Prelude.{Some, slice_get, Contains, filter}
use Rattle.std.specs.List.{count_by}
use Rattle.std.proofs.lemmas.Bool.{and_from, and_parts, eq-eqb, eqb-true}
use Rattle.std.proofs.lemmas.List.{length-map}
use Rattle.std.proofs.lemmas.List.Sums.{length-filter}
use Rattle.std.proofs.lemmas.Option.{slice_get_within}
use Rattle.dg_base.specs.declared.Lit.{Lit}
use Rattle.dg_base.proofs.Lists.{contains_head, contains_tail, contains_cases, contains_nothing, contains_place, contains_map, contains_from_map, contains_from_filter, place_of, one_answer, get_append_left, get_append_front}
use Rattle.axiom_model.specs.declared.MemoryModel.{MemoryModel}
use Rattle.cnf_problem.specs.Literals.{value}
use Rattle.cnf_problem.specs.Problems.{IsConsistent}
use Rattle.cnf_problem.specs.declared.problem.AtomKind.{AtomKind}
use Rattle.cnf_problem.specs.declared.problem.AtomKind.TheVariants.{ReadFrom, WriteOrder, Plain}
use Rattle.cnf_problem.specs.declared.problem.Atom.{Atom}
use Rattle.cnf_problem.specs.declared.problem.Problem.{Problem}
use Rattle.cnf_problem.proofs.ChainLaws.{contains_filter}
use Rattle.memory_models.specs.declared.StaticEvent.{StaticEvent}
use Rattle.memory_models.specs.declared.StaticKind.TheVariants as kind
use Rattle.order_vars.specs.Links.{Link, reading, beginning, rivalry, joining, from_of, to_of, ComeInOrder, IsKindOf, IsLink, MayBegin, AreRivals}
use Rattle.order_vars.specs.Atoms.{order_atom, link_atoms, atoms_of}
use Rattle.encode_order.specs.Coherence.{IsBefore, WritesCell, IsOrderOfNodes, InitialsHappen, OrdersEvents}
use Rattle.encode_order.specs.Counts.{is_order_into, puts_before}
use Rattle.encode_order.proofs.Lines.{AreSorted, IsLinear, Sorted, sort, sorted_from, sorted_pairs, sorted_append, same_lists, Split, split_at, which_first}
use Rattle.encode_order.proofs.Before.{Ordering, begun, first, second, ordered_by, atom_link, atoms_there, two_writes}

-- ---- no pair has two atoms of one kind

abbrev NotOnePair : Atom → Atom → Type 0
NotOnePair a b = (w v : ℕ) → a.kind ≡ WriteOrder w v → b.kind ≡ WriteOrder w v → ⊥

-- how a link puts w before v: it leads from w to v, or the other way round
data Way (es : List StaticEvent) (x : Link) (w v : ℕ) : Type 0 where
  straight : from_of x ≡ w → to_of x ≡ v → AreRivals es w v ⊎ MayBegin es w v → Way es x w v
  turned : from_of x ≡ v → to_of x ≡ w → AreRivals es v w → Way es x w v

one_link : (x y : Link) → Contains (x ∷ []) y → y ≡ x
one_link x y h = elim (contains_cases x y [] h) [ inl e ↦ e | inr none ↦ absurd (contains_nothing y none) ]

way_of : (m : MemoryModel) (es : List StaticEvent) (x : Link) (a : Atom) (w v : ℕ) → IsLink es x → Contains (link_atoms m es x) a → a.kind ≡ WriteOrder w v → Way es x w v
way_of m es x a w v is here order = by_link (ordered_by m es (x ∷ []) x a w v (contains_head x []) here order).ordering
  where
    by_link : Ordering (x ∷ []) a.lit w v → Way es x w v
    by_link (begun listed) =
        let e : x ≡ beginning w v a.lit = sym (one_link x (beginning w v a.lit) listed) in
        let may : IsLink es (beginning w v a.lit) = subst (λ (z : Link). IsLink es z) e is in
        straight (ap from_of e) (ap to_of e) (inr may.0)
    by_link (first back listed) =
        let e : x ≡ rivalry w v a.lit back = sym (one_link x (rivalry w v a.lit back) listed) in
        straight (ap from_of e) (ap to_of e) (inl (subst (λ (z : Link). IsLink es z) e is))
    by_link (second front listed) =
        let e : x ≡ rivalry v w front a.lit = sym (one_link x (rivalry v w front a.lit) listed) in
        turned (ap from_of e) (ap to_of e) (subst (λ (z : Link). IsLink es z) e is)

not_in_order : (x y : Link) → from_of x ≡ from_of y → to_of x ≡ to_of y → ComeInOrder x y → ⊥
not_in_order x y from to come = elim come [ inl h ↦ omega arith | inr h ↦ let below : from_of x < from_of y = h.1 in omega arith ]

-- rivals are tied one way
not_turned : (es : List StaticEvent) (w v : ℕ) → AreRivals es w v ⊎ MayBegin es w v → AreRivals es v w → ⊥
not_turned es w v (inl rivals) back = let up : w < v = rivals.3 in let down : v < w = back.3 in omega arith
not_turned es w v (inr begins) back =
    let initial : IsKindOf es kind.Initial begins.0 w = begins.1 in
    let write : IsKindOf es kind.Write back.0 w = back.2 in
    let same : initial.event ≡ write.event = one_answer _ initial.event write.event initial.there write.there in
    let kinds : kind.Initial ≡ kind.Write = sym initial.same_kind ∙ ap (λ (z : StaticEvent). z.kind) same ∙ write.same_kind in
    cc

ways_apart : (es : List StaticEvent) (x y : Link) (w v : ℕ) → ComeInOrder x y → Way es x w v → Way es y w v → ⊥
ways_apart es x y w v come (straight from to is) (straight from2 to2 is2) = not_in_order x y (from ∙ sym from2) (to ∙ sym to2) come
ways_apart es x y w v come (straight from to is) (turned from2 to2 is2) = not_turned es w v is is2
ways_apart es x y w v come (turned from to is) (straight from2 to2 is2) = not_turned es w v is2 is
ways_apart es x y w v come (turned from to is) (turned from2 to2 is2) = not_in_order x y (from ∙ sym from2) (to ∙ sym to2) come

-- the two atoms of rivals order them both ways
rivals_apart : (es : List StaticEvent) (w v : ℕ) (l back : Lit) → w < v → NotOnePair (order_atom es l w v) (order_atom es back v w)
rivals_apart es w v l back below = λ u t a b.
    let one : WriteOrder w v ≡ WriteOrder v w = a ∙ sym b in
    let same : w ≡ v = cc in
    omega arith

link_apart : (m : MemoryModel) (es : List StaticEvent) (x : Link) → IsLink es x → AreSorted NotOnePair (link_atoms m es x)
link_apart m es (reading w r l) is = ((λ y h. absurd (contains_nothing y h)), tt)
link_apart m es (beginning i w l) is = ((λ y h. absurd (contains_nothing y h)), tt)
link_apart m es (rivalry w v l back) is = (
  (λ y h. elim (contains_cases (order_atom es back v w) y [] h) [
    | inl e ↦ subst (λ (z : Atom). NotOnePair (order_atom es l w v) z) (sym e) (rivals_apart es w v l back is.3)
    | inr none ↦ absurd (contains_nothing y none)
  ]),
  ((λ y h. absurd (contains_nothing y h)), tt),
)
link_apart m es (joining e j l) is = ((λ y h. absurd (contains_nothing y h)), tt)

links_apart : (m : MemoryModel) (es : List StaticEvent) (links : List Link) → ((x : Link) → Contains links x → IsLink es x) → AreSorted ComeInOrder links → AreSorted NotOnePair (atoms_of m es links)
links_apart m es [] sound come = tt
links_apart m es (x ∷ links) sound come =
    sorted_append NotOnePair (link_atoms m es x) (atoms_of m es links) (link_apart m es x (sound x (contains_head x links)))
    (links_apart m es links (λ y h. sound y (contains_tail x y links h)) come.1)
    (λ a b here there w v first_order second_order.
    let r = atom_link m es links b there in
    ways_apart es x r.0 w v (come.0 r.0 r.1) (way_of m es x a w v (sound x (contains_head x links)) here first_order)
    (way_of m es r.0 b w v (sound r.0 (contains_tail x r.0 links r.1)) r.2 second_order))

plain_apart : (atoms : List Atom) → ((a : Atom) → Contains atoms a → a.kind ≡ Plain) → AreSorted NotOnePair atoms
plain_apart [] plain = tt
plain_apart (a ∷ atoms) plain = (
  (λ b h w v first_order second_order. let kinds : Plain ≡ WriteOrder w v = sym (plain a (contains_head a atoms)) ∙ first_order in cc),
  plain_apart atoms (λ b h. plain b (contains_tail a b atoms h)),
)

atoms_apart : (m : MemoryModel) (es : List StaticEvent) (words : List (List Lit)) (p : Problem) → OrdersEvents m es words p → AreSorted NotOnePair p.atoms
atoms_apart m es words p has =
    subst (λ (xs : List Atom). AreSorted NotOnePair xs) (sym (atoms_there m es words p has))
    (sorted_append NotOnePair (atoms_of m es has.orders.links) has.others
    (links_apart m es has.orders.links (λ x h. (has.orders.sound x h).0) (sorted_pairs ComeInOrder has.orders.links has.orders.once))
    (plain_apart has.others has.others_plain)
    (λ a b here there w v first_order second_order. let kinds : Plain ≡ WriteOrder w v = sym (has.others_plain b there) ∙ second_order in cc))

-- ---- the writes that true atoms put before v

abbrev first_of : AtomKind → ℕ
first_of (WriteOrder w v) = w
first_of _ = 0

abbrev firsts : List Bool → ℕ → List Atom → List ℕ
firsts s v atoms = map (λ (a : Atom). first_of a.kind) (filter (puts_before s v) atoms)

order_kind : (v : ℕ) (k : AtomKind) → is_order_into v k ≡ true → k ≡ WriteOrder (first_of k) v
order_kind v (WriteOrder w u) h = ap (λ (n : ℕ). WriteOrder w n) (eqb-true u v h)
order_kind v (ReadFrom w r) h = absurd (let none : false ≡ true = h in cc)
order_kind v Plain h = absurd (let none : false ≡ true = h in cc)

kind_order : (w v : ℕ) (k : AtomKind) → k ≡ WriteOrder w v → (is_order_into v k ≡ true) × (first_of k ≡ w)
kind_order w v k e = (ap (is_order_into v) e ∙ eq-eqb v v refl, ap first_of e)

pub first_before : (s : List Bool) (v : ℕ) (atoms : List Atom) (w : ℕ) → Contains (firsts s v atoms) w → IsBefore atoms s w v
first_before s v atoms w h =
    let r = contains_from_map (λ (a : Atom). first_of a.kind) (filter (puts_before s v) atoms) w h in
    let q = contains_from_filter (puts_before s v) atoms r.0 r.1 in
    let parts = and_parts (is_order_into v r.0.kind) (value s r.0.lit) q.1 in
    record { atom = r.0; listed = q.0; same_kind = order_kind v r.0.kind parts.0 ∙ ap (λ (n : ℕ). WriteOrder n v) (sym r.2); holds = parts.1 }

pub before_first : (s : List Bool) (v : ℕ) (atoms : List Atom) (w : ℕ) → IsBefore atoms s w v → Contains (firsts s v atoms) w
before_first s v atoms w h =
    let k = kind_order w v h.atom.kind h.same_kind in
    let passes : puts_before s v h.atom ≡ true = and_from (is_order_into v h.atom.kind) (value s h.atom.lit) k.0 h.holds in
    subst (λ (n : ℕ). Contains (firsts s v atoms) n) k.1
    (contains_map (λ (a : Atom). first_of a.kind) (filter (puts_before s v) atoms) h.atom (contains_filter (puts_before s v) atoms h.atom h.listed passes))

firsts_apart : (s : List Bool) (v : ℕ) (atoms : List Atom) → AreSorted NotOnePair atoms → AreSorted (λ (x y : ℕ). x ≢ y) (firsts s v atoms)
firsts_apart s v [] apart = tt
firsts_apart s v (a ∷ atoms) apart = by_test (puts_before s v a) refl (firsts_apart s v atoms apart.1)
  where
    by_test : (b : Bool) → puts_before s v a ≡ b → AreSorted (λ (x y : ℕ). x ≢ y) (firsts s v atoms) → AreSorted (λ (x y : ℕ). x ≢ y) (firsts s v (a ∷ atoms))
    by_test false q rest = rw q rest
    by_test true q rest = rw q (
      (λ y h same.
          let r = contains_from_map (λ (b : Atom). first_of b.kind) (filter (puts_before s v) atoms) y h in
          let later = contains_from_filter (puts_before s v) atoms r.0 r.1 in
          let here = order_kind v a.kind (and_parts (is_order_into v a.kind) (value s a.lit) q).0 in
          let there = order_kind v r.0.kind (and_parts (is_order_into v r.0.kind) (value s r.0.lit) later.1).0 in
          apart.0 r.0 later.0 (first_of a.kind) v here (there ∙ ap (λ (n : ℕ). WriteOrder n v) (sym r.2 ∙ sym same))),
      rest,
    )

firsts_long : (s : List Bool) (v : ℕ) (atoms : List Atom) → length (firsts s v atoms) ≡ count_by (puts_before s v) atoms
firsts_long s v atoms = length-map (filter (puts_before s v) atoms) (λ (a : Atom). first_of a.kind) ∙ length-filter (puts_before s v) atoms

-- ---- a place is a count

module _ (es : List StaticEvent) (atoms : List Atom) (s : List Bool) (c : ℕ) (nodes : List ℕ) (order : IsOrderOfNodes es atoms s c nodes) where
  nodes_one_way : (x y : ℕ) → Contains nodes x → Contains nodes y → IsBefore atoms s x y → IsBefore atoms s y x → ⊥
  nodes_one_way x y x_in y_in there back =
      let i = place_of nodes x x_in in
      let j = place_of nodes y y_in in
      let up : i.0 < j.0 = (order.ordered i.0 j.0 x y i.1 j.1).1 there in
      let down : j.0 < i.0 = (order.ordered j.0 i.0 y x j.1 i.1).1 back in
      omega arith

  nodes_linear : IsLinear (λ n. Contains nodes n) (IsBefore atoms s)
  nodes_linear = record {
    either = λ x y x_in y_in apart.
        let i = place_of nodes x x_in in
        let j = place_of nodes y y_in in
        elim (which_first i.0 j.0) [
          | inl below ↦ inl ((order.ordered i.0 j.0 x y i.1 j.1).0 below)
          | inr rest ↦ elim rest [
            | inl same ↦ absurd (apart (one_answer _ x y i.1 (ap (λ (k : ℕ). slice_get nodes k) same ∙ j.1)))
            | inr above ↦ inr ((order.ordered j.0 i.0 y x j.1 i.1).0 above)
          ]
        ];
    onward = λ x y z x_in y_in z_in before behind.
        let i = place_of nodes x x_in in
        let j = place_of nodes y y_in in
        let k = place_of nodes z z_in in
        let up : i.0 < j.0 = (order.ordered i.0 j.0 x y i.1 j.1).1 before in
        let on : j.0 < k.0 = (order.ordered j.0 k.0 y z j.1 k.1).1 behind in
        (order.ordered i.0 k.0 x z i.1 k.1).0 (omega arith);
  }

-- the nodes before place i are those that true atoms put before the node there
front_counted : (es : List StaticEvent) (atoms : List Atom) (s : List Bool) (c i v : ℕ) (nodes : List ℕ) → IsOrderOfNodes es atoms s c nodes → AreSorted NotOnePair atoms
    → ((w : ℕ) → IsBefore atoms s w v → Contains nodes w) → slice_get nodes i ≡ Some v → count_by (puts_before s v) atoms ≡ i
front_counted es atoms s c i v nodes order apart inside at =
    sym (firsts_long s v atoms) ∙ sym sorted.long ∙ ap (λ (xs : List ℕ). length xs) same ∙ split.long
  where
    split : Split nodes i v
    split = split_at nodes i v at

    sorted : Sorted (IsBefore atoms s) (firsts s v atoms)
    sorted = sort (λ n. Contains nodes n) (IsBefore atoms s) (nodes_linear es atoms s c nodes order) (firsts s v atoms) (λ w h. inside w (first_before s v atoms w h)) (firsts_apart s v atoms apart)

    -- a node of the front stands in the whole list, before place i
    front_at : (k x : ℕ) → slice_get split.front k ≡ Some x → (slice_get nodes k ≡ Some x) × (k < i)
    front_at k x h =
        let within : k < length split.front = slice_get_within split.front k x h in
        let long = split.long in
        (ap (λ (xs : List ℕ). slice_get xs k) split.same ∙ get_append_left split.front (v ∷ split.back) k x h, omega arith)

    at_front : (k x : ℕ) → slice_get nodes k ≡ Some x → k < i → slice_get split.front k ≡ Some x
    at_front k x h below =
        let long = split.long in
        sym (get_append_front split.front (v ∷ split.back) k (omega arith)) ∙ ap (λ (xs : List ℕ). slice_get xs k) (sym split.same) ∙ h

    in_front : (x : ℕ) → Contains split.front x → Contains nodes x
    in_front x h = let k = place_of split.front x h in contains_place nodes k.0 x (front_at k.0 x k.1).0

    before_v : (x : ℕ) → Contains split.front x → IsBefore atoms s x v
    before_v x h = let k = place_of split.front x h in let r = front_at k.0 x k.1 in (order.ordered k.0 i x v r.0 at).0 r.1

    into_front : (x : ℕ) → IsBefore atoms s x v → Contains split.front x
    into_front x h =
        let k = place_of nodes x (inside x h) in
        contains_place split.front k.0 x (at_front k.0 x k.1 ((order.ordered k.0 i x v k.1 at).1 h))

    same : sorted.all ≡ split.front
    same = sym (same_lists (IsBefore atoms s) split.front sorted.all
        (λ x y x_in y_in. nodes_one_way es atoms s c nodes order x y (in_front x x_in) (in_front y y_in))
        (sorted_from (IsBefore atoms s) split.front (λ j k x y below x_at y_at. (order.ordered j k x y (front_at j x x_at).0 (front_at k y y_at).0).0 below))
        sorted.sorted
        (λ x h. sorted.kept x (before_first s v atoms x (before_v x h)))
        (λ x h. into_front x (first_before s v atoms x (sorted.sound x h))))

pub place_counted : (m : MemoryModel) (es : List StaticEvent) (words : List (List Lit)) (p : Problem) (s : List Bool) → OrdersEvents m es words p → IsConsistent p s → InitialsHappen es s
    → (c i v : ℕ) (nodes : List ℕ) → IsOrderOfNodes es p.atoms s c nodes → slice_get nodes i ≡ Some v → count_by (puts_before s v) p.atoms ≡ i
place_counted m es words p s has consistent happen c i v nodes order at =
    front_counted es p.atoms s c i v nodes order (atoms_apart m es words p has) inside at
  where
    inside : (w : ℕ) → IsBefore p.atoms s w v → Contains nodes w
    inside w h =
        let two = two_writes m es words p s has consistent happen w v h in
        let is = order.sound v (contains_place nodes i v at) in
        let same : two.second.event ≡ is.event = one_answer _ two.second.event is.event two.second.there is.there in
        let cells : two.cell ≡ c = sym two.second.same_cell ∙ ap (λ (x : StaticEvent). x.cell) same ∙ is.same_cell in
        order.complete w (subst (λ (z : ℕ). WritesCell es s z w) cells two.first)
