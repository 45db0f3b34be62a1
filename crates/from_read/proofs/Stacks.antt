-- The stacks of true atoms: what they hold, and that they have room.
use Rattle.std.proofs.Common.{◌≡◌, ℕ, ◌+◌, ◌-◌, ◌*◌, ◌<◌, ◌≤◌, inl, inr, Bool, true, false, List, [], ◌∷◌, ◌++◌, map, length, take, refl, ap, sym, ◌∙◌, subst, arith, get_or}
use Rattle.std.specs.Prelude.{Some, Contains, slice_get, filter, All, if◌then◌else◌}
use Rattle.std.proofs.lemmas.Bool.{cases_lt}
use Rattle.std.proofs.lemmas.List.{length_push, length-append, length-map, length-take, take_all, take_more, take-take, take-append-le, append-nil, get_or_default}
use Rattle.std.proofs.lemmas.List.Elements.{filter-append}
use Rattle.std.proofs.lemmas.List.Sums.{length-filter, count_by-le-length}
use Rattle.std.proofs.lemmas.Option.{slice_get-get_or, slice_get_read, get_or_from_slice_get}
use Rattle.dg_base.proofs.Lists.{get_nothing, contains_nothing, contains_cases, contains_place, place_of, get_from_map, contains_from_map, contains_from_filter}
use Rattle.cycle_detect.proofs.Counting.{distinct_once}
use Rattle.cnf_problem.specs.declared.problem.Node.{Node}
use Rattle.cnf_problem.specs.declared.problem.Edge.{Edge}
use Rattle.cnf_problem.specs.declared.problem.Atom.{Atom}
use Rattle.cnf_problem.specs.declared.problem.AtomKind.{AtomKind}
use Rattle.cnf_problem.specs.declared.problem.AtomKind.TheVariants.{ReadFrom, WriteOrder, Plain}
use Rattle.cnf_problem.specs.Edges.{derived_edges}
use Rattle.cnf_problem.specs.Bounds.{IsAtomOver, IsNodeOf, nodes_of}
use Rattle.from_read.specs.declared.edge_set.DerivedEdge.{DerivedEdge}
use Rattle.from_read.specs.Derivations.{FromReadView, kind_at, IsDerived}
use Rattle.from_read.specs.Parts.{EdgeSetView, ArePutFor, AreParts, IsFine, IsEnough, pair_edges, is_read, is_order}
use Rattle.from_read.proofs.Enough.{no_longer, numbers, has_number, length_numbers}
use Rattle.from_read.proofs.Kept.{at_mark, parts_push, parts_pop, take_get}
use Rattle.from_read.proofs.Deriving.{able_of, pair_none_first, pair_none_second}
use Rattle.from_read.proofs.Puts.{Grown, for_all, for_grown}
use Rattle.from_read.proofs.Steps.{with_atom, stepped, tells_read, tells_order, tells_plain, nothing_put}

-- what contracts see of these parts
abbrev pub seen_as : List Node → List AtomKind → List ℕ → List DerivedEdge → FromReadView
seen_as nodes kinds atoms derived = record { nodes = nodes; kinds = kinds; true_atoms = atoms; derived = derived }

-- ---- one item more, one less

pub filter_push : {X : Type 0} (p : X → Bool) (xs : List X) (x : X) → p x ≡ true → filter p xs ++ x ∷ [] ≡ filter p (xs ++ x ∷ [])
filter_push {X} p xs x on =
    let one : filter p (x ∷ []) ≡ x ∷ [] = rw on refl in
    ap (λ (l : List X). filter p xs ++ l) (sym one) ∙ sym (filter-append p xs (x ∷ []))

pub filter_skip : {X : Type 0} (p : X → Bool) (xs : List X) (x : X) → p x ≡ false → filter p xs ≡ filter p (xs ++ x ∷ [])
filter_skip {X} p xs x off =
    let none : filter p (x ∷ []) ≡ [] = rw off refl in
    sym (append-nil (filter p xs)) ∙ ap (λ (l : List X). filter p xs ++ l) (sym none) ∙ sym (filter-append p xs (x ∷ []))

-- the last item apart
pub last_apart : {X : Type 0} (xs : List X) (n : ℕ) (x : X) → slice_get xs n ≡ Some x → n + 1 ≡ length xs → xs ≡ take n xs ++ x ∷ []
last_apart {X} xs n x here long =
    let whole : take (n + 1) xs ≡ xs = take_all (n + 1) xs (omega (arith, long)) in
    let at : get_or xs n x ≡ x = get_or_from_slice_get xs n x x here in
    sym whole ∙ take_more xs n x (omega (arith, long)) ∙ ap (λ (y : X). take n xs ++ y ∷ []) at

pub filter_pop : {X : Type 0} (p : X → Bool) (xs : List X) (n : ℕ) (x : X) → slice_get xs n ≡ Some x → n + 1 ≡ length xs → p x ≡ true → (0 < length (filter p xs)) × (take (length (filter p xs) - 1) (filter p xs) ≡ filter p (take n xs))
filter_pop {X} p xs n x here long on =
    let apart = ap (λ (l : List X). filter p l) (last_apart xs n x here long) ∙ sym (filter_push p (take n xs) x on) in
    let more = ap (λ (l : List X). length l) apart in
    let push = length_push (filter p (take n xs)) x in
    let count : length (filter p xs) - 1 ≡ length (filter p (take n xs)) = omega (arith, more, push) in (
      omega (arith, more, push),
      ap (λ (k : ℕ). take k (filter p xs)) count ∙ ap (λ (l : List X). take (length (filter p (take n xs))) l) apart ∙ take-append-le (length (filter p (take n xs))) (filter p (take n xs)) (x ∷ []) (omega arith) ∙ take_all (length (filter p (take n xs))) (filter p (take n xs)) (omega arith),
    )

pub filter_stay : {X : Type 0} (p : X → Bool) (xs : List X) (n : ℕ) (x : X) → slice_get xs n ≡ Some x → n + 1 ≡ length xs → p x ≡ false → filter p xs ≡ filter p (take n xs)
filter_stay {X} p xs n x here long off = ap (λ (l : List X). filter p l) (last_apart xs n x here long) ∙ sym (filter_skip p (take n xs) x off)

pub filter_short : {X : Type 0} (p : X → Bool) (xs : List X) → length (filter p xs) ≤ length xs
filter_short p xs = omega (arith, length-filter p xs, count_by-le-length p xs)

-- ---- room

-- there are no more true atoms than atoms
pub few_atoms : (v : FromReadView) → IsDerived v → length v.true_atoms ≤ length v.kinds
few_atoms v is =
    let few = no_longer v.true_atoms (numbers (length v.kinds)) (distinct_once v.true_atoms is.apart) (λ b m. has_number (length v.kinds) b (is.within b m)) in
    omega (arith, few, length_numbers (length v.kinds))

-- and fewer where one is not true
pub room_atoms : (v : FromReadView) (a : ℕ) → IsDerived v → a < length v.kinds → ¬ Contains v.true_atoms a → length v.true_atoms < length v.kinds
room_atoms v a is within free =
    let few = no_longer (a ∷ v.true_atoms) (numbers (length v.kinds)) (free, distinct_once v.true_atoms is.apart) (λ b m. has_number (length v.kinds) b (elim (contains_cases a b v.true_atoms m) [
      | inl same ↦ subst (λ (z : ℕ). z < length v.kinds) (sym same) within
      | inr old ↦ is.within b old
    ])) in
    omega (arith, few, length_numbers (length v.kinds))

-- a derived list fits the room that is enough
pub few_derived : (v : FromReadView) (nodes : List Node) (kinds : List AtomKind) (limit : ℕ) → v.nodes ≡ nodes → v.kinds ≡ kinds → IsEnough nodes kinds limit → IsDerived v → length v.derived ≤ limit
few_derived v nodes kinds limit n k enough_here is =
    let one : IsEnough v.nodes kinds limit = subst (λ (l : List Node). IsEnough l kinds limit) (sym n) enough_here in
    let enough : IsEnough v.nodes v.kinds limit = subst (λ (l : List AtomKind). IsEnough v.nodes l limit) (sym k) one in
    let edge_of : DerivedEdge → Edge = λ d. d.edge in
    let few = enough (map edge_of v.derived)
    (λ i j e p q.
    let a = get_from_map edge_of v.derived i e p in
    let b = get_from_map edge_of v.derived j e q in
    is.once i j a.0 b.0 a.1 b.1 (a.2 ∙ sym b.2))
    (λ e m.
    let d = contains_from_map edge_of v.derived e m in
    let w = (is.each d.0 d.1).derives in
    let one = is.within w.read_from (contains_place v.true_atoms (is.each d.0 d.1).i w.read_from w.first_is) in
    let two = is.within w.write_order (contains_place v.true_atoms (is.each d.0 d.1).j w.write_order w.second_is) in
    able_of v.nodes v.kinds w.read_from w.write_order e one two (subst (λ (z : Edge). Contains (derived_edges v.nodes (kind_at v.kinds w.read_from) (kind_at v.kinds w.write_order)) z) (sym d.2) w.gives)) in
    omega (arith, few, length-map v.derived edge_of)

-- ---- one true atom more

abbrev readers : FromReadView → ℕ → Bool
readers v = λ b. is_read (kind_at v.kinds b)

abbrev orderers : FromReadView → ℕ → Bool
orderers v = λ b. is_order (kind_at v.kinds b)

pub push_read : (v : FromReadView) (marks reads orders : List ℕ) (a w r : ℕ) (new : List DerivedEdge) → AreParts v marks reads orders → kind_at v.kinds a ≡ ReadFrom w r → a < length v.kinds → ¬ Contains v.true_atoms a → ArePutFor (λ b. pair_edges v.nodes v.kinds a b) orders v.derived new → AreParts (with_atom v a new) (marks ++ length v.derived ∷ []) (reads ++ a ∷ []) orders
push_read v marks reads orders a w r new are is within free put =
    let f : ℕ → List DerivedEdge = λ b. pair_edges v.nodes v.kinds a b in
    let some = subst (λ (l : List ℕ). ArePutFor f l v.derived new) are.orders_are put in
    let all = for_all f (orderers v) v.true_atoms v.derived new (λ b e. pair_none_second v.nodes v.kinds a b e) some in
    let on : is_read (kind_at v.kinds a) ≡ true = rw is refl in
    let off : is_order (kind_at v.kinds a) ≡ false = rw is refl in
    parts_push v marks reads orders a new (reads ++ a ∷ []) orders are
    (stepped v a f new (λ j. length v.true_atoms) (λ j. j) (tells_read v a w r new is) are.whole free within all)
    (for_grown f v.true_atoms v.derived new all)
    (ap (λ (l : List ℕ). l ++ a ∷ []) are.reads_are ∙ filter_push (readers v) v.true_atoms a on)
    (are.orders_are ∙ filter_skip (orderers v) v.true_atoms a off)

pub push_order : (v : FromReadView) (marks reads orders : List ℕ) (a x y : ℕ) (new : List DerivedEdge) → AreParts v marks reads orders → kind_at v.kinds a ≡ WriteOrder x y → a < length v.kinds → ¬ Contains v.true_atoms a → ArePutFor (λ b. pair_edges v.nodes v.kinds b a) reads v.derived new → AreParts (with_atom v a new) (marks ++ length v.derived ∷ []) reads (orders ++ a ∷ [])
push_order v marks reads orders a x y new are is within free put =
    let f : ℕ → List DerivedEdge = λ b. pair_edges v.nodes v.kinds b a in
    let some = subst (λ (l : List ℕ). ArePutFor f l v.derived new) are.reads_are put in
    let all = for_all f (readers v) v.true_atoms v.derived new (λ b e. pair_none_first v.nodes v.kinds b a e) some in
    let off : is_read (kind_at v.kinds a) ≡ false = rw is refl in
    let on : is_order (kind_at v.kinds a) ≡ true = rw is refl in
    parts_push v marks reads orders a new reads (orders ++ a ∷ []) are
    (stepped v a f new (λ j. j) (λ j. length v.true_atoms) (tells_order v a x y new is) are.whole free within all)
    (for_grown f v.true_atoms v.derived new all)
    (are.reads_are ∙ filter_skip (readers v) v.true_atoms a off)
    (ap (λ (l : List ℕ). l ++ a ∷ []) are.orders_are ∙ filter_push (orderers v) v.true_atoms a on)

pub push_plain : (v : FromReadView) (marks reads orders : List ℕ) (a : ℕ) → AreParts v marks reads orders → kind_at v.kinds a ≡ Plain → a < length v.kinds → ¬ Contains v.true_atoms a → AreParts (with_atom v a v.derived) (marks ++ length v.derived ∷ []) reads orders
push_plain v marks reads orders a are is within free =
    let f : ℕ → List DerivedEdge = λ b. [] in
    let all = nothing_put v.true_atoms v.derived in
    let one : is_read (kind_at v.kinds a) ≡ false = rw is refl in
    let two : is_order (kind_at v.kinds a) ≡ false = rw is refl in
    parts_push v marks reads orders a v.derived reads orders are
    (stepped v a f v.derived (λ j. j) (λ j. length v.true_atoms) (tells_plain v a v.derived is) are.whole free within all)
    (for_grown f v.true_atoms v.derived v.derived all)
    (are.reads_are ∙ filter_skip (readers v) v.true_atoms a one)
    (are.orders_are ∙ filter_skip (orderers v) v.true_atoms a two)

-- ---- one less

-- the last true atom's kind tells which stack loses it
pub pop_read : (v : FromReadView) (marks reads orders : List ℕ) (n m a w r : ℕ) → AreParts v marks reads orders → n + 1 ≡ length v.true_atoms → slice_get v.true_atoms n ≡ Some a → slice_get marks n ≡ Some m → kind_at v.kinds a ≡ ReadFrom w r → (0 < length reads) × AreParts (at_mark v (take n v.true_atoms) (take m v.derived)) (take n marks) (take (length reads - 1) reads) orders
pop_read v marks reads orders n m a w r are long here mark is =
    let on : is_read (kind_at v.kinds a) ≡ true = rw is refl in
    let off : is_order (kind_at v.kinds a) ≡ false = rw is refl in
    let p = filter_pop (readers v) v.true_atoms n a here long on in
    let some = subst (λ (l : List ℕ). 0 < length l) (sym are.reads_are) p.0 in
    let cut = subst (λ (l : List ℕ). take (length l - 1) l ≡ filter (readers v) (take n v.true_atoms)) (sym are.reads_are) p.1 in
    (some, parts_pop v marks reads orders n m (take (length reads - 1) reads) orders are (omega (arith, long)) mark cut (are.orders_are ∙ filter_stay (orderers v) v.true_atoms n a here long off))

pub pop_order : (v : FromReadView) (marks reads orders : List ℕ) (n m a x y : ℕ) → AreParts v marks reads orders → n + 1 ≡ length v.true_atoms → slice_get v.true_atoms n ≡ Some a → slice_get marks n ≡ Some m → kind_at v.kinds a ≡ WriteOrder x y → (0 < length orders) × AreParts (at_mark v (take n v.true_atoms) (take m v.derived)) (take n marks) reads (take (length orders - 1) orders)
pop_order v marks reads orders n m a x y are long here mark is =
    let on : is_order (kind_at v.kinds a) ≡ true = rw is refl in
    let off : is_read (kind_at v.kinds a) ≡ false = rw is refl in
    let p = filter_pop (orderers v) v.true_atoms n a here long on in
    let some = subst (λ (l : List ℕ). 0 < length l) (sym are.orders_are) p.0 in
    let cut = subst (λ (l : List ℕ). take (length l - 1) l ≡ filter (orderers v) (take n v.true_atoms)) (sym are.orders_are) p.1 in
    (some, parts_pop v marks reads orders n m reads (take (length orders - 1) orders) are (omega (arith, long)) mark (are.reads_are ∙ filter_stay (readers v) v.true_atoms n a here long off) cut)

pub pop_plain : (v : FromReadView) (marks reads orders : List ℕ) (n m a : ℕ) → AreParts v marks reads orders → n + 1 ≡ length v.true_atoms → slice_get v.true_atoms n ≡ Some a → slice_get marks n ≡ Some m → kind_at v.kinds a ≡ Plain → AreParts (at_mark v (take n v.true_atoms) (take m v.derived)) (take n marks) reads orders
pop_plain v marks reads orders n m a are long here mark is =
    let one : is_read (kind_at v.kinds a) ≡ false = rw is refl in
    let two : is_order (kind_at v.kinds a) ≡ false = rw is refl in
    parts_pop v marks reads orders n m reads orders are (omega (arith, long)) mark (are.reads_are ∙ filter_stay (readers v) v.true_atoms n a here long one) (are.orders_are ∙ filter_stay (orderers v) v.true_atoms n a here long two)

-- whatever the kind
abbrev pub pushed_if : Bool → List ℕ → ℕ → List ℕ
pushed_if b xs a = if b then xs ++ a ∷ [] else xs

abbrev pub popped_if : Bool → List ℕ → List ℕ
popped_if b xs = if b then take (length xs - 1) xs else xs

-- the edges that an atom derives with the true ones are put
pub record IsPutAll (v : FromReadView) (reads orders : List ℕ) (a : ℕ) (new : List DerivedEdge) : Type 0 where
  pub read : (w r : ℕ) → kind_at v.kinds a ≡ ReadFrom w r → ArePutFor (λ b. pair_edges v.nodes v.kinds a b) orders v.derived new
  pub order : (x y : ℕ) → kind_at v.kinds a ≡ WriteOrder x y → ArePutFor (λ b. pair_edges v.nodes v.kinds b a) reads v.derived new
  pub plain : kind_at v.kinds a ≡ Plain → new ≡ v.derived

pub pushed : (v : FromReadView) (marks reads orders : List ℕ) (a : ℕ) (new : List DerivedEdge) (k : AtomKind) → kind_at v.kinds a ≡ k → AreParts v marks reads orders → a < length v.kinds → ¬ Contains v.true_atoms a → IsPutAll v reads orders a new → AreParts (with_atom v a new) (marks ++ length v.derived ∷ []) (pushed_if (is_read k) reads a) (pushed_if (is_order k) orders a)
pushed v marks reads orders a new (ReadFrom w r) e are within free put = push_read v marks reads orders a w r new are e within free (put.read w r e)
pushed v marks reads orders a new (WriteOrder x y) e are within free put = push_order v marks reads orders a x y new are e within free (put.order x y e)
pushed v marks reads orders a new Plain e are within free put = subst (λ (l : List DerivedEdge). AreParts (with_atom v a l) (marks ++ length v.derived ∷ []) reads orders) (sym (put.plain e)) (push_plain v marks reads orders a are e within free)

pub grown_all : (v : FromReadView) (reads orders : List ℕ) (a : ℕ) (new : List DerivedEdge) (k : AtomKind) → kind_at v.kinds a ≡ k → IsPutAll v reads orders a new → Grown v.derived new
grown_all v reads orders a new (ReadFrom w r) e put = for_grown (λ b. pair_edges v.nodes v.kinds a b) orders v.derived new (put.read w r e)
grown_all v reads orders a new (WriteOrder x y) e put = for_grown (λ b. pair_edges v.nodes v.kinds b a) reads v.derived new (put.order x y e)
grown_all v reads orders a new Plain e put = ([], put.plain e ∙ sym (append-nil v.derived))

-- the true atoms of a kind are some of them
pub reads_among : (v : FromReadView) (marks reads orders : List ℕ) → AreParts v marks reads orders → (b : ℕ) → Contains reads b → b < length v.kinds
reads_among v marks reads orders are b m = are.whole.within b (contains_from_filter (readers v) v.true_atoms b (subst (λ (l : List ℕ). Contains l b) are.reads_are m)).0

pub orders_among : (v : FromReadView) (marks reads orders : List ℕ) → AreParts v marks reads orders → (b : ℕ) → Contains orders b → b < length v.kinds
orders_among v marks reads orders are b m = are.whole.within b (contains_from_filter (orderers v) v.true_atoms b (subst (λ (l : List ℕ). Contains l b) are.orders_are m)).0

pub reads_short : (v : FromReadView) (marks reads orders : List ℕ) → AreParts v marks reads orders → length reads ≤ length v.true_atoms
reads_short v marks reads orders are = omega (arith, ap (λ (l : List ℕ). length l) are.reads_are, filter_short (readers v) v.true_atoms)

pub orders_short : (v : FromReadView) (marks reads orders : List ℕ) → AreParts v marks reads orders → length orders ≤ length v.true_atoms
orders_short v marks reads orders are = omega (arith, ap (λ (l : List ℕ). length l) are.orders_are, filter_short (orderers v) v.true_atoms)

-- the last true atom and how many edges there were before it
pub record IsLast (v : FromReadView) (marks : List ℕ) (n m a : ℕ) (k : AtomKind) : Type 0 where
  pub long : n + 1 ≡ length v.true_atoms
  pub here : slice_get v.true_atoms n ≡ Some a
  pub mark : slice_get marks n ≡ Some m
  pub kind : kind_at v.kinds a ≡ k

pub some_read : (v : FromReadView) (marks reads orders : List ℕ) (n m a : ℕ) (k : AtomKind) → AreParts v marks reads orders → IsLast v marks n m a k → is_read k ≡ true → 0 < length reads
some_read v marks reads orders n m a (ReadFrom w r) are last e = (pop_read v marks reads orders n m a w r are last.long last.here last.mark last.kind).0
some_read v marks reads orders n m a (WriteOrder x y) are last e = let never : ⊥ = cc in absurd never
some_read v marks reads orders n m a Plain are last e = let never : ⊥ = cc in absurd never

pub some_order : (v : FromReadView) (marks reads orders : List ℕ) (n m a : ℕ) (k : AtomKind) → AreParts v marks reads orders → IsLast v marks n m a k → is_order k ≡ true → 0 < length orders
some_order v marks reads orders n m a (ReadFrom w r) are last e = let never : ⊥ = cc in absurd never
some_order v marks reads orders n m a (WriteOrder x y) are last e = (pop_order v marks reads orders n m a x y are last.long last.here last.mark last.kind).0
some_order v marks reads orders n m a Plain are last e = let never : ⊥ = cc in absurd never

pub popped : (v : FromReadView) (marks reads orders : List ℕ) (n m a : ℕ) (k : AtomKind) → AreParts v marks reads orders → IsLast v marks n m a k → AreParts (at_mark v (take n v.true_atoms) (take m v.derived)) (take n marks) (popped_if (is_read k) reads) (popped_if (is_order k) orders)
popped v marks reads orders n m a (ReadFrom w r) are last = (pop_read v marks reads orders n m a w r are last.long last.here last.mark last.kind).1
popped v marks reads orders n m a (WriteOrder x y) are last = (pop_order v marks reads orders n m a x y are last.long last.here last.mark last.kind).1
popped v marks reads orders n m a Plain are last = pop_plain v marks reads orders n m a are last.long last.here last.mark last.kind

-- the list has the edges of the mark
pub mark_in : (v : FromReadView) (marks reads orders : List ℕ) (n m a : ℕ) (k : AtomKind) → AreParts v marks reads orders → IsLast v marks n m a k → m ≤ length v.derived
mark_in v marks reads orders n m a k are last = (are.before n m last.mark).0

-- what the code says of the edges it put, told of the lists that it was given
abbrev pub Said : List Node → List AtomKind → List ℕ → List ℕ → ℕ → List DerivedEdge → List DerivedEdge → Type 0
Said nodes kinds reads orders a old new =
    ((w r : ℕ) → kind_at kinds a ≡ ReadFrom w r → ArePutFor (λ b. pair_edges nodes kinds a b) orders old new)
    × ((x y : ℕ) → kind_at kinds a ≡ WriteOrder x y → ArePutFor (λ b. pair_edges nodes kinds b a) reads old new)
    × (kind_at kinds a ≡ Plain → new ≡ old)

pub said_of : (nodes n : List Node) (kinds k : List AtomKind) (reads r orders o atoms : List ℕ) (a : ℕ) (old new : List DerivedEdge) → n ≡ nodes → k ≡ kinds → r ≡ reads → o ≡ orders → Said n k r o a old new → IsPutAll (seen_as nodes kinds atoms old) reads orders a new
said_of nodes n kinds k reads r orders o atoms a old new en ek er eo said =
    let one = subst (λ (l : List Node). Said l k r o a old new) en said in
    let two = subst (λ (l : List AtomKind). Said nodes l r o a old new) ek one in
    let three = subst (λ (l : List ℕ). Said nodes kinds l o a old new) er two in
    let four : Said nodes kinds reads orders a old new = subst (λ (l : List ℕ). Said nodes kinds reads l a old new) eo three in
    record { read = four.0; order = four.1; plain = four.2 }

-- the last true atom as the code reads it
pub last_is : (v : FromReadView) (marks reads orders : List ℕ) (n m a : ℕ) (k : AtomKind) → AreParts v marks reads orders → n + 1 ≡ length v.true_atoms → a ≡ get_or v.true_atoms n a → m ≡ get_or marks n m → k ≡ get_or v.kinds a k → IsLast v marks n m a k
last_is v marks reads orders n m a k are long at mark kind =
    let here = slice_get_read v.true_atoms (length v.true_atoms) n a refl (omega (arith, long)) at in
    record {
      long = long;
      here = here;
      mark = slice_get_read marks (length marks) n m refl (omega (arith, long, are.marks_long)) mark;
      kind = get_or_default v.kinds a Plain k (are.whole.within a (contains_place v.true_atoms n a here)) ∙ sym kind;
    }

-- a list that begins another
pub grown_take : (xs ys : List DerivedEdge) → Grown xs ys → take (length xs) ys ≡ xs
grown_take xs ys g = ap (λ (l : List DerivedEdge). take (length xs) l) g.1 ∙ take-append-le (length xs) xs g.0 (omega arith) ∙ take_all (length xs) xs (omega arith)

pub grown_long : (xs ys : List DerivedEdge) → Grown xs ys → length xs ≤ length ys
grown_long xs ys g = omega (arith, ap (λ (l : List DerivedEdge). length l) g.1, length-append xs g.0)

pub cut_is : {X : Type 0} (xs ys : List X) (n : ℕ) → ys ≡ take n xs → ys ≡ take (length ys) xs
cut_is {X} xs ys n e =
    let long = ap (λ (l : List X). length l) e in
    elim (cases_lt n (length xs)) [
      | inl h ↦ e ∙ ap (λ (k : ℕ). take k xs) (let same : n ≡ length ys = omega (arith, long, length-take n xs, h) in same)
      | inr h ↦
          let whole = e ∙ take_all n xs (omega (arith, h)) in
          whole ∙ sym (take_all (length ys) xs (omega (arith, ap (λ (l : List X). length l) whole)))
    ]

pub cut_twice : {X : Type 0} (xs ys zs : List X) → ys ≡ take (length ys) xs → zs ≡ take (length zs) ys → zs ≡ take (length zs) xs
cut_twice {X} xs ys zs e f =
    let long = ap (λ (l : List X). length l) f in
    f ∙ ap (λ (l : List X). take (length zs) l) e ∙ take-take (length zs) (length ys) xs (omega (arith, long, length-take (length zs) ys))

-- fewer edges fit as well
pub fine_cut : (nodes : List Node) (kinds : List AtomKind) (s : EdgeSetView) (m : ℕ) → IsFine nodes kinds s → IsFine nodes kinds (record { nodes = s.nodes; limit = s.limit; list = take m s.list })
fine_cut nodes kinds s m fine = record {
  sizes = fine.sizes;
  blocks = fine.blocks;
  kinds_over = fine.kinds_over;
  once = λ i j c d e f. fine.once i j c d (take_get m s.list i c e).1 (take_get m s.list j d f).1;
  able = λ d h. let p = place_of (take m s.list) d h in fine.able d (contains_place s.list p.0 d (take_get m s.list p.0 d p.1).1);
  enough = fine.enough;
}

-- ---- the start

pub parts_none : (nodes : List Node) (kinds : List AtomKind) → AreParts (record { nodes = nodes; kinds = kinds; true_atoms = []; derived = [] }) [] [] []
parts_none nodes kinds = record {
  whole = record {
    each = λ d m. absurd (contains_nothing d m);
    all = λ i j e d. absurd (get_nothing i d.read_from d.first_is);
    once = λ i j c d e f s. absurd (get_nothing i c e);
    apart = λ i j a e f. absurd (get_nothing i a e);
    within = λ a m. absurd (contains_nothing a m);
  };
  marks_long = refl;
  before = λ t m e. absurd (get_nothing t m e);
  rising = λ s t m n l e f. absurd (get_nothing s m e);
  reads_are = refl;
  orders_are = refl;
}

-- the nodes of the kinds of a problem's atoms are among its nodes
pub kinds_over : (vars nodes : ℕ) (atoms : List Atom) → All (IsAtomOver vars nodes) atoms → All (λ k. All (λ n. n < nodes) (nodes_of k)) (map (λ a. a.kind) atoms)
kinds_over vars nodes atoms over k d h =
    let got = slice_get-get_or (map (λ (a : Atom). a.kind) atoms) k d h in
    let a = get_from_map (λ (a : Atom). a.kind) atoms k (get_or (map (λ (a : Atom). a.kind) atoms) k d) got in
    let m = contains_place atoms k a.0 a.1 in
    let one : IsAtomOver vars nodes a.0 = subst (IsAtomOver vars nodes) m.2 (over m.0 a.0 m.1) in
    subst (λ (z : AtomKind). All (λ (n : ℕ). n < nodes) (nodes_of z)) a.2 one.kind

pub fine_none : (nodes : List Node) (kinds : List AtomKind) (limit : ℕ) → All (IsNodeOf (length nodes)) nodes → All (λ k. All (λ n. n < length nodes) (nodes_of k)) kinds → IsEnough nodes kinds limit → IsFine nodes kinds (record { nodes = 2 * length nodes; limit = limit; list = [] })
fine_none nodes kinds limit blocks over enough = record {
  sizes = refl;
  blocks = blocks;
  kinds_over = over;
  once = λ i j c d e f s. absurd (get_nothing i c e);
  able = λ d m. absurd (contains_nothing d m);
  enough = enough;
}
