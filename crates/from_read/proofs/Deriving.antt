-- What a pair of atoms derives, and where the edges end that pairs derive.
use Rattle.std.proofs.Common.{◌≡◌, ◌≢◌, ℕ, ◌+◌, ◌<◌, inl, inr, false, List, [], ◌∷◌, ◌++◌, length, refl, ap, sym, ◌∙◌, subst, arith, get_or}
use Rattle.std.specs.Prelude.{All, Contains, ◌==◌}
use Rattle.std.proofs.lemmas.Bool.{cases_Bool, eq-eqb, ne_eqb}
use Rattle.std.proofs.lemmas.List.{length_push, get_or_default}
use Rattle.std.proofs.lemmas.Option.{slice_get-get_or}
use Rattle.dg_base.proofs.Lists.{contains_nothing, contains_head, contains_tail, contains_cases, contains_place, get_push_cases}
use Rattle.cnf_problem.specs.declared.problem.Node.{Node}
use Rattle.cnf_problem.specs.declared.problem.Edge.{Edge}
use Rattle.cnf_problem.specs.declared.problem.Graph.TheVariants.{Local}
use Rattle.cnf_problem.specs.declared.problem.AtomKind.{AtomKind}
use Rattle.cnf_problem.specs.declared.problem.AtomKind.TheVariants.{ReadFrom, WriteOrder, Plain}
use Rattle.cnf_problem.specs.Edges.{derived_edges, global_edge, node_at}
use Rattle.cnf_problem.specs.Bounds.{IsNodeOf, nodes_of}
use Rattle.from_read.specs.declared.edge_set.DerivedEdge.{DerivedEdge}
use Rattle.from_read.specs.Derivations.{kind_at}
use Rattle.from_read.specs.Parts.{EdgeSetView, IsPut, ArePut, IsFine, IsDerivable, pair_edges, is_read, is_order}
use Rattle.from_read.proofs.Enough.{pair_of}

-- what holds of each item holds of one
pub all_at : {X : Type 0} (P : X → Type 0) (xs : List X) (x : X) → All P xs → Contains xs x → P x
all_at P xs x h m = subst P m.2 (h m.0 x m.1)

-- and of one more, where it holds of that one
pub all_push : {X : Type 0} (P : X → Type 0) (xs : List X) (x : X) → All P xs → P x → All P (xs ++ x ∷ [])
all_push P xs x h p k d l =
    elim (get_push_cases xs x k (get_or (xs ++ x ∷ []) k d) (slice_get-get_or (xs ++ x ∷ []) k d l)) [
      | inl old ↦ all_at P xs (get_or (xs ++ x ∷ []) k d) h (contains_place xs k (get_or (xs ++ x ∷ []) k d) old)
      | inr new ↦ subst P (sym new.1) p
    ]

pub pushed_long : {X : Type 0} (xs ys : List X) (x : X) → ys ≡ xs ++ x ∷ [] → length ys ≡ length xs + 1
pushed_long {X} xs ys x e = omega (arith, ap (λ (l : List X). length l) e, length_push xs x)

-- an atom below their number has one of the kinds
pub kind_in : (kinds : List AtomKind) (a : ℕ) → a < length kinds → Contains kinds (kind_at kinds a)
kind_in kinds a h = contains_place kinds a (kind_at kinds a) (slice_get-get_or kinds a Plain h)

-- an item is the same at any default
pub at_kind : (kinds : List AtomKind) (k : ℕ) (d x : AtomKind) → k < length kinds → get_or kinds k d ≡ x → get_or kinds k Plain ≡ x
at_kind kinds k d x h e = get_or_default kinds k Plain d h ∙ e

-- the nodes of an atom's kind are among the nodes
pub read_below : (kinds : List AtomKind) (k w r nodes : ℕ) (d : AtomKind) → All (λ k. All (λ n. n < nodes) (nodes_of k)) kinds → k < length kinds → get_or kinds k d ≡ ReadFrom w r → (w < nodes) × (r < nodes)
read_below kinds k w r nodes d over h e =
    let one : All (λ (n : ℕ). n < nodes) (nodes_of (ReadFrom w r)) = subst (λ (z : AtomKind). All (λ (n : ℕ). n < nodes) (nodes_of z)) e (over k d h) in
    (one 0 0 (omega arith), one 1 0 (omega arith))

pub order_below : (kinds : List AtomKind) (k u v nodes : ℕ) (d : AtomKind) → All (λ k. All (λ n. n < nodes) (nodes_of k)) kinds → k < length kinds → get_or kinds k d ≡ WriteOrder u v → (u < nodes) × (v < nodes)
order_below kinds k u v nodes d over h e =
    let one : All (λ (n : ℕ). n < nodes) (nodes_of (WriteOrder u v)) = subst (λ (z : AtomKind). All (λ (n : ℕ). n < nodes) (nodes_of z)) e (over k d h) in
    (one 0 0 (omega arith), one 1 0 (omega arith))

-- what two atoms derive is derivable
pub able_of : (nodes : List Node) (kinds : List AtomKind) (a b : ℕ) (e : Edge) → a < length kinds → b < length kinds → Contains (derived_edges nodes (kind_at kinds a) (kind_at kinds b)) e → IsDerivable nodes kinds e
able_of nodes kinds a b e h k m = (kind_at kinds a, kind_at kinds b, kind_in kinds a h, kind_in kinds b k, m)

-- ---- ends

global_within : (nodes : List Node) (r v : ℕ) → All (IsNodeOf (length nodes)) nodes → r < length nodes → v < length nodes → ((global_edge nodes r v).from < length nodes) × ((global_edge nodes r v).to < length nodes)
global_within nodes r v blocks h k =
    elim (cases_Bool ((node_at nodes r).block == (node_at nodes v).block)) [
      | inl same ↦ rw same (h, k)
      | inr other ↦ rw other ((blocks r (record { block = r; first = r; last = r }) h).1, (blocks v (record { block = v; first = v; last = v }) k).0)
    ]

pub able_within : (nodes : List Node) (kinds : List AtomKind) (s : EdgeSetView) (e : Edge) → IsFine nodes kinds s → IsDerivable nodes kinds e → (e.from < length nodes) × (e.to < length nodes)
able_within nodes kinds s e fine able =
    let p = pair_of nodes kinds e able.0 able.1 able.2 able.3 able.4 in
    let r : p.1 < length nodes = all_at (λ (k : AtomKind). All (λ (n : ℕ). n < length nodes) (nodes_of k)) kinds (ReadFrom p.0 p.1) fine.kinds_over p.4 1 0 (omega arith) in
    let v : p.3 < length nodes = all_at (λ (k : AtomKind). All (λ (n : ℕ). n < length nodes) (nodes_of k)) kinds (WriteOrder p.2 p.3) fine.kinds_over p.5 1 0 (omega arith) in
    elim (contains_cases (record { graph = Local; from = p.1; to = p.3 }) e (global_edge nodes p.1 p.3 ∷ []) p.6) [
      | inl local ↦ subst (λ (z : Edge). (z.from < length nodes) × (z.to < length nodes)) (sym local) (r, v)
      | inr more ↦ elim (contains_cases (global_edge nodes p.1 p.3) e [] more) [
        | inl global ↦ subst (λ (z : Edge). (z.from < length nodes) × (z.to < length nodes)) (sym global) (global_within nodes p.1 p.3 fine.blocks r v)
        | inr n ↦ absurd (contains_nothing e n)
      ]
    ]

-- ---- the edges of a pair

pub pair_two : (nodes : List Node) (kinds : List AtomKind) (a b w r u v : ℕ) → kind_at kinds a ≡ ReadFrom w r → kind_at kinds b ≡ WriteOrder u v → w ≡ u → pair_edges nodes kinds a b ≡ record { edge = record { graph = Local; from = r; to = v }; read_from = a; write_order = b } ∷ (record { edge = global_edge nodes r v; read_from = a; write_order = b } ∷ [])
pair_two nodes kinds a b w r u v p q s = let t = eq-eqb w u s in rw (p, q, t) refl

pub pair_other : (nodes : List Node) (kinds : List AtomKind) (a b w r u v : ℕ) → kind_at kinds a ≡ ReadFrom w r → kind_at kinds b ≡ WriteOrder u v → w ≢ u → pair_edges nodes kinds a b ≡ []
pair_other nodes kinds a b w r u v p q s = let t = ne_eqb w u s in rw (p, q, t) refl

-- an atom of another kind than the first of a pair derives nothing, and so it is with the second
pub first_none : (nodes : List Node) (k l : AtomKind) → is_read k ≡ false → derived_edges nodes k l ≡ []
first_none nodes (ReadFrom w r) l e = let never : ⊥ = cc in absurd never
first_none nodes (WriteOrder u v) l e = refl
first_none nodes Plain l e = refl

pub second_none : (nodes : List Node) (k l : AtomKind) → is_order l ≡ false → derived_edges nodes k l ≡ []
second_none nodes (ReadFrom w r) (ReadFrom x y) e = refl
second_none nodes (ReadFrom w r) (WriteOrder u v) e = let never : ⊥ = cc in absurd never
second_none nodes (ReadFrom w r) Plain e = refl
second_none nodes (WriteOrder u v) l e = refl
second_none nodes Plain l e = refl

pub pair_none_first : (nodes : List Node) (kinds : List AtomKind) (a b : ℕ) → is_read (kind_at kinds a) ≡ false → pair_edges nodes kinds a b ≡ []
pair_none_first nodes kinds a b e = let t = first_none nodes (kind_at kinds a) (kind_at kinds b) e in rw t refl

pub pair_none_second : (nodes : List Node) (kinds : List AtomKind) (a b : ℕ) → is_order (kind_at kinds b) ≡ false → pair_edges nodes kinds a b ≡ []
pair_none_second nodes kinds a b e = let t = second_none nodes (kind_at kinds a) (kind_at kinds b) e in rw t refl

-- ---- a pair as code meets it

-- an atom of another kind
not_read : (k : AtomKind) → ((w r : ℕ) → k ≡ ReadFrom w r → ⊥) → is_read k ≡ false
not_read (ReadFrom w r) none = absurd (none w r refl)
not_read (WriteOrder u v) none = refl
not_read Plain none = refl

not_order : (k : AtomKind) → ((u v : ℕ) → k ≡ WriteOrder u v → ⊥) → is_order k ≡ false
not_order (ReadFrom w r) none = refl
not_order (WriteOrder u v) none = absurd (none u v refl)
not_order Plain none = refl

pub nothing_first : (nodes : List Node) (kinds : List AtomKind) (a b : ℕ) (d : AtomKind) (list : List DerivedEdge) → a < length kinds → ((w r : ℕ) → get_or kinds a d ≡ ReadFrom w r → ⊥) → ArePut (pair_edges nodes kinds a b) list list
nothing_first nodes kinds a b d list h none =
    let e = pair_none_first nodes kinds a b (ap is_read (get_or_default kinds a Plain d h) ∙ not_read (get_or kinds a d) none) in
    subst (λ (ds : List DerivedEdge). ArePut ds list list) (sym e) refl

pub nothing_second : (nodes : List Node) (kinds : List AtomKind) (a b : ℕ) (d : AtomKind) (list : List DerivedEdge) → b < length kinds → ((u v : ℕ) → get_or kinds b d ≡ WriteOrder u v → ⊥) → ArePut (pair_edges nodes kinds a b) list list
nothing_second nodes kinds a b d list h none =
    let e = pair_none_second nodes kinds a b (ap is_order (get_or_default kinds b Plain d h) ∙ not_order (get_or kinds b d) none) in
    subst (λ (ds : List DerivedEdge). ArePut ds list list) (sym e) refl

-- a read of one write and an order behind another derive nothing
pub nothing_other : (nodes : List Node) (kinds : List AtomKind) (a b w r u v : ℕ) (x y : AtomKind) (list : List DerivedEdge) → a < length kinds → b < length kinds → get_or kinds a x ≡ ReadFrom w r → get_or kinds b y ≡ WriteOrder u v → w ≢ u → ArePut (pair_edges nodes kinds a b) list list
nothing_other nodes kinds a b w r u v x y list h k p q other =
    let e = pair_other nodes kinds a b w r u v (at_kind kinds a x (ReadFrom w r) h p) (at_kind kinds b y (WriteOrder u v) k q) other in
    subst (λ (ds : List DerivedEdge). ArePut ds list list) (sym e) refl

-- a read and an order of the same write: their nodes, their edges, and that these can be put
pub record IsPairing (nodes : List Node) (kinds : List AtomKind) (a b r v : ℕ) : Type 0 where
  pub read_in : r < length nodes
  pub second_in : v < length nodes
  pub local_able : IsDerivable nodes kinds (record { graph = Local; from = r; to = v })
  pub global_able : IsDerivable nodes kinds (global_edge nodes r v)
  pub edges_are : pair_edges nodes kinds a b ≡ record { edge = record { graph = Local; from = r; to = v }; read_from = a; write_order = b } ∷ (record { edge = global_edge nodes r v; read_from = a; write_order = b } ∷ [])

pub pairing : (nodes : List Node) (kinds : List AtomKind) (s : EdgeSetView) (a b w r u v : ℕ) (x y : AtomKind) → IsFine nodes kinds s → a < length kinds → b < length kinds → get_or kinds a x ≡ ReadFrom w r → get_or kinds b y ≡ WriteOrder u v → w ≡ u → IsPairing nodes kinds a b r v
pairing nodes kinds s a b w r u v x y fine h k p q same =
    let first = at_kind kinds a x (ReadFrom w r) h p in
    let second = at_kind kinds b y (WriteOrder u v) k q in
    let t = eq-eqb w u same in
    let local : Edge = record { graph = Local; from = r; to = v } in
    let both = local ∷ (global_edge nodes r v ∷ []) in
    let derived : derived_edges nodes (kind_at kinds a) (kind_at kinds b) ≡ both = rw (first, second, t) refl in
    record {
      read_in = (read_below kinds a w r (length nodes) x fine.kinds_over h p).1;
      second_in = (order_below kinds b u v (length nodes) y fine.kinds_over k q).1;
      local_able = able_of nodes kinds a b local h k (subst (λ (l : List Edge). Contains l local) (sym derived) (contains_head local (global_edge nodes r v ∷ [])));
      global_able = able_of nodes kinds a b (global_edge nodes r v) h k (subst (λ (l : List Edge). Contains l (global_edge nodes r v)) (sym derived) (contains_tail local (global_edge nodes r v) (global_edge nodes r v ∷ []) (contains_head (global_edge nodes r v) [])));
      edges_are = pair_two nodes kinds a b w r u v first second same;
    }

-- both edges put one after the other
pub both_put : (nodes : List Node) (kinds : List AtomKind) (a b r v : ℕ) (e : Edge) (before mid after : List DerivedEdge) → IsPairing nodes kinds a b r v → e ≡ global_edge nodes r v → IsPut before (record { edge = record { graph = Local; from = r; to = v }; read_from = a; write_order = b }) mid → IsPut mid (record { edge = e; read_from = a; write_order = b }) after → ArePut (pair_edges nodes kinds a b) before after
both_put nodes kinds a b r v e before mid after is global one two =
    let second : IsPut mid (record { edge = global_edge nodes r v; read_from = a; write_order = b }) after = subst (λ (z : Edge). IsPut mid (record { edge = z; read_from = a; write_order = b }) after) global two in
    subst (λ (ds : List DerivedEdge). ArePut ds before after) (sym is.edges_are) (mid, one, (after, second, refl))
