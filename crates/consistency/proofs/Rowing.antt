-- The edges from nodes to nodes behind them: each is a related pair, and each related pair is a chain of them.
use Rattle.std.proofs.Common.{◌≡◌, ℕ, zero, suc, ◌+◌, ◌<◌, ◌≤◌, ◌⊎◌, List, [], ◌∷◌, true, cond, Some, refl, sym, ap, subst, ⊎_elim, inl, inr, arith}
use Rattle.std.specs.Prelude.{slice_get}
use Rattle.std.proofs.lemmas.Bool.{cases_Bool}
use Rattle.std.proofs.lemmas.Option.{none-some, same_Some}
use Rattle.axiom_model.specs.Sorting.{HasEdge}
use Rattle.consistency.specs.declared.numbering.Node.{Node}
use Rattle.consistency.specs.declared.relations.Relation.{Relation}
use Rattle.consistency.specs.Relations.{links, stops}
use Rattle.consistency.specs.Edges.{one, row, forward_edges}
use Rattle.consistency.specs.Graphs.{Reaches}
use Rattle.consistency.proofs.Members.{has_left, has_right, has_cases, has_one, one_has, cond_has, has_cond}
use Rattle.consistency.proofs.Reaching.{reach_edge, reach_join}

-- an edge between numbers that are these
pub moved : (edges : List (ℕ × ℕ)) (a b c d : ℕ) → a ≡ c → b ≡ d → HasEdge edges a b → HasEdge edges c d
moved edges a b c d p q h = subst (λ n. HasEdge edges n d) p (subst (λ n. HasEdge edges a n) q h)

-- ---- one row

-- the edge goes from i to a node of the list that is related to v
pub record InRow (r : Relation) (i : ℕ) (v : Node) (n : ℕ) (ws : List Node) (a b : ℕ) : Type 0 where
  pub source : a ≡ i
  pub place : ℕ
  pub node : Node
  pub target : b ≡ n + place
  pub there : slice_get ws place ≡ Some node
  pub related : links r v node ≡ true

pub row_sound : (r : Relation) (i : ℕ) (v : Node) (n : ℕ) (ws : List Node) (a b : ℕ) → HasEdge (row r i v n ws) a b → InRow r i v n ws a b
row_sound r i v n [] a b h = absurd (none-some (a, b) h.1)
row_sound r i v n (w ∷ ws) a b h =
    ⊎_elim
    (λ g.
    let o = one_has (links r v w) (i, n) (a, b) g in
    let p : i ≡ a = ap (λ z. z.0) o.1 in
    let q : n ≡ b = ap (λ z. z.1) o.1 in
    record { source = sym p; place = 0; node = w; target = omega arith; there = refl; related = o.0 })
    (λ g.
    let t = row_sound r i v (n + 1) ws a b (cond_has (stops r v w) (row r i v (n + 1) ws) (a, b) g) in
    let q = t.target in
    record { source = t.source; place = suc t.place; node = t.node; target = omega arith; there = t.there; related = t.related })
    (has_cases (one (links r v w) (i, n)) (cond (stops r v w) [] (row r i v (n + 1) ws)) (a, b) h)

-- the row stops at a node before j, which has an edge if it is related
pub record StopsBefore (edges : List (ℕ × ℕ)) (r : Relation) (i : ℕ) (v : Node) (n : ℕ) (ws : List Node) (j : ℕ) : Type 0 where
  pub place : ℕ
  pub node : Node
  pub before : place < j
  pub there : slice_get ws place ≡ Some node
  pub stops_here : stops r v node ≡ true
  pub edge : links r v node ≡ true → HasEdge edges i (n + place)

pub row_has : (r : Relation) (i : ℕ) (v : Node) (n : ℕ) (ws : List Node) (j : ℕ) (w : Node) → slice_get ws j ≡ Some w → links r v w ≡ true → HasEdge (row r i v n ws) i (n + j) ⊎ StopsBefore (row r i v n ws) r i v n ws j
row_has r i v n [] j w e l = absurd (none-some w e)
row_has r i v n (u ∷ ws) zero w e l =
    let same : u ≡ w = same_Some u w e in
    let t : links r v u ≡ true = subst (λ z. links r v z ≡ true) (sym same) l in
    inl (moved (row r i v n (u ∷ ws)) i n i (n + 0) refl (omega arith) (has_left (one (links r v u) (i, n)) (cond (stops r v u) [] (row r i v (n + 1) ws)) (i, n) (has_one (links r v u) (i, n) t)))
row_has r i v n (u ∷ ws) (suc j) w e l =
    ⊎_elim
    (λ s. inr (record {
      place = 0;
      node = u;
      before = omega arith;
      there = refl;
      stops_here = s;
      edge = λ t. moved (row r i v n (u ∷ ws)) i n i (n + 0) refl (omega arith) (has_left (one (links r v u) (i, n)) (cond (stops r v u) [] (row r i v (n + 1) ws)) (i, n) (has_one (links r v u) (i, n) t));
    }))
    (λ s.
    let step : (k : ℕ) → HasEdge (row r i v (n + 1) ws) i (n + 1 + k) → HasEdge (row r i v n (u ∷ ws)) i (n + suc k) =
    λ k h. moved (row r i v n (u ∷ ws)) i (n + 1 + k) i (n + suc k) refl (omega arith) (has_right (one (links r v u) (i, n)) (cond (stops r v u) [] (row r i v (n + 1) ws)) (i, n + 1 + k) (has_cond (stops r v u) (row r i v (n + 1) ws) (i, n + 1 + k) s h)) in
    ⊎_elim
    (λ h. inl (step j h))
    (λ b. let q = b.before in inr (record { place = suc b.place; node = b.node; before = omega arith; there = b.there; stops_here = b.stops_here; edge = λ t. step b.place (b.edge t) }))
    (row_has r i v (n + 1) ws j w e l))
    (cases_Bool (stops r v u))

-- ---- all rows

-- the edge goes from a node of the list to a related one behind it
pub record IsForward (r : Relation) (n : ℕ) (vs : List Node) (a b : ℕ) : Type 0 where
  pub first : ℕ
  pub second : ℕ
  pub from : Node
  pub to : Node
  pub source : a ≡ n + first
  pub target : b ≡ n + second
  pub less : first < second
  pub is_first : slice_get vs first ≡ Some from
  pub is_second : slice_get vs second ≡ Some to
  pub related : links r from to ≡ true

pub forward_sound : (r : Relation) (n : ℕ) (vs : List Node) (a b : ℕ) → HasEdge (forward_edges r n vs) a b → IsForward r n vs a b
forward_sound r n [] a b h = absurd (none-some (a, b) h.1)
forward_sound r n (v ∷ vs) a b h =
    ⊎_elim
    (λ g.
    let t = row_sound r n v (n + 1) vs a b g in
    let p = t.source in
    let q = t.target in
    record { first = 0; second = suc t.place; from = v; to = t.node; source = omega arith; target = omega arith; less = omega arith; is_first = refl; is_second = t.there; related = t.related })
    (λ g.
    let t = forward_sound r (n + 1) vs a b g in
    let p = t.source in
    let q = t.target in
    let l = t.less in
    record { first = suc t.first; second = suc t.second; from = t.from; to = t.to; source = omega arith; target = omega arith; less = omega arith; is_first = t.is_first; is_second = t.is_second; related = t.related })
    (has_cases (row r n v (n + 1) vs) (forward_edges r (n + 1) vs) (a, b) h)

-- the row of i stops at a node before j, which has an edge if it is related
pub record StopsBetween (edges : List (ℕ × ℕ)) (r : Relation) (n : ℕ) (vs : List Node) (v : Node) (i j : ℕ) : Type 0 where
  pub place : ℕ
  pub node : Node
  pub behind : i < place
  pub before : place < j
  pub there : slice_get vs place ≡ Some node
  pub stops_here : stops r v node ≡ true
  pub edge : links r v node ≡ true → HasEdge edges (n + i) (n + place)

forward_has : (r : Relation) (n : ℕ) (vs : List Node) (i j : ℕ) (v w : Node) → i < j → slice_get vs i ≡ Some v → slice_get vs j ≡ Some w → links r v w ≡ true → HasEdge (forward_edges r n vs) (n + i) (n + j) ⊎ StopsBetween (forward_edges r n vs) r n vs v i j
forward_has r n [] i j v w l e f t = absurd (none-some v e)
forward_has r n (u ∷ vs) i zero v w l e f t = absurd (omega arith)
forward_has r n (u ∷ vs) zero (suc j) v w l e f t =
    let same : u ≡ v = same_Some u v e in
    let related : links r u w ≡ true = subst (λ z. links r z w ≡ true) (sym same) t in
    let step : (k : ℕ) → HasEdge (row r n u (n + 1) vs) n (n + 1 + k) → HasEdge (forward_edges r n (u ∷ vs)) (n + 0) (n + suc k) =
    λ k h. moved (forward_edges r n (u ∷ vs)) n (n + 1 + k) (n + 0) (n + suc k) (omega arith) (omega arith) (has_left (row r n u (n + 1) vs) (forward_edges r (n + 1) vs) (n, n + 1 + k) h) in
    ⊎_elim
    (λ h. inl (step j h))
    (λ b. let q = b.before in inr (record {
      place = suc b.place;
      node = b.node;
      behind = omega arith;
      before = omega arith;
      there = b.there;
      stops_here = subst (λ z. stops r z b.node ≡ true) same b.stops_here;
      edge = λ g. step b.place (b.edge (subst (λ z. links r z b.node ≡ true) (sym same) g));
    }))
    (row_has r n u (n + 1) vs j w f related)
forward_has r n (u ∷ vs) (suc i) (suc j) v w l e f t =
    let step : (k : ℕ) → HasEdge (forward_edges r (n + 1) vs) (n + 1 + i) (n + 1 + k) → HasEdge (forward_edges r n (u ∷ vs)) (n + suc i) (n + suc k) =
    λ k h. moved (forward_edges r n (u ∷ vs)) (n + 1 + i) (n + 1 + k) (n + suc i) (n + suc k) (omega arith) (omega arith) (has_right (row r n u (n + 1) vs) (forward_edges r (n + 1) vs) (n + 1 + i, n + 1 + k) h) in
    ⊎_elim
    (λ h. inl (step j h))
    (λ b. let p = b.behind in let q = b.before in inr (record { place = suc b.place; node = b.node; behind = omega arith; before = omega arith; there = b.there; stops_here = b.stops_here; edge = λ g. step b.place (b.edge g) }))
    (forward_has r (n + 1) vs i j v w (omega arith) e f t)

-- where a row stops between two related nodes, both are related to the node at which it stops
abbrev pub Divides : Relation → List Node → Type 0
Divides r vs = (i k j : ℕ) (v u w : Node) → i < k → k < j → slice_get vs i ≡ Some v → slice_get vs k ≡ Some u → slice_get vs j ≡ Some w → links r v w ≡ true → stops r v u ≡ true → (links r v u ≡ true) × (links r u w ≡ true)

reached : (r : Relation) (vs : List Node) → Divides r vs → (d i j : ℕ) (v w : Node) → j ≤ i + d → i < j → slice_get vs i ≡ Some v → slice_get vs j ≡ Some w → links r v w ≡ true → Reaches (forward_edges r 0 vs) i j
reached r vs divides zero i j v w m l e f t = absurd (omega arith)
reached r vs divides (suc d) i j v w m l e f t =
    ⊎_elim
    (λ h. reach_edge (forward_edges r 0 vs) i j (moved (forward_edges r 0 vs) (0 + i) (0 + j) i j (omega arith) (omega arith) h))
    (λ b.
    let p = b.behind in
    let q = b.before in
    let parts = divides i b.place j v b.node w p q e b.there f t b.stops_here in
    reach_join (forward_edges r 0 vs) i b.place j
    (reach_edge (forward_edges r 0 vs) i b.place (moved (forward_edges r 0 vs) (0 + i) (0 + b.place) i b.place (omega arith) (omega arith) (b.edge parts.0)))
    (reached r vs divides d b.place j b.node w (omega arith) q b.there f parts.1))
    (forward_has r 0 vs i j v w l e f t)

pub forward_reaches : (r : Relation) (vs : List Node) → Divides r vs → (i j : ℕ) (v w : Node) → i < j → slice_get vs i ≡ Some v → slice_get vs j ≡ Some w → links r v w ≡ true → Reaches (forward_edges r 0 vs) i j
forward_reaches r vs divides i j v w l e f t = reached r vs divides j i j v w (omega arith) l e f t
