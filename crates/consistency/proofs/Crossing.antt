-- The edges between blocks have a cycle exactly where edges that leave blocks have one.
use Rattle.std.proofs.Common.{◌≡◌, ◌≢◌, ℕ, zero, suc, ◌<◌, ◌⊎◌, List, [], ◌∷◌, ◌++◌, Bool, true, ◌&&◌, length, Option, Some, None, refl, sym, ap, ◌∙◌, subst, ⊎_elim, inl, inr, arith}
use Rattle.std.specs.Prelude.{slice_get, nat_eq, not, All, get_or}
use Rattle.std.proofs.lemmas.Bool.{and_parts, and_from, eqb-true, eq-eqb, ne_eqb, not-true, not_from_false, both_ways, cases_Bool, cases_eq, cases_order, cond-true, cond-false}
use Rattle.std.proofs.lemmas.Option.{none-some, same_Some, slice_get_within, slice_get-get_or, get_or_from_slice_get}
use Rattle.axiom_model.specs.declared.MemoryModel.{MemoryModel}
use Rattle.axiom_model.specs.declared.Action.{Action}
use Rattle.axiom_model.specs.declared.Event.{Event}
use Rattle.axiom_model.specs.declared.Event.TheVariants.{Initial, At}
use Rattle.axiom_model.specs.Cycles.{Chain, NoCycle}
use Rattle.axiom_model.specs.Execution.{Execution, action_at, actions_of, SameBlock}
use Rattle.axiom_model.specs.Models.{GlobalEdge, Leaves}
use Rattle.axiom_model.specs.Sorting.{EndsBelow, HasEdge, IsSimpleCycle}
use Rattle.axiom_model.proofs.Places.{once_turn}
use Rattle.consistency.specs.declared.numbering.Node.{Node}
use Rattle.consistency.specs.Evidence.{AtMost, AreActions, ends_of, IsBlockCycle}
use Rattle.consistency.specs.Numbering.{node_event, place_of, event_at, block_of, block_at, IsNumbering}
use Rattle.consistency.specs.Edges.{one}
use Rattle.consistency.specs.Blocks.{block_edges, crossing, ends_at, crossings, cycle_ends, BlocksBelow}
use Rattle.consistency.specs.Graphs.{Reaches, Lists}
use Rattle.consistency.proofs.Members.{has_left, has_right, has_cases, has_one, one_has}
use Rattle.consistency.proofs.Reaching.{reach_edge, reach_join}
use Rattle.consistency.proofs.Finding.{event_at-node, node_at, stands, placed_at}
use Rattle.consistency.proofs.Circling.{joined_from, closed, first_least, at_most_same, at_most_numbered}

-- ---- edges between blocks

between_has : (nodes : List Node) (edges : List (ℕ × ℕ)) (k a b : ℕ) → slice_get edges k ≡ Some (a, b) → (block_at nodes a ≡ block_at nodes b → ⊥) → HasEdge (block_edges nodes edges) (block_at nodes a) (block_at nodes b)
between_has nodes [] k a b e n = absurd (none-some (a, b) e)
between_has nodes (d ∷ es) zero a b e n =
    let same : (a, b) ≡ d = sym (same_Some d (a, b) e) in
    let t : not (nat_eq (block_at nodes a) (block_at nodes b)) ≡ true = not_from_false (nat_eq (block_at nodes a) (block_at nodes b)) (ne_eqb (block_at nodes a) (block_at nodes b) n) in
    subst (λ z. HasEdge (block_edges nodes (z ∷ es)) (block_at nodes a) (block_at nodes b)) same
    (has_left (one (not (nat_eq (block_at nodes a) (block_at nodes b))) (block_at nodes a, block_at nodes b)) (block_edges nodes es) (block_at nodes a, block_at nodes b) (has_one (not (nat_eq (block_at nodes a) (block_at nodes b))) (block_at nodes a, block_at nodes b) t))
between_has nodes (d ∷ es) (suc k) a b e n =
    has_right (one (not (nat_eq (block_at nodes d.0) (block_at nodes d.1))) (block_at nodes d.0, block_at nodes d.1)) (block_edges nodes es) (block_at nodes a, block_at nodes b) (between_has nodes es k a b e n)

-- an edge from block x to another block y
pub record Crosses (nodes : List Node) (edges : List (ℕ × ℕ)) (x y : ℕ) : Type 0 where
  pub first : ℕ
  pub second : ℕ
  pub edge : HasEdge edges first second
  pub from : block_at nodes first ≡ x
  pub to : block_at nodes second ≡ y

pub between_sound : (nodes : List Node) (edges : List (ℕ × ℕ)) (x y : ℕ) → HasEdge (block_edges nodes edges) x y → Crosses nodes edges x y × (x ≢ y)
between_sound nodes [] x y h = absurd (none-some (x, y) h.1)
between_sound nodes (d ∷ es) x y h =
    ⊎_elim
    (λ g.
    let o = one_has (not (nat_eq (block_at nodes d.0) (block_at nodes d.1))) (block_at nodes d.0, block_at nodes d.1) (x, y) g in
    let a : block_at nodes d.0 ≡ x = ap (λ z. z.0) o.1 in
    let b : block_at nodes d.1 ≡ y = ap (λ z. z.1) o.1 in (
      record { first = d.0; second = d.1; edge = (0, refl); from = a; to = b },
      λ same. both_ways (nat_eq (block_at nodes d.0) (block_at nodes d.1)) (not-true (nat_eq (block_at nodes d.0) (block_at nodes d.1)) o.0) (eq-eqb (block_at nodes d.0) (block_at nodes d.1) (a ∙ same ∙ sym b)),
    ))
    (λ g. let r = between_sound nodes es x y g in (record { first = r.0.first; second = r.0.second; edge = (suc r.0.edge.0, r.0.edge.1); from = r.0.from; to = r.0.to }, r.1))
    (has_cases (one (not (nat_eq (block_at nodes d.0) (block_at nodes d.1))) (block_at nodes d.0, block_at nodes d.1)) (block_edges nodes es) (x, y) h)

abbrev leads : List Node → ℕ → ℕ → ℕ × ℕ → Bool
leads nodes a b z = nat_eq (block_at nodes z.0) (block_at nodes a) && nat_eq (block_at nodes z.1) (block_at nodes b)

-- edges between blocks are edges between nodes, where blocks are numbers of nodes
pub blocks_below : (nodes : List Node) (edges : List (ℕ × ℕ)) → BlocksBelow nodes → All (EndsBelow (length nodes)) edges → All (EndsBelow (length nodes)) (block_edges nodes edges)
blocks_below nodes edges below ends k d l =
    let e = get_or (block_edges nodes edges) k d in
    let s = (between_sound nodes edges e.0 e.1 (k, slice_get-get_or (block_edges nodes edges) k d l)).0 in
    let i = s.edge.0 in
    let h = subst (EndsBelow (length nodes)) (get_or_from_slice_get edges i (s.first, s.second) (s.first, s.second) s.edge.1) (ends i (s.first, s.second) (slice_get_within edges i (s.first, s.second) s.edge.1)) in
    (subst (λ n. n < length nodes) s.from (block_at_below s.first h.0), subst (λ n. n < length nodes) s.to (block_at_below s.second h.1))
  where
    block_at_below : (n : ℕ) → n < length nodes → block_at nodes n < length nodes
    block_at_below n l = let v = node_at nodes n l in subst (λ o. block_of o < length nodes) (sym v.1) (below n v.0 v.1)

crossing_exists : (nodes : List Node) (edges : List (ℕ × ℕ)) (k a b : ℕ) → slice_get edges k ≡ Some (a, b) → (e : ℕ × ℕ) × (crossing nodes (block_at nodes a) (block_at nodes b) edges ≡ Some e)
crossing_exists nodes [] k a b e = absurd (none-some (a, b) e)
crossing_exists nodes (d ∷ es) zero a b e =
    let same : (a, b) ≡ d = sym (same_Some d (a, b) e) in
    (d, cond-true (leads nodes a b d) (Some d) (crossing nodes (block_at nodes a) (block_at nodes b) es) (subst (λ z. leads nodes a b z ≡ true) same (and_from (nat_eq (block_at nodes a) (block_at nodes a)) (nat_eq (block_at nodes b) (block_at nodes b)) (eq-eqb (block_at nodes a) (block_at nodes a) refl) (eq-eqb (block_at nodes b) (block_at nodes b) refl))))
crossing_exists nodes (d ∷ es) (suc k) a b e =
    ⊎_elim
    (λ t. (d, cond-true (leads nodes a b d) (Some d) (crossing nodes (block_at nodes a) (block_at nodes b) es) t))
    (λ t. let r = crossing_exists nodes es k a b e in (r.0, cond-false (leads nodes a b d) (Some d) (crossing nodes (block_at nodes a) (block_at nodes b) es) t ∙ r.1))
    (cases_Bool (leads nodes a b d))

crossing_sound : (nodes : List Node) (x y : ℕ) (edges : List (ℕ × ℕ)) (e : ℕ × ℕ) → crossing nodes x y edges ≡ Some e → HasEdge edges e.0 e.1 × (block_at nodes e.0 ≡ x) × (block_at nodes e.1 ≡ y)
crossing_sound nodes x y [] e h = absurd (none-some e h)
crossing_sound nodes x y (d ∷ es) e h =
    ⊎_elim
    (λ t.
    let same : d ≡ e = same_Some d e (sym (cond-true (nat_eq (block_at nodes d.0) x && nat_eq (block_at nodes d.1) y) (Some d) (crossing nodes x y es) t) ∙ h) in
    let p = and_parts (nat_eq (block_at nodes d.0) x) (nat_eq (block_at nodes d.1) y) t in
    ((0, ap Some same), subst (λ z. block_at nodes z.0 ≡ x) same (eqb-true (block_at nodes d.0) x p.0), subst (λ z. block_at nodes z.1 ≡ y) same (eqb-true (block_at nodes d.1) y p.1)))
    (λ t.
    let r = crossing_sound nodes x y es e (sym (cond-false (nat_eq (block_at nodes d.0) x && nat_eq (block_at nodes d.1) y) (Some d) (crossing nodes x y es) t) ∙ h) in
    ((suc r.0.0, r.0.1), r.1, r.2))
    (cases_Bool (nat_eq (block_at nodes d.0) x && nat_eq (block_at nodes d.1) y))

-- ---- where the edges between blocks have no cycle

-- an edge stays in a block or leads to another
block_edge : (nodes : List Node) (edges : List (ℕ × ℕ)) (a b : ℕ) → HasEdge edges a b → (block_at nodes a ≡ block_at nodes b) ⊎ Reaches (block_edges nodes edges) (block_at nodes a) (block_at nodes b)
block_edge nodes edges a b c =
    ⊎_elim (λ e. inl e) (λ n. inr (reach_edge (block_edges nodes edges) (block_at nodes a) (block_at nodes b) (between_has nodes edges c.0 a b c.1 n))) (cases_eq (block_at nodes a) (block_at nodes b))

-- a chain of edges stays in a block or is a chain between blocks
blocks_reach : (nodes : List Node) (edges : List (ℕ × ℕ)) (a : ℕ) (l : List ℕ) (b : ℕ) → Chain (HasEdge edges) a l b → (block_at nodes a ≡ block_at nodes b) ⊎ Reaches (block_edges nodes edges) (block_at nodes a) (block_at nodes b)
blocks_reach nodes edges a [] b c = block_edge nodes edges a b c
blocks_reach nodes edges a (z ∷ zs) b c =
    let rest = blocks_reach nodes edges z zs b c.1 in
    ⊎_elim
    (λ e. subst (λ k. (k ≡ block_at nodes b) ⊎ Reaches (block_edges nodes edges) k (block_at nodes b)) (sym e) rest)
    (λ r. ⊎_elim
    (λ e. inr (subst (λ k. Reaches (block_edges nodes edges) (block_at nodes a) k) e r))
    (λ t. inr (reach_join (block_edges nodes edges) (block_at nodes a) (block_at nodes z) (block_at nodes b) r t))
    rest)
    (block_edge nodes edges a z c.0)

module _ (m : MemoryModel) (x : Execution) (nodes : List Node) (num : IsNumbering x nodes) (edges : List (ℕ × ℕ)) (lists : Lists nodes (GlobalEdge m x) edges) where
  abbrev between : List (ℕ × ℕ)
  between = block_edges nodes edges

  -- the event has this number, and its action stands in this block
  record Standing (e : Event) (n b : ℕ) : Type 0 where
    pub node : Node
    pub there : slice_get nodes n ≡ Some node
    pub event : node_event node ≡ e
    pub block : node.block ≡ b

  standing : (e : Event) (n : ℕ) → place_of nodes e ≡ Some n → Standing e n (block_at nodes n)
  standing e n p = let v = placed_at x nodes num e n p in record { node = v.0; there = v.1; event = v.2; block = sym (ap block_of v.1) }

  -- events of one block
  one_block : (a b : Event) (n k c d : ℕ) → Standing a n c → Standing b k d → SameBlock x a b → c ≡ d
  one_block a b n k c d s t h =
      sym s.block ∙ num.one_block n k s.node t.node s.there t.there (subst (λ z. SameBlock x z (node_event t.node)) (sym s.event) (subst (λ z. SameBlock x a z) (sym t.event) h)) ∙ t.block

  same_block : (a b : Event) (n k c d : ℕ) → Standing a n c → Standing b k d → c ≡ d → SameBlock x a b
  same_block a b n k c d s t e =
      subst (λ z. SameBlock x z b) s.event (subst (λ z. SameBlock x (node_event s.node) z) t.event (num.same_block n k s.node t.node s.there t.there (s.block ∙ e ∙ sym t.block)))

  -- an event in the block of an action is an action
  placed_beside : (a b : Event) (k : ℕ) → SameBlock x a b → place_of nodes a ≡ Some k → (j : ℕ) × (place_of nodes b ≡ Some j)
  placed_beside Initial Initial k s p = (k, p)
  placed_beside Initial (At h i) k s p = absurd s
  placed_beside (At h i) Initial k s p = absurd s
  placed_beside (At h i) (At g j) k s p =
      ⊎_elim
      (λ e. let same : At h i ≡ At g j = (let c = s.0 in cc) in (k, subst (λ z. place_of nodes z ≡ Some k) same p))
      (λ o.
      let a = node_like (actions_of x.threads g) j o.2.there in
      let t = stands x nodes num (At g j) a.0 a.1 in
      (t.place, t.placed))
      s.1
    where
      node_like : (acts : List Action) (j : ℕ) → j < length acts → (p : Action) × (slice_get acts j ≡ Some p)
      node_like [] j l = absurd (omega arith)
      node_like (p ∷ acts) zero l = (p, refl)
      node_like (q ∷ acts) (suc j) l = node_like acts j (omega arith)

  -- the next pair begins in another block, to which a chain leads
  step : (p q : Event × Event) (n : ℕ) → Leaves m x p q → place_of nodes p.0 ≡ Some n → (k : ℕ) × (place_of nodes q.0 ≡ Some k) × Reaches between (block_at nodes n) (block_at nodes k)
  step p q n l h =
      let j = joined_from nodes edges p.0 p.1 n (lists.complete p.0 p.1 l.0) h in
      let k = placed_beside p.1 q.0 j.0 l.2 j.1 in
      let here = standing p.0 n h in
      let there = standing p.1 j.0 j.1 in
      let next = standing q.0 k.0 k.1 in
      let e : block_at nodes j.0 ≡ block_at nodes k.0 = one_block p.1 q.0 j.0 k.0 (block_at nodes j.0) (block_at nodes k.0) there next l.2 in (
        k.0,
        k.1,
        subst (λ z. Reaches between (block_at nodes n) z) e
            (⊎_elim (λ same. absurd (l.1 (same_block p.0 p.1 n j.0 (block_at nodes n) (block_at nodes j.0) here there same))) (λ r. r) (blocks_reach nodes edges n j.2.0 j.0 j.2.1)),
      )

  steps : (p : Event × Event) (l : List (Event × Event)) (q : Event × Event) (n : ℕ) → Chain (Leaves m x) p l q → place_of nodes p.0 ≡ Some n → (k : ℕ) × (place_of nodes q.0 ≡ Some k) × Reaches between (block_at nodes n) (block_at nodes k)
  steps p [] q n c h = step p q n c h
  steps p (z ∷ zs) q n c h =
      let here = step p z n c.0 h in
      let rest = steps z zs q here.0 c.1 here.1 in
      (rest.0, rest.1, reach_join between (block_at nodes n) (block_at nodes here.0) (block_at nodes rest.0) here.2 rest.2)

  last_placed : (p : Event × Event) (l : List (Event × Event)) (q : Event × Event) → Chain (Leaves m x) p l q → (k : ℕ) × (place_of nodes q.0 ≡ Some k)
  last_placed p [] q c = let j = lists.complete p.0 p.1 c.0 in placed_beside p.1 q.0 j.0 c.2 j.1
  last_placed p (z ∷ zs) q c = last_placed z zs q c.1

  pub no_block_cycle : NoCycle (HasEdge between) → NoCycle (Leaves m x)
  no_block_cycle none [] c = c
  no_block_cycle none (p ∷ l) c =
      let n = last_placed p l p c in
      let r = steps p l p n.0 c n.1 in
      closed between none (block_at nodes n.0) (subst (λ k. Reaches between (block_at nodes n.0) (block_at nodes k)) (same_Some r.0 n.0 (sym r.1 ∙ n.1)) r.2)

  -- ---- where they have one

  abbrev pair_in : Option (ℕ × ℕ) → Event × Event
  pair_in None = (Initial, Initial)
  pair_in (Some e) = (event_at nodes e.0, event_at nodes e.1)

  abbrev pair_at : ℕ → ℕ → Event × Event
  pair_at a b = pair_in (crossing nodes a b edges)

  -- the pair is an edge from a block to another
  record Passes (a b : ℕ) (p : Event × Event) : Type 0 where
    pub first : ℕ
    pub second : ℕ
    pub edge : GlobalEdge m x p.0 p.1
    pub differ : a ≢ b
    pub from : Standing p.0 first a
    pub to : Standing p.1 second b
    pub ends : ends_at nodes (crossing nodes a b edges) ≡ p.0 ∷ p.1 ∷ []

  at_number : (n b : ℕ) → n < length nodes → block_at nodes n ≡ b → Standing (event_at nodes n) n b
  at_number n b l e = let v = node_at nodes n l in record { node = v.0; there = v.1; event = sym (event_at-node nodes n v.0 v.1); block = sym (ap block_of v.1) ∙ e }

  passes : (a b : ℕ) → HasEdge between a b → Passes a b (pair_at a b)
  passes a b h =
      let s = between_sound nodes edges a b h in
      let c = crossing_exists nodes edges s.0.edge.0 s.0.first s.0.second s.0.edge.1 in
      let d : crossing nodes a b edges ≡ Some c.0 = subst (λ z. crossing nodes z b edges ≡ Some c.0) s.0.from (subst (λ z. crossing nodes (block_at nodes s.0.first) z edges ≡ Some c.0) s.0.to c.1) in
      let t = crossing_sound nodes a b edges c.0 d in
      let l = lists.below c.0.0 c.0.1 t.0 in
      let facts : Passes a b (pair_in (Some c.0)) = record {
        first = c.0.0;
        second = c.0.1;
        edge = lists.sound c.0.0 c.0.1 t.0;
        differ = s.1;
        from = at_number c.0.0 a l.0 t.1;
        to = at_number c.0.1 b l.1 t.2;
        ends = ap (ends_at nodes) d;
      } in
      subst (λ o. Passes a b (pair_in o)) (sym d) facts

  abbrev first_pair : ℕ → List ℕ → ℕ → Event × Event
  first_pair a [] b = pair_at a b
  first_pair a (z ∷ zs) b = pair_at a z

  abbrev rest_pairs : ℕ → List ℕ → ℕ → List (Event × Event)
  rest_pairs a [] b = []
  rest_pairs a (z ∷ zs) b = first_pair z zs b ∷ rest_pairs z zs b

  -- the pair leads from a block of the cycle to the next
  record FromTo (a : ℕ) (l : List ℕ) (b : ℕ) (i : ℕ) (p : Event × Event) : Type 0 where
    pub left : ℕ
    pub entered : ℕ
    pub is_left : slice_get (a ∷ l) i ≡ Some left
    pub is_entered : slice_get (l ++ b ∷ []) i ≡ Some entered
    pub passes : Passes left entered p

  first_passes : (a : ℕ) (l : List ℕ) (b : ℕ) → Chain (HasEdge between) a l b → (c : ℕ) × Passes a c (first_pair a l b)
  first_passes a [] b c = (b, passes a b c)
  first_passes a (z ∷ zs) b c = (z, passes a z c.0)

  pair_of : (a : ℕ) (l : List ℕ) (b : ℕ) → Chain (HasEdge between) a l b → (i : ℕ) (p : Event × Event) → slice_get (first_pair a l b ∷ rest_pairs a l b) i ≡ Some p → FromTo a l b i p
  pair_of a [] b c zero p e = record { left = a; entered = b; is_left = refl; is_entered = refl; passes = subst (Passes a b) (same_Some (pair_at a b) p e) (passes a b c) }
  pair_of a [] b c (suc i) p e = absurd (none-some p e)
  pair_of a (z ∷ zs) b c zero p e = record { left = a; entered = z; is_left = refl; is_entered = refl; passes = subst (Passes a z) (same_Some (pair_at a z) p e) (passes a z c.0) }
  pair_of a (z ∷ zs) b c (suc i) p e =
      let r = pair_of z zs b c.1 i p e in
      record { left = r.left; entered = r.entered; is_left = r.is_left; is_entered = r.is_entered; passes = r.passes }

  leaves : (a c : ℕ) (p q : Event × Event) (n b : ℕ) → Passes a c p → Standing q.0 n b → c ≡ b → Leaves m x p q
  leaves a c p q n b s t e =
      (s.edge, (λ h. s.differ (one_block p.0 p.1 s.first s.second a c s.from s.to h)), same_block p.1 q.0 s.second n c b s.to t e)

  pairs_chain : (a : ℕ) (l : List ℕ) (b : ℕ) → Chain (HasEdge between) a l b → (q : Event × Event) (n : ℕ) → Standing q.0 n b → Chain (Leaves m x) (first_pair a l b) (rest_pairs a l b) q
  pairs_chain a [] b c q n s = leaves a b (pair_at a b) q n b (passes a b c) s refl
  pairs_chain a (z ∷ zs) b c q n s =
      let f = first_passes z zs b c.1 in
      (leaves a z (pair_at a z) (first_pair z zs b) f.1.first z (passes a z c.0) f.1.from refl, pairs_chain z zs b c.1 q n s)

  pairs_listed : (a : ℕ) (l : List ℕ) (b : ℕ) → Chain (HasEdge between) a l b → crossings nodes edges a l b ≡ ends_of (first_pair a l b ∷ rest_pairs a l b)
  pairs_listed a [] b c = (passes a b c).ends
  pairs_listed a (z ∷ zs) b c = ap (λ k. k ++ crossings nodes edges z zs b) (passes a z c.0).ends ∙ ap (λ k. (pair_at a z).0 ∷ (pair_at a z).1 ∷ k) (pairs_listed z zs b c.1)

  ends_action : (ps : List (Event × Event)) → ((i : ℕ) (p : Event × Event) → slice_get ps i ≡ Some p → ((a : Action) × (action_at x p.0 ≡ Some a)) × ((a : Action) × (action_at x p.1 ≡ Some a))) → AreActions x (ends_of ps)
  ends_action [] f i e h = absurd (none-some e h)
  ends_action (p ∷ ps) f zero e h = subst (λ z. (a : Action) × (action_at x z ≡ Some a)) (same_Some p.0 e h) (f 0 p refl).0
  ends_action (p ∷ ps) f (suc zero) e h = subst (λ z. (a : Action) × (action_at x z ≡ Some a)) (same_Some p.1 e h) (f 0 p refl).1
  ends_action (p ∷ ps) f (suc (suc i)) e h = ends_action ps (λ j q g. f (suc j) q g) i e h

  standing_action : (e : Event) (n b : ℕ) → Standing e n b → (a : Action) × (action_at x e ≡ Some a)
  standing_action e n b s = (s.node.action, ap (action_at x) (sym s.event) ∙ num.sound n s.node s.there)

  -- the first of two pairs begins at the earlier event where it leaves the lower block
  lower_first : (p q : Event × Event) (n k a b : ℕ) → Standing p.0 n a → Standing q.0 k b → a < b → AtMost p.0 q.0
  lower_first p q n k a b s t l =
      let c = s.block in
      let d = t.block in
      subst (λ z. AtMost z q.0) s.event (subst (λ z. AtMost (node_event s.node) z) t.event
      (⊎_elim
      (λ e. let same : s.node ≡ t.node = same_Some s.node t.node (sym s.there ∙ ap (slice_get nodes) e ∙ t.there) in let f : s.node.block ≡ t.node.block = ap (λ z. z.block) same in absurd (omega arith))
      (⊎_elim
      (λ e. at_most_numbered x nodes num n k s.node t.node (omega arith) s.there t.there)
      (λ e. let r = num.block_rises k n t.node s.node (omega arith) t.there s.there in absurd (omega arith)))
      (cases_order n k)))

  at_most_self : (p : Event × Event) (n a : ℕ) → Standing p.0 n a → AtMost p.0 p.0
  at_most_self p n a s = subst (λ z. AtMost z z) s.event (at_most_same s.node)

  pub block_cycle_from : (l : List ℕ) → IsSimpleCycle between l → IsBlockCycle m x (cycle_ends nodes edges l)
  block_cycle_from [] s = absurd s.cycle
  block_cycle_from (a ∷ l) s =
      let pairs = first_pair a l a ∷ rest_pairs a l a in
      let f = first_passes a l a s.cycle in
      record {
        pairs = pairs;
        listed = pairs_listed a l a s.cycle;
        cycle = pairs_chain a l a s.cycle (first_pair a l a) f.1.first f.1.from;
        once = λ i j p q g h b.
            let c = pair_of a l a s.cycle i p g in
            let d = pair_of a l a s.cycle j q h in
            let same : c.entered ≡ d.entered = one_block p.1 q.1 c.passes.second d.passes.second c.entered d.entered c.passes.to d.passes.to b in
            once_turn (a ∷ []) l s.once i j d.entered (subst (λ n. slice_get (l ++ a ∷ []) i ≡ Some n) same c.is_entered) d.is_entered;
        least_first = λ i p q g h.
            let c = pair_of a l a s.cycle 0 p g in
            let d = pair_of a l a s.cycle i q h in
            let le = first_least between (a ∷ l) s i c.left d.left c.is_left d.is_left in
            ⊎_elim
            (λ e.
            let same : 0 ≡ i = s.once 0 i d.left (subst (λ n. slice_get (a ∷ l) 0 ≡ Some n) e c.is_left) d.is_left in
            let one : p ≡ q = same_Some p q (sym g ∙ ap (slice_get pairs) same ∙ h) in
            subst (λ z. AtMost p.0 z.0) one (at_most_self p c.passes.first c.left c.passes.from))
            (⊎_elim
            (λ less. lower_first p q c.passes.first d.passes.first c.left d.left c.passes.from d.passes.from less)
            (λ more. absurd (omega arith)))
            (cases_order c.left d.left);
        actions = subst (AreActions x) (sym (pairs_listed a l a s.cycle))
            (ends_action pairs (λ i p g.
            let c = pair_of a l a s.cycle i p g in
            (standing_action p.0 c.passes.first c.left c.passes.from, standing_action p.1 c.passes.second c.entered c.passes.to)));
      }
