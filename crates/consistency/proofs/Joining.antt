-- The edges that the code lists stand for the edges of the condition.
use Rattle.std.proofs.Common.{◌≡◌, ℕ, zero, suc, ◌+◌, ◌-◌, ◌<◌, ◌⊎◌, List, [], ◌∷◌, ◌++◌, true, false, cond, length, get_or, Some, refl, sym, ap, ◌∙◌, subst, ⊎_elim, inl, inr, arith}
use Rattle.std.specs.Prelude.{slice_get, nat_eq, not}
use Rattle.std.proofs.lemmas.Bool.{and_parts, and_from, or_cases, or_left, or_right, eqb-true, eq-eqb, cases_order, not-true, not_from_false, both_ways, false_from_ne_true}
use Rattle.std.proofs.lemmas.Option.{none-some, same_Some, slice_get_within, slice_get-get_or, get_or_from_slice_get}
use Rattle.axiom_model.specs.declared.MemoryModel.{MemoryModel}
use Rattle.axiom_model.specs.declared.MemoryModel.TheVariants.{Sc, Tso, Pso}
use Rattle.axiom_model.specs.declared.Action.{Action}
use Rattle.axiom_model.specs.declared.Action.TheVariants.{Read, Write, Create, Join, Start, End}
use Rattle.axiom_model.specs.declared.Event.{Event}
use Rattle.axiom_model.specs.declared.Event.TheVariants.{Initial, At}
use Rattle.axiom_model.specs.declared.RfPair.{RfPair}
use Rattle.axiom_model.specs.Execution.{Execution, action_at, IsOf, SameThread, Before, Ordered, cell_of, SameCell, Co, Fr, SameBlock}
use Rattle.axiom_model.specs.WellMade.{Shape, WellMade, Writes}
use Rattle.axiom_model.specs.Models.{keeps, LocalEdge, GlobalEdge, GlobalRf}
use Rattle.axiom_model.specs.Models as models
use Rattle.axiom_model.specs.Sorting.{HasEdge}
use Rattle.consistency.specs.declared.numbering.Node.{Node}
use Rattle.consistency.specs.declared.relations.Relation.{Relation}
use Rattle.consistency.specs.declared.relations.Relation.TheVariants.{Cell, Kept, Section, Across}
use Rattle.consistency.specs.declared.relations.Condition.{Condition}
use Rattle.consistency.specs.declared.relations.Condition.TheVariants.{Local, Global}
use Rattle.consistency.specs.declared.links.Link.{Link}
use Rattle.consistency.specs.Numbering.{node_event, place_of, event_at, IsNumbering}
use Rattle.consistency.specs.Relations.{is_start, is_end, reaches_out, same_number, same_thread, creates, ends, links, sees, Edge}
use Rattle.consistency.specs.Edges.{row, forward_edges, cross_edges, node_edges, link, source_links, co_links, later_links, cell_in, next_behind, next_in, numbered_links, links_of, edges_of}
use Rattle.consistency.specs.Graphs.{Reaches, Joined, Lists}
use Rattle.consistency.proofs.Members.{Has, has_left, has_right, has_cases, where_has, has_where}
use Rattle.consistency.proofs.Reaching.{reach_edge, reach_join, reach_left, reach_right}
use Rattle.consistency.proofs.Rowing.{moved, row_sound, row_has, forward_sound, forward_reaches}
use Rattle.consistency.proofs.Relating.{same_number-some, some-same_number, divides}
use Rattle.consistency.proofs.Finding.{initial_unplaced, event_at-node, placed_at, event_at-placed, stands, found}
use Rattle.consistency.proofs.Linking.{source_has, source_sound, Adjacent, co_has, co_sound, next_has, next_for, later_has, later_sound, next_in_sound, next_in_has, numbered_has, numbered_sound}

-- ---- creates and joins

-- the edges from each node to nodes of all threads: exactly the related pairs
cross_sound : (all : List Node) (n : ℕ) (vs : List Node) (a b : ℕ) → HasEdge (cross_edges all n vs) a b → (i : ℕ) × (v : Node) × (w : Node) × (a ≡ n + i) × (slice_get vs i ≡ Some v) × (slice_get all b ≡ Some w) × (links Across v w ≡ true)
cross_sound all n [] a b h = absurd (none-some (a, b) h.1)
cross_sound all n (v ∷ vs) a b h =
    ⊎_elim
    (λ g.
    let t = row_sound Across n v 0 all a b (where_has (reaches_out v.action) (row Across n v 0 all) (a, b) g) in
    let p = t.source in
    let q = t.target in
    let same : t.place ≡ b = omega arith in
    (0, v, t.node, omega arith, refl, subst (λ k. slice_get all k ≡ Some t.node) same t.there, t.related))
    (λ g. let r = cross_sound all (n + 1) vs a b g in let p = r.3 in (suc r.0, r.1, r.2, omega arith, r.4, r.5, r.6))
    (has_cases (cond (reaches_out v.action) (row Across n v 0 all) []) (cross_edges all (n + 1) vs) (a, b) h)

row_across : (i : ℕ) (v : Node) (n : ℕ) (ws : List Node) (j : ℕ) (w : Node) → slice_get ws j ≡ Some w → links Across v w ≡ true → HasEdge (row Across i v n ws) i (n + j)
row_across i v n ws j w e t = ⊎_elim (λ h. h) (λ s. let f : false ≡ true = s.stops_here in cc) (row_has Across i v n ws j w e t)

creates_out : (a : Action) (w : Node) → creates a w ≡ true → reaches_out a ≡ true
creates_out (Create h f v) w t = refl
creates_out _ w t = cc

end_out : (a : Action) → is_end a ≡ true → reaches_out a ≡ true
end_out End t = refl
end_out _ t = cc

ends_out : (v : Node) (p : Action) → ends v p ≡ true → reaches_out v.action ≡ true
ends_out v (Join h) t = end_out v.action (and_parts (nat_eq v.handle h) (is_end v.action) t).1
ends_out v _ t = cc

across_out : (v w : Node) → links Across v w ≡ true → reaches_out v.action ≡ true
across_out v w t = ⊎_elim (λ c. creates_out v.action w c) (λ c. ends_out v w.action c) (or_cases (creates v.action w) (ends v w.action) t)

cross_has : (all : List Node) (n : ℕ) (vs : List Node) (i j : ℕ) (v w : Node) → slice_get vs i ≡ Some v → slice_get all j ≡ Some w → links Across v w ≡ true → HasEdge (cross_edges all n vs) (n + i) j
cross_has all n [] i j v w e f t = absurd (none-some v e)
cross_has all n (u ∷ vs) zero j v w e f t =
    let same : v ≡ u = sym (same_Some u v e) in
    let related : links Across u w ≡ true = subst (λ z. links Across z w ≡ true) same t in
    moved (cross_edges all n (u ∷ vs)) n (0 + j) (n + 0) j (omega arith) (omega arith)
    (has_left (cond (reaches_out u.action) (row Across n u 0 all) []) (cross_edges all (n + 1) vs) (n, 0 + j)
    (has_where (reaches_out u.action) (row Across n u 0 all) (n, 0 + j) (across_out u w related) (row_across n u 0 all j w f related)))
cross_has all n (u ∷ vs) (suc i) j v w e f t =
    moved (cross_edges all n (u ∷ vs)) (n + 1 + i) j (n + suc i) j (omega arith) refl
    (has_right (cond (reaches_out u.action) (row Across n u 0 all) []) (cross_edges all (n + 1) vs) (n + 1 + i, j) (cross_has all (n + 1) vs i j v w e f t))

-- ---- what a well-made execution says of sources and orders

-- the event is Initial or an action
abbrev pub Writing : Execution → Event → Type 0
Writing x e = (e ≡ Initial) ⊎ ((p : Action) × (action_at x e ≡ Some p))

writes_writing : (s : Shape) (x : Execution) (e : Event) (c v : ℕ) → Writes s x e c v → Writing x e
writes_writing s x Initial c v w = inl refl
writes_writing s x (At h i) c v w = inr (Write c v, w)

module _ (s : Shape) (x : Execution) (made : WellMade s x) where
  pub reader_of : (k : ℕ) (p : RfPair) → slice_get x.rf k ≡ Some p → (c : ℕ) × (v : ℕ) × (action_at x p.reader ≡ Some (Read c v))
  reader_of k p e =
      subst (λ q. (c : ℕ) × (v : ℕ) × (action_at x q.reader ≡ Some (Read c v))) (get_or_from_slice_get x.rf k p p e) (made.readers k p (slice_get_within x.rf k p e))

  pub source_of : (k : ℕ) (p : RfPair) → slice_get x.rf k ≡ Some p → Writing x p.source
  source_of k p e =
      let r = reader_of k p e in
      let once = made.reads p.reader r.0 r.1 r.2 in
      let same : k ≡ once.place = once.only k p e refl in
      let pair : p ≡ record { reader = p.reader; source = once.source } = same_Some p (record { reader = p.reader; source = once.source }) (sym e ∙ ap (slice_get x.rf) same ∙ once.pair) in
      subst (Writing x) (sym (ap (λ q. q.source) pair)) (writes_writing s x once.source r.0 r.1 once.writes)

  -- an event of a cell's order that is not the first is a write
  pub later_write : (c : ℕ) (l : List Event) (i : ℕ) (e : Event) → slice_get x.co c ≡ Some l → slice_get l (suc i) ≡ Some e → (p : Action) × (action_at x e ≡ Some p)
  later_write c l i e h g =
      let o = made.orders c l h in
      let f : slice_get o.writes i ≡ Some e = subst (λ m. slice_get m (suc i) ≡ Some e) o.initial_first g in
      let w = o.sound i e f in
      (Write c w.0, w.1)

  pub order_first : (c : ℕ) (l : List Event) (e : Event) → slice_get x.co c ≡ Some l → slice_get l 0 ≡ Some e → e ≡ Initial
  order_first c l e h g =
      let o = made.orders c l h in
      let f : Some Initial ≡ Some e = subst (λ m. slice_get m 0 ≡ Some e) o.initial_first g in
      sym (same_Some Initial e f)

  pub order_once : (c : ℕ) (l : List Event) (i j : ℕ) (e : Event) → slice_get x.co c ≡ Some l → slice_get l i ≡ Some e → slice_get l j ≡ Some e → i ≡ j
  order_once c l zero zero e h f g = refl
  order_once c l zero (suc j) e h f g =
      let w = later_write c l j e h g in
      absurd (none-some w.0 (subst (λ d. action_at x d ≡ Some w.0) (order_first c l e h f) w.1))
  order_once c l (suc i) zero e h f g =
      let w = later_write c l i e h f in
      absurd (none-some w.0 (subst (λ d. action_at x d ≡ Some w.0) (order_first c l e h g) w.1))
  order_once c l (suc i) (suc j) e h f g =
      let o = made.orders c l h in
      let a : slice_get o.writes i ≡ Some e = subst (λ m. slice_get m (suc i) ≡ Some e) o.initial_first f in
      let b : slice_get o.writes j ≡ Some e = subst (λ m. slice_get m (suc j) ≡ Some e) o.initial_first g in
      ap suc (o.once i j e a b)

-- ---- the edges of one condition

module _ (s : Shape) (x : Execution) (made : WellMade s x) (nodes : List Node) (num : IsNumbering x nodes) where
  -- numbers of a list's edges
  abbrev Numbered : List (ℕ × ℕ) → Type 0
  Numbered edges = (a b : ℕ) → HasEdge edges a b → (a < length nodes) × (b < length nodes)

  -- the listed edges are pairs of the relation
  abbrev Sound : (Event → Event → Type 0) → List (ℕ × ℕ) → Type 0
  Sound R edges = (a b : ℕ) → HasEdge edges a b → R (event_at nodes a) (event_at nodes b)

  -- of two nodes, one before the other, in one thread
  ordered : (P : Action → Action → Type 0) (i j : ℕ) (v w : Node) → i < j → slice_get nodes i ≡ Some v → slice_get nodes j ≡ Some w → v.handle ≡ w.handle → P v.action w.action → Ordered x P (node_event v) (node_event w)
  ordered P i j v w l e f h p = record {
    before = (h, ⊎_elim (λ b. absurd (omega arith)) (λ b. b.1) (num.rising i j v w l e f));
    first = v.action;
    second = w.action;
    is_first = num.sound i v e;
    is_second = num.sound j w f;
    holds = p;
  }

  -- a related pair of nodes, one before the other, is an edge of the condition
  related_local : (i j : ℕ) (v w : Node) → i < j → slice_get nodes i ≡ Some v → slice_get nodes j ≡ Some w → links Cell v w ≡ true → LocalEdge x (node_event v) (node_event w)
  related_local i j v w l e f t =
      let p = and_parts (nat_eq v.handle w.handle) (same_number (cell_of v.action) (cell_of w.action)) t in
      LocalEdge.po (ordered SameCell i j v w l e f (eqb-true v.handle w.handle p.0) (same_number-some (cell_of v.action) (cell_of w.action) p.1))

  related_kept : (m : MemoryModel) (i j : ℕ) (v w : Node) → i < j → slice_get nodes i ≡ Some v → slice_get nodes j ≡ Some w → links (Kept m) v w ≡ true → GlobalEdge m x (node_event v) (node_event w)
  related_kept m i j v w l e f t =
      let p = and_parts (nat_eq v.handle w.handle) (keeps m v.action w.action) t in
      GlobalEdge.kept (models.in_thread (ordered (λ a b. keeps m a b ≡ true) i j v w l e f (eqb-true v.handle w.handle p.0) p.1))

  related_section : (m : MemoryModel) (i j : ℕ) (v w : Node) → i < j → slice_get nodes i ≡ Some v → slice_get nodes j ≡ Some w → links Section v w ≡ true → GlobalEdge m x (node_event v) (node_event w)
  related_section m i j v w l e f t =
      let b = num.same_block i j v w e f (eqb-true v.block w.block t) in
      GlobalEdge.kept (models.in_section (ordered (λ a c. Unit {0}) i j v w l e f b.0 tt) b)

  creates_kept : (m : MemoryModel) (a : Event) (p : Action) (w : Node) → action_at x a ≡ Some p → action_at x (node_event w) ≡ Some w.action → creates p w ≡ true → GlobalEdge m x a (node_event w)
  creates_kept m a (Create h f v) w e g t =
      let q = and_parts (nat_eq h w.handle) (is_start w.action) t in
      let k : h ≡ w.handle = eqb-true h w.handle q.0 in
      GlobalEdge.kept (models.creates {h = h} {f = f} {v = v} e (g ∙ ap Some (starts w.action q.1)) (sym k))
    where
      starts : (a : Action) → is_start a ≡ true → a ≡ Start
      starts Start t = refl
      starts _ t = cc
  creates_kept m a _ w e g t = cc

  ends_kept : (m : MemoryModel) (v : Node) (b : Event) (p : Action) → action_at x (node_event v) ≡ Some v.action → action_at x b ≡ Some p → ends v p ≡ true → GlobalEdge m x (node_event v) b
  ends_kept m v b (Join h) e g t =
      let q = and_parts (nat_eq v.handle h) (is_end v.action) t in
      let k : v.handle ≡ h = eqb-true v.handle h q.0 in
      GlobalEdge.kept (models.joins {h = h} (e ∙ ap Some (stop v.action q.1)) k g)
    where
      stop : (a : Action) → is_end a ≡ true → a ≡ End
      stop End t = refl
      stop _ t = cc
  ends_kept m v b _ e g t = cc

  related_across : (m : MemoryModel) (i j : ℕ) (v w : Node) → slice_get nodes i ≡ Some v → slice_get nodes j ≡ Some w → links Across v w ≡ true → GlobalEdge m x (node_event v) (node_event w)
  related_across m i j v w e f t =
      ⊎_elim
      (λ c. creates_kept m (node_event v) v.action w (num.sound i v e) (num.sound j w f) c)
      (λ c. ends_kept m v (node_event w) w.action (num.sound i v e) (num.sound j w f) c)
      (or_cases (creates v.action w) (ends v w.action) t)

  at_nodes : (R : Event → Event → Type 0) (a b : ℕ) (v w : Node) → slice_get nodes a ≡ Some v → slice_get nodes b ≡ Some w → R (node_event v) (node_event w) → R (event_at nodes a) (event_at nodes b)
  at_nodes R a b v w e f r = subst (λ d. R d (event_at nodes b)) (sym (event_at-node nodes a v e)) (subst (λ d. R (node_event v) d) (sym (event_at-node nodes b w f)) r)

  forward_is : (R : Event → Event → Type 0) (r : Relation) → ((i j : ℕ) (v w : Node) → i < j → slice_get nodes i ≡ Some v → slice_get nodes j ≡ Some w → links r v w ≡ true → R (node_event v) (node_event w)) → Sound R (forward_edges r 0 nodes)
  forward_is R r f a b h =
      let t = forward_sound r 0 nodes a b h in
      let p = t.source in
      let q = t.target in
      let c : t.first ≡ a = omega arith in
      let d : t.second ≡ b = omega arith in
      subst (λ n. R (event_at nodes n) (event_at nodes b)) c (subst (λ n. R (event_at nodes t.first) (event_at nodes n)) d
      (at_nodes R t.first t.second t.from t.to t.is_first t.is_second (f t.first t.second t.from t.to t.less t.is_first t.is_second t.related)))

  forward_below : (r : Relation) → Numbered (forward_edges r 0 nodes)
  forward_below r a b h =
      let t = forward_sound r 0 nodes a b h in
      let p = t.source in
      let q = t.target in
      let c = slice_get_within nodes t.first t.from t.is_first in
      let d = slice_get_within nodes t.second t.to t.is_second in
      (omega arith, omega arith)

  cross_is : (m : MemoryModel) → Sound (GlobalEdge m x) (cross_edges nodes 0 nodes)
  cross_is m a b h =
      let t = cross_sound nodes 0 nodes a b h in
      let p = t.3 in
      let c : t.0 ≡ a = omega arith in
      subst (λ n. GlobalEdge m x (event_at nodes n) (event_at nodes b)) c
      (at_nodes (GlobalEdge m x) t.0 b t.1 t.2 t.4 t.5 (related_across m t.0 b t.1 t.2 t.4 t.5 t.6))

  cross_below : Numbered (cross_edges nodes 0 nodes)
  cross_below a b h =
      let t = cross_sound nodes 0 nodes a b h in
      let p = t.3 in
      let c = slice_get_within nodes t.0 t.1 t.4 in
      let d = slice_get_within nodes b t.2 t.5 in
      (omega arith, omega arith)

  sound_join : (R : Event → Event → Type 0) (l m : List (ℕ × ℕ)) → Sound R l → Sound R m → Sound R (l ++ m)
  sound_join R l m f g a b h = ⊎_elim (λ e. f a b e) (λ e. g a b e) (has_cases l m (a, b) h)

  below_join : (l m : List (ℕ × ℕ)) → Numbered l → Numbered m → Numbered (l ++ m)
  below_join l m f g a b h = ⊎_elim (λ e. f a b e) (λ e. g a b e) (has_cases l m (a, b) h)

  node_sound : (c : Condition) → Sound (Edge c x) (node_edges c nodes)
  node_sound Local = forward_is (LocalEdge x) Cell related_local
  node_sound (Global m) =
      sound_join (GlobalEdge m x) (forward_edges (Kept m) 0 nodes) (forward_edges Section 0 nodes ++ cross_edges nodes 0 nodes) (forward_is (GlobalEdge m x) (Kept m) (related_kept m))
      (sound_join (GlobalEdge m x) (forward_edges Section 0 nodes) (cross_edges nodes 0 nodes) (forward_is (GlobalEdge m x) Section (related_section m)) (cross_is m))

  node_below : (c : Condition) → Numbered (node_edges c nodes)
  node_below Local = forward_below Cell
  node_below (Global m) =
      below_join (forward_edges (Kept m) 0 nodes) (forward_edges Section 0 nodes ++ cross_edges nodes 0 nodes) (forward_below (Kept m))
      (below_join (forward_edges Section 0 nodes) (cross_edges nodes 0 nodes) (forward_below Section) cross_below)

  -- ---- the links

  rf_edge : (c : Condition) (k : ℕ) (p : RfPair) → slice_get x.rf k ≡ Some p → sees c p ≡ true → Edge c x p.source p.reader
  rf_edge Local k p e t = LocalEdge.rf (k, e)
  rf_edge (Global Sc) k p e t = GlobalEdge.rf (k, e)
  rf_edge (Global Tso) k p e t = GlobalEdge.rf ((k, e), apart p.source p.reader t)
    where
      apart : (a b : Event) → not (same_thread a b) ≡ true → SameThread a b → ⊥
      apart a Initial t h = h
      apart Initial (At k j) t h = h
      apart (At h i) (At k j) t g = both_ways (nat_eq h k) (not-true (nat_eq h k) t) (eq-eqb h k g)
  rf_edge (Global Pso) k p e t = GlobalEdge.rf ((k, e), apart p.source p.reader t)
    where
      apart : (a b : Event) → not (same_thread a b) ≡ true → SameThread a b → ⊥
      apart a Initial t h = h
      apart Initial (At k j) t h = h
      apart (At h i) (At k j) t g = both_ways (nat_eq h k) (not-true (nat_eq h k) t) (eq-eqb h k g)

  co_edge : (c : Condition) (cell : ℕ) (a b : Event) → Co x cell a b → Edge c x a b
  co_edge Local cell a b h = LocalEdge.co cell h
  co_edge (Global m) cell a b h = GlobalEdge.co cell h

  fr_edge : (c : Condition) (a b : Event) → Fr x a b → Edge c x a b
  fr_edge Local a b h = LocalEdge.fr h
  fr_edge (Global m) a b h = GlobalEdge.fr h

  adjacent_co : (cell : ℕ) (l : List Event) (a b : Event) → slice_get x.co cell ≡ Some l → Adjacent l a b → Co x cell a b
  adjacent_co cell l a b e h = (l, e, (h.0, suc h.0, omega arith, h.1, h.2))

  -- the cell of a read's node
  cell_at : (e : Event) (p : Action) → action_at x e ≡ Some p → cell_in nodes e ≡ cell_of p
  cell_at e p a =
      let t = stands x nodes num e p a in
      let f = found 0 nodes e t.place t.placed in
      let n : f.node.action ≡ p = same_Some f.node.action p (sym (num.sound f.place f.node f.there) ∙ ap (action_at x) f.event ∙ a) in
      f.cell ∙ ap cell_of n

  next_fr : (k : ℕ) (p : RfPair) (w : Event) → slice_get x.rf k ≡ Some p → next_for nodes x.co p ≡ Some w → Fr x p.reader w
  next_fr k p w e h =
      let r = reader_of s x made k p e in
      let n = next_in_sound x.co (cell_in nodes p.reader) p.source w h in
      let c : n.0 ≡ r.0 = same_Some n.0 r.0 (sym n.2 ∙ cell_at p.reader (Read r.0 r.1) r.2) in
      record {
        cell = r.0;
        value = r.1;
        source = p.source;
        reads = r.2;
        from = (k, e);
        later = subst (λ z. Co x z p.source w) c (adjacent_co n.0 n.1 p.source w n.3 n.4);
      }

  link_edge : (c : Condition) (l : Link) → Has (links_of c nodes x.rf x.co) l → Edge c x l.source l.target
  link_edge c l h =
      ⊎_elim
      (λ g. let t = source_sound c x.rf l g in subst (λ z. Edge c x z.source z.target) t.4 (rf_edge c t.0 t.1 t.2 t.3))
      (λ g. ⊎_elim
      (λ f. let t = co_sound x.co l f in co_edge c t.0 l.source l.target (adjacent_co t.0 t.1 l.source l.target t.2 t.3))
      (λ f. let t = later_sound nodes x.co x.rf l f in subst (λ z. Edge c x z.source z.target) t.5 (fr_edge c t.1.reader t.2 (next_fr t.0 t.1 t.2 t.3 t.4)))
      (has_cases (co_links x.co) (later_links nodes x.co x.rf) l g))
      (has_cases (source_links c x.rf) (co_links x.co ++ later_links nodes x.co x.rf) l h)

  link_sound : (c : Condition) → Sound (Edge c x) (numbered_links nodes (links_of c nodes x.rf x.co))
  link_sound c a b h =
      let t = numbered_sound nodes (links_of c nodes x.rf x.co) a b h in
      subst (λ d. Edge c x d (event_at nodes b)) (sym (event_at-placed x nodes num t.0.source a t.2))
      (subst (λ d. Edge c x t.0.source d) (sym (event_at-placed x nodes num t.0.target b t.3)) (link_edge c t.0 t.1))

  link_below : (c : Condition) → Numbered (numbered_links nodes (links_of c nodes x.rf x.co))
  link_below c a b h =
      let t = numbered_sound nodes (links_of c nodes x.rf x.co) a b h in
      let v = placed_at x nodes num t.0.source a t.2 in
      let w = placed_at x nodes num t.0.target b t.3 in
      (slice_get_within nodes a v.0 v.1, slice_get_within nodes b w.0 w.1)

  -- ---- every pair of the relation is a chain

  abbrev joined_by : List (ℕ × ℕ) → Event → Event → Type 0
  joined_by edges e f = Joined nodes edges e f

  -- between actions
  joined_reach : (edges : List (ℕ × ℕ)) (e f : Event) (a b : ℕ) → place_of nodes e ≡ Some a → place_of nodes f ≡ Some b → Reaches edges a b → Joined nodes edges e f
  joined_reach edges e f a b p q r = (b, q, inr (a, p, r))

  joined_initial : (edges : List (ℕ × ℕ)) (f : Event) (p : Action) → action_at x f ≡ Some p → Joined nodes edges Initial f
  joined_initial edges f p a = let t = stands x nodes num f p a in (t.place, t.placed, inl (initial_unplaced nodes))

  joined_left : (l m : List (ℕ × ℕ)) (e f : Event) → Joined nodes l e f → Joined nodes (l ++ m) e f
  joined_left l m e f j = (j.0, j.1, ⊎_elim (λ n. inl n) (λ r. inr (r.0, r.1, reach_left l m r.0 j.0 r.2)) j.2)

  joined_right : (l m : List (ℕ × ℕ)) (e f : Event) → Joined nodes m e f → Joined nodes (l ++ m) e f
  joined_right l m e f j = (j.0, j.1, ⊎_elim (λ n. inl n) (λ r. inr (r.0, r.1, reach_right l m r.0 j.0 r.2)) j.2)

  -- the numbers of a pair of program order rise
  in_turn : (a b : Event) (i j : ℕ) (v w : Node) → Before a b → slice_get nodes i ≡ Some v → slice_get nodes j ≡ Some w → node_event v ≡ a → node_event w ≡ b → (i < j) × (v.handle ≡ w.handle)
  in_turn Initial b i j v w h e f p q = absurd h
  in_turn (At k n) Initial i j v w h e f p q = absurd h
  in_turn (At k n) (At l m) i j v w h e f p q =
      let a : v.handle ≡ k = cc in
      let b : v.index ≡ n = cc in
      let c : w.handle ≡ l = cc in
      let d : w.index ≡ m = cc in
      let g : k ≡ l = h.0 in
      let r : n < m = h.1 in
      let same : v.handle ≡ w.handle = omega arith in (
        ⊎_elim
            (λ t. let o : v ≡ w = same_Some v w (sym e ∙ ap (slice_get nodes) t ∙ f) in let z : v.index ≡ w.index = ap (λ y. y.index) o in absurd (omega arith))
            (⊎_elim (λ t. t) (λ t. absurd (⊎_elim (λ y. omega arith) (λ y. let z = y.1 in omega arith) (num.rising j i w v t f e))))
            (cases_order i j),
        same,
      )

  joined_forward : (r : Relation) (P : Action → Action → Type 0) (a b : Event) → Ordered x P a b → ((v w : Node) → v.handle ≡ w.handle → P v.action w.action → (i j : ℕ) → slice_get nodes i ≡ Some v → slice_get nodes j ≡ Some w → node_event v ≡ a → node_event w ≡ b → links r v w ≡ true) → Joined nodes (forward_edges r 0 nodes) a b
  joined_forward r P a b o f =
      let t = stands x nodes num a o.first o.is_first in
      let u = stands x nodes num b o.second o.is_second in
      let l = in_turn a b t.place u.place t.node u.node o.before t.there u.there t.event u.event in
      let holds : P t.node.action u.node.action = subst (λ p. P p u.node.action) (sym t.action) (subst (λ q. P o.first q) (sym u.action) o.holds) in
      joined_reach (forward_edges r 0 nodes) a b t.place u.place t.placed u.placed
      (forward_reaches r nodes (divides x nodes num r) t.place u.place t.node u.node l.0 t.there u.there (f t.node u.node l.1 holds t.place u.place t.there u.there t.event u.event))

  joined_across : (m : MemoryModel) (a b : Event) (p q : Action) → action_at x a ≡ Some p → action_at x b ≡ Some q → ((v w : Node) → node_event v ≡ a → node_event w ≡ b → v.action ≡ p → w.action ≡ q → links Across v w ≡ true) → Joined nodes (cross_edges nodes 0 nodes) a b
  joined_across m a b p q e f g =
      let t = stands x nodes num a p e in
      let u = stands x nodes num b q f in
      joined_reach (cross_edges nodes 0 nodes) a b t.place u.place t.placed u.placed
      (reach_edge (cross_edges nodes 0 nodes) t.place u.place (moved (cross_edges nodes 0 nodes) (0 + t.place) u.place t.place u.place (omega arith) refl (cross_has nodes 0 nodes t.place u.place t.node u.node t.there u.there (g t.node u.node t.event u.event t.action u.action))))

  handle_of : (v : Node) (h : ℕ) (e : Event) → node_event v ≡ e → IsOf h e → v.handle ≡ h
  handle_of v h Initial e i = absurd i
  handle_of v h (At k j) e i = let a : v.handle ≡ k = cc in a ∙ i

  joined_kept : (m : MemoryModel) (a b : Event) → models.Kept m x a b → Joined nodes (node_edges (Global m) nodes) a b
  joined_kept m a b (models.in_thread o) =
      joined_left (forward_edges (Kept m) 0 nodes) (forward_edges Section 0 nodes ++ cross_edges nodes 0 nodes) a b
      (joined_forward (Kept m) (λ p q. keeps m p q ≡ true) a b o (λ v w h p i j e f c d. and_from (nat_eq v.handle w.handle) (keeps m v.action w.action) (eq-eqb v.handle w.handle h) p))
  joined_kept m a b (models.in_section o b') =
      joined_right (forward_edges (Kept m) 0 nodes) (forward_edges Section 0 nodes ++ cross_edges nodes 0 nodes) a b
      (joined_left (forward_edges Section 0 nodes) (cross_edges nodes 0 nodes) a b
      (joined_forward Section (λ p q. Unit {0}) a b o (λ v w h p i j e f c d. eq-eqb v.block w.block (num.one_block i j v w e f (subst (λ z. SameBlock x z (node_event w)) (sym c) (subst (λ z. SameBlock x a z) (sym d) b'))))))
  joined_kept m a b (models.creates {h = h} {f = f} {v = n} e g i) =
      joined_right (forward_edges (Kept m) 0 nodes) (forward_edges Section 0 nodes ++ cross_edges nodes 0 nodes) a b
      (joined_right (forward_edges Section 0 nodes) (cross_edges nodes 0 nodes) a b
      (joined_across m a b (Create h f n) Start e g (λ v w c d p q.
      or_left (creates v.action w) (ends v w.action)
      (subst (λ z. creates z w ≡ true) (sym p) (and_from (nat_eq h w.handle) (is_start w.action) (eq-eqb h w.handle (sym (handle_of w h b d i))) (ap is_start q))))))
  joined_kept m a b (models.joins {h = h} e i g) =
      joined_right (forward_edges (Kept m) 0 nodes) (forward_edges Section 0 nodes ++ cross_edges nodes 0 nodes) a b
      (joined_right (forward_edges Section 0 nodes) (cross_edges nodes 0 nodes) a b
      (joined_across m a b End (Join h) e g (λ v w c d p q.
      or_right (creates v.action w) (ends v w.action)
      (subst (λ z. ends v z ≡ true) (sym q) (and_from (nat_eq v.handle h) (is_end v.action) (eq-eqb v.handle h (handle_of v h a c i)) (ap is_end p))))))
  joined_kept m a b (models.initial {q = q} e) = joined_initial (node_edges (Global m) nodes) b q e

  joined_local : (a b : Event) → Ordered x SameCell a b → Joined nodes (node_edges Local nodes) a b
  joined_local a b o =
      joined_forward Cell SameCell a b o (λ v w h p i j e f c d.
      and_from (nat_eq v.handle w.handle) (same_number (cell_of v.action) (cell_of w.action)) (eq-eqb v.handle w.handle h) (some-same_number (cell_of v.action) (cell_of w.action) p.0 p.1 p.2))

  -- ---- the links again

  abbrev linked : Condition → List (ℕ × ℕ)
  linked c = numbered_links nodes (links_of c nodes x.rf x.co)

  joined_link : (c : Condition) (a b : Event) (q : Action) → Has (links_of c nodes x.rf x.co) (link a b) → Writing x a → action_at x b ≡ Some q → Joined nodes (linked c) a b
  joined_link c a b q h w e =
      ⊎_elim
      (λ i. subst (λ z. Joined nodes (linked c) z b) (sym i) (joined_initial (linked c) b q e))
      (λ p.
      let t = stands x nodes num a p.0 p.1 in
      let u = stands x nodes num b q e in
      joined_reach (linked c) a b t.place u.place t.placed u.placed
      (reach_edge (linked c) t.place u.place (numbered_has nodes (links_of c nodes x.rf x.co) (link a b) t.place u.place h t.placed u.placed)))
      w

  joined_rf : (c : Condition) (k : ℕ) (p : RfPair) → slice_get x.rf k ≡ Some p → sees c p ≡ true → Joined nodes (linked c) p.source p.reader
  joined_rf c k p e t =
      let r = reader_of s x made k p e in
      joined_link c p.source p.reader (Read r.0 r.1) (has_left (source_links c x.rf) (co_links x.co ++ later_links nodes x.co x.rf) (link p.source p.reader) (source_has c x.rf k p e t)) (source_of s x made k p e) r.2

  co_link : (c : Condition) (cell : ℕ) (l : List Event) (a b : Event) → slice_get x.co cell ≡ Some l → Adjacent l a b → Has (links_of c nodes x.rf x.co) (link a b)
  co_link c cell l a b e h =
      has_right (source_links c x.rf) (co_links x.co ++ later_links nodes x.co x.rf) (link a b) (has_left (co_links x.co) (later_links nodes x.co x.rf) (link a b) (co_has x.co cell l a b e h))

  -- a chain along a cell's order, from one write to a later one
  co_chain : (c : Condition) (cell : ℕ) (l : List Event) → slice_get x.co cell ≡ Some l → (d i : ℕ) (a b : Event) (m n : ℕ) → slice_get l (suc i) ≡ Some a → slice_get l (suc i + suc d) ≡ Some b → place_of nodes a ≡ Some m → place_of nodes b ≡ Some n → Reaches (linked c) m n
  co_chain c cell l g zero i a b m n e f p q =
      let k : suc i + 1 ≡ suc (suc i) = omega arith in
      reach_edge (linked c) m n (numbered_has nodes (links_of c nodes x.rf x.co) (link a b) m n (co_link c cell l a b g (suc i, e, subst (λ z. slice_get l z ≡ Some b) k f)) p q)
  co_chain c cell l g (suc d) i a b m n e f p q =
      let within : suc i + suc (suc d) < length l = slice_get_within l (suc i + suc (suc d)) b f in
      let next = get_or l (suc (suc i)) a in
      let there : slice_get l (suc (suc i)) ≡ Some next = slice_get-get_or l (suc (suc i)) a (omega arith) in
      let w = later_write s x made cell l (suc i) next g there in
      let t = stands x nodes num next w.0 w.1 in
      let k : suc i + suc (suc d) ≡ suc (suc i) + suc d = omega arith in
      reach_join (linked c) m t.place n
      (reach_edge (linked c) m t.place (numbered_has nodes (links_of c nodes x.rf x.co) (link a next) m t.place (co_link c cell l a next g (suc i, e, there)) p t.placed))
      (co_chain c cell l g d (suc i) next b t.place n there (subst (λ z. slice_get l z ≡ Some b) k f) t.placed q)

  -- the same by places
  co_reach : (c : Condition) (cell : ℕ) (l : List Event) → slice_get x.co cell ≡ Some l → (i j : ℕ) (a b : Event) (m n : ℕ) → i < j → slice_get l (suc i) ≡ Some a → slice_get l (suc j) ≡ Some b → place_of nodes a ≡ Some m → place_of nodes b ≡ Some n → Reaches (linked c) m n
  co_reach c cell l g i j a b m n h e f p q =
      let k : suc j ≡ suc i + suc (j - suc i) = omega arith in
      co_chain c cell l g (j - suc i) i a b m n e (subst (λ z. slice_get l z ≡ Some b) k f) p q

  joined_co : (c : Condition) (cell : ℕ) (a b : Event) → Co x cell a b → Joined nodes (linked c) a b
  joined_co c cell a b (l, g, (zero, zero, h, e, f)) = absurd (omega arith)
  joined_co c cell a b (l, g, (suc i, zero, h, e, f)) = absurd (omega arith)
  joined_co c cell a b (l, g, (zero, suc j, h, e, f)) =
      let w = later_write s x made cell l j b g f in
      subst (λ z. Joined nodes (linked c) z b) (sym (order_first s x made cell l a g e)) (joined_initial (linked c) b w.0 w.1)
  joined_co c cell a b (l, g, (suc i, suc j, h, e, f)) =
      let v = later_write s x made cell l i a g e in
      let w = later_write s x made cell l j b g f in
      let t = stands x nodes num a v.0 v.1 in
      let u = stands x nodes num b w.0 w.1 in
      joined_reach (linked c) a b t.place u.place t.placed u.placed (co_reach c cell l g i j a b t.place u.place (omega arith) e f t.placed u.placed)

  -- from the read to the write behind its source, and on along the order
  joined_behind : (c : Condition) (r b : Event) (p : Action) (cell : ℕ) (l : List Event) (i j : ℕ) (next : Event) → action_at x r ≡ Some p → slice_get x.co cell ≡ Some l → Has (links_of c nodes x.rf x.co) (link r next) → slice_get l (suc i) ≡ Some next → i < j → slice_get l j ≡ Some b → Joined nodes (linked c) r b
  joined_behind c r b p cell l i zero next a g h e k f = absurd (omega arith)
  joined_behind c r b p cell l i (suc j) next a g h e k f =
      let v = later_write s x made cell l i next g e in
      let w = later_write s x made cell l j b g f in
      let o = stands x nodes num r p a in
      let t = stands x nodes num next v.0 v.1 in
      let u = stands x nodes num b w.0 w.1 in
      let first = reach_edge (linked c) o.place t.place (numbered_has nodes (links_of c nodes x.rf x.co) (link r next) o.place t.place h o.placed t.placed) in
      joined_reach (linked c) r b o.place u.place o.placed u.placed
      (⊎_elim
      (λ same.
      let one : next ≡ b = same_Some next b (sym e ∙ ap (λ z. slice_get l (suc z)) same ∙ f) in
      let number : t.place ≡ u.place = same_Some t.place u.place (sym t.placed ∙ ap (place_of nodes) one ∙ u.placed) in
      subst (λ z. Reaches (linked c) o.place z) number first)
      (⊎_elim
      (λ less. reach_join (linked c) o.place t.place u.place first (co_reach c cell l g i j next b t.place u.place less e f t.placed u.placed))
      (λ more. absurd (omega arith)))
      (cases_order i j))

  joined_fr : (c : Condition) (a b : Event) → Fr x a b → Joined nodes (linked c) a b
  joined_fr c a b r =
      let l = r.later.0 in
      let g = r.later.1 in
      let i = r.later.2.0 in
      let j = r.later.2.1 in
      let less : i < j = r.later.2.2 in
      let e = r.later.2.3 in
      let f = r.later.2.4 in
      let next = get_or l (suc i) b in
      let within : j < length l = slice_get_within l j b f in
      let there : slice_get l (suc i) ≡ Some next = slice_get-get_or l (suc i) b (omega arith) in
      let n : next_behind l r.source ≡ Some next = next_has l i r.source next e there (λ k h. order_once s x made r.cell l k i r.source g h e) in
      let cell : cell_in nodes a ≡ Some r.cell = cell_at a (Read r.cell r.value) r.reads in
      let found_next : next_for nodes x.co (record { reader = a; source = r.source }) ≡ Some next = subst (λ o. next_in x.co o r.source ≡ Some next) (sym cell) (next_in_has x.co r.cell l r.source next g n) in
      joined_behind c a b (Read r.cell r.value) r.cell l i j next r.reads g
      (has_right (source_links c x.rf) (co_links x.co ++ later_links nodes x.co x.rf) (link a next)
      (has_right (co_links x.co) (later_links nodes x.co x.rf) (link a next)
      (later_has nodes x.co x.rf r.from.0 (record { reader = a; source = r.source }) next r.from.1 found_next)))
      there less f

  seen_by : (m : MemoryModel) (a b : Event) → GlobalRf m x a b → (k : ℕ) × (slice_get x.rf k ≡ Some (record { reader = b; source = a })) × (sees (Global m) (record { reader = b; source = a }) ≡ true)
  seen_by Sc a b r = (r.0, r.1, refl)
  seen_by Tso a b r = (r.0.0, r.0.1, not_from_false (same_thread a b) (false_from_ne_true (same_thread a b) (λ t. r.1 (together a b t))))
    where
      together : (a b : Event) → same_thread a b ≡ true → SameThread a b
      together Initial b t = cc
      together (At h i) Initial t = cc
      together (At h i) (At k j) t = eqb-true h k t
  seen_by Pso a b r = (r.0.0, r.0.1, not_from_false (same_thread a b) (false_from_ne_true (same_thread a b) (λ t. r.1 (together a b t))))
    where
      together : (a b : Event) → same_thread a b ≡ true → SameThread a b
      together Initial b t = cc
      together (At h i) Initial t = cc
      together (At h i) (At k j) t = eqb-true h k t

  complete : (c : Condition) (a b : Event) → Edge c x a b → Joined nodes (edges_of c nodes x.rf x.co) a b
  complete Local a b (LocalEdge.po p) = joined_left (node_edges Local nodes) (linked Local) a b (joined_local a b p)
  complete Local a b (LocalEdge.rf r) = joined_right (node_edges Local nodes) (linked Local) a b (joined_rf Local r.0 (record { reader = b; source = a }) r.1 refl)
  complete Local a b (LocalEdge.co cell h) = joined_right (node_edges Local nodes) (linked Local) a b (joined_co Local cell a b h)
  complete Local a b (LocalEdge.fr h) = joined_right (node_edges Local nodes) (linked Local) a b (joined_fr Local a b h)
  complete (Global m) a b (GlobalEdge.kept k) = joined_left (node_edges (Global m) nodes) (linked (Global m)) a b (joined_kept m a b k)
  complete (Global m) a b (GlobalEdge.rf r) = let t = seen_by m a b r in joined_right (node_edges (Global m) nodes) (linked (Global m)) a b (joined_rf (Global m) t.0 (record { reader = b; source = a }) t.1 t.2)
  complete (Global m) a b (GlobalEdge.co cell h) = joined_right (node_edges (Global m) nodes) (linked (Global m)) a b (joined_co (Global m) cell a b h)
  complete (Global m) a b (GlobalEdge.fr h) = joined_right (node_edges (Global m) nodes) (linked (Global m)) a b (joined_fr (Global m) a b h)

  pub edges_of-lists : (c : Condition) → Lists nodes (Edge c x) (edges_of c nodes x.rf x.co)
  edges_of-lists c = record {
    below = below_join (node_edges c nodes) (linked c) (node_below c) (link_below c);
    sound = sound_join (Edge c x) (node_edges c nodes) (linked c) (node_sound c) (link_sound c);
    complete = complete c;
  }
