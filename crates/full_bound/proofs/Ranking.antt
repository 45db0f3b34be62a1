-- An execution with ranks, by its events.
use Rattle.std.proofs.Common.{◌≡◌, ℕ, zero, suc, ◌<◌, List, [], ◌∷◌, Option, Some, None, Bool, true, false, cond, length, refl, sym, ap, ◌∙◌, subst, ⊎_elim, arith}
use Rattle.std.specs.Prelude.{nat_eq, ◌&&◌, slice_get}
use Rattle.std.proofs.lemmas.Bool.{false≢true, cases_Bool, eqb-true, eq-eqb, and_parts, cond-true, cond-false, cases_order}
use Rattle.std.proofs.lemmas.Option.{same_Some, none-some, slice_get_within}
use Rattle.dg_base.proofs.Lists.{get_nothing, get_there}
use Rattle.axiom_model.specs.declared.MemoryModel.{MemoryModel}
use Rattle.axiom_model.specs.declared.MemoryModel.TheVariants.{Sc, Tso, Pso}
use Rattle.axiom_model.specs.declared.Action.{Action}
use Rattle.axiom_model.specs.declared.Action.TheVariants.{Read, Write, Create, Join, Start, End}
use Rattle.axiom_model.specs.declared.Event.{Event}
use Rattle.axiom_model.specs.declared.Event.TheVariants.{Initial, At}
use Rattle.axiom_model.specs.declared.RfPair.{RfPair}
use Rattle.axiom_model.specs.Execution.{Execution, actions_of, action_at, IsOf, Rf, Co, Fr, SameBlock}
use Rattle.axiom_model.specs.Models.{keeps, GlobalRf, LocalEdge, GlobalEdge}
use Rattle.axiom_model.specs.Models as models
use Rattle.axiom_model.specs.WellMade.{Shape, Writes, WellMade}
use Rattle.full_bound.proofs.Worlds.{World, Exists, made_at, WritesTo, InBlock, Related, IsGlobal, IsSeen, Edge, IsSound}
use Rattle.full_bound.proofs.Worlds as worlds
use Rattle.full_bound.proofs.Appending.{made_exists, write_exists}

abbrev pub is_event : Event → Event → Bool
is_event Initial Initial = true
is_event (At h i) (At k j) = nat_eq h k && nat_eq i j
is_event a b = false

pub event_same : (a b : Event) → is_event a b ≡ true → a ≡ b
event_same Initial Initial e = refl
event_same Initial (At k j) e = absurd (false≢true e)
event_same (At h i) Initial e = absurd (false≢true e)
event_same (At h i) (At k j) e = let t = and_parts (nat_eq h k) (nat_eq i j) e in ap (λ z. At z i) (eqb-true h k t.0) ∙ ap (λ z. At k z) (eqb-true i j t.1)

pub event_is : (a : Event) → is_event a a ≡ true
event_is Initial = refl
event_is (At h i) = ap (λ b. b && nat_eq i i) (eq-eqb h h refl) ∙ eq-eqb i i refl

-- the source of the first pair with this reader
pub source_in : List RfPair → Event → Event
source_in [] r = Initial
source_in (q ∷ qs) r = cond (is_event q.reader r) q.source (source_in qs r)

source_found : (qs : List RfPair) (r : Event) (k : ℕ) (q : RfPair) → slice_get qs k ≡ Some q → q.reader ≡ r → (j : ℕ) × (u : RfPair) × (slice_get qs j ≡ Some u) × (u.reader ≡ r) × (source_in qs r ≡ u.source)
unfolding source_in
source_found [] r k q e f = absurd (get_nothing k q e)
source_found (u ∷ qs) r zero q e f =
    let is : is_event u.reader r ≡ true = ap (λ z. is_event z.reader r) (same_Some u q e) ∙ ap (λ z. is_event z r) f ∙ event_is r in
    (0, u, refl, event_same u.reader r is, cond-true (is_event u.reader r) u.source (source_in qs r) is)
source_found (u ∷ qs) r (suc k) q e f =
    let it = source_found qs r k q e f in
    ⊎_elim (λ t. (0, u, refl, event_same u.reader r t, cond-true (is_event u.reader r) u.source (source_in qs r) t))
    (λ n. (suc it.0, it.1, it.2, it.3, cond-false (is_event u.reader r) u.source (source_in qs r) n ∙ it.4)) (cases_Bool (is_event u.reader r))

-- three orders that accept what there is of an execution
pub record AcceptsAll (m : MemoryModel) (x : Execution) (local global block : Event → ℕ) : Type 0 where
  pub local_forward : (a b : Event) → Exists (actions_of x.threads) a → Exists (actions_of x.threads) b → LocalEdge x a b → local a < local b
  pub global_forward : (a b : Event) → Exists (actions_of x.threads) a → Exists (actions_of x.threads) b → GlobalEdge m x a b → global a < global b
  pub one_in_each_block : (a b : Event) → SameBlock x a b → block a ≡ block b
  pub block_forward : (a b : Event) → Exists (actions_of x.threads) a → Exists (actions_of x.threads) b → GlobalEdge m x a b → (SameBlock x a b → ⊥) → block a < block b

module _ (m : MemoryModel) (s : Shape) (x : Execution) (made : WellMade s x) (local global block : Event → ℕ) (accept : AcceptsAll m x local global block)
    (differ : (a b : Event) → Exists (actions_of x.threads) a → Exists (actions_of x.threads) b → global a ≡ global b → a ≡ b)
    (cells : (e : Event) (c v : ℕ) → action_at x e ≡ Some (Write c v) → c < length s.initials) where
  abbrev pub world : World
  world = record { acts = actions_of x.threads; source = source_in x.rf; local = local; global = global; block = block }

  abbrev acts : ℕ → List Action
  acts = actions_of x.threads

  seen : (e : Event) (a : Action) → made_at acts e ≡ Some a → action_at x e ≡ Some a
  seen Initial a h = absurd (none-some a h)
  seen (At h i) a e = e

  looked : (e : Event) (a : Action) → action_at x e ≡ Some a → made_at acts e ≡ Some a
  looked Initial a h = absurd (none-some a h)
  looked (At h i) a e = e

  source_rf : (r : Event) (c v : ℕ) → made_at acts r ≡ Some (Read c v) → Rf x (source_in x.rf r) r × WritesTo s acts (source_in x.rf r) c v
  source_rf r c v h =
      let once = made.reads r c v (seen r (Read c v) h) in
      let it = source_found x.rf r once.place (record { reader = r; source = once.source }) once.pair refl in
      let same : it.0 ≡ once.place = once.only it.0 it.1 it.2 it.3 in
      let pair : it.1 ≡ record { reader = r; source = once.source } = same_Some it.1 (record { reader = r; source = once.source }) (sym it.2 ∙ ap (λ k. slice_get x.rf k) same ∙ once.pair) in
      let source : source_in x.rf r ≡ once.source = it.4 ∙ ap (λ (q : RfPair). q.source) pair in
      (subst (λ z. Rf x z r) (sym source) (once.place, once.pair), subst (λ z. WritesTo s acts z c v) (sym source) (back once.source once.writes)) where
        back : (e : Event) → Writes s x e c v → WritesTo s acts e c v
        back Initial z = z
        back (At k j) z = z

  -- each write of a cell has its place
  cell_low : (e : Event) (c v : ℕ) → WritesTo s acts e c v → c < length s.initials
  cell_low Initial c v h = slice_get_within s.initials c v h
  cell_low (At k j) c v h = cells (At k j) c v h

  placed : (e : Event) (c v : ℕ) (l : List Event) → slice_get x.co c ≡ Some l → WritesTo s acts e c v → (i : ℕ) × (slice_get l i ≡ Some e)
  placed Initial c v l h k = (0, ap (λ (z : List Event). slice_get z 0) (made.orders c l h).initial_first)
  placed (At n j) c v l h k =
      let o = made.orders c l h in
      let it = o.complete (At n j) v k in
      (suc it.0, ap (λ (z : List Event). slice_get z (suc it.0)) o.initial_first ∙ it.1)

  ordered : (c : ℕ) (a b : Event) (u v : ℕ) → WritesTo s acts a c u → WritesTo s acts b c v → global a < global b → Co x c a b
  ordered c a b u v p q less =
      let low : c < length x.co = omega (arith, cell_low a c u p, made.lists) in
      let l = get_there x.co c low in
      let i = placed a c u l.0 l.1 p in
      let j = placed b c v l.0 l.1 q in
      ⊎_elim
      (λ same. absurd (let e : a ≡ b = same_Some a b (sym i.1 ∙ ap (λ k. slice_get l.0 k) same ∙ j.1) in omega (arith, ap global e, less)))
      (λ y. ⊎_elim (λ lt. (l.0, l.1, (i.0, j.0, lt, i.1, j.1)))
      (λ gt. absurd (let back = accept.global_forward b a (write_exists s acts b c v q) (write_exists s acts a c u p) (models.GlobalEdge.co c (l.0, l.1, (j.0, i.0, gt, j.1, i.1))) in omega (arith, back, less))) y)
      (cases_order i.0 j.0)

  later : (a b : Event) (c u v : ℕ) → made_at acts a ≡ Some (Read c u) → WritesTo s acts b c v → global (source_in x.rf a) < global b → Fr x a b
  later a b c u v p q less =
      let it = source_rf a c u p in
      record { cell = c; value = u; source = source_in x.rf a; reads = seen a (Read c u) p; from = it.0; later = ordered c (source_in x.rf a) b u v it.1 q less }

  block_in : (a b : Event) → InBlock acts a b → SameBlock x a b
  block_in Initial Initial h = tt
  block_in Initial (At k j) h = absurd h
  block_in (At k i) Initial h = absurd h
  block_in (At k i) (At l j) h = h

  block_out : (a b : Event) → SameBlock x a b → InBlock acts a b
  block_out Initial Initial h = tt
  block_out Initial (At k j) h = absurd h
  block_out (At k i) Initial h = absurd h
  block_out (At k i) (At l j) h = h

  global_rf : (n : MemoryModel) (a b : Event) → IsSeen (Some n) a b → Rf x a b → GlobalRf n x a b
  global_rf Sc a b z h = h
  global_rf Tso a b z h = (h, z)
  global_rf Pso a b z h = (h, z)

  local_of : (a b : Event) → Edge None s acts (source_in x.rf) global a b → LocalEdge x a b
  local_of a b (worlds.Edge.in_thread p q z e f r) = models.LocalEdge.po (record { before = z; first = p; second = q; is_first = seen a p e; is_second = seen b q f; holds = r })
  local_of a b (worlds.Edge.in_section p q g z e f r) = absurd g
  local_of a b (worlds.Edge.creates h i f v g z e k) = absurd g
  local_of a b (worlds.Edge.joins h i g z e k) = absurd g
  local_of a b (worlds.Edge.initial q g z e) = absurd g
  local_of a b (worlds.Edge.reads c v z e k) = models.LocalEdge.rf (subst (λ q. Rf x q b) (sym z) (source_rf b c v e).0)
  local_of a b (worlds.Edge.writes c u v p q l) = models.LocalEdge.co c (ordered c a b u v p q l)
  local_of a b (worlds.Edge.overtakes c u v p q l) = models.LocalEdge.fr (later a b c u v p q l)

  global_of : (a b : Event) → Edge (Some m) s acts (source_in x.rf) global a b → GlobalEdge m x a b
  global_of a b (worlds.Edge.in_thread p q z e f r) = models.GlobalEdge.kept (models.Kept.in_thread (record { before = z; first = p; second = q; is_first = seen a p e; is_second = seen b q f; holds = r }))
  global_of a b (worlds.Edge.in_section p q g z e f r) = models.GlobalEdge.kept (models.Kept.in_section (record { before = z; first = p; second = q; is_first = seen a p e; is_second = seen b q f; holds = tt }) (block_in a b r))
  global_of a b (worlds.Edge.creates h i f v g z e k) = models.GlobalEdge.kept (models.Kept.creates {h = h} {f = f} {v = v} (seen a (Create h f v) e) (seen b Start k) (subst (IsOf h) (sym z) refl))
  global_of a b (worlds.Edge.joins h i g z e k) = models.GlobalEdge.kept (models.Kept.joins {h = h} (seen a End e) (subst (IsOf h) (sym z) refl) (seen b (Join h) k))
  global_of a b (worlds.Edge.initial q g z e) = subst (λ y. GlobalEdge m x y b) (sym z) (models.GlobalEdge.kept (models.Kept.initial {q = q} (seen b q e)))
  global_of a b (worlds.Edge.reads c v z e k) = models.GlobalEdge.rf (global_rf m a b k (subst (λ q. Rf x q b) (sym z) (source_rf b c v e).0))
  global_of a b (worlds.Edge.writes c u v p q l) = models.GlobalEdge.co c (ordered c a b u v p q l)
  global_of a b (worlds.Edge.overtakes c u v p q l) = models.GlobalEdge.fr (later a b c u v p q l)

  edge_first : (k : Option MemoryModel) (a b : Event) → Edge k s acts (source_in x.rf) global a b → Exists acts a
  edge_first k a b (worlds.Edge.in_thread p q z e f r) = made_exists acts a p e
  edge_first k a b (worlds.Edge.in_section p q g z e f r) = made_exists acts a p e
  edge_first k a b (worlds.Edge.creates h i f v g z e y) = made_exists acts a (Create h f v) e
  edge_first k a b (worlds.Edge.joins h i g z e y) = made_exists acts a End e
  edge_first k a b (worlds.Edge.initial q g z e) = subst (Exists acts) (sym z) tt
  edge_first k a b (worlds.Edge.reads c v z e y) = subst (Exists acts) (sym z) (write_exists s acts (source_in x.rf b) c v (source_rf b c v e).1)
  edge_first k a b (worlds.Edge.writes c u v p q l) = write_exists s acts a c u p
  edge_first k a b (worlds.Edge.overtakes c u v p q l) = made_exists acts a (Read c u) p

  edge_last : (k : Option MemoryModel) (a b : Event) → Edge k s acts (source_in x.rf) global a b → Exists acts b
  edge_last k a b (worlds.Edge.in_thread p q z e f r) = made_exists acts b q f
  edge_last k a b (worlds.Edge.in_section p q g z e f r) = made_exists acts b q f
  edge_last k a b (worlds.Edge.creates h i f v g z e y) = made_exists acts b Start y
  edge_last k a b (worlds.Edge.joins h i g z e y) = made_exists acts b (Join h) y
  edge_last k a b (worlds.Edge.initial q g z e) = made_exists acts b q e
  edge_last k a b (worlds.Edge.reads c v z e y) = made_exists acts b (Read c v) e
  edge_last k a b (worlds.Edge.writes c u v p q l) = write_exists s acts b c v q
  edge_last k a b (worlds.Edge.overtakes c u v p q l) = write_exists s acts b c v q

  pub world_sound : IsSound m s world
  world_sound = record {
    local_rises = λ a b h. accept.local_forward a b (edge_first None a b h) (edge_last None a b h) (local_of a b h);
    global_rises = λ a b h. accept.global_forward a b (edge_first (Some m) a b h) (edge_last (Some m) a b h) (global_of a b h);
    block_rises = λ a b h ne. accept.block_forward a b (edge_first (Some m) a b h) (edge_last (Some m) a b h) (global_of a b h) (λ z. ne (block_out a b z));
    one_block = λ a b h. accept.one_in_each_block a b (block_in a b h);
    values = λ r c v h. (source_rf r c v h).1;
    differ = differ;
  }
