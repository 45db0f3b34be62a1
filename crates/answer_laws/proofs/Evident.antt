-- An execution against which there is no evidence is consistent.
use Rattle.std.proofs.Common.{◌≡◌, ◌≢◌, ℕ, zero, suc, ◌<◌, ◌⊎◌, List, [], ◌∷◌, Some, refl, sym, subst, ⊎_elim, inl, inr, arith}
use Rattle.std.specs.Prelude.{slice_get}
use Rattle.std.proofs.lemmas.Bool.{cases_order}
use Rattle.std.proofs.lemmas.Option.{none-some, same_Some}
use Rattle.dg_base.proofs.Lists.{get_there}
use Rattle.axiom_model.specs.declared.MemoryModel.{MemoryModel}
use Rattle.axiom_model.specs.declared.MemoryModel.TheVariants.{Pso, Sc, Tso}
use Rattle.axiom_model.specs.declared.Action.TheVariants.{Join, Read, Start, Write}
use Rattle.axiom_model.specs.declared.Event.{Event}
use Rattle.axiom_model.specs.declared.Event.TheVariants.{At, Initial}
use Rattle.axiom_model.specs.declared.RfPair.{RfPair}
use Rattle.axiom_model.specs.Cycles.{NoCycle}
use Rattle.axiom_model.specs.Execution.{Co, Execution, Fr, Rf, SameBlock, action_at, actions_of}
use Rattle.axiom_model.specs.Models.{Consistent, GlobalEdge, GlobalRf, Kept, Leaves, LocalEdge}
use Rattle.axiom_model.specs.Models as model
use Rattle.axiom_model.specs.WellMade.{Shape, WellMade}
use Rattle.axiom_model.proofs.Blocks.{same_block_sym, same_block_trans}
use Rattle.consistency.specs.declared.Inconsistent.{Inconsistent}
use Rattle.consistency.specs.declared.Inconsistent.TheVariants.{BlockCycle, GlobalCycle, LocalCycle, OutOfMemory}
use Rattle.consistency.proofs.Circling.{cycle_source}
use Rattle.consistency.specs.Evidence.{AreActions, AtMost, IsBlockCycle, IsEventCycle, IsEvidence, ends_of}
use Rattle.dg_top.proofs.Spellable.{IsAction, at_place}
use Rattle.answer_laws.proofs.ShortestCycles.{IsShortest, cycle_into, no_shortest_no_cycle}

-- ---- the order of events

most_total : (a b : Event) → AtMost a b ⊎ AtMost b a
most_total Initial b = inl tt
most_total (At h i) Initial = inr tt
most_total (At h i) (At k j) =
    ⊎_elim (λ e. ⊎_elim (λ f. inl (inr (e, omega arith))) (λ l. ⊎_elim (λ f. inl (inr (e, omega arith))) (λ f. inr (inr (sym e, omega arith))) l) (cases_order i j)) (λ l. ⊎_elim (λ f. inl (inl f)) (λ f. inr (inl f)) l)
    (cases_order h k)

most_trans : (a b c : Event) → AtMost a b → AtMost b c → AtMost a c
most_trans Initial b c p q = tt
most_trans (At h i) Initial c p q = absurd p
most_trans (At h i) (At k j) Initial p q = absurd q
most_trans (At h i) (At k j) (At l m) p q =
    ⊎_elim (λ x. ⊎_elim (λ y. inl (omega arith)) (λ y. inl (omega (arith, y.0))) q)
    (λ x. ⊎_elim (λ y. inl (omega (arith, x.0))) (λ y. inr (omega (arith, x.0, y.0), omega (arith, x.1, y.1))) q) p

-- ---- edges lead to actions

module _ (s : Shape) (x : Execution) (made : WellMade s x) where
  rf_lands : (a b : Event) → Rf x a b → IsAction x b
  rf_lands a b r =
      let h = at_place (λ (p : RfPair). (c : ℕ) × (v : ℕ) × (action_at x p.reader ≡ Some (Read c v))) x.rf r.0 (record { reader = b; source = a }) made.readers r.1 in
      (Read h.0 h.1, h.2)

  -- a place of a cell's order that is not the first
  order_lands : (c : ℕ) (l : List Event) (j : ℕ) (b : Event) → slice_get x.co c ≡ Some l → 0 < j → slice_get l j ≡ Some b → IsAction x b
  order_lands c l zero b e h g = absurd (omega arith)
  order_lands c l (suc j) b e h g =
      let order = made.orders c l e in
      let w = order.sound j b (subst (λ m. slice_get m (suc j) ≡ Some b) order.initial_first g) in
      (Write c w.0, w.1)

  co_lands : (c : ℕ) (a b : Event) → Co x c a b → IsAction x b
  co_lands c a b o = let p = o.2 in order_lands c o.0 p.1 b o.1 (let l = p.2 in omega arith) p.4

  fr_lands : (a b : Event) → Fr x a b → IsAction x b
  fr_lands a b f = co_lands f.cell f.source b f.later

  local_lands : (a b : Event) → LocalEdge x a b → IsAction x b
  local_lands a b (model.LocalEdge.po o) = (o.second, o.is_second)
  local_lands a b (model.LocalEdge.rf r) = rf_lands a b r
  local_lands a b (model.LocalEdge.co c o) = co_lands c a b o
  local_lands a b (model.LocalEdge.fr f) = fr_lands a b f

  kept_lands : (m : MemoryModel) (a b : Event) → Kept m x a b → IsAction x b
  kept_lands m a b (model.Kept.in_thread o) = (o.second, o.is_second)
  kept_lands m a b (model.Kept.in_section o k) = (o.second, o.is_second)
  kept_lands m a b (model.Kept.creates e f k) = (Start, f)
  kept_lands m a b (model.Kept.joins {h = h} e k f) = (Join h, f)
  kept_lands m _ b (model.Kept.initial {q = q} e) = (q, e)

  global_rf_lands : (m : MemoryModel) (a b : Event) → GlobalRf m x a b → IsAction x b
  global_rf_lands Sc a b r = rf_lands a b r
  global_rf_lands Tso a b r = rf_lands a b r.0
  global_rf_lands Pso a b r = rf_lands a b r.0

  global_lands : (m : MemoryModel) (a b : Event) → GlobalEdge m x a b → IsAction x b
  global_lands m a b (model.GlobalEdge.kept k) = kept_lands m a b k
  global_lands m a b (model.GlobalEdge.rf r) = global_rf_lands m a b r
  global_lands m a b (model.GlobalEdge.co c o) = co_lands c a b o
  global_lands m a b (model.GlobalEdge.fr f) = fr_lands a b f

  -- an event in the block of an action is an action
  beside_lands : (a b : Event) → SameBlock x a b → IsAction x a → IsAction x b
  beside_lands Initial Initial k e = e
  beside_lands Initial (At h i) k e = absurd k
  beside_lands (At h i) Initial k e = absurd k
  beside_lands (At h i) (At g j) k e =
      ⊎_elim (λ same. let one : At h i ≡ At g j = (let c = k.0 in cc) in subst (IsAction x) one e) (λ o. get_there (actions_of x.threads g) j o.2.there) k.1

  -- ---- cycles of events

  module _ (R : Event → Event → Type 0) (lands : (a b : Event) → R a b → IsAction x b) where
    same_goes : (a b c d : Event) → a ≡ b → R a c → R b d → R b c
    same_goes a b c d e r q = subst (λ z. R z c) e r

    event_cycle : (l : List Event) → IsShortest R AtMost most_total most_trans (◌≡◌ {A = Event}) (λ a b e. sym e) same_goes l → IsEventCycle x R l
    event_cycle l s = record {
      cycle = s.cycle;
      once = λ i j e f g. s.once i j e e f g refl;
      least_first = s.least_first;
      actions = λ i e f. let d = cycle_into R l s.cycle i e f in lands d.0 e d.1;
    }

    no_event_cycle : ((l : List Event) → IsEventCycle x R l → ⊥) → NoCycle R
    no_event_cycle none = no_shortest_no_cycle R AtMost most_total most_trans (◌≡◌ {A = Event}) (λ a b e. sym e) same_goes (λ l s. none l (event_cycle l s))

  -- ---- cycles of blocks

  module _ (m : MemoryModel) where
    abbrev starts_before : Event × Event → Event × Event → Type 0
    starts_before p q = AtMost p.0 q.0

    abbrev same_entry : Event × Event → Event × Event → Type 0
    same_entry p q = SameBlock x p.1 q.1

    entry_goes : (p q r t : Event × Event) → same_entry p q → Leaves m x p r → Leaves m x q t → Leaves m x q r
    entry_goes p q r t e l k = (k.0, k.1, same_block_trans x q.1 p.1 r.0 (same_block_sym x p.1 q.1 e) l.2)

    ends_land : (ps : List (Event × Event)) → ((i : ℕ) (p : Event × Event) → slice_get ps i ≡ Some p → IsAction x p.0 × IsAction x p.1) → AreActions x (ends_of ps)
    ends_land [] f i e h = absurd (none-some e h)
    ends_land (p ∷ ps) f zero e h = subst (IsAction x) (same_Some p.0 e h) (f 0 p refl).0
    ends_land (p ∷ ps) f (suc zero) e h = subst (IsAction x) (same_Some p.1 e h) (f 0 p refl).1
    ends_land (p ∷ ps) f (suc (suc i)) e h = ends_land ps (λ j q g. f (suc j) q g) i e h

    -- where a pair begins and where it ends
    pair_lands : (p q : Event × Event) → Leaves m x q p → (r : Event × Event) → Leaves m x p r → IsAction x p.0 × IsAction x p.1
    pair_lands p q k r l = (beside_lands q.1 p.0 k.2 (global_lands m q.0 q.1 k.0), global_lands m p.0 p.1 l.0)

    block_cycle : (l : List (Event × Event)) → IsShortest (Leaves m x) starts_before (λ p q. most_total p.0 q.0) (λ p q r. most_trans p.0 q.0 r.0) same_entry (λ p q e. same_block_sym x p.1 q.1 e) entry_goes l → IsBlockCycle m x (ends_of l)
    block_cycle l s = record {
      pairs = l;
      listed = refl;
      cycle = s.cycle;
      once = s.once;
      least_first = s.least_first;
      actions = ends_land l (λ i p g. let d = cycle_into (Leaves m x) l s.cycle i p g in let t = cycle_source (Leaves m x) l s.cycle i p g in pair_lands p d.0 d.1 t.0 t.1);
    }

    no_block_cycle : ((l : List Event) → IsBlockCycle m x l → ⊥) → NoCycle (Leaves m x)
    no_block_cycle none =
        no_shortest_no_cycle (Leaves m x) starts_before (λ p q. most_total p.0 q.0) (λ p q r. most_trans p.0 q.0 r.0) same_entry (λ p q e. same_block_sym x p.1 q.1 e) entry_goes (λ l s. none (ends_of l) (block_cycle l s))

  pub no_evidence : (m : MemoryModel) → ((e : Inconsistent) → e ≢ OutOfMemory → IsEvidence m x e → ⊥) → Consistent m x
  no_evidence m none =
      let local : NoCycle (LocalEdge x) = no_event_cycle (LocalEdge x) local_lands (λ l e. none (LocalCycle l) (λ s. cc) e) in
      let global : NoCycle (GlobalEdge m x) = no_event_cycle (GlobalEdge m x) (global_lands m) (λ l e. none (GlobalCycle l) (λ s. cc) (local, e)) in
      record { local = local; global = global; blocks = no_block_cycle m (λ l e. none (BlockCycle l) (λ s. cc) (local, global, e)) }
