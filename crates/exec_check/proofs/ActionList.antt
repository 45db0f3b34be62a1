-- The list of all actions with their events is exactly the execution's actions, in the order of events.
use Rattle.std.proofs.Common.{◌≡◌, ℕ, zero, suc, ◌+◌, ◌<◌, List, [], ◌∷◌, map, length, Bool, true, ◌&&◌, Some, refl, sym, ap, ◌∙◌, subst, ⊎_elim, inl, inr, Decides, arith}
use Rattle.std.specs.Prelude.{slice_get, get_or}
use Rattle.std.specs.List.{list_any}
use Rattle.std.proofs.lemmas.Bool.{cases_order}
use Rattle.std.proofs.lemmas.Bool.Decides.{Decides-and, not_from_Decides}
use Rattle.std.proofs.lemmas.Option.{none-some, same_Some, slice_get_within, slice_get-get_or}
use Rattle.dg_base.proofs.Lists.{get_map, get_from_map, get_append_left, get_append_right, get_append_cases}
use Rattle.axiom_model.specs.declared.Action.{Action}
use Rattle.axiom_model.specs.declared.Event.{Event}
use Rattle.axiom_model.specs.declared.Event.TheVariants.{Initial, At}
use Rattle.axiom_model.specs.declared.RfPair.{RfPair}
use Rattle.axiom_model.specs.Execution.{Thread, Execution, action_at}
use Rattle.axiom_model.proofs.Threads.{acts_from, actions_of-thread, Rising}
use Rattle.consistency.specs.declared.ThreadActions.{ThreadActions}
use Rattle.consistency.specs.Edges.{same_event}
use Rattle.consistency.specs.Seen.{thread_seen, execution_seen}
use Rattle.exec_check.specs.declared.event_actions.EventAction.{EventAction}
use Rattle.exec_check.specs.First.{Below, FirstEvent}
use Rattle.exec_check.specs.Conditions.{AtAction}
use Rattle.exec_check.specs.EventActions.{actions_from, event_actions, event_action, ListsActions}
use Rattle.exec_check.proofs.Listed.{any_decides, Stops}
use Rattle.exec_check.proofs.Events.{same_decides, not_below_both, not_below_self}

-- ---- one thread

from_at : (h i : ℕ) (acts : List Action) (k : ℕ) (w : EventAction) → slice_get (actions_from h i acts) k ≡ Some w → (slice_get acts k ≡ Some w.action) × (w.event ≡ At h (i + k))
from_at h i [] k w e = absurd (none-some w e)
from_at h i (a ∷ acts) zero w e =
    let g = same_Some (event_action (At h i) a) w e in
    let z : i ≡ i + 0 = omega arith in
    (ap (λ (v : EventAction). Some v.action) g, sym (ap (λ (v : EventAction). v.event) g) ∙ ap (λ n. At h n) z)
from_at h i (a ∷ acts) (suc k) w e =
    let r = from_at h (i + 1) acts k w e in
    let z : i + 1 + k ≡ i + suc k = omega arith in
    (r.0, r.1 ∙ ap (λ n. At h n) z)

at_from : (h i : ℕ) (acts : List Action) (k : ℕ) (a : Action) → slice_get acts k ≡ Some a → slice_get (actions_from h i acts) k ≡ Some (event_action (At h (i + k)) a)
at_from h i [] k a e = absurd (none-some a e)
at_from h i (b ∷ acts) zero a e =
    let g : b ≡ a = same_Some b a e in
    let z : i ≡ i + 0 = omega arith in
    ap (λ v. Some (event_action (At h i) v)) g ∙ ap (λ n. Some (event_action (At h n) a)) z
at_from h i (b ∷ acts) (suc k) a e =
    let z : i + 1 + k ≡ i + suc k = omega arith in
    at_from h (i + 1) acts k a e ∙ ap (λ n. Some (event_action (At h n) a)) z

-- ---- all threads

-- which action of which thread is listed at a place
record Listed (ts : List ThreadActions) (w : EventAction) : Type 0 where
  place : ℕ
  thread : ThreadActions
  index : ℕ
  there : slice_get ts place ≡ Some thread
  acts : slice_get thread.actions index ≡ Some w.action
  event_is : w.event ≡ At thread.handle index

listed : (ts : List ThreadActions) (k : ℕ) (w : EventAction) → slice_get (event_actions ts) k ≡ Some w → Listed ts w
listed [] k w e = absurd (none-some w e)
listed (t ∷ ts) k w e =
    ⊎_elim (λ g. let r = from_at t.handle 0 t.actions k w g in let z : 0 + k ≡ k = omega arith in record { place = 0; thread = t; index = k; there = refl; acts = r.0; event_is = r.1 ∙ ap (λ n. At t.handle n) z })
    (λ g. let r = listed ts g.0 w g.2 in record { place = suc r.place; thread = r.thread; index = r.index; there = r.there; acts = r.acts; event_is = r.event_is })
    (get_append_cases (actions_from t.handle 0 t.actions) (event_actions ts) k w e)

placed : (ts : List ThreadActions) (n : ℕ) (t : ThreadActions) (i : ℕ) (a : Action) → slice_get ts n ≡ Some t → slice_get t.actions i ≡ Some a → (k : ℕ) × (slice_get (event_actions ts) k ≡ Some (event_action (At t.handle i) a))
placed [] n t i a e g = absurd (none-some t e)
placed (u ∷ ts) zero t i a e g =
    let same : t ≡ u = sym (same_Some u t e) in
    let here : slice_get u.actions i ≡ Some a = subst (λ z. slice_get z.actions i ≡ Some a) same g in
    let z : 0 + i ≡ i = omega arith in
    let there = at_from u.handle 0 u.actions i a here ∙ ap (λ n. Some (event_action (At u.handle n) a)) z in
    (i, get_append_left (actions_from u.handle 0 u.actions) (event_actions ts) i (event_action (At t.handle i) a) (there ∙ ap (λ z. Some (event_action (At z.handle i) a)) (sym same)))
placed (u ∷ ts) (suc n) t i a e g =
    let r = placed ts n t i a e g in
    (length (actions_from u.handle 0 u.actions) + r.0, get_append_right (actions_from u.handle 0 u.actions) (event_actions ts) (length (actions_from u.handle 0 u.actions) + r.0) r.0 refl ∙ r.1)

-- each thread has a lower handle than those behind it
abbrev pub Rise : List ThreadActions → Type 0
Rise ts = (j k : ℕ) (t u : ThreadActions) → j < k → slice_get ts j ≡ Some t → slice_get ts k ≡ Some u → t.handle < u.handle

in_order : (ts : List ThreadActions) → Rise ts → (j k : ℕ) (v w : EventAction) → j < k → slice_get (event_actions ts) j ≡ Some v → slice_get (event_actions ts) k ≡ Some w → Below v.event w.event
in_order [] r j k v w l e g = absurd (none-some v e)
in_order (t ∷ ts) r j k v w l e g =
    ⊎_elim (λ a. ⊎_elim (both a) (across a) (get_append_cases (actions_from t.handle 0 t.actions) (event_actions ts) k w g)) (λ a. ⊎_elim (λ b. absurd (turned a b)) (λ b. in_order ts (λ j k t u l e g. r (suc j) (suc k) t u (omega arith) e g) a.0 b.0 v w (omega (arith, a.1, b.1)) a.2 b.2) (get_append_cases (actions_from t.handle 0 t.actions) (event_actions ts) k w g)) (get_append_cases (actions_from t.handle 0 t.actions) (event_actions ts) j v e)
  where
    both : slice_get (actions_from t.handle 0 t.actions) j ≡ Some v → slice_get (actions_from t.handle 0 t.actions) k ≡ Some w → Below v.event w.event
    both a b =
        let p = (from_at t.handle 0 t.actions j v a).1 in
        let q = (from_at t.handle 0 t.actions k w b).1 in
        subst (λ z. Below z w.event) (sym p) (subst (λ z. Below (At t.handle (0 + j)) z) (sym q) (inr (refl, omega arith)))

    across : slice_get (actions_from t.handle 0 t.actions) j ≡ Some v → (p : ℕ) × (k ≡ length (actions_from t.handle 0 t.actions) + p) × (slice_get (event_actions ts) p ≡ Some w) → Below v.event w.event
    across a b =
        let p = (from_at t.handle 0 t.actions j v a).1 in
        let q = listed ts b.0 w b.2 in
        subst (λ z. Below z w.event) (sym p) (subst (λ z. Below (At t.handle (0 + j)) z) (sym q.event_is) (inl (r 0 (suc q.place) t q.thread (omega arith) refl q.there)))

    turned : (p : ℕ) × (j ≡ length (actions_from t.handle 0 t.actions) + p) × (slice_get (event_actions ts) p ≡ Some v) → slice_get (actions_from t.handle 0 t.actions) k ≡ Some w → ⊥
    turned a b = let h = slice_get_within (actions_from t.handle 0 t.actions) k w b in omega (arith, a.1)

rising_seen : (ts : List ThreadActions) → Rise ts → Rising (map thread_seen ts)
rising_seen ts r i j d l b =
    let p = get_from_map thread_seen ts i (get_or (map thread_seen ts) i d) (slice_get-get_or (map thread_seen ts) i d (omega arith)) in
    let q = get_from_map thread_seen ts j (get_or (map thread_seen ts) j d) (slice_get-get_or (map thread_seen ts) j d b) in
    let h : p.0.handle < q.0.handle = r i j p.0 q.0 l p.1 q.1 in
    let e : p.0.handle ≡ (get_or (map thread_seen ts) i d).handle = ap (λ (z : Thread). z.handle) p.2 in
    let f : q.0.handle ≡ (get_or (map thread_seen ts) j d).handle = ap (λ (z : Thread). z.handle) q.2 in
    omega arith

-- the list of event_actions is that of the execution
pub lists : (ts : List ThreadActions) (rf : List RfPair) (co : List (List Event)) → Rise ts → ListsActions (execution_seen ts rf co) (event_actions ts)
lists ts rf co r = record { sound = sound; complete = complete; ordered = in_order ts r }
  where
    sound : (k : ℕ) (w : EventAction) → slice_get (event_actions ts) k ≡ Some w → action_at (execution_seen ts rf co) w.event ≡ Some w.action
    sound k w e =
        let q = listed ts k w e in
        let f = actions_of-thread (map thread_seen ts) (rising_seen ts r) q.place (thread_seen q.thread) (get_map thread_seen ts q.place q.thread q.there) in
        subst (λ z. action_at (execution_seen ts rf co) z ≡ Some w.action) (sym q.event_is) (ap (λ l. slice_get l q.index) f ∙ q.acts)

    complete : (e : Event) (a : Action) → action_at (execution_seen ts rf co) e ≡ Some a → (k : ℕ) × (slice_get (event_actions ts) k ≡ Some (event_action e a))
    complete Initial a g = absurd (none-some a g)
    complete (At h i) a g =
        let q = acts_from (map thread_seen ts) h i a g in
        let t = get_from_map thread_seen ts q.place q.thread q.there in
        let acts : slice_get t.0.actions i ≡ Some a = subst (λ (z : Thread). slice_get z.actions i ≡ Some a) (sym t.2) q.acts in
        let k = placed ts q.place t.0 i a t.1 acts in
        let handle_is : t.0.handle ≡ h = ap (λ (z : Thread). z.handle) t.2 ∙ q.same_handle in
        (k.0, k.1 ∙ ap (λ n. Some (event_action (At n i) a)) handle_is)

-- ---- tests of event_actions

-- where each event_action passes, the events' actions are as the test tells
pub each_action : (x : Execution) (ws : List EventAction) (f : EventAction → Bool) (P : Event → Action → Type 0) → ListsActions x ws → ((w : EventAction) → Decides (f w) (P w.event w.action)) → ((k : ℕ) (w : EventAction) → slice_get ws k ≡ Some w → f w ≡ true) → (e : Event) → AtAction x P e
each_action x ws f P h d all e a g =
    let q = h.complete e a g in (d (event_action e a)).0 (all q.0 (event_action e a) q.1)

-- and the first event_action that does not pass is the first event whose action is not
pub first_action : (x : Execution) (ws : List EventAction) (f : EventAction → Bool) (P : Event → Action → Type 0) → ListsActions x ws → ((w : EventAction) → Decides (f w) (P w.event w.action)) → (k : ℕ) (w : EventAction) → Stops f ws k w → FirstEvent (AtAction x P) w.event
first_action x ws f P h d k w s = record {
  broken = λ at. not_from_Decides (f w) (d w) s.fails (at w.action (h.sound k w s.there));
  before = before;
}
  where
    before : (e : Event) → Below e w.event → (a : Action) → action_at x e ≡ Some a → P e a
    before e b a g =
        let q = h.complete e a g in
        ⊎_elim (λ same. absurd (not_below_self w.event (subst (λ z. Below z w.event) (ap (λ (v : EventAction). v.event) (same_Some (event_action e a) w (sym q.1 ∙ ap (λ n. slice_get ws n) same ∙ s.there))) b)))
        (⊎_elim (λ l. (d (event_action e a)).0 (s.before q.0 (event_action e a) l q.1)) (λ l. absurd (not_below_both e w.event b (h.ordered k q.0 w (event_action e a) l s.there q.1))))
        (cases_order q.0 k)

-- some event_action at the event passes exactly where the event has an action that does
pub any_action : (x : Execution) (ws : List EventAction) (f : Action → Bool) (P : Action → Type 0) → ListsActions x ws → ((a : Action) → Decides (f a) (P a)) → (e : Event) → Decides (list_any (λ w. same_event w.event e && f w.action) ws) ((a : Action) × (action_at x e ≡ Some a) × P a)
any_action x ws f P h d e =
    let r = any_decides (λ w. same_event w.event e && f w.action) (λ w. (w.event ≡ e) × P w.action) (λ w. Decides-and (same_event w.event e) (f w.action) (same_decides w.event e) (d w.action)) ws in
    (λ t. let q = r.0 t in (q.1.action, subst (λ z. action_at x z ≡ Some q.1.action) q.3.0 (h.sound q.0 q.1 q.2), q.3.1), λ g. let q = h.complete e g.0 g.1 in r.1 (q.0, event_action e g.0, q.1, (refl, g.2)))
