-- What a Create and a Join ask of the threads.
use Rattle.std.proofs.Common.{◌≡◌, ℕ, List, Bool, true, false, not, ◌&&◌, Some, None, refl, sym, ap, ◌∙◌, subst, ⊎_elim, inl, inr, Decides}
use Rattle.std.specs.Prelude.{nat_eq}
use Rattle.std.specs.List.{list_any}
use Rattle.std.proofs.lemmas.Bool.{cases_Bool}
use Rattle.std.proofs.lemmas.Bool.Decides.{Decides-eqb, Decides-and, Decides-or, Decides-not}
use Rattle.dg_base.proofs.Lists.{get_map, get_from_map}
use Rattle.axiom_model.specs.declared.Action.{Action}
use Rattle.axiom_model.specs.declared.Action.TheVariants.{Read, Write, Open, Close, Fence, Create, Join, Start, End}
use Rattle.axiom_model.specs.declared.Event.{Event}
use Rattle.axiom_model.specs.declared.RfPair.{RfPair}
use Rattle.axiom_model.specs.declared.ThreadPart.{ThreadPart}
use Rattle.axiom_model.specs.Execution.{Thread, Execution, action_at}
use Rattle.axiom_model.specs.WellMade.{SomeThread}
use Rattle.c_check.specs.declared.checked.Checked.{Checked}
use Rattle.consistency.specs.declared.ThreadActions.{ThreadActions}
use Rattle.consistency.specs.Seen.{thread_seen, execution_seen}
use Rattle.exec_check.specs.declared.event_actions.EventAction.{EventAction}
use Rattle.exec_check.specs.First.{EachThread, FirstHandle, FirstEvent}
use Rattle.exec_check.specs.Running.{alone, acting}
use Rattle.exec_check.specs.Conditions.{IsCreated, AtAction, HasItsThread, JoinsAnEnded}
use Rattle.exec_check.specs.Broken.{FirstChild}
use Rattle.exec_check.specs.ThreadTests.{first_not, handle_of, seen_by}
use Rattle.exec_check.specs.EventActions.{event_of, event_action, ListsActions}
use Rattle.exec_check.specs.ActionTests.{creates_by, creates, is_created, has_handle, child_there, has_child, child, child_of, has_ended, end_there, joins_ended}
use Rattle.exec_check.proofs.Listed.{any_decides, first_not-none, first_not-some}
use Rattle.exec_check.proofs.Present.{first_thread}
use Rattle.exec_check.proofs.Whole.{thread_at, part_at}
use Rattle.exec_check.proofs.ActionList.{each_action, first_action}

-- ---- a thread and the action that creates it

creates_decides : (t : ThreadPart) (a : Action) → Decides (creates_by t a) (a ≡ Create t.handle t.function t.arg)
creates_decides t (Create h f v) =
    let d = Decides-and (nat_eq h t.handle) (nat_eq f t.function && nat_eq v t.arg) (Decides-eqb h t.handle) (Decides-and (nat_eq f t.function) (nat_eq v t.arg) (Decides-eqb f t.function) (Decides-eqb v t.arg)) in
    (λ e. let r = d.0 e in cc (r.0, r.1.0, r.1.1), λ e. let p : h ≡ t.handle = cc in let q : f ≡ t.function = cc in let r : v ≡ t.arg = cc in d.1 (p, (q, r)))
creates_decides t (Read c v) = (λ e. cc, λ e. cc)
creates_decides t (Write c v) = (λ e. cc, λ e. cc)
creates_decides t Open = (λ e. cc, λ e. cc)
creates_decides t Close = (λ e. cc, λ e. cc)
creates_decides t Fence = (λ e. cc, λ e. cc)
creates_decides t (Join h) = (λ e. cc, λ e. cc)
creates_decides t Start = (λ e. cc, λ e. cc)
creates_decides t End = (λ e. cc, λ e. cc)

created_decides : (x : Execution) (ws : List EventAction) → ListsActions x ws → (t : ThreadPart) → Decides (is_created ws t) (IsCreated x 0 t)
created_decides x ws h t =
    let any = any_decides (creates t) (λ w. w.action ≡ Create t.handle t.function t.arg) (λ w. creates_decides t w.action) ws in
    let d = Decides-or (nat_eq t.handle 0) (list_any (creates t) ws) (Decides-eqb t.handle 0) any in
    (λ e n. ⊎_elim (λ z. absurd (n z)) (λ r. (r.1.event, subst (λ a. action_at x r.1.event ≡ Some a) r.3 (h.sound r.0 r.1 r.2))) (d.0 e), λ g. ⊎_elim (λ z. d.1 (inl ((Decides-eqb t.handle 0).0 z))) (λ z. d.1 (inr (let r = g (λ e. let u : nat_eq t.handle 0 ≡ true = (Decides-eqb t.handle 0).1 e in cc) in let q = h.complete r.0 (Create t.handle t.function t.arg) r.1 in (q.0, event_action r.0 (Create t.handle t.function t.arg), q.1, refl)))) (cases_Bool (nat_eq t.handle 0)))

pub created_none : (x : Execution) (ws : List EventAction) → ListsActions x ws → (ps : List ThreadPart) → first_not (is_created ws) handle_of ps ≡ None → EachThread (IsCreated x) ps
created_none x ws h ps e k t g = (created_decides x ws h t).0 (first_not-none (is_created ws) handle_of ps e k t g)

pub created_some : (x : Execution) (ws : List EventAction) → ListsActions x ws → (ps : List ThreadPart) (n : ℕ) → first_not (is_created ws) handle_of ps ≡ Some n → FirstHandle (IsCreated x) ps n
created_some x ws h ps n e = first_thread (is_created ws) (IsCreated x 0) (created_decides x ws h) ps n e

-- ---- threads by their handles

some_seen : (ts : List ThreadActions) (rf : List RfPair) (co : List (List Event)) (h : ℕ) (f : ThreadActions → Bool) (P : Thread → Type 0) → ((t : ThreadActions) → Decides (f t) (P (thread_seen t))) → Decides (list_any (λ t. nat_eq t.handle h && f t) ts) (SomeThread (execution_seen ts rf co) h P)
some_seen ts rf co h f P d =
    let r = any_decides (λ t. nat_eq t.handle h && f t) (λ t. (t.handle ≡ h) × P (thread_seen t)) (λ t. Decides-and (nat_eq t.handle h) (f t) (Decides-eqb t.handle h) (d t)) ts in
    (λ e. let q = r.0 e in (q.0, thread_seen q.1, get_map thread_seen ts q.0 q.1 q.2, q.3.0, q.3.1), λ s. let q = get_from_map thread_seen ts s.0 s.1 s.2 in r.1 (s.0, q.0, q.1, (ap (λ (z : Thread). z.handle) q.2 ∙ s.3, subst P (sym q.2) s.4)))

handle_decides : (p : Checked) (ps : List ThreadPart) (h : ℕ) → Decides (list_any (has_handle h) ps) (SomeThread (acting p ps) h (λ t. Unit {0}))
handle_decides p ps h =
    let r = any_decides (has_handle h) (λ t. t.handle ≡ h) (λ t. Decides-eqb t.handle h) ps in
    (λ e. let q = r.0 e in (q.0, seen_by p q.1, thread_at p (alone ps) q.0 q.1 q.2, q.3, tt), λ s. let q = part_at p (alone ps) s.0 s.1 s.2 in r.1 (s.0, q.0, q.1, ap (λ (z : Thread). z.handle) q.2 ∙ s.3))

nothing_asked : Decides true (Unit {0})
nothing_asked = (λ e. tt, λ u. refl)

child_decides : (p : Checked) (ps : List ThreadPart) (e : Event) (a : Action) → Decides (child_there ps a) (HasItsThread (acting p ps) e a)
child_decides p ps e (Create h f v) = handle_decides p ps h
child_decides p ps e (Read c v) = nothing_asked
child_decides p ps e (Write c v) = nothing_asked
child_decides p ps e Open = nothing_asked
child_decides p ps e Close = nothing_asked
child_decides p ps e Fence = nothing_asked
child_decides p ps e (Join h) = nothing_asked
child_decides p ps e Start = nothing_asked
child_decides p ps e End = nothing_asked

end_decides : (ts : List ThreadActions) (rf : List RfPair) (co : List (List Event)) (e : Event) (a : Action) → Decides (end_there ts a) (JoinsAnEnded (execution_seen ts rf co) e a)
end_decides ts rf co e (Join h) =
    Decides-and (not (nat_eq h 0)) (list_any (has_ended h) ts) (Decides-not (nat_eq h 0) (Decides-eqb h 0)) (some_seen ts rf co h (λ t. t.ended) (λ t. t.ended ≡ true) (λ t. (λ u. u, λ u. u)))
end_decides ts rf co e (Create h f v) = nothing_asked
end_decides ts rf co e (Read c v) = nothing_asked
end_decides ts rf co e (Write c v) = nothing_asked
end_decides ts rf co e Open = nothing_asked
end_decides ts rf co e Close = nothing_asked
end_decides ts rf co e Fence = nothing_asked
end_decides ts rf co e Start = nothing_asked
end_decides ts rf co e End = nothing_asked

-- ---- the first Create and the first Join

pub children_none : (p : Checked) (ps : List ThreadPart) (ws : List EventAction) → ListsActions (acting p ps) ws → first_not (has_child ps) child_of ws ≡ None → (e : Event) → AtAction (acting p ps) (HasItsThread (acting p ps)) e
children_none p ps ws h n =
    each_action (acting p ps) ws (has_child ps) (HasItsThread (acting p ps)) h (λ w. child_decides p ps w.event w.action) (first_not-none (has_child ps) child_of ws n)

-- an action that does not pass is a Create
without_child : (ts : List ThreadPart) (a : Action) → child_there ts a ≡ false → (f : ℕ) × (v : ℕ) × (a ≡ Create (child a) f v)
without_child ts (Create h f v) e = (f, v, refl)
without_child ts (Read c v) e = cc
without_child ts (Write c v) e = cc
without_child ts Open e = cc
without_child ts Close e = cc
without_child ts Fence e = cc
without_child ts (Join h) e = cc
without_child ts Start e = cc
without_child ts End e = cc

pub children_some : (p : Checked) (ps : List ThreadPart) (ws : List EventAction) (n : ℕ) → ListsActions (acting p ps) ws → first_not (has_child ps) child_of ws ≡ Some n → FirstChild (acting p ps) n
children_some p ps ws n h e =
    let r = first_not-some (has_child ps) child_of ws n e in
    let q = without_child ps r.1.action r.2.fails in
    let is : r.1.action ≡ Create n q.0 q.1 = q.2 ∙ ap (λ m. Create m q.0 q.1) r.3 in
    (r.1.event, q.0, q.1, first_action (acting p ps) ws (has_child ps) (HasItsThread (acting p ps)) h (λ w. child_decides p ps w.event w.action) r.0 r.1 r.2, h.sound r.0 r.1 r.2.there ∙ ap Some is)

pub joins_none : (ts : List ThreadActions) (rf : List RfPair) (co : List (List Event)) (ws : List EventAction) → ListsActions (execution_seen ts rf co) ws → first_not (joins_ended ts) event_of ws ≡ None → (e : Event) → AtAction (execution_seen ts rf co) (JoinsAnEnded (execution_seen ts rf co)) e
joins_none ts rf co ws h n =
    each_action (execution_seen ts rf co) ws (joins_ended ts) (JoinsAnEnded (execution_seen ts rf co)) h (λ w. end_decides ts rf co w.event w.action) (first_not-none (joins_ended ts) event_of ws n)

pub joins_some : (ts : List ThreadActions) (rf : List RfPair) (co : List (List Event)) (ws : List EventAction) (e : Event) → ListsActions (execution_seen ts rf co) ws → first_not (joins_ended ts) event_of ws ≡ Some e → FirstEvent (AtAction (execution_seen ts rf co) (JoinsAnEnded (execution_seen ts rf co))) e
joins_some ts rf co ws e h n =
    let r = first_not-some (joins_ended ts) event_of ws e n in
    subst (FirstEvent (AtAction (execution_seen ts rf co) (JoinsAnEnded (execution_seen ts rf co)))) r.3 (first_action (execution_seen ts rf co) ws (joins_ended ts) (JoinsAnEnded (execution_seen ts rf co)) h (λ w. end_decides ts rf co w.event w.action) r.0 r.1 r.2)
