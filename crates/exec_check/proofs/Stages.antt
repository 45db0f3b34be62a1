-- The conditions on actions, one after the other, as the code looks at them.
use Rattle.std.proofs.Common.{◌≡◌, ℕ, ◌<◌, List, [], length, map, Option, Some, None, refl, sym, ap, ◌∙◌, subst, arith}
use Rattle.std.specs.Prelude.{slice_get}
use Rattle.std.proofs.lemmas.List.{length-map}
use Rattle.dg_base.proofs.Lists.{get_map, get_from_map}
use Rattle.axiom_model.specs.declared.Event.{Event}
use Rattle.axiom_model.specs.declared.MemoryModel.{MemoryModel}
use Rattle.axiom_model.specs.declared.RfPair.{RfPair}
use Rattle.axiom_model.specs.declared.ThreadPart.{ThreadPart}
use Rattle.axiom_model.specs.declared.Candidate.{Candidate}
use Rattle.axiom_model.specs.Execution.{Thread}
use Rattle.c_check.specs.declared.checked.CellInfo.{CellInfo}
use Rattle.c_check.specs.declared.checked.Checked.{Checked}
use Rattle.c_check.specs.WellFormed.{IsChecked}
use Rattle.consistency.specs.declared.ThreadActions.{ThreadActions}
use Rattle.consistency.specs.Seen.{thread_seen}
use Rattle.exec_check.specs.declared.Reject.{Reject}
use Rattle.exec_check.specs.declared.Reject.TheVariants.{MainMissing, ThreadTwice, UnknownThread, ScriptShort, ScriptLong, BadRun, NoCreate, NoThread, BadSource, BadOrder, BadJoin, LocalCycle, GlobalCycle, BlockCycle, NotFailing, OutOfMemory}
use Rattle.exec_check.specs.declared.event_actions.EventAction.{EventAction}
use Rattle.exec_check.specs.First.{FirstHandle, FirstEvent, FirstNumber}
use Rattle.exec_check.specs.Running.{alone, acting, execution_in, shape}
use Rattle.exec_check.specs.Conditions.{IsCreated, AtAction, IsSourced, HasOrder, JoinsAnEnded, HasRuns, HasCreates, HasChildren, HasSources, HasOrders, IsExecution}
use Rattle.exec_check.specs.Broken.{FirstChild, ThreadsBreak, IsFirstBroken}
use Rattle.exec_check.specs.ThreadTests.{first_not, handle_of, seen_by}
use Rattle.exec_check.specs.EventActions.{event_actions, event_of, ListsActions}
use Rattle.exec_check.specs.Done.{Acts}
use Rattle.exec_check.specs.ActionTests.{is_created, has_child, child_of, has_source, least_unread, bad_order_from, joins_ended}
use Rattle.exec_check.proofs.Shaped.{cells_shaped}
use Rattle.exec_check.proofs.ActionList.{Rise, lists}
use Rattle.exec_check.proofs.Acting.{created_none, created_some, children_none, children_some, joins_none, joins_some}
use Rattle.exec_check.proofs.Sourced.{sources_none, sources_some}
use Rattle.exec_check.proofs.Ordered.{orders_none, orders_some}
use Rattle.exec_check.proofs.Whole.{acts_alone, seen_is}

-- ---- the list of all actions

-- what the code holds of each thread is what it did
abbrev pub Seen : Checked → List ThreadPart → List ThreadActions → Type 0
Seen p ps ts = map thread_seen ts ≡ map (seen_by p) ps

part_of : (p : Checked) (ps : List ThreadPart) (ts : List ThreadActions) → Seen p ps ts → (k : ℕ) (t : ThreadActions) → slice_get ts k ≡ Some t → (u : ThreadPart) × (slice_get ps k ≡ Some u) × (u.handle ≡ t.handle)
part_of p ps ts s k t e =
    let q = get_from_map (seen_by p) ps k (thread_seen t) (sym (ap (λ l. slice_get l k) s) ∙ get_map thread_seen ts k t e) in
    (q.0, q.1, ap (λ (u : Thread). u.handle) q.2)

rise : (p : Checked) (ps : List ThreadPart) (ts : List ThreadActions) → HasRuns p ps → Seen p ps ts → Rise ts
rise p ps ts r s j k t u l e g =
    let a = part_of p ps ts s j t e in
    let b = part_of p ps ts s k u g in
    let h : a.0.handle < b.0.handle = r.threads.rising k b.0 b.1 j a.0 l a.1 in
    omega (arith, a.2, b.2)

-- of threads alone
pub listed_alone : (p : Checked) (ps : List ThreadPart) (ts : List ThreadActions) (ws : List EventAction) → HasRuns p ps → Seen p ps ts → ws ≡ event_actions ts → ListsActions (acting p ps) ws
listed_alone p ps ts ws r s e =
    subst (λ l. ListsActions (acting p ps) l) (sym e) (subst (λ x. ListsActions x (event_actions ts)) (seen_is p (alone ps) ps ts refl s) (lists ts [] [] (rise p ps ts r s)))

-- of a candidate, whose actions are those of its threads alone
pub listed_in : (p : Checked) (c : Candidate) (ws : List EventAction) → ListsActions (acting p c.threads) ws → ListsActions (execution_in p c) ws
listed_in p c ws h = record {
  sound = λ k w e. acts_alone p c w.event ∙ h.sound k w e;
  complete = λ e a g. h.complete e a (sym (acts_alone p c e) ∙ g);
  ordered = h.ordered;
}

-- ---- creates

pub creates_hold : (p : Checked) (ps : List ThreadPart) (ws : List EventAction) → HasRuns p ps → ListsActions (acting p ps) ws → first_not (is_created ws) handle_of ps ≡ None → HasCreates p ps
creates_hold p ps ws r h e = record { runs = r; created = created_none (acting p ps) ws h ps e }

pub creates_break : (p : Checked) (ps : List ThreadPart) (ws : List EventAction) (n : ℕ) → ListsActions (acting p ps) ws → first_not (is_created ws) handle_of ps ≡ Some n → FirstHandle (IsCreated (acting p ps)) ps n
creates_break p ps ws n h e = created_some (acting p ps) ws h ps n e

pub children_hold : (p : Checked) (ps : List ThreadPart) (ws : List EventAction) → HasCreates p ps → ListsActions (acting p ps) ws → first_not (has_child ps) child_of ws ≡ None → HasChildren p ps
children_hold p ps ws r h e = record { creates = r; children = children_none p ps ws h e }

pub children_break : (p : Checked) (ps : List ThreadPart) (ws : List EventAction) (n : ℕ) → ListsActions (acting p ps) ws → first_not (has_child ps) child_of ws ≡ Some n → FirstChild (acting p ps) n
children_break p ps ws n h e = children_some p ps ws n h e

-- ---- sources and orders

pub sources_hold : (p : Checked) (c : Candidate) (ws : List EventAction) → IsChecked p → ListsActions (execution_in p c) ws → HasChildren p c.threads → least_unread ws (first_not (has_source p.cells ws c.rf) event_of ws) c.rf ≡ None → HasSources p c
sources_hold p c ws k h r e = record {
  children = r;
  sources = sources_none (shape p) (execution_in p c) p.cells ws (cells_shaped p k) h e;
}

pub sources_break : (p : Checked) (c : Candidate) (ws : List EventAction) (f : Event) → IsChecked p → ListsActions (execution_in p c) ws → least_unread ws (first_not (has_source p.cells ws c.rf) event_of ws) c.rf ≡ Some f → FirstEvent (IsSourced (shape p) (execution_in p c)) f
sources_break p c ws f k h e = sources_some (shape p) (execution_in p c) p.cells ws f (cells_shaped p k) h e

cell_number : (p : Checked) (cells : ℕ) → IsChecked p → cells ≡ length p.cells → cells ≡ length (shape p).initials
cell_number p cells k e = e ∙ sym (ap length (cells_shaped p k) ∙ length-map p.cells (λ (i : CellInfo). i.initial))

pub orders_hold : (p : Checked) (c : Candidate) (ws : List EventAction) (cells : ℕ) → IsChecked p → cells ≡ length p.cells → ListsActions (execution_in p c) ws → HasSources p c → bad_order_from ws cells 0 c.co ≡ None → HasOrders p c
orders_hold p c ws cells k n h r e = record {
  sources = r;
  orders = orders_none (shape p) (execution_in p c) ws cells (cell_number p cells k n) h e;
}

pub orders_break : (p : Checked) (c : Candidate) (ws : List EventAction) (cells d : ℕ) → IsChecked p → cells ≡ length p.cells → ListsActions (execution_in p c) ws → bad_order_from ws cells 0 c.co ≡ Some d → FirstNumber (HasOrder (shape p) (execution_in p c)) d
orders_break p c ws cells d k n h e = orders_some (shape p) (execution_in p c) ws cells d (cell_number p cells k n) h e

-- ---- joins

-- what the code holds of threads alone is what it holds of the candidate
pub acts_in : (p : Checked) (c : Candidate) (ts : List ThreadActions) (ws : List EventAction) → Seen p c.threads ts → ListsActions (acting p c.threads) ws → Acts p c ts ws
acts_in p c ts ws s h = record { seen = seen_is p c c.threads ts refl s; listed = listed_in p c ws h }

pub joins_hold : (p : Checked) (c : Candidate) (ts : List ThreadActions) (ws : List EventAction) → HasOrders p c → Acts p c ts ws → first_not (joins_ended ts) event_of ws ≡ None → IsExecution p c
joins_hold p c ts ws r a e = record {
  orders = r;
  joins = subst (λ x. (f : Event) → AtAction x (JoinsAnEnded x) f) a.seen (joins_none ts c.rf c.co ws (subst (λ x. ListsActions x ws) (sym a.seen) a.listed) e);
}

pub joins_break : (p : Checked) (c : Candidate) (ts : List ThreadActions) (ws : List EventAction) (f : Event) → Acts p c ts ws → first_not (joins_ended ts) event_of ws ≡ Some f → FirstEvent (AtAction (execution_in p c) (JoinsAnEnded (execution_in p c))) f
joins_break p c ts ws f a e =
    subst (λ x. FirstEvent (AtAction x (JoinsAnEnded x)) f) a.seen (joins_some ts c.rf c.co ws f (subst (λ x. ListsActions x ws) (sym a.seen) a.listed) e)

-- ---- threads alone

-- what is first broken of threads alone is first broken of the candidate
pub threads_break : (p : Checked) (m : MemoryModel) (c : Candidate) (e : Reject) → ThreadsBreak p c.threads e → IsFirstBroken p m c e
threads_break p m c (BadSource f) b = absurd b
threads_break p m c (BadOrder n) b = absurd b
threads_break p m c (BadJoin f) b = absurd b
threads_break p m c (LocalCycle l) b = absurd b
threads_break p m c (GlobalCycle l) b = absurd b
threads_break p m c (BlockCycle l) b = absurd b
threads_break p m c NotFailing b = absurd b
threads_break p m c MainMissing b = b
threads_break p m c (ThreadTwice h) b = b
threads_break p m c (UnknownThread h) b = b
threads_break p m c (ScriptShort h) b = b
threads_break p m c (ScriptLong h) b = b
threads_break p m c (BadRun h) b = b
threads_break p m c (NoCreate h) b = b
threads_break p m c (NoThread h) b = b
threads_break p m c OutOfMemory b = b

-- ---- what is told of slices, of the lists that they are

pub sources_told : (o : Option Event) (cells bells : List CellInfo) (ws : List EventAction) (rf sf : List RfPair) → bells ≡ cells → sf ≡ rf → least_unread ws (first_not (has_source bells ws sf) event_of ws) sf ≡ o → least_unread ws (first_not (has_source cells ws rf) event_of ws) rf ≡ o
sources_told o cells bells ws rf sf k f e =
    subst (λ z. least_unread ws (first_not (has_source cells ws z) event_of ws) z ≡ o) f (subst (λ z. least_unread ws (first_not (has_source z ws sf) event_of ws) sf ≡ o) k e)

pub orders_told : (o : Option ℕ) (cells : ℕ) (ws : List EventAction) (co ls : List (List Event)) → ls ≡ co → bad_order_from ws cells 0 ls ≡ o → bad_order_from ws cells 0 co ≡ o
orders_told o cells ws co ls k e = subst (λ z. bad_order_from ws cells 0 z ≡ o) k e
