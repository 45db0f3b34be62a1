-- Each thread of a well made candidate runs a started function.
use Rattle.std.proofs.Common.{◌≡◌, ◌≢◌, ℕ, zero, suc, ◌<◌, ◌≤◌, List, Option, Some, None, sym, ap, ◌∙◌, subst, ⊎_elim, arith}
use Rattle.std.specs.Prelude.{slice_get}
use Rattle.std.specs.List.{AllZip}
use Rattle.std.proofs.lemmas.Bool.{cases_eq}
use Rattle.std.proofs.lemmas.Option.{get_or_from_slice_get, slice_get_within}
use Rattle.axiom_model.specs.declared.Action.{Action}
use Rattle.axiom_model.specs.declared.Action.TheVariants.{Create}
use Rattle.axiom_model.specs.declared.Event.{Event}
use Rattle.axiom_model.specs.declared.Event.TheVariants.{Initial, At}
use Rattle.axiom_model.specs.declared.Candidate.{Candidate}
use Rattle.axiom_model.specs.Execution.{Thread, action_at}
use Rattle.axiom_model.specs.WellMade.{WellMade}
use Rattle.axiom_model.specs.Failing.{Run, RunsTo, thread_of, threads_of, execution_of}
use Rattle.axiom_model.proofs.Threads.{Acts, acts_from, one_thread, RunsIts, threads_of-runs, part_of_run}
use Rattle.c_check.specs.declared.checked.Checked.{Checked}
use Rattle.c_check.specs.WellFormed.{IsChecked}
use Rattle.run_model.specs.Programs.{shape_of}
use Rattle.run_model.specs.Threads.{thread_run}
use Rattle.run_model.specs.Laws.{IsNumbered, creates_in, CreatesFew}
use Rattle.run_model.proofs.Handles.{run_is_numbered}
use Rattle.run_model.proofs.Creates.{numbered_at}
use Rattle.run_laws.specs.Started.{IsStarted, main, created}
use Rattle.run_laws.specs.Lengths.{IsShort}
use Rattle.run_laws.proofs.Started.{started_run_small}

-- ---- all threads

module _ (p : Checked) (c : Candidate) (rs : List Run) (checked : IsChecked p) (runs : AllZip (RunsTo (thread_run p)) c.threads rs) (made : WellMade (shape_of p.program) (execution_of c rs)) where
  abbrev threads : List Thread
  threads = threads_of c.threads rs

  -- the thread is of a function that main leads to
  abbrev Leads : Thread → Type 0
  Leads t = (d : ℕ) × IsStarted p d t.function

  created_leads : (t u : Thread) (k i : ℕ) → slice_get threads k ≡ Some u → slice_get u.actions i ≡ Some (Create t.handle t.function t.arg) → Leads u → Leads t
  created_leads t u k i e made (d, s) =
      let its : RunsIts (thread_run p) u = threads_of-runs (thread_run p) c.threads rs runs k u e in
      let there : slice_get its.run.actions i ≡ Some (Create t.handle t.function t.arg) = subst (λ (acts : List Action). slice_get acts i ≡ Some (Create t.handle t.function t.arg)) its.actions made in
      (suc d, created d u.function t.function u.handle u.arg t.handle t.arg its.script its.run s its.runs_to (i, slice_get_within its.run.actions i _ there, get_or_from_slice_get its.run.actions i _ _ there))

  lower : (t u : Thread) (k i : ℕ) → slice_get threads k ≡ Some u → slice_get u.actions i ≡ Some (Create t.handle t.function t.arg) → u.handle < t.handle
  lower t u k i e made =
      let its : RunsIts (thread_run p) u = threads_of-runs (thread_run p) c.threads rs runs k u e in
      let numbered : IsNumbered u.handle 0 u.actions = subst (IsNumbered u.handle 0) (sym its.actions) (run_is_numbered p u.function u.handle u.arg its.script its.run its.runs_to) in
      omega (arith, numbered_at t.handle t.function t.arg u.handle 0 u.actions i numbered made)

  main_leads : (k : ℕ) (t : Thread) → slice_get threads k ≡ Some t → t.handle ≡ 0 → Leads t
  main_leads k t e zero_is =
      let first = made.has_main in
      let same : first.1 ≡ t = one_thread threads made.rising first.0 k first.1 t first.2 e (first.3 ∙ sym zero_is) in
      (0, subst (IsStarted p 0) (sym first.4.0 ∙ ap (λ (u : Thread). u.function) same) main)

  from_event : (t : Thread) (e : Event) → action_at (execution_of c rs) e ≡ Some (Create t.handle t.function t.arg) → ((k : ℕ) (u : Thread) → slice_get threads k ≡ Some u → u.handle < t.handle → Leads u) → Leads t
  from_event t Initial e rest = absurd (let no : ◌≡◌ {A = Option Action} None (Some (Create t.handle t.function t.arg)) = e in cc)
  from_event t (At h i) e rest =
      let it : Acts threads h i (Create t.handle t.function t.arg) = acts_from threads h i (Create t.handle t.function t.arg) e in
      created_leads t it.thread it.place i it.there it.acts (rest it.place it.thread it.there (lower t it.thread it.place i it.there it.acts))

  abbrev IsCreated : Thread → Type 0
  IsCreated t = t.handle ≢ 0 → (e : Event) × (action_at (execution_of c rs) e ≡ Some (Create t.handle t.function t.arg))

  leads_at : (b k : ℕ) (t : Thread) → slice_get threads k ≡ Some t → t.handle < b → Leads t
  leads_at zero k t e low = absurd (omega (arith, low))
  leads_at (suc b) k t e low =
      ⊎_elim (main_leads k t e) (λ other.
      let by : IsCreated t = subst IsCreated (get_or_from_slice_get threads k t t e) (made.created k t (slice_get_within threads k t e)) in
      let event = by other in
      from_event t event.0 event.1 (λ j u there less. leads_at b j u there (omega (arith, less, low))))
      (cases_eq t.handle 0)

  run_small : (k : ℕ) (r : Run) → slice_get rs k ≡ Some r → (creates_in r.actions ≤ 63) × IsShort r.actions
  run_small k r e =
      let part = part_of_run (thread_run p) c.threads rs runs k r e in
      let leads : Leads (thread_of part.0 r) = leads_at (suc part.0.handle) k (thread_of part.0 r) part.2 (omega arith) in
      started_run_small p checked leads.0 part.0.function part.0.handle part.0.arg part.0.script r leads.1 part.1.0

  pub run_short : (k : ℕ) (r : Run) → slice_get rs k ≡ Some r → IsShort r.actions
  run_short k r e = (run_small k r e).1

pub all_few : (p : Checked) (c : Candidate) (rs : List Run) → IsChecked p → AllZip (RunsTo (thread_run p)) c.threads rs → WellMade (shape_of p.program) (execution_of c rs) → CreatesFew rs
all_few p c rs checked runs made = λ k r e. (run_small p c rs checked runs made k r e).0
