-- A candidate that breaks no condition fails.
use Rattle.std.proofs.Common.{◌≡◌, ◌≢◌, List, [], ◌∷◌, map, length, Bool, true, false, cond, Option, Some, None, refl, sym, ap, subst, ⊎_elim, ◌∙◌}
use Rattle.std.specs.Prelude.{nat_eq}
use Rattle.std.specs.List.{list_any}
use Rattle.std.proofs.lemmas.Bool.{cases_Bool}
use Rattle.std.proofs.lemmas.Bool.Decides.{not_from_Decides}
use Rattle.std.proofs.lemmas.Option.{none-some}
use Rattle.axiom_model.specs.declared.MemoryModel.{MemoryModel}
use Rattle.axiom_model.specs.declared.ThreadPart.{ThreadPart}
use Rattle.axiom_model.specs.declared.Candidate.{Candidate}
use Rattle.axiom_model.specs.Failing.{FailsFirst, HasWords, Run, SomeFails}
use Rattle.axiom_model.specs.Models.{Consistent}
use Rattle.c_check.specs.declared.checked.Checked.{Checked}
use Rattle.c_check.specs.WellFormed.{IsChecked}
use Rattle.consistency.specs.declared.Inconsistent.{Inconsistent}
use Rattle.consistency.specs.declared.Inconsistent.TheVariants as inconsistent
use Rattle.consistency.specs.declared.ThreadActions.{ThreadActions}
use Rattle.consistency.specs.Evidence.{IsEvidence}
use Rattle.consistency.specs.Seen.{thread_seen}
use Rattle.run_model.specs.Threads.{ProgramFails}
use Rattle.exec_check.specs.declared.Failing.{Failing}
use Rattle.exec_check.specs.declared.Reject.{Reject}
use Rattle.exec_check.specs.declared.Reject.TheVariants.{MainMissing, ThreadTwice, UnknownThread, ScriptLong, BadRun, NoCreate, NoThread, BadSource, BadOrder, BadJoin, LocalCycle, GlobalCycle, BlockCycle, NotFailing, OutOfMemory}
use Rattle.exec_check.specs.ActionTests.{bad_order_from, child_of, has_child, has_source, is_created, joins_ended, least_unread}
use Rattle.exec_check.specs.Broken.{IsFirstBroken}
use Rattle.exec_check.specs.Conditions.{HasChildren, HasCreates, HasMain, HasOrders, HasRuns, HasSources, HasThreads, IsAboveAll, IsExecution, IsKnown, RunsWell}
use Rattle.exec_check.specs.EventActions.{ListsActions, event_actions, event_of}
use Rattle.exec_check.specs.First.{EachThread}
use Rattle.exec_check.specs.Running.{acting, execution_in, run_by, run_told, runs_of, shape}
use Rattle.exec_check.specs.ThreadTests.{first_not, first_wrong, handle_of, is_known, is_main, not_rising, seen_by, told_failing, wrong_run}
use Rattle.exec_check.proofs.Excluding.{runs_are}
use Rattle.exec_check.proofs.Listed.{or_else-some}
use Rattle.exec_check.proofs.Present.{known_none, known_some, main_decides, rising_none, rising_some}
use Rattle.exec_check.proofs.Ran.{none_fails, none_wrong, wrong_is_broken}
use Rattle.exec_check.proofs.Stages as stages
use Rattle.exec_check.proofs.Whole.{first_to_fail, program_fails, well_made}
use Rattle.answer_laws.proofs.Options.{none_else, some_else}
use Rattle.answer_laws.proofs.Evident.{no_evidence}

-- ---- what is wrong with a run is no want of memory

no_memory : (t : ThreadPart) (a b : Bool) → cond a (cond b (Some (BadRun t.handle)) None) (Some (ScriptLong t.handle)) ≡ Some OutOfMemory → ⊥
no_memory t true true e = cc
no_memory t true false e = cc
no_memory t false b e = cc

wrong_no_memory : (t : ThreadPart) (o : Option Run) → wrong_run t o ≡ Some OutOfMemory → ⊥
wrong_no_memory t None e = cc
wrong_no_memory t (Some r) e = no_memory t (nat_eq r.used (length t.script)) r.bad e

first_no_memory : (p : Checked) (ps : List ThreadPart) → first_wrong p ps ≡ Some OutOfMemory → ⊥
first_no_memory p [] e = none-some OutOfMemory e
first_no_memory p (t ∷ ps) e =
    ⊎_elim (λ w. wrong_no_memory t (run_told p t) w) (λ w. first_no_memory p ps w.1) (or_else-some (wrong_run t (run_told p t)) (first_wrong p ps) OutOfMemory e)

-- ---- what the code would hold of each thread

abbrev done_by : Checked → ThreadPart → ThreadActions
done_by p t = record { handle = t.handle; function = t.function; arg = t.arg; actions = (run_by p t).actions; ended = (run_by p t).ended; bad = (run_by p t).bad }

done_seen : (p : Checked) (ps : List ThreadPart) → map thread_seen (map (done_by p) ps) ≡ map (seen_by p) ps
done_seen p [] = refl
done_seen p (t ∷ ps) = ap (λ l. seen_by p t ∷ l) (done_seen p ps)

-- ---- condition by condition

module _ (p : Checked) (m : MemoryModel) (c : Candidate) (checked : IsChecked p) (words : HasWords c) (unbroken : (e : Reject) → e ≢ OutOfMemory → IsFirstBroken p m c e → ⊥) where
  abbrev parts : List ThreadPart
  parts = c.threads

  abbrev done : List ThreadActions
  done = map (done_by p) parts

  has_main : HasMain (shape p) parts
  has_main =
      ⊎_elim (λ t. (main_decides (shape p) parts).0 t)
      (λ f. absurd (unbroken MainMissing (λ e. cc) (not_from_Decides (list_any (is_main (shape p).main) parts) (main_decides (shape p) parts) f)))
      (cases_Bool (list_any (is_main (shape p).main) parts))

  rising : EachThread (IsAboveAll parts) parts
  rising = rising_none parts (none_else (not_rising 0 parts) (λ h e. unbroken (ThreadTwice h) (λ s. cc) (has_main, rising_some parts h e)))

  known : EachThread (IsKnown (shape p)) parts
  known =
      known_none (shape p) parts
      (none_else (first_not (is_known (shape p).functions) handle_of parts) (λ h e. unbroken (UnknownThread h) (λ s. cc) (has_main, rising, known_some (shape p) parts h e)))

  threads : HasThreads p parts
  threads = record { main = has_main; rising = rising; known = known }

  run_well : EachThread (RunsWell p) parts
  run_well =
      none_wrong p parts
      (none_else (first_wrong p parts)
      (λ e g. unbroken e (λ s. first_no_memory p parts (subst (λ z. first_wrong p parts ≡ Some z) s g)) (stages.threads_break p m c e (wrong_is_broken p parts e threads g))))

  runs : HasRuns p parts
  runs = record { threads = threads; words = words; runs = run_well }

  listed : ListsActions (acting p parts) (event_actions done)
  listed = stages.listed_alone p parts done (event_actions done) runs (done_seen p parts) refl

  listed_in : ListsActions (execution_in p c) (event_actions done)
  listed_in = stages.listed_in p c (event_actions done) listed

  creates : HasCreates p parts
  creates =
      stages.creates_hold p parts (event_actions done) runs listed
      (none_else (first_not (is_created (event_actions done)) handle_of parts) (λ n e. unbroken (NoCreate n) (λ s. cc) (runs, stages.creates_break p parts (event_actions done) n listed e)))

  children : HasChildren p parts
  children =
      stages.children_hold p parts (event_actions done) creates listed
      (none_else (first_not (has_child parts) child_of (event_actions done)) (λ n e. unbroken (NoThread n) (λ s. cc) (creates, stages.children_break p parts (event_actions done) n listed e)))

  sources : HasSources p c
  sources =
      stages.sources_hold p c (event_actions done) checked listed_in children
      (none_else (least_unread (event_actions done) (first_not (has_source p.cells (event_actions done) c.rf) event_of (event_actions done)) c.rf)
      (λ f e. unbroken (BadSource f) (λ s. cc) (children, stages.sources_break p c (event_actions done) f checked listed_in e)))

  orders : HasOrders p c
  orders =
      stages.orders_hold p c (event_actions done) (length p.cells) checked refl listed_in sources
      (none_else (bad_order_from (event_actions done) (length p.cells) 0 c.co)
      (λ n e. unbroken (BadOrder n) (λ s. cc) (sources, stages.orders_break p c (event_actions done) (length p.cells) n checked refl listed_in e)))

  execution : IsExecution p c
  execution =
      let did = stages.acts_in p c done (event_actions done) (done_seen p parts) listed in
      stages.joins_hold p c done (event_actions done) orders did
      (none_else (first_not (joins_ended done) event_of (event_actions done)) (λ f e. unbroken (BadJoin f) (λ s. cc) (orders, stages.joins_break p c done (event_actions done) f did e)))

  -- ---- the model, and that some thread fails

  unforbidden : (e : Inconsistent) → e ≢ inconsistent.OutOfMemory → IsEvidence m (execution_in p c) e → ⊥
  unforbidden (inconsistent.LocalCycle l) n e = unbroken (LocalCycle l) (λ s. cc) (execution, e)
  unforbidden (inconsistent.GlobalCycle l) n e = unbroken (GlobalCycle l) (λ s. cc) (execution, e)
  unforbidden (inconsistent.BlockCycle l) n e = unbroken (BlockCycle l) (λ s. cc) (execution, e)
  unforbidden inconsistent.OutOfMemory n e = n refl

  consistent : Consistent m (execution_in p c)
  consistent =
      no_evidence (shape p) (execution_in p c) (well_made p c execution) m unforbidden

  pub unbroken_fails : ProgramFails p m c
  unbroken_fails =
      let told = some_else (told_failing p parts) (λ e. unbroken NotFailing (λ s. cc) (execution, consistent, none_fails p parts e)) in
      program_fails p m c told.0 execution consistent told.1

-- ---- the thread that is told

pub failing_is_told : (p : Checked) (m : MemoryModel) (c : Candidate) (x : ProgramFails p m c) → (f : Failing) × FailsFirst c x.allowed.threads f.handle f.place f.bound
failing_is_told p m c x =
    let told = some_else (told_failing p c.threads) (λ e. none e (subst SomeFails same x.fails)) in
    (told.0, subst (λ (rs : List Run). FailsFirst c rs told.0.handle told.0.place told.0.bound) (sym same) (first_to_fail p c told.0 told.1))
  where
    same : x.allowed.threads ≡ runs_of p c.threads
    same = runs_are p c.threads x.allowed.threads x.allowed.whole

    none : told_failing p c.threads ≡ None → SomeFails (runs_of p c.threads) → ⊥
    none e s = none-some s.2 (sym (none_fails p c.threads e s.0 s.1 s.3) ∙ s.4)
