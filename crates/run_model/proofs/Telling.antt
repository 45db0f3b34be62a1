-- What is told of a thread's run is told of its program's run.
use Rattle.std.proofs.Common.{◌≡◌, ℕ, List, Some, Option, subst, length}
use Rattle.std.specs.Prelude.{slice_get, Result, Ok, Err, IfOk, IfErr}
use Rattle.c_tree.specs.declared.program.Function.{Function}
use Rattle.c_tree.specs.declared.program.Item.{Item}
use Rattle.c_rules.specs.Names.{functions_of}
use Rattle.c_check.specs.declared.checked.Checked.{Checked}
use Rattle.run_model.specs.declared.state.Shared.{Shared}
use Rattle.run_model.specs.declared.thread.RunStop.{RunStop}
use Rattle.run_model.specs.declared.thread.RunStop.TheVariants as stop
use Rattle.run_model.specs.declared.thread.ThreadRun.{ThreadRun}
use Rattle.run_model.specs.Steps.{State}
use Rattle.run_model.specs.Calls.{Setting, no_other}
use Rattle.run_model.specs.Programs.{setting_of, shared_of}
use Rattle.run_model.specs.Threads.{thread_within, thread_run, short_run, thread_outcome, outcome_of, begins}
use Rattle.run_model.specs.Running.{Tells, IsShort, run_of}
use Rattle.run_model.proofs.Scripts.{short_run_uses_all}

-- the run of a thread with these parts of a program is the program's
module _ (p : Checked) (f handle arg : ℕ) (script : List ℕ) (h : Function) (r : Result ThreadRun RunStop) where
  abbrev with_parts : List Shared → List Item → Setting
  with_parts shared items = record { shared = shared; functions = functions_of items; turns = p.k; full = p.full; handle = handle; other = no_other }

  abbrev TellsFrom : List Shared → List Item → ℕ → State → Type 0
  TellsFrom shared items n s = Tells (Some (thread_within n (with_parts shared items) h arg s)) r

  abbrev TellsAt : List Shared → List Item → ℕ → Type 0
  TellsAt shared items n = TellsFrom shared items n (begins script)

  pub told_of :
      (shared : List Shared) (items : List Item) (n : ℕ) (s : State) → s ≡ begins script →
      shared ≡ shared_of items → items ≡ p.program.items → n ≡ length (functions_of items) → Some h ≡ slice_get (functions_of items) f →
      TellsFrom shared items n s → Tells (thread_outcome p f handle arg script) r
  told_of shared items n s new same_shared same_items same_count found tells =
      let begun : TellsAt shared items n = subst (TellsFrom shared items n) new tells in
      let counted : TellsAt shared items (length (functions_of items)) = subst (TellsAt shared items) same_count begun in
      let listed : TellsAt (shared_of items) items (length (functions_of items)) = subst (λ v. TellsAt v items (length (functions_of items))) same_shared counted in
      let whole : TellsAt (shared_of p.program.items) p.program.items (length (functions_of p.program.items)) = subst (λ v. TellsAt (shared_of v) v (length (functions_of v))) same_items listed in
      let there : Some h ≡ slice_get (functions_of p.program.items) f = subst (λ v. Some h ≡ slice_get (functions_of v) f) same_items found in
      subst (λ (o : Option Function). Tells (outcome_of (setting_of p handle) o arg script) r) there whole

pub told_ran : (p : Checked) (f handle arg : ℕ) (script : List ℕ) (r : Result ThreadRun RunStop) → Tells (thread_outcome p f handle arg script) r → IfOk r (λ r. thread_run p f handle arg script ≡ Some (run_of r))
told_ran p f handle arg script (Ok r) tells = tells
told_ran p f handle arg script (Err e) tells = tt

pub told_short : (p : Checked) (f handle arg : ℕ) (script : List ℕ) (r : Result ThreadRun RunStop) → Tells (thread_outcome p f handle arg script) r → IfErr r (λ e. IsShort script (short_run p f handle arg script) e)
told_short p f handle arg script (Ok r) tells = tt
told_short p f handle arg script (Err (stop.ScriptShort n)) tells = (short_run_uses_all p f handle arg script n tells, tells)
told_short p f handle arg script (Err stop.OutOfMemory) tells = tt
