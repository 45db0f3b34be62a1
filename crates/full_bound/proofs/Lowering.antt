-- The threads of a failing execution, run for a lower bound.
use Rattle.std.proofs.Common.{◌≡◌, ℕ, zero, suc, ◌≤◌, List, [], ◌∷◌, ◌++◌, Option, Some, true, false, refl, sym, ap, ◌∙◌, subst, inl, inr, ◌⊎◌, ⊎_elim, append-nil}
use Rattle.std.specs.Prelude.{nat_eq, slice_get}
use Rattle.std.specs.List.{AllZip}
use Rattle.std.proofs.lemmas.Bool.{cases_eq, cond-false, ne_eqb}
use Rattle.std.proofs.lemmas.Option.{same_Some}
use Rattle.dg_base.specs.declared.Place.{Place}
use Rattle.dg_base.proofs.Lists.{get_nothing}
use Rattle.axiom_model.specs.declared.Action.{Action}
use Rattle.axiom_model.specs.declared.ThreadPart.{ThreadPart}
use Rattle.axiom_model.specs.Execution.{Thread, actions_of}
use Rattle.axiom_model.specs.Failing.{Run, Runs, RunsTo, thread_of, threads_of}
use Rattle.c_tree.specs.declared.program.Function.{Function}
use Rattle.c_check.specs.declared.checked.Checked.{Checked}
use Rattle.c_rules.specs.Names.{functions_of}
use Rattle.run_model.specs.declared.state.Ending.{Ending}
use Rattle.run_model.specs.declared.state.Ending.TheVariants.{Bound, Stopped, Bad, Ended, Failed}
use Rattle.run_model.specs.declared.state.Halt.TheVariants.{Over, Short}
use Rattle.run_model.specs.Steps.{Outcome, Goes, Halts}
use Rattle.run_model.specs.Programs.{setting_of}
use Rattle.run_model.specs.Threads.{thread_steps, thread_outcome, outcome_of, run_in, run_with, thread_run, begins}
use Rattle.run_laws.specs.Turns.{IsSpent, Beside}
use Rattle.run_laws.proofs.Told as told
use Rattle.run_laws.proofs.Besides.{higher_goes_on}

-- the run for the lower bound on the same script: the same, or it spent its bound, with the first actions
pub record Lower (p : Checked) (f handle arg : ℕ) (script : List ℕ) (r : Run) : Type 0 where
  pub run : Run
  pub runs : thread_run p f handle arg script ≡ Some run
  pub rest : List Action
  pub whole : r.actions ≡ run.actions ++ rest
  pub not_bad : run.bad ≡ false
  pub ends : (run ≡ r) ⊎ ((place : Place) × (run.failed ≡ Some place))

module _ (p q : Checked) (full : p.full ≡ true) (same : q.program ≡ p.program) (more : p.k ≤ q.k) where
  pub lower : (f handle arg : ℕ) (script : List ℕ) (r : Run) → thread_run q f handle arg script ≡ Some r → r.bad ≡ false → Lower p f handle arg script r
  lower f handle arg script r e fine =
      let x : told.Ran q f handle arg script r = told.ran q f handle arg script r e in
      let is : slice_get (setting_of p handle).functions f ≡ Some x.function = subst (λ z. slice_get (functions_of z.items) f ≡ Some x.function) same x.is in
      let steps : Outcome ⊥ = thread_steps (setting_of p handle) x.function arg (begins script) in
      let here : thread_outcome p f handle arg script ≡ Some steps = ap (λ (o : Option Function). outcome_of (setting_of p handle) o arg script) is in
      let there : thread_outcome q f handle arg script ≡ Some (Halts (Over x.ending) x.state) = ap (λ (o : Option Function). outcome_of (setting_of q handle) o arg script) x.is ∙ ap (λ (o : Outcome ⊥). Some o) x.goes in
      let beside : Beside p.full steps (Halts (Over x.ending) x.state) = higher_goes_on p q handle more f arg script same steps (Halts (Over x.ending) x.state) here there in
      by steps here x (subst (λ b. Beside b steps (Halts (Over x.ending) x.state)) full beside) where
        spent : (e : Ending) → IsSpent true e → (place : Place) × (e ≡ Bound place)
        spent (Bound pl) h = (pl, refl)
        spent Stopped h = absurd h
        spent Bad h = absurd h
        spent Ended h = absurd h
        spent (Failed pl) h = absurd h

        by : (o : Outcome ⊥) → thread_outcome p f handle arg script ≡ Some o → (x : told.Ran q f handle arg script r) → Beside true o (Halts (Over x.ending) x.state) → Lower p f handle arg script r
        by o here x (inl e) = record {
          run = r;
          runs = ap (λ (z : Option (Outcome ⊥)). run_in z) (here ∙ ap (λ (z : Outcome ⊥). Some z) e) ∙ ap (λ (z : Run). Some z) x.run;
          rest = [];
          whole = sym (append-nil r.actions);
          not_bad = fine;
          ends = inl refl;
        }
        by (Goes a t) here x (inr z) = absurd a
        by (Halts (Short n) t) here x (inr z) = absurd z
        by (Halts (Over e) t) here x (inr z) =
            let b = spent e z.0 in
            record {
              run = run_with t.actions (Bound b.0) t.used;
              runs = ap (λ (z : Option (Outcome ⊥)). run_in z) (here ∙ ap (λ (y : Ending). Some (Halts (Over y) t)) b.1);
              rest = z.1.0;
              whole = sym (ap (λ (r : Run). r.actions) x.run) ∙ z.1.1;
              not_bad = refl;
              ends = inr (b.0, refl);
            }

-- ---- parts, runs and threads

pub record Line (runs : Runs) (ps : List ThreadPart) (rs : List Run) (k : ℕ) (t : Thread) : Type 0 where
  pub part : ThreadPart
  pub run : Run
  pub is_part : slice_get ps k ≡ Some part
  pub is_run : slice_get rs k ≡ Some run
  pub runs_to : RunsTo runs part run
  pub same : thread_of part run ≡ t

pub line_of : (runs : Runs) (ps : List ThreadPart) (rs : List Run) → AllZip (RunsTo runs) ps rs → (k : ℕ) (t : Thread) → slice_get (threads_of ps rs) k ≡ Some t → Line runs ps rs k t
line_of runs [] [] w k t e = absurd (get_nothing k t e)
line_of runs [] (r ∷ rs) w k t e = absurd w
line_of runs (p ∷ ps) [] w k t e = absurd w
line_of runs (p ∷ ps) (r ∷ rs) w zero t e = record { part = p; run = r; is_part = refl; is_run = refl; runs_to = w.0; same = same_Some (thread_of p r) t e }
line_of runs (p ∷ ps) (r ∷ rs) w (suc k) t e = let it = line_of runs ps rs w.1 k t e in record { part = it.part; run = it.run; is_part = it.is_part; is_run = it.is_run; runs_to = it.runs_to; same = it.same }

-- each run is that of a thread
pub thread_there : (runs : Runs) (ps : List ThreadPart) (rs : List Run) → AllZip (RunsTo runs) ps rs → (k : ℕ) (r : Run) → slice_get rs k ≡ Some r → (t : Thread) × (slice_get (threads_of ps rs) k ≡ Some t)
thread_there runs [] [] w k r e = absurd (get_nothing k r e)
thread_there runs [] (q ∷ rs) w k r e = absurd w
thread_there runs (p ∷ ps) [] w k r e = absurd w
thread_there runs (p ∷ ps) (q ∷ rs) w zero r e = (thread_of p q, refl)
thread_there runs (p ∷ ps) (q ∷ rs) w (suc k) r e = thread_there runs ps rs w.1 k r e

-- the thread with a handle, or there is none
pub find_thread : (ts : List Thread) (h : ℕ) → ((k : ℕ) × (t : Thread) × (slice_get ts k ≡ Some t) × (t.handle ≡ h)) ⊎ ((actions_of ts h ≡ []) × ((k : ℕ) (t : Thread) → slice_get ts k ≡ Some t → t.handle ≡ h → ⊥))
find_thread [] h = inr (refl, λ k t e i. get_nothing k t e)
find_thread (u ∷ ts) h =
    ⊎_elim (λ e. inl (0, u, refl, e))
    (λ ne. ⊎_elim (λ it. inl (suc it.0, it.1, it.2, it.3))
    (λ it. inr (cond-false (nat_eq u.handle h) u.actions (actions_of ts h) (ne_eqb u.handle h ne) ∙ it.0, λ k t e i. absent k t it.1 e i ne)) (find_thread ts h))
    (cases_eq u.handle h) where
      absent : (k : ℕ) (t : Thread) → ((k : ℕ) (t : Thread) → slice_get ts k ≡ Some t → t.handle ≡ h → ⊥) → slice_get (u ∷ ts) k ≡ Some t → t.handle ≡ h → (u.handle ≡ h → ⊥) → ⊥
      absent zero t none e i ne = ne (ap (λ (z : Thread). z.handle) (same_Some u t e) ∙ i)
      absent (suc k) t none e i ne = none k t e i
