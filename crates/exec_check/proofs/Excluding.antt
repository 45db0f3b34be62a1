-- A failing execution breaks no condition.
use Rattle.std.proofs.Common.{◌≡◌, ℕ, zero, suc, List, [], ◌∷◌, length, false, Some, refl, sym, ap, ◌∙◌, subst}
use Rattle.std.specs.Prelude.{slice_get, unwrap_or}
use Rattle.std.specs.List.{AllZip}
use Rattle.std.proofs.lemmas.Option.{none-some, same_Some}
use Rattle.axiom_model.specs.declared.MemoryModel.{MemoryModel}
use Rattle.axiom_model.specs.declared.ThreadPart.{ThreadPart}
use Rattle.axiom_model.specs.declared.Candidate.{Candidate}
use Rattle.axiom_model.specs.Execution.{Thread}
use Rattle.axiom_model.specs.WellMade.{WellMade}
use Rattle.run_model.specs.Programs.{shape_of}
use Rattle.axiom_model.specs.Models.{Consistent}
use Rattle.axiom_model.specs.Failing.{Run, RunsTo, execution_of, SomeFails}
use Rattle.c_check.specs.declared.checked.Checked.{Checked}
use Rattle.run_model.specs.Threads.{thread_run, ProgramFails}
use Rattle.exec_check.specs.declared.Reject.{Reject}
use Rattle.exec_check.specs.declared.Reject.TheVariants.{MainMissing, ThreadTwice, UnknownThread, ScriptShort, ScriptLong, BadRun, NoCreate, NoThread, BadSource, BadOrder, BadJoin, LocalCycle, GlobalCycle, BlockCycle, NotFailing, OutOfMemory}
use Rattle.exec_check.specs.First.{EachThread, FirstHandle}
use Rattle.exec_check.specs.Running.{run_told, run_by, runs_of, no_run, execution_in, shape}
use Rattle.exec_check.specs.Conditions.{RunsWell, IsExecution}
use Rattle.exec_check.specs.Broken.{FirstRun, IsFirstBroken}
use Rattle.exec_check.proofs.Shaped.{shape_is, told_is}
use Rattle.exec_check.proofs.Whole.{is_execution, each_part}

-- the runs of a failing execution are those of its threads
pub runs_are : (p : Checked) (ps : List ThreadPart) (rs : List Run) → AllZip (RunsTo (thread_run p)) ps rs → rs ≡ runs_of p ps
runs_are p [] [] w = refl
runs_are p [] (r ∷ rs) w = absurd w
runs_are p (t ∷ ps) [] w = absurd w
runs_are p (t ∷ ps) (r ∷ rs) w =
    let here : r ≡ run_by p t = sym (ap (λ o. unwrap_or o no_run) (told_is p t ∙ w.0.0)) in
    let rest : rs ≡ runs_of p ps = runs_are p ps rs w.1 in
    ap (λ z. z ∷ rs) here ∙ ap (λ l. run_by p t ∷ l) rest

told : (p : Checked) (ps : List ThreadPart) (rs : List Run) → AllZip (RunsTo (thread_run p)) ps rs → (k : ℕ) (t : ThreadPart) → slice_get ps k ≡ Some t → (r : Run) × (run_told p t ≡ Some r) × (r.used ≡ length t.script)
told p [] rs w k t e = absurd (none-some t e)
told p (u ∷ ps) [] w k t e = absurd w
told p (u ∷ ps) (r ∷ rs) w zero t e =
    subst (λ z. (q : Run) × (run_told p z ≡ Some q) × (q.used ≡ length z.script)) (same_Some u t e) (r, told_is p u ∙ w.0.0, w.0.1)
told p (u ∷ ps) (r ∷ rs) w (suc k) t e = told p ps rs w.1 k t e

-- what a failing execution is, in the words of this crate
record FailsHere (p : Checked) (m : MemoryModel) (c : Candidate) : Type 0 where
  execution : IsExecution p c
  consistent : Consistent m (execution_in p c)
  fails : SomeFails (runs_of p c.threads)

fails_here : (p : Checked) (m : MemoryModel) (c : Candidate) → ProgramFails p m c → FailsHere p m c
fails_here p m c f =
    let a = f.allowed in
    let same = runs_are p c.threads a.threads a.whole in
    let w : WellMade (shape p) (execution_in p c) = subst (λ s. WellMade s (execution_in p c)) (sym (shape_is p)) (subst (λ rs. WellMade (shape_of p.program) (execution_of c rs)) same a.well_made) in
    record {
      execution = is_execution p c a.words (well w) w;
      consistent = subst (λ rs. Consistent m (execution_of c rs)) same a.consistent;
      fails = subst SomeFails same f.fails;
    }
  where
    well : WellMade (shape p) (execution_in p c) → EachThread (RunsWell p) c.threads
    well w k t e =
        let r = told p c.threads f.allowed.threads f.allowed.whole k t e in
        let is : run_by p t ≡ r.0 = ap (λ o. unwrap_or o no_run) r.1 in
        let bad : (run_by p t).bad ≡ false = each_part p c (λ (u : Thread). u.bad ≡ false) w.none_bad k t e in
        (r.0, r.1, r.2, subst (λ (z : Run). z.bad ≡ false) is bad)

holds : (P : ℕ → ThreadPart → Type 0) (ps : List ThreadPart) (h : ℕ) → EachThread P ps → FirstHandle P ps h → ⊥
holds P ps h each f = f.1.broken (each f.1.place f.0 f.1.there)

runs : (p : Checked) (W : ThreadPart → Type 0) (ps : List ThreadPart) (h : ℕ) → EachThread (RunsWell p) ps → FirstRun p W ps h → ⊥
runs p W ps h each f = f.1.broken (each f.1.place f.0 f.1.there)

excludes : (p : Checked) (m : MemoryModel) (c : Candidate) (e : Reject) → FailsHere p m c → IsFirstBroken p m c e → e ≡ OutOfMemory
excludes p m c MainMissing h b = absurd (b h.execution.orders.sources.children.creates.runs.threads.main)
excludes p m c (ThreadTwice n) h b = absurd (holds _ c.threads n h.execution.orders.sources.children.creates.runs.threads.rising b.1)
excludes p m c (UnknownThread n) h b = absurd (holds _ c.threads n h.execution.orders.sources.children.creates.runs.threads.known b.2)
excludes p m c (ScriptShort n) h b = absurd (runs p _ c.threads n h.execution.orders.sources.children.creates.runs.runs b.1)
excludes p m c (ScriptLong n) h b = absurd (runs p _ c.threads n h.execution.orders.sources.children.creates.runs.runs b.1)
excludes p m c (BadRun n) h b = absurd (runs p _ c.threads n h.execution.orders.sources.children.creates.runs.runs b.1)
excludes p m c (NoCreate n) h b = absurd (holds _ c.threads n h.execution.orders.sources.children.creates.created b.1)
excludes p m c (NoThread n) h b = absurd (b.1.3.broken (h.execution.orders.sources.children.children b.1.0))
excludes p m c (BadSource e) h b = absurd (b.1.broken (h.execution.orders.sources.sources e))
excludes p m c (BadOrder n) h b = absurd (b.1.broken (h.execution.orders.orders n))
excludes p m c (BadJoin e) h b = absurd (b.1.broken (h.execution.joins e))
excludes p m c (LocalCycle l) h b = absurd (h.consistent.local l b.1.cycle)
excludes p m c (GlobalCycle l) h b = absurd (h.consistent.global l b.1.1.cycle)
excludes p m c (BlockCycle l) h b = absurd (h.consistent.blocks b.1.2.pairs b.1.2.cycle)
excludes p m c NotFailing h b =
    let f = h.fails in absurd (none-some f.2 (sym (b.2 f.0 f.1 f.3) ∙ f.4))
excludes p m c OutOfMemory h b = refl

pub breaks_nothing : (p : Checked) (m : MemoryModel) (c : Candidate) (e : Reject) → ProgramFails p m c → IsFirstBroken p m c e → e ≡ OutOfMemory
breaks_nothing p m c e f b = excludes p m c e (fails_here p m c f) b
