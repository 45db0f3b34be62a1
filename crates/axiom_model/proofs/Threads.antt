-- The threads of an execution: which one acts at an event, and of which run each is.
use Rattle.std.proofs.Common.{◌≡◌, ℕ, zero, suc, ◌<◌, List, [], ◌∷◌, Some, refl, ap, ◌∙◌, subst, ⊎_elim, arith, get_or}
use Rattle.std.specs.Prelude.{slice_get, nat_eq, AllPairs}
use Rattle.std.specs.List.{AllZip}
use Rattle.std.proofs.lemmas.Bool.{cases_order, cond-true, cond-false, cond_both, eqb-true, eq-eqb, ne_eqb}
use Rattle.std.proofs.lemmas.Option.{get_or_from_slice_get, slice_get_within}
use Rattle.axiom_model.specs.declared.Action.{Action}
use Rattle.axiom_model.specs.declared.ThreadPart.{ThreadPart}
use Rattle.axiom_model.specs.Execution.{Thread, actions_of}
use Rattle.axiom_model.specs.Failing.{Run, Runs, RunsTo, thread_of, threads_of}

-- some thread has the handle, and its action at the index is this one
pub record Acts (ts : List Thread) (h i : ℕ) (a : Action) : Type 0 where
  pub place : ℕ
  pub thread : Thread
  pub there : slice_get ts place ≡ Some thread
  pub same_handle : thread.handle ≡ h
  pub acts : slice_get thread.actions i ≡ Some a

-- every action that is looked up by its handle is one of a thread with that handle
pub acts_from : (ts : List Thread) (h i : ℕ) (a : Action) → slice_get (actions_of ts h) i ≡ Some a → Acts ts h i a
acts_from [] h i a e = cc
acts_from (u ∷ ts) h i a e =
    cond_both (nat_eq u.handle h) u.actions (actions_of ts h) (λ l. slice_get l i ≡ Some a → Acts (u ∷ ts) h i a)
    (λ b d. record { place = 0; thread = u; there = refl; same_handle = eqb-true u.handle h b; acts = d })
    (λ b d. let r = acts_from ts h i a d in record { place = suc r.place; thread = r.thread; there = r.there; same_handle = r.same_handle; acts = r.acts })
    e

-- handles rise strictly
abbrev pub Rising : List Thread → Type 0
Rising ts = AllPairs (λ t u. t.handle < u.handle) ts

-- where handles rise, a thread that stands before another has the lower handle
lower_first : (ts : List Thread) → Rising ts → (j k : ℕ) (t u : Thread) → j < k → slice_get ts j ≡ Some t → slice_get ts k ≡ Some u → t.handle < u.handle
lower_first ts r j k t u l a b =
    let h : (get_or ts j t).handle < (get_or ts k t).handle = r j k t l (slice_get_within ts k u b) in
    let first : (get_or ts j t).handle ≡ t.handle = ap (λ z. z.handle) (get_or_from_slice_get ts j t t a) in
    let second : (get_or ts k t).handle ≡ u.handle = ap (λ z. z.handle) (get_or_from_slice_get ts k u t b) in
    omega arith

-- without their first, handles still rise
rising_tail : (u : Thread) (ts : List Thread) → Rising (u ∷ ts) → Rising ts
rising_tail u ts r i j d a b = r (suc i) (suc j) d (omega arith) (omega arith)

-- where handles rise, a handle's actions are those of the thread that has it
pub actions_of-thread : (ts : List Thread) → Rising ts → (k : ℕ) (t : Thread) → slice_get ts k ≡ Some t → actions_of ts t.handle ≡ t.actions
actions_of-thread [] r k t e = cc
actions_of-thread (u ∷ ts) r zero t e =
    let same : u ≡ t = cc in
    subst (λ z. actions_of (u ∷ ts) z.handle ≡ z.actions) same (cond-true (nat_eq u.handle u.handle) u.actions (actions_of ts u.handle) (eq-eqb u.handle u.handle refl))
actions_of-thread (u ∷ ts) r (suc k) t e =
    let less : u.handle < t.handle = lower_first (u ∷ ts) r 0 (suc k) u t (omega arith) refl e in
    cond-false (nat_eq u.handle t.handle) u.actions (actions_of ts t.handle) (ne_eqb u.handle t.handle (λ g. absurd (omega arith))) ∙ actions_of-thread ts (rising_tail u ts r) k t e

-- where handles rise, one handle is one thread
pub one_thread : (ts : List Thread) → Rising ts → (j k : ℕ) (t u : Thread) → slice_get ts j ≡ Some t → slice_get ts k ≡ Some u → t.handle ≡ u.handle → t ≡ u
one_thread ts r j k t u a b e =
    ⊎_elim (λ g. let c : slice_get ts k ≡ Some t = subst (λ n. slice_get ts n ≡ Some t) g a in cc)
    (⊎_elim (λ l. let h : t.handle < u.handle = lower_first ts r j k t u l a b in absurd (omega arith)) (λ l. let h : u.handle < t.handle = lower_first ts r k j u t l b a in absurd (omega arith)))
    (cases_order j k)

-- the thread did what a run of its function, with its handle and argument, does on some script
pub record RunsIts (runs : Runs) (t : Thread) : Type 0 where
  pub script : List ℕ
  pub run : Run
  pub runs_to : runs t.function t.handle t.arg script ≡ Some run
  pub actions : t.actions ≡ run.actions

-- every thread of a candidate's execution is one of its runs
pub threads_of-runs : (runs : Runs) (ps : List ThreadPart) (rs : List Run) → AllZip (RunsTo runs) ps rs → (k : ℕ) (t : Thread) → slice_get (threads_of ps rs) k ≡ Some t → RunsIts runs t
threads_of-runs runs [] [] w k t e = cc
threads_of-runs runs [] (r ∷ rs) w k t e = absurd w
threads_of-runs runs (p ∷ ps) [] w k t e = absurd w
threads_of-runs runs (p ∷ ps) (r ∷ rs) w zero t e =
    let same : thread_of p r ≡ t = cc in
    subst (RunsIts runs) same (record { script = p.script; run = r; runs_to = w.0.0; actions = refl })
threads_of-runs runs (p ∷ ps) (r ∷ rs) w (suc k) t e = threads_of-runs runs ps rs w.1 k t e

-- every run is that of a part, and a thread of the candidate's execution
pub part_of_run : (runs : Runs) (ps : List ThreadPart) (rs : List Run) → AllZip (RunsTo runs) ps rs → (k : ℕ) (r : Run) → slice_get rs k ≡ Some r → (p : ThreadPart) × RunsTo runs p r × (slice_get (threads_of ps rs) k ≡ Some (thread_of p r))
part_of_run runs [] [] w k r e = cc
part_of_run runs [] (q ∷ rs) w k r e = absurd w
part_of_run runs (p ∷ ps) [] w k r e = absurd w
part_of_run runs (p ∷ ps) (q ∷ rs) w zero r e =
    let same : q ≡ r = cc in
    subst (λ z. (o : ThreadPart) × RunsTo runs o z × (slice_get (threads_of (p ∷ ps) (q ∷ rs)) 0 ≡ Some (thread_of o z))) same (p, w.0, refl)
part_of_run runs (p ∷ ps) (q ∷ rs) w (suc k) r e = part_of_run runs ps rs w.1 k r e
