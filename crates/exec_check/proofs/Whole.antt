-- All conditions together are the well made execution of the model, and with a run that fails the failing execution.
use Rattle.std.proofs.Common.{◌≡◌, ℕ, suc, ◌<◌, ◌^◌, List, [], ◌∷◌, map, length, false, Some, refl, sym, ap, ◌∙◌, subst, ⊎_elim, arith}
use Rattle.std.specs.Prelude.{slice_get, ◌≢◌, get_or, unwrap_or, All, AllPairs}
use Rattle.std.specs.List.{AllZip}
use Rattle.std.proofs.lemmas.Bool.{cases_order}
use Rattle.std.proofs.lemmas.Option.{none-some, same_Some, slice_get_within, slice_get_past, slice_get-get_or, get_or_from_slice_get}
use Rattle.dg_base.proofs.Lists.{get_map, get_from_map}
use Rattle.axiom_model.specs.declared.MemoryModel.{MemoryModel}
use Rattle.axiom_model.specs.declared.Action.{Action}
use Rattle.axiom_model.specs.declared.Action.TheVariants.{Read, Write, Open, Close, Fence, Create, Join, Start, End}
use Rattle.axiom_model.specs.declared.Event.{Event}
use Rattle.axiom_model.specs.declared.Event.TheVariants.{Initial, At}
use Rattle.axiom_model.specs.declared.RfPair.{RfPair}
use Rattle.axiom_model.specs.declared.ThreadPart.{ThreadPart}
use Rattle.axiom_model.specs.declared.Candidate.{Candidate}
use Rattle.axiom_model.specs.Execution.{Thread, Execution, action_at}
use Rattle.axiom_model.specs.WellMade.{Shape, WellMade, IsWriteOrder}
use Rattle.axiom_model.specs.Models.{Consistent}
use Rattle.axiom_model.specs.Failing.{Run, RunsTo, HasWords, threads_of, FailsFirst}
use Rattle.c_check.specs.declared.checked.Checked.{Checked}
use Rattle.consistency.specs.declared.ThreadActions.{ThreadActions}
use Rattle.consistency.specs.Seen.{thread_seen, execution_seen}
use Rattle.run_model.specs.Threads.{thread_run, ProgramAllows, ProgramFails}
use Rattle.exec_check.specs.declared.Failing.{Failing}
use Rattle.exec_check.specs.First.{EachThread}
use Rattle.exec_check.specs.Running.{run_by, runs_of, no_run, execution_in, acting, shape}
use Rattle.exec_check.specs.Conditions.{IsAboveAll, RunsWell, HasItsThread, HasItsSource, JoinsAnEnded, HasThreads, HasRuns, HasCreates, HasChildren, HasSources, HasOrders, IsExecution}
use Rattle.exec_check.specs.ThreadTests.{seen_by, told_failing}
use Rattle.exec_check.proofs.Shaped.{shape_is, told_is}
use Rattle.exec_check.proofs.Ran.{told, fails_somehow}

-- ---- a candidate's threads and those of its execution

pub threads_seen : (p : Checked) (ps : List ThreadPart) → threads_of ps (runs_of p ps) ≡ map (seen_by p) ps
threads_seen p [] = refl
threads_seen p (t ∷ ps) = ap (λ l. seen_by p t ∷ l) (threads_seen p ps)

pub thread_at : (p : Checked) (c : Candidate) (k : ℕ) (t : ThreadPart) → slice_get c.threads k ≡ Some t → slice_get (execution_in p c).threads k ≡ Some (seen_by p t)
thread_at p c k t e = ap (λ l. slice_get l k) (threads_seen p c.threads) ∙ get_map (seen_by p) c.threads k t e

pub part_at : (p : Checked) (c : Candidate) (k : ℕ) (u : Thread) → slice_get (execution_in p c).threads k ≡ Some u → (t : ThreadPart) × (slice_get c.threads k ≡ Some t) × (seen_by p t ≡ u)
part_at p c k u e = get_from_map (seen_by p) c.threads k u (ap (λ l. slice_get l k) (sym (threads_seen p c.threads)) ∙ e)

all_threads : (p : Checked) (c : Candidate) (P : Thread → Type 0) → EachThread (λ k t. P (seen_by p t)) c.threads → All P (execution_in p c).threads
all_threads p c P h k d b =
    let u = get_or (execution_in p c).threads k d in
    let q = part_at p c k u (slice_get-get_or (execution_in p c).threads k d b) in
    subst P q.2 (h k q.0 q.1)

pub each_part : (p : Checked) (c : Candidate) (P : Thread → Type 0) → All P (execution_in p c).threads → EachThread (λ k t. P (seen_by p t)) c.threads
each_part p c P h k t e =
    let there = thread_at p c k t e in
    subst P (get_or_from_slice_get (execution_in p c).threads k (seen_by p t) (seen_by p t) there) (h k (seen_by p t) (slice_get_within (execution_in p c).threads k (seen_by p t) there))

-- threads alone act as in the candidate
pub acts_alone : (p : Checked) (c : Candidate) (e : Event) → action_at (execution_in p c) e ≡ action_at (acting p c.threads) e
acts_alone p c Initial = refl
acts_alone p c (At h i) = refl

-- a thread that runs well has its run
pub run_is : (p : Checked) (k : ℕ) (t : ThreadPart) (w : RunsWell p k t) → run_by p t ≡ w.0
run_is p k t w = ap (λ o. unwrap_or o no_run) w.1

not_bad : (p : Checked) (k : ℕ) (t : ThreadPart) → RunsWell p k t → (run_by p t).bad ≡ false
not_bad p k t w = ap (λ (r : Run). r.bad) (run_is p k t w) ∙ w.3

-- ---- one way

pairs_rise : (p : Checked) (c : Candidate) → EachThread (IsAboveAll c.threads) c.threads → AllPairs (λ (t : Thread) (u : Thread). t.handle < u.handle) (execution_in p c).threads
pairs_rise p c r i j d l b =
    let x = execution_in p c in
    let q = part_at p c i (get_or x.threads i d) (slice_get-get_or x.threads i d (omega arith)) in
    let s = part_at p c j (get_or x.threads j d) (slice_get-get_or x.threads j d b) in
    let h : q.0.handle < s.0.handle = r j s.0 s.1 i q.0 l q.1 in
    let e : q.0.handle ≡ (get_or x.threads i d).handle = ap (λ (z : Thread). z.handle) q.2 in
    let f : s.0.handle ≡ (get_or x.threads j d).handle = ap (λ (z : Thread). z.handle) s.2 in
    omega arith

as_many : (p : Checked) (c : Candidate) → HasOrders p c → length c.co ≡ length (shape p).initials
as_many p c o =
    ⊎_elim (λ e. e) (⊎_elim (λ l. let q = (o.orders (length c.co)).of_cell l in let w = slice_get_within c.co (length c.co) q.0 q.1 in absurd (omega arith)) (λ l. absurd (none-some (get_or c.co (length (shape p).initials) []) (sym ((o.orders (length (shape p).initials)).no_more (omega arith)) ∙ slice_get-get_or c.co (length (shape p).initials) [] l)))) (cases_order (length c.co) (length (shape p).initials))

pub well_made : (p : Checked) (c : Candidate) → IsExecution p c → WellMade (shape p) (execution_in p c)
well_made p c h =
    let orders = h.orders in
    let sources = orders.sources in
    let children = sources.children in
    let creates = children.creates in
    let runs = creates.runs in
    let threads = runs.threads in
    let main = threads.main in
    record {
      has_main = (main.0, seen_by p main.1, thread_at p c main.0 main.1 main.2, main.3, (main.4, main.5));
      rising = pairs_rise p c threads.rising;
      known = all_threads p c (λ t. (t.function < (shape p).functions) × (t.handle < 2 ^ 24)) threads.known;
      none_bad = all_threads p c (λ t. t.bad ≡ false) (λ k t e. not_bad p k t (runs.runs k t e));
      created = all_threads p c (λ t. t.handle ≢ 0 → (e : Event) × (action_at (execution_in p c) e ≡ Some (Create t.handle t.function t.arg))) (λ k t e n. let r = creates.created k t e n in (r.0, acts_alone p c r.0 ∙ r.1));
      creates = λ e g f v a. children.children e (Create g f v) (sym (acts_alone p c e) ∙ a);
      reads = λ e g v a. (sources.sources e).source (Read g v) a;
      readers = λ k d b. (sources.sources (get_or c.rf k d).reader).reader k (get_or c.rf k d) (slice_get-get_or c.rf k d b) refl;
      lists = as_many p c orders;
      orders = λ n l e. let w = slice_get_within c.co n l e in let m = as_many p c orders in let q = (orders.orders n).of_cell (omega arith) in subst (IsWriteOrder (execution_in p c) n) (same_Some q.0 l (sym q.1 ∙ e)) q.2;
      joins = λ e g a. h.joins e (Join g) a;
    }

whole : (p : Checked) (ps : List ThreadPart) → EachThread (RunsWell p) ps → AllZip (RunsTo (thread_run p)) ps (runs_of p ps)
whole p [] h = tt
whole p (t ∷ ps) h =
    let w = h 0 t refl in
    ((sym (told_is p t) ∙ w.1 ∙ ap Some (sym (run_is p 0 t w)), ap (λ (r : Run). r.used) (run_is p 0 t w) ∙ w.2), whole p ps (λ k u e. h (suc k) u e))

-- an execution that the model allows, in the words of the model
pub program_allows : (p : Checked) (m : MemoryModel) (c : Candidate) → IsExecution p c → Consistent m (execution_in p c) → ProgramAllows p m c
program_allows p m c h ok =
    let runs = h.orders.sources.children.creates.runs in
    record {
      threads = runs_of p c.threads;
      words = runs.words;
      whole = whole p c.threads runs.runs;
      well_made = subst (λ s. WellMade s (execution_in p c)) (shape_is p) (well_made p c h);
      consistent = ok;
    }

pub program_fails : (p : Checked) (m : MemoryModel) (c : Candidate) (f : Failing) → IsExecution p c → Consistent m (execution_in p c) → told_failing p c.threads ≡ Some f → ProgramFails p m c
unfolding program_allows
program_fails p m c f h ok e =
    let r = (told p c.threads f e).first in
    record {
      allowed = program_allows p m c h ok;
      fails = (r.place, run_by p r.part, f.place, get_map (run_by p) c.threads r.place r.part r.there, fails_somehow f.bound (run_by p r.part) f.place r.fails);
    }

pub first_to_fail : (p : Checked) (c : Candidate) (f : Failing) → told_failing p c.threads ≡ Some f → FailsFirst c (runs_of p c.threads) f.handle f.place f.bound
first_to_fail p c f e =
    let t = told p c.threads f e in
    let r = t.first in
    record {
      number = r.place;
      part = r.part;
      run = run_by p r.part;
      is_part = r.there;
      is_run = get_map (run_by p) c.threads r.place r.part r.there;
      handle_is = r.handle_is;
      fails = r.fails;
      not_before = r.before;
      no_assertion = t.no_assertion;
    }

-- ---- the other way

pub has_threads : (p : Checked) (c : Candidate) → WellMade (shape p) (execution_in p c) → HasThreads p c.threads
has_threads p c w = record {
  main = let m = w.has_main in let q = part_at p c m.0 m.1 m.2 in (m.0, q.0, q.1, ap (λ (z : Thread). z.handle) q.2 ∙ m.3, ap (λ (z : Thread). z.function) q.2 ∙ m.4.0, ap (λ (z : Thread). z.arg) q.2 ∙ m.4.1);
  rising = rising;
  known = each_part p c (λ t. (t.function < (shape p).functions) × (t.handle < 2 ^ 24)) w.known;
}
  where
    rising : (k : ℕ) (t : ThreadPart) → slice_get c.threads k ≡ Some t → (j : ℕ) (u : ThreadPart) → j < k → slice_get c.threads j ≡ Some u → u.handle < t.handle
    rising k t e j u l g =
        let x = execution_in p c in
        let there = thread_at p c k t e in
        let d = seen_by p t in
        let h : (get_or x.threads j d).handle < (get_or x.threads k d).handle = w.rising j k d l (slice_get_within x.threads k d there) in
        let first : (get_or x.threads j d).handle ≡ u.handle = ap (λ (z : Thread). z.handle) (get_or_from_slice_get x.threads j (seen_by p u) d (thread_at p c j u g)) in
        let second : (get_or x.threads k d).handle ≡ t.handle = ap (λ (z : Thread). z.handle) (get_or_from_slice_get x.threads k d d there) in
        omega arith

child_at : (p : Checked) (c : Candidate) → WellMade (shape p) (execution_in p c) → (e : Event) (a : Action) → action_at (execution_in p c) e ≡ Some a → HasItsThread (acting p c.threads) e a
child_at p c w e (Create h f v) g = w.creates e h f v g
child_at p c w e (Read d v) g = tt
child_at p c w e (Write d v) g = tt
child_at p c w e Open g = tt
child_at p c w e Close g = tt
child_at p c w e Fence g = tt
child_at p c w e (Join h) g = tt
child_at p c w e Start g = tt
child_at p c w e End g = tt

source_at : (s : Shape) (x : Execution) → WellMade s x → (e : Event) (a : Action) → action_at x e ≡ Some a → HasItsSource s x e a
source_at s x w e (Read c v) g = w.reads e c v g
source_at s x w e (Create h f v) g = tt
source_at s x w e (Write c v) g = tt
source_at s x w e Open g = tt
source_at s x w e Close g = tt
source_at s x w e Fence g = tt
source_at s x w e (Join h) g = tt
source_at s x w e Start g = tt
source_at s x w e End g = tt

join_at : (s : Shape) (x : Execution) → WellMade s x → (e : Event) (a : Action) → action_at x e ≡ Some a → JoinsAnEnded x e a
join_at s x w e (Join h) g = w.joins e h g
join_at s x w e (Create h f v) g = tt
join_at s x w e (Read c v) g = tt
join_at s x w e (Write c v) g = tt
join_at s x w e Open g = tt
join_at s x w e Close g = tt
join_at s x w e Fence g = tt
join_at s x w e Start g = tt
join_at s x w e End g = tt

pub is_execution : (p : Checked) (c : Candidate) → HasWords c → EachThread (RunsWell p) c.threads → WellMade (shape p) (execution_in p c) → IsExecution p c
is_execution p c n r w =
    let x = execution_in p c in
    let runs : HasRuns p c.threads = record { threads = has_threads p c w; words = n; runs = r } in
    let created = each_part p c (λ t. t.handle ≢ 0 → (e : Event) × (action_at x e ≡ Some (Create t.handle t.function t.arg))) w.created in
    let creates : HasCreates p c.threads = record { runs = runs; created = λ k t e d. let q = created k t e d in (q.0, sym (acts_alone p c q.0) ∙ q.1) } in
    let children : HasChildren p c.threads = record { creates = creates; children = λ e a g. child_at p c w e a (acts_alone p c e ∙ g) } in
    let sources : HasSources p c = record { children = children; sources = λ e. record { source = source_at (shape p) x w e; reader = λ k q g is. reads k q g e is } } in
    let orders : HasOrders p c = record { sources = sources; orders = λ n. record { of_cell = λ b. let m = w.lists in (get_or c.co n [], slice_get-get_or c.co n [] (omega arith), w.orders n (get_or c.co n []) (slice_get-get_or c.co n [] (omega arith))); no_more = λ b. let m = w.lists in slice_get_past c.co n (omega arith) } } in
    record { orders = orders; joins = join_at (shape p) x w }
  where
    reads : (k : ℕ) (q : RfPair) → slice_get c.rf k ≡ Some q → (e : Event) → q.reader ≡ e → (d : ℕ) × (v : ℕ) × (action_at (execution_in p c) e ≡ Some (Read d v))
    reads k q g e is =
        let h = w.readers k q (slice_get_within c.rf k q g) in
        let same : (get_or c.rf k q).reader ≡ e = ap (λ (z : RfPair). z.reader) (get_or_from_slice_get c.rf k q q g) ∙ is in
        (h.0, h.1, subst (λ z. action_at (execution_in p c) z ≡ Some (Read h.0 h.1)) same h.2)

-- the threads that the code holds are those of the candidate's execution
pub seen_is : (p : Checked) (c : Candidate) (ps : List ThreadPart) (ts : List ThreadActions) → ps ≡ c.threads → map thread_seen ts ≡ map (seen_by p) ps → execution_seen ts c.rf c.co ≡ execution_in p c
seen_is p c ps ts s e =
    ap (λ l. record { threads = l; rf = c.rf; co = c.co }) (e ∙ ap (map (seen_by p)) s ∙ sym (threads_seen p c.threads))
