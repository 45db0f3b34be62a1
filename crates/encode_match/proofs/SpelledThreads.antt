-- The threads that an assignment spells match its nodes.
use Rattle.std.proofs.Common.{◌≡◌, ℕ, ◌+◌, ◌<◌, ◌≤◌, ⊎_elim, Bool, nat_eq, List, [], ◌∷◌, ◌++◌, map, length, ap, sym, ◌∙◌, subst, arith}
use Rattle.std.specs.Prelude.{Some, slice_get}
use Rattle.std.specs.List.{AllZip}
use Rattle.std.proofs.lemmas.Bool.{cases_eq, cases_order, cond-true, cond-false, eq-eqb, ne_eqb}
use Rattle.std.proofs.lemmas.Option.{same_Some, slice_get_within}
use Rattle.dg_base.specs.declared.Lit.{Lit}
use Rattle.dg_base.proofs.Lists.{get_nothing, one_answer}
use Rattle.axiom_model.specs.declared.Action.{Action}
use Rattle.axiom_model.specs.declared.ThreadPart.{ThreadPart}
use Rattle.axiom_model.specs.Execution as execution
use Rattle.axiom_model.specs.Failing.{Run, RunsTo, threads_of}
use Rattle.c_check.specs.declared.checked.Checked.{Checked}
use Rattle.c_check.specs.WellFormed.{IsChecked}
use Rattle.run_model.specs.Threads.{thread_run}
use Rattle.run_laws.specs.Started.{StartedHandlesAreLow}
use Rattle.bit_blast.specs.Blasting.{inputs_under}
use Rattle.flat_prog.specs.declared.Flat.{Flat}
use Rattle.loop_unroll.specs.Unrolled.{IsUnrolled}
use Rattle.ssa_form.specs.declared.Ssa.{Ssa}
use Rattle.ssa_form.specs.declared.SsaPart.{SsaPart}
use Rattle.ssa_form.specs.Parts.{Valuation, actions_of}
use Rattle.ssa_form.specs.Form.{under}
use Rattle.memory_models.specs.declared.StaticEvent.{StaticEvent}
use Rattle.memory_models.specs.declared.EventBits.{EventBits}
use Rattle.event_graph.specs.Graphs.{events_of, bits_of}
use Rattle.event_graph.specs.Laws.{IsSpelled}
use Rattle.encode_match.specs.Spelling.{handles_in, thread_with, threads_from}
use Rattle.encode_match.specs.Parts.{part_map}
use Rattle.encode_match.specs.Running.{IsRunning}
use Rattle.encode_match.proofs.SpelledRuns.{Shown, runs, sleeps, shown, handles_running, first_from, rest_from, run_of, runs_to}

-- ---- what the threads of an execution do

module _ (p : Checked) (flat : Flat) (f : Ssa) (words : List (List Lit)) (s : List Bool) (k : IsSpelled flat f words s) (checked : IsChecked p) (un : IsUnrolled p flat)
    (lows : StartedHandlesAreLow) (rise : (i j : ℕ) (a b : SsaPart) → IsRunning f (under (inputs_under s words) f) i a → IsRunning f (under (inputs_under s words) f) j b → i < j → under (inputs_under s words) f a.handle < under (inputs_under s words) f b.handle) where
  abbrev es : List StaticEvent
  es = events_of f words

  abbrev bs : List EventBits
  bs = bits_of f words

  abbrev v : Valuation
  v = under (inputs_under s words) f

  abbrev Running : ℕ → SsaPart → Type 0
  Running i q = IsRunning f v i q

  -- threads of one handle are one
  pub distinct : (i j : ℕ) (a b : SsaPart) → Running i a → Running j b → v a.handle ≡ v b.handle → i ≡ j
  distinct i j a b ra rb same =
      ⊎_elim (λ e. e) (λ l. ⊎_elim (λ h. let r = rise i j a b ra rb h in absurd (omega (arith, r, same))) (λ h. let r = rise j i b a rb ra h in absurd (omega (arith, r, same))) l) (cases_order i j)

  pub one_part : (i j : ℕ) (a b : SsaPart) → slice_get f.parts i ≡ Some a → slice_get f.parts j ≡ Some b → i ≡ j → a ≡ b
  one_part i j a b h l e = one_answer (slice_get f.parts j) a b (subst (λ (n : ℕ). slice_get f.parts n ≡ Some a) e h) l

  abbrev rest_threads : ℕ → List SsaPart → List ThreadPart
  rest_threads i ps = threads_from s i es bs (map (part_map words) ps)

  abbrev Whole : List ThreadPart → List Run → Type 0
  Whole ts rs = AllZip (RunsTo (thread_run p)) ts rs

  abbrev acts_of : List ThreadPart → List Run → ℕ → List Action
  acts_of ts rs h = execution.actions_of (threads_of ts rs) h

  abbrev thread_at : SsaPart → ThreadPart
  thread_at q = thread_with s (part_map words q) (v q.handle)

  -- the run of a thread is that of its part
  run_is : (i : ℕ) (q : SsaPart) (r : Running i q) (run : Run) → RunsTo (thread_run p) (thread_at q) run → run.actions ≡ actions_of f.parts v q
  run_is i q r run h =
      let u = run_of flat f words s k p checked un lows i q r in
      let w = runs_to flat f words s k p checked un lows i q r in
      let same : run ≡ u.run = same_Some run u.run (sym h.0 ∙ w.0) in
      ap (λ (z : Run). z.actions) same ∙ u.actions

  -- a thread among those from a place on
  abbrev Does : ℕ → SsaPart → List ThreadPart → Type 0
  Does j q ts = (rs : List Run) → Whole ts rs → acts_of ts rs (v q.handle) ≡ actions_of f.parts v q

  head_does : (i j : ℕ) (a q : SsaPart) (ts : List ThreadPart) → Running i a → Running j q → (¬ (i ≡ j) → Does j q ts) → Does j q (thread_at a ∷ ts)
  head_does i j a q ts ra rq go [] w = absurd w
  head_does i j a q ts ra rq go (r ∷ rs) w =
      ⊎_elim
      (λ e. cond-true (nat_eq (v a.handle) (v q.handle)) r.actions (acts_of ts rs (v q.handle)) (eq-eqb (v a.handle) (v q.handle) e)
      ∙ (run_is i a ra r w.0 ∙ ap (actions_of f.parts v) (one_part i j a q ra.there rq.there (distinct i j a q ra rq e))))
      (λ n. cond-false (nat_eq (v a.handle) (v q.handle)) r.actions (acts_of ts rs (v q.handle)) (ne_eqb (v a.handle) (v q.handle) n)
      ∙ go (λ e. n (ap (λ (z : SsaPart). v z.handle) (one_part i j a q ra.there rq.there e))) rs w.1)
      (cases_eq (v a.handle) (v q.handle))

  one_not_none : (h : ℕ) → h ∷ [] ≡ [] → ⊥
  one_not_none h e = let n : 1 ≡ 0 = ap length e in omega (arith, n)

  more_does : (i j : ℕ) (a q : SsaPart) (ts : List ThreadPart) → slice_get f.parts i ≡ Some a → Shown flat f words s k i a → Running j q → (¬ (i ≡ j) → Does j q ts) → Does j q (map (thread_with s (part_map words a)) (handles_in s i es bs) ++ ts)
  more_does i j a q ts h (runs r e) rq go = subst (λ (l : List ℕ). Does j q (map (thread_with s (part_map words a)) l ++ ts)) (sym e) (head_does i j a q ts r rq go)
  more_does i j a q ts h (sleeps e) rq go =
      subst (λ (l : List ℕ). Does j q (map (thread_with s (part_map words a)) l ++ ts)) (sym e)
      (go (λ same. one_not_none (v q.handle) (sym (handles_running flat f words s k i q (subst (λ (n : ℕ). Running n q) (sym same) rq)) ∙ e)))

  does_from : (i j : ℕ) (q : SsaPart) (ps : List SsaPart) → ((n : ℕ) (a : SsaPart) → slice_get ps n ≡ Some a → slice_get f.parts (i + n) ≡ Some a) → Running j q → i ≤ j → j < i + length ps → Does j q (rest_threads i ps)
  does_from i j q [] h rq l u = absurd (omega (arith, l, u))
  does_from i j q (a ∷ ps) h rq l u =
      let there = first_from flat f words s k i a ps h in
      more_does i j a q (rest_threads (i + 1) ps) there (shown flat f words s k i a there) rq
      (λ n. let low : i + 1 ≤ j = ⊎_elim (λ e. absurd (n e)) (λ o. ⊎_elim (λ y. omega (arith, y)) (λ y. absurd (omega (arith, y, l))) o) (cases_order i j) in
      does_from (i + 1) j q ps (rest_from flat f words s k i a ps h) rq low (omega (arith, u)))

  abbrev all_threads : List ThreadPart
  all_threads = rest_threads 0 f.parts

  from_start : (n : ℕ) (a : SsaPart) → slice_get f.parts n ≡ Some a → slice_get f.parts (0 + n) ≡ Some a
  from_start n a e = let same : n ≡ 0 + n = omega arith in subst (λ (z : ℕ). slice_get f.parts z ≡ Some a) same e

  -- a part that runs is the thread of its handle
  pub does : (j : ℕ) (q : SsaPart) → Running j q → Does j q all_threads
  does j q r = let w = slice_get_within f.parts j q r.there in does_from 0 j q f.parts from_start r (omega arith) (omega (arith, w))

  -- ---- back

  -- the part of a thread that makes an action
  pub record PartOf (h : ℕ) : Type 0 where
    pub number : ℕ
    pub part : SsaPart
    pub running : Running number part
    pub handle : v part.handle ≡ h

  abbrev Finds : ℕ → List ThreadPart → Type 0
  Finds h ts = (rs : List Run) (n : ℕ) (a : Action) → Whole ts rs → slice_get (acts_of ts rs h) n ≡ Some a → PartOf h

  head_finds : (i h : ℕ) (a : SsaPart) (ts : List ThreadPart) → Running i a → Finds h ts → Finds h (thread_at a ∷ ts)
  head_finds i h a ts ra go [] n c w g = absurd w
  head_finds i h a ts ra go (r ∷ rs) n c w g =
      ⊎_elim
      (λ e. record { number = i; part = a; running = ra; handle = e })
      (λ d. go rs n c w.1 (ap (λ (l : List Action). slice_get l n) (sym (cond-false (nat_eq (v a.handle) h) r.actions (acts_of ts rs h) (ne_eqb (v a.handle) h d))) ∙ g))
      (cases_eq (v a.handle) h)

  more_finds : (i h : ℕ) (a : SsaPart) (ts : List ThreadPart) → Shown flat f words s k i a → Finds h ts → Finds h (map (thread_with s (part_map words a)) (handles_in s i es bs) ++ ts)
  more_finds i h a ts (runs r e) go = subst (λ (l : List ℕ). Finds h (map (thread_with s (part_map words a)) l ++ ts)) (sym e) (head_finds i h a ts r go)
  more_finds i h a ts (sleeps e) go = subst (λ (l : List ℕ). Finds h (map (thread_with s (part_map words a)) l ++ ts)) (sym e) go

  finds_from : (i h : ℕ) (ps : List SsaPart) → ((n : ℕ) (a : SsaPart) → slice_get ps n ≡ Some a → slice_get f.parts (i + n) ≡ Some a) → Finds h (rest_threads i ps)
  finds_from i h [] from [] n a w g = absurd (get_nothing n a g)
  finds_from i h [] from (r ∷ rs) n a w g = absurd w
  finds_from i h (q ∷ ps) from rs n a w g =
      more_finds i h q (rest_threads (i + 1) ps) (shown flat f words s k i q (first_from flat f words s k i q ps from)) (finds_from (i + 1) h ps (rest_from flat f words s k i q ps from)) rs n a w g

  pub finds : (h : ℕ) → Finds h all_threads
  finds h = finds_from 0 h f.parts from_start
