-- What well made executions ask of threads, and that one fails: of the threads that an assignment of all clauses spells.
use Rattle.std.proofs.Common.{◌≡◌, ◌≢◌, ℕ, zero, suc, ◌<◌, ◌≤◌, ◌^◌, Bool, true, false, List, [], ◌∷◌, map, length, refl, ap, sym, ◌∙◌, subst, arith}
use Rattle.std.specs.Prelude.{Option, Some, None, slice_get, All, AllPairs}
use Rattle.std.specs.List.{AllZip}
use Rattle.std.proofs.lemmas.Bool.{both_ways, false≢true}
use Rattle.std.proofs.lemmas.Option.{same_Some, none-some}
use Rattle.dg_base.specs.declared.Lit.{Lit}
use Rattle.dg_base.specs.declared.Place.{Place}
use Rattle.dg_base.specs.Values.{is_true}
use Rattle.dg_base.proofs.Lists.{place_of}
use Rattle.axiom_model.specs.declared.Action.{Action}
use Rattle.axiom_model.specs.declared.Action.TheVariants as action
use Rattle.axiom_model.specs.declared.Event.{Event}
use Rattle.axiom_model.specs.declared.Event.TheVariants.{Initial, At}
use Rattle.axiom_model.specs.declared.ThreadPart.{ThreadPart}
use Rattle.axiom_model.specs.Execution as execution
use Rattle.axiom_model.specs.Execution.{Execution, Thread, action_at}
use Rattle.axiom_model.specs.Failing.{Run, RunsTo, thread_of, threads_of, SomeFails}
use Rattle.axiom_model.specs.WellMade.{SomeThread}
use Rattle.bv_term.specs.declared.term.TermId.{TermId}
use Rattle.bv_term.specs.Values.{IsListed}
use Rattle.c_check.specs.declared.checked.Checked.{Checked}
use Rattle.c_check.specs.WellFormed.{IsChecked}
use Rattle.run_model.specs.Programs.{shape_of}
use Rattle.run_model.specs.Threads.{thread_run}
use Rattle.run_laws.specs.Started.{StartedHandlesAreLow}
use Rattle.cnf_problem.specs.Literals.{value, AreSatisfied}
use Rattle.bit_gates.specs.Words.{number}
use Rattle.bit_blast.specs.Blasting.{word_at, inputs_under}
use Rattle.flat_prog.specs.declared.Flat.{Flat}
use Rattle.flat_prog.specs.declared.Instance.{Instance}
use Rattle.flat_prog.specs.Runs.{FlatEnding, Broken, Failed, failed_at}
use Rattle.flat_prog.specs.Shape.{counted}
use Rattle.loop_unroll.specs.Unrolled.{IsUnrolled}
use Rattle.ssa_form.specs.declared.Ssa.{Ssa}
use Rattle.ssa_form.specs.declared.SsaPart.{SsaPart}
use Rattle.ssa_form.specs.declared.SsaStep.{SsaStep}
use Rattle.ssa_form.specs.declared.SsaAct.TheVariants as act
use Rattle.ssa_form.specs.Parts.{Valuation, is_made, ending_by, ending_of, actions_of, created_in_all}
use Rattle.ssa_form.specs.Form.{under}
use Rattle.event_graph.specs.Graphs.{guard_lit, events_of, bits_of}
use Rattle.event_graph.specs.Laws.{IsSpelled}
use Rattle.event_graph.proofs.Making.{action_maker}
use Rattle.event_graph.proofs.Spelled.{words_fit, guard_made}
use Rattle.encode_match.specs.Spelling.{threads_from}
use Rattle.encode_match.specs.Parts.{bad_by, fail_by, ending_clauses, part_map}
use Rattle.encode_match.specs.Running.{IsRunning}
use Rattle.encode_match.proofs.PartRuns.{all_at, instance_of}
use Rattle.encode_match.proofs.StartedParts.{constant_is, main_handle, parent_of, runs_where_made, running_parts_are_started}
use Rattle.encode_match.proofs.SpelledRuns.{word_value, run_of, runs_to}
use Rattle.encode_match.proofs.SpelledThreads.{does, finds}
use Rattle.encode_match.proofs.SpelledMatch.{create_made}
use Rattle.encode_match.proofs.FirstThreads.{thread_at, all_threads, all_pairs, place_of_part}
use Rattle.encode_match.proofs.Endings.{ends_at, ending_is, guard_listed, guard_where, fails_by, bad_act, bad_false, some_fail, not_broken}

-- where a form has parts in turn it has one
pub has_first : (ps : List SsaPart) → 0 ∷ created_in_all ps ≡ counted 0 ps → (q : SsaPart) × (slice_get ps 0 ≡ Some q)
has_first [] h = let n : suc (length (created_in_all [])) ≡ 0 = ap length h in absurd (omega (arith, n))
has_first (q ∷ ps) h = (q, refl)

pub one_of_truth : (n : ℕ) → n ≤ 1 → is_true n ≡ true → n ≡ 1
one_of_truth zero h e = absurd (false≢true e)
one_of_truth (suc zero) h e = refl
one_of_truth (suc (suc n)) h e = absurd (omega (arith, h))

pub no_ending : (o : Option FlatEnding) → ((e : FlatEnding) → o ≡ Some e → ⊥) → o ≡ None
no_ending None h = refl
no_ending (Some e) h = absurd (h e refl)

module _ (p : Checked) (flat : Flat) (f : Ssa) (words : List (List Lit)) (s : List Bool) (k : IsSpelled flat f words s) (checked : IsChecked p) (un : IsUnrolled p flat)
    (lows : StartedHandlesAreLow) (rise : (i j : ℕ) (a b : SsaPart) → IsRunning f (under (inputs_under s words) f) i a → IsRunning f (under (inputs_under s words) f) j b → i < j → under (inputs_under s words) f a.handle < under (inputs_under s words) f b.handle)
    (e : Execution) (rs : List Run)
    (threads : e.threads ≡ threads_of (threads_from s 0 (events_of f words) (bits_of f words) (map (part_map words) f.parts)) rs)
    (whole : AllZip (RunsTo (thread_run p)) (threads_from s 0 (events_of f words) (bits_of f words) (map (part_map words) f.parts)) rs) where
  abbrev v : Valuation
  v = under (inputs_under s words) f

  abbrev Running : ℕ → SsaPart → Type 0
  Running j q = IsRunning f v j q

  abbrev all_parts : List ThreadPart
  all_parts = threads_from s 0 (events_of f words) (bits_of f words) (map (part_map words) f.parts)

  -- the thread of a part
  some_thread : (P : Thread → Type 0) (j : ℕ) (q : SsaPart) → Running j q → (h : ℕ) → v q.handle ≡ h → ((r : Run) → P (thread_of (thread_at p flat f words s k q) r)) → SomeThread e h P
  some_thread P j q r h same each =
      let o = place_of_part p flat f words s k j q r rs whole in
      (o.place, thread_of (thread_at p flat f words s k q) o.run, ap (λ (l : List Thread). slice_get l o.place) threads ∙ o.is_thread, same, each o.run)

  arg_is : (j : ℕ) (q : SsaPart) → Running j q → number s (word_at words q.arg.0) ≡ v q.arg
  arg_is j q r =
      let of = (instance_of flat f j q k.form r.there).is_part in
      word_value flat f words s k q.arg (all_at (IsListed f.terms) (q.start ∷ q.handle ∷ q.arg ∷ []) 2 q.arg of.listed refl)

  run_same : (j : ℕ) (q : SsaPart) (r : Running j q) (run : Run) → RunsTo (thread_run p) (thread_at p flat f words s k q) run → run ≡ (run_of flat f words s k p checked un lows j q r).run
  run_same j q r run h = same_Some run (run_of flat f words s k p checked un lows j q r).run (sym h.0 ∙ (runs_to flat f words s k p checked un lows j q r).0)

  -- what the thread of a part does
  doing : (j : ℕ) (q : SsaPart) → Running j q → execution.actions_of e.threads (v q.handle) ≡ actions_of f.parts v q
  doing j q r = ap (λ (l : List Thread). execution.actions_of l (v q.handle)) threads ∙ does p flat f words s k checked un lows rise j q r rs whole

  pub has_main_field : SomeThread e 0 (λ t. (t.function ≡ (shape_of p.program).main) × (t.arg ≡ 0))
  has_main_field =
      let q = has_first f.parts k.form.in_turn in
      let m = k.form.main q.0 q.1 in
      let inputs = inputs_under s words in
      let r : Running 0 q.0 = record { there = q.1; starts = constant_is f inputs q.0.start 1 flat k.form m.0 } in
      let of = instance_of flat f 0 q.0 k.form q.1 in
      some_thread (λ t. (t.function ≡ (shape_of p.program).main) × (t.arg ≡ 0)) 0 q.0 r 0 (constant_is f inputs q.0.handle 0 flat k.form m.1)
      (λ run. (of.is_part.same_function ∙ un.main of.instance of.there, arg_is 0 q.0 r ∙ constant_is f inputs q.0.arg 0 flat k.form m.2))

  pub rising_field : AllPairs (λ t u. t.handle < u.handle) e.threads
  rising_field =
      subst (AllPairs (λ (t u : Thread). t.handle < u.handle)) (sym threads)
      (all_pairs p flat f words s k (λ t u. t.handle < u.handle) (λ j l a b h ra rb u w c d. rise j l a b ra rb h) rs whole)

  pub known_field : All (λ t. (t.function < (shape_of p.program).functions) × (t.handle < 2 ^ 24)) e.threads
  known_field =
      subst (All (λ (t : Thread). (t.function < (shape_of p.program).functions) × (t.handle < 2 ^ 24))) (sym threads)
      (all_threads p flat f words s k (λ t. (t.function < (shape_of p.program).functions) × (t.handle < 2 ^ 24))
      (λ j q r run c.
      let of = instance_of flat f j q k.form r.there in
      let low = all_at (λ (i : Instance). i.function < (shape_of p.program).functions) flat.instances j of.instance un.functions of.there in
      let same = of.is_part.same_function in
      (omega (arith, low, same), (running_parts_are_started lows p flat f (inputs_under s words) j q checked un k.form (words_fit flat f words s k) r).few)) rs whole)

  created_of : (j : ℕ) (q : SsaPart) → Running j q → v q.handle ≢ 0 → (ev : Event) × (action_at e ev ≡ Some (action.Create (v q.handle) q.function (v q.arg)))
  created_of zero q r n = absurd (n (main_handle p flat f (inputs_under s words) checked un k.form (words_fit flat f words s k) q r))
  created_of (suc j) q r n =
      let o = (parent_of p flat f (inputs_under s words) checked un k.form (words_fit flat f words s k) j q r) in
      let at = place_of (actions_of f.parts v o.2.creator) (action.Create (v q.handle) q.function (v q.arg)) o.2.creates in
      (At (v o.2.creator.handle) at.0, ap (λ (l : List Action). slice_get l at.0) (doing o.0 o.2.creator o.2.runs) ∙ at.1)

  pub created_field : All (λ t. t.handle ≢ 0 → (ev : Event) × (action_at e ev ≡ Some (action.Create t.handle t.function t.arg))) e.threads
  created_field =
      subst (All (λ (t : Thread). t.handle ≢ 0 → (ev : Event) × (action_at e ev ≡ Some (action.Create t.handle t.function t.arg)))) (sym threads)
      (all_threads p flat f words s k (λ t. t.handle ≢ 0 → (ev : Event) × (action_at e ev ≡ Some (action.Create t.handle t.function t.arg)))
      (λ j q r run c n. let o = created_of j q r n in (o.0, o.1 ∙ ap (λ (a : ℕ). Some (action.Create (v q.handle) q.function a)) (sym (arg_is j q r)))) rs whole)

  made_one : (j : ℕ) (q : SsaPart) (n : ℕ) (u : SsaStep) → slice_get f.parts j ≡ Some q → slice_get q.steps n ≡ Some u → is_made v u ≡ true → v u.guard ≡ 1
  made_one j q n u h l m =
      let of = (instance_of flat f j q k.form h).is_part in
      one_of_truth (v u.guard) (all_at (λ (z : SsaStep). v z.guard ≤ 1) q.steps n u (of.truths (inputs_under s words) (words_fit flat f words s k)) l) m

  creates_at : (h i l g w : ℕ) → action_at e (At h i) ≡ Some (action.Create l g w) → SomeThread e l (λ t. Unit {0})
  creates_at h i l g w at =
      let q = finds p flat f words s k checked un lows rise h rs i (action.Create l g w) whole (ap (λ (z : List Thread). slice_get (execution.actions_of z h) i) (sym threads) ∙ at) in
      let here : slice_get (actions_of f.parts v q.part) i ≡ Some (action.Create l g w) =
      ap (λ (z : List Action). slice_get z i) (sym (doing q.number q.part q.running)) ∙ (ap (λ (z : ℕ). slice_get (execution.actions_of e.threads z) i) q.handle ∙ at) in
      let d = action_maker f.parts v q.part.steps i (action.Create l g w) here in
      let made = create_made f.parts v d.step.act l g w d.makes in
      let c = k.form.created q.number made.instance d.place q.part d.step made.handle made.arg q.running.there d.there made.is in
      let r : Running made.instance c.part = record { there = c.there; starts = ap v c.start ∙ made_one q.number q.part d.place d.step q.running.there d.there d.made } in
      some_thread (λ t. Unit {0}) made.instance c.part r l (ap v c.same_handle ∙ made.same) (λ run. tt)

  pub creates_field : (ev : Event) (h g w : ℕ) → action_at e ev ≡ Some (action.Create h g w) → SomeThread e h (λ t. Unit {0})
  creates_field Initial h g w at = absurd (none-some (action.Create h g w) at)
  creates_field (At l i) h g w at = creates_at l i h g w at

  -- ---- endings

  module _ (sat : AreSatisfied s (ending_clauses words f.parts)) where
    never_bad : (j : ℕ) (q : SsaPart) → Running j q → (n : FlatEnding) → ending_of v q ≡ Some n → n ≡ Broken → ⊥
    never_bad j q r n h b =
        let o = ends_at v q.steps n h in
        let listed = guard_listed bad_by f.parts j o.place q o.step r.there o.there (bad_act o.step o.step.act (o.is ∙ ap Some b)) in
        both_ways (value s (guard_lit words o.step.guard)) (bad_false s words f.parts o.step.guard sat listed) (guard_made flat f words s k j o.place q o.step r.there o.there ∙ o.made)

    pub none_bad_field : All (λ t. t.bad ≡ false) e.threads
    none_bad_field =
        subst (All (λ (t : Thread). t.bad ≡ false)) (sym threads)
        (all_threads p flat f words s k (λ t. t.bad ≡ false)
        (λ j q r run c. let u = run_of flat f words s k p checked un lows j q r in
        ap (λ (z : Run). z.bad) (run_same j q r run c) ∙ (u.bad ∙ not_broken u.ending (never_bad j q r u.ending u.ends))) rs whole)

    fails_at : (j n : ℕ) (q : SsaPart) (u : SsaStep) (at : Place) (tag : ℕ) → slice_get f.parts j ≡ Some q → slice_get q.steps n ≡ Some u → is_made v u ≡ true → u.act ≡ act.Fail at tag → SomeFails rs
    fails_at j n q u at tag h l m is =
        let one = made_one j q n u h l m in
        let r = runs_where_made p flat f (inputs_under s words) checked un k.form (words_fit flat f words s k) j q n u h l one in
        let of = (instance_of flat f j q k.form h).is_part in
        let ends : ending_of v q ≡ Some (Failed at tag) = ending_is v q.steps n u (Failed at tag) l m (ap ending_by is)
        (λ i w o g b. no_ending (ending_by w.act) (λ d y.
        let zero_guard = of.over (inputs_under s words) i n w u (words_fit flat f words s k) o g l (λ none. none-some d (sym none ∙ y)) (made_one j q i w h g b) in
        omega (arith, zero_guard, one))) in
        let o = place_of_part p flat f words s k j q r rs whole in
        let t = run_of flat f words s k p checked un lows j q r in (
          o.place,
          o.run,
          at,
          o.is_run,
          ap (λ (z : Run). z.failed) (run_same j q r o.run o.runs_it) ∙ (t.failed ∙ ap failed_at (same_Some t.ending (Failed at tag) (sym t.ends ∙ ends))),
        )

    pub some_fails : SomeFails rs
    some_fails =
        let t = some_fail s words f.parts sat in
        let o = guard_where fail_by f.parts t.0 t.1 in
        let d = fails_by o.step o.step.act t.0 o.listed in
        let now : value s (guard_lit words o.step.guard) ≡ true = ap (λ (z : TermId). value s (guard_lit words z)) (sym d.guard) ∙ t.2 in
        fails_at o.number o.place o.part o.step d.at d.tag o.is_part o.is_step (sym (guard_made flat f words s k o.number o.place o.part o.step o.is_part o.is_step) ∙ now) d.is
