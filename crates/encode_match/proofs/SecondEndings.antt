-- The clauses of endings hold where an assignment of the values' clauses spells the threads of a failing execution.
use Rattle.std.proofs.Common.{◌≡◌, ℕ, ◌≤◌, ⊎_elim, Bool, true, false, not, List, [], ◌∷◌, map, refl, ap, sym, ◌∙◌, subst, arith}
use Rattle.std.specs.Prelude.{Some, slice_get, Contains, All}
use Rattle.std.specs.List.{AllZip}
use Rattle.std.proofs.lemmas.Bool.{cases_Bool, both_ways}
use Rattle.std.proofs.lemmas.Option.{same_Some, none-some}
use Rattle.std.proofs.lemmas.List.Elements.{Contains-append_cases}
use Rattle.dg_base.specs.declared.Lit.{Lit}
use Rattle.dg_base.specs.declared.Place.{Place}
use Rattle.dg_base.proofs.Lists.{contains_nothing, contains_head, contains_map, contains_from_map}
use Rattle.axiom_model.specs.declared.Candidate.{Candidate}
use Rattle.axiom_model.specs.declared.MemoryModel.{MemoryModel}
use Rattle.axiom_model.specs.declared.ThreadPart.{ThreadPart}
use Rattle.axiom_model.specs.Execution.{Thread}
use Rattle.axiom_model.specs.Failing.{Run, RunsTo, thread_of, threads_of, SomeFails}
use Rattle.bv_term.specs.declared.term.TermId.{TermId}
use Rattle.c_check.specs.declared.checked.Checked.{Checked}
use Rattle.c_check.specs.WellFormed.{IsChecked}
use Rattle.run_model.specs.Threads.{thread_run, ProgramFails}
use Rattle.run_laws.specs.Started.{StartedHandlesAreLow}
use Rattle.cnf_problem.specs.Literals.{value, negated, IsSatisfied, AreSatisfied}
use Rattle.cnf_problem.proofs.LiteralLaws.{value-negated}
use Rattle.bit_blast.specs.Blasting.{inputs_under}
use Rattle.flat_prog.specs.declared.Flat.{Flat}
use Rattle.flat_prog.specs.Runs.{FlatEnding, Ended, Stopped, Broken, is_broken, failed_at}
use Rattle.loop_unroll.specs.Unrolled.{IsUnrolled}
use Rattle.ssa_form.specs.declared.Ssa.{Ssa}
use Rattle.ssa_form.specs.declared.SsaPart.{SsaPart}
use Rattle.ssa_form.specs.declared.SsaStep.{SsaStep}
use Rattle.ssa_form.specs.declared.SsaAct.{SsaAct}
use Rattle.ssa_form.specs.declared.SsaAct.TheVariants as act
use Rattle.ssa_form.specs.Parts.{Valuation, is_made, ending_by, ending_of}
use Rattle.ssa_form.specs.Form.{under}
use Rattle.event_graph.specs.Graphs.{guard_lit, events_of, bits_of}
use Rattle.event_graph.specs.Laws.{IsSpelled}
use Rattle.event_graph.proofs.Spelled.{words_fit, guard_made}
use Rattle.memory_models.proofs.Ways.{contains_one}
use Rattle.encode_match.specs.declared.Encoded.{Encoded}
use Rattle.encode_match.specs.Spelling as spelling
use Rattle.encode_match.specs.Spelling.{threads_from}
use Rattle.encode_match.specs.Parts.{bad_by, fail_by, guards_of, ending_clauses, part_map, IsChain}
use Rattle.encode_match.specs.Running.{IsRunning}
use Rattle.encode_match.proofs.PartRuns.{all_at, instance_of}
use Rattle.encode_match.proofs.StartedParts.{runs_where_made}
use Rattle.encode_match.proofs.HoldingGraphs.{spelled}
use Rattle.encode_match.proofs.SpelledRuns.{threads_are, run_of, runs_to}
use Rattle.encode_match.proofs.FirstThreads.{thread_at, all_runs, place_of_part}
use Rattle.encode_match.proofs.FirstShape.{one_of_truth, no_ending}
use Rattle.encode_match.proofs.Endings.{ends_at, ending_is, guard_listed, guard_where}

-- ---- steps that end a part

bads_by : (u : SsaStep) (a : SsaAct) (t : TermId) → Contains (bad_by u a) t → (a ≡ act.Bad) × (t ≡ u.guard)
bads_by u act.Bad t c = (refl, contains_one u.guard t c)
bads_by u a t c = absurd (contains_nothing t c)

-- an ending that is a failure is that of a Fail step
fail_act : (u : SsaStep) (a : SsaAct) (e : FlatEnding) (at : Place) → ending_by a ≡ Some e → failed_at e ≡ Some at → Contains (fail_by u a) u.guard
fail_act u (act.Fail p tag) e at h n = contains_head u.guard []
fail_act u act.End e at h n = absurd (none-some at (ap failed_at (same_Some Ended e h) ∙ n))
fail_act u act.Stop e at h n = absurd (none-some at (ap failed_at (same_Some Stopped e h) ∙ n))
fail_act u act.Bad e at h n = absurd (none-some at (ap failed_at (same_Some Broken e h) ∙ n))
fail_act u a e at h n = absurd (none-some e h)

module _ (p : Checked) (flat : Flat) (f : Ssa) (words : List (List Lit)) (s : List Bool) (k : IsSpelled flat f words s) (checked : IsChecked p) (un : IsUnrolled p flat)
    (lows : StartedHandlesAreLow) (rs : List Run)
    (whole : AllZip (RunsTo (thread_run p)) (threads_from s 0 (events_of f words) (bits_of f words) (map (part_map words) f.parts)) rs) where
  abbrev v : Valuation
  v = under (inputs_under s words) f

  abbrev Running : ℕ → SsaPart → Type 0
  Running j q = IsRunning f v j q

  abbrev all_parts : List ThreadPart
  all_parts = threads_from s 0 (events_of f words) (bits_of f words) (map (part_map words) f.parts)

  run_same : (j : ℕ) (q : SsaPart) (r : Running j q) (run : Run) → RunsTo (thread_run p) (thread_at p flat f words s k q) run → run ≡ (run_of flat f words s k p checked un lows j q r).run
  run_same j q r run h = same_Some run (run_of flat f words s k p checked un lows j q r).run (sym h.0 ∙ (runs_to flat f words s k p checked un lows j q r).0)

  -- a step that is made and is an ending is how its part ends
  record EndsWith (j : ℕ) (q : SsaPart) (e : FlatEnding) : Type 0 where
    pub running : Running j q
    pub ends : ending_of v q ≡ Some e

  made_one : (j n : ℕ) (q : SsaPart) (u : SsaStep) → slice_get f.parts j ≡ Some q → slice_get q.steps n ≡ Some u → is_made v u ≡ true → v u.guard ≡ 1
  made_one j n q u h l m =
      let of = (instance_of flat f j q k.form h).is_part in
      one_of_truth (v u.guard) (all_at (λ (z : SsaStep). v z.guard ≤ 1) q.steps n u (of.truths (inputs_under s words) (words_fit flat f words s k)) l) m

  ends_with : (j n : ℕ) (q : SsaPart) (u : SsaStep) (e : FlatEnding) → slice_get f.parts j ≡ Some q → slice_get q.steps n ≡ Some u → is_made v u ≡ true → ending_by u.act ≡ Some e → EndsWith j q e
  ends_with j n q u e h l m is =
      let one = made_one j n q u h l m in
      let of = (instance_of flat f j q k.form h).is_part in
      record {
        running = runs_where_made p flat f (inputs_under s words) checked un k.form (words_fit flat f words s k) j q n u h l one;
        ends = ending_is v q.steps n u e l m is (λ i w o g b. no_ending (ending_by w.act) (λ d y.
            let none_made = of.over (inputs_under s words) i n w u (words_fit flat f words s k) o g l (λ none. none-some d (sym none ∙ y)) (made_one j i q w h g b) in
            omega (arith, none_made, one)));
      }

  -- ---- no run is bad

  module _ (none : All (λ (t : Thread). t.bad ≡ false) (threads_of all_parts rs)) where
    never_made : (j n : ℕ) (q : SsaPart) (u : SsaStep) → slice_get f.parts j ≡ Some q → slice_get q.steps n ≡ Some u → u.act ≡ act.Bad → is_made v u ≡ true → ⊥
    never_made j n q u h l is m =
        let w = ends_with j n q u Broken h l m (ap ending_by is) in
        let o = place_of_part p flat f words s k j q w.running rs whole in
        let t = run_of flat f words s k p checked un lows j q w.running in
        let good : o.run.bad ≡ false = all_at (λ (t : Thread). t.bad ≡ false) (threads_of all_parts rs) o.place (thread_of (thread_at p flat f words s k q) o.run) none o.is_thread in
        let broken : o.run.bad ≡ true = ap (λ (z : Run). z.bad) (run_same j q w.running o.run o.runs_it) ∙ (t.bad ∙ ap is_broken (same_Some t.ending Broken (sym t.ends ∙ w.ends))) in
        both_ways o.run.bad good broken

    bad_guard : (t : TermId) → Contains (guards_of bad_by f.parts) t → value s (guard_lit words t) ≡ false
    bad_guard t c =
        let o = guard_where bad_by f.parts t c in
        let d = bads_by o.step o.step.act t o.listed in
        ap (λ (z : TermId). value s (guard_lit words z)) d.1
        ∙ (guard_made flat f words s k o.number o.place o.part o.step o.is_part o.is_step
        ∙ ⊎_elim (λ m. absurd (never_made o.number o.place o.part o.step o.is_part o.is_step d.0 m)) (λ m. m) (cases_Bool (is_made v o.step)))

    bad_clause : (clause : List Lit) → Contains (map (λ t. negated (guard_lit words t) ∷ []) (guards_of bad_by f.parts)) clause → IsSatisfied s clause
    bad_clause clause c =
        let o = contains_from_map (λ (t : TermId). negated (guard_lit words t) ∷ []) (guards_of bad_by f.parts) clause c in
        let l = negated (guard_lit words o.0) in
        subst (IsSatisfied s) (sym o.2) (l, contains_head l [], value-negated s (guard_lit words o.0) ∙ ap not (bad_guard o.0 o.1))

  -- ---- some run fails

  -- the part of a run
  record PartOf (run : Run) : Type 0 where
    pub number : ℕ
    pub part : SsaPart
    pub running : Running number part
    pub runs : RunsTo (thread_run p) (thread_at p flat f words s k part) run

  module _ (fails : SomeFails rs) where
    fail_clause : IsSatisfied s (map (guard_lit words) (guards_of fail_by f.parts))
    fail_clause =
        let o = all_at PartOf rs fails.0 fails.1 (all_runs p flat f words s k PartOf (λ j q r run h. record { number = j; part = q; running = r; runs = h }) rs whole) fails.3 in
        let q = o.part in
        let t = run_of flat f words s k p checked un lows o.number q o.running in
        let at : failed_at t.ending ≡ Some fails.2 = sym t.failed ∙ (ap (λ (z : Run). z.failed) (sym (run_same o.number q o.running fails.1 o.runs)) ∙ fails.4) in
        let e = ends_at v q.steps t.ending t.ends in
        let listed = guard_listed fail_by f.parts o.number e.place q e.step o.running.there e.there (fail_act e.step e.step.act t.ending fails.2 e.is at) in (
          guard_lit words e.step.guard,
          contains_map (guard_lit words) (guards_of fail_by f.parts) e.step.guard listed,
          guard_made flat f words s k o.number e.place q e.step o.running.there e.there ∙ e.made,
        )

  endings_with : All (λ (t : Thread). t.bad ≡ false) (threads_of all_parts rs) → SomeFails rs → AreSatisfied s (ending_clauses words f.parts)
  endings_with none fails clause c =
      let last = map (guard_lit words) (guards_of fail_by f.parts) in
      ⊎_elim (bad_clause none clause) (λ l. subst (IsSatisfied s) (sym (contains_one last clause l)) (fail_clause fails))
      (Contains-append_cases (map (λ (t : TermId). negated (guard_lit words t) ∷ []) (guards_of bad_by f.parts)) (last ∷ []) clause c)

-- where an assignment makes the values' clauses true and spells the threads of a failing execution, it makes the clauses of endings true
pub endings_hold : StartedHandlesAreLow → (p : Checked) (m : MemoryModel) (flat : Flat) (x : Encoded) (c : Candidate) (chain : IsChain p m flat x) (fails : ProgramFails p m c) (s : List Bool)
    → AreSatisfied s chain.made.blasted.clauses → c.threads ≡ spelling.threads_of x s → AreSatisfied s (ending_clauses chain.made.words chain.made.form.parts)
unfolding endings_with
endings_hold lows p m flat x c chain fails s h same =
    let made = chain.made in
    let e = same ∙ threads_are m flat x s made in
    let rs = fails.allowed.threads in
    endings_with p flat made.form made.words s (spelled m flat x s made h) chain.checked chain.unrolled lows rs
    (subst (λ (l : List ThreadPart). AllZip (RunsTo (thread_run p)) l rs) e fails.allowed.whole)
    (subst (λ (l : List ThreadPart). All (λ (t : Thread). t.bad ≡ false) (threads_of l rs)) e fails.allowed.well_made.none_bad)
    fails.fails
