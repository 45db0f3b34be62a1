-- Each thread of a well made execution is played by a part whose thread is created, where each such part plays one.
use Rattle.std.proofs.Common.{◌≡◌, ℕ, zero, suc, ◌<◌, ◌≤◌, ⊎_elim, true, List, get_or, ap, sym, ◌∙◌, arith}
use Rattle.std.specs.Prelude.{Some, slice_get}
use Rattle.std.specs.List.{AllZip}
use Rattle.std.proofs.lemmas.Bool.{cases_eq}
use Rattle.std.proofs.lemmas.Option.{same_Some, slice_get_within, get_or_from_slice_get}
use Rattle.dg_base.proofs.Lists.{contains_place}
use Rattle.axiom_model.specs.declared.Action.{Action}
use Rattle.axiom_model.specs.declared.Action.TheVariants as action
use Rattle.axiom_model.specs.declared.Candidate.{Candidate}
use Rattle.axiom_model.specs.declared.ThreadPart.{ThreadPart}
use Rattle.axiom_model.specs.Execution.{Thread}
use Rattle.axiom_model.specs.Failing.{Run, RunsTo, thread_of, threads_of, execution_of}
use Rattle.axiom_model.specs.WellMade.{WellMade}
use Rattle.axiom_model.proofs.Threads.{Rising}
use Rattle.bv_term.specs.Values.{AreWords}
use Rattle.c_check.specs.declared.checked.Checked.{Checked}
use Rattle.c_check.specs.WellFormed.{IsChecked}
use Rattle.run_model.specs.Programs.{shape_of}
use Rattle.run_model.specs.Threads.{thread_run}
use Rattle.run_laws.specs.Started.{StartedHandlesAreLow}
use Rattle.flat_prog.specs.declared.Flat.{Flat}
use Rattle.loop_unroll.specs.Unrolled.{IsUnrolled}
use Rattle.ssa_form.specs.declared.Ssa.{Ssa}
use Rattle.ssa_form.specs.declared.SsaPart.{SsaPart}
use Rattle.ssa_form.specs.declared.SsaStep.{SsaStep}
use Rattle.ssa_form.specs.Parts.{Valuation, is_made, actions_of as part_actions}
use Rattle.ssa_form.specs.Form.{IsSsaOf, under}
use Rattle.event_graph.proofs.Making.{action_maker}
use Rattle.encode_match.specs.Running.{IsRunning}
use Rattle.encode_match.proofs.PartRuns.{instance_of, all_at, parts_run_as_threads}
use Rattle.encode_match.proofs.StartedParts.{RunsAreNumbered, constant_is, running_parts_are_started}
use Rattle.encode_match.proofs.SpelledMatch.{create_made}
use Rattle.encode_match.proofs.FirstShape.{has_first, one_of_truth}
use Rattle.encode_match.proofs.SecondInputs.{Played}
use Rattle.encode_match.proofs.SecondLists.{sorted_places, Rise, one_element}
use Rattle.encode_match.proofs.SecondThreads.{Creating, thread_here, played_run, higher, creator}

-- where the handles of threads rise, so do those of their parts
pub rises : (p : Checked) (ts : List ThreadPart) (rs : List Run) → AllZip (RunsTo (thread_run p)) ts rs → Rising (threads_of ts rs) → Rise ts
rises p ts rs w r =
    let us = threads_of ts rs in
    sorted_places (λ (t u : ThreadPart). t.handle < u.handle) ts
    (λ i j a b l x y.
    let g = thread_here p ts rs i a w x in
    let h = thread_here p ts rs j b w y in
    let d = thread_of a g.0 in
    let low : (get_or us i d).handle < (get_or us j d).handle = r i j d l (slice_get_within us j (thread_of b h.0) h.1) in
    let first : (get_or us i d).handle ≡ a.handle = ap (λ (z : Thread). z.handle) (get_or_from_slice_get us i d d g.1) in
    let second : (get_or us j d).handle ≡ b.handle = ap (λ (z : Thread). z.handle) (get_or_from_slice_get us j (thread_of b h.0) d h.1) in
    omega (arith, low, first, second))

module _ (p : Checked) (checked : IsChecked p) (c : Candidate) (rs : List Run) (whole : AllZip (RunsTo (thread_run p)) c.threads rs)
    (well : WellMade (shape_of p.program) (execution_of c rs)) (counts : RunsAreNumbered) (flat : Flat) (f : Ssa) (un : IsUnrolled p flat) (form : IsSsaOf flat f)
    (lows : StartedHandlesAreLow) (inputs : ℕ → ℕ) (words : AreWords inputs)
    (play : (i : ℕ) (part : SsaPart) → IsRunning f (under inputs f) i part → Played c.threads (under inputs f) part) where
  abbrev v : Valuation
  v = under inputs f

  -- a part whose thread is created, with the thread's handle
  pub record PlayedBy (t : ThreadPart) : Type 0 where
    pub number : ℕ
    pub part : SsaPart
    pub running : IsRunning f v number part
    pub handle : v part.handle ≡ t.handle

  -- it plays that thread
  pub is_played : (k : ℕ) (t : ThreadPart) → slice_get c.threads k ≡ Some t → (o : PlayedBy t) → (play o.number o.part o.running).asked.thread ≡ t
  is_played k t e o =
      let a = (play o.number o.part o.running).asked in
      one_element c.threads a.thread t (rises p c.threads rs whole well.rising) (contains_place c.threads a.place a.thread a.there) (contains_place c.threads k t e) (a.handle ∙ o.handle)

  -- so the thread's run is the part's
  acts_as : (k : ℕ) (t : ThreadPart) (run : Run) → slice_get c.threads k ≡ Some t → RunsTo (thread_run p) t run → (o : PlayedBy t) → run.actions ≡ part_actions f.parts v o.part
  acts_as k t run e h o =
      let a = play o.number o.part o.running in
      let few = (running_parts_are_started lows p flat f inputs o.number o.part checked un form words o.running).few in
      let w = parts_run_as_threads p flat f inputs o.number o.part un form words o.running few in
      let same : Some run ≡ Some w.run =
      sym h.0 ∙ (ap (λ (z : ThreadPart). thread_run p z.function z.handle z.arg z.script) (sym (is_played k t e o)) ∙ (played_run p c.threads v o.part a ∙ w.runs)) in
      ap (λ (z : Run). z.actions) (same_Some run w.run same) ∙ w.actions

  made_one : (j n : ℕ) (q : SsaPart) (u : SsaStep) → slice_get f.parts j ≡ Some q → slice_get q.steps n ≡ Some u → is_made v u ≡ true → v u.guard ≡ 1
  made_one j n q u h l m =
      let of = (instance_of flat f j q form h).is_part in
      one_of_truth (v u.guard) (all_at (λ (z : SsaStep). v z.guard ≤ 1) q.steps n u (of.truths inputs words) l) m

  main_played : (t : ThreadPart) → t.handle ≡ 0 → PlayedBy t
  main_played t z =
      let q = has_first f.parts form.in_turn in
      let m = form.main q.0 q.1 in
      record {
        number = 0;
        part = q.0;
        running = record { there = q.1; starts = constant_is f inputs q.0.start 1 flat form m.0 };
        handle = constant_is f inputs q.0.handle 0 flat form m.1 ∙ sym z;
      }

  -- the part that the creator's part creates
  created_played : (t : ThreadPart) (o : Creating p checked c rs whole well counts t.handle t.function t.arg) → PlayedBy o.part → PlayedBy t
  created_played t o b =
      let create = action.Create t.handle t.function t.arg in
      let here : slice_get (part_actions f.parts v b.part) o.index ≡ Some create = ap (λ (l : List Action). slice_get l o.index) (sym (acts_as o.place o.part o.run o.there o.runs b)) ∙ o.acts in
      let d = action_maker f.parts v b.part.steps o.index create here in
      let made = create_made f.parts v d.step.act t.handle t.function t.arg d.makes in
      let s = form.created b.number made.instance d.place b.part d.step made.handle made.arg b.running.there d.there made.is in
      record {
        number = made.instance;
        part = s.part;
        running = record { there = s.there; starts = ap v s.start ∙ made_one b.number d.place b.part d.step b.running.there d.there d.made };
        handle = ap v s.same_handle ∙ made.same;
      }

  played_below : (n k : ℕ) (t : ThreadPart) → t.handle < n → slice_get c.threads k ≡ Some t → PlayedBy t
  played_below zero k t l e = absurd (omega (arith, l))
  played_below (suc n) k t l e =
      ⊎_elim
      (λ z. main_played t z)
      (λ z.
      let h = thread_here p c.threads rs k t whole e in
      let o = creator p checked c rs whole well counts k t h.0 h.1 z in
      let up = higher p checked c rs whole well counts t.handle t.function t.arg o in
      created_played t o (played_below n o.place o.part (omega (arith, l, up)) o.there))
      (cases_eq t.handle 0)

  -- each thread is played
  pub played : (k : ℕ) (t : ThreadPart) → slice_get c.threads k ≡ Some t → PlayedBy t
  played k t e = played_below (suc t.handle) k t (omega arith) e
