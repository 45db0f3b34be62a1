-- Each part whose thread is created has a thread of a well made execution to play: main's, or the one that its creator's thread creates.
use Rattle.std.proofs.Common.{◌≡◌, ◌≢◌, ℕ, zero, suc, ◌<◌, ⊎_elim, List, [], ◌∷◌, refl, ap, sym, ◌∙◌, subst, arith}
use Rattle.std.specs.Prelude.{Some, slice_get}
use Rattle.std.specs.List.{AllZip}
use Rattle.std.proofs.lemmas.Bool.{cases_eq}
use Rattle.std.proofs.lemmas.Option.{same_Some, none-some}
use Rattle.dg_base.proofs.Lists.{get_nothing, place_of, contains_place}
use Rattle.axiom_model.specs.declared.Action.{Action}
use Rattle.axiom_model.specs.declared.Action.TheVariants as action
use Rattle.axiom_model.specs.declared.Event.{Event}
use Rattle.axiom_model.specs.declared.Event.TheVariants.{Initial, At}
use Rattle.axiom_model.specs.declared.Candidate.{Candidate}
use Rattle.axiom_model.specs.declared.ThreadPart.{ThreadPart}
use Rattle.axiom_model.specs.Execution as execution
use Rattle.axiom_model.specs.Execution.{Thread, Execution, action_at}
use Rattle.axiom_model.specs.Failing.{Run, RunsTo, HasWords, thread_of, threads_of, execution_of}
use Rattle.axiom_model.specs.WellMade.{WellMade}
use Rattle.axiom_model.proofs.Threads.{acts_from, actions_of-thread, one_thread}
use Rattle.bv_term.specs.Values.{AreWords}
use Rattle.c_check.specs.declared.checked.Checked.{Checked}
use Rattle.c_check.specs.WellFormed.{IsChecked}
use Rattle.run_model.specs.Programs.{shape_of}
use Rattle.run_model.specs.Threads.{thread_run}
use Rattle.run_laws.specs.Started.{IsStarted, main, created, StartedHandlesAreLow, StartedCreatesDiffer, CreatesDifferInARun}
use Rattle.flat_prog.specs.declared.Flat.{Flat}
use Rattle.loop_unroll.specs.Unrolled.{IsUnrolled}
use Rattle.ssa_form.specs.declared.Ssa.{Ssa}
use Rattle.ssa_form.specs.declared.SsaPart.{SsaPart}
use Rattle.ssa_form.specs.Parts.{Valuation, script_of, actions_of as part_actions}
use Rattle.ssa_form.specs.Form.{IsSsaOf, under}
use Rattle.ssa_form.specs.Laws.{ScriptsCanBeTaken, EarlierPartsStay}
use Rattle.encode_match.specs.Running.{IsRunning}
use Rattle.encode_match.proofs.Creators.{bounds}
use Rattle.encode_match.proofs.PartRuns.{instance_of, all_at, parts_run_as_threads}
use Rattle.encode_match.proofs.StartedParts.{RunsAreNumbered, constant_is, main_handle, parent_of, running_parts_are_started}
use Rattle.encode_match.proofs.SecondInputs.{Asked, Played, FirstPlay, AllPlay, all_play}

-- ---- threads and their runs

-- a thread's part and run
pub record HasRun (p : Checked) (ts : List ThreadPart) (k : ℕ) (t : Thread) : Type 0 where
  pub part : ThreadPart
  pub run : Run
  pub there : slice_get ts k ≡ Some part
  pub runs : RunsTo (thread_run p) part run
  pub is : thread_of part run ≡ t

pub has_run : (p : Checked) (ts : List ThreadPart) (rs : List Run) (k : ℕ) (t : Thread) → AllZip (RunsTo (thread_run p)) ts rs → slice_get (threads_of ts rs) k ≡ Some t → HasRun p ts k t
has_run p [] rs k t w e = absurd (get_nothing k t e)
has_run p (a ∷ ts) [] k t w e = absurd w
has_run p (a ∷ ts) (r ∷ rs) zero t w e = record { part = a; run = r; there = refl; runs = w.0; is = same_Some (thread_of a r) t e }
has_run p (a ∷ ts) (r ∷ rs) (suc k) t w e = let o = has_run p ts rs k t w.1 e in record { part = o.part; run = o.run; there = o.there; runs = o.runs; is = o.is }

-- and back
pub thread_here : (p : Checked) (ts : List ThreadPart) (rs : List Run) (k : ℕ) (a : ThreadPart) → AllZip (RunsTo (thread_run p)) ts rs → slice_get ts k ≡ Some a
    → (r : Run) × (slice_get (threads_of ts rs) k ≡ Some (thread_of a r)) × RunsTo (thread_run p) a r
thread_here p [] rs k a w e = absurd (get_nothing k a e)
thread_here p (b ∷ ts) [] k a w e = absurd w
thread_here p (b ∷ ts) (r ∷ rs) zero a w e =
    let same : b ≡ a = same_Some b a e in
    (r, ap (λ (z : ThreadPart). Some (thread_of z r)) same, subst (λ (z : ThreadPart). RunsTo (thread_run p) z r) same w.0)
thread_here p (b ∷ ts) (r ∷ rs) (suc k) a w e = thread_here p ts rs k a w.1 e

-- the thread that a part plays runs as the part
pub played_run : (p : Checked) (ts : List ThreadPart) (v : Valuation) (q : SsaPart) (a : Played ts v q)
    → thread_run p a.asked.thread.function a.asked.thread.handle a.asked.thread.arg a.asked.thread.script ≡ thread_run p q.function (v q.handle) (v q.arg) (script_of v q.steps)
played_run p ts v q a =
    let t = a.asked.thread in
    ap (λ (z : ℕ). thread_run p z t.handle t.arg t.script) a.asked.function
    ∙ (ap (λ (z : ℕ). thread_run p q.function z t.arg t.script) a.asked.handle
    ∙ (ap (λ (z : ℕ). thread_run p q.function (v q.handle) z t.script) a.asked.arg
    ∙ ap (λ (z : List ℕ). thread_run p q.function (v q.handle) (v q.arg) z) (sym a.script)))

abbrev function_in : Action → ℕ
function_in (action.Create h f v) = f
function_in _ = 0

abbrev arg_in : Action → ℕ
arg_in (action.Create h f v) = v
arg_in _ = 0

module _ (p : Checked) (checked : IsChecked p) (c : Candidate) (rs : List Run) (whole : AllZip (RunsTo (thread_run p)) c.threads rs)
    (well : WellMade (shape_of p.program) (execution_of c rs)) (counts : RunsAreNumbered) where
  abbrev threads : List Thread
  threads = threads_of c.threads rs

  -- a thread that creates another
  pub record Creating (h g w : ℕ) : Type 0 where
    pub place : ℕ
    pub part : ThreadPart
    pub run : Run
    pub there : slice_get c.threads place ≡ Some part
    pub is_thread : slice_get threads place ≡ Some (thread_of part run)
    pub runs : RunsTo (thread_run p) part run
    pub index : ℕ
    pub acts : slice_get run.actions index ≡ Some (action.Create h g w)

  creating_at : (l i h g w : ℕ) → slice_get (execution.actions_of threads l) i ≡ Some (action.Create h g w) → Creating h g w
  creating_at l i h g w e =
      let o = acts_from threads l i (action.Create h g w) e in
      let r = has_run p c.threads rs o.place o.thread whole o.there in
      record {
        place = o.place;
        part = r.part;
        run = r.run;
        there = r.there;
        is_thread = o.there ∙ ap (λ (z : Thread). Some z) (sym r.is);
        runs = r.runs;
        index = i;
        acts = ap (λ (z : Thread). slice_get z.actions i) r.is ∙ o.acts;
      }

  pub creating : (e : Event) (h g w : ℕ) → action_at (execution_of c rs) e ≡ Some (action.Create h g w) → Creating h g w
  creating Initial h g w e = absurd (none-some (action.Create h g w) e)
  creating (At l i) h g w e = creating_at l i h g w e

  -- what is created has a higher handle
  pub higher : (h g w : ℕ) (o : Creating h g w) → o.part.handle < h
  higher h g w o =
      let b = bounds o.part.handle 0 o.run.actions h g w (counts p o.part.function o.part.handle o.part.arg o.part.script o.run o.runs.0)
      (contains_place o.run.actions o.index (action.Create h g w) o.acts) in
      omega (arith, b.low)

  -- ---- started threads

  -- main's thread
  is_main : (k : ℕ) (t : ThreadPart) (r : Run) → slice_get threads k ≡ Some (thread_of t r) → t.handle ≡ 0 → t.function ≡ (shape_of p.program).main
  is_main k t r e z =
      let m = well.has_main in
      let same : thread_of t r ≡ m.1 = one_thread threads well.rising k m.0 (thread_of t r) m.1 e m.2 (z ∙ sym m.3) in
      ap (λ (u : Thread). u.function) same ∙ m.4.0

  -- the creator of another thread
  pub creator : (k : ℕ) (t : ThreadPart) (r : Run) → slice_get threads k ≡ Some (thread_of t r) → t.handle ≢ 0 → Creating t.handle t.function t.arg
  creator k t r e n =
      let o = all_at (λ (u : Thread). u.handle ≢ 0 → (ev : Event) × (action_at (execution_of c rs) ev ≡ Some (action.Create u.handle u.function u.arg))) threads k (thread_of t r) well.created e n in
      creating o.0 t.handle t.function t.arg o.1

  started_below : (n k : ℕ) (t : ThreadPart) → t.handle < n → slice_get c.threads k ≡ Some t → (d : ℕ) × IsStarted p d t.function
  started_below zero k t l e = absurd (omega (arith, l))
  started_below (suc n) k t l e =
      let h = thread_here p c.threads rs k t whole e in
      ⊎_elim
      (λ z. (0, subst (λ (g : ℕ). IsStarted p 0 g) (sym (is_main k t h.0 h.1 z)) main))
      (λ z. let o = creator k t h.0 h.1 z in
      let up = higher t.handle t.function t.arg o in
      let s = started_below n o.place o.part (omega (arith, l, up)) o.there in
      (suc s.0, created s.0 o.part.function t.function o.part.handle o.part.arg t.handle t.arg o.part.script o.run s.1 o.runs.0 (contains_place o.run.actions o.index (action.Create t.handle t.function t.arg) o.acts)))
      (cases_eq t.handle 0)

  pub started : (k : ℕ) (t : ThreadPart) → slice_get c.threads k ≡ Some t → (d : ℕ) × IsStarted p d t.function
  started k t e = started_below (suc t.handle) k t (omega arith) e

  -- ---- a handle is created once

  module _ (differ : StartedCreatesDiffer) (once : CreatesDifferInARun) where
    same_create : (h g w a b : ℕ) (o : Creating h g w) (q : Creating h a b) → (g ≡ a) × (w ≡ b)
    same_create h g w a b o q =
        let d = started o.place o.part o.there in
        let e = started q.place q.part q.there in
        let own : o.part.handle ≡ q.part.handle = differ p d.0 e.0 o.part.function q.part.function o.part.handle q.part.handle o.part.arg q.part.arg o.part.script q.part.script o.run q.run checked d.1 e.1 o.runs.0 q.runs.0
        h g a w b (contains_place o.run.actions o.index (action.Create h g w) o.acts) (contains_place q.run.actions q.index (action.Create h a b) q.acts) in
        let one : thread_of o.part o.run ≡ thread_of q.part q.run = one_thread threads well.rising o.place q.place (thread_of o.part o.run) (thread_of q.part q.run) o.is_thread q.is_thread own in
        let acts : slice_get o.run.actions q.index ≡ Some (action.Create h a b) = ap (λ (u : Thread). slice_get u.actions q.index) one ∙ q.acts in
        let at : o.index ≡ q.index = once p o.part.function o.part.handle o.part.arg o.part.script o.run o.runs.0 o.index q.index h g a w b o.acts acts in
        let same : action.Create h g w ≡ action.Create h a b = same_Some (action.Create h g w) (action.Create h a b) (sym o.acts ∙ (ap (slice_get o.run.actions) at ∙ acts)) in
        (ap function_in same, ap arg_in same)

    -- ---- what parts are asked to play

    module _ (flat : Flat) (f : Ssa) (un : IsUnrolled p flat) (form : IsSsaOf flat f) (lows : StartedHandlesAreLow) (takes : ScriptsCanBeTaken) (stay : EarlierPartsStay) (short : HasWords c) where
      abbrev Play : ℕ → (ℕ → ℕ) → Type 0
      Play n inputs = FirstPlay p flat f checked un form lows takes stay c.threads rs whole short n inputs

      asks_main : (inputs : ℕ → ℕ) (part : SsaPart) → AreWords inputs → IsRunning f (under inputs f) 0 part → Asked c.threads (under inputs f) part
      asks_main inputs part words r =
          let m = well.has_main in
          let h = has_run p c.threads rs m.0 m.1 whole m.2 in
          let of = instance_of flat f 0 part form r.there in
          record {
            place = m.0;
            thread = h.part;
            there = h.there;
            handle = ap (λ (u : Thread). u.handle) h.is ∙ (m.3 ∙ sym (main_handle p flat f inputs checked un form words part r));
            function = ap (λ (u : Thread). u.function) h.is ∙ (m.4.0 ∙ sym (of.is_part.same_function ∙ un.main of.instance of.there));
            arg = ap (λ (u : Thread). u.arg) h.is ∙ (m.4.1 ∙ sym (constant_is f inputs part.arg 0 flat form (form.main part r.there).2));
          }

      -- the thread that a creator's thread creates
      asks_created : (v : Valuation) (part : SsaPart) → Creating (v part.handle) part.function (v part.arg) → Asked c.threads v part
      asks_created v part o =
          let acts : action_at (execution_of c rs) (At o.part.handle o.index) ≡ Some (action.Create (v part.handle) part.function (v part.arg)) =
          ap (λ (l : List Action). slice_get l o.index) (actions_of-thread threads well.rising o.place (thread_of o.part o.run) o.is_thread) ∙ o.acts in
          let t = well.creates (At o.part.handle o.index) (v part.handle) part.function (v part.arg) acts in
          let r = has_run p c.threads rs t.0 t.1 whole t.2 in
          let same : r.part.handle ≡ v part.handle = ap (λ (u : Thread). u.handle) r.is ∙ t.3 in
          let up = higher (v part.handle) part.function (v part.arg) o in
          let by = creator t.0 r.part r.run (t.2 ∙ ap (λ (z : Thread). Some z) (sym r.is)) (λ z. omega (arith, up, z, same)) in
          let one = same_create (v part.handle) r.part.function r.part.arg part.function (v part.arg) (subst (λ (z : ℕ). Creating z r.part.function r.part.arg) same by) o in
          record { place = t.0; thread = r.part; there = r.there; handle = same; function = one.0; arg = one.1 }

      pub asks : (n : ℕ) (inputs : ℕ → ℕ) (part : SsaPart) → AreWords inputs → Play n inputs → IsRunning f (under inputs f) n part → Asked c.threads (under inputs f) part
      asks zero inputs part words play r = asks_main inputs part words r
      asks (suc n) inputs part words play r =
          let v = under inputs f in
          let q = parent_of p flat f inputs checked un form words n part r in
          let a = play q.0 q.2.creator q.2.earlier q.2.runs in
          let few = (running_parts_are_started lows p flat f inputs q.0 q.2.creator checked un form words q.2.runs).few in
          let w = parts_run_as_threads p flat f inputs q.0 q.2.creator un form words q.2.runs few in
          let t = a.asked.thread in
          let h = thread_here p c.threads rs a.asked.place t whole a.asked.there in
          let same : Some h.0 ≡ Some w.run = sym h.2.0 ∙ (played_run p c.threads v q.2.creator a ∙ w.runs) in
          let acts : h.0.actions ≡ part_actions f.parts v q.2.creator = ap (λ (z : Run). z.actions) (same_Some h.0 w.run same) ∙ w.actions in
          let at = place_of (part_actions f.parts v q.2.creator) (action.Create (v part.handle) part.function (v part.arg)) q.2.creates in
          asks_created v part (record {
            place = a.asked.place;
            part = t;
            run = h.0;
            there = a.asked.there;
            is_thread = h.1;
            runs = h.2;
            index = at.0;
            acts = ap (λ (l : List Action). slice_get l at.0) acts ∙ at.1;
          })

      -- inputs under which each part whose thread is created plays a thread of the execution
      pub inputs_of : AllPlay p flat f checked un form lows takes stay c.threads rs whole short asks
      inputs_of = all_play p flat f checked un form lows takes stay c.threads rs whole short asks
