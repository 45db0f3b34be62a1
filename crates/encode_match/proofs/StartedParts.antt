-- Each part whose thread is created runs a started function, and its handle is behind those of the parts before it.
use Rattle.std.proofs.Common.{◌≡◌, ℕ, zero, suc, ◌+◌, ◌*◌, ◌<◌, ◌≤◌, ⊎_elim, List, [], ◌∷◌, ap, sym, ◌∙◌, subst, arith}
use Rattle.std.specs.Prelude.{Option, Some, slice_get, Contains}
use Rattle.std.proofs.lemmas.Bool.{cases_eq}
use Rattle.std.proofs.lemmas.Option.{slice_get_within}
use Rattle.dg_base.specs.Values.{is_true}
use Rattle.dg_base.proofs.Lists.{one_answer}
use Rattle.axiom_model.specs.declared.Action.TheVariants as action
use Rattle.axiom_model.specs.Failing.{Run}
use Rattle.bv_term.specs.declared.term.TermId.{TermId}
use Rattle.bv_term.specs.declared.term.Term.TheVariants.{Constant}
use Rattle.bv_term.specs.Values.{AreWords, IsConstant}
use Rattle.bv_term.proofs.ValueLaws.{value_by_term}
use Rattle.c_check.specs.declared.checked.Checked.{Checked}
use Rattle.c_check.specs.WellFormed.{IsChecked}
use Rattle.run_model.specs.Laws.{IsNumbered, creates_in}
use Rattle.run_model.specs.Threads.{thread_run}
use Rattle.run_laws.specs.Started.{IsStarted, main, created, StartedCreateFew, StartedHandlesAreLow}
use Rattle.flat_prog.specs.declared.Flat.{Flat}
use Rattle.loop_unroll.specs.Unrolled.{IsUnrolled}
use Rattle.ssa_form.specs.declared.Ssa.{Ssa}
use Rattle.ssa_form.specs.declared.SsaPart.{SsaPart}
use Rattle.ssa_form.specs.declared.SsaStep.{SsaStep}
use Rattle.ssa_form.specs.declared.SsaAct.TheVariants as act
use Rattle.ssa_form.specs.Parts.{Valuation, made_of, action_by, actions_in, function_in, script_of}
use Rattle.ssa_form.specs.Form.{IsSsaOf, under}
use Rattle.encode_match.specs.Running.{IsRunning, IsStartedPart, RunningPartsAreStarted, HandlesRise}
use Rattle.encode_match.proofs.PartRuns.{all_at, instance_of, parts_run_as_threads}
use Rattle.encode_match.proofs.Creators.{made_in, Creator, bounds, in_order, CreatedBy, created_at, two_created, creation_of}

-- a run numbers its creates
abbrev pub RunsAreNumbered : Type 0
RunsAreNumbered = (p : Checked) (f handle arg : ℕ) (script : List ℕ) (r : Run) → thread_run p f handle arg script ≡ Some r → IsNumbered handle 0 r.actions

-- the value of a constant
pub constant_is : (f : Ssa) (inputs : ℕ → ℕ) (t : TermId) (v : ℕ) (flat : Flat) → IsSsaOf flat f → IsConstant f.terms t v → under inputs f t ≡ v
constant_is f inputs t v flat form e = value_by_term f.terms inputs t (Constant v) form.terms e

module _ (p : Checked) (flat : Flat) (f : Ssa) (inputs : ℕ → ℕ) (checked : IsChecked p) (un : IsUnrolled p flat) (form : IsSsaOf flat f) (words : AreWords inputs) where
  abbrev v : Valuation
  v = under inputs f

  abbrev Running : ℕ → SsaPart → Type 0
  Running i part = IsRunning f v i part

  -- a part of which a step is made is running
  pub runs_where_made : (c : ℕ) (part : SsaPart) (k : ℕ) (s : SsaStep) → slice_get f.parts c ≡ Some part → slice_get part.steps k ≡ Some s → v s.guard ≡ 1 → Running c part
  runs_where_made c part k s h e one =
      let q = (instance_of flat f c part form h).is_part in
      let low : v part.start ≤ 1 = all_at (λ (t : SsaStep). v t.guard ≤ 1) part.steps 0 (record { guard = part.start; act = act.Start }) (q.truths inputs words) q.starts in
      record {
        there = h;
        starts = ⊎_elim
            (λ z. absurd (let no : v s.guard ≡ 0 = all_at (λ (t : SsaStep). v t.guard ≡ 0) part.steps k s (q.asleep inputs words z) e in omega (arith, no, one)))
            (λ n. omega (arith, low, n))
            (cases_eq (v part.start) 0);
      }

  -- the creator of a part that runs: an earlier part, which runs, with the step that is made
  pub record Parent (j c k : ℕ) (part : SsaPart) : Type 0 where
    pub creator : SsaPart
    pub runs : Running c creator
    pub earlier : c < j
    pub by : Creator v creator.steps k part.handle
    pub creates : Contains (actions_in f.parts v (made_of v creator.steps)) (action.Create (v part.handle) part.function (v part.arg))

  pub parent : (j c k : ℕ) (part : SsaPart) → Running j part → CreatedBy f.parts j c k → Parent j c k part
  parent j c k part r b =
      let s = form.created c j k b.part b.by.step b.by.handle b.by.arg b.there b.by.there b.by.is_create in
      let same : s.part ≡ part = one_answer (slice_get f.parts j) s.part part s.there r.there in
      let guard : v b.by.step.guard ≡ 1 = ap v (sym s.start ∙ ap (λ (q : SsaPart). q.start) same) ∙ r.starts in
      record {
        creator = b.part;
        runs = runs_where_made c b.part k b.by.step b.there b.by.there guard;
        earlier = form.later c j b.listed.0 b.part b.there b.listed.1;
        by = record {
          step = b.by.step;
          instance = j;
          arg = b.by.arg;
          there = b.by.there;
          made = ap is_true guard;
          is_create = b.by.is_create ∙ ap (λ (t : TermId). act.Create j t b.by.arg) (sym s.same_handle ∙ ap (λ (q : SsaPart). q.handle) same);
        };
        creates = made_in f.parts v b.part.steps k b.by.step (action.Create (v part.handle) part.function (v part.arg)) b.by.there (ap is_true guard)
            (ap (action_by f.parts v) b.by.is_create
            ∙ (ap (λ (t : TermId). action.Create (v t) (function_in (slice_get f.parts j)) (v b.by.arg) ∷ []) (sym s.same_handle ∙ ap (λ (q : SsaPart). q.handle) same)
            ∙ (ap (λ (t : TermId). action.Create (v part.handle) (function_in (slice_get f.parts j)) (v t) ∷ []) (sym s.same_arg ∙ ap (λ (q : SsaPart). q.arg) same)
            ∙ ap (λ (o : Option SsaPart). action.Create (v part.handle) (function_in o) (v part.arg) ∷ []) r.there)));
      }

  pub parent_of : (k : ℕ) (part : SsaPart) → Running (suc k) part → (c : ℕ) × (l : ℕ) × Parent (suc k) c l part
  parent_of k part r =
      let q = created_at f.parts k (suc k) (creation_of f.parts k form.in_turn (slice_get_within f.parts (suc k) part r.there)) in
      (q.0, q.1, parent (suc k) q.0 q.1 part r q.2)

  -- ---- functions

  pub main_handle : (part : SsaPart) → Running 0 part → v part.handle ≡ 0
  main_handle part r = constant_is f inputs part.handle 0 flat form (form.main part r.there).1

  main_started : (part : SsaPart) → Running 0 part → IsStartedPart p v part
  main_started part r =
      let q = instance_of flat f 0 part form r.there in
      let zero_handle = main_handle part r in
      record {
        depth = 0;
        started = subst (λ (n : ℕ). IsStarted p 0 n) (sym (q.is_part.same_function ∙ un.main q.instance q.there)) main;
        low = omega (arith, zero_handle);
        few = omega (arith, zero_handle);
      }

  module _ (lows : StartedHandlesAreLow) where
    child_started : (j c k : ℕ) (part : SsaPart) → (q : Parent j c k part) → IsStartedPart p v q.creator → IsStartedPart p v part
    child_started j c k part q s =
        let r = parts_run_as_threads p flat f inputs c q.creator un form words q.runs s.few in
        let made : Contains r.run.actions (action.Create (v part.handle) part.function (v part.arg)) = subst (λ l. Contains l (action.Create (v part.handle) part.function (v part.arg))) (sym r.actions) q.creates in
        let script = script_of v q.creator.steps in
        let low = lows p s.depth q.creator.function (v q.creator.handle) (v q.creator.arg) script r.run checked s.started s.low r.runs (v part.handle) part.function (v part.arg) made in
        record {
          depth = suc s.depth;
          started = created s.depth q.creator.function part.function (v q.creator.handle) (v q.creator.arg) (v part.handle) (v part.arg) script r.run s.started r.runs made;
          low = low.0;
          few = low.1;
        }

    started_below : (n i : ℕ) (part : SsaPart) → i < n → Running i part → IsStartedPart p v part
    started_below zero i part h r = absurd (omega (arith, h))
    started_below (suc n) zero part h r = main_started part r
    started_below (suc n) (suc k) part h r =
        let q = parent_of k part r in
        child_started (suc k) q.0 q.1 part q.2 (started_below n q.0 q.2.creator (omega (arith, h, q.2.earlier)) q.2.runs)

    pub started_part : (i : ℕ) (part : SsaPart) → Running i part → IsStartedPart p v part
    started_part i part r = started_below (suc i) i part (omega arith) r

    -- ---- handles

    module _ (limit : StartedCreateFew) (counts : RunsAreNumbered) where
      -- the creates of a part are numbered, and at most 63
      record Shares (part : SsaPart) : Type 0 where
        pub numbered : IsNumbered (v part.handle) 0 (actions_in f.parts v (made_of v part.steps))
        pub few : creates_in (actions_in f.parts v (made_of v part.steps)) ≤ 63

      shares : (c : ℕ) (part : SsaPart) → Running c part → Shares part
      shares c part r =
          let s = started_part c part r in
          let q = parts_run_as_threads p flat f inputs c part un form words r s.few in
          let script = script_of v part.steps in
          record {
            numbered = subst (λ l. IsNumbered (v part.handle) 0 l) q.actions (counts p part.function (v part.handle) (v part.arg) script q.run q.runs);
            few = subst (λ l. creates_in l ≤ 63) q.actions (limit p s.depth part.function (v part.handle) (v part.arg) script q.run checked s.started q.runs);
          }

      -- the handle of a part is among the 63 numbers behind 64 times its creator's
      record Within (own h : ℕ) : Type 0 where
        pub low : 64 * own + 1 ≤ h
        pub high : h ≤ 64 * own + 63

      within : (j c k : ℕ) (part : SsaPart) (q : Parent j c k part) → Within (v q.creator.handle) (v part.handle)
      within j c k part q =
          let s = shares c q.creator q.runs in
          let b = bounds (v q.creator.handle) 0 (actions_in f.parts v (made_of v q.creator.steps)) (v part.handle) part.function (v part.arg) s.numbered q.creates in
          record { low = omega (arith, b.low); high = omega (arith, b.high, s.few) }

      siblings : (i j c k d l : ℕ) (a b : SsaPart) (q : Parent i c k a) (r : Parent j d l b) → c ≡ d → k < l → v a.handle < v b.handle
      siblings i j c k d l a b q r same h =
          let one : r.creator ≡ q.creator = one_answer (slice_get f.parts c) r.creator q.creator (subst (λ (n : ℕ). slice_get f.parts n ≡ Some r.creator) (sym same) r.runs.there) q.runs.there in
          in_order f.parts v (v q.creator.handle) 0 q.creator.steps k l a.handle b.handle (shares c q.creator q.runs).numbered h q.by (subst (λ (z : SsaPart). Creator v z.steps l b.handle) one r.by)

      cousins : (i j c k d l : ℕ) (a b : SsaPart) (q : Parent i c k a) (r : Parent j d l b) → v q.creator.handle < v r.creator.handle → v a.handle < v b.handle
      cousins i j c k d l a b q r h = let u = within i c k a q in let w = within j d l b r in omega (arith, h, u.high, w.low)

      rises_below : (n i j : ℕ) (a b : SsaPart) → j < n → i < j → Running i a → Running j b → v a.handle < v b.handle
      rises_below zero i j a b h l ra rb = absurd (omega (arith, h))
      rises_below (suc n) i zero a b h l ra rb = absurd (omega (arith, l))
      rises_below (suc n) zero (suc j) a b h l ra rb =
          let q = parent_of j b rb in
          let w = within (suc j) q.0 q.1 b q.2 in
          omega (arith, main_handle a ra, w.low)
      rises_below (suc n) (suc i) (suc j) a b h l ra rb =
          let two = two_created f.parts i j (suc i) (suc j) (omega (arith, l))
          (creation_of f.parts i form.in_turn (slice_get_within f.parts (suc i) a ra.there))
          (creation_of f.parts j form.in_turn (slice_get_within f.parts (suc j) b rb.there)) in
          let q = parent (suc i) two.first_part two.first_step a ra two.first in
          let r = parent (suc j) two.second_part two.second_step b rb two.second in
          ⊎_elim
          (λ o. cousins (suc i) (suc j) two.first_part two.first_step two.second_part two.second_step a b q r
          (rises_below n two.first_part two.second_part q.creator r.creator (omega (arith, h, r.earlier)) o q.runs r.runs))
          (λ o. siblings (suc i) (suc j) two.first_part two.first_step two.second_part two.second_step a b q r o.0 o.1)
          two.order

-- each part whose thread is created runs a started function
pub running_parts_are_started : StartedHandlesAreLow → RunningPartsAreStarted
running_parts_are_started lows p flat f inputs i part checked un form words r = started_part p flat f inputs checked un form words lows i part r

-- and handles rise
pub handles_rise : StartedHandlesAreLow → StartedCreateFew → RunsAreNumbered → HandlesRise
handles_rise lows few numbered p flat f inputs i j a b checked un form words ra rb l =
    rises_below p flat f inputs checked un form words lows few numbered (suc j) i j a b (omega arith) l ra rb
