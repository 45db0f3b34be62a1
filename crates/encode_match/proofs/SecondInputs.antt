-- Inputs under which each part whose thread is created takes the script of a thread of an execution, chosen part by part.
use Rattle.std.proofs.Common.{◌≡◌, ℕ, zero, suc, ◌<◌, ◌^◌, ⊎_elim, Bool, true, false, cond, List, [], ◌∷◌, ◌++◌, map, length, refl, ap, sym, ◌∙◌, subst, arith}
use mathlib.Core.List.{map-append}
use Rattle.std.specs.Prelude.{Option, Some, None, slice_get, Contains, All}
use Rattle.std.specs.List.{AllZip}
use Rattle.std.proofs.lemmas.Bool.{cases_eq}
use Rattle.std.proofs.lemmas.List.Elements.{All-contains, Contains-append_left, Contains-append_right}
use Rattle.std.proofs.lemmas.Option.{same_Some, slice_get_within}
use Rattle.dg_base.specs.Values.{is_true}
use Rattle.dg_base.proofs.Lists.{get_nothing, not_none, one_answer, from_option_map, contains_head, contains_tail}
use Rattle.axiom_model.specs.declared.ThreadPart.{ThreadPart}
use Rattle.axiom_model.specs.Failing.{Run, RunsTo}
use Rattle.bv_term.specs.declared.term.TermId.{TermId}
use Rattle.bv_term.specs.Values.{AreWords}
use Rattle.c_check.specs.declared.checked.Checked.{Checked}
use Rattle.c_check.specs.WellFormed.{IsChecked}
use Rattle.run_model.specs.Threads.{thread_run}
use Rattle.run_laws.specs.Started.{StartedHandlesAreLow}
use Rattle.flat_prog.specs.declared.Flat.{Flat}
use Rattle.flat_prog.specs.Runs.{flat_run, run_seen}
use Rattle.loop_unroll.specs.Unrolled.{IsUnrolled, RunsAsThread}
use Rattle.ssa_form.specs.declared.Ssa.{Ssa}
use Rattle.ssa_form.specs.declared.SsaPart.{SsaPart}
use Rattle.ssa_form.specs.declared.SsaStep.{SsaStep}
use Rattle.ssa_form.specs.Parts.{Valuation, input_of, inputs_in, is_made, made_of, script_of}
use Rattle.ssa_form.specs.Form.{IsSsaOf, Agree, settled_terms, under}
use Rattle.ssa_form.specs.Laws.{Choice, ScriptsCanBeTaken, DoesTheSame, EarlierPartsStay}
use Rattle.encode_match.specs.Running.{IsRunning}
use Rattle.encode_match.proofs.PartRuns.{all_at, instance_of}
use Rattle.encode_match.proofs.StartedParts.{running_parts_are_started}

zip_to : {A B : Type 0} (R : A → B → Type 0) (xs : List A) (ys : List B) (k : ℕ) (x : A) → AllZip R xs ys → slice_get xs k ≡ Some x → (y : B) × (slice_get ys k ≡ Some y) × R x y
zip_to R [] [] k x h e = absurd (get_nothing k x e)
zip_to R [] (z ∷ zs) k x h e = absurd h
zip_to R (x ∷ xs) [] k y h e = absurd h
zip_to R (x ∷ xs) (z ∷ zs) zero y h e = (z, refl, subst (λ w. R w z) (same_Some x y e) h.0)
zip_to R (x ∷ xs) (z ∷ zs) (suc k) y h e = zip_to R xs zs k y h.1 e

-- ---- scripts under two valuations

map_agree : (a b : Valuation) (ts : List TermId) → ((t : TermId) → Contains ts t → a t ≡ b t) → map a ts ≡ map b ts
map_agree a b [] h = refl
map_agree a b (t ∷ ts) h =
    ap (λ (n : ℕ). n ∷ map a ts) (h t (contains_head t ts)) ∙ ap (λ (l : List ℕ). b t ∷ l) (map_agree a b ts (λ u c. h u (contains_tail t u ts c)))

by_made : (v : Valuation) (s : SsaStep) (ss : List SsaStep) (m : Bool)
    → map v (inputs_in (cond m (s ∷ made_of v ss) (made_of v ss))) ≡ cond m (map v (input_of s.act)) [] ++ script_of v ss
by_made v s ss true = map-append v (input_of s.act) (inputs_in (made_of v ss))
by_made v s ss false = refl

same_script : (a b : Valuation) (ss : List SsaStep) → ((k : ℕ) (s : SsaStep) → slice_get ss k ≡ Some s → a s.guard ≡ b s.guard)
    → ((t : TermId) → Contains (inputs_in ss) t → a t ≡ b t) → script_of a ss ≡ script_of b ss
same_script a b [] g h = refl
same_script a b (s ∷ ss) g h =
    by_made a s ss (is_made a s)
    ∙ (ap (λ (n : ℕ). cond (is_true n) (map a (input_of s.act)) [] ++ script_of a ss) (g 0 s refl)
    ∙ (ap (λ (l : List ℕ). cond (is_made b s) l [] ++ script_of a ss) (map_agree a b (input_of s.act) (λ t c. h t (Contains-append_left (input_of s.act) (inputs_in ss) t c)))
    ∙ (ap (λ (l : List ℕ). cond (is_made b s) (map b (input_of s.act)) [] ++ l)
    (same_script a b ss (λ k u e. g (suc k) u e) (λ t c. h t (Contains-append_right (input_of s.act) (inputs_in ss) t c)))
    ∙ sym (by_made b s ss (is_made b s)))))

-- ---- threads that parts play

-- the thread that a part is to play
pub record Asked (ts : List ThreadPart) (v : Valuation) (part : SsaPart) : Type 0 where
  pub place : ℕ
  pub thread : ThreadPart
  pub there : slice_get ts place ≡ Some thread
  pub handle : thread.handle ≡ v part.handle
  pub function : thread.function ≡ part.function
  pub arg : thread.arg ≡ v part.arg

-- the part takes its script
pub record Played (ts : List ThreadPart) (v : Valuation) (part : SsaPart) : Type 0 where
  pub asked : Asked ts v part
  pub script : script_of v part.steps ≡ asked.thread.script

-- terms of the same value, by their place
agreed : (f : Ssa) (a b : ℕ → ℕ) (ts : List TermId) (k : ℕ) (t : TermId) → Agree f a b ts → slice_get ts k ≡ Some t → under a f t ≡ under b f t
agreed f a b ts k t h e = all_at (λ (t : TermId). under a f t ≡ under b f t) ts k t h e

begins_at : (f : Ssa) (a b : ℕ → ℕ) (q : SsaPart) (k : ℕ) (t : TermId) → Agree f a b (q.start ∷ q.handle ∷ q.arg ∷ []) → slice_get (q.start ∷ q.handle ∷ q.arg ∷ []) k ≡ Some t → under a f t ≡ under b f t
begins_at f a b q k t h e = agreed f a b (q.start ∷ q.handle ∷ q.arg ∷ []) k t h e

module _ (p : Checked) (flat : Flat) (f : Ssa) (checked : IsChecked p) (un : IsUnrolled p flat) (form : IsSsaOf flat f) (lows : StartedHandlesAreLow)
    (takes : ScriptsCanBeTaken) (stay : EarlierPartsStay) (ts : List ThreadPart) (rs : List Run) (whole : AllZip (RunsTo (thread_run p)) ts rs)
    (short : All (λ (t : ThreadPart). All (λ v. v < 2 ^ 32) t.script) ts) where
  -- the first n parts whose threads are created play threads
  abbrev pub FirstPlay : ℕ → (ℕ → ℕ) → Type 0
  FirstPlay n inputs = (i : ℕ) (part : SsaPart) → i < n → IsRunning f (under inputs f) i part → Played ts (under inputs f) part

  -- inputs for the first n parts
  pub record InputsFor (n : ℕ) : Type 0 where
    pub inputs : ℕ → ℕ
    pub words : AreWords inputs
    pub play : FirstPlay n inputs

  given : (n : ℕ) (inputs : ℕ → ℕ) (part : SsaPart) → AreWords inputs → IsRunning f (under inputs f) n part → (a : Asked ts (under inputs f) part) → Choice f part a.thread.script inputs
  given n inputs part words r a =
      let v = under inputs f in
      let of = instance_of flat f n part form r.there in
      let few = (running_parts_are_started lows p flat f inputs n part checked un form words r).few in
      let run = zip_to (RunsTo (thread_run p)) ts rs a.place a.thread whole a.there in
      let as_thread = all_at (RunsAsThread p flat.instances) flat.instances n of.instance un.runs of.there in
      let script = a.thread.script in
      let same : thread_run p of.instance.function (v part.handle) (v part.arg) script ≡ Some run.0 =
      ap (λ (z : ℕ). thread_run p z (v part.handle) (v part.arg) script) (sym of.is_part.same_function ∙ sym a.function)
      ∙ (ap (λ (z : ℕ). thread_run p a.thread.function z (v part.arg) script) (sym a.handle)
      ∙ (ap (λ (z : ℕ). thread_run p a.thread.function a.thread.handle z script) (sym a.arg) ∙ run.2.0)) in
      let fr = from_option_map run_seen (flat_run flat.instances of.instance (v part.arg) (v part.handle) script) run.0 (as_thread (v part.arg) (v part.handle) script few ∙ same) in
      takes flat f n of.instance part inputs script fr.0 form of.there r.there words r.starts (all_at (λ (t : ThreadPart). All (λ v. v < 2 ^ 32) t.script) ts a.place a.thread short a.there) fr.1
      (ap (λ (z : Run). z.used) fr.2 ∙ run.2.1)

  -- what a part plays it plays under other inputs too, under which it does the same
  pub moved : (a b : ℕ → ℕ) (q : SsaPart) → DoesTheSame f q a b → Played ts (under a f) q → Played ts (under b f) q
  moved a b q d h = record {
    asked = record {
      place = h.asked.place;
      thread = h.asked.thread;
      there = h.asked.there;
      handle = h.asked.handle ∙ begins_at f a b q 1 q.handle d.begins refl;
      function = h.asked.function;
      arg = h.asked.arg ∙ begins_at f a b q 2 q.arg d.begins refl;
    };
    script = sym (same_script (under a f) (under b f) q.steps
        (λ k s e. agreed f a b (settled_terms s) 0 s.guard (all_at (λ (s : SsaStep). Agree f a b (settled_terms s)) q.steps k s d.steps e) refl)
        (λ t c. All-contains (λ (t : TermId). under a f t ≡ under b f t) (inputs_in q.steps) t d.inputs c)) ∙ h.script;
  }

  step_running : (n : ℕ) (part : SsaPart) (o : InputsFor n) (r : IsRunning f (under o.inputs f) n part) → Asked ts (under o.inputs f) part → InputsFor (suc n)
  step_running n part o r a =
      let c = given n o.inputs part o.words r a in
      let s = stay flat f n part o.inputs c.chosen form r.there o.words c.words c.differs in
      let own : Played ts (under c.chosen f) part = record {
        asked = record {
          place = a.place;
          thread = a.thread;
          there = a.there;
          handle = a.handle ∙ begins_at f o.inputs c.chosen part 1 part.handle s.0 refl;
          function = a.function;
          arg = a.arg ∙ begins_at f o.inputs c.chosen part 2 part.arg s.0 refl;
        };
        script = c.takes;
      } in
      record {
        inputs = c.chosen;
        words = c.words;
        play = λ i q l u. ⊎_elim
            (λ e. let one : part ≡ q = one_answer (slice_get f.parts n) part q r.there (ap (slice_get f.parts) (sym e) ∙ u.there) in subst (λ (z : SsaPart). Played ts (under c.chosen f) z) one own)
            (λ d. let low : i < n = omega (arith, l, d) in
            let same = s.1 i q low u.there in
            moved o.inputs c.chosen q same (o.play i q low (record { there = u.there; starts = begins_at f o.inputs c.chosen q 0 q.start same.begins refl ∙ u.starts })))
            (cases_eq i n);
      }

  step_asleep : (n : ℕ) (o : InputsFor n) → ((part : SsaPart) → IsRunning f (under o.inputs f) n part → ⊥) → InputsFor (suc n)
  step_asleep n o never = record {
    inputs = o.inputs;
    words = o.words;
    play = λ i q l u. ⊎_elim
        (λ e. absurd (never q (record { there = ap (slice_get f.parts) (sym e) ∙ u.there; starts = u.starts })))
        (λ d. o.play i q (omega (arith, l, d)) u)
        (cases_eq i n);
  }

  module _ (asks : (n : ℕ) (inputs : ℕ → ℕ) (part : SsaPart) → AreWords inputs → FirstPlay n inputs → IsRunning f (under inputs f) n part → Asked ts (under inputs f) part) where
    next : (n : ℕ) (o : InputsFor n) (h : Option SsaPart) → slice_get f.parts n ≡ h → InputsFor (suc n)
    next n o None e = step_asleep n o (λ q u. not_none (slice_get f.parts n) q e u.there)
    next n o (Some part) e =
        ⊎_elim
        (λ one. let r : IsRunning f (under o.inputs f) n part = record { there = e; starts = one } in step_running n part o r (asks n o.inputs part o.words o.play r))
        (λ other. step_asleep n o (λ q u. other (ap (λ (z : SsaPart). under o.inputs f z.start) (one_answer (slice_get f.parts n) part q e u.there) ∙ u.starts)))
        (cases_eq (under o.inputs f part.start) 1)

    inputs_for : (n : ℕ) → InputsFor n
    inputs_for zero = record { inputs = λ n. 0; words = λ n. omega arith; play = λ i q l u. absurd (omega (arith, l)) }
    inputs_for (suc n) = let o = inputs_for n in next n o (slice_get f.parts n) refl

    -- inputs under which each part whose thread is created plays a thread
    pub record AllPlay : Type 0 where
      pub inputs : ℕ → ℕ
      pub words : AreWords inputs
      pub play : (i : ℕ) (part : SsaPart) → IsRunning f (under inputs f) i part → Played ts (under inputs f) part

    pub all_play : AllPlay
    all_play =
        let o = inputs_for (length f.parts) in
        record { inputs = o.inputs; words = o.words; play = λ i q u. o.play i q (slice_get_within f.parts i q u.there) u }
