-- A run that is cut outside of sections can be ended by its thread alone.
use Rattle.std.proofs.Common.{◌≡◌, ℕ, ◌+◌, ◌<◌, List, [], ◌∷◌, ◌++◌, Option, Some, Bool, true, false, length, take, refl, sym, ap, ◌∙◌, subst, append-nil, inl, inr, ⊎_elim, length-append, add-zero, arith}
use Rattle.std.specs.Prelude.{cond, nat_eq, All, slice_get}
use Rattle.axiom_model.specs.declared.Action.{Action}
use Rattle.axiom_model.specs.declared.Action.TheVariants as action
use Rattle.axiom_model.specs.Failing.{Run}
use Rattle.c_tree.specs.declared.program.Function.{Function}
use Rattle.c_check.specs.declared.checked.Checked.{Checked}
use Rattle.c_check.specs.WellFormed.{IsChecked}
use Rattle.dg_base.proofs.Lists.{get_there}
use Rattle.std.specs.List.{AllByRecursion}
use Rattle.std.proofs.lemmas.List.{drop_at}
use Rattle.std.proofs.lemmas.List.Elements.{recursion_from_All, All-drop}
use Rattle.std.proofs.lemmas.Bool.{false≢true}
use Rattle.run_model.specs.declared.state.Ending.TheVariants.{Failed}
use Rattle.run_model.specs.declared.state.Ending.{Ending}
use Rattle.run_model.specs.declared.state.Halt.TheVariants.{Over, Short}
use Rattle.run_model.specs.declared.state.Slot.TheVariants.{Own}
use Rattle.run_model.specs.Steps.{State, Outcome, Goes, Halts, make}
use Rattle.run_model.specs.Calls.{Setting, finish, function_in}
use Rattle.run_model.specs.Programs.{setting_of}
use Rattle.run_model.specs.Threads.{ShortRun, run_body, context_within, thread_steps, thread_outcome, outcome_of, run_in, run_with, short_in, thread_run, short_run, begins}
use Rattle.run_laws.specs.Leaves.{in_functions}
use Rattle.run_laws.specs.Words.{IsWord, IsOfWords, HasWordConstants}
use Rattle.run_laws.proofs.WordRuns.{started_short_run_words}
use Rattle.run_model.proofs.Handles.{state_in}
use Rattle.run_model.proofs.KeptMeaning.{kept_no_other}
use Rattle.run_model.proofs.KeptThread.{kept_thread}
use Rattle.run_model.proofs.Scripts.{Took, Reads, IsReader, reader_keeps, with_script}
use Rattle.full_bound.specs.Lone.{Memory, written, memory_behind, is_opened}
use Rattle.full_bound.specs.Alone.{EndsAlone, CanEnd, IsThread}
use Rattle.run_laws.proofs.Joint.{one, anything, no_values, no_values_closed, nothing_known, Relation, Relates}
use Rattle.run_laws.proofs.JointBodies.{thread_body_meets}
use Rattle.run_laws.proofs.Told.{twice, Ran, ran}
use Rattle.full_bound.proofs.Cuts.{with_rest, IsFine, Done, Stuck, Alone, Ends}
use Rattle.full_bound.proofs.CutSteps.{ends_then}
use Rattle.full_bound.proofs.CutParts.{ends_pure, ends_end, ends_stop, ends_spend, ends_locals, ends_make, ends_any, ends_bool, ends_read, ends_write, ends_choice, ends_slot, ends_unlock, ends_finish_section, ends_begin, ends_lock, ends_finish, ends_exit, ends_join, ends_create}

abbrev Endings : Relation
Endings A Q m n = Ends A Q m

ending_relates : (p : Checked) (handle : ℕ) → Relates (twice p handle) no_values Endings
ending_relates p handle = record {
  of_pure = ends_pure;
  of_then = λ A B P Q m n f h p i. ends_then A B P Q m f p i;
  of_choice = λ A T Q c f h p. ends_choice A T Q c f (λ ls. p ls tt);
  of_locals = λ c h. ends_locals c;
  of_fail = λ A Q p. ends_end A Q (Failed p) refl;
  of_stop = ends_stop;
  of_any = ends_any;
  of_bool = ends_bool;
  of_slot = ends_slot (twice p handle).shared;
  of_read = λ c h. ends_read c;
  of_write = λ c x h i. ends_write c x;
  of_own = λ i j x h. ends_write (Own i j) x;
  of_lock = λ c h. ends_lock c;
  of_unlock = λ c h. ends_unlock c;
  of_begin = ends_begin;
  of_end = ends_finish_section;
  of_exit = ends_exit;
  of_create = λ c n x h i. ends_create (one (twice p handle)) c (function_in (one (twice p handle)) n) x;
  of_join = λ h i. ends_join h;
  of_fence = ends_make action.Fence tt;
  of_spend = λ w. ends_spend (one (twice p handle)) w _;
  of_turns = inl refl;
}

module _ (p : Checked) (f handle arg : ℕ) where
  abbrev g : Setting
  g = setting_of p handle

  pub thread_ends : (h : Function) → slice_get g.functions f ≡ Some h → Ends ⊥ anything (thread_steps g h arg)
  thread_ends h is =
      ends_then (Unit {0}) ⊥ anything anything (make action.Start) (λ _. _) (ends_make action.Start tt) (λ _ _.
      ends_then ℕ ⊥ anything anything (run_body (context_within (length g.functions) g) h (arg ∷ [])) (λ _. finish)
      (thread_body_meets (twice p handle) no_values no_values_closed Endings (ending_relates p handle) (nothing_known (in_functions g.functions)) (length g.functions) f h is arg tt) (λ _ _. ends_finish ⊥ anything))

  -- what is known of a thread
  module _ (d : ℕ) (checked : IsChecked p) (constants : HasWordConstants p) (it : IsThread p d f handle arg) where
    word_behind : (mem : Memory) (xs : List Action) → ((c : ℕ) → IsWord (mem c)) → AllByRecursion IsOfWords xs → (c : ℕ) → IsWord (memory_behind mem xs c)
    word_behind mem [] m h c = m c
    word_behind mem (action.Write a v ∷ xs) m h c = word_behind (written mem a v) xs (λ b. written_word a v b h.0) h.1 c where
      chosen : (z : Bool) (v w : ℕ) → IsWord v → IsWord w → IsWord (cond z v w)
      chosen true v w p q = p
      chosen false v w p q = q

      written_word : (a v b : ℕ) → IsWord v → IsWord (written mem a v b)
      written_word a v b w = chosen (nat_eq b a) v (mem b) w (m b)
    word_behind mem (action.Read a v ∷ xs) m h c = word_behind mem xs m h.1 c
    word_behind mem (action.Open ∷ xs) m h c = word_behind mem xs m h.1 c
    word_behind mem (action.Close ∷ xs) m h c = word_behind mem xs m h.1 c
    word_behind mem (action.Fence ∷ xs) m h c = word_behind mem xs m h.1 c
    word_behind mem (action.Create i f v ∷ xs) m h c = word_behind mem xs m h.1 c
    word_behind mem (action.Join i ∷ xs) m h c = word_behind mem xs m h.1 c
    word_behind mem (action.Start ∷ xs) m h c = word_behind mem xs m h.1 c
    word_behind mem (action.End ∷ xs) m h c = word_behind mem xs m h.1 c

    module _ (h : Function) (is : slice_get g.functions f ≡ Some h) (old : List ℕ) (acts : List Action) (mem : Memory) (m : (c : ℕ) → IsWord (mem c)) where
      outcome_at : (script : List ℕ) → thread_outcome p f handle arg script ≡ Some (thread_steps g h arg (begins script))
      outcome_at script = ap (λ (o : Option Function). outcome_of g o arg script) is

      -- what a run that is over has used
      uses_all : (script : List ℕ) (e : Ending) (t : State) → thread_steps g h arg (begins script) ≡ Halts (Over e) t → t.script ≡ [] → t.used ≡ length script
      uses_all script e t runs spent =
          let read = kept_thread handle IsReader (reader_keeps handle) g refl (kept_no_other handle IsReader (reader_keeps handle) g refl) (length g.functions) h arg (begins script) in
          let took : Took ⊥ (thread_steps g h arg) (begins script) (Halts (Over e)) t = subst (λ (o : Outcome ⊥). Reads ⊥ (thread_steps g h arg) (begins script) o) runs read in
          let whole : length script ≡ length took.taken = ap length took.first ∙ length-append took.taken t.script ∙ ap (λ (ys : List ℕ). length took.taken + length ys) spent ∙ add-zero (length took.taken) in
          omega (arith, took.count, whole)

      over_ends : (out : Outcome ⊥) (x : Done ⊥ (thread_steps g h arg) (begins old) acts mem) → x.out ≡ out → EndsAlone p f handle arg acts mem
      over_ends (Goes a t) x e = absurd a
      over_ends (Halts (Short n) t) x e = absurd (subst (λ (o : Outcome ⊥). IsFine o) e x.fine)
      over_ends (Halts (Over ending) t) x e =
          let steps : thread_steps g h arg (begins x.script) ≡ Halts (Over ending) (with_script t []) =
          ap (λ ys. thread_steps g h arg (begins ys)) (sym (append-nil x.script)) ∙ x.runs [] ∙ ap (λ (o : Outcome ⊥). with_rest o []) e in
          record {
            script = x.script;
            words = x.words;
            run = run_with t.actions ending t.used;
            runs = ap (λ (o : Option (Outcome ⊥)). run_in o) (outcome_at x.script ∙ ap (λ (o : Outcome ⊥). Some o) steps);
            all_used = uses_all x.script ending (with_script t []) steps refl;
            not_bad = subst (λ (o : Outcome ⊥). IsFine o) e x.fine;
            made = x.made;
            actions = sym (ap (λ (o : Outcome ⊥). (state_in o).actions) e) ∙ x.actions;
            lone = x.lone;
          }

      never_stuck : Stuck ⊥ (thread_steps g h arg) (begins old) acts mem → ⊥
      never_stuck x =
          let told : ShortRun = record { actions = x.state.actions; used = x.state.used; needs = x.need } in
          let short : short_run p f handle arg x.script ≡ Some told = ap (λ (o : Option (Outcome ⊥)). short_in o) (outcome_at x.script ∙ ap (λ (o : Outcome ⊥). Some o) x.runs) in
          let words : All IsOfWords x.state.actions = started_short_run_words p checked constants d f handle arg x.script it.started it.low it.word x.words told short in
          let made : AllByRecursion IsOfWords x.made = recursion_from_All IsOfWords x.made (all_behind acts x.made (subst (All IsOfWords) x.actions words)) in
          x.no_word (word_behind mem x.made m made x.cell) where
            all_behind : (xs ys : List Action) → All IsOfWords (xs ++ ys) → All IsOfWords ys
            all_behind xs ys w = subst (All IsOfWords) (drop_at xs ys (length xs) refl) (All-drop IsOfWords (length xs) (xs ++ ys) w)

      ends_alone : Alone ⊥ (thread_steps g h arg) (begins old) acts mem → EndsAlone p f handle arg acts mem
      ends_alone (inl x) = over_ends x.out x refl
      ends_alone (inr x) = absurd (never_stuck x)

    pub thread_can_end : CanEnd p f handle arg []
    thread_can_end mem m =
        let there = get_there g.functions f it.known in
        ends_alone there.0 there.1 [] [] mem m ((thread_ends there.0 there.1).alone (begins []) mem refl)

    pub cut_run_can_end : (script : List ℕ) (r : Run) → All IsWord script → thread_run p f handle arg script ≡ Some r → (n : ℕ) → n < length r.actions → is_opened false (take n r.actions) ≡ false → CanEnd p f handle arg (take n r.actions)
    cut_run_can_end script r w e n low closed mem m =
        let x : Ran p f handle arg script r = ran p f handle arg script r e in
        let steps : Outcome ⊥ = thread_steps g x.function arg (begins script) in
        let same : (state_in steps).actions ≡ r.actions = ap (λ (o : Outcome ⊥). (state_in o).actions) x.goes ∙ ap (λ (r : Run). r.actions) x.run in
        let cut : n < length (state_in steps).actions → is_opened false (take n (state_in steps).actions) ≡ false → EndsAlone p f handle arg (take n (state_in steps).actions) mem =
        λ low closed. ⊎_elim (λ o. absurd (false≢true (sym closed ∙ o))) (λ alone. ends_alone x.function x.is script (take n (state_in steps).actions) mem m alone)
        ((thread_ends x.function x.is).cuts (begins script) (inl refl) w n (omega arith) low mem) in
        subst (λ (acts : List Action). n < length acts → is_opened false (take n acts) ≡ false → EndsAlone p f handle arg (take n acts) mem) same cut low closed
