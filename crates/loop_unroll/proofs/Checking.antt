-- What is emitted of a checked program runs as its threads do.
use Rattle.std.proofs.Common.{◌≡◌, ℕ, ◌+◌, ◌<◌, ◌^◌, List, [], ◌∷◌, ◌++◌, length, Option, Some, None, refl, sym, ap, ◌∙◌, subst}
use Rattle.std.proofs.lemmas.Option.{slice_get_within}
use Rattle.std.specs.Prelude.{slice_get, All}
use Rattle.c_tree.specs.declared.program.Function.{Function}
use Rattle.c_rules.specs.Names.{functions_of}
use Rattle.c_rules.specs.Walk.{top_scope}
use Rattle.c_check.specs.declared.checked.Checked.{Checked}
use Rattle.c_check.specs.Sections.{begin_name, end_name, unmatched_in_function, unmatched_in}
use Rattle.c_check.specs.WellFormed.{IsChecked}
use Rattle.run_model.specs.Calls.{Setting}
use Rattle.run_model.specs.Programs.{setting_of}
use Rattle.run_laws.proofs.Unmarked.{all_free, not_named}
use Rattle.flat_prog.specs.declared.Instance.{Instance}
use Rattle.loop_unroll.specs.Whole.{AreQueued, AreInstances}
use Rattle.loop_unroll.specs.Unrolled.{RunsAsThread}
use Rattle.emit_steps.proofs.Growth.{Each}
use Rattle.emit_steps.proofs.Marks.{both_none}
use Rattle.loop_unroll.proofs.AddingFunctions.{NoMarks}
use Rattle.loop_unroll.proofs.Threading.{each_all, instances_run}

-- no function of a checked program is named as a begin or an end of a section
pub checked_marks : (p : Checked) → IsChecked p → NoMarks (setting_of p 0)
checked_marks p checked = record {
  begins = not_named begin_name refl (functions_of p.program.items) 0 (all_free p.program.items top_scope checked.well_formed.once);
  ends = not_named end_name refl (functions_of p.program.items) 0 (all_free p.program.items top_scope checked.well_formed.once);
}

each_matched : (fs : List Function) → unmatched_in fs ≡ None → Each (λ f. unmatched_in_function f ≡ None) fs
each_matched [] h = tt
each_matched (f ∷ fs) h = ((both_none (unmatched_in_function f) (unmatched_in fs) h).0, each_matched fs (both_none (unmatched_in_function f) (unmatched_in fs) h).1)

-- and in each of its functions sections stand as they should
pub checked_sections : (p : Checked) → IsChecked p → Each (λ f. unmatched_in_function f ≡ None) (setting_of p 0).functions
checked_sections p checked = each_matched (functions_of p.program.items) checked.well_formed.sections

-- what is emitted of the functions that wait runs as the threads do
pub checked_run : (p : Checked) → IsChecked p → (main : ℕ) (is : List Instance) → AreInstances (setting_of p 0) main is → length is < 2 ^ 24 → All (RunsAsThread p is) is
checked_run p checked main is queued small = instances_run p (checked_marks p checked) (checked_sections p checked) main is queued small

-- ---- the functions of instances

-- the first instance is main's
pub first_is_main : (s : Setting) (main : ℕ) (is : List Instance) → AreInstances s main is → (i : Instance) → slice_get is 0 ≡ Some i → i.function ≡ main
first_is_main s main [] q i e = absurd q
first_is_main s main (j ∷ is) q i e = let same : j ≡ i = (let is : ◌≡◌ {A = Option Instance} (Some j) (Some i) = e in cc) in ap (λ (x : Instance). x.function) (sym same ∙ q.2)

each_there : (s : Setting) (n : ℕ) (fs : List ℕ) (is : List Instance) → AreQueued s n fs is → Each (λ (i : Instance). i.function < length s.functions) is
each_there s n [] [] q = tt
each_there s n [] (i ∷ is) q = absurd q
each_there s n (f ∷ fs) [] q = absurd q
each_there s n (f ∷ fs) (i ∷ is) q = (
  subst (λ (x : Instance). x.function < length s.functions) (sym q.2) (slice_get_within s.functions f q.1.0 q.1.1),
  each_there s (n + length q.0.created) (fs ++ q.0.created) is q.3,
)

-- each has one of the program's functions
pub functions_there : (s : Setting) (main : ℕ) (is : List Instance) → AreInstances s main is → All (λ (i : Instance). i.function < length s.functions) is
functions_there s main is q = each_all (λ (i : Instance). i.function < length s.functions) is (each_there s 1 (main ∷ []) is q)
