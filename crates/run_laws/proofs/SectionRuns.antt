-- Open and Close stand in turn in each run of a checked program.
use Rattle.std.proofs.Common.{◌≡◌, ℕ, List, [], ◌∷◌, Some, None, false, length, refl, subst}
use Rattle.std.specs.Prelude.{slice_get}
use Rattle.axiom_model.specs.declared.Action.TheVariants.{Start}
use Rattle.axiom_model.specs.Failing.{Run}
use Rattle.c_tree.specs.declared.program.Function.{Function}
use Rattle.c_rules.specs.Walk.{top_scope}
use Rattle.c_check.specs.declared.checked.Checked.{Checked}
use Rattle.c_check.specs.WellFormed.{IsChecked}
use Rattle.c_check.specs.Sections.{begin_name, end_name}
use Rattle.run_model.specs.Steps.{Outcome, make}
use Rattle.run_model.specs.Calls.{Setting, finish, function_named}
use Rattle.run_model.specs.Programs.{setting_of}
use Rattle.run_model.specs.Threads.{ShortRun, run_body, context_within, thread_steps, thread_run, short_run, begins}
use Rattle.run_laws.specs.Sections.{HasSections}
use Rattle.run_laws.proofs.Joint.{one, anything}
use Rattle.run_laws.proofs.Told.{twice, Ran, RanShort, ran, ran_short}
use Rattle.run_laws.proofs.Unmarked.{all_free, not_named}
use Rattle.run_laws.proofs.Levels.{IsAt, at, Comes, Leads, leads_and, leads_make, leads_finish}
use Rattle.run_laws.proofs.LevelBodies.{thread_body_level}

module _ (p : Checked) (f handle arg : ℕ) (script : List ℕ) (checked : IsChecked p) where
  abbrev g : Setting
  g = setting_of p handle

  no_begins : function_named (one (twice p handle)) begin_name ≡ None
  no_begins = not_named begin_name refl g.functions 0 (all_free p.program.items top_scope checked.well_formed.once)

  no_ends : function_named (one (twice p handle)) end_name ≡ None
  no_ends = not_named end_name refl g.functions 0 (all_free p.program.items top_scope checked.well_formed.once)

  thread_leads : (h : Function) → slice_get g.functions f ≡ Some h → Leads (at 0) (at 0) ⊥ anything (thread_steps g h arg)
  thread_leads h is =
      leads_and (at 0) (at 0) (at 0) anything anything (make Start) _ (leads_make (at 0) Start tt)
      (leads_and (at 0) (at 0) (at 0) anything anything (run_body (context_within (length g.functions) g) h (arg ∷ [])) finish
      (thread_body_level p handle no_begins no_ends checked.well_formed.sections (length g.functions) f h is (arg ∷ []) 0) (leads_finish (at 0) ⊥ anything))

  begun : IsAt (at 0) (begins script)
  begun = record { depth = refl; marks = refl }

  thread_comes : (h : Function) → slice_get g.functions f ≡ Some h → Comes {A = ⊥} (at 0) anything (thread_steps g h arg (begins script))
  thread_comes h is = thread_leads h is (begins script) begun

  pub run_sections : (r : Run) → thread_run p f handle arg script ≡ Some r → HasSections r.actions r.ended
  run_sections r e =
      let it : Ran p f handle arg script r = ran p f handle arg script r e in
      subst (λ (r : Run). HasSections r.actions r.ended) it.run (subst (λ (o : Outcome ⊥). Comes (at 0) anything o) it.goes (thread_comes it.function it.is))

  pub short_run_sections : (s : ShortRun) → short_run p f handle arg script ≡ Some s → HasSections s.actions false
  short_run_sections s e =
      let it : RanShort p f handle arg script s = ran_short p f handle arg script s e in
      subst (λ (s : ShortRun). HasSections s.actions false) it.run (subst (λ (o : Outcome ⊥). Comes (at 0) anything o) it.goes (thread_comes it.function it.is))
