-- The run for a bound on loops is the run for a higher one, or spent its bound before.
use Rattle.std.proofs.Common.{◌≡◌, ℕ, ◌+◌, ◌*◌, ◌≤◌, List, [], ◌∷◌, Option, Some, None, Bool, true, false, refl, sym, subst, append_assoc, ⊎_elim, inl, inr, arith}
use Rattle.std.specs.Prelude.{cond, nat_eq, length, slice_get}
use Rattle.std.proofs.lemmas.Option.{same_Some}
use Rattle.dg_base.specs.declared.Place.{Place}
use Rattle.axiom_model.specs.declared.Action.TheVariants as action
use Rattle.c_tree.specs.declared.program.Function.{Function}
use Rattle.c_tree.specs.declared.program.Program.{Program}
use Rattle.c_rules.specs.Names.{functions_of}
use Rattle.c_check.specs.declared.checked.Checked.{Checked}
use Rattle.run_model.specs.declared.state.Ending.{Ending}
use Rattle.run_model.specs.declared.state.Ending.TheVariants.{Stopped, Bound, Bad}
use Rattle.run_model.specs.declared.state.Flow.{Flow}
use Rattle.run_model.specs.declared.state.Halt.TheVariants.{Over, Short}
use Rattle.run_model.specs.declared.state.Need.{Need}
use Rattle.run_model.specs.declared.state.Need.TheVariants.{Any}
use Rattle.run_model.specs.declared.state.Slot.{Slot}
use Rattle.run_model.specs.declared.state.Slot.TheVariants.{Own, Common}
use Rattle.run_model.specs.Steps.{State, Outcome, Goes, Halts, Step, go_on, pure, make, take_from, take_number, begin_section, end_section, stop, fail}
use Rattle.run_model.specs.Cells.{read, write, slot}
use Rattle.run_model.specs.Calls.{Setting, no_other, spend, finish, lock_cell, unlock_cell, exit_thread, any_bool, create, join, function_in}
use Rattle.run_model.specs.Programs.{shared_of}
use Rattle.run_model.specs.Threads.{run_body, context_within, thread_steps, thread_outcome, outcome_of, begins}
use Rattle.run_model.proofs.Kept.{Keeps, kept_stop, kept_fail, kept_begin, kept_finish_section, kept_read, kept_write, kept_slot, kept_lock, kept_unlock, kept_exit, kept_bool, kept_join, kept_finish}
use Rattle.run_laws.specs.Short.{IsBehind, actions_in}
use Rattle.run_laws.specs.Turns.{IsSpent, used_in, SpentBefore, Beside}
use Rattle.run_laws.specs.Leaves.{in_functions}
use Rattle.run_laws.proofs.Joint.{Two, one, two, anything, Leaves, no_values, no_values_closed, nothing_known, Ok, ok_any, Relation, Passes, Relates}
use Rattle.run_laws.proofs.JointBodies.{thread_body_meets}
use Rattle.run_laws.proofs.Resuming.{behind_both, behind_same}

-- ---- steps only add

-- actions and used numbers grow from a state to an outcome
abbrev Grown : {A : Type 0} → State → Outcome A → Type 0
Grown s o = IsBehind s.actions (actions_in o) × (s.used ≤ used_in o)

abbrev Growing : (A : Type 0) → Step A → Type 0
Growing A m = (s : State) → Grown s (m s)

grown_both : {A : Type 0} (s t : State) (o : Outcome A) → IsBehind s.actions t.actions → s.used ≤ t.used → Grown t o → Grown s o
grown_both s t o b u h = (behind_both s.actions t.actions (actions_in o) b h.0, omega (arith, u, h.1))

grown_on : (A B : Type 0) (f : A → Step B) (s : State) → ((a : A) → Growing B (f a)) → (o : Outcome A) → Grown s o → Grown s (go_on o f)
grown_on A B f s h (Goes a t) one = grown_both s t (f a t) one.0 one.1 (h a t)
grown_on A B f s h (Halts e t) one = one

taking_grown : (n : Need) (s : State) (xs : List ℕ) → Grown s (take_from n xs s)
taking_grown n s [] = (behind_same s.actions, omega arith)
taking_grown n s (x ∷ xs) = (behind_same s.actions, omega arith)

create_grown : (g : Setting) (c : Slot) (f x : ℕ) → Growing ℕ (create g c f x)
create_grown g (Own i j) f x s = ((action.Create (64 * g.handle + s.created + 1) f x ∷ [], refl), omega arith)
create_grown g (Common c) f x s = ((action.Write c (64 * g.handle + s.created + 1) ∷ action.Create (64 * g.handle + s.created + 1) f x ∷ [], append_assoc s.actions _ _), omega arith)

growing_keeps : (own : ℕ) → Keeps own Growing
growing_keeps own = record {
  of_pure = λ A a s. (behind_same s.actions, omega arith);
  of_then = λ A B m f p h s. grown_on A B f s h (m s) (p s);
  of_choice = λ A T g f h s. h (g s.locals s.created s.depth) s;
  of_end = λ A e s. (behind_same s.actions, omega arith);
  of_taking = λ n s. taking_grown n s s.script;
  of_locals = λ f s. (behind_same s.actions, omega arith);
  of_depth = λ f s. (behind_same s.actions, omega arith);
  of_action = λ a plain s. ((a ∷ [], refl), omega arith);
  of_create = λ g e v f x. create_grown g v f x;
}

-- ---- two steps side by side

module _ (full : Bool) where
  record Side (A : Type 0) (Q : A → Type 0) (s : State) (o more : Outcome A) : Type 0 where
    pub grown : Grown s more
    pub beside : Beside full o more
    pub ok : Ok Q more

  abbrev Sides : Relation
  Sides A Q m n = (s : State) → Side A Q s (m s) (n s)

  module _ (A B : Type 0) (P : A → Type 0) (Q : B → Type 0) (f h : A → Step B) (rest : (a : A) → P a → Sides B Q (f a) (h a)) (s : State) where
    same_side : (o : Outcome A) → Grown s o → Ok P o → Side B Q s (go_on o f) (go_on o h)
    same_side (Goes a t) grown ok =
        let then_side = rest a ok t in
        record { grown = grown_both s t (h a t) grown.0 grown.1 then_side.grown; beside = then_side.beside; ok = then_side.ok }
    same_side (Halts e t) grown ok = record { grown = grown; beside = inl refl; ok = tt }

    -- what the right side goes on with only adds
    spent_side : (e : Ending) (t : State) (more : Outcome A) → Grown s more → Ok P more → IsSpent full e → IsBehind t.actions (actions_in more) → t.used ≤ used_in more → Side B Q s (Halts (Over e) t) (go_on more h)
    spent_side e t (Goes a u) grown ok spent behind used =
        let then_side = rest a ok u in
        record {
          grown = grown_both s u (h a u) grown.0 grown.1 then_side.grown;
          beside = inr (spent, behind_both t.actions u.actions (actions_in (h a u)) behind then_side.grown.0, omega (arith, used, then_side.grown.1));
          ok = then_side.ok;
        }
    spent_side e t (Halts d u) grown ok spent behind used = record { grown = grown; beside = inr (spent, behind, used); ok = tt }

    cut_side : (o more : Outcome A) → Grown s more → Ok P more → SpentBefore full o more → Side B Q s (go_on o f) (go_on more h)
    cut_side (Goes a t) more grown ok spent = absurd spent
    cut_side (Halts (Over e) t) more grown ok spent = spent_side e t more grown ok spent.0 spent.1 spent.2
    cut_side (Halts (Short n) t) more grown ok spent = absurd spent

    then_side : (o more : Outcome A) → Side A P s o more → Side B Q s (go_on o f) (go_on more h)
    then_side o more one =
        ⊎_elim (λ (e : o ≡ more). subst (λ (w : Outcome A). Side B Q s (go_on w f) (go_on more h)) (sym e) (same_side more one.grown one.ok))
        (cut_side o more one.grown one.ok) one.beside

  -- one step on both sides
  side_of : (A : Type 0) (m : Step A) → Growing A m → Sides A anything m m
  side_of A m h s = record { grown = h s; beside = inl refl; ok = ok_any (m s) }

  module _ (A : Type 0) (Q : A → Type 0) where
    quiet_side : (m : Step A) → Growing A m → ((s : State) → Ok Q (m s)) → Sides A Q m m
    quiet_side m h ok s = record { grown = h s; beside = inl refl; ok = ok s }

spent_ending : (full : Bool) (p : Place) (b : Bool) → IsSpent full (cond full (Bound p) (cond b Stopped Bad))
spent_ending true p b = tt
spent_ending false p true = tt
spent_ending false p false = tt

module _ (p q : Checked) (handle : ℕ) (low : p.k ≤ q.k) where
  -- the program of the first, for both bounds
  abbrev g : Two
  g = record { shared = shared_of p.program.items; functions = functions_of p.program.items; handle = handle; turns = p.k; full = p.full; other_turns = q.k; other_full = q.full }

  abbrev R : Relation
  R = Sides p.full

  abbrev keeps : Keeps handle Growing
  keeps = growing_keeps handle

  passes : Passes g no_values R
  passes w m n h s =
      let right = h s in
      record { grown = right.grown; beside = inr (spent_ending p.full w (nat_eq s.depth 0), right.grown.0, right.grown.1); ok = right.ok }

  spends : (w : Place) → R Flow (Leaves no_values) (spend (one g) w) (spend (two g) w)
  spends w s = record { grown = (behind_same s.actions, omega arith); beside = inr (spent_ending p.full w (nat_eq s.depth 0), behind_same s.actions, omega arith); ok = tt }

  side_relates : Relates g no_values R
  side_relates = record {
    of_pure = λ A Q a h. quiet_side p.full A Q (pure a) (λ s. (behind_same s.actions, omega arith)) (λ s. h);
    of_then = λ A B P Q m n f h one rest s. then_side p.full A B P Q f h rest s (m s) (n s) (one s);
    of_choice = λ A T Q c f h rest s. rest s.locals tt s;
    of_locals = λ c h. side_of p.full (Unit {0}) _ (λ s. (behind_same s.actions, omega arith));
    of_fail = λ A Q w. quiet_side p.full A Q (fail w) (kept_fail handle Growing keeps A w) (λ s. tt);
    of_stop = λ A Q. quiet_side p.full A Q stop (kept_stop handle Growing keeps A) (λ s. tt);
    of_any = side_of p.full ℕ (take_number Any) (keeps.of_taking Any);
    of_bool = side_of p.full ℕ any_bool (kept_bool handle Growing keeps);
    of_slot = λ w n i. side_of p.full Slot (slot g.shared w n i) (kept_slot handle Growing keeps g.shared w n i);
    of_read = λ c h. side_of p.full ℕ (read c) (kept_read handle Growing keeps c);
    of_write = λ c x h i. side_of p.full (Unit {0}) (write c x) (kept_write handle Growing keeps c x);
    of_own = λ i j x h. side_of p.full (Unit {0}) (write (Own i j) x) (kept_write handle Growing keeps (Own i j) x);
    of_lock = λ c h. side_of p.full (Unit {0}) (lock_cell c) (kept_lock handle Growing keeps c);
    of_unlock = λ c h. side_of p.full (Unit {0}) (unlock_cell c) (kept_unlock handle Growing keeps c);
    of_begin = side_of p.full (Unit {0}) begin_section (kept_begin handle Growing keeps);
    of_end = side_of p.full (Unit {0}) end_section (kept_finish_section handle Growing keeps);
    of_exit = side_of p.full ℕ exit_thread (kept_exit handle Growing keeps ℕ);
    of_create = λ c n x h i. side_of p.full ℕ (create (one g) c (function_in (one g) n) x) (create_grown (one g) c (function_in (one g) n) x);
    of_join = λ h i. side_of p.full ℕ (join h) (kept_join handle Growing keeps h);
    of_fence = side_of p.full (Unit {0}) (make action.Fence) (keeps.of_action action.Fence tt);
    of_spend = spends;
    of_turns = inr (low, passes);
  }

  -- ---- threads

  module _ (f arg : ℕ) (script : List ℕ) where
    start_side : R (Unit {0}) anything (make action.Start) (make action.Start)
    start_side = side_of p.full (Unit {0}) (make action.Start) (keeps.of_action action.Start tt)

    finish_side : R ⊥ anything finish finish
    finish_side = side_of p.full ⊥ finish (kept_finish handle Growing keeps ⊥)

    thread_side : (h : Function) → slice_get g.functions f ≡ Some h → Side p.full ⊥ anything (begins script) (thread_steps (one g) h arg (begins script)) (thread_steps (two g) h arg (begins script))
    thread_side h is =
        let n : ℕ = length g.functions in
        let body = thread_body_meets g no_values no_values_closed R side_relates (nothing_known (in_functions g.functions)) n f h is arg tt in
        let behind = side_relates.of_then ℕ ⊥ anything anything (run_body (context_within n (one g)) h (arg ∷ [])) (run_body (context_within n (two g)) h (arg ∷ [])) (λ _. finish) (λ _. finish) body (λ _ _. finish_side) in
        side_relates.of_then (Unit {0}) ⊥ anything anything (make action.Start) (make action.Start) _ _ start_side (λ _ _. behind) (begins script)

    found_beside : (r : Option Function) → slice_get g.functions f ≡ r → (o more : Outcome ⊥) → outcome_of (one g) r arg script ≡ Some o → outcome_of (two g) r arg script ≡ Some more → Beside p.full o more
    found_beside None is o more d e = absurd (let no : ◌≡◌ {A = Option (Outcome ⊥)} None (Some o) = d in cc)
    found_beside (Some h) is o more d e =
        let left : thread_steps (one g) h arg (begins script) ≡ o = same_Some (thread_steps (one g) h arg (begins script)) o d in
        let right : thread_steps (two g) h arg (begins script) ≡ more = same_Some (thread_steps (two g) h arg (begins script)) more e in
        subst (λ (w : Outcome ⊥). Beside p.full w more) left (subst (λ (w : Outcome ⊥). Beside p.full (thread_steps (one g) h arg (begins script)) w) right (thread_side h is).beside)

    -- the outcome of the second for a program
    abbrev other_outcome : Program → Option (Outcome ⊥)
    other_outcome program =
        outcome_of (record { shared = shared_of program.items; functions = functions_of program.items; turns = q.k; full = q.full; handle = handle; other = no_other }) (slice_get (functions_of program.items) f) arg script

    pub higher_goes_on : q.program ≡ p.program → (o more : Outcome ⊥) → thread_outcome p f handle arg script ≡ Some o → thread_outcome q f handle arg script ≡ Some more → Beside p.full o more
    higher_goes_on same o more d e = found_beside (slice_get g.functions f) refl o more d (subst (λ (program : Program). other_outcome program ≡ Some more) same e)
