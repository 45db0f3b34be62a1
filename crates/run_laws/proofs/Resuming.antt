-- A run for which the script is too short goes on as the next number says.
use Rattle.std.proofs.Common.{◌≡◌, ℕ, zero, suc, ◌+◌, ◌-◌, ◌*◌, List, [], ◌∷◌, ◌++◌, Option, Some, None, Bool, true, false, refl, sym, ap, ◌∙◌, subst, append_assoc, append-nil, inl}
use Rattle.std.specs.Prelude.{cond, nat_eq, nat_lt, length, slice_get}
use Rattle.std.proofs.lemmas.Option.{same_Some}
use Rattle.dg_base.specs.declared.Place.{Place}
use Rattle.axiom_model.specs.declared.Action.{Action}
use Rattle.axiom_model.specs.declared.Action.TheVariants as action
use Rattle.c_rules.specs.Names.{Name}
use Rattle.c_tree.specs.declared.program.Function.{Function}
use Rattle.c_check.specs.declared.checked.Checked.{Checked}
use Rattle.run_model.specs.declared.state.Ending.{Ending}
use Rattle.run_model.specs.declared.state.Ending.TheVariants.{Ended, Stopped, Failed, Bad}
use Rattle.run_model.specs.declared.state.Flow.{Flow}
use Rattle.run_model.specs.declared.state.Halt.TheVariants.{Over, Short}
use Rattle.run_model.specs.declared.state.Local.{Local}
use Rattle.run_model.specs.declared.state.Need.{Need}
use Rattle.run_model.specs.declared.state.Need.TheVariants.{ReadOf, Go, Truth, Any}
use Rattle.run_model.specs.declared.state.Shared.{Shared}
use Rattle.run_model.specs.declared.state.Slot.{Slot}
use Rattle.run_model.specs.declared.state.Slot.TheVariants.{Own, Common}
use Rattle.run_model.specs.Steps.{State, Outcome, Goes, Halts, Step, go_on, ◌>>=◌, ◌>>◌, pure, nothing, change, ends, make, take_number, ask, outside, open_section, stop, fail}
use Rattle.run_model.specs.Cells.{read, write, slot, slot_in, slot_in_shared, shared_named, local_named, cells_at}
use Rattle.run_model.specs.Calls.{Setting, spend, hold, lock_cell, unlock_cell, finish, exit_thread, any_bool, create, join, function_in}
use Rattle.run_model.specs.Programs.{setting_of}
use Rattle.run_model.specs.Threads.{ShortRun, run_body, context_within, thread_steps, thread_outcome, outcome_of, short_run, begins}
use Rattle.run_model.proofs.Scripts.{with_script}
use Rattle.run_laws.specs.Short.{IsBehind, IsWaited, actions_in, EndsAs, Obeys, Chooses, Follows}
use Rattle.run_laws.specs.Leaves.{in_functions}
use Rattle.run_laws.proofs.Joint.{one, anything, no_values, no_values_closed, nothing_known, Relation, Relates}
use Rattle.run_laws.proofs.JointBodies.{thread_body_meets}
use Rattle.run_laws.proofs.Told.{twice, RanShort, ran_short}

pub behind_both : (xs ys zs : List Action) → IsBehind xs ys → IsBehind ys zs → IsBehind xs zs
behind_both xs ys zs one two = (one.0 ++ two.0, two.1 ∙ ap (λ acts. acts ++ two.0) one.1 ∙ append_assoc xs one.0 two.0)

pub behind_same : (xs : List Action) → IsBehind xs xs
behind_same xs = ([], sym (append-nil xs))

-- ---- what a step does on a script, and on a longer one

-- where it goes on or ends, on a longer script it does the same and leaves what is longer; where it needs a number, that is obeyed
abbrev More : (A : Type 0) → (A → Type 0) → Step A → State → List ℕ → Outcome A → Type 0
More A Q m s xs (Goes a t) = Q a × ((others : List ℕ) → m (with_script s (xs ++ others)) ≡ Goes a (with_script t (t.script ++ others)))
More A Q m s xs (Halts (Over e) t) = Unit {0}
More A Q m s xs (Halts (Short n) t) = (v : ℕ) (others : List ℕ) → Follows n v t.actions (m (with_script s (xs ++ v ∷ others)))

-- and it only adds actions
record Resumes (A : Type 0) (Q : A → Type 0) (m : Step A) (s : State) (xs : List ℕ) (o : Outcome A) : Type 0 where
  pub adds : IsBehind s.actions (actions_in o)
  pub more : More A Q m s xs o

abbrev Resume : Relation
Resume A Q m n = (s : State) (xs : List ℕ) → Resumes A Q m s xs (m (with_script s xs))

-- ---- one step after the other

module _ (A B : Type 0) (P : A → Type 0) (Q : B → Type 0) (m : Step A) (f : A → Step B) (m_resumes : Resume A P m m) (f_resumes : (a : A) → P a → Resume B Q (f a) (f a)) where
  -- what follows only adds actions
  adds_on : (s : State) (ys : List ℕ) (o : Outcome A) → Resumes A P m s ys o → IsBehind (actions_in o) (actions_in (go_on o f))
  adds_on s ys (Goes a t) h = (f_resumes a h.more.0 t t.script).adds
  adds_on s ys (Halts e t) h = behind_same t.actions

  ended_on : (e : Ending) (acts : List Action) (o : Outcome A) → EndsAs e acts o → EndsAs e acts (go_on o f)
  ended_on e acts (Goes a t) h = absurd h
  ended_on e acts (Halts d t) h = h

  obeyed_on : (v : ℕ) (acts : List Action) (o : Outcome A) → IsBehind (actions_in o) (actions_in (go_on o f)) → Obeys v acts o → Obeys v acts (go_on o f)
  obeyed_on zero acts o b h = ended_on Stopped acts o h
  obeyed_on (suc zero) acts o b h = (h.0, h.1 ++ b.0, h.2, b.1 ∙ ap (λ acts. acts ++ b.0) h.3 ∙ append_assoc acts (h.0 ∷ h.1) b.0)
  obeyed_on (suc (suc v)) acts o b h = ended_on Bad acts o h

  chosen_on : (c : Bool) (acts : List Action) (o : Outcome A) → IsBehind (actions_in o) (actions_in (go_on o f)) → Chooses c acts o → Chooses c acts (go_on o f)
  chosen_on true acts o b h = behind_both acts (actions_in o) (actions_in (go_on o f)) h b
  chosen_on false acts o b h = ended_on Bad acts o h

  follows_on : (n : Need) (v : ℕ) (acts : List Action) (o : Outcome A) → IsBehind (actions_in o) (actions_in (go_on o f)) → Follows n v acts o → Follows n v acts (go_on o f)
  follows_on (ReadOf c) v acts o b h = behind_both (acts ++ action.Read c v ∷ []) (actions_in o) (actions_in (go_on o f)) h b
  follows_on Go v acts o b h = obeyed_on v acts o b h
  follows_on Truth v acts o b h = chosen_on (nat_lt v 2) acts o b h
  follows_on Any v acts o b h = behind_both acts (actions_in o) (actions_in (go_on o f)) h b

  abbrev both : Step B
  both = m >>= f

  second : (s : State) (xs : List ℕ) (a : A) (t : State) → Resumes A P m s xs (Goes a t) → (o : Outcome B) → Resumes B Q (f a) t t.script o → Resumes B Q both s xs o
  second s xs a t one (Goes b u) two = record {
    adds = behind_both s.actions t.actions u.actions one.adds two.adds;
    more = (two.more.0, λ others. ap (λ (o : Outcome A). go_on o f) (one.more.1 others) ∙ two.more.1 others);
  }
  second s xs a t one (Halts (Over e) u) two = record { adds = behind_both s.actions t.actions u.actions one.adds two.adds; more = tt }
  second s xs a t one (Halts (Short n) u) two = record {
    adds = behind_both s.actions t.actions u.actions one.adds two.adds;
    more = λ v others. subst (λ (o : Outcome B). Follows n v u.actions o) (sym (ap (λ (o : Outcome A). go_on o f) (one.more.1 (v ∷ others)))) (two.more v others);
  }

  first : (s : State) (xs : List ℕ) (o : Outcome A) → Resumes A P m s xs o → Resumes B Q both s xs (go_on o f)
  first s xs (Goes a t) one = second s xs a t one (f a t) (f_resumes a one.more.0 t t.script)
  first s xs (Halts (Over e) t) one = record { adds = one.adds; more = tt }
  first s xs (Halts (Short n) t) one = record {
    adds = one.adds;
    more = λ v others.
        let ys : List ℕ = xs ++ v ∷ others in
        let o : Outcome A = m (with_script s ys) in
        follows_on n v t.actions o (adds_on s ys o (m_resumes s ys)) (one.more v others);
  }

  resume_then : Resume B Q both both
  resume_then s xs = first s xs (m (with_script s xs)) (m_resumes s xs)

-- ---- the parts of every run

abbrev Quiet : (A : Type 0) → (A → Type 0) → Step A → Type 0
Quiet A Q m = Resume A Q m m

resume_pure : (A : Type 0) (Q : A → Type 0) (a : A) → Q a → Quiet A Q (pure a)
resume_pure A Q a h s xs = record { adds = behind_same s.actions; more = (h, λ others. refl) }

resume_end : (A : Type 0) (Q : A → Type 0) (e : Ending) → Quiet A Q (ends e)
resume_end A Q e s xs = record { adds = behind_same s.actions; more = tt }

resume_stop : (A : Type 0) (Q : A → Type 0) → Quiet A Q stop
resume_stop A Q s xs = record { adds = behind_same s.actions; more = tt }

resume_spend : (g : Setting) (p : Place) (Q : Flow → Type 0) → Quiet Flow Q (spend g p)
resume_spend g p Q s xs = record { adds = behind_same s.actions; more = tt }

resume_cond : (A : Type 0) (Q : A → Type 0) (b : Bool) (m n : Step A) → Quiet A Q m → Quiet A Q n → Quiet A Q (cond b m n)
resume_cond A Q true m n p q = p
resume_cond A Q false m n p q = q

-- a step that goes by the locals, the creates done and the depth
module _ (A T : Type 0) (Q : A → Type 0) (c : List Local → ℕ → ℕ → T) (f : T → Step A) where
  abbrev by : Step A
  by = λ s. f (c s.locals s.created s.depth) s

  chosen : (s : State) (xs : List ℕ) (o : Outcome A) → Resumes A Q (f (c s.locals s.created s.depth)) s xs o → Resumes A Q by s xs o
  chosen s xs (Goes a t) h = record { adds = h.adds; more = h.more }
  chosen s xs (Halts (Over e) t) h = record { adds = h.adds; more = tt }
  chosen s xs (Halts (Short n) t) h = record { adds = h.adds; more = h.more }

  resume_choice : ((t : T) → Quiet A Q (f t)) → Quiet A Q by
  resume_choice h s xs = chosen s xs (f (c s.locals s.created s.depth) (with_script s xs)) (h (c s.locals s.created s.depth) s xs)

resume_nothing : Quiet (Unit {0}) anything nothing
resume_nothing = resume_pure (Unit {0}) anything tt tt

resume_and : {A B : Type 0} (P : A → Type 0) (Q : B → Type 0) (m : Step A) (n : Step B) → Quiet A P m → Quiet B Q n → Quiet B Q (m >> n)
resume_and {A = A} {B = B} P Q m n p q = resume_then A B P Q m (λ _. n) p (λ _ _. q)

resume_make : (a : Action) → Quiet (Unit {0}) anything (make a)
resume_make a s xs = record { adds = (a ∷ [], refl); more = (tt, λ others. refl) }

resume_locals : (c : List Local → List Local) → Quiet (Unit {0}) anything (change (λ s. record s { locals = c s.locals }))
resume_locals c s xs = record { adds = behind_same s.actions; more = (tt, λ others. refl) }

resume_depth : (c : ℕ → ℕ) → Quiet (Unit {0}) anything (change (λ s. record s { depth = c s.depth }))
resume_depth c s xs = record { adds = behind_same s.actions; more = (tt, λ others. refl) }

resume_outside : (m : Step (Unit {0})) → Quiet (Unit {0}) anything m → Quiet (Unit {0}) anything (outside m)
resume_outside m p = resume_choice (Unit {0}) Bool anything (λ ls c d. nat_eq d 0) (λ b. cond b m nothing) (λ b. resume_cond (Unit {0}) anything b m nothing p resume_nothing)

-- ---- numbers

resume_any : Quiet ℕ anything (take_number Any)
resume_any s [] = record { adds = behind_same s.actions; more = λ v others. behind_same s.actions }
resume_any s (x ∷ xs) = record { adds = behind_same s.actions; more = (tt, λ others. refl) }

chosen_now : (b : Bool) (v : ℕ) (s : State) → Chooses b s.actions (cond b (pure v) (ends Bad) s)
chosen_now true v s = behind_same s.actions
chosen_now false v s = (refl, refl)

abbrev bool_of : Bool → ℕ → Step ℕ
bool_of b v = cond b (pure v) (ends Bad)

bool_taken : (b : Bool) (m : Step ℕ) (x : ℕ) (s t : State) (xs : List ℕ) → t.actions ≡ s.actions → ((others : List ℕ) → m (with_script s (x ∷ (xs ++ others))) ≡ bool_of b x (with_script t (xs ++ others))) → Resumes ℕ anything m s (x ∷ xs) (bool_of b x (with_script t xs))
bool_taken true m x s t xs e h = record { adds = subst (IsBehind s.actions) (sym e) (behind_same s.actions); more = (tt, h) }
bool_taken false m x s t xs e h = record { adds = subst (IsBehind s.actions) (sym e) (behind_same s.actions); more = tt }

resume_bool : Quiet ℕ anything any_bool
resume_bool s [] = record { adds = behind_same s.actions; more = λ v others. chosen_now (nat_lt v 2) v (record s { script = others; used = s.used + 1 }) }
resume_bool s (x ∷ xs) = bool_taken (nat_lt x 2) any_bool x s (record s { used = s.used + 1 }) xs refl (λ others. refl)

-- a step that takes a number first, and then makes others
module _ (A : Type 0) (Q : A → Type 0) (m n : Step A) (s t : State) (x : ℕ) (xs : List ℕ) (same : (others : List ℕ) → m (with_script s (x ∷ others)) ≡ n (with_script t others)) (behind : IsBehind s.actions t.actions) where
  taken : (o : Outcome A) → Resumes A Q n t xs o → Resumes A Q m s (x ∷ xs) o
  taken (Goes a u) h = record { adds = behind_both s.actions t.actions u.actions behind h.adds; more = (h.more.0, λ others. same (xs ++ others) ∙ h.more.1 others) }
  taken (Halts (Over e) u) h = record { adds = behind_both s.actions t.actions u.actions behind h.adds; more = tt }
  taken (Halts (Short d) u) h = record {
    adds = behind_both s.actions t.actions u.actions behind h.adds;
    more = λ v others. subst (λ (o : Outcome A). Follows d v u.actions o) (sym (same (xs ++ v ∷ others))) (h.more v others);
  }

-- a read, and what follows it
module _ (A : Type 0) (Q : A → Type 0) (c : ℕ) (f : ℕ → Step A) (h : (v : ℕ) → Quiet A Q (f v)) where
  abbrev reading : Step A
  reading = take_number (ReadOf c) >>= (λ v. make (action.Read c v) >> f v)

  abbrev with_read : State → ℕ → State
  with_read s v = record s { used = s.used + 1; actions = s.actions ++ action.Read c v ∷ [] }

  resume_reading : Quiet A Q reading
  resume_reading s [] = record { adds = behind_same s.actions; more = λ v others. (h v (with_read s v) others).adds }
  resume_reading s (x ∷ xs) = taken A Q reading (f x) s (with_read s x) x xs (λ others. refl) (action.Read c x ∷ [], refl) (f x (with_script (with_read s x) xs)) (h x (with_read s x) xs)

-- a go number, and what waits behind it
module _ (A : Type 0) (Q : A → Type 0) (m : Step A) (h : Quiet A Q m) (a : Action) (waits : IsWaited a) (first_made : (s : State) → (rest : List Action) × (actions_in (m s) ≡ s.actions ++ a ∷ rest)) where
  abbrev asking : Step A
  asking = ask >> m

  go : (s : State) (v : ℕ) (others : List ℕ) → Obeys v s.actions (asking (with_script s (v ∷ others)))
  go s zero others = (refl, refl)
  go s (suc zero) others = let it = first_made (record s { script = others; used = s.used + 1 }) in (a, it.0, waits, it.1)
  go s (suc (suc v)) others = (refl, refl)

  resume_asking : Quiet A Q asking
  resume_asking s [] = record { adds = behind_same s.actions; more = go s }
  resume_asking s (zero ∷ xs) = record { adds = behind_same s.actions; more = tt }
  resume_asking s (suc zero ∷ xs) = taken A Q asking m s (record s { used = s.used + 1 }) 1 xs (λ others. refl) (behind_same s.actions) (m (with_script (record s { used = s.used + 1 }) xs)) (h (record s { used = s.used + 1 }) xs)
  resume_asking s (suc (suc v) ∷ xs) = record { adds = behind_same s.actions; more = tt }

resume_open : Quiet (Unit {0}) anything open_section
resume_open = resume_outside (ask >> make action.Open) (resume_asking (Unit {0}) anything (make action.Open) (resume_make action.Open) action.Open tt (λ s. ([], refl)))

resume_close : Quiet (Unit {0}) anything (outside (make action.Close))
resume_close = resume_outside (make action.Close) (resume_make action.Close)

-- ---- cells and calls

resume_read : (c : Slot) → Quiet ℕ anything (read c)
resume_read (Own i j) s xs = record { adds = behind_same s.actions; more = (tt, λ others. refl) }
resume_read (Common c) s xs = resume_reading ℕ anything c (λ v. pure v) (λ v. resume_pure ℕ anything v tt) s xs

resume_write : (c : Slot) (x : ℕ) → Quiet (Unit {0}) anything (write c x)
resume_write (Own i j) x s xs = record { adds = behind_same s.actions; more = (tt, λ others. refl) }
resume_write (Common c) x s xs = resume_make (action.Write c x) s xs

resume_shared : (p : Place) (o : Option Shared) (i : ℕ) → Quiet Slot anything (slot_in_shared p o i)
resume_shared p None i = resume_stop Slot anything
resume_shared p (Some v) i = resume_cond Slot anything (nat_lt i v.count) (pure (Common (v.first + i))) (fail p) (resume_pure Slot anything (Common (v.first + i)) tt) (resume_end Slot anything (Failed p))

resume_slot_in : (shared : List Shared) (p : Place) (n : Name) (o : Option ℕ) (i : ℕ) → Quiet Slot anything (slot_in shared p n o i)
resume_slot_in shared p n None i = resume_shared p (shared_named shared n) i
resume_slot_in shared p n (Some l) i =
    resume_choice Slot Bool anything (λ ls c d. nat_lt i (length (cells_at ls l))) (λ b. cond b (pure (Own l i)) (fail p)) (λ b. resume_cond Slot anything b (pure (Own l i)) (fail p) (resume_pure Slot anything (Own l i) tt) (resume_end Slot anything (Failed p)))

resume_slot : (shared : List Shared) (p : Place) (n : Name) (i : ℕ) → Quiet Slot anything (slot shared p n i)
resume_slot shared p n i = resume_choice Slot (Option ℕ) anything (λ ls c d. local_named ls n) (λ o. slot_in shared p n o i) (λ o. resume_slot_in shared p n o i)

resume_hold : (c : Slot) → Quiet (Unit {0}) anything (hold c)
resume_hold (Own i j) = resume_nothing
resume_hold (Common m) =
    resume_reading (Unit {0}) anything m (λ v. cond (nat_eq v 0) nothing (ends Bad) >> make (action.Write m 1)) (λ v.
    resume_and anything anything (cond (nat_eq v 0) nothing (ends Bad)) (make (action.Write m 1)) (resume_cond (Unit {0}) anything (nat_eq v 0) nothing (ends Bad) resume_nothing (resume_end (Unit {0}) anything Bad)) (resume_make (action.Write m 1)))

resume_lock : (c : Slot) → Quiet (Unit {0}) anything (lock_cell c)
resume_lock c = resume_and anything anything open_section (hold c >> outside (make action.Close)) resume_open (resume_and anything anything (hold c) (outside (make action.Close)) (resume_hold c) resume_close)

resume_unlock : (c : Slot) → Quiet (Unit {0}) anything (unlock_cell c)
resume_unlock c =
    resume_and anything anything (outside (make action.Open)) (write c 0 >> outside (make action.Close)) (resume_outside (make action.Open) (resume_make action.Open))
    (resume_and anything anything (write c 0) (outside (make action.Close)) (resume_write c 0) resume_close)

resume_finish : (A : Type 0) (Q : A → Type 0) → Quiet A Q finish
resume_finish A Q = resume_and anything Q (make action.End) (ends Ended) (resume_make action.End) (resume_end A Q Ended)

resume_exit : Quiet ℕ anything exit_thread
resume_exit = resume_choice ℕ Bool anything (λ ls c d. nat_eq d 0) (λ b. cond b finish (ends Bad)) (λ b. resume_cond ℕ anything b finish (ends Bad) (resume_finish ℕ anything) (resume_end ℕ anything Bad))

resume_create : (g : Setting) (c : Slot) (f x : ℕ) → Quiet ℕ anything (create g c f x)
resume_create g (Own i j) f x s xs = record { adds = (action.Create (64 * g.handle + s.created + 1) f x ∷ [], refl); more = (tt, λ others. refl) }
resume_create g (Common c) f x s xs = record { adds = (action.Write c (64 * g.handle + s.created + 1) ∷ action.Create (64 * g.handle + s.created + 1) f x ∷ [], append_assoc s.actions _ _); more = (tt, λ others. refl) }

joined : (h : ℕ) → Quiet ℕ anything (make (action.Join h) >> pure 0)
joined h = resume_and {B = ℕ} anything anything (make (action.Join h)) (pure 0) (resume_make (action.Join h)) (resume_pure ℕ anything 0 tt)

-- a join waits where the depth is 0
join_by : (h : ℕ) (b : Bool) → Quiet ℕ anything (cond b ask nothing >> (make (action.Join h) >> pure 0))
join_by h true = resume_asking ℕ anything (make (action.Join h) >> pure 0) (joined h) (action.Join h) tt (λ s. ([], refl))
join_by h false = resume_and {B = ℕ} anything anything nothing (make (action.Join h) >> pure 0) resume_nothing (joined h)

resume_join : (h : ℕ) → Quiet ℕ anything (join h)
resume_join h = resume_choice ℕ Bool anything (λ ls c d. nat_eq d 0) (λ b. cond b ask nothing >> (make (action.Join h) >> pure 0)) (join_by h)

resume_relates : (p : Checked) (handle : ℕ) → Relates (twice p handle) no_values Resume
resume_relates p handle = record {
  of_pure = resume_pure;
  of_then = λ A B P Q m n f h p i. resume_then A B P Q m f p i;
  of_choice = λ A T Q c f h p s xs. chosen A T Q (λ ls n d. c ls) f s xs (f (c s.locals) (with_script s xs)) (p s.locals tt s xs);
  of_locals = λ c h. resume_locals c;
  of_fail = λ A Q p. resume_end A Q (Failed p);
  of_stop = resume_stop;
  of_any = resume_any;
  of_bool = resume_bool;
  of_slot = resume_slot (twice p handle).shared;
  of_read = λ c h. resume_read c;
  of_write = λ c x h i. resume_write c x;
  of_own = λ i j x h. resume_write (Own i j) x;
  of_lock = λ c h. resume_lock c;
  of_unlock = λ c h. resume_unlock c;
  of_begin = resume_and anything anything open_section (change (λ s. record s { depth = s.depth + 1 })) resume_open (resume_depth (λ d. d + 1));
  of_end = resume_and anything anything (change (λ s. record s { depth = s.depth - 1 })) (outside (make action.Close)) (resume_depth (λ d. d - 1)) resume_close;
  of_exit = resume_exit;
  of_create = λ c n x h i. resume_create (one (twice p handle)) c (function_in (one (twice p handle)) n) x;
  of_join = λ h i. resume_join h;
  of_fence = resume_make action.Fence;
  of_spend = λ w. resume_spend (one (twice p handle)) w _;
  of_turns = inl refl;
}

-- ---- threads

module _ (p : Checked) (f handle arg : ℕ) (script : List ℕ) where
  abbrev g : Setting
  g = setting_of p handle

  thread_resumes : (h : Function) → slice_get g.functions f ≡ Some h → Resumes ⊥ anything (thread_steps g h arg) (begins script) script (thread_steps g h arg (begins script))
  thread_resumes h is =
      resume_and {B = ⊥} anything anything (make action.Start) _ (resume_make action.Start)
      (resume_then ℕ ⊥ anything anything (run_body (context_within (length g.functions) g) h (arg ∷ [])) (λ _. finish)
      (thread_body_meets (twice p handle) no_values no_values_closed Resume (resume_relates p handle) (nothing_known (in_functions g.functions)) (length g.functions) f h is arg tt) (λ _ _. resume_finish ⊥ anything))
      (begins script) script

  pub short_run_goes_on : (r : ShortRun) → short_run p f handle arg script ≡ Some r → (v : ℕ) (others : List ℕ) (o : Outcome ⊥) → thread_outcome p f handle arg (script ++ v ∷ others) ≡ Some o → Follows r.needs v r.actions o
  short_run_goes_on r e v others o longer =
      let it : RanShort p f handle arg script r = ran_short p f handle arg script r e in
      let resumed : Resumes ⊥ anything (thread_steps g it.function arg) (begins script) script (Halts (Short it.need) it.state) =
      subst (λ (o : Outcome ⊥). Resumes ⊥ anything (thread_steps g it.function arg) (begins script) script o) it.goes (thread_resumes it.function it.is) in
      let steps : Outcome ⊥ = thread_steps g it.function arg (begins (script ++ v ∷ others)) in
      let same : thread_outcome p f handle arg (script ++ v ∷ others) ≡ Some steps = ap (λ (h : Option Function). outcome_of g h arg (script ++ v ∷ others)) it.is in
      let goes : steps ≡ o = same_Some steps o (sym same ∙ longer) in
      subst (λ (r : ShortRun). Follows r.needs v r.actions o) it.run (subst (λ (o : Outcome ⊥). Follows it.need v it.state.actions o) goes (resumed.more v others))
