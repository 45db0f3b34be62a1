-- Start is first and End last, and neither stands anywhere else.
use Rattle.std.proofs.Common.{◌≡◌, ℕ, zero, suc, ◌+◌, ◌-◌, ◌*◌, List, [], ◌∷◌, ◌++◌, Option, Some, None, Bool, true, false, refl, sym, ap, ◌∙◌, subst, append_assoc, append-nil, inl}
use Rattle.std.specs.Prelude.{cond, nat_eq, nat_lt, length}
use Rattle.std.specs.List.{AllByRecursion}
use Rattle.dg_base.specs.declared.Place.{Place}
use Rattle.axiom_model.specs.declared.Action.{Action}
use Rattle.axiom_model.specs.declared.Action.TheVariants as action
use Rattle.axiom_model.specs.Failing.{Run}
use Rattle.c_check.specs.declared.checked.Checked.{Checked}
use Rattle.c_check.proofs.PlainNames.{all_append}
use Rattle.c_rules.specs.Names.{Name}
use Rattle.run_model.specs.declared.state.Ending.{Ending}
use Rattle.run_model.specs.declared.state.Ending.TheVariants.{Stopped, Bound, Bad}
use Rattle.run_model.specs.declared.state.Halt.TheVariants.{Over, Short}
use Rattle.run_model.specs.declared.state.Need.{Need}
use Rattle.run_model.specs.declared.state.Need.TheVariants.{ReadOf, Go, Truth, Any}
use Rattle.run_model.specs.declared.state.Shared.{Shared}
use Rattle.run_model.specs.declared.state.Slot.{Slot}
use Rattle.run_model.specs.declared.state.Slot.TheVariants.{Own, Common}
use Rattle.run_model.specs.Steps.{State, Outcome, Goes, Halts, Step, go_on, ◌>>=◌, ◌>>◌, pure, nothing, change, ends, make, take_from, take_number, obey, ask, outside, open_section, begin_section, end_section, stop, fail}
use Rattle.run_model.specs.Cells.{read, write, slot, slot_in, slot_in_shared, shared_named, local_named}
use Rattle.run_model.specs.Calls.{Setting, hold, lock_cell, unlock_cell, finish, exit_thread, any_bool, create, join, function_in}
use Rattle.run_model.specs.Programs.{setting_of}
use Rattle.run_model.specs.Threads.{ShortRun, has_ended, run_body, context_within, thread_run, short_run}
use Rattle.run_model.proofs.Handles.{state_in}
use Rattle.run_laws.specs.Frames.{IsInner, last_of, IsFramed}
use Rattle.run_laws.specs.Leaves.{in_functions}
use Rattle.run_laws.proofs.Joint.{one, two, anything, no_values, no_values_closed, nothing_known, Ok, ok_any, Relation, Relates}
use Rattle.run_laws.proofs.JointBodies.{thread_body_meets}
use Rattle.run_laws.proofs.Told.{twice, started, Ran, RanShort, ran, ran_short}

-- ---- what steps add

-- the actions with which a step ends the run
abbrev tail : {A : Type 0} → Outcome A → List Action
tail (Goes a t) = []
tail (Halts (Over e) t) = last_of (has_ended e)
tail (Halts (Short n) t) = []

-- from one state to another actions are added that are neither Start nor End, and then these
record Framed (end : List Action) (s t : State) : Type 0 where
  pub made : List Action
  pub actions : t.actions ≡ s.actions ++ (made ++ end)
  pub inner : AllByRecursion IsInner made

abbrev Frames : (A : Type 0) → Step A → Type 0
Frames A m = (s : State) → Framed (tail (m s)) s (state_in (m s))

none_made : (s t : State) → t.actions ≡ s.actions → Framed [] s t
none_made s t e = record { made = []; actions = e ∙ sym (append-nil s.actions); inner = tt }

both_made : (end : List Action) (s t u : State) → Framed [] s t → Framed end t u → Framed end s u
both_made end s t u one two = record {
  made = one.made ++ two.made;
  actions =
      two.actions ∙ ap (λ xs. xs ++ (two.made ++ end)) (one.actions ∙ ap (λ xs. s.actions ++ xs) (append-nil one.made)) ∙ append_assoc s.actions one.made (two.made ++ end)
      ∙ ap (λ xs. s.actions ++ xs) (sym (append_assoc one.made two.made end));
  inner = all_append IsInner one.made two.made one.inner two.inner;
}

then_framed : (A B : Type 0) (f : A → Step B) (s : State) → ((a : A) → Frames B (f a)) → (o : Outcome A) → Framed (tail o) s (state_in o) → Framed (tail (go_on o f)) s (state_in (go_on o f))
then_framed A B f s h (Goes a t) one = both_made (tail (f a t)) s t (state_in (f a t)) one (h a t)
then_framed A B f s h (Halts (Over e) t) one = one
then_framed A B f s h (Halts (Short n) t) one = one

frames_then : (A B : Type 0) (m : Step A) (f : A → Step B) → Frames A m → ((a : A) → Frames B (f a)) → Frames B (m >>= f)
frames_then A B m f p h s = then_framed A B f s h (m s) (p s)

-- ---- the parts of every run

frames_pure : (A : Type 0) (a : A) → Frames A (pure a)
frames_pure A a s = none_made s s refl

frames_cond : (A : Type 0) (b : Bool) (m n : Step A) → Frames A m → Frames A n → Frames A (cond b m n)
frames_cond A true m n p q = p
frames_cond A false m n p q = q

-- an ending without End
ends_framed : (e : Ending) → has_ended e ≡ false → (s : State) → Framed (last_of (has_ended e)) s s
ends_framed e h s = subst (λ (b : Bool). Framed (last_of b) s s) (sym h) (none_made s s refl)

pub quiet : (b : Bool) → has_ended (cond b Stopped Bad) ≡ false
quiet true = refl
quiet false = refl

pub quiet_bound : (p : Place) (b c : Bool) → has_ended (cond b (Bound p) (cond c Stopped Bad)) ≡ false
quiet_bound p true c = refl
quiet_bound p false c = quiet c

frames_stop : (A : Type 0) → Frames A stop
frames_stop A s = ends_framed (cond (nat_eq s.depth 0) Stopped Bad) (quiet (nat_eq s.depth 0)) s

frames_fail : (A : Type 0) (p : Place) → Frames A (fail p)
frames_fail A p s = none_made s s refl

frames_bad : (A : Type 0) → Frames A (ends Bad)
frames_bad A s = none_made s s refl

taking_framed : (n : Need) (s : State) (xs : List ℕ) → Framed (tail (take_from n xs s)) s (state_in (take_from n xs s))
taking_framed n s [] = none_made s s refl
taking_framed n s (x ∷ xs) = none_made s _ refl

frames_taking : (n : Need) → Frames ℕ (take_number n)
frames_taking n s = taking_framed n s s.script

frames_make : (a : Action) → IsInner a → Frames (Unit {0}) (make a)
frames_make a h s = record { made = a ∷ []; actions = refl; inner = (h, tt) }

frames_nothing : Frames (Unit {0}) nothing
frames_nothing = frames_pure (Unit {0}) tt

frames_outside : (m : Step (Unit {0})) → Frames (Unit {0}) m → Frames (Unit {0}) (outside m)
frames_outside m p s = frames_cond (Unit {0}) (nat_eq s.depth 0) m nothing p frames_nothing s

frames_obey : (n : ℕ) → Frames (Unit {0}) (obey n)
frames_obey zero s = none_made s s refl
frames_obey (suc zero) s = none_made s s refl
frames_obey (suc (suc n)) s = none_made s s refl

frames_ask : Frames (Unit {0}) ask
frames_ask = frames_then ℕ (Unit {0}) (take_number Go) obey (frames_taking Go) frames_obey

frames_and : {A B : Type 0} (m : Step A) (n : Step B) → Frames A m → Frames B n → Frames B (m >> n)
frames_and {A = A} {B = B} m n p q = frames_then A B m (λ _. n) p (λ _. q)

frames_open : Frames (Unit {0}) open_section
frames_open = frames_outside (ask >> make action.Open) (frames_and ask (make action.Open) frames_ask (frames_make action.Open tt))

frames_close : Frames (Unit {0}) (outside (make action.Close))
frames_close = frames_outside (make action.Close) (frames_make action.Close tt)

frames_depth : (f : ℕ → ℕ) → Frames (Unit {0}) (change (λ s. record s { depth = f s.depth }))
frames_depth f s = none_made s _ refl

frames_read : (c : Slot) → Frames ℕ (read c)
frames_read (Own i j) s = none_made s s refl
frames_read (Common c) s =
    frames_then ℕ ℕ (take_number (ReadOf c)) (λ x. make (action.Read c x) >> pure x) (frames_taking (ReadOf c)) (λ x. frames_and (make (action.Read c x)) (pure x) (frames_make (action.Read c x) tt) (frames_pure ℕ x)) s

frames_write : (c : Slot) (x : ℕ) → Frames (Unit {0}) (write c x)
frames_write (Own i j) x s = none_made s _ refl
frames_write (Common c) x s = frames_make (action.Write c x) tt s

frames_shared : (p : Place) (o : Option Shared) (i : ℕ) → Frames Slot (slot_in_shared p o i)
frames_shared p None i = frames_stop Slot
frames_shared p (Some v) i = frames_cond Slot (nat_lt i v.count) (pure (Common (v.first + i))) (fail p) (frames_pure Slot (Common (v.first + i))) (frames_fail Slot p)

frames_slot_in : (shared : List Shared) (p : Place) (n : Name) (o : Option ℕ) (i : ℕ) → Frames Slot (slot_in shared p n o i)
frames_slot_in shared p n None i s = frames_shared p (shared_named shared n) i s
frames_slot_in shared p n (Some l) i s = frames_cond Slot _ (pure (Own l i)) (fail p) (frames_pure Slot (Own l i)) (frames_fail Slot p) s

frames_hold : (c : Slot) → Frames (Unit {0}) (hold c)
frames_hold (Own i j) = frames_nothing
frames_hold (Common m) =
    frames_then ℕ (Unit {0}) (take_number (ReadOf m)) _ (frames_taking (ReadOf m)) (λ v.
    frames_and (make (action.Read m v)) _ (frames_make (action.Read m v) tt)
    (frames_and (cond (nat_eq v 0) nothing (ends Bad)) (make (action.Write m 1)) (frames_cond (Unit {0}) (nat_eq v 0) nothing (ends Bad) frames_nothing (frames_bad (Unit {0}))) (frames_make (action.Write m 1) tt)))

frames_finish : (A : Type 0) → Frames A finish
frames_finish A s = record { made = []; actions = refl; inner = tt }

frames_create : (g : Setting) (c : Slot) (f x : ℕ) → Frames ℕ (create g c f x)
frames_create g (Own i j) f x s = record { made = action.Create (64 * g.handle + s.created + 1) f x ∷ []; actions = refl; inner = (tt, tt) }
frames_create g (Common c) f x s = record { made = action.Write c (64 * g.handle + s.created + 1) ∷ action.Create (64 * g.handle + s.created + 1) f x ∷ []; actions = append_assoc s.actions _ _; inner = (tt, (tt, tt)) }

abbrev Frame : Relation
Frame A Q m n = (s : State) → Framed (tail (m s)) s (state_in (m s)) × Ok Q (m s)

frame_of : (A : Type 0) (m n : Step A) → Frames A m → Frame A anything m n
frame_of A m n h s = (h s, ok_any (m s))

then_frame : (A B : Type 0) (P : A → Type 0) (Q : B → Type 0) (f : A → Step B) (s : State) → ((a : A) → P a → (t : State) → Framed (tail (f a t)) t (state_in (f a t)) × Ok Q (f a t))
    → (o : Outcome A) → Framed (tail o) s (state_in o) × Ok P o → Framed (tail (go_on o f)) s (state_in (go_on o f)) × Ok Q (go_on o f)
then_frame A B P Q f s h (Goes a t) one = let two = h a one.1 t in (both_made (tail (f a t)) s t (state_in (f a t)) one.0 two.0, two.1)
then_frame A B P Q f s h (Halts (Over e) t) one = (one.0, tt)
then_frame A B P Q f s h (Halts (Short n) t) one = (one.0, tt)

frames_bool : Frames ℕ any_bool
frames_bool = frames_then ℕ ℕ (take_number Truth) (λ v. cond (nat_lt v 2) (pure v) (ends Bad)) (frames_taking Truth) (λ v. frames_cond ℕ (nat_lt v 2) (pure v) (ends Bad) (frames_pure ℕ v) (frames_bad ℕ))

frames_lock : (c : Slot) → Frames (Unit {0}) (lock_cell c)
frames_lock c = frames_and open_section (hold c >> outside (make action.Close)) frames_open (frames_and (hold c) (outside (make action.Close)) (frames_hold c) frames_close)

frames_unlock : (c : Slot) → Frames (Unit {0}) (unlock_cell c)
frames_unlock c =
    frames_and (outside (make action.Open)) (write c 0 >> outside (make action.Close)) (frames_outside (make action.Open) (frames_make action.Open tt))
    (frames_and (write c 0) (outside (make action.Close)) (frames_write c 0) frames_close)

frames_join : (h : ℕ) → Frames ℕ (join h)
frames_join h = frames_and {B = ℕ} (outside ask) (make (action.Join h) >> pure 0) (frames_outside ask frames_ask) (frames_and {B = ℕ} (make (action.Join h)) (pure 0) (frames_make (action.Join h) tt) (frames_pure ℕ 0))

frame_relates : (p : Checked) (handle : ℕ) → Relates (twice p handle) no_values Frame
frame_relates p handle = record {
  of_pure = λ A Q a h s. (none_made s s refl, h);
  of_then = λ A B P Q m n f h p i s. then_frame A B P Q f s i (m s) (p s);
  of_choice = λ A T Q c f h p s. p s.locals tt s;
  of_locals = λ c h s. (none_made s _ refl, tt);
  of_fail = λ A Q p s. (frames_fail A p s, tt);
  of_stop = λ A Q s. (frames_stop A s, tt);
  of_any = frame_of ℕ (take_number Any) (take_number Any) (frames_taking Any);
  of_bool = frame_of ℕ any_bool any_bool frames_bool;
  of_slot = λ w n i. let m = slot (twice p handle).shared w n i in frame_of Slot m m (λ s. frames_slot_in (twice p handle).shared w n (local_named s.locals n) i s);
  of_read = λ c h. frame_of ℕ (read c) (read c) (frames_read c);
  of_write = λ c x h i. frame_of (Unit {0}) (write c x) (write c x) (frames_write c x);
  of_own = λ i j x h. frame_of (Unit {0}) (write (Own i j) x) (write (Own i j) x) (frames_write (Own i j) x);
  of_lock = λ c h. frame_of (Unit {0}) (lock_cell c) (lock_cell c) (frames_lock c);
  of_unlock = λ c h. frame_of (Unit {0}) (unlock_cell c) (unlock_cell c) (frames_unlock c);
  of_begin = frame_of (Unit {0}) begin_section begin_section (frames_and open_section (change (λ s. record s { depth = s.depth + 1 })) frames_open (frames_depth (λ d. d + 1)));
  of_end = frame_of (Unit {0}) end_section end_section (frames_and (change (λ s. record s { depth = s.depth - 1 })) (outside (make action.Close)) (frames_depth (λ d. d - 1)) frames_close);
  of_exit = frame_of ℕ exit_thread exit_thread (λ s. frames_cond ℕ (nat_eq s.depth 0) finish (ends Bad) (frames_finish ℕ) (frames_bad ℕ) s);
  of_create = λ c n x h i. let g = one (twice p handle) in frame_of ℕ (create g c (function_in g n) x) (create g c (function_in g n) x) (frames_create g c (function_in g n) x);
  of_join = λ h i. frame_of ℕ (join h) (join h) (frames_join h);
  of_fence = frame_of (Unit {0}) (make action.Fence) (make action.Fence) (frames_make action.Fence tt);
  of_spend = λ w s. (ends_framed (cond p.full (Bound w) (cond (nat_eq s.depth 0) Stopped Bad)) (quiet_bound w p.full (nat_eq s.depth 0)) s, tt);
  of_turns = inl refl;
}

-- ---- runs

module _ (p : Checked) (f handle arg : ℕ) (script : List ℕ) where
  whole_framed : (o : Outcome ⊥) → Framed (tail o) (started script) (state_in o) → (b : Bool) → tail o ≡ last_of b → IsFramed (state_in o).actions b
  whole_framed o h b e = record { inner = h.made; whole = h.actions ∙ ap (λ xs. action.Start ∷ (h.made ++ xs)) e; others = h.inner }

  pub run_framed : (r : Run) → thread_run p f handle arg script ≡ Some r → IsFramed r.actions r.ended
  run_framed r e =
      let it : Ran p f handle arg script r = ran p f handle arg script r e in
      let body = thread_body_meets (twice p handle) no_values no_values_closed Frame (frame_relates p handle) (nothing_known (in_functions (twice p handle).functions)) (length (setting_of p handle).functions) f it.function it.is arg tt in
      let steps = frames_then ℕ ⊥ (run_body (context_within (length (setting_of p handle).functions) (setting_of p handle)) it.function (arg ∷ [])) (λ _. finish) (λ s. (body s).0) (λ _. frames_finish ⊥) (started script) in
      let over : Framed (last_of (has_ended it.ending)) (started script) it.state = subst (λ (o : Outcome ⊥). Framed (tail o) (started script) (state_in o)) it.goes steps in
      subst (λ (r : Run). IsFramed r.actions r.ended) it.run (whole_framed (Halts (Over it.ending) it.state) over (has_ended it.ending) refl)

  pub short_run_framed : (r : ShortRun) → short_run p f handle arg script ≡ Some r → IsFramed r.actions false
  short_run_framed r e =
      let it : RanShort p f handle arg script r = ran_short p f handle arg script r e in
      let body = thread_body_meets (twice p handle) no_values no_values_closed Frame (frame_relates p handle) (nothing_known (in_functions (twice p handle).functions)) (length (setting_of p handle).functions) f it.function it.is arg tt in
      let steps = frames_then ℕ ⊥ (run_body (context_within (length (setting_of p handle).functions) (setting_of p handle)) it.function (arg ∷ [])) (λ _. finish) (λ s. (body s).0) (λ _. frames_finish ⊥) (started script) in
      let over : Framed [] (started script) it.state = subst (λ (o : Outcome ⊥). Framed (tail o) (started script) (state_in o)) it.goes steps in
      subst (λ (r : ShortRun). IsFramed r.actions false) it.run (whole_framed (Halts (Short it.need) it.state) over false refl)
