-- The creates of a thread are numbered in their order.
use Rattle.std.proofs.Common.{◌≡◌, ℕ, ◌+◌, ◌*◌, List, [], ◌∷◌, ◌++◌, Option, Some, None, length, refl, sym, ap, ◌∙◌, subst, append_assoc, append-nil, add-zero, arith}
use Rattle.std.specs.Prelude.{slice_get}
use Rattle.axiom_model.specs.declared.Action.{Action}
use Rattle.axiom_model.specs.declared.Action.TheVariants.{Read, Write, Open, Close, Fence, Create, Join, Start, End}
use Rattle.axiom_model.specs.Failing.{Run}
use Rattle.c_tree.specs.declared.program.Function.{Function}
use Rattle.c_check.specs.declared.checked.Checked.{Checked}
use Rattle.run_model.specs.declared.state.Halt.TheVariants.{Over, Short}
use Rattle.run_model.specs.declared.state.Need.{Need}
use Rattle.run_model.specs.declared.state.Slot.{Slot}
use Rattle.run_model.specs.declared.state.Slot.TheVariants.{Own, Common}
use Rattle.run_model.specs.Steps.{State, Outcome, Goes, Halts, Step, go_on, take_from}
use Rattle.run_model.specs.Calls.{Setting, no_other, create}
use Rattle.run_model.specs.Programs.{setting_of}
use Rattle.run_model.specs.Threads.{ShortRun, thread_steps, thread_run, short_run, outcome_of, run_in, short_in, begins}
use Rattle.run_model.specs.Laws.{IsNumbered, creates_in}
use Rattle.run_model.proofs.Kept.{Keeps, IsPlain}
use Rattle.run_model.proofs.KeptMeaning.{kept_no_other}
use Rattle.run_model.proofs.KeptThread.{kept_thread}

pub creates_in-append : (xs ys : List Action) → creates_in (xs ++ ys) ≡ creates_in xs + creates_in ys
creates_in-append [] ys = omega arith
creates_in-append (Create h f a ∷ xs) ys = omega (arith, creates_in-append xs ys)
creates_in-append (x ∷ xs) ys = creates_in-append xs ys

numbered-append : (own n : ℕ) (xs ys : List Action) → IsNumbered own n xs → IsNumbered own (n + creates_in xs) ys → IsNumbered own n (xs ++ ys)
numbered-append own n [] ys p q = subst (λ m. IsNumbered own m ys) (add-zero n) q
numbered-append own n (Create h f a ∷ xs) ys (e, p) q =
    let same : n + (1 + creates_in xs) ≡ n + 1 + creates_in xs = omega arith in
    (e, numbered-append own (n + 1) xs ys p (subst (λ m. IsNumbered own m ys) same q))
numbered-append own n (x ∷ xs) ys p q = numbered-append own n xs ys p q

-- from one state to another, actions are added in which the creates are numbered
pub record Adds (own : ℕ) (s t : State) : Type 0 where
  pub made : List Action
  pub actions : t.actions ≡ s.actions ++ made
  pub numbered : IsNumbered own s.created made
  pub count : t.created ≡ s.created + creates_in made

abbrev pub state_in : {A : Type 0} → Outcome A → State
state_in (Goes a t) = t
state_in (Halts h t) = t

abbrev pub Numbers : ℕ → (A : Type 0) → Step A → Type 0
Numbers own A m = (s : State) → Adds own s (state_in (m s))

adds_none : (own : ℕ) (s t : State) → s.actions ≡ t.actions → t.created ≡ s.created → Adds own s t
adds_none own s t e c = record { made = []; actions = sym e ∙ sym (append-nil s.actions); numbered = tt; count = omega (arith, c) }

adds_both : (own : ℕ) (s t u : State) → Adds own s t → Adds own t u → Adds own s u
adds_both own s t u one two = record {
  made = one.made ++ two.made;
  actions = two.actions ∙ ap (λ xs. xs ++ two.made) one.actions ∙ append_assoc s.actions one.made two.made;
  numbered = numbered-append own s.created one.made two.made one.numbered (subst (λ n. IsNumbered own n two.made) one.count two.numbered);
  count = omega (arith, one.count, two.count, creates_in-append one.made two.made);
}

then_adds : (own : ℕ) (A B : Type 0) (f : A → Step B) (s : State) → ((a : A) → Numbers own B (f a)) → (o : Outcome A) → Adds own s (state_in o) → Adds own s (state_in (go_on o f))
then_adds own A B f s h (Goes a t) one = adds_both own s t (state_in (f a t)) one (h a t)
then_adds own A B f s h (Halts e t) one = one

taking_adds : (own : ℕ) (n : Need) (s : State) (xs : List ℕ) → Adds own s (state_in (take_from n xs s))
taking_adds own n s [] = adds_none own s s refl refl
taking_adds own n s (v ∷ vs) = adds_none own s _ refl refl

plain_adds : (own : ℕ) (a : Action) → IsPlain a → (s : State) → Adds own s (record s { actions = s.actions ++ a ∷ [] })
plain_adds own (Create h f v) plain s = absurd plain
plain_adds own (Read c v) plain s = record { made = Read c v ∷ []; actions = refl; numbered = tt; count = omega arith }
plain_adds own (Write c v) plain s = record { made = Write c v ∷ []; actions = refl; numbered = tt; count = omega arith }
plain_adds own Open plain s = record { made = Open ∷ []; actions = refl; numbered = tt; count = omega arith }
plain_adds own Close plain s = record { made = Close ∷ []; actions = refl; numbered = tt; count = omega arith }
plain_adds own Fence plain s = record { made = Fence ∷ []; actions = refl; numbered = tt; count = omega arith }
plain_adds own (Join h) plain s = record { made = Join h ∷ []; actions = refl; numbered = tt; count = omega arith }
plain_adds own Start plain s = record { made = Start ∷ []; actions = refl; numbered = tt; count = omega arith }
plain_adds own End plain s = record { made = End ∷ []; actions = refl; numbered = tt; count = omega arith }

create_adds : (own : ℕ) (g : Setting) → g.handle ≡ own → (v : Slot) (f arg : ℕ) → Numbers own ℕ (create g v f arg)
create_adds own g e (Own i j) f arg s = record {
  made = Create (64 * g.handle + s.created + 1) f arg ∷ [];
  actions = refl;
  numbered = (ap (λ h. 64 * h + s.created + 1) e, tt);
  count = omega arith;
}
create_adds own g e (Common c) f arg s = record {
  made = Write c (64 * g.handle + s.created + 1) ∷ Create (64 * g.handle + s.created + 1) f arg ∷ [];
  actions = append_assoc s.actions _ _;
  numbered = (ap (λ h. 64 * h + s.created + 1) e, tt);
  count = omega arith;
}

pub numbers_keeps : (own : ℕ) → Keeps own (Numbers own)
numbers_keeps own = record {
  of_pure = λ A a s. adds_none own s s refl refl;
  of_then = λ A B m f p h s. then_adds own A B f s h (m s) (p s);
  of_choice = λ A T g f h s. h (g s.locals s.created s.depth) s;
  of_end = λ A e s. adds_none own s s refl refl;
  of_taking = λ n s. taking_adds own n s s.script;
  of_locals = λ f s. adds_none own s _ refl refl;
  of_depth = λ f s. adds_none own s _ refl refl;
  of_action = plain_adds own;
  of_create = create_adds own;
}

-- ---- threads

abbrev acts_of : Option Run → List Action
acts_of None = []
acts_of (Some r) = r.actions

abbrev short_acts_of : Option ShortRun → List Action
short_acts_of None = []
short_acts_of (Some r) = r.actions

module _ (g : Setting) (only : g.other ≡ no_other) (arg : ℕ) (script : List ℕ) where
  adds_from_none : (t : State) → Adds g.handle (begins script) t → IsNumbered g.handle 0 t.actions
  adds_from_none t h = subst (IsNumbered g.handle 0) (sym h.actions) h.numbered

  outcome_numbered : (o : Outcome ⊥) → Adds g.handle (begins script) (state_in o) → IsNumbered g.handle 0 (acts_of (run_in (Some o))) × IsNumbered g.handle 0 (short_acts_of (short_in (Some o)))
  outcome_numbered (Goes v t) h = absurd v
  outcome_numbered (Halts (Over e) t) h = (adds_from_none t h, tt)
  outcome_numbered (Halts (Short n) t) h = (tt, adds_from_none t h)

  all_numbered : (o : Option Function) → IsNumbered g.handle 0 (acts_of (run_in (outcome_of g o arg script))) × IsNumbered g.handle 0 (short_acts_of (short_in (outcome_of g o arg script)))
  all_numbered None = (tt, tt)
  all_numbered (Some f) = outcome_numbered (thread_steps g f arg (begins script)) (kept_thread g.handle (Numbers g.handle) (numbers_keeps g.handle) g refl (kept_no_other g.handle (Numbers g.handle) (numbers_keeps g.handle) g only) (length g.functions) f arg (begins script))

-- the creates of a thread are numbered in their order, also in a run for which the script is too short
pub run_is_numbered : (p : Checked) (f handle arg : ℕ) (script : List ℕ) (r : Run) → thread_run p f handle arg script ≡ Some r → IsNumbered handle 0 r.actions
run_is_numbered p f handle arg script r e =
    subst (λ o. IsNumbered handle 0 (acts_of o)) e (all_numbered (setting_of p handle) refl arg script (slice_get (setting_of p handle).functions f)).0

pub short_run_is_numbered : (p : Checked) (f handle arg : ℕ) (script : List ℕ) (r : ShortRun) → short_run p f handle arg script ≡ Some r → IsNumbered handle 0 r.actions
short_run_is_numbered p f handle arg script r e =
    subst (λ o. IsNumbered handle 0 (short_acts_of o)) e (all_numbered (setting_of p handle) refl arg script (slice_get (setting_of p handle).functions f)).1
