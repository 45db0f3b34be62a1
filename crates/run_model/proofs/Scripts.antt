-- A step uses the first numbers of the script, and depends on no others.
use Rattle.std.proofs.Common.{◌≡◌, ℕ, suc, ◌+◌, List, [], ◌∷◌, ◌++◌, Option, Some, None, length, refl, sym, ap, ◌∙◌, append_assoc, append-nil, length-append, arith}
use Rattle.axiom_model.specs.Failing.{Run}
use Rattle.c_tree.specs.declared.program.Function.{Function}
use Rattle.c_check.specs.declared.checked.Checked.{Checked}
use Rattle.std.specs.Prelude.{slice_get, unwrap_or}
use Rattle.run_model.specs.declared.state.Halt.TheVariants.{Over, Short}
use Rattle.run_model.specs.declared.state.Local.{Local}
use Rattle.run_model.specs.declared.state.Need.{Need}
use Rattle.run_model.specs.declared.state.Slot.{Slot}
use Rattle.run_model.specs.declared.state.Slot.TheVariants.{Own, Common}
use Rattle.run_model.specs.Steps.{State, Outcome, Goes, Halts, Step, go_on, ◌>>=◌, take_from, take_number}
use Rattle.run_model.specs.Calls.{Setting, no_other, create}
use Rattle.run_model.specs.Programs.{setting_of}
use Rattle.run_model.specs.Threads.{ShortRun, thread_steps, thread_run, short_run, outcome_of, run_in, short_in, begins}
use Rattle.run_model.specs.Laws.{UsesOnly}
use Rattle.run_model.specs.Running.{short_used}
use Rattle.run_model.proofs.Kept.{Keeps}
use Rattle.run_model.proofs.KeptMeaning.{kept_no_other}
use Rattle.run_model.proofs.KeptThread.{kept_thread}

abbrev pub with_script : State → List ℕ → State
with_script s xs = record s { script = xs }

-- the step took some numbers, and does the same where others stand behind them
pub record Took (A : Type 0) (m : Step A) (s : State) (outcome : State → Outcome A) (t : State) : Type 0 where
  pub taken : List ℕ
  pub first : s.script ≡ taken ++ t.script
  pub count : t.used ≡ s.used + length taken
  pub same : (others : List ℕ) → m (with_script s (taken ++ others)) ≡ outcome (with_script t others)

abbrev pub Reads : (A : Type 0) → Step A → State → Outcome A → Type 0
Reads A m s (Goes a t) = Took A m s (Goes a) t
Reads A m s (Halts (Over e) t) = Took A m s (Halts (Over e)) t
Reads A m s (Halts (Short n) t) = (t.script ≡ []) × (t.used ≡ s.used + length s.script)

abbrev pub IsReader : (A : Type 0) → Step A → Type 0
IsReader A m = (s : State) → Reads A m s (m s)

takes_none : (A : Type 0) (m : Step A) (s : State) (o : State → Outcome A) (t : State) → s.script ≡ t.script → t.used ≡ s.used → ((others : List ℕ) → m (with_script s others) ≡ o (with_script t others)) → Took A m s o t
takes_none A m s o t e u h = record { taken = []; first = e; count = omega (arith, u); same = h }

-- ---- one step after the other

module _ (A B : Type 0) (m : Step A) (f : A → Step B) (s : State) where
  joined : (t u : State) (a : A) (o : State → Outcome B) → Took A m s (Goes a) t → Took B (f a) t o u → Took B (m >>= f) s o u
  joined t u a o one two = record {
    taken = one.taken ++ two.taken;
    first = one.first ∙ ap (λ xs. one.taken ++ xs) two.first ∙ sym (append_assoc one.taken two.taken u.script);
    count = omega (arith, one.count, two.count, length-append one.taken two.taken);
    same = λ others.
        ap (λ xs. (m >>= f) (with_script s xs)) (append_assoc one.taken two.taken others)
        ∙ ap (λ (w : Outcome A). go_on w f) (one.same (two.taken ++ others)) ∙ two.same others;
  }

  then_reads : (t : State) (a : A) → Took A m s (Goes a) t → (o : Outcome B) → Reads B (f a) t o → Reads B (m >>= f) s o
  then_reads t a one (Goes b u) two = joined t u a (Goes b) one two
  then_reads t a one (Halts (Over e) u) two = joined t u a (Halts (Over e)) one two
  then_reads t a one (Halts (Short n) u) (spent, used) =
      (spent, omega (arith, one.count, used, length-append one.taken t.script, ap length one.first))

  starts_reads : ((a : A) → IsReader B (f a)) → (o : Outcome A) → Reads A m s o → Reads B (m >>= f) s (go_on o f)
  starts_reads h (Goes a t) one = then_reads t a one (f a t) (h a t)
  starts_reads h (Halts (Over e) t) one = record { taken = one.taken; first = one.first; count = one.count; same = λ others. ap (λ (w : Outcome A). go_on w f) (one.same others) }
  starts_reads h (Halts (Short n) t) one = one

-- ---- the parts of every run

chosen_reads : (A T : Type 0) (g : List Local → ℕ → ℕ → T) (f : T → Step A) (s : State) (o : Outcome A) → Reads A (f (g s.locals s.created s.depth)) s o → Reads A (λ s. f (g s.locals s.created s.depth) s) s o
chosen_reads A T g f s (Goes a t) h = record { taken = h.taken; first = h.first; count = h.count; same = h.same }
chosen_reads A T g f s (Halts (Over e) t) h = record { taken = h.taken; first = h.first; count = h.count; same = h.same }
chosen_reads A T g f s (Halts (Short n) t) h = h

taking_reads : (n : Need) (s : State) (xs : List ℕ) → s.script ≡ xs → Reads ℕ (take_number n) s (take_from n xs s)
taking_reads n s [] e = (e, omega (arith, ap length e))
taking_reads n s (v ∷ vs) e = record { taken = v ∷ []; first = e; count = refl; same = λ others. refl }

create_reads : (g : Setting) (v : Slot) (f arg : ℕ) → IsReader ℕ (create g v f arg)
create_reads g (Own i j) f arg s = takes_none ℕ (create g (Own i j) f arg) s (Goes 0) _ refl refl (λ others. refl)
create_reads g (Common c) f arg s = takes_none ℕ (create g (Common c) f arg) s (Goes 0) _ refl refl (λ others. refl)

pub reader_keeps : (handle : ℕ) → Keeps handle IsReader
reader_keeps handle = record {
  of_pure = λ A a s. takes_none A _ s (Goes a) s refl refl (λ others. refl);
  of_then = λ A B m f p h s. starts_reads A B m f s h (m s) (p s);
  of_choice = λ A T g f h s. chosen_reads A T g f s _ (h (g s.locals s.created s.depth) s);
  of_end = λ A e s. takes_none A _ s (Halts (Over e)) s refl refl (λ others. refl);
  of_taking = λ n s. taking_reads n s s.script refl;
  of_locals = λ f s. takes_none (Unit {0}) _ s (Goes tt) _ refl refl (λ others. refl);
  of_depth = λ f s. takes_none (Unit {0}) _ s (Goes tt) _ refl refl (λ others. refl);
  of_action = λ a plain s. takes_none (Unit {0}) _ s (Goes tt) _ refl refl (λ others. refl);
  of_create = λ g own v f arg. create_reads g v f arg;
}

-- ---- threads

-- the run uses the first numbers of its script, and depends on no others
pub record UsesFirst (runs : List ℕ → Option Run) (script : List ℕ) (r : Run) : Type 0 where
  pub taken : List ℕ
  pub rest : List ℕ
  pub first : script ≡ taken ++ rest
  pub count : r.used ≡ length taken
  pub same : (others : List ℕ) → runs (taken ++ others) ≡ Some r

abbrev used_by : Option Run → ℕ
used_by None = 0
used_by (Some r) = r.used

module _ (g : Setting) (only : g.other ≡ no_other) (arg : ℕ) (script : List ℕ) where
  over_uses : (f : Function) (r : Run) (o : Outcome ⊥) → Reads ⊥ (thread_steps g f arg) (begins script) o → run_in (Some o) ≡ Some r → UsesFirst (λ xs. run_in (outcome_of g (Some f) arg xs)) script r
  over_uses f r (Goes v t) h e = absurd v
  over_uses f r (Halts (Over ending) t) h e = record {
    taken = h.taken;
    rest = t.script;
    first = h.first;
    count = let u : t.used ≡ r.used = ap used_by e in omega (arith, u, h.count);
    same = λ others. ap (λ (o : Outcome ⊥). run_in (Some o)) (h.same others) ∙ e;
  }
  over_uses f r (Halts (Short n) t) h e = absurd (let no : ◌≡◌ {A = Option Run} None (Some r) = e in cc)

  outcome_uses : (o : Option Function) (r : Run) → run_in (outcome_of g o arg script) ≡ Some r → UsesFirst (λ xs. run_in (outcome_of g o arg xs)) script r
  outcome_uses None r e = absurd (let no : ◌≡◌ {A = Option Run} None (Some r) = e in cc)
  outcome_uses (Some f) r e = over_uses f r (thread_steps g f arg (begins script)) (kept_thread g.handle IsReader (reader_keeps g.handle) g refl (kept_no_other g.handle IsReader (reader_keeps g.handle) g only) (length g.functions) f arg (begins script)) e

-- where each run uses its first numbers only, it needs them all
module _ (runs : List ℕ → Option Run) (uses : (script : List ℕ) (r : Run) → runs script ≡ Some r → UsesFirst runs script r) where
  none_is_spared : (script : List ℕ) (r : Run) (u : UsesFirst runs script r) (some others : List ℕ) (o : Option Run) → runs some ≡ o → u.taken ≡ some ++ others → (others ≡ [] → ⊥) → runs some ≡ None
  none_is_spared script r u some others None e split more = e
  none_is_spared script r u some [] (Some q) e split more = absurd (more refl)
  none_is_spared script r u some (x ∷ others) (Some q) e split more =
      let v : UsesFirst runs some q = uses some q e in
      let whole : u.taken ≡ v.taken ++ (v.rest ++ x ∷ others) = split ∙ ap (λ xs. xs ++ x ∷ others) v.first ∙ append_assoc v.taken v.rest (x ∷ others) in
      let again : runs u.taken ≡ Some q = ap runs whole ∙ v.same (v.rest ++ x ∷ others) in
      let once : runs u.taken ≡ Some r = ap runs (sym (append-nil u.taken)) ∙ u.same [] in
      let used : q.used ≡ r.used = ap used_by (sym again ∙ once) in
      let longer : length u.taken ≡ length v.taken + (length v.rest + suc (length others)) = ap length whole ∙ length-append v.taken (v.rest ++ x ∷ others) ∙ ap (λ n. length v.taken + n) (length-append v.rest (x ∷ others)) in
      absurd (omega (arith, used, longer, u.count, v.count))

  uses_only : (script : List ℕ) (r : Run) → UsesFirst runs script r → UsesOnly runs script r
  uses_only script r u = record {
    taken = u.taken;
    rest = u.rest;
    first = u.first;
    count = u.count;
    same = u.same;
    needed = λ some others split more. none_is_spared script r u some others (runs some) refl split more;
  }

-- a run depends on no more of the script than it used
pub run_uses_only : (p : Checked) (f handle arg : ℕ) (script : List ℕ) (r : Run) → thread_run p f handle arg script ≡ Some r → UsesOnly (thread_run p f handle arg) script r
run_uses_only p f handle arg script r e =
    let uses : (script : List ℕ) (r : Run) → thread_run p f handle arg script ≡ Some r → UsesFirst (thread_run p f handle arg) script r =
    λ script r e. outcome_uses (setting_of p handle) refl arg script (slice_get (setting_of p handle).functions f) r e in
    uses_only (thread_run p f handle arg) uses script r (uses script r e)

module _ (g : Setting) (only : g.other ≡ no_other) (arg : ℕ) (script : List ℕ) where
  short_uses : (f : Function) (n : ℕ) (o : Outcome ⊥) → Reads ⊥ (thread_steps g f arg) (begins script) o → short_used (short_in (Some o)) ≡ Some n → n ≡ length script
  short_uses f n (Goes v t) h e = absurd v
  short_uses f n (Halts (Over ending) t) h e = absurd (let no : ◌≡◌ {A = Option ℕ} None (Some n) = e in cc)
  short_uses f n (Halts (Short need) t) (spent, used) e =
      let same : t.used ≡ n = ap (λ (o : Option ℕ). unwrap_or o 0) e in omega (arith, same, used)

  short_outcome_uses : (o : Option Function) (n : ℕ) → short_used (short_in (outcome_of g o arg script)) ≡ Some n → n ≡ length script
  short_outcome_uses None n e = absurd (let no : ◌≡◌ {A = Option ℕ} None (Some n) = e in cc)
  short_outcome_uses (Some f) n e = short_uses f n (thread_steps g f arg (begins script)) (kept_thread g.handle IsReader (reader_keeps g.handle) g refl (kept_no_other g.handle IsReader (reader_keeps g.handle) g only) (length g.functions) f arg (begins script)) e

-- a run for which the script is too short has used all of it
pub short_run_uses_all : (p : Checked) (f handle arg : ℕ) (script : List ℕ) (n : ℕ) → short_used (short_run p f handle arg script) ≡ Some n → n ≡ length script
short_run_uses_all p f handle arg script n e = short_outcome_uses (setting_of p handle) refl arg script (slice_get (setting_of p handle).functions f) n e

pub short_run_used : (p : Checked) (f handle arg : ℕ) (script : List ℕ) (s : ShortRun) → short_run p f handle arg script ≡ Some s → s.used ≡ length script
short_run_used p f handle arg script s e = short_run_uses_all p f handle arg script s.used (ap short_used e)
