-- The cells of a run's actions are cells of the program, and the functions of its creates are functions of it.
use Rattle.std.proofs.Common.{◌≡◌, ℕ, zero, suc, ◌+◌, ◌-◌, ◌*◌, ◌<◌, ◌≤◌, List, [], ◌∷◌, ◌++◌, Option, Some, None, Bool, true, false, refl, ap, ◌∙◌, subst, inl, arith, length-append}
use Rattle.std.proofs.lemmas.List.{length-map}
use Rattle.std.specs.Prelude.{cond, nat_eq, nat_lt, unwrap_or, slice_get, length, All}
use Rattle.std.specs.List.{AllByRecursion}
use Rattle.std.proofs.lemmas.Bool.{ltb-true}
use Rattle.std.proofs.lemmas.Option.{same_Some, slice_get_within}
use Rattle.std.proofs.lemmas.List.Elements.{All-nil, All-push}
use Rattle.std.specs.Str.{bytes_eq}
use Rattle.dg_base.specs.declared.Place.{Place}
use Rattle.axiom_model.specs.declared.Action.{Action}
use Rattle.axiom_model.specs.declared.Action.TheVariants as action
use Rattle.axiom_model.specs.WellMade.{Shape}
use Rattle.axiom_model.specs.Failing.{Run}
use Rattle.c_tree.specs.declared.expr.Expr.{Expr}
use Rattle.c_tree.specs.declared.expr.TypeWord.{TypeWord}
use Rattle.c_tree.specs.declared.stmt.Declarator.{Declarator}
use Rattle.c_tree.specs.declared.program.Function.{Function}
use Rattle.c_tree.specs.declared.program.Item.{Item}
use Rattle.c_tree.specs.declared.program.Item.TheVariants as item
use Rattle.c_rules.specs.Names.{Name, functions_of}
use Rattle.c_rules.specs.Walk.{cells_of_size}
use Rattle.c_check.specs.declared.checked.CellInfo.{CellInfo}
use Rattle.c_check.specs.declared.checked.Checked.{Checked}
use Rattle.c_check.specs.Checked.{cells_of, cells_of_items, cells_of_declarators, variable_cells, array_cells, first_values}
use Rattle.c_check.specs.Limits.{cell_count, cells_of_all, shared_cells, limits_of}
use Rattle.c_check.specs.WellFormed.{IsChecked}
use Rattle.c_check.proofs.PlainNames.{all_append}
use Rattle.run_model.specs.declared.state.Ending.{Ending}
use Rattle.run_model.specs.declared.state.Ending.TheVariants.{Ended, Bad}
use Rattle.run_model.specs.declared.state.Need.{Need}
use Rattle.run_model.specs.declared.state.Need.TheVariants.{ReadOf, Go, Truth, Any}
use Rattle.run_model.specs.declared.state.Shared.{Shared}
use Rattle.run_model.specs.declared.state.Slot.{Slot}
use Rattle.run_model.specs.declared.state.Slot.TheVariants.{Own, Common}
use Rattle.run_model.specs.Steps.{State, Outcome, Goes, Halts, Step, go_on, ◌>>=◌, ◌>>◌, pure, nothing, change, ends, make, take_from, take_number, obey, ask, outside, open_section, stop, fail}
use Rattle.run_model.specs.Cells.{read, write, slot_in, slot_in_shared, shared_named, local_named}
use Rattle.run_model.specs.Calls.{Setting, hold, lock_cell, unlock_cell, finish, exit_thread, any_bool, create, join, function_named, function_in}
use Rattle.run_model.specs.Programs.{setting_of, shape_of, shared_variable, shared_declared, shared_from, shared_of}
use Rattle.run_model.specs.Threads.{ShortRun, run_body, context_within, thread_steps, thread_run, short_run, begins}
use Rattle.run_model.proofs.Handles.{state_in}
use Rattle.run_laws.specs.Belonging.{BelongsTo}
use Rattle.run_laws.specs.Leaves.{Leaf, Value, Called, in_functions}
use Rattle.run_laws.proofs.Joint.{one, anything, Values, Known, Closed, Ok, Relation, Relates}
use Rattle.run_laws.proofs.JointBodies.{thread_body_meets}
use Rattle.run_laws.proofs.Steady.{found}
use Rattle.run_laws.proofs.Mains.{all_kept}
use Rattle.run_laws.proofs.Told.{twice, Ran, RanShort, ran, ran_short}

-- ---- cells of a program

array_length : (m : ℕ) (n : Name) (i : ℕ) (xs : List Expr) → length (array_cells m n i xs) ≡ m
array_length zero n i xs = refl
array_length (suc m) n i xs = ap suc (array_length m n (i + 1) xs)

variable_length : (n : Name) (o : Option ℕ) (xs : List Expr) → length (variable_cells n o xs) ≡ unwrap_or o 1
variable_length n None xs = refl
variable_length n (Some m) xs = array_length m n 0 xs

declared_length : (ds : List Declarator) → length (cells_of_declarators ds) ≡ cells_of_all ds
declared_length [] = refl
declared_length (d ∷ ds) =
    let own = variable_cells d.name (cells_of_size d.size) (first_values d.initialiser) in
    omega (arith, length-append own (cells_of_declarators ds), variable_length d.name (cells_of_size d.size) (first_values d.initialiser), declared_length ds)

cells_length : (xs : List Item) → length (cells_of_items xs) ≡ shared_cells xs
cells_length [] = refl
cells_length (item.Function f ∷ xs) = cells_length xs
cells_length (item.Prototype p w n ∷ xs) = cells_length xs
cells_length (item.Shared d ∷ xs) = omega (arith, length-append (cells_of_declarators d.declarators) (cells_of_items xs), declared_length d.declarators, cells_length xs)

same_cells : (p : Checked) → length (shape_of p.program).initials ≡ shared_cells p.program.items
same_cells p = length-map (cells_of p.program) (λ (c : CellInfo). c.initial) ∙ cells_length p.program.items

-- a checked program keeps the limit on shared cells
pub cells_few : (p : Checked) → IsChecked p → length (shape_of p.program).initials ≤ 1024
cells_few p checked =
    let low : shared_cells p.program.items ≤ 1024 = (all_kept (limits_of p.k p.program) checked.well_formed.limits).1.0 in
    omega (arith, same_cells p, low)

-- ---- shared variables

module _ (m : ℕ) where
  -- the cells of the variable are below this number
  abbrev Fits : Shared → Type 0
  Fits v = v.first + v.count ≤ m

  declared_fit : (done : List Shared) (n : ℕ) (w : TypeWord) (ds : List Declarator) → n + cells_of_all ds ≤ m → AllByRecursion Fits done → AllByRecursion Fits (shared_declared done n w ds)
  declared_fit done n w [] low h = h
  declared_fit done n w (d ∷ ds) low h =
      declared_fit (done ++ shared_variable n w d ∷ []) (n + cell_count d) w ds (omega (arith, low)) (all_append Fits done (shared_variable n w d ∷ []) h (omega (arith, low), tt))

  shared_fit : (done : List Shared) (n : ℕ) (xs : List Item) → n + shared_cells xs ≤ m → AllByRecursion Fits done → AllByRecursion Fits (shared_from done n xs)
  shared_fit done n [] low h = h
  shared_fit done n (item.Function f ∷ xs) low h = shared_fit done n xs low h
  shared_fit done n (item.Prototype p w name ∷ xs) low h = shared_fit done n xs low h
  shared_fit done n (item.Shared d ∷ xs) low h =
      shared_fit (shared_declared done n d.word d.declarators) (n + cells_of_all d.declarators) xs (omega (arith, low)) (declared_fit done n d.word d.declarators (omega (arith, low)) h)

  found_here : (v x : Shared) (o : Option Shared) (t : Bool) → Fits x → (o ≡ Some v → Fits v) → cond t (Some x) o ≡ Some v → Fits v
  found_here v x o true h rest e = subst Fits (same_Some x v e) h
  found_here v x o false h rest e = rest e

  found_fits : (vs : List Shared) (n : Name) (v : Shared) → AllByRecursion Fits vs → shared_named vs n ≡ Some v → Fits v
  found_fits [] n v h e = absurd (let no : ◌≡◌ {A = Option Shared} None (Some v) = e in cc)
  found_fits (x ∷ vs) n v h e = found_here v x (shared_named vs n) (bytes_eq x.name n) h.0 (found_fits vs n v h.1) e

-- ---- steps

module _ (p : Checked) (handle : ℕ) (some : 0 < length (functions_of p.program.items)) where
  abbrev shape : Shape
  shape = shape_of p.program

  abbrev cells : ℕ
  cells = shared_cells p.program.items

  -- a shared cell of the program
  abbrev IsCell : Slot → Type 0
  IsCell (Own i j) = Unit {0}
  IsCell (Common c) = c < length shape.initials

  abbrev cell_values : Values
  cell_values = record { word = anything; cell = IsCell; locals = anything; calls = anything }

  cells_closed : Closed cell_values
  cells_closed = record { zero_word = tt; one_word = tt; operators = λ o xs h. tt; enters = λ n u c ls h. tt; takes = λ n ls h. tt; begins = λ ps xs h. tt }

  all_known : (xs : List Leaf) → Known cell_values xs
  all_known [] = tt
  all_known (Value x ∷ xs) = (tt, all_known xs)
  all_known (Called n ∷ xs) = (tt, all_known xs)

  abbrev Belong : State → Type 0
  Belong s = All (BelongsTo shape) s.actions

  abbrev Adds : {A : Type 0} → (A → Type 0) → State → Outcome A → Type 0
  Adds Q s o = Belong s → Belong (state_in o) × Ok Q o

  -- a step adds such actions alone, and goes on with such a value
  abbrev Adding : (A : Type 0) → (A → Type 0) → Step A → Type 0
  Adding A Q m = (s : State) → Adds Q s (m s)

  abbrev Both : Relation
  Both A Q m n = Adding A Q m

  then_adds : (A B : Type 0) (P : A → Type 0) (Q : B → Type 0) (f : A → Step B) → ((a : A) → P a → Adding B Q (f a)) → (o : Outcome A) → Belong (state_in o) × Ok P o → Belong (state_in (go_on o f)) × Ok Q (go_on o f)
  then_adds A B P Q f rest (Goes a t) one = rest a one.1 t one.0
  then_adds A B P Q f rest (Halts e t) one = (one.0, tt)

  adding_then : (A B : Type 0) (P : A → Type 0) (Q : B → Type 0) (m : Step A) (f : A → Step B) → Adding A P m → ((a : A) → P a → Adding B Q (f a)) → Adding B Q (m >>= f)
  adding_then A B P Q m f h rest s here = then_adds A B P Q f rest (m s) (h s here)

  adding_and : {A B : Type 0} (P : A → Type 0) (Q : B → Type 0) (m : Step A) (n : Step B) → Adding A P m → Adding B Q n → Adding B Q (m >> n)
  adding_and {A = A} {B = B} P Q m n h i = adding_then A B P Q m (λ _. n) h (λ _ _. i)

  adding_pure : (A : Type 0) (Q : A → Type 0) (a : A) → Q a → Adding A Q (pure a)
  adding_pure A Q a q s here = (here, q)

  adding_nothing : Adding (Unit {0}) anything nothing
  adding_nothing s here = (here, tt)

  adding_cond : (A : Type 0) (Q : A → Type 0) (b : Bool) (m n : Step A) → Adding A Q m → Adding A Q n → Adding A Q (cond b m n)
  adding_cond A Q true m n h i = h
  adding_cond A Q false m n h i = i

  adding_ends : (A : Type 0) (Q : A → Type 0) (e : Ending) → Adding A Q (ends e)
  adding_ends A Q e s here = (here, tt)

  adding_stop : (A : Type 0) (Q : A → Type 0) → Adding A Q stop
  adding_stop A Q s here = (here, tt)

  taking_adds : (n : Need) (s : State) (xs : List ℕ) → Adds anything s (take_from n xs s)
  taking_adds n s [] here = (here, tt)
  taking_adds n s (x ∷ xs) here = (here, tt)

  adding_taking : (n : Need) → Adding ℕ anything (take_number n)
  adding_taking n s here = taking_adds n s s.script here

  adding_make : (a : Action) → BelongsTo shape a → Adding (Unit {0}) anything (make a)
  adding_make a h s here = (All-push (BelongsTo shape) s.actions a here h, tt)

  adding_depth : (f : ℕ → ℕ) → Adding (Unit {0}) anything (change (λ s. record s { depth = f s.depth }))
  adding_depth f s here = (here, tt)

  adding_outside : (m : Step (Unit {0})) → Adding (Unit {0}) anything m → Adding (Unit {0}) anything (outside m)
  adding_outside m h s here = adding_cond (Unit {0}) anything (nat_eq s.depth 0) m nothing h adding_nothing s here

  adding_obey : (n : ℕ) → Adding (Unit {0}) anything (obey n)
  adding_obey zero s here = (here, tt)
  adding_obey (suc zero) s here = (here, tt)
  adding_obey (suc (suc n)) s here = (here, tt)

  adding_ask : Adding (Unit {0}) anything ask
  adding_ask = adding_then ℕ (Unit {0}) anything anything (take_number Go) obey (adding_taking Go) (λ n _. adding_obey n)

  adding_open : Adding (Unit {0}) anything open_section
  adding_open = adding_outside (ask >> make action.Open) (adding_and anything anything ask (make action.Open) adding_ask (adding_make action.Open tt))

  adding_close : Adding (Unit {0}) anything (outside (make action.Close))
  adding_close = adding_outside (make action.Close) (adding_make action.Close tt)

  adding_read : (c : Slot) → IsCell c → Adding ℕ anything (read c)
  adding_read (Own i j) h s here = (here, tt)
  adding_read (Common c) h s here =
      adding_then ℕ ℕ anything anything (take_number (ReadOf c)) (λ x. make (action.Read c x) >> pure x) (adding_taking (ReadOf c))
      (λ x _. adding_and anything anything (make (action.Read c x)) (pure x) (adding_make (action.Read c x) h) (adding_pure ℕ anything x tt)) s here

  adding_write : (c : Slot) (x : ℕ) → IsCell c → Adding (Unit {0}) anything (write c x)
  adding_write (Own i j) x h s here = (here, tt)
  adding_write (Common c) x h s here = adding_make (action.Write c x) h s here

  in_shared : (w : Place) (v : Shared) (i : ℕ) (t : Bool) → nat_lt i v.count ≡ t → Fits cells v → Adding Slot IsCell (cond t (pure (Common (v.first + i))) (fail w))
  in_shared w v i true e fits s here = let less : i < v.count = ltb-true i v.count e in (here, omega (arith, less, fits, same_cells p))
  in_shared w v i false e fits s here = (here, tt)

  adding_shared : (w : Place) (o : Option Shared) → ((v : Shared) → o ≡ Some v → Fits cells v) → (i : ℕ) → Adding Slot IsCell (slot_in_shared w o i)
  adding_shared w None fits i = adding_stop Slot IsCell
  adding_shared w (Some v) fits i = in_shared w v i (nat_lt i v.count) refl (fits v refl)

  adding_slot_in : (w : Place) (n : Name) (o : Option ℕ) (i : ℕ) → Adding Slot IsCell (slot_in (shared_of p.program.items) w n o i)
  adding_slot_in w n None i s here =
      adding_shared w (shared_named (shared_of p.program.items) n) (λ v e. found_fits cells (shared_of p.program.items) n v (shared_fit cells [] 0 p.program.items (omega arith) tt) e) i s here
  adding_slot_in w n (Some l) i s here = adding_cond Slot IsCell _ (pure (Own l i)) (fail w) (adding_pure Slot IsCell (Own l i) tt) (λ s here. (here, tt)) s here

  adding_hold : (c : Slot) → IsCell c → Adding (Unit {0}) anything (hold c)
  adding_hold (Own i j) h = adding_nothing
  adding_hold (Common m) h =
      adding_then ℕ (Unit {0}) anything anything (take_number (ReadOf m)) (λ x. make (action.Read m x) >> (cond (nat_eq x 0) nothing (ends Bad) >> make (action.Write m 1))) (adding_taking (ReadOf m)) (λ x _.
      adding_and anything anything (make (action.Read m x)) (cond (nat_eq x 0) nothing (ends Bad) >> make (action.Write m 1)) (adding_make (action.Read m x) h)
      (adding_and anything anything (cond (nat_eq x 0) nothing (ends Bad)) (make (action.Write m 1)) (adding_cond (Unit {0}) anything (nat_eq x 0) nothing (ends Bad) adding_nothing (adding_ends (Unit {0}) anything Bad))
      (adding_make (action.Write m 1) h)))

  adding_lock : (c : Slot) → IsCell c → Adding (Unit {0}) anything (lock_cell c)
  adding_lock c h = adding_and anything anything open_section (hold c >> outside (make action.Close)) adding_open (adding_and anything anything (hold c) (outside (make action.Close)) (adding_hold c h) adding_close)

  adding_unlock : (c : Slot) → IsCell c → Adding (Unit {0}) anything (unlock_cell c)
  adding_unlock c h =
      adding_and anything anything (outside (make action.Open)) (write c 0 >> outside (make action.Close)) (adding_outside (make action.Open) (adding_make action.Open tt))
      (adding_and anything anything (write c 0) (outside (make action.Close)) (adding_write c 0 h) adding_close)

  adding_finish : (A : Type 0) (Q : A → Type 0) → Adding A Q finish
  adding_finish A Q = adding_and anything Q (make action.End) (ends Ended) (adding_make action.End tt) (adding_ends A Q Ended)

  adding_exit : Adding ℕ anything exit_thread
  adding_exit s here = adding_cond ℕ anything (nat_eq s.depth 0) finish (ends Bad) (adding_finish ℕ anything) (adding_ends ℕ anything Bad) s here

  adding_bool : Adding ℕ anything any_bool
  adding_bool =
      adding_then ℕ ℕ anything anything (take_number Truth) (λ v. cond (nat_lt v 2) (pure v) (ends Bad)) (adding_taking Truth)
      (λ v _. adding_cond ℕ anything (nat_lt v 2) (pure v) (ends Bad) (adding_pure ℕ anything v tt) (adding_ends ℕ anything Bad))

  adding_join : (h : ℕ) → Adding ℕ anything (join h)
  adding_join h =
      adding_and {B = ℕ} anything anything (outside ask) (make (action.Join h) >> pure 0) (adding_outside ask adding_ask)
      (adding_and {B = ℕ} anything anything (make (action.Join h)) (pure 0) (adding_make (action.Join h) tt) (adding_pure ℕ anything 0 tt))

  -- the function of a new thread
  named_function : (o : Option ℕ) → ((k : ℕ) → o ≡ Some k → k < shape.functions) → unwrap_or o 0 < shape.functions
  named_function None h = some
  named_function (Some k) h = h k refl

  its_function : (o : Option Name) → function_in (one (twice p handle)) o < shape.functions
  its_function None = some
  its_function (Some n) =
      named_function (function_named (one (twice p handle)) n) (λ k e. slice_get_within (functions_of p.program.items) k (found n (functions_of p.program.items) k e).0 (found n (functions_of p.program.items) k e).1)

  adding_create : (c : Slot) (f x : ℕ) → IsCell c → f < shape.functions → Adding ℕ anything (create (one (twice p handle)) c f x)
  adding_create (Own i j) f x h known s here = (All-push (BelongsTo shape) s.actions (action.Create (64 * handle + s.created + 1) f x) here known, tt)
  adding_create (Common c) f x h known s here = (
    All-push (BelongsTo shape) (s.actions ++ action.Write c (64 * handle + s.created + 1) ∷ []) (action.Create (64 * handle + s.created + 1) f x)
        (All-push (BelongsTo shape) s.actions (action.Write c (64 * handle + s.created + 1)) here h) known,
    tt,
  )

  adding_relates : Relates (twice p handle) cell_values Both
  adding_relates = record {
    of_pure = adding_pure;
    of_then = λ A B P Q m n f h one rest. adding_then A B P Q m f one rest;
    of_choice = λ A T Q c f h rest s here. rest s.locals tt s here;
    of_locals = λ c h s here. (here, tt);
    of_fail = λ A Q w s here. (here, tt);
    of_stop = adding_stop;
    of_any = adding_taking Any;
    of_bool = adding_bool;
    of_slot = λ w n i s here. adding_slot_in w n (local_named s.locals n) i s here;
    of_read = adding_read;
    of_write = λ c x h i. adding_write c x h;
    of_own = λ i j x h. adding_write (Own i j) x tt;
    of_lock = adding_lock;
    of_unlock = adding_unlock;
    of_begin = adding_and anything anything open_section (change (λ s. record s { depth = s.depth + 1 })) adding_open (adding_depth (λ d. d + 1));
    of_end = adding_and anything anything (change (λ s. record s { depth = s.depth - 1 })) (outside (make action.Close)) (adding_depth (λ d. d - 1)) adding_close;
    of_exit = adding_exit;
    of_create = λ c n x h i. adding_create c (function_in (one (twice p handle)) n) x h (its_function n);
    of_join = λ h i. adding_join h;
    of_fence = adding_make action.Fence tt;
    of_spend = λ w s here. (here, tt);
    of_turns = inl refl;
  }

-- ---- runs

module _ (p : Checked) (f handle arg : ℕ) (script : List ℕ) where
  abbrev g : Setting
  g = setting_of p handle

  thread_belongs : (h : Function) → slice_get g.functions f ≡ Some h → All (BelongsTo (shape_of p.program)) (state_in (thread_steps g h arg (begins script))).actions
  thread_belongs h is =
      let some : 0 < length (functions_of p.program.items) = omega (arith, slice_get_within (functions_of p.program.items) f h is) in
      let n : ℕ = length g.functions in
      let body = thread_body_meets (twice p handle) (cell_values p handle some) (cells_closed p handle some) (Both p handle some) (adding_relates p handle some) (all_known p handle some (in_functions g.functions)) n f h is arg tt in
      (adding_and p handle some anything anything (make action.Start) (run_body (context_within n g) h (arg ∷ []) >> finish) (adding_make p handle some action.Start tt)
      (adding_and p handle some anything anything (run_body (context_within n g) h (arg ∷ [])) finish body (adding_finish p handle some ⊥ anything)) (begins script) (All-nil (BelongsTo (shape_of p.program)))).0

  pub run_belongs : (r : Run) → thread_run p f handle arg script ≡ Some r → All (BelongsTo (shape_of p.program)) r.actions
  run_belongs r e =
      let it : Ran p f handle arg script r = ran p f handle arg script r e in
      subst (λ (r : Run). All (BelongsTo (shape_of p.program)) r.actions) it.run
      (subst (λ (o : Outcome ⊥). All (BelongsTo (shape_of p.program)) (state_in o).actions) it.goes (thread_belongs it.function it.is))

  pub short_run_belongs : (s : ShortRun) → short_run p f handle arg script ≡ Some s → All (BelongsTo (shape_of p.program)) s.actions
  short_run_belongs s e =
      let it : RanShort p f handle arg script s = ran_short p f handle arg script s e in
      subst (λ (s : ShortRun). All (BelongsTo (shape_of p.program)) s.actions) it.run
      (subst (λ (o : Outcome ⊥). All (BelongsTo (shape_of p.program)) (state_in o).actions) it.goes (thread_belongs it.function it.is))
