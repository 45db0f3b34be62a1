-- The runs of a program use a bounded number of the script's numbers.
use Rattle.std.proofs.Common.{◌≡◌, ℕ, zero, suc, ◌+◌, ◌≤◌, List, [], ◌∷◌, ◌++◌, Option, Some, None, Bool, map, length, take, refl, sym, ap, subst, arith}
use Rattle.std.specs.Prelude.{cond, slice_get, replicate}
use Rattle.dg_base.specs.declared.Place.{Place}
use Rattle.dg_base.specs.Values.{is_true, value_of}
use Rattle.axiom_model.specs.declared.Action.TheVariants as action
use Rattle.axiom_model.specs.Failing.{Run}
use Rattle.c_tree.specs.declared.expr.TypeWord.{TypeWord}
use Rattle.c_tree.specs.declared.expr.TypeWord.TheVariants as type
use Rattle.c_tree.specs.declared.expr.Expr.{Expr, fold-roll-Expr, ind-Expr, map-Expr}
use Rattle.c_tree.specs.declared.expr.Expr.TheOpen.{Expr-F}
use Rattle.c_tree.specs.declared.expr.Expr.TheViews.{roll-Expr}
use Rattle.c_tree.specs.declared.stmt.Initialiser.{Initialiser}
use Rattle.c_tree.specs.declared.stmt.Initialiser.TheVariants.{One, Braces}
use Rattle.c_tree.specs.declared.stmt.Declarator.{Declarator}
use Rattle.c_tree.specs.declared.stmt.Start.{Start}
use Rattle.c_tree.specs.declared.stmt.Start.TheVariants as start
use Rattle.c_tree.specs.declared.stmt.Stmt.{Stmt, fold-roll-Stmt, ind-Stmt, map-Stmt}
use Rattle.c_tree.specs.declared.stmt.Stmt.TheOpen.{Stmt-F}
use Rattle.c_tree.specs.declared.stmt.Stmt.TheViews.{roll-Stmt}
use Rattle.c_tree.specs.declared.program.Function.{Function}
use Rattle.c_tree.specs.Operators.{word_unsigned, unary_op}
use Rattle.c_rules.specs.declared.builtin.Builtin.{Builtin}
use Rattle.c_rules.specs.Names.{Name, builtin_named, functions_of}
use Rattle.c_check.specs.Limits.{cell_count}
use Rattle.c_check.specs.declared.checked.Checked.{Checked}
use Rattle.run_model.specs.declared.state.Flow.{Flow}
use Rattle.run_model.specs.declared.state.Flow.TheVariants.{Next, Broke, Continued, Returned}
use Rattle.run_model.specs.declared.state.Local.{Local}
use Rattle.run_model.specs.declared.state.Need.TheVariants.{Any}
use Rattle.run_model.specs.declared.state.Slot.{Slot}
use Rattle.run_model.specs.declared.state.Slot.TheVariants.{Own}
use Rattle.run_model.specs.Steps.{State, Outcome, Step, ◌>>=◌, ◌>>◌, pure, nothing, look, change, make, take_number, begin_section, end_section, in_turn}
use Rattle.run_model.specs.Cells.{read, write, slot}
use Rattle.run_model.specs.Calls.{Meaning, Context, spend, finish, function_named, argument}
use Rattle.run_model.specs.Meaning.{value, lvalue, count, call, call_builtin, runs_of, expr_step, meaning, eval}
use Rattle.run_model.specs.Statements.{then_next, scoped, turns, first_values, store_from, enter, declare_one, declare_all, eval_if, begin_for, stmt_step, execute, execute_all}
use Rattle.run_model.specs.Programs.{setting_of}
use Rattle.run_model.specs.Threads.{parameters, result_of, run_body, is_atomic, in_section, call_body, with_function, call_within, context_within, thread_steps, ShortRun, begins}
use Rattle.run_laws.specs.Turns.{used_in}
use Rattle.run_laws.specs.Bounded.{UsesAtMost}
use Rattle.run_laws.proofs.Told.{Ran, RanShort, ran, ran_short}
use Rattle.run_laws.proofs.Using.{Uses, uses_more, uses_sum, behind, before, uses_cond, uses_pure, uses_look, uses_stop, uses_nothing, uses_make, uses_locals, uses_spend, uses_slot, uses_write, uses_finish, uses_taking, uses_read, uses_begin, uses_end_section, uses_binary, uses_assign, uses_count, uses_builtin, turned, do_turned, loop_uses, do_loop_uses}

module _ (p : Checked) (called : ℕ → ℕ → List ℕ → Step ℕ) (top : ℕ) (calls : (h f : ℕ) (args : List ℕ) → Uses top ℕ (called h f args)) where
  -- the context of a thread with this handle
  abbrev cx : ℕ → Context
  cx h = record { setting = setting_of p h; call = called h }

  -- ---- expressions

  -- in a thread of any handle, the evaluation uses at most so many numbers, and likewise the finding of the cell
  record Limits (m : ℕ → Meaning) : Type 0 where
    pub most : ℕ
    pub run : (h : ℕ) → Uses most ℕ (m h).run
    pub find : (h : ℕ) → Uses most Slot (m h).find

  abbrev ExprLimits : Expr → Type 0
  ExprLimits e = Limits (λ h. meaning (cx h) e)

  abbrev Part : Type 0
  Part = (e : Expr) × ExprLimits e

  abbrev parts : ℕ → List Part → List Meaning
  parts h ys = map (meaning (cx h)) (map (λ e. e.0) ys)

  valued : (n : ℕ) (u : ℕ → State → Bool) (m : ℕ → Step ℕ) → ((h : ℕ) → Uses n ℕ (m h)) → Limits (λ h. value (u h) (m h))
  valued n u m r = record { most = n; run = r; find = λ h. uses_stop n Slot }

  lvalued : (n : ℕ) (o : Option Name) (u : ℕ → State → Bool) (m : ℕ → Step Slot) → ((h : ℕ) → Uses n Slot (m h)) → Limits (λ h. lvalue o (u h) (m h))
  lvalued n o u m r = record {
    most = n + 1;
    run = λ h. uses_sum n 1 Slot ℕ (m h) read (r h) uses_read;
    find = λ h. uses_more n (n + 1) Slot (m h) (omega arith) (r h);
  }

  record Arguments (ys : List Part) : Type 0 where
    pub each : ℕ
    pub runs : (h i : ℕ) → Uses each ℕ (argument (parts h ys) i).run
    pub finds : (h i : ℕ) → Uses each Slot (argument (parts h ys) i).find
    pub all : ℕ
    pub turn : (h : ℕ) (done : List ℕ) → Uses all (List ℕ) (in_turn done (runs_of (parts h ys)))

  no_run : (i : ℕ) → Uses 0 ℕ (argument [] i).run
  no_run zero = uses_pure 0 ℕ 0
  no_run (suc i) = uses_pure 0 ℕ 0

  no_find : (i : ℕ) → Uses 0 Slot (argument [] i).find
  no_find zero = uses_stop 0 Slot
  no_find (suc i) = uses_stop 0 Slot

  run_at : (y : Part) (ys : List Part) (rest : Arguments ys) (h i : ℕ) → Uses (y.1.most + rest.each) ℕ (argument (parts h (y ∷ ys)) i).run
  run_at y ys rest h zero = uses_more y.1.most (y.1.most + rest.each) ℕ (meaning (cx h) y.0).run (omega arith) (y.1.run h)
  run_at y ys rest h (suc i) = uses_more rest.each (y.1.most + rest.each) ℕ (argument (parts h ys) i).run (omega arith) (rest.runs h i)

  find_at : (y : Part) (ys : List Part) (rest : Arguments ys) (h i : ℕ) → Uses (y.1.most + rest.each) Slot (argument (parts h (y ∷ ys)) i).find
  find_at y ys rest h zero = uses_more y.1.most (y.1.most + rest.each) Slot (meaning (cx h) y.0).find (omega arith) (y.1.find h)
  find_at y ys rest h (suc i) = uses_more rest.each (y.1.most + rest.each) Slot (argument (parts h ys) i).find (omega arith) (rest.finds h i)

  arguments : (ys : List Part) → Arguments ys
  arguments [] = record { each = 0; runs = λ h i. no_run i; finds = λ h i. no_find i; all = 0; turn = λ h done. uses_pure 0 (List ℕ) done }
  arguments (y ∷ ys) =
      let rest : Arguments ys = arguments ys in
      record {
        each = y.1.most + rest.each;
        runs = λ h i. run_at y ys rest h i;
        finds = λ h i. find_at y ys rest h i;
        all = y.1.most + rest.all;
        turn = λ h done. uses_sum y.1.most rest.all ℕ (List ℕ) (meaning (cx h) y.0).run (λ v. in_turn (done ++ v ∷ []) (runs_of (parts h ys))) (y.1.run h) (λ v. rest.turn h (done ++ v ∷ []));
      }

  builtin_uses : (ys : List Part) (all : Arguments ys) (w : Place) (n : Name) (o : Option Builtin) (h : ℕ) → Uses (all.each + (all.each + 2)) ℕ (call_builtin (setting_of p h) w n o (parts h ys))
  builtin_uses ys all w n None h = uses_stop (all.each + (all.each + 2)) ℕ
  builtin_uses ys all w n (Some c) h = uses_builtin all.each (parts h ys) (all.runs h) (all.finds h) (setting_of p h) w c

  call_limits : (w : Place) (n : Name) (ys : List Part) (o : Option ℕ) → (k : ℕ) × ((h : ℕ) → Uses k ℕ (call (cx h) w n (parts h ys) o))
  call_limits w n ys (Some f) =
      let all : Arguments ys = arguments ys in
      (all.all + top, λ h. uses_sum all.all top (List ℕ) ℕ (in_turn [] (runs_of (parts h ys))) (called h f) (all.turn h []) (calls h f))
  call_limits w n ys None =
      let all : Arguments ys = arguments ys in
      (all.each + (all.each + 2), λ h. builtin_uses ys all w n (builtin_named n) h)

  layer : (y : Expr-F Part) → Limits (λ h. expr_step (cx h) (map-Expr Expr Meaning (meaning (cx h)) (map-Expr Part Expr (λ e. e.0) y)))
  layer (Expr-F.Name w n) = lvalued 0 (Some n) _ _ (λ h. uses_slot 0 (setting_of p h).shared w n 0)
  layer (Expr-F.Number w v u) = valued 0 _ _ (λ h. uses_pure 0 ℕ v)
  layer (Expr-F.Text w) = valued 0 _ _ (λ h. uses_pure 0 ℕ 0)
  layer (Expr-F.Bracket w e) = e.1
  layer (Expr-F.Index w n e) =
      lvalued e.1.most None _ _ (λ h. behind e.1.most ℕ Slot (meaning (cx h) e.0).run (slot (setting_of p h).shared w n) (e.1.run h) (λ i. uses_slot 0 (setting_of p h).shared w n i))
  layer (Expr-F.Call w n es) = let it = call_limits w n es (function_named (setting_of p 0) n) in valued it.0 _ _ it.1
  layer (Expr-F.Cast w t e) = valued e.1.most _ _ e.1.run
  layer (Expr-F.Unary w o e) = valued e.1.most _ _ (λ h. behind e.1.most ℕ ℕ (meaning (cx h) e.0).run (λ v. pure (value_of (unary_op o) (v ∷ []))) (e.1.run h) (λ v. uses_pure 0 ℕ (value_of (unary_op o) (v ∷ []))))
  layer (Expr-F.StepBefore w o e) =
      valued (e.1.most + 1) _ _ (λ h. behind (e.1.most + 1) (ℕ × ℕ) ℕ (count w o (meaning (cx h) e.0)) (λ v. pure v.1) (uses_count e.1.most w o (meaning (cx h) e.0) (e.1.find h)) (λ v. uses_pure 0 ℕ v.1))
  layer (Expr-F.StepAfter w o e) =
      valued (e.1.most + 1) _ _ (λ h. behind (e.1.most + 1) (ℕ × ℕ) ℕ (count w o (meaning (cx h) e.0)) (λ v. pure v.0) (uses_count e.1.most w o (meaning (cx h) e.0) (e.1.find h)) (λ v. uses_pure 0 ℕ v.0))
  layer (Expr-F.Binary w o e f) = valued (e.1.most + f.1.most) _ _ (λ h. uses_binary e.1.most f.1.most w o (meaning (cx h) e.0) (meaning (cx h) f.0) (e.1.run h) (f.1.run h))
  layer (Expr-F.Choose w t e f) =
      valued (t.1.most + (e.1.most + f.1.most)) _ _ (λ h.
      uses_sum t.1.most (e.1.most + f.1.most) ℕ ℕ (meaning (cx h) t.0).run _ (t.1.run h) (λ x.
      uses_cond (e.1.most + f.1.most) ℕ (is_true x) (meaning (cx h) e.0).run (meaning (cx h) f.0).run
      (uses_more e.1.most (e.1.most + f.1.most) ℕ (meaning (cx h) e.0).run (omega arith) (e.1.run h)) (uses_more f.1.most (e.1.most + f.1.most) ℕ (meaning (cx h) f.0).run (omega arith) (f.1.run h))))
  layer (Expr-F.Assign w o e f) = valued (e.1.most + (1 + f.1.most)) _ _ (λ h. uses_assign e.1.most f.1.most w o (meaning (cx h) e.0) (meaning (cx h) f.0) (e.1.find h) (f.1.run h))
  layer (Expr-F.Comma w e f) = valued (e.1.most + f.1.most) _ _ (λ h. uses_sum e.1.most f.1.most ℕ ℕ (meaning (cx h) e.0).run (λ _. (meaning (cx h) f.0).run) (e.1.run h) (λ _. f.1.run h))
  layer (Expr-F.Address w e) = record { most = e.1.most; run = λ h. uses_pure e.1.most ℕ 0; find = e.1.find }

  rolled : (y : Expr-F Part) → ExprLimits (roll-Expr (map-Expr Part Expr (λ e. e.0) y))
  rolled y =
      let z : Expr-F Expr = map-Expr Part Expr (λ e. e.0) y in
      let it : Limits (λ h. expr_step (cx h) (map-Expr Expr Meaning (meaning (cx h)) z)) = layer y in
      record {
        most = it.most;
        run = λ h. subst (λ (m : Meaning). Uses it.most ℕ m.run) (sym (fold-roll-Expr Meaning (expr_step (cx h)) z)) (it.run h);
        find = λ h. subst (λ (m : Meaning). Uses it.most Slot m.find) (sym (fold-roll-Expr Meaning (expr_step (cx h)) z)) (it.find h);
      }

  expr_limits : (e : Expr) → ExprLimits e
  expr_limits = ind-Expr ExprLimits (λ x y is. subst (λ (z : Expr-F Expr). ExprLimits (roll-Expr z)) is (rolled y))

  -- ---- declarations

  abbrev Bounded : (A : Type 0) → (ℕ → Step A) → Type 0
  Bounded A m = (n : ℕ) × ((h : ℕ) → Uses n A (m h))

  both : (A B : Type 0) (m : ℕ → Step A) (f : ℕ → Step B) → Bounded A m → Bounded B f → Bounded B (λ h. m h >> f h)
  both A B m f one two = (one.0 + two.0, λ h. uses_sum one.0 two.0 A B (m h) (λ _. f h) (one.1 h) (λ _. two.1 h))

  eval_bounded : (e : Expr) → Bounded ℕ (λ h. eval (cx h) e)
  eval_bounded e = let it = expr_limits e in (it.most, it.run)

  eval_if_bounded : (v : ℕ) (o : Option Expr) → Bounded ℕ (λ h. eval_if (cx h) v o)
  eval_if_bounded v None = (0, λ h. uses_pure 0 ℕ v)
  eval_if_bounded v (Some e) = eval_bounded e

  abbrev Stored : (ℕ → Step (Unit {0})) → Type 0
  Stored m = Bounded (Unit {0}) m

  no_store : Stored (λ h. nothing)
  no_store = (0, λ h. uses_nothing 0)

  stored : (l j : ℕ) (m : ℕ → Step ℕ) (rest : ℕ → Step (Unit {0})) → Bounded ℕ m → Stored rest → Stored (λ h. m h >>= (λ v. write (Own l j) v >> rest h))
  stored l j m rest one two = (
    one.0 + two.0,
    λ h. uses_sum one.0 two.0 ℕ (Unit {0}) (m h) (λ v. write (Own l j) v >> rest h) (one.1 h)
        (λ v. before two.0 (Unit {0}) (Unit {0}) (write (Own l j) v) (λ _. rest h) (uses_write 0 (Own l j) v) (λ _. two.1 h)),
  )

  -- the bound does not depend on where the values are stored
  abbrev StoredFrom : (ℕ → List (Step ℕ)) → Type 0
  StoredFrom ms = (n : ℕ) × ((h l j : ℕ) → Uses n (Unit {0}) (store_from l j (ms h)))

  store_next : (m : ℕ → Step ℕ) (ms : ℕ → List (Step ℕ)) → Bounded ℕ m → StoredFrom ms → StoredFrom (λ h. m h ∷ ms h)
  store_next m ms one two = (
    one.0 + two.0,
    λ h l j. uses_sum one.0 two.0 ℕ (Unit {0}) (m h) (λ v. write (Own l j) v >> store_from l (j + 1) (ms h)) (one.1 h)
        (λ v. before two.0 (Unit {0}) (Unit {0}) (write (Own l j) v) (λ _. store_from l (j + 1) (ms h)) (uses_write 0 (Own l j) v) (λ _. two.1 h l (j + 1))),
  )

  store_none : StoredFrom (λ h. [])
  store_none = (0, λ h l j. uses_nothing 0)

  store_taken : (n : ℕ) → StoredFrom (λ h. replicate n (take_number Any))
  store_taken zero = store_none
  store_taken (suc n) = store_next (λ h. take_number Any) (λ h. replicate n (take_number Any)) (1, λ h. uses_taking Any) (store_taken n)

  store_all : (es : List Expr) → StoredFrom (λ h. map (eval (cx h)) es)
  store_all [] = store_none
  store_all (e ∷ es) = store_next (λ h. eval (cx h) e) (λ h. map (eval (cx h)) es) (eval_bounded e) (store_all es)

  store_one : (e : Expr) → StoredFrom (λ h. eval (cx h) e ∷ [])
  store_one e = store_next (λ h. eval (cx h) e) (λ h. []) (eval_bounded e) store_none

  first_stored : (t : TypeWord) (n : ℕ) (o : Option Initialiser) → StoredFrom (λ h. first_values (cx h) t n o)
  first_stored type.Thread n None = store_none
  first_stored type.Int n None = store_taken n
  first_stored type.Uint n None = store_taken n
  first_stored type.Void n None = store_taken n
  first_stored type.VoidPointer n None = store_taken n
  first_stored type.Mutex n None = store_taken n
  first_stored type.Cond n None = store_taken n
  first_stored t n (Some (One e)) = store_one e
  first_stored t n (Some (Braces es)) = store_all es

  declare_one_bounded : (t : TypeWord) (d : Declarator) → Stored (λ h. declare_one (cx h) t d)
  declare_one_bounded t d =
      let it = first_stored t (cell_count d) d.initialiser in (
        it.0,
        λ h. before it.0 ℕ (Unit {0}) (look (λ s. length s.locals)) _ (uses_look 0 ℕ (λ s. length s.locals)) (λ l.
            before it.0 (Unit {0}) (Unit {0}) (enter t d.name (cell_count d)) _ (uses_locals 0 (λ ls. ls ++ record { name = d.name; unsigned = word_unsigned t; cells = replicate (cell_count d) 0 } ∷ [])) (λ _. it.1 h l 0)),
      )

  declare_bounded : (t : TypeWord) (ds : List Declarator) → Stored (λ h. declare_all (cx h) t ds)
  declare_bounded t [] = no_store
  declare_bounded t (d ∷ ds) = both (Unit {0}) (Unit {0}) (λ h. declare_one (cx h) t d) (λ h. declare_all (cx h) t ds) (declare_one_bounded t d) (declare_bounded t ds)

  begin_for_bounded : (t : Start) → Stored (λ h. begin_for (cx h) t)
  begin_for_bounded start.Nothing = no_store
  begin_for_bounded (start.Expr e) = both ℕ (Unit {0}) (λ h. eval (cx h) e) (λ h. nothing) (eval_bounded e) no_store
  begin_for_bounded (start.Declare d) = declare_bounded d.word d.declarators

  -- ---- statements

  abbrev Flows : (ℕ → Step Flow) → Type 0
  Flows m = Bounded Flow m

  scoped_bounded : (m : ℕ → Step Flow) → Flows m → Flows (λ h. scoped (m h))
  scoped_bounded m one = (
    one.0,
    λ h. before one.0 ℕ Flow (look (λ s. length s.locals)) _ (uses_look 0 ℕ (λ s. length s.locals)) (λ l.
        behind one.0 Flow Flow (m h) _ (one.1 h) (λ f.
        before 0 (Unit {0}) Flow (change (λ s. record s { locals = take l s.locals })) (λ _. pure f) (uses_locals 0 (λ ls. take l ls)) (λ _. uses_pure 0 Flow f))),
  )

  turns_bounded : (w : Place) (t e : Option Expr) (m : ℕ → Step Flow) → Flows m → Flows (λ h. turns (cx h) w t e (m h))
  turns_bounded w t e m one =
      let test = eval_if_bounded 1 t in
      let step = both ℕ (Unit {0}) (λ h. eval_if (cx h) 0 e) (λ h. nothing) (eval_if_bounded 0 e) no_store in
      let body = scoped_bounded m one in (
        turned p.k test.0 body.0 step.0,
        λ h.
            loop_uses (spend (setting_of p h) w) (uses_spend 0 Flow (setting_of p h) w) test.0 body.0 step.0 p.k (eval_if (cx h) 1 t) (scoped (m h)) (eval_if (cx h) 0 e >> nothing) (test.1 h) (body.1 h) (step.1 h),
      )

  abbrev Piece : Type 0
  Piece = (s : Stmt) × Flows (λ h. execute (cx h) s)

  abbrev stmts : List Piece → List Stmt
  stmts ys = map (λ e. e.0) ys

  next_uses : (n : ℕ) (f : Flow) (m : Step Flow) → Uses n Flow m → Uses n Flow (then_next f m)
  next_uses n Next m h = h
  next_uses n Broke m h = uses_pure n Flow Broke
  next_uses n Continued m h = uses_pure n Flow Continued
  next_uses n (Returned v) m h = uses_pure n Flow (Returned v)

  then_bounded : (m rest : ℕ → Step Flow) → Flows m → Flows rest → Flows (λ h. m h >>= (λ f. then_next f (rest h)))
  then_bounded m rest one two = (one.0 + two.0, λ h. uses_sum one.0 two.0 Flow Flow (m h) (λ f. then_next f (rest h)) (one.1 h) (λ f. next_uses two.0 f (rest h) (two.1 h)))

  next_bounded : Flows (λ h. pure Next)
  next_bounded = (0, λ h. uses_pure 0 Flow Next)

  sequence_bounded : (ys : List Piece) → Flows (λ h. execute_all (cx h) (stmts ys))
  sequence_bounded [] = next_bounded
  sequence_bounded (y ∷ ys) = then_bounded (λ h. execute (cx h) y.0) (λ h. execute_all (cx h) (stmts ys)) y.1 (sequence_bounded ys)

  if_bounded : (t : Expr) (m n : ℕ → Step Flow) → Flows m → Flows n → Flows (λ h. eval (cx h) t >>= (λ v. cond (is_true v) (m h) (n h)))
  if_bounded t m n one two =
      let test = eval_bounded t in (
        test.0 + (one.0 + two.0),
        λ h. uses_sum test.0 (one.0 + two.0) ℕ Flow (eval (cx h) t) _ (test.1 h) (λ v.
            uses_cond (one.0 + two.0) Flow (is_true v) (m h) (n h) (uses_more one.0 (one.0 + two.0) Flow (m h) (omega arith) (one.1 h)) (uses_more two.0 (one.0 + two.0) Flow (n h) (omega arith) (two.1 h))),
      )

  form : (y : Stmt-F Piece) → Flows (λ h. stmt_step (cx h) (map-Stmt Stmt (Step Flow) (execute (cx h)) (map-Stmt Piece Stmt (λ e. e.0) y)))
  form (Stmt-F.Empty w) = next_bounded
  form (Stmt-F.Expr w e) = both ℕ Flow (λ h. eval (cx h) e) (λ h. pure Next) (eval_bounded e) next_bounded
  form (Stmt-F.Declare d) = both (Unit {0}) Flow (λ h. declare_all (cx h) d.word d.declarators) (λ h. pure Next) (declare_bounded d.word d.declarators) next_bounded
  form (Stmt-F.Block w ys) = scoped_bounded (λ h. execute_all (cx h) (stmts ys)) (sequence_bounded ys)
  form (Stmt-F.Label w n y) = scoped_bounded (λ h. execute (cx h) y.0) y.1
  form (Stmt-F.If w t y None) = if_bounded t (λ h. scoped (execute (cx h) y.0)) (λ h. pure Next) (scoped_bounded (λ h. execute (cx h) y.0) y.1) next_bounded
  form (Stmt-F.If w t y (Some z)) = if_bounded t (λ h. scoped (execute (cx h) y.0)) (λ h. scoped (execute (cx h) z.0)) (scoped_bounded (λ h. execute (cx h) y.0) y.1) (scoped_bounded (λ h. execute (cx h) z.0) z.1)
  form (Stmt-F.While w t y) = turns_bounded w (Some t) None (λ h. execute (cx h) y.0) y.1
  form (Stmt-F.DoWhile w y t) =
      let test = eval_bounded t in
      let body = scoped_bounded (λ h. execute (cx h) y.0) y.1 in
      (do_turned p.k test.0 body.0, λ h. do_loop_uses (spend (setting_of p h) w) (uses_spend 0 Flow (setting_of p h) w) test.0 body.0 p.k (eval (cx h) t) (scoped (execute (cx h) y.0)) (test.1 h) (body.1 h))
  form (Stmt-F.For w first t e y) =
      scoped_bounded (λ h. begin_for (cx h) first >> turns (cx h) w t e (execute (cx h) y.0))
      (both (Unit {0}) Flow (λ h. begin_for (cx h) first) (λ h. turns (cx h) w t e (execute (cx h) y.0)) (begin_for_bounded first) (turns_bounded w t e (λ h. execute (cx h) y.0) y.1))
  form (Stmt-F.Return w e) =
      let it = eval_if_bounded 0 e in
      (it.0, λ h. behind it.0 ℕ Flow (eval_if (cx h) 0 e) (λ v. pure (Returned v)) (it.1 h) (λ v. uses_pure 0 Flow (Returned v)))
  form (Stmt-F.Break w) = (0, λ h. uses_pure 0 Flow Broke)
  form (Stmt-F.Continue w) = (0, λ h. uses_pure 0 Flow Continued)

  abbrev StmtBounded : Stmt → Type 0
  StmtBounded s = Flows (λ h. execute (cx h) s)

  rolled_stmt : (y : Stmt-F Piece) → StmtBounded (roll-Stmt (map-Stmt Piece Stmt (λ e. e.0) y))
  rolled_stmt y =
      let z : Stmt-F Stmt = map-Stmt Piece Stmt (λ e. e.0) y in
      let it : Flows (λ h. stmt_step (cx h) (map-Stmt Stmt (Step Flow) (execute (cx h)) z)) = form y in
      (it.0, λ h. subst (Uses it.0 Flow) (sym (fold-roll-Stmt (Step Flow) (stmt_step (cx h)) z)) (it.1 h))

  execute_bounded : (s : Stmt) → StmtBounded s
  execute_bounded = ind-Stmt StmtBounded (λ x y is. subst (λ (z : Stmt-F Stmt). StmtBounded (roll-Stmt z)) is (rolled_stmt y))

  body_bounded : (ss : List Stmt) → Flows (λ h. execute_all (cx h) ss)
  body_bounded [] = next_bounded
  body_bounded (s ∷ ss) = then_bounded (λ h. execute (cx h) s) (λ h. execute_all (cx h) ss) (execute_bounded s) (body_bounded ss)

  -- ---- functions

  run_body_uses : (n : ℕ) (f : Function) (h : ℕ) (args : List ℕ) → Uses n Flow (execute_all (cx h) f.body) → Uses n ℕ (run_body (cx h) f args)
  run_body_uses n f h args body =
      before n (List Local) ℕ (look (λ s. s.locals)) _ (uses_look 0 (List Local) (λ s. s.locals)) (λ outer.
      before n (Unit {0}) ℕ (change (λ s. record s { locals = parameters [] 0 f.params args })) _ (uses_locals 0 (λ ls. parameters [] 0 f.params args)) (λ _.
      behind n Flow ℕ (execute_all (cx h) f.body) _ body (λ flow.
      before 0 (Unit {0}) ℕ (change (λ s. record s { locals = outer })) (λ _. pure (result_of flow)) (uses_locals 0 (λ ls. outer)) (λ _. uses_pure 0 ℕ (result_of flow)))))

  -- a body by its number among functions
  record Functions (fs : List Function) : Type 0 where
    pub bound : ℕ
    pub bodies : (h i : ℕ) (f : Function) → slice_get fs i ≡ Some f → (args : List ℕ) → Uses bound ℕ (run_body (cx h) f args)

  none_found : {A : Type 0} (i : ℕ) (f : Function) → slice_get [] i ≡ Some f → A
  none_found zero f e = absurd (let no : ◌≡◌ {A = Option Function} None (Some f) = e in cc)
  none_found (suc i) f e = absurd (let no : ◌≡◌ {A = Option Function} None (Some f) = e in cc)

  body_at : (d : Function) (fs : List Function) (it : Flows (λ h. execute_all (cx h) d.body)) (rest : Functions fs) (h i : ℕ) (f : Function) → slice_get (d ∷ fs) i ≡ Some f → (args : List ℕ) → Uses (it.0 + rest.bound) ℕ (run_body (cx h) f args)
  body_at d fs it rest h zero f e args =
      let same : d ≡ f = cc in
      subst (λ (k : Function). Uses (it.0 + rest.bound) ℕ (run_body (cx h) k args)) same
      (uses_more it.0 (it.0 + rest.bound) ℕ (run_body (cx h) d args) (omega arith) (run_body_uses it.0 d h args (it.1 h)))
  body_at d fs it rest h (suc i) f e args = uses_more rest.bound (it.0 + rest.bound) ℕ (run_body (cx h) f args) (omega arith) (rest.bodies h i f e args)

  functions_bounded : (fs : List Function) → Functions fs
  functions_bounded [] = record { bound = 0; bodies = λ h i f e args. none_found i f e }
  functions_bounded (d ∷ fs) =
      let it = body_bounded d.body in
      let rest = functions_bounded fs in
      record { bound = it.0 + rest.bound; bodies = λ h i f e args. body_at d fs it rest h i f e args }

  call_body_uses : (n : ℕ) (f : Function) (h : ℕ) (args : List ℕ) → Uses n ℕ (run_body (cx h) f args) → Uses (1 + n) ℕ (call_body (cx h) f args)
  call_body_uses n f h args body =
      uses_cond (1 + n) ℕ (is_atomic f) (in_section (run_body (cx h) f args)) (run_body (cx h) f args)
      (uses_sum 1 n (Unit {0}) ℕ begin_section _ uses_begin (λ _.
      behind n ℕ ℕ (run_body (cx h) f args) _ body (λ v. before 0 (Unit {0}) ℕ end_section (λ _. pure v) uses_end_section (λ _. uses_pure 0 ℕ v))))
      (uses_more n (1 + n) ℕ (run_body (cx h) f args) (omega arith) body)

  with_uses : (n h : ℕ) (o : Option Function) → ((f : Function) → o ≡ Some f → (args : List ℕ) → Uses n ℕ (run_body (cx h) f args)) → (args : List ℕ) → Uses (1 + n) ℕ (with_function o (λ f. call_body (cx h) f args))
  with_uses n h None bodies args = uses_stop (1 + n) ℕ
  with_uses n h (Some f) bodies args = call_body_uses n f h args (bodies f refl args)

-- ---- calls and threads

module _ (p : Checked) where
  abbrev fs : List Function
  fs = functions_of p.program.items

  abbrev within : ℕ → ℕ → ℕ → List ℕ → Step ℕ
  within n h f args = call_within n (setting_of p h) f args

  abbrev CallsBounded : ℕ → Type 0
  CallsBounded n = (k : ℕ) × ((h f : ℕ) (args : List ℕ) → Uses k ℕ (within n h f args))

  calls_bounded : (n : ℕ) → CallsBounded n
  calls_bounded zero = (0, λ h f args. uses_stop 0 ℕ)
  calls_bounded (suc n) =
      let rest = calls_bounded n in
      let all = functions_bounded p (within n) rest.0 rest.1 fs in
      (1 + all.bound, λ h f args. with_uses p (within n) rest.0 rest.1 all.bound h (slice_get fs f) (λ d e xs. all.bodies h f d e xs) args)

  abbrev depth : ℕ
  depth = length fs

  threads_bounded : (n : ℕ) × ((h i : ℕ) (f : Function) → slice_get fs i ≡ Some f → (arg : ℕ) → Uses n ⊥ (thread_steps (setting_of p h) f arg))
  threads_bounded =
      let rest = calls_bounded depth in
      let all = functions_bounded p (within depth) rest.0 rest.1 fs in (
        all.bound,
        λ h i f e arg.
            before all.bound (Unit {0}) ⊥ (make action.Start) _ (uses_make 0 action.Start) (λ _.
            behind all.bound ℕ ⊥ (run_body (context_within depth (setting_of p h)) f (arg ∷ [])) (λ _. finish) (all.bodies h i f e (arg ∷ [])) (λ _. uses_finish 0 ⊥)),
      )

  pub runs_bounded : (n : ℕ) × UsesAtMost p n
  runs_bounded =
      let it = threads_bounded in (
        it.0,
        record {
          whole = λ f handle arg script r e.
              let told : Ran p f handle arg script r = ran p f handle arg script r e in
              let uses : used_in (thread_steps (setting_of p handle) told.function arg (begins script)) ≤ 0 + it.0 = (it.1 handle f told.function told.is arg).fits (begins script) in
              let over : told.state.used ≤ 0 + it.0 = subst (λ (o : Outcome ⊥). used_in o ≤ 0 + it.0) told.goes uses in
              let same : told.state.used ≡ r.used = ap (λ (r : Run). r.used) told.run in
              omega (arith, over, same);
          short = λ f handle arg script r e.
              let told : RanShort p f handle arg script r = ran_short p f handle arg script r e in
              let uses : used_in (thread_steps (setting_of p handle) told.function arg (begins script)) ≤ 0 + it.0 = (it.1 handle f told.function told.is arg).fits (begins script) in
              let over : told.state.used ≤ 0 + it.0 = subst (λ (o : Outcome ⊥). used_in o ≤ 0 + it.0) told.goes uses in
              let same : told.state.used ≡ r.used = ap (λ (r : ShortRun). r.used) told.run in
              omega (arith, over, same);
        },
      )
