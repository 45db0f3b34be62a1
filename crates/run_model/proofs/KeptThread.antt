-- What the parts of every run keep, statements, calls of functions and threads keep.
use Rattle.std.proofs.Common.{◌≡◌, ℕ, zero, suc, ◌+◌, List, [], ◌∷◌, ◌++◌, Option, Some, None, map, length, take, sym, subst}
use Rattle.std.specs.Prelude.{slice_get, replicate}
use Rattle.dg_base.specs.declared.Place.{Place}
use Rattle.dg_base.specs.Values.{is_true}
use Rattle.axiom_model.specs.declared.Action.TheVariants as action
use Rattle.c_tree.specs.declared.expr.TypeWord.{TypeWord}
use Rattle.c_tree.specs.declared.expr.TypeWord.TheVariants as type
use Rattle.c_tree.specs.declared.expr.Expr.{Expr}
use Rattle.c_tree.specs.declared.stmt.Initialiser.{Initialiser}
use Rattle.c_tree.specs.declared.stmt.Initialiser.TheVariants.{One, Braces}
use Rattle.c_tree.specs.declared.stmt.Declarator.{Declarator}
use Rattle.c_tree.specs.declared.stmt.Start.{Start}
use Rattle.c_tree.specs.declared.stmt.Start.TheVariants as start
use Rattle.c_tree.specs.declared.stmt.Stmt.{Stmt, fold-roll-Stmt, ind-Stmt, map-Stmt}
use Rattle.c_tree.specs.declared.stmt.Stmt.TheOpen.{Stmt-F}
use Rattle.c_tree.specs.declared.stmt.Stmt.TheViews.{roll-Stmt}
use Rattle.c_tree.specs.declared.program.Function.{Function}
use Rattle.c_tree.specs.Operators.{word_unsigned}
use Rattle.c_rules.specs.Names.{Name}
use Rattle.c_check.specs.Limits.{cell_count}
use Rattle.run_model.specs.declared.state.Local.{Local}
use Rattle.run_model.specs.declared.state.Flow.{Flow}
use Rattle.run_model.specs.declared.state.Flow.TheVariants.{Next, Broke, Continued, Returned}
use Rattle.run_model.specs.declared.state.Need.TheVariants.{Any}
use Rattle.run_model.specs.declared.state.Slot.TheVariants.{Own}
use Rattle.run_model.specs.Steps.{Step, ◌>>=◌, ◌>>◌, pure, nothing, look, change, make, take_number, begin_section, end_section, stop}
use Rattle.run_model.specs.Cells.{write}
use Rattle.run_model.specs.Calls.{Meaning, Setting, Context, spend, finish}
use Rattle.run_model.specs.Meaning.{eval}
use Rattle.run_model.specs.Statements.{then_next, scoped, leaves, unless_left, loop, do_loop, first_values, store_from, enter, declare_one, declare_all, eval_if, begin_for, turns, stmt_step, execute, execute_all}
use Rattle.run_model.specs.Threads.{parameters, result_of, run_body, is_atomic, in_section, call_body, with_function, call_within, context_within, thread_within}
use Rattle.run_model.proofs.Kept.{Keeps, kept_then, kept_nothing, kept_look, kept_cond, kept_stop, kept_spend, kept_begin, kept_finish_section, kept_write, kept_finish}
use Rattle.run_model.proofs.KeptMeaning.{KeptArguments, KeptContext, kept_meaning}

module _ (handle : ℕ) (P : (A : Type 0) → Step A → Type 0) (k : Keeps handle P) where
  module _ (cx : Context) (keeps : KeptContext handle P k cx) where
    kept_eval : (e : Expr) → P ℕ (eval cx e)
    kept_eval e = (kept_meaning handle P k cx keeps e).run

    kept_eval_if : (v : ℕ) (o : Option Expr) → P ℕ (eval_if cx v o)
    kept_eval_if v None = k.of_pure ℕ v
    kept_eval_if v (Some e) = kept_eval e

    -- ---- declarations

    kept_store : (l j : ℕ) (m : Step ℕ) (rest : Step (Unit {0})) → P ℕ m → P (Unit {0}) rest → P (Unit {0}) (m >>= (λ v. write (Own l j) v >> rest))
    kept_store l j m rest p q = k.of_then ℕ (Unit {0}) m (λ v. write (Own l j) v >> rest) p (λ v. kept_then handle P k (write (Own l j) v) rest (kept_write handle P k (Own l j) v) q)

    kept_store_taken : (l j n : ℕ) → P (Unit {0}) (store_from l j (replicate n (take_number Any)))
    kept_store_taken l j zero = kept_nothing handle P k
    kept_store_taken l j (suc n) = kept_store l j (take_number Any) (store_from l (j + 1) (replicate n (take_number Any))) (k.of_taking Any) (kept_store_taken l (j + 1) n)

    kept_store_all : (l j : ℕ) (es : List Expr) → P (Unit {0}) (store_from l j (map (eval cx) es))
    kept_store_all l j [] = kept_nothing handle P k
    kept_store_all l j (e ∷ es) = kept_store l j (eval cx e) (store_from l (j + 1) (map (eval cx) es)) (kept_eval e) (kept_store_all l (j + 1) es)

    kept_first_values : (l : ℕ) (w : TypeWord) (n : ℕ) (o : Option Initialiser) → P (Unit {0}) (store_from l 0 (first_values cx w n o))
    kept_first_values l type.Thread n None = kept_nothing handle P k
    kept_first_values l type.Int n None = kept_store_taken l 0 n
    kept_first_values l type.Uint n None = kept_store_taken l 0 n
    kept_first_values l type.Void n None = kept_store_taken l 0 n
    kept_first_values l type.VoidPointer n None = kept_store_taken l 0 n
    kept_first_values l type.Mutex n None = kept_store_taken l 0 n
    kept_first_values l type.Cond n None = kept_store_taken l 0 n
    kept_first_values l w n (Some (One e)) = kept_store_all l 0 (e ∷ [])
    kept_first_values l w n (Some (Braces es)) = kept_store_all l 0 es

    kept_declare_one : (w : TypeWord) (d : Declarator) → P (Unit {0}) (declare_one cx w d)
    kept_declare_one w d =
        k.of_then ℕ (Unit {0}) (look (λ s. length s.locals)) _ (kept_look handle P k ℕ (λ ls c n. length ls)) (λ l.
        kept_then handle P k (enter w d.name (cell_count d)) (store_from l 0 (first_values cx w (cell_count d) d.initialiser))
        (k.of_locals (λ ls. ls ++ record { name = d.name; unsigned = word_unsigned w; cells = replicate (cell_count d) 0 } ∷ []))
        (kept_first_values l w (cell_count d) d.initialiser))

    kept_declare : (w : TypeWord) (ds : List Declarator) → P (Unit {0}) (declare_all cx w ds)
    kept_declare w [] = kept_nothing handle P k
    kept_declare w (d ∷ ds) = kept_then handle P k (declare_one cx w d) (declare_all cx w ds) (kept_declare_one w d) (kept_declare w ds)

    kept_begin_for : (t : Start) → P (Unit {0}) (begin_for cx t)
    kept_begin_for start.Nothing = kept_nothing handle P k
    kept_begin_for (start.Expr e) = kept_then handle P k (eval cx e) nothing (kept_eval e) (kept_nothing handle P k)
    kept_begin_for (start.Declare d) = kept_declare d.word d.declarators

    kept_scoped : (m : Step Flow) → P Flow m → P Flow (scoped m)
    kept_scoped m p =
        k.of_then ℕ Flow (look (λ s. length s.locals)) _ (kept_look handle P k ℕ (λ ls c n. length ls)) (λ n.
        k.of_then Flow Flow m _ p (λ f.
        kept_then handle P k (change (λ s. record s { locals = take n s.locals })) (pure f) (k.of_locals (λ ls. take n ls)) (k.of_pure Flow f)))

    -- ---- loops

    kept_unless_left : (o : Option Flow) (m : Step Flow) → P Flow m → P Flow (unless_left o m)
    kept_unless_left None m p = p
    kept_unless_left (Some f) m p = k.of_pure Flow f

    kept_loop : (z : Step Flow) (n : ℕ) (t : Step ℕ) (b : Step Flow) (e : Step (Unit {0})) → P Flow z → P ℕ t → P Flow b → P (Unit {0}) e → P Flow (loop z n t b e)
    kept_loop z zero t b e o p q r = k.of_then ℕ Flow t _ p (λ v. kept_cond handle P k Flow (is_true v) z (pure Next) o (k.of_pure Flow Next))
    kept_loop z (suc n) t b e o p q r =
        k.of_then ℕ Flow t _ p (λ v.
        kept_cond handle P k Flow (is_true v) _ (pure Next)
        (k.of_then Flow Flow b _ q (λ f. kept_unless_left (leaves f) (e >> loop z n t b e) (kept_then handle P k e (loop z n t b e) r (kept_loop z n t b e o p q r))))
        (k.of_pure Flow Next))

    kept_do_loop : (z : Step Flow) (n : ℕ) (t : Step ℕ) (b : Step Flow) → P Flow z → P ℕ t → P Flow b → P Flow (do_loop z n t b)
    kept_do_loop z zero t b o p q = o
    kept_do_loop z (suc n) t b o p q =
        k.of_then Flow Flow b _ q (λ f.
        kept_unless_left (leaves f) _
        (k.of_then ℕ Flow t _ p (λ v. kept_cond handle P k Flow (is_true v) (do_loop z n t b) (pure Next) (kept_do_loop z n t b o p q) (k.of_pure Flow Next))))

    kept_turns : (p : Place) (t e : Option Expr) (b : Step Flow) → P Flow b → P Flow (turns cx p t e b)
    kept_turns p t e b q =
        kept_loop (spend cx.setting p) cx.setting.turns (eval_if cx 1 t) (scoped b) (eval_if cx 0 e >> nothing) (kept_spend handle P k Flow cx.setting p) (kept_eval_if 1 t) (kept_scoped b q)
        (kept_then handle P k (eval_if cx 0 e) nothing (kept_eval_if 0 e) (kept_nothing handle P k))

    -- ---- statements

    kept_next : (f : Flow) (m : Step Flow) → P Flow m → P Flow (then_next f m)
    kept_next Next m p = p
    kept_next Broke m p = k.of_pure Flow Broke
    kept_next Continued m p = k.of_pure Flow Continued
    kept_next (Returned v) m p = k.of_pure Flow (Returned v)

    -- a statement with the proof that it keeps the property
    abbrev Piece : Type 0
    Piece = (s : Stmt) × P Flow (execute cx s)

    kept_sequence : (ys : List Piece) → P Flow (execute_all cx (map (λ e. e.0) ys))
    kept_sequence [] = k.of_pure Flow Next
    kept_sequence (y ∷ ys) =
        k.of_then Flow Flow (execute cx y.0) (λ f. then_next f (execute_all cx (map (λ e. e.0) ys))) y.1 (λ f. kept_next f (execute_all cx (map (λ e. e.0) ys)) (kept_sequence ys))

    kept_form : (y : Stmt-F Piece) → P Flow (stmt_step cx (map-Stmt Stmt (Step Flow) (execute cx) (map-Stmt Piece Stmt (λ e. e.0) y)))
    kept_form (Stmt-F.Empty p) = k.of_pure Flow Next
    kept_form (Stmt-F.Expr p e) = kept_then handle P k (eval cx e) (pure Next) (kept_eval e) (k.of_pure Flow Next)
    kept_form (Stmt-F.Declare d) = kept_then handle P k (declare_all cx d.word d.declarators) (pure Next) (kept_declare d.word d.declarators) (k.of_pure Flow Next)
    kept_form (Stmt-F.Block p ys) = kept_scoped (execute_all cx (map (λ e. e.0) ys)) (kept_sequence ys)
    kept_form (Stmt-F.Label p n y) = kept_scoped (execute cx y.0) y.1
    kept_form (Stmt-F.If p t y None) = k.of_then ℕ Flow (eval cx t) _ (kept_eval t) (λ v. kept_cond handle P k Flow (is_true v) (scoped (execute cx y.0)) (pure Next) (kept_scoped (execute cx y.0) y.1) (k.of_pure Flow Next))
    kept_form (Stmt-F.If p t y (Some z)) = k.of_then ℕ Flow (eval cx t) _ (kept_eval t) (λ v. kept_cond handle P k Flow (is_true v) (scoped (execute cx y.0)) (scoped (execute cx z.0)) (kept_scoped (execute cx y.0) y.1) (kept_scoped (execute cx z.0) z.1))
    kept_form (Stmt-F.While p t y) = kept_turns p (Some t) None (execute cx y.0) y.1
    kept_form (Stmt-F.DoWhile p y t) = kept_do_loop (spend cx.setting p) cx.setting.turns (eval cx t) (scoped (execute cx y.0)) (kept_spend handle P k Flow cx.setting p) (kept_eval t) (kept_scoped (execute cx y.0) y.1)
    kept_form (Stmt-F.For p first t e y) =
        kept_scoped (begin_for cx first >> turns cx p t e (execute cx y.0))
        (k.of_then (Unit {0}) Flow (begin_for cx first) (λ _. turns cx p t e (execute cx y.0)) (kept_begin_for first) (λ _. kept_turns p t e (execute cx y.0) y.1))
    kept_form (Stmt-F.Return p e) = k.of_then ℕ Flow (eval_if cx 0 e) (λ v. pure (Returned v)) (kept_eval_if 0 e) (λ v. k.of_pure Flow (Returned v))
    kept_form (Stmt-F.Break p) = k.of_pure Flow Broke
    kept_form (Stmt-F.Continue p) = k.of_pure Flow Continued

    -- every statement keeps the property
    pub kept_execute : (s : Stmt) → P Flow (execute cx s)
    kept_execute =
        ind-Stmt (λ s. P Flow (execute cx s)) (λ x y is.
        subst (λ (z : Stmt-F Stmt). P Flow (execute cx (roll-Stmt z))) is
        (subst (P Flow) (sym (fold-roll-Stmt (Step Flow) (stmt_step cx) (map-Stmt Piece Stmt (λ e. e.0) y))) (kept_form y)))

    kept_body : (ss : List Stmt) → P Flow (execute_all cx ss)
    kept_body [] = k.of_pure Flow Next
    kept_body (s ∷ ss) = k.of_then Flow Flow (execute cx s) (λ f. then_next f (execute_all cx ss)) (kept_execute s) (λ f. kept_next f (execute_all cx ss) (kept_body ss))

    pub kept_run_body : (f : Function) (args : List ℕ) → P ℕ (run_body cx f args)
    kept_run_body f args =
        k.of_then (List Local) ℕ (look (λ s. s.locals)) _ (kept_look handle P k (List Local) (λ ls c n. ls)) (λ outer.
        kept_then handle P k (change (λ s. record s { locals = parameters [] 0 f.params args })) _ (k.of_locals (λ ls. parameters [] 0 f.params args))
        (k.of_then Flow ℕ (execute_all cx f.body) _ (kept_body f.body) (λ flow.
        kept_then handle P k (change (λ s. record s { locals = outer })) (pure (result_of flow)) (k.of_locals (λ ls. outer)) (k.of_pure ℕ (result_of flow)))))

    kept_call_body : (f : Function) (args : List ℕ) → P ℕ (call_body cx f args)
    kept_call_body f args =
        kept_cond handle P k ℕ (is_atomic f) (in_section (run_body cx f args)) (run_body cx f args)
        (kept_then handle P k begin_section _ (kept_begin handle P k)
        (k.of_then ℕ ℕ (run_body cx f args) _ (kept_run_body f args) (λ v. kept_then handle P k end_section (pure v) (kept_finish_section handle P k) (k.of_pure ℕ v))))
        (kept_run_body f args)

    kept_with : (o : Option Function) (args : List ℕ) → P ℕ (with_function o (λ h. call_body cx h args))
    kept_with None args = kept_stop handle P k ℕ
    kept_with (Some h) args = kept_call_body h args

  -- ---- threads

  module _ (g : Setting) (own : g.handle ≡ handle) (others : (n : Name) (ms : List Meaning) → KeptArguments handle P k ms → P ℕ (g.other n ms)) where
    kept_calls : (n f : ℕ) (args : List ℕ) → P ℕ (call_within n g f args)
    kept_calls zero f args = kept_stop handle P k ℕ
    kept_calls (suc n) f args = kept_with (context_within n g) (record { own = own; calls = kept_calls n; others = others }) (slice_get g.functions f) args

    -- every thread keeps the property
    pub kept_thread : (n : ℕ) (f : Function) (arg : ℕ) → P ⊥ (thread_within n g f arg)
    kept_thread n f arg =
        kept_then handle P k (make action.Start) _ (k.of_action action.Start tt)
        (k.of_then ℕ ⊥ (run_body (context_within n g) f (arg ∷ [])) (λ _. finish) (kept_run_body (context_within n g) (record { own = own; calls = kept_calls n; others = others }) f (arg ∷ [])) (λ _. kept_finish handle P k ⊥))
