-- Bodies of functions do the same where calls do the same, of the functions that they call.
use Rattle.std.proofs.Common.{◌≡◌, ℕ, List, [], ◌∷◌, ◌++◌, Option, Some, None, map, refl, sym, ap, ◌∙◌, subst}
use Rattle.std.specs.Prelude.{cond}
use Rattle.dg_base.specs.declared.Place.{Place}
use Rattle.dg_base.specs.Values.{is_true}
use Rattle.c_tree.specs.declared.expr.TypeWord.{TypeWord}
use Rattle.c_tree.specs.declared.expr.Expr.{Expr}
use Rattle.c_tree.specs.declared.stmt.Declarator.{Declarator}
use Rattle.c_tree.specs.declared.stmt.Start.{Start}
use Rattle.c_tree.specs.declared.stmt.Start.TheVariants as start
use Rattle.c_tree.specs.declared.stmt.Stmt.{Stmt, fold-roll-Stmt, ind-Stmt, map-Stmt}
use Rattle.c_tree.specs.declared.stmt.Stmt.TheOpen.{Stmt-F}
use Rattle.c_tree.specs.declared.stmt.Stmt.TheViews.{roll-Stmt}
use Rattle.c_tree.specs.declared.program.Function.{Function}
use Rattle.c_rules.specs.Names.{Name}
use Rattle.c_check.specs.Recursion.{called_in, called_in_option, called_in_start, called_in_declarators, called_in_for, in_all, calls_step, called_in_stmt, called_by}
use Rattle.run_model.specs.declared.state.Flow.{Flow}
use Rattle.run_model.specs.declared.state.Flow.TheVariants.{Next, Returned}
use Rattle.run_model.specs.Steps.{Step, ◌>>=◌, ◌>>◌, pure, nothing, look, change}
use Rattle.run_model.specs.Calls.{Setting, Context, spend}
use Rattle.run_model.specs.Meaning.{eval}
use Rattle.run_model.specs.Statements.{then_next, scoped, loop, do_loop, declare_one, declare_all, eval_if, begin_for, turns, stmt_step, execute, execute_all}
use Rattle.run_model.specs.Threads.{run_body, is_atomic, in_section, call_body, parameters, result_of}
use Rattle.run_model.proofs.Agreeing.{Agree, one, two, left, right, eval_agrees, declare_one_agrees}

module _ (g : Setting) (c d : ℕ → List ℕ → Step ℕ) where
  abbrev cx : Context
  cx = one g c d

  abbrev cy : Context
  cy = two g c d

  abbrev Same : List Name → Type 0
  Same = Agree g c d

  eval_same : (e : Expr) → Same (called_in e) → eval cx e ≡ eval cy e
  eval_same = eval_agrees g c d

  declares_agree : (w : TypeWord) (ds : List Declarator) → Same (called_in_declarators ds) → declare_all cx w ds ≡ declare_all cy w ds
  declares_agree w [] h = refl
  declares_agree w (r ∷ ds) h =
      let size : List Name = called_in_option r.size in
      let first : List Name = called_in_start r.initialiser in
      let rest : List Name = called_in_declarators ds in
      let behind : Same (first ++ rest) = right g c d size (first ++ rest) h in
      ap (λ (m : Step (Unit {0})). m >> declare_all cx w ds) (declare_one_agrees g c d w r (left g c d first rest behind))
      ∙ ap (λ (m : Step (Unit {0})). declare_one cy w r >> m) (declares_agree w ds (right g c d first rest behind))

  option_agrees : (v : ℕ) (o : Option Expr) → Same (called_in_option o) → eval_if cx v o ≡ eval_if cy v o
  option_agrees v None h = refl
  option_agrees v (Some e) h = eval_same e h

  start_agrees : (t : Start) → Same (called_in_for t) → begin_for cx t ≡ begin_for cy t
  start_agrees start.Nothing h = refl
  start_agrees (start.Expr e) h = ap (λ (m : Step ℕ). m >> nothing) (eval_same e h)
  start_agrees (start.Declare r) h = declares_agree r.word r.declarators h

  -- ---- statements

  abbrev DoesSame : Stmt → Type 0
  DoesSame t = Same (called_in_stmt t) → execute cx t ≡ execute cy t

  abbrev Piece : Type 0
  Piece = (t : Stmt) × DoesSame t

  abbrev stmts : List Piece → List Stmt
  stmts ys = map (λ e. e.0) ys

  sequence_agrees : (ys : List Piece) → Same (in_all (map called_in_stmt (stmts ys))) → execute_all cx (stmts ys) ≡ execute_all cy (stmts ys)
  sequence_agrees [] h = refl
  sequence_agrees (y ∷ ys) h =
      let first : List Name = called_in_stmt y.0 in
      let rest : List Name = in_all (map called_in_stmt (stmts ys)) in
      ap (λ (m : Step Flow). m >>= (λ f. then_next f (execute_all cx (stmts ys)))) (y.1 (left g c d first rest h))
      ∙ ap (λ (m : Step Flow). execute cy y.0 >>= (λ f. then_next f m)) (sequence_agrees ys (right g c d first rest h))

  turns_agree : (w : Place) (t e : Option Expr) (m n : Step Flow) → eval_if cx 1 t ≡ eval_if cy 1 t → eval_if cx 0 e ≡ eval_if cy 0 e → m ≡ n → turns cx w t e m ≡ turns cy w t e n
  turns_agree w t e m n p q r =
      ap (λ (z : Step ℕ). loop (spend g w) g.turns z (scoped m) (eval_if cx 0 e >> nothing)) p
      ∙ ap (λ (z : Step ℕ). loop (spend g w) g.turns (eval_if cy 1 t) (scoped m) (z >> nothing)) q
      ∙ ap (λ (z : Step Flow). loop (spend g w) g.turns (eval_if cy 1 t) (scoped z) (eval_if cy 0 e >> nothing)) r

  form : (y : Stmt-F Piece) → Same (calls_step (map-Stmt Stmt (List Name) called_in_stmt (map-Stmt Piece Stmt (λ e. e.0) y)))
      → stmt_step cx (map-Stmt Stmt (Step Flow) (execute cx) (map-Stmt Piece Stmt (λ e. e.0) y)) ≡ stmt_step cy (map-Stmt Stmt (Step Flow) (execute cy) (map-Stmt Piece Stmt (λ e. e.0) y))
  form (Stmt-F.Empty p) h = refl
  form (Stmt-F.Expr p e) h = ap (λ (m : Step ℕ). m >> pure Next) (eval_same e h)
  form (Stmt-F.Declare r) h = ap (λ (m : Step (Unit {0})). m >> pure Next) (declares_agree r.word r.declarators h)
  form (Stmt-F.Block p ys) h = ap scoped (sequence_agrees ys h)
  form (Stmt-F.Label p n y) h = ap scoped (y.1 h)
  form (Stmt-F.If p t y None) h =
      let test : List Name = called_in t in
      let yes : List Name = called_in_stmt y.0 in
      ap (λ (m : Step ℕ). m >>= (λ v. cond (is_true v) (scoped (execute cx y.0)) (pure Next))) (eval_same t (left g c d test (yes ++ []) h))
      ∙ ap (λ (m : Step Flow). eval cy t >>= (λ v. cond (is_true v) (scoped m) (pure Next))) (y.1 (left g c d yes [] (right g c d test (yes ++ []) h)))
  form (Stmt-F.If p t y (Some z)) h =
      let test : List Name = called_in t in
      let yes : List Name = called_in_stmt y.0 in
      let no : List Name = called_in_stmt z.0 in
      let both : Same (yes ++ no) = right g c d test (yes ++ no) h in
      ap (λ (m : Step ℕ). m >>= (λ v. cond (is_true v) (scoped (execute cx y.0)) (scoped (execute cx z.0)))) (eval_same t (left g c d test (yes ++ no) h))
      ∙ ap (λ (m : Step Flow). eval cy t >>= (λ v. cond (is_true v) (scoped m) (scoped (execute cx z.0)))) (y.1 (left g c d yes no both))
      ∙ ap (λ (m : Step Flow). eval cy t >>= (λ v. cond (is_true v) (scoped (execute cy y.0)) (scoped m))) (z.1 (right g c d yes no both))
  form (Stmt-F.While p t y) h =
      let test : List Name = called_in t in
      let body : List Name = called_in_stmt y.0 in
      turns_agree p (Some t) None (execute cx y.0) (execute cy y.0) (eval_same t (left g c d test body h)) refl (y.1 (right g c d test body h))
  form (Stmt-F.DoWhile p y t) h =
      let body : List Name = called_in_stmt y.0 in
      let test : List Name = called_in t in
      ap (λ (m : Step ℕ). do_loop (spend g p) g.turns m (scoped (execute cx y.0))) (eval_same t (right g c d body test h))
      ∙ ap (λ (m : Step Flow). do_loop (spend g p) g.turns (eval cy t) (scoped m)) (y.1 (left g c d body test h))
  form (Stmt-F.For p first t e y) h =
      let begun : List Name = called_in_for first in
      let test : List Name = called_in_option t in
      let step : List Name = called_in_option e in
      let body : List Name = called_in_stmt y.0 in
      let rest : Same (test ++ (step ++ body)) = right g c d begun (test ++ (step ++ body)) h in
      let last : Same (step ++ body) = right g c d test (step ++ body) rest in
      ap (λ (m : Step (Unit {0})). scoped (m >> turns cx p t e (execute cx y.0))) (start_agrees first (left g c d begun (test ++ (step ++ body)) h))
      ∙ ap (λ (m : Step Flow). scoped (begin_for cy first >> m))
      (turns_agree p t e (execute cx y.0) (execute cy y.0) (option_agrees 1 t (left g c d test (step ++ body) rest))
      (option_agrees 0 e (left g c d step body last)) (y.1 (right g c d step body last)))
  form (Stmt-F.Return p e) h = ap (λ (m : Step ℕ). m >>= (λ v. pure (Returned v))) (option_agrees 0 e h)
  form (Stmt-F.Break p) h = refl
  form (Stmt-F.Continue p) h = refl

  rolled : (y : Stmt-F Piece) → DoesSame (roll-Stmt (map-Stmt Piece Stmt (λ e. e.0) y))
  rolled y h =
      let z : Stmt-F Stmt = map-Stmt Piece Stmt (λ e. e.0) y in
      let names : Same (calls_step (map-Stmt Stmt (List Name) called_in_stmt z)) = subst Same (fold-roll-Stmt (List Name) calls_step z) h in
      fold-roll-Stmt (Step Flow) (stmt_step cx) z ∙ form y names ∙ sym (fold-roll-Stmt (Step Flow) (stmt_step cy) z)

  stmt_agrees : (t : Stmt) → DoesSame t
  stmt_agrees = ind-Stmt DoesSame (λ x y is. subst (λ (z : Stmt-F Stmt). DoesSame (roll-Stmt z)) is (rolled y))

  body_agrees : (ts : List Stmt) → Same (in_all (map called_in_stmt ts)) → execute_all cx ts ≡ execute_all cy ts
  body_agrees [] h = refl
  body_agrees (t ∷ ts) h =
      let first : List Name = called_in_stmt t in
      let rest : List Name = in_all (map called_in_stmt ts) in
      ap (λ (m : Step Flow). m >>= (λ f. then_next f (execute_all cx ts))) (stmt_agrees t (left g c d first rest h))
      ∙ ap (λ (m : Step Flow). execute cy t >>= (λ f. then_next f m)) (body_agrees ts (right g c d first rest h))

  pub run_body_agrees : (f : Function) (args : List ℕ) → Same (called_by f) → run_body cx f args ≡ run_body cy f args
  run_body_agrees f args h =
      ap (λ (m : Step Flow). look (λ s. s.locals) >>= (λ outer. change (λ s. record s { locals = parameters [] 0 f.params args }) >> (m >>= (λ flow. change (λ s. record s { locals = outer }) >> pure (result_of flow)))))
      (body_agrees f.body h)

  pub call_body_agrees : (f : Function) (args : List ℕ) → Same (called_by f) → call_body cx f args ≡ call_body cy f args
  call_body_agrees f args h = ap (λ (m : Step ℕ). cond (is_atomic f) (in_section m) m) (run_body_agrees f args h)
