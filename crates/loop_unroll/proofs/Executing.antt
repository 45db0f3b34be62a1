-- Every statement whose sections stand as they should does what the thread does.
use Rattle.std.proofs.Common.{◌≡◌, List, [], ◌∷◌, None, false, map, refl, sym, ap, subst}
use Rattle.c_tree.specs.declared.expr.Expr.{Expr}
use Rattle.c_tree.specs.declared.stmt.Stmt.{Stmt, fold-roll-Stmt, ind-Stmt, map-Stmt}
use Rattle.c_tree.specs.declared.stmt.Stmt.TheOpen.{Stmt-F}
use Rattle.c_tree.specs.declared.stmt.Stmt.TheViews.{roll-Stmt}
use Rattle.c_check.specs.declared.sections.Inside.{Inside}
use Rattle.c_check.specs.Sections.{first_mark, Sectioned, in_block, section_step, sectioned}
use Rattle.run_model.specs.declared.state.Flow.{Flow}
use Rattle.run_model.specs.Steps.{Step}
use Rattle.run_model.specs.Calls as calls
use Rattle.run_model.specs.Meaning as meanings
use Rattle.run_model.specs.Statements as model
use Rattle.emit_steps.specs.Pieces as pieces
use Rattle.loop_unroll.specs.Stating.{Body, stmt_step, execute, execute_all}
use Rattle.emit_steps.proofs.AddingExprs.{AddsCalls}
use Rattle.loop_unroll.proofs.AddingFunctions.{NoMarks}
use Rattle.emit_steps.proofs.Running.{Machine}
use Rattle.emit_steps.proofs.Evaluating.{SimPiece}
use Rattle.loop_unroll.proofs.Flows.{SimBody}
use Rattle.loop_unroll.proofs.Stepping.{step_sim}
use Rattle.loop_unroll.proofs.Blocks.{sim_statements, sim_block}

same_list : {X : Type 0} (xs : List X) → map (λ x. x) xs ≡ xs
same_list [] = refl
same_list (x ∷ xs) = ap (λ ys. x ∷ ys) (same_list xs)

module _ (m : Machine) (ec : pieces.Context) (rc : calls.Context) (adds : AddsCalls ec) (emits : NoMarks ec.setting) (runs : NoMarks rc.setting) where
  -- the statement does what the thread does, wherever nothing is broken in it
  abbrev pub SimStmt : Stmt → Type 0
  SimStmt s = (i : Inside) → (sectioned s).found i ≡ None → SimBody m (execute ec s) (model.execute rc s)

  abbrev Part : Type 0
  Part = (s : Stmt) × SimStmt s

  abbrev kids : Stmt-F Part → Stmt-F Stmt
  kids y = map-Stmt Part Stmt (λ e. e.0) y

  module _
      (same_turns : ec.setting.turns ≡ rc.setting.turns) (same_full : ec.setting.full ≡ rc.setting.full)
      (sims : (x : Expr) → first_mark x ≡ None → SimPiece m (pieces.piece ec x) (meanings.meaning rc x)) where
    -- each form does, where its parts do
    form : (y : Stmt-F Part) (i : Inside) → (section_step (map-Stmt Stmt Sectioned sectioned (kids y))).found i ≡ None → SimBody m (stmt_step ec (map-Stmt Stmt Body (execute ec) (kids y))) (model.stmt_step rc (map-Stmt Stmt (Step Flow) (model.execute rc) (kids y)))
    form = step_sim m ec rc adds same_turns same_full sims Part (λ y. y.0) (λ y. y.1) (sim_block m ec rc adds emits runs Part (λ y. y.0) (λ y. y.1))

    pub sim_execute : (s : Stmt) → SimStmt s
    sim_execute =
        ind-Stmt SimStmt (λ z y is.
        subst (λ (w : Stmt-F Stmt). SimStmt (roll-Stmt w)) is (λ i whole.
        subst (λ (b : Body). SimBody m b (model.execute rc (roll-Stmt (kids y)))) (sym (fold-roll-Stmt Body (stmt_step ec) (kids y)))
        (subst (λ (st : Step Flow). SimBody m (stmt_step ec (map-Stmt Stmt Body (execute ec) (kids y))) st) (sym (fold-roll-Stmt (Step Flow) (model.stmt_step rc) (kids y)))
        (form y i (subst (λ (x : Sectioned). x.found i ≡ None) (fold-roll-Stmt Sectioned section_step (kids y)) whole)))))

    -- the statements of a body in turn
    pub sim_execute_all : (ss : List Stmt) (i : Inside) → in_block false i (map sectioned ss) ≡ None → SimBody m (execute_all ec ss) (model.execute_all rc ss)
    sim_execute_all ss i =
        subst (λ (ts : List Stmt). in_block false i (map sectioned ts) ≡ None → SimBody m (execute_all ec ts) (model.execute_all rc ts)) (same_list ss) (sim_statements m ec rc adds emits runs Stmt (λ s. s) sim_execute ss i)
