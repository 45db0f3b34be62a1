-- An expression without a begin or an end adds steps under its guard.
use Rattle.std.proofs.Common.{◌≡◌, ℕ, List, [], ◌∷◌, Option, Some, None, map, refl, sym, ◌∙◌, subst}
use Rattle.dg_base.specs.declared.Place.{Place}
use Rattle.c_tree.specs.declared.expr.Expr.{Expr, fold-roll-Expr, ind-Expr, map-Expr}
use Rattle.c_tree.specs.declared.expr.Expr.TheOpen.{Expr-F}
use Rattle.c_tree.specs.declared.expr.Expr.TheViews.{roll-Expr}
use Rattle.c_tree.specs.Operators.{unary_op}
use Rattle.c_rules.specs.declared.builtin.Builtin.{Builtin}
use Rattle.c_rules.specs.Names.{Name, or_else, builtin_named}
use Rattle.c_rules.specs.Scopes.{First, first_of}
use Rattle.c_check.specs.Sections.{broken_call, mark_step, first_mark}
use Rattle.run_model.specs.Calls.{function_named}
use Rattle.emit_steps.specs.Emitting.{none}
use Rattle.emit_steps.specs.Pieces.{Piece, Context, count, call, call_builtin, values_of, expr_step, piece}
use Rattle.emit_steps.proofs.Growth.{Each}
use Rattle.emit_steps.proofs.Marks.{both_none, plain_call}
use Rattle.emit_steps.proofs.Adding.{Adds, adds_pure, adds_then, adds_number, adds_set, here, adds_stop}
use Rattle.emit_steps.proofs.AddingForms.{AddsPiece, before_cells, adds_find, adds_value, adds_lvalue, adds_binary, adds_assign, adds_count, adds_choose, adds_builtin, adds_values, adds_no_value}

-- what is emitted for calls of functions adds steps under its guard
abbrev pub AddsCalls : Context → Type 0
AddsCalls cx = (f : ℕ) (args : List ℕ) (g : ℕ) → Adds (g ∷ []) (cx.call f args g)

module _ (cx : Context) (calls : AddsCalls cx) where
  abbrev Whole : Expr → Type 0
  Whole e = first_mark e ≡ None → AddsPiece (piece cx e)

  abbrev Part : Type 0
  Part = (e : Expr) × Whole e

  abbrev exprs : List Part → List Expr
  exprs ys = map (λ (y : Part). y.0) ys

  parts_add : (ys : List Part) → first_of (map first_mark (exprs ys)) ≡ None → Each AddsPiece (map (piece cx) (exprs ys))
  parts_add [] h = tt
  parts_add (y ∷ ys) h = let both : (first_mark y.0 ≡ None) × (first_of (map first_mark (exprs ys)) ≡ None) = both_none (first_mark y.0) (first_of (map first_mark (exprs ys))) h in (y.1 both.0, parts_add ys both.1)

  adds_named : (p : Place) (n : Name) (ms : List Piece) (g : ℕ) (o : Option Builtin) → builtin_named n ≡ o → broken_call p n ≡ None → Each AddsPiece ms → Adds (g ∷ []) (call_builtin cx.setting p o ms g)
  adds_named p n ms g None is whole h = adds_no_value (g ∷ []) _ (adds_stop (g ∷ []) g (here g []))
  adds_named p n ms g (Some c) is whole h = adds_builtin cx.setting p c ms g (plain_call p n c whole is) h

  pub adds_call : (p : Place) (n : Name) (ms : List Piece) (g : ℕ) (o : Option ℕ) → broken_call p n ≡ None → Each AddsPiece ms → Adds (g ∷ []) (call cx p n ms o g)
  adds_call p n ms g (Some f) whole h = adds_then (g ∷ []) (values_of [] ms g) _ (adds_values [] ms g h) (λ vs. calls f vs g)
  adds_call p n ms g None whole h = adds_named p n ms g (builtin_named n) refl whole h

  layer : (y : Expr-F Part) → mark_step (map-Expr Expr First first_mark (map-Expr Part Expr (λ e. e.0) y)) ≡ None → AddsPiece (expr_step cx (map-Expr Expr Piece (piece cx) (map-Expr Part Expr (λ e. e.0) y)))
  layer (Expr-F.Name p n) h = adds_lvalue (Some n) _ _ (λ g. adds_find (g ∷ []) cx.setting.shared p n g None (here g []))
  layer (Expr-F.Number p v u) h = adds_value _ _ (λ g. adds_number (g ∷ []) v)
  layer (Expr-F.Text p) h = adds_value _ _ (λ g. adds_pure (g ∷ []) none)
  layer (Expr-F.Bracket p e) h = e.1 h
  layer (Expr-F.Index p n e) h = adds_lvalue None _ _ (λ g. before_cells (g ∷ []) ((piece cx e.0).run g) _ ((e.1 h).run g) (λ v. adds_find (g ∷ []) cx.setting.shared p n g (Some v) (here g [])))
  layer (Expr-F.Call p n ys) h =
      let both : (broken_call p n ≡ None) × (first_of (map first_mark (exprs ys)) ≡ None) = both_none (broken_call p n) (first_of (map first_mark (exprs ys))) h in
      adds_value _ _ (λ g. adds_call p n (map (piece cx) (exprs ys)) g (function_named cx.setting n) both.0 (parts_add ys both.1))
  layer (Expr-F.Cast p w e) h = adds_value _ _ (λ g. (e.1 h).run g)
  layer (Expr-F.Unary p o e) h = adds_value _ _ (λ g. adds_then (g ∷ []) ((piece cx e.0).run g) _ ((e.1 h).run g) (λ v. adds_set (g ∷ []) g (unary_op o) (v ∷ []) (here g [])))
  layer (Expr-F.StepBefore p o e) h = adds_value _ _ (λ g. adds_then (g ∷ []) (count p o (piece cx e.0) g) _ (adds_count p o (piece cx e.0) (e.1 h) g) (λ w. adds_pure (g ∷ []) w.1))
  layer (Expr-F.StepAfter p o e) h = adds_value _ _ (λ g. adds_then (g ∷ []) (count p o (piece cx e.0) g) _ (adds_count p o (piece cx e.0) (e.1 h) g) (λ w. adds_pure (g ∷ []) w.0))
  layer (Expr-F.Binary p o e f) h =
      let both : (first_mark e.0 ≡ None) × (first_mark f.0 ≡ None) = both_none (first_mark e.0) (first_mark f.0) h in
      adds_value _ _ (λ g. adds_binary p o (piece cx e.0) (piece cx f.0) (e.1 both.0) (f.1 both.1) g)
  layer (Expr-F.Choose p t e f) h =
      let first : (first_mark t.0 ≡ None) × (or_else (first_mark e.0) (first_mark f.0) ≡ None) = both_none (first_mark t.0) (or_else (first_mark e.0) (first_mark f.0)) h in
      let both : (first_mark e.0 ≡ None) × (first_mark f.0 ≡ None) = both_none (first_mark e.0) (first_mark f.0) first.1 in
      adds_value _ _ (λ g. adds_choose (piece cx t.0) (piece cx e.0) (piece cx f.0) (t.1 first.0) (e.1 both.0) (f.1 both.1) g)
  layer (Expr-F.Assign p o e f) h =
      let both : (first_mark e.0 ≡ None) × (first_mark f.0 ≡ None) = both_none (first_mark e.0) (first_mark f.0) h in
      adds_value _ _ (λ g. adds_assign p o (piece cx e.0) (piece cx f.0) (e.1 both.0) (f.1 both.1) g)
  layer (Expr-F.Comma p e f) h =
      let both : (first_mark e.0 ≡ None) × (first_mark f.0 ≡ None) = both_none (first_mark e.0) (first_mark f.0) h in
      adds_value _ _ (λ g. adds_then (g ∷ []) ((piece cx e.0).run g) _ ((e.1 both.0).run g) (λ _. (f.1 both.1).run g))
  layer (Expr-F.Address p e) h = record { run = λ g. adds_pure (g ∷ []) none; find = (e.1 h).find }

  pub adds_piece : (e : Expr) → first_mark e ≡ None → AddsPiece (piece cx e)
  adds_piece =
      ind-Expr Whole (λ x y is.
      subst (λ (z : Expr-F Expr). Whole (roll-Expr z)) is (λ whole.
      subst AddsPiece (sym (fold-roll-Expr Piece (expr_step cx) (map-Expr Part Expr (λ e. e.0) y)))
      (layer y (sym (fold-roll-Expr First mark_step (map-Expr Part Expr (λ e. e.0) y)) ∙ whole))))
