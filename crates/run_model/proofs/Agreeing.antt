-- Expressions and statements mean the same where calls do the same, of the functions that they call.
use Rattle.std.proofs.Common.{◌≡◌, ℕ, List, [], ◌∷◌, ◌++◌, Option, Some, None, map, refl, sym, ap, ◌∙◌, subst, arith}
use Rattle.std.specs.Prelude.{length}
use Rattle.std.specs.List.{Contains}
use Rattle.std.proofs.lemmas.List.Elements.{Contains-append_left, Contains-append_right}
use Rattle.dg_base.specs.declared.Place.{Place}
use Rattle.c_tree.specs.declared.expr.TypeWord.{TypeWord}
use Rattle.c_tree.specs.declared.expr.TypeWord.TheVariants as type
use Rattle.c_tree.specs.declared.expr.Expr.{Expr, fold-roll-Expr, ind-Expr, map-Expr}
use Rattle.c_tree.specs.declared.expr.Expr.TheOpen.{Expr-F}
use Rattle.c_tree.specs.declared.expr.Expr.TheViews.{roll-Expr}
use Rattle.c_tree.specs.declared.stmt.Initialiser.{Initialiser}
use Rattle.c_tree.specs.declared.stmt.Initialiser.TheVariants.{One, Braces}
use Rattle.c_tree.specs.declared.stmt.Declarator.{Declarator}
use Rattle.c_rules.specs.Names.{Name}
use Rattle.c_check.specs.Limits.{cell_count}
use Rattle.c_rules.specs.Routines.{created_by}
use Rattle.c_check.specs.Recursion.{Called, called_step, called, called_in, called_in_start, all_called, names_in, namings}
use Rattle.run_model.specs.Steps.{Step, ◌>>=◌, ◌>>◌, look, in_turn}
use Rattle.run_model.specs.Calls.{Meaning, Setting, Context, function_named}
use Rattle.run_model.specs.Meaning.{value, call, runs_of, result_unsigned, expr_step, meaning, eval}
use Rattle.run_model.specs.Statements.{first_values, store_from, enter, declare_one}

module _ (g : Setting) (c d : ℕ → List ℕ → Step ℕ) where
  -- calls of the functions of these names do the same
  abbrev pub Agree : List Name → Type 0
  Agree names = (n : Name) → Contains names n → (f : ℕ) → function_named g n ≡ Some f → c f ≡ d f

  abbrev pub one : Context
  one = record { setting = g; call = c }

  abbrev pub two : Context
  two = record { setting = g; call = d }

  pub left : (xs ys : List Name) → Agree (xs ++ ys) → Agree xs
  left xs ys h n in_xs = h n (Contains-append_left xs ys n in_xs)

  pub right : (xs ys : List Name) → Agree (xs ++ ys) → Agree ys
  right xs ys h n in_ys = h n (Contains-append_right xs ys n in_ys)

  abbrev MeansSame : Expr → Type 0
  MeansSame e = Agree (called_in e) → meaning one e ≡ meaning two e

  abbrev Part : Type 0
  Part = (e : Expr) × MeansSame e

  abbrev exprs : List Part → List Expr
  exprs es = map (λ e. e.0) es

  args_agree : (es : List Part) → Agree (all_called (map called (exprs es))) → map (meaning one) (exprs es) ≡ map (meaning two) (exprs es)
  args_agree [] h = refl
  args_agree (e ∷ es) h =
      let names : List Name = all_called (map called (exprs es)) in
      let first : meaning one e.0 ≡ meaning two e.0 = e.1 (left (called_in e.0) names h) in
      let rest : map (meaning one) (exprs es) ≡ map (meaning two) (exprs es) = args_agree es (right (called_in e.0) names h) in
      ap (λ m. m ∷ map (meaning one) (exprs es)) first ∙ ap (λ ms. meaning two e.0 ∷ ms) rest

  call_agrees : (p : Place) (n : Name) (args : List Meaning) (o : Option ℕ) → ((f : ℕ) → o ≡ Some f → c f ≡ d f) → call one p n args o ≡ call two p n args o
  call_agrees p n args (Some f) h = ap (λ (k : List ℕ → Step ℕ). in_turn [] (runs_of args) >>= k) (h f refl)
  call_agrees p n args None h = refl

  layer : (y : Expr-F Part) → Agree ((called_step (map-Expr Expr Called called (map-Expr Part Expr (λ e. e.0) y))).names) → expr_step one (map-Expr Expr Meaning (meaning one) (map-Expr Part Expr (λ e. e.0) y)) ≡ expr_step two (map-Expr Expr Meaning (meaning two) (map-Expr Part Expr (λ e. e.0) y))
  layer (Expr-F.Name p n) h = refl
  layer (Expr-F.Number p v u) h = refl
  layer (Expr-F.Text p) h = refl
  layer (Expr-F.Bracket p e) h = e.1 h
  layer (Expr-F.Index p n e) h = ap (λ (m : Meaning). expr_step one (Expr-F.Index p n m)) (e.1 h)
  layer (Expr-F.Call p n es) h =
      let names : List Name = all_called (map called (exprs es)) in
      let rest : List Name = n ∷ names_in (created_by n (namings (map called (exprs es)))) in
      let same : map (meaning one) (exprs es) ≡ map (meaning two) (exprs es) = args_agree es (left names rest h) in
      ap (λ (ms : List Meaning). expr_step one (Expr-F.Call p n ms)) same
      ∙ ap (λ (m : Step ℕ). value (λ s. result_unsigned g n (function_named g n)) m)
      (call_agrees p n (map (meaning two) (exprs es)) (function_named g n) (λ f e. right names rest h n (0, omega arith, refl) f e))
  layer (Expr-F.Cast p w e) h = ap (λ (m : Meaning). expr_step one (Expr-F.Cast p w m)) (e.1 h)
  layer (Expr-F.Unary p o e) h = ap (λ (m : Meaning). expr_step one (Expr-F.Unary p o m)) (e.1 h)
  layer (Expr-F.StepBefore p o e) h = ap (λ (m : Meaning). expr_step one (Expr-F.StepBefore p o m)) (e.1 h)
  layer (Expr-F.StepAfter p o e) h = ap (λ (m : Meaning). expr_step one (Expr-F.StepAfter p o m)) (e.1 h)
  layer (Expr-F.Binary p o e f) h =
      ap (λ (m : Meaning). expr_step one (Expr-F.Binary p o m (meaning one f.0))) (e.1 (left (called_in e.0) (called_in f.0) h))
      ∙ ap (λ (m : Meaning). expr_step one (Expr-F.Binary p o (meaning two e.0) m)) (f.1 (right (called_in e.0) (called_in f.0) h))
  layer (Expr-F.Choose p t e f) h =
      let others : Agree (called_in e.0 ++ called_in f.0) = right (called_in t.0) (called_in e.0 ++ called_in f.0) h in
      ap (λ (m : Meaning). expr_step one (Expr-F.Choose p m (meaning one e.0) (meaning one f.0))) (t.1 (left (called_in t.0) (called_in e.0 ++ called_in f.0) h))
      ∙ ap (λ (m : Meaning). expr_step one (Expr-F.Choose p (meaning two t.0) m (meaning one f.0))) (e.1 (left (called_in e.0) (called_in f.0) others))
      ∙ ap (λ (m : Meaning). expr_step one (Expr-F.Choose p (meaning two t.0) (meaning two e.0) m)) (f.1 (right (called_in e.0) (called_in f.0) others))
  layer (Expr-F.Assign p o e f) h =
      ap (λ (m : Meaning). expr_step one (Expr-F.Assign p o m (meaning one f.0))) (e.1 (left (called_in e.0) (called_in f.0) h))
      ∙ ap (λ (m : Meaning). expr_step one (Expr-F.Assign p o (meaning two e.0) m)) (f.1 (right (called_in e.0) (called_in f.0) h))
  layer (Expr-F.Comma p e f) h =
      ap (λ (m : Meaning). expr_step one (Expr-F.Comma p m (meaning one f.0))) (e.1 (left (called_in e.0) (called_in f.0) h))
      ∙ ap (λ (m : Meaning). expr_step one (Expr-F.Comma p (meaning two e.0) m)) (f.1 (right (called_in e.0) (called_in f.0) h))
  layer (Expr-F.Address p e) h = ap (λ (m : Meaning). expr_step one (Expr-F.Address p m)) (e.1 h)

  rolled : (y : Expr-F Part) → MeansSame (roll-Expr (map-Expr Part Expr (λ e. e.0) y))
  rolled y h =
      let z : Expr-F Expr = map-Expr Part Expr (λ e. e.0) y in
      let names : Agree ((called_step (map-Expr Expr Called called z)).names) = subst (λ (x : Called). Agree x.names) (fold-roll-Expr Called called_step z) h in
      fold-roll-Expr Meaning (expr_step one) z ∙ layer y names ∙ sym (fold-roll-Expr Meaning (expr_step two) z)

  pub meaning_agrees : (e : Expr) → MeansSame e
  meaning_agrees = ind-Expr MeansSame (λ x y is. subst (λ (z : Expr-F Expr). MeansSame (roll-Expr z)) is (rolled y))

  pub eval_agrees : (e : Expr) → Agree (called_in e) → eval one e ≡ eval two e
  eval_agrees e h = ap (λ (m : Meaning). m.run) (meaning_agrees e h)

  -- ---- declarations

  evals_agree : (es : List Expr) → Agree (all_called (map called es)) → map (eval one) es ≡ map (eval two) es
  evals_agree [] h = refl
  evals_agree (e ∷ es) h =
      let names : List Name = all_called (map called es) in
      ap (λ m. m ∷ map (eval one) es) (eval_agrees e (left (called_in e) names h))
      ∙ ap (λ ms. eval two e ∷ ms) (evals_agree es (right (called_in e) names h))

  first_values_agree : (w : TypeWord) (n : ℕ) (o : Option Initialiser) → Agree (called_in_start o) → first_values one w n o ≡ first_values two w n o
  first_values_agree type.Thread n None h = refl
  first_values_agree type.Int n None h = refl
  first_values_agree type.Uint n None h = refl
  first_values_agree type.Void n None h = refl
  first_values_agree type.VoidPointer n None h = refl
  first_values_agree type.Mutex n None h = refl
  first_values_agree type.Cond n None h = refl
  first_values_agree w n (Some (One e)) h = ap (λ m. m ∷ []) (eval_agrees e h)
  first_values_agree w n (Some (Braces es)) h = evals_agree es h

  pub declare_one_agrees : (w : TypeWord) (r : Declarator) → Agree (called_in_start r.initialiser) → declare_one one w r ≡ declare_one two w r
  declare_one_agrees w r h =
      ap (λ (ms : List (Step ℕ)). look (λ s. length s.locals) >>= (λ l. enter w r.name (cell_count r) >> store_from l 0 ms))
      (first_values_agree w (cell_count r) r.initialiser h)
