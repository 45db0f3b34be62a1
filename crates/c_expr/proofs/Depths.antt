-- The depth of each form.
use Rattle.std.proofs.Common.{◌≡◌, ℕ, ◌+◌, max, Bool, List, map, sym, ap, ◌∙◌}
use Rattle.dg_base.specs.declared.Place.{Place}
use Rattle.c_tree.specs.declared.expr.TypeWord.{TypeWord}
use Rattle.c_tree.specs.declared.expr.UnaryOp.{UnaryOp}
use Rattle.c_tree.specs.declared.expr.StepOp.{StepOp}
use Rattle.c_tree.specs.declared.expr.BinaryOp.{BinaryOp}
use Rattle.c_tree.specs.declared.expr.AssignOp.{AssignOp}
use Rattle.c_tree.specs.declared.expr.Expr.{Expr, fold-roll-Expr}
use Rattle.c_tree.specs.declared.expr.Expr.TheVariants as e
use Rattle.c_tree.specs.declared.expr.Expr.TheOpen.{Expr-F}
use Rattle.c_tree.specs.Level.{greatest, expr_levels, expr_level}

pub level-name : (p : Place) (c : List ℕ) → expr_level (e.Name p c) ≡ 0
level-name p c = ap expr_level (sym (e.rolls-Name p c)) ∙ fold-roll-Expr ℕ expr_levels (Expr-F.Name p c)

pub level-number : (p : Place) (v : ℕ) (u : Bool) → expr_level (e.Number p v u) ≡ 0
level-number p v u = ap expr_level (sym (e.rolls-Number p v u)) ∙ fold-roll-Expr ℕ expr_levels (Expr-F.Number p v u)

pub level-text : (p : Place) → expr_level (e.Text p) ≡ 0
level-text p = ap expr_level (sym (e.rolls-Text p)) ∙ fold-roll-Expr ℕ expr_levels (Expr-F.Text p)

pub level-bracket : (p : Place) (x : Expr) → expr_level (e.Bracket p x) ≡ expr_level x + 1
level-bracket p x = ap expr_level (sym (e.rolls-Bracket p x)) ∙ fold-roll-Expr ℕ expr_levels (Expr-F.Bracket p x)

pub level-index : (p : Place) (c : List ℕ) (x : Expr) → expr_level (e.Index p c x) ≡ expr_level x + 1
level-index p c x = ap expr_level (sym (e.rolls-Index p c x)) ∙ fold-roll-Expr ℕ expr_levels (Expr-F.Index p c x)

pub level-call : (p : Place) (c : List ℕ) (xs : List Expr) → expr_level (e.Call p c xs) ≡ greatest (map expr_level xs) + 1
level-call p c xs = ap expr_level (sym (e.rolls-Call p c xs)) ∙ fold-roll-Expr ℕ expr_levels (Expr-F.Call p c xs)

pub level-cast : (p : Place) (k : TypeWord) (x : Expr) → expr_level (e.Cast p k x) ≡ expr_level x + 1
level-cast p k x = ap expr_level (sym (e.rolls-Cast p k x)) ∙ fold-roll-Expr ℕ expr_levels (Expr-F.Cast p k x)

pub level-unary : (p : Place) (o : UnaryOp) (x : Expr) → expr_level (e.Unary p o x) ≡ expr_level x + 1
level-unary p o x = ap expr_level (sym (e.rolls-Unary p o x)) ∙ fold-roll-Expr ℕ expr_levels (Expr-F.Unary p o x)

pub level-step_before : (p : Place) (o : StepOp) (x : Expr) → expr_level (e.StepBefore p o x) ≡ expr_level x + 1
level-step_before p o x = ap expr_level (sym (e.rolls-StepBefore p o x)) ∙ fold-roll-Expr ℕ expr_levels (Expr-F.StepBefore p o x)

pub level-step_after : (p : Place) (o : StepOp) (x : Expr) → expr_level (e.StepAfter p o x) ≡ expr_level x + 1
level-step_after p o x = ap expr_level (sym (e.rolls-StepAfter p o x)) ∙ fold-roll-Expr ℕ expr_levels (Expr-F.StepAfter p o x)

pub level-binary : (p : Place) (o : BinaryOp) (x y : Expr) → expr_level (e.Binary p o x y) ≡ max (expr_level x) (expr_level y) + 1
level-binary p o x y = ap expr_level (sym (e.rolls-Binary p o x y)) ∙ fold-roll-Expr ℕ expr_levels (Expr-F.Binary p o x y)

pub level-choose : (p : Place) (x y z : Expr) → expr_level (e.Choose p x y z) ≡ max (expr_level x) (max (expr_level y) (expr_level z)) + 1
level-choose p x y z = ap expr_level (sym (e.rolls-Choose p x y z)) ∙ fold-roll-Expr ℕ expr_levels (Expr-F.Choose p x y z)

pub level-assign : (p : Place) (o : AssignOp) (x y : Expr) → expr_level (e.Assign p o x y) ≡ max (expr_level x) (expr_level y) + 1
level-assign p o x y = ap expr_level (sym (e.rolls-Assign p o x y)) ∙ fold-roll-Expr ℕ expr_levels (Expr-F.Assign p o x y)

pub level-comma : (p : Place) (x y : Expr) → expr_level (e.Comma p x y) ≡ max (expr_level x) (expr_level y) + 1
level-comma p x y = ap expr_level (sym (e.rolls-Comma p x y)) ∙ fold-roll-Expr ℕ expr_levels (Expr-F.Comma p x y)

pub level-address : (p : Place) (x : Expr) → expr_level (e.Address p x) ≡ expr_level x + 1
level-address p x = ap expr_level (sym (e.rolls-Address p x)) ∙ fold-roll-Expr ℕ expr_levels (Expr-F.Address p x)

pub ruleset level_laws = (level-name, level-number, level-text, level-bracket, level-index, level-call, level-cast, level-unary, level-step_before, level-step_after, level-binary, level-choose, level-assign, level-comma, level-address)
