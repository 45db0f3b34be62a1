-- Which forms may be assigned to.
use Rattle.std.proofs.Common.{◌≡◌, ℕ, Bool, true, false, List, sym, ap, ◌∙◌}
use Rattle.dg_base.specs.declared.Place.{Place}
use Rattle.c_tree.specs.declared.expr.TypeWord.{TypeWord}
use Rattle.c_tree.specs.declared.expr.UnaryOp.{UnaryOp}
use Rattle.c_tree.specs.declared.expr.StepOp.{StepOp}
use Rattle.c_tree.specs.declared.expr.BinaryOp.{BinaryOp}
use Rattle.c_tree.specs.declared.expr.AssignOp.{AssignOp}
use Rattle.c_tree.specs.declared.expr.Expr.{Expr, fold-roll-Expr}
use Rattle.c_tree.specs.declared.expr.Expr.TheVariants as e
use Rattle.c_tree.specs.declared.expr.Expr.TheOpen.{Expr-F}
use Rattle.c_expr.specs.Expressions.{lvalue_step, is_lvalue}

pub lvalue-name : (p : Place) (c : List ℕ) → is_lvalue (e.Name p c) ≡ true
unfolding is_lvalue
lvalue-name p c = ap is_lvalue (sym (e.rolls-Name p c)) ∙ fold-roll-Expr Bool lvalue_step (Expr-F.Name p c)

pub lvalue-number : (p : Place) (v : ℕ) (u : Bool) → is_lvalue (e.Number p v u) ≡ false
unfolding is_lvalue
lvalue-number p v u = ap is_lvalue (sym (e.rolls-Number p v u)) ∙ fold-roll-Expr Bool lvalue_step (Expr-F.Number p v u)

pub lvalue-text : (p : Place) → is_lvalue (e.Text p) ≡ false
unfolding is_lvalue
lvalue-text p = ap is_lvalue (sym (e.rolls-Text p)) ∙ fold-roll-Expr Bool lvalue_step (Expr-F.Text p)

pub lvalue-bracket : (p : Place) (x : Expr) → is_lvalue (e.Bracket p x) ≡ is_lvalue x
unfolding is_lvalue
lvalue-bracket p x = ap is_lvalue (sym (e.rolls-Bracket p x)) ∙ fold-roll-Expr Bool lvalue_step (Expr-F.Bracket p x)

pub lvalue-index : (p : Place) (c : List ℕ) (x : Expr) → is_lvalue (e.Index p c x) ≡ true
unfolding is_lvalue
lvalue-index p c x = ap is_lvalue (sym (e.rolls-Index p c x)) ∙ fold-roll-Expr Bool lvalue_step (Expr-F.Index p c x)

pub lvalue-call : (p : Place) (c : List ℕ) (xs : List Expr) → is_lvalue (e.Call p c xs) ≡ false
unfolding is_lvalue
lvalue-call p c xs = ap is_lvalue (sym (e.rolls-Call p c xs)) ∙ fold-roll-Expr Bool lvalue_step (Expr-F.Call p c xs)

pub lvalue-cast : (p : Place) (k : TypeWord) (x : Expr) → is_lvalue (e.Cast p k x) ≡ false
unfolding is_lvalue
lvalue-cast p k x = ap is_lvalue (sym (e.rolls-Cast p k x)) ∙ fold-roll-Expr Bool lvalue_step (Expr-F.Cast p k x)

pub lvalue-unary : (p : Place) (o : UnaryOp) (x : Expr) → is_lvalue (e.Unary p o x) ≡ false
unfolding is_lvalue
lvalue-unary p o x = ap is_lvalue (sym (e.rolls-Unary p o x)) ∙ fold-roll-Expr Bool lvalue_step (Expr-F.Unary p o x)

pub lvalue-step_before : (p : Place) (o : StepOp) (x : Expr) → is_lvalue (e.StepBefore p o x) ≡ false
unfolding is_lvalue
lvalue-step_before p o x = ap is_lvalue (sym (e.rolls-StepBefore p o x)) ∙ fold-roll-Expr Bool lvalue_step (Expr-F.StepBefore p o x)

pub lvalue-step_after : (p : Place) (o : StepOp) (x : Expr) → is_lvalue (e.StepAfter p o x) ≡ false
unfolding is_lvalue
lvalue-step_after p o x = ap is_lvalue (sym (e.rolls-StepAfter p o x)) ∙ fold-roll-Expr Bool lvalue_step (Expr-F.StepAfter p o x)

pub lvalue-binary : (p : Place) (o : BinaryOp) (x y : Expr) → is_lvalue (e.Binary p o x y) ≡ false
unfolding is_lvalue
lvalue-binary p o x y = ap is_lvalue (sym (e.rolls-Binary p o x y)) ∙ fold-roll-Expr Bool lvalue_step (Expr-F.Binary p o x y)

pub lvalue-choose : (p : Place) (x y z : Expr) → is_lvalue (e.Choose p x y z) ≡ false
unfolding is_lvalue
lvalue-choose p x y z = ap is_lvalue (sym (e.rolls-Choose p x y z)) ∙ fold-roll-Expr Bool lvalue_step (Expr-F.Choose p x y z)

pub lvalue-assign : (p : Place) (o : AssignOp) (x y : Expr) → is_lvalue (e.Assign p o x y) ≡ false
unfolding is_lvalue
lvalue-assign p o x y = ap is_lvalue (sym (e.rolls-Assign p o x y)) ∙ fold-roll-Expr Bool lvalue_step (Expr-F.Assign p o x y)

pub lvalue-comma : (p : Place) (x y : Expr) → is_lvalue (e.Comma p x y) ≡ false
unfolding is_lvalue
lvalue-comma p x y = ap is_lvalue (sym (e.rolls-Comma p x y)) ∙ fold-roll-Expr Bool lvalue_step (Expr-F.Comma p x y)

pub lvalue-address : (p : Place) (x : Expr) → is_lvalue (e.Address p x) ≡ false
unfolding is_lvalue
lvalue-address p x = ap is_lvalue (sym (e.rolls-Address p x)) ∙ fold-roll-Expr Bool lvalue_step (Expr-F.Address p x)

pub ruleset lvalue_laws = (lvalue-name, lvalue-number, lvalue-text, lvalue-bracket, lvalue-index, lvalue-call, lvalue-cast, lvalue-unary, lvalue-step_before, lvalue-step_after, lvalue-binary, lvalue-choose, lvalue-assign, lvalue-comma, lvalue-address)
