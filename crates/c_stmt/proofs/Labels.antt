-- Which expressions are labels before a `:`.
use Rattle.std.proofs.Common.{◌≡◌, ℕ, Bool, List, Option, Some, None, sym, ap, ◌∙◌}
use Rattle.dg_base.specs.declared.Place.{Place}
use Rattle.c_tree.specs.declared.expr.TypeWord.{TypeWord}
use Rattle.c_tree.specs.declared.expr.UnaryOp.{UnaryOp}
use Rattle.c_tree.specs.declared.expr.StepOp.{StepOp}
use Rattle.c_tree.specs.declared.expr.BinaryOp.{BinaryOp}
use Rattle.c_tree.specs.declared.expr.AssignOp.{AssignOp}
use Rattle.c_tree.specs.declared.expr.Expr.{Expr, fold-roll-Expr}
use Rattle.c_tree.specs.declared.expr.Expr.TheVariants as e
use Rattle.c_tree.specs.declared.expr.Expr.TheOpen.{Expr-F}
use Rattle.c_stmt.specs.Machine.{Label, label_step, label_of}

pub label-name : (p : Place) (c : List ℕ) → label_of (e.Name p c) ≡ Some (record { place = p; name = c })
unfolding label_of
label-name p c = ap label_of (sym (e.rolls-Name p c)) ∙ fold-roll-Expr (Option Label) label_step (Expr-F.Name p c)

pub label-number : (p : Place) (v : ℕ) (u : Bool) → label_of (e.Number p v u) ≡ None
unfolding label_of
label-number p v u = ap label_of (sym (e.rolls-Number p v u)) ∙ fold-roll-Expr (Option Label) label_step (Expr-F.Number p v u)

pub label-text : (p : Place) → label_of (e.Text p) ≡ None
unfolding label_of
label-text p = ap label_of (sym (e.rolls-Text p)) ∙ fold-roll-Expr (Option Label) label_step (Expr-F.Text p)

pub label-bracket : (p : Place) (x : Expr) → label_of (e.Bracket p x) ≡ None
unfolding label_of
label-bracket p x = ap label_of (sym (e.rolls-Bracket p x)) ∙ fold-roll-Expr (Option Label) label_step (Expr-F.Bracket p x)

pub label-index : (p : Place) (c : List ℕ) (x : Expr) → label_of (e.Index p c x) ≡ None
unfolding label_of
label-index p c x = ap label_of (sym (e.rolls-Index p c x)) ∙ fold-roll-Expr (Option Label) label_step (Expr-F.Index p c x)

pub label-call : (p : Place) (c : List ℕ) (xs : List Expr) → label_of (e.Call p c xs) ≡ None
unfolding label_of
label-call p c xs = ap label_of (sym (e.rolls-Call p c xs)) ∙ fold-roll-Expr (Option Label) label_step (Expr-F.Call p c xs)

pub label-cast : (p : Place) (k : TypeWord) (x : Expr) → label_of (e.Cast p k x) ≡ None
unfolding label_of
label-cast p k x = ap label_of (sym (e.rolls-Cast p k x)) ∙ fold-roll-Expr (Option Label) label_step (Expr-F.Cast p k x)

pub label-unary : (p : Place) (o : UnaryOp) (x : Expr) → label_of (e.Unary p o x) ≡ None
unfolding label_of
label-unary p o x = ap label_of (sym (e.rolls-Unary p o x)) ∙ fold-roll-Expr (Option Label) label_step (Expr-F.Unary p o x)

pub label-step_before : (p : Place) (o : StepOp) (x : Expr) → label_of (e.StepBefore p o x) ≡ None
unfolding label_of
label-step_before p o x = ap label_of (sym (e.rolls-StepBefore p o x)) ∙ fold-roll-Expr (Option Label) label_step (Expr-F.StepBefore p o x)

pub label-step_after : (p : Place) (o : StepOp) (x : Expr) → label_of (e.StepAfter p o x) ≡ None
unfolding label_of
label-step_after p o x = ap label_of (sym (e.rolls-StepAfter p o x)) ∙ fold-roll-Expr (Option Label) label_step (Expr-F.StepAfter p o x)

pub label-binary : (p : Place) (o : BinaryOp) (x y : Expr) → label_of (e.Binary p o x y) ≡ None
unfolding label_of
label-binary p o x y = ap label_of (sym (e.rolls-Binary p o x y)) ∙ fold-roll-Expr (Option Label) label_step (Expr-F.Binary p o x y)

pub label-choose : (p : Place) (x y z : Expr) → label_of (e.Choose p x y z) ≡ None
unfolding label_of
label-choose p x y z = ap label_of (sym (e.rolls-Choose p x y z)) ∙ fold-roll-Expr (Option Label) label_step (Expr-F.Choose p x y z)

pub label-assign : (p : Place) (o : AssignOp) (x y : Expr) → label_of (e.Assign p o x y) ≡ None
unfolding label_of
label-assign p o x y = ap label_of (sym (e.rolls-Assign p o x y)) ∙ fold-roll-Expr (Option Label) label_step (Expr-F.Assign p o x y)

pub label-comma : (p : Place) (x y : Expr) → label_of (e.Comma p x y) ≡ None
unfolding label_of
label-comma p x y = ap label_of (sym (e.rolls-Comma p x y)) ∙ fold-roll-Expr (Option Label) label_step (Expr-F.Comma p x y)

pub label-address : (p : Place) (x : Expr) → label_of (e.Address p x) ≡ None
unfolding label_of
label-address p x = ap label_of (sym (e.rolls-Address p x)) ∙ fold-roll-Expr (Option Label) label_step (Expr-F.Address p x)

pub ruleset label_laws = (label-name, label-number, label-text, label-bracket, label-index, label-call, label-cast, label-unary, label-step_before, label-step_after, label-binary, label-choose, label-assign, label-comma, label-address)
