-- Which statements end in an `if` that an `else` would belong to.
use Rattle.std.proofs.Common.{◌≡◌, ℕ, Bool, true, false, List, Option, Some, None, sym, ap, ◌∙◌}
use Rattle.dg_base.specs.declared.Place.{Place}
use Rattle.c_tree.specs.declared.expr.Expr.{Expr}
use Rattle.c_tree.specs.declared.stmt.Decl.{Decl}
use Rattle.c_tree.specs.declared.stmt.Start.{Start}
use Rattle.c_tree.specs.declared.stmt.Stmt.{Stmt, fold-roll-Stmt}
use Rattle.c_tree.specs.declared.stmt.Stmt.TheVariants as tree
use Rattle.c_tree.specs.declared.stmt.Stmt.TheOpen.{Stmt-F}
use Rattle.c_stmt.specs.Statements.{ends_open_step, ends_open}

pub ends-empty : (p : Place) → ends_open (tree.Empty p) ≡ false
unfolding ends_open
ends-empty p = ap ends_open (sym (tree.rolls-Empty p)) ∙ fold-roll-Stmt Bool ends_open_step (Stmt-F.Empty p)

pub ends-expr : (p : Place) (x : Expr) → ends_open (tree.Expr p x) ≡ false
unfolding ends_open
ends-expr p x = ap ends_open (sym (tree.rolls-Expr p x)) ∙ fold-roll-Stmt Bool ends_open_step (Stmt-F.Expr p x)

pub ends-declare : (d : Decl) → ends_open (tree.Declare d) ≡ false
unfolding ends_open
ends-declare d = ap ends_open (sym (tree.rolls-Declare d)) ∙ fold-roll-Stmt Bool ends_open_step (Stmt-F.Declare d)

pub ends-block : (p : Place) (ys : List Stmt) → ends_open (tree.Block p ys) ≡ false
unfolding ends_open
ends-block p ys = ap ends_open (sym (tree.rolls-Block p ys)) ∙ fold-roll-Stmt Bool ends_open_step (Stmt-F.Block p ys)

pub ends-label : (p : Place) (c : List ℕ) (y : Stmt) → ends_open (tree.Label p c y) ≡ ends_open y
unfolding ends_open
ends-label p c y = ap ends_open (sym (tree.rolls-Label p c y)) ∙ fold-roll-Stmt Bool ends_open_step (Stmt-F.Label p c y)

pub ends-if : (p : Place) (x : Expr) (y : Stmt) → ends_open (tree.If p x y None) ≡ true
unfolding ends_open
ends-if p x y = ap ends_open (sym (tree.rolls-If p x y None)) ∙ fold-roll-Stmt Bool ends_open_step (Stmt-F.If p x y None)

pub ends-else : (p : Place) (x : Expr) (y z : Stmt) → ends_open (tree.If p x y (Some z)) ≡ ends_open z
unfolding ends_open
ends-else p x y z = ap ends_open (sym (tree.rolls-If p x y (Some z))) ∙ fold-roll-Stmt Bool ends_open_step (Stmt-F.If p x y (Some z))

pub ends-while : (p : Place) (x : Expr) (y : Stmt) → ends_open (tree.While p x y) ≡ ends_open y
unfolding ends_open
ends-while p x y = ap ends_open (sym (tree.rolls-While p x y)) ∙ fold-roll-Stmt Bool ends_open_step (Stmt-F.While p x y)

pub ends-do : (p : Place) (x : Expr) (y : Stmt) → ends_open (tree.DoWhile p y x) ≡ false
unfolding ends_open
ends-do p x y = ap ends_open (sym (tree.rolls-DoWhile p y x)) ∙ fold-roll-Stmt Bool ends_open_step (Stmt-F.DoWhile p y x)

pub ends-for : (p : Place) (b : Start) (x z : Option Expr) (y : Stmt) → ends_open (tree.For p b x z y) ≡ ends_open y
unfolding ends_open
ends-for p b x z y = ap ends_open (sym (tree.rolls-For p b x z y)) ∙ fold-roll-Stmt Bool ends_open_step (Stmt-F.For p b x z y)

pub ends-return : (p : Place) (x : Option Expr) → ends_open (tree.Return p x) ≡ false
unfolding ends_open
ends-return p x = ap ends_open (sym (tree.rolls-Return p x)) ∙ fold-roll-Stmt Bool ends_open_step (Stmt-F.Return p x)

pub ends-break : (p : Place) → ends_open (tree.Break p) ≡ false
unfolding ends_open
ends-break p = ap ends_open (sym (tree.rolls-Break p)) ∙ fold-roll-Stmt Bool ends_open_step (Stmt-F.Break p)

pub ends-continue : (p : Place) → ends_open (tree.Continue p) ≡ false
unfolding ends_open
ends-continue p = ap ends_open (sym (tree.rolls-Continue p)) ∙ fold-roll-Stmt Bool ends_open_step (Stmt-F.Continue p)
