-- What the forms call, as equations.
use Rattle.std.proofs.Common.{◌≡◌, ◌∙◌, ap, sym, ℕ, Bool, List, [], ◌∷◌, ◌++◌, map}
use Rattle.std.specs.Prelude.{Option, Some, None}
use Rattle.dg_base.specs.declared.Place.{Place}
use Rattle.c_tree.specs.declared.expr.BinaryOp.{BinaryOp}
use Rattle.c_tree.specs.declared.expr.AssignOp.{AssignOp}
use Rattle.c_tree.specs.declared.expr.Expr.{Expr, fold-roll-Expr}
use Rattle.c_tree.specs.declared.expr.Expr.TheVariants as e
use Rattle.c_tree.specs.declared.expr.Expr.TheOpen.{Expr-F}
use Rattle.c_tree.specs.declared.stmt.Start.{Start}
use Rattle.c_tree.specs.declared.stmt.Stmt.{Stmt, fold-roll-Stmt}
use Rattle.c_tree.specs.declared.stmt.Stmt.TheVariants as s
use Rattle.c_tree.specs.declared.stmt.Stmt.TheOpen.{Stmt-F}
use Rattle.c_rules.specs.Names.{Name}
use Rattle.c_rules.specs.Routines.{created_by}
use Rattle.c_check.specs.Recursion.{Called, called, called_step, called_in, called_in_option, called_in_for, called_in_stmt, calls_step, all_called, names_in, namings}

pub called_name : (p : Place) (n : Name) → called_in (e.Name p n) ≡ []
called_name p n = ap called_in (sym (e.rolls-Name p n)) ∙ ap (λ (c : Called). c.names) (fold-roll-Expr Called called_step (Expr-F.Name p n))

pub called_number : (p : Place) (v : ℕ) (u : Bool) → called_in (e.Number p v u) ≡ []
called_number p v u = ap called_in (sym (e.rolls-Number p v u)) ∙ ap (λ (c : Called). c.names) (fold-roll-Expr Called called_step (Expr-F.Number p v u))

pub called_text : (p : Place) → called_in (e.Text p) ≡ []
called_text p = ap called_in (sym (e.rolls-Text p)) ∙ ap (λ (c : Called). c.names) (fold-roll-Expr Called called_step (Expr-F.Text p))

pub called_call : (p : Place) (n : Name) (xs : List Expr) → called_in (e.Call p n xs) ≡ all_called (map called xs) ++ (n ∷ names_in (created_by n (namings (map called xs))))
called_call p n xs = ap called_in (sym (e.rolls-Call p n xs)) ∙ ap (λ (c : Called). c.names) (fold-roll-Expr Called called_step (Expr-F.Call p n xs))

pub called_binary : (p : Place) (o : BinaryOp) (x y : Expr) → called_in (e.Binary p o x y) ≡ called_in x ++ called_in y
called_binary p o x y = ap called_in (sym (e.rolls-Binary p o x y)) ∙ ap (λ (c : Called). c.names) (fold-roll-Expr Called called_step (Expr-F.Binary p o x y))

pub called_choose : (p : Place) (x y z : Expr) → called_in (e.Choose p x y z) ≡ called_in x ++ (called_in y ++ called_in z)
called_choose p x y z = ap called_in (sym (e.rolls-Choose p x y z)) ∙ ap (λ (c : Called). c.names) (fold-roll-Expr Called called_step (Expr-F.Choose p x y z))

pub called_assign : (p : Place) (o : AssignOp) (x y : Expr) → called_in (e.Assign p o x y) ≡ called_in x ++ called_in y
called_assign p o x y = ap called_in (sym (e.rolls-Assign p o x y)) ∙ ap (λ (c : Called). c.names) (fold-roll-Expr Called called_step (Expr-F.Assign p o x y))

pub called_comma : (p : Place) (x y : Expr) → called_in (e.Comma p x y) ≡ called_in x ++ called_in y
called_comma p x y = ap called_in (sym (e.rolls-Comma p x y)) ∙ ap (λ (c : Called). c.names) (fold-roll-Expr Called called_step (Expr-F.Comma p x y))

pub stmt_empty : (p : Place) → called_in_stmt (s.Empty p) ≡ []
stmt_empty p = ap called_in_stmt (sym (s.rolls-Empty p)) ∙ fold-roll-Stmt (List Name) calls_step (Stmt-F.Empty p)

pub stmt_if_alone : (p : Place) (t : Expr) (a : Stmt) → called_in_stmt (s.If p t a None) ≡ called_in t ++ (called_in_stmt a ++ [])
stmt_if_alone p t a = ap called_in_stmt (sym (s.rolls-If p t a None)) ∙ fold-roll-Stmt (List Name) calls_step (Stmt-F.If p t a None)

pub stmt_if_else : (p : Place) (t : Expr) (a b : Stmt) → called_in_stmt (s.If p t a (Some b)) ≡ called_in t ++ (called_in_stmt a ++ called_in_stmt b)
stmt_if_else p t a b = ap called_in_stmt (sym (s.rolls-If p t a (Some b))) ∙ fold-roll-Stmt (List Name) calls_step (Stmt-F.If p t a (Some b))

pub stmt_while : (p : Place) (t : Expr) (x : Stmt) → called_in_stmt (s.While p t x) ≡ called_in t ++ called_in_stmt x
stmt_while p t x = ap called_in_stmt (sym (s.rolls-While p t x)) ∙ fold-roll-Stmt (List Name) calls_step (Stmt-F.While p t x)

pub stmt_do_while : (p : Place) (x : Stmt) (t : Expr) → called_in_stmt (s.DoWhile p x t) ≡ called_in_stmt x ++ called_in t
stmt_do_while p x t = ap called_in_stmt (sym (s.rolls-DoWhile p x t)) ∙ fold-roll-Stmt (List Name) calls_step (Stmt-F.DoWhile p x t)

pub stmt_for : (p : Place) (st : Start) (t e : Option Expr) (x : Stmt) → called_in_stmt (s.For p st t e x) ≡ called_in_for st ++ (called_in_option t ++ (called_in_option e ++ called_in_stmt x))
stmt_for p st t e x = ap called_in_stmt (sym (s.rolls-For p st t e x)) ∙ fold-roll-Stmt (List Name) calls_step (Stmt-F.For p st t e x)

pub stmt_break : (p : Place) → called_in_stmt (s.Break p) ≡ []
stmt_break p = ap called_in_stmt (sym (s.rolls-Break p)) ∙ fold-roll-Stmt (List Name) calls_step (Stmt-F.Break p)

pub stmt_continue : (p : Place) → called_in_stmt (s.Continue p) ≡ []
stmt_continue p = ap called_in_stmt (sym (s.rolls-Continue p)) ∙ fold-roll-Stmt (List Name) calls_step (Stmt-F.Continue p)

pub ruleset called_laws = (called_name, called_number, called_text, called_call, called_binary, called_choose, called_assign, called_comma)

pub ruleset stmt_laws = (stmt_empty, stmt_if_alone, stmt_if_else, stmt_while, stmt_do_while, stmt_for, stmt_break, stmt_continue)
