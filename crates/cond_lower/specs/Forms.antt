-- The forms of expressions that have one part.
use Rattle.c_tree.specs.declared.expr.Expr.{Expr}
use Rattle.c_tree.specs.declared.expr.Expr.TheVariants as e
use Rattle.cond_lower.specs.declared.expressions.Form.{Form}
use Rattle.cond_lower.specs.declared.expressions.Form.TheVariants as form

-- the form around this part
abbrev pub around : Form → Expr → Expr
around (form.Bracket p) x = e.Bracket p x
around (form.Cast p w) x = e.Cast p w x
around (form.Unary p o) x = e.Unary p o x
around (form.StepBefore p o) x = e.StepBefore p o x
around (form.StepAfter p o) x = e.StepAfter p o x
around (form.Address p) x = e.Address p x
