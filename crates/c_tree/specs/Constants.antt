-- Constant expressions: numbers, operators, brackets and casts alone. Each operand counts, also one that is not chosen,
-- and none divides by 0.
use Rattle.std.specs.Prelude.{ℕ, [], ◌∷◌, Bool, cond, nat_eq, ◌&&◌, ◌||◌, Option, Some, None}
use Rattle.dg_base.specs.declared.operators.Op.TheVariants as op
use Rattle.dg_base.specs.Values.{value_of}
use Rattle.c_tree.specs.declared.constants.Constant.{Constant}
use Rattle.c_tree.specs.declared.expr.TypeWord.{TypeWord}
use Rattle.c_tree.specs.declared.expr.TypeWord.TheVariants as type
use Rattle.c_tree.specs.declared.expr.UnaryOp.{UnaryOp}
use Rattle.c_tree.specs.declared.expr.BinaryOp.{BinaryOp}
use Rattle.c_tree.specs.declared.expr.Expr.{Expr, fold-Expr}
use Rattle.c_tree.specs.declared.expr.Expr.TheOpen.{Expr-F}
use Rattle.c_tree.specs.Operators.{word_unsigned, unary_op, unary_unsigned, binary_op, binary_unsigned, divides}

abbrev pub constant_number : ℕ → Bool → Option Constant
constant_number v u = Some (record { value = v; unsigned = u })

-- a cast keeps the bits; one to void or to a mutex gives no constant
abbrev pub constant_cast : TypeWord → Option Constant → Option Constant
constant_cast type.Void x = None
constant_cast type.Mutex x = None
constant_cast type.Cond x = None
constant_cast w None = None
constant_cast w (Some x) = constant_number x.value (word_unsigned w)

abbrev pub constant_unary : UnaryOp → Option Constant → Option Constant
constant_unary o None = None
constant_unary o (Some x) = constant_number (value_of (unary_op o) (x.value ∷ [])) (unary_unsigned o x.unsigned)

abbrev pub constant_operate : BinaryOp → Constant → Constant → Option Constant
constant_operate o x y =
    cond (divides o && nat_eq y.value 0) None (constant_number (value_of (binary_op o x.unsigned y.unsigned) (x.value ∷ y.value ∷ [])) (binary_unsigned o x.unsigned y.unsigned))

abbrev pub constant_binary : BinaryOp → Option Constant → Option Constant → Option Constant
constant_binary o (Some x) (Some y) = constant_operate o x y
constant_binary o _ _ = None

abbrev pub constant_choose : Option Constant → Option Constant → Option Constant → Option Constant
constant_choose (Some x) (Some y) (Some z) = constant_number (value_of op.Choose (x.value ∷ y.value ∷ z.value ∷ [])) (y.unsigned || z.unsigned)
constant_choose _ _ _ = None

-- the value of a comma is that of its right operand, where both are constants
abbrev pub constant_comma : Option Constant → Option Constant → Option Constant
constant_comma (Some x) y = y
constant_comma None y = None

-- a constant from the constants that its parts are; the other forms are none
abbrev pub constant_step : Expr-F (Option Constant) → Option Constant
constant_step (Expr-F.Number p v u) = constant_number v u
constant_step (Expr-F.Bracket p x) = x
constant_step (Expr-F.Cast p w x) = constant_cast w x
constant_step (Expr-F.Unary p o x) = constant_unary o x
constant_step (Expr-F.Binary p o x y) = constant_binary o x y
constant_step (Expr-F.Choose p x y z) = constant_choose x y z
constant_step (Expr-F.Comma p x y) = constant_comma x y
constant_step _ = None

-- the constant that an expression is, if it is one
abbrev pub constant_of : Expr → Option Constant
constant_of = fold-Expr (Option Constant) constant_step

abbrev pub value_or_zero : Option Constant → ℕ
value_or_zero None = 0
value_or_zero (Some x) = x.value

-- the value of a constant; PTHREAD_MUTEX_INITIALIZER, which is a name, has 0
abbrev pub constant_value : Expr → ℕ
constant_value e = value_or_zero (constant_of e)
