-- What the operators of the language mean for operands of given types. A type is told by whether it is Uint.
use Rattle.std.specs.Prelude.{ℕ, Bool, true, false, cond, not, ◌||◌}
use Rattle.dg_base.specs.declared.operators.Op.{Op}
use Rattle.dg_base.specs.declared.operators.Op.TheVariants as op
use Rattle.dg_base.specs.Values.{is_true}
use Rattle.c_tree.specs.declared.expr.TypeWord.{TypeWord}
use Rattle.c_tree.specs.declared.expr.TypeWord.TheVariants as type
use Rattle.c_tree.specs.declared.expr.UnaryOp.{UnaryOp}
use Rattle.c_tree.specs.declared.expr.UnaryOp.TheVariants as unary
use Rattle.c_tree.specs.declared.expr.StepOp.{StepOp}
use Rattle.c_tree.specs.declared.expr.StepOp.TheVariants as step
use Rattle.c_tree.specs.declared.expr.BinaryOp.{BinaryOp}
use Rattle.c_tree.specs.declared.expr.BinaryOp.TheVariants as binary

-- a `void *` and a `pthread_t` are read as Uint
abbrev pub word_unsigned : TypeWord → Bool
word_unsigned type.Int = false
word_unsigned type.Uint = true
word_unsigned type.Void = false
word_unsigned type.VoidPointer = true
word_unsigned type.Thread = true
word_unsigned type.Mutex = false
word_unsigned type.Cond = false

abbrev pub unary_op : UnaryOp → Op
unary_op unary.LogicNot = op.LogicNot
unary_op unary.BitNot = op.BitNot
unary_op unary.Negate = op.Negate
unary_op unary.Plus = op.UnaryPlus

-- `!` gives an Int, the others the type of their operand
abbrev pub unary_unsigned : UnaryOp → Bool → Bool
unary_unsigned unary.LogicNot u = false
unary_unsigned unary.BitNot u = u
unary_unsigned unary.Negate u = u
unary_unsigned unary.Plus u = u

-- the first operator where an operand is Uint, else the second
abbrev pub by_type : Bool → Op → Op → Op
by_type u a b = cond u a b

-- the operator for a left operand of type u and a right one of type w; a shift to the right goes by its left operand alone
abbrev pub binary_op : BinaryOp → Bool → Bool → Op
binary_op binary.LogicOr u w = op.LogicOr
binary_op binary.LogicAnd u w = op.LogicAnd
binary_op binary.BitOr u w = op.BitOr
binary_op binary.BitXor u w = op.BitXor
binary_op binary.BitAnd u w = op.BitAnd
binary_op binary.Equal u w = op.Equal
binary_op binary.NotEqual u w = op.NotEqual
binary_op binary.Less u w = by_type (u || w) op.LessUint op.LessInt
binary_op binary.Greater u w = by_type (u || w) op.GreaterUint op.GreaterInt
binary_op binary.AtMost u w = by_type (u || w) op.AtMostUint op.AtMostInt
binary_op binary.AtLeast u w = by_type (u || w) op.AtLeastUint op.AtLeastInt
binary_op binary.ShiftLeft u w = op.ShiftLeft
binary_op binary.ShiftRight u w = by_type u op.ShiftRightUint op.ShiftRightInt
binary_op binary.Plus u w = op.Plus
binary_op binary.Minus u w = op.Minus
binary_op binary.Times u w = op.Times
binary_op binary.Divide u w = by_type (u || w) op.DivideUint op.DivideInt
binary_op binary.Remainder u w = by_type (u || w) op.RemainderUint op.RemainderInt

-- whether the value is Uint: `&& ||` and comparisons give an Int, a shift has the type of its left operand, and the
-- others are Uint where an operand is
abbrev pub binary_unsigned : BinaryOp → Bool → Bool → Bool
binary_unsigned binary.LogicOr u w = false
binary_unsigned binary.LogicAnd u w = false
binary_unsigned binary.BitOr u w = u || w
binary_unsigned binary.BitXor u w = u || w
binary_unsigned binary.BitAnd u w = u || w
binary_unsigned binary.Equal u w = false
binary_unsigned binary.NotEqual u w = false
binary_unsigned binary.Less u w = false
binary_unsigned binary.Greater u w = false
binary_unsigned binary.AtMost u w = false
binary_unsigned binary.AtLeast u w = false
binary_unsigned binary.ShiftLeft u w = u
binary_unsigned binary.ShiftRight u w = u
binary_unsigned binary.Plus u w = u || w
binary_unsigned binary.Minus u w = u || w
binary_unsigned binary.Times u w = u || w
binary_unsigned binary.Divide u w = u || w
binary_unsigned binary.Remainder u w = u || w

-- an operator that has no value where its right operand is 0
abbrev pub divides : BinaryOp → Bool
divides binary.Divide = true
divides binary.Remainder = true
divides _ = false

-- whether the left operand's value settles the operator's: a false one that of `&&`, a true one that of `||`
abbrev pub settles : BinaryOp → ℕ → Bool
settles binary.LogicAnd x = not (is_true x)
settles binary.LogicOr x = is_true x
settles _ x = false

-- `++` adds 1, `--` subtracts 1
abbrev pub step_op : StepOp → BinaryOp
step_op step.Increment = binary.Plus
step_op step.Decrement = binary.Minus
