-- The operators on values of 32 bits. A value is a number below 2^32; an Int is read in two's complement.
use Rattle.std.specs.Prelude.{ℕ, ◌+◌, ◌-◌, ◌*◌, ◌/◌, ◌%◌, ◌^◌, List, Bool, true, false, cond, not, ◌&&◌, ◌||◌, ℤ, slice_index, nat_eq, nat_lt, nat_le, int_lt, int_le, int_div, int_rem, bit_and, bit_or, bit_xor}
use Rattle.std.specs.Int.{w32, cast_signed, cast_unsigned, int_shr}
use Rattle.dg_base.specs.declared.operators.Op.{Op}
use Rattle.dg_base.specs.declared.operators.Op.TheVariants.{Plus, Minus, Times, Negate, UnaryPlus, DivideInt, DivideUint, RemainderInt, RemainderUint, ShiftLeft, ShiftRightInt, ShiftRightUint, LessInt, LessUint, AtMostInt, AtMostUint, GreaterInt, GreaterUint, AtLeastInt, AtLeastUint, Equal, NotEqual, BitAnd, BitOr, BitXor, BitNot, LogicNot, LogicAnd, LogicOr, Choose}

-- the Int that a value spells, and the value that spells an Int
abbrev pub int_of : ℕ → ℤ
int_of a = cast_signed w32 a

abbrev pub spell : ℤ → ℕ
spell z = cast_unsigned w32 z

-- 1 for true, 0 for false; 0 is the only false value
abbrev pub truth_of : Bool → ℕ
truth_of true = 1
truth_of false = 0

abbrev pub is_true : ℕ → Bool
is_true a = not (nat_eq a 0)

-- the quotient towards 0; 0 where the divisor is 0. The least Int by -1 is the least Int, since 2^31 spells it
abbrev pub quotient_int : ℕ → ℕ → ℕ
quotient_int a b = cond (nat_eq b 0) 0 (spell (int_div (int_of a) (int_of b)))

-- the remainder with the dividend's sign; 0 where the divisor is 0
abbrev pub remainder_int : ℕ → ℕ → ℕ
remainder_int a b = cond (nat_eq b 0) 0 (spell (int_rem (int_of a) (int_of b)))

-- the shift that copies the sign, by the amount modulo 32
abbrev pub shift_right_int : ℕ → ℕ → ℕ
shift_right_int a b = spell (int_shr (int_of a) (b % 32))

-- how many arguments an operator has
abbrev pub arity : Op → ℕ
arity Negate = 1
arity UnaryPlus = 1
arity BitNot = 1
arity LogicNot = 1
arity Choose = 3
arity _ = 2

-- an operator's value of its first, second and third argument
abbrev pub operator : Op → ℕ → ℕ → ℕ → ℕ
operator Plus a b c = (a + b) % 2 ^ 32
operator Minus a b c = (a + (2 ^ 32 - b)) % 2 ^ 32
operator Times a b c = (a * b) % 2 ^ 32
operator Negate a b c = (2 ^ 32 - a) % 2 ^ 32
operator UnaryPlus a b c = a
operator DivideInt a b c = quotient_int a b
operator DivideUint a b c = cond (nat_eq b 0) 0 (a / b)
operator RemainderInt a b c = remainder_int a b
operator RemainderUint a b c = cond (nat_eq b 0) 0 (a % b)
operator ShiftLeft a b c = (a * 2 ^ (b % 32)) % 2 ^ 32
operator ShiftRightInt a b c = shift_right_int a b
operator ShiftRightUint a b c = a / 2 ^ (b % 32)
operator LessInt a b c = truth_of (int_lt (int_of a) (int_of b))
operator LessUint a b c = truth_of (nat_lt a b)
operator AtMostInt a b c = truth_of (int_le (int_of a) (int_of b))
operator AtMostUint a b c = truth_of (nat_le a b)
operator GreaterInt a b c = truth_of (int_lt (int_of b) (int_of a))
operator GreaterUint a b c = truth_of (nat_lt b a)
operator AtLeastInt a b c = truth_of (int_le (int_of b) (int_of a))
operator AtLeastUint a b c = truth_of (nat_le b a)
operator Equal a b c = truth_of (nat_eq a b)
operator NotEqual a b c = truth_of (not (nat_eq a b))
operator BitAnd a b c = bit_and a b
operator BitOr a b c = bit_or a b
operator BitXor a b c = bit_xor a b
operator BitNot a b c = 2 ^ 32 - 1 - a
operator LogicNot a b c = truth_of (not (is_true a))
operator LogicAnd a b c = truth_of (is_true a && is_true b)
operator LogicOr a b c = truth_of (is_true a || is_true b)
operator Choose a b c = cond (is_true a) b c

-- the value of an operator, as a function of its arguments
abbrev pub value_of : Op → List ℕ → ℕ
value_of op args = operator op (slice_index args 0) (slice_index args 1) (slice_index args 2)

-- what an operator has to do with
pub data Group : Type 0 where
  Arithmetic Division Shift OrderInt OrderUint Bits Logic : Group

abbrev pub group : Op → Group
group Plus = Arithmetic
group Minus = Arithmetic
group Times = Arithmetic
group Negate = Arithmetic
group UnaryPlus = Arithmetic
group DivideInt = Division
group DivideUint = Division
group RemainderInt = Division
group RemainderUint = Division
group ShiftLeft = Shift
group ShiftRightInt = Shift
group ShiftRightUint = Shift
group LessInt = OrderInt
group AtMostInt = OrderInt
group GreaterInt = OrderInt
group AtLeastInt = OrderInt
group LessUint = OrderUint
group AtMostUint = OrderUint
group GreaterUint = OrderUint
group AtLeastUint = OrderUint
group Equal = Bits
group NotEqual = Bits
group BitAnd = Bits
group BitOr = Bits
group BitXor = Bits
group BitNot = Bits
group LogicNot = Logic
group LogicAnd = Logic
group LogicOr = Logic
group Choose = Logic
