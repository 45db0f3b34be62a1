-- The last operator of a group is the one that is left.
use Rattle.std.proofs.Common.{◌≡◌, arith}
use Rattle.dg_base.specs.declared.operators.Op.{Op}
use Rattle.dg_base.specs.declared.operators.Op.TheVariants.{Plus, Minus, Times, Negate, UnaryPlus, DivideInt, DivideUint, RemainderInt, RemainderUint, ShiftLeft, ShiftRightInt, ShiftRightUint, LessInt, AtMostInt, GreaterInt, AtLeastInt, LessUint, AtMostUint, GreaterUint, AtLeastUint, Equal, NotEqual, BitAnd, BitOr, BitXor, BitNot, LogicNot, LogicAnd, LogicOr, Choose}
use Rattle.dg_base.specs.Values.{group, Arithmetic, Division, Shift, OrderInt, OrderUint, Bits, Logic}

pub last_arithmetic : (op : Op) → group op ≡ Arithmetic → (op ≡ Plus → ⊥) → (op ≡ Minus → ⊥) → (op ≡ Times → ⊥) → (op ≡ Negate → ⊥) → op ≡ UnaryPlus
last_arithmetic op kind a b c d = grind arith

pub last_division : (op : Op) → group op ≡ Division → (op ≡ DivideInt → ⊥) → (op ≡ DivideUint → ⊥) → (op ≡ RemainderInt → ⊥) → op ≡ RemainderUint
last_division op kind a b c = grind arith

pub last_shift : (op : Op) → group op ≡ Shift → (op ≡ ShiftLeft → ⊥) → (op ≡ ShiftRightInt → ⊥) → op ≡ ShiftRightUint
last_shift op kind a b = grind arith

pub last_order_int : (op : Op) → group op ≡ OrderInt → (op ≡ LessInt → ⊥) → (op ≡ AtMostInt → ⊥) → (op ≡ GreaterInt → ⊥) → op ≡ AtLeastInt
last_order_int op kind a b c = grind arith

pub last_order_uint : (op : Op) → group op ≡ OrderUint → (op ≡ LessUint → ⊥) → (op ≡ AtMostUint → ⊥) → (op ≡ GreaterUint → ⊥) → op ≡ AtLeastUint
last_order_uint op kind a b c = grind arith

pub last_bits : (op : Op) → group op ≡ Bits → (op ≡ Equal → ⊥) → (op ≡ NotEqual → ⊥) → (op ≡ BitAnd → ⊥) → (op ≡ BitOr → ⊥) → (op ≡ BitXor → ⊥) → op ≡ BitNot
last_bits op kind a b c d e = grind arith

pub last_logic : (op : Op) → group op ≡ Logic → (op ≡ LogicNot → ⊥) → (op ≡ LogicAnd → ⊥) → (op ≡ LogicOr → ⊥) → op ≡ Choose
last_logic op kind a b c = grind arith
