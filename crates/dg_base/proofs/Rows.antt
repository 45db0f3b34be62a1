-- Values at the edges.
use Rattle.std.proofs.Common.{◌≡◌, [], ◌∷◌, refl}
use Rattle.dg_base.specs.declared.operators.Op.TheVariants.{Negate, DivideInt, RemainderInt, RemainderUint, ShiftLeft, ShiftRightInt, ShiftRightUint, LessInt, LessUint}
use Rattle.dg_base.specs.Values.{value_of}

-- the least Int by -1 is itself, remainder 0
least_by_minus_one : value_of DivideInt (2147483648 ∷ 4294967295 ∷ []) ≡ 2147483648
least_by_minus_one = refl

no_remainder : value_of RemainderInt (2147483648 ∷ 4294967295 ∷ []) ≡ 0
no_remainder = refl

-- -7 / 2 = -3, -7 % 2 = -1, 7 / -2 = -3, 7 % -2 = 1
towards_zero : value_of DivideInt (4294967289 ∷ 2 ∷ []) ≡ 4294967293
towards_zero = refl

sign_of_dividend : value_of RemainderInt (4294967289 ∷ 2 ∷ []) ≡ 4294967295
sign_of_dividend = refl

seven_by_minus_two : value_of RemainderInt (7 ∷ 4294967294 ∷ []) ≡ 1
seven_by_minus_two = refl

by_zero : value_of DivideInt (7 ∷ 0 ∷ []) ≡ 0
by_zero = refl

rest_by_zero : value_of RemainderUint (7 ∷ 0 ∷ []) ≡ 0
rest_by_zero = refl

-- shifts by 33 are shifts by 1
by_33 : value_of ShiftLeft (3 ∷ 33 ∷ []) ≡ 6
by_33 = refl

sign_copied : value_of ShiftRightInt (2147483648 ∷ 31 ∷ []) ≡ 4294967295
sign_copied = refl

zero_filled : value_of ShiftRightUint (2147483648 ∷ 31 ∷ []) ≡ 1
zero_filled = refl

minus_one_below : value_of LessInt (4294967295 ∷ 0 ∷ []) ≡ 1
minus_one_below = refl

largest_not_below : value_of LessUint (4294967295 ∷ 0 ∷ []) ≡ 0
largest_not_below = refl

minus_zero : value_of Negate (0 ∷ []) ≡ 0
minus_zero = refl
