-- An operator looks at no more arguments than it has.
use Rattle.std.proofs.Common.{◌≡◌, ℕ, List, [], ◌∷◌, length, get_or, map, refl, arith}
use Rattle.dg_base.specs.declared.operators.Op.{Op}
use Rattle.dg_base.specs.declared.operators.Op.TheVariants.{Plus, Minus, Times, Negate, UnaryPlus, DivideInt, DivideUint, RemainderInt, RemainderUint, ShiftLeft, ShiftRightInt, ShiftRightUint, LessInt, LessUint, AtMostInt, AtMostUint, GreaterInt, GreaterUint, AtLeastInt, AtLeastUint, Equal, NotEqual, BitAnd, BitOr, BitXor, BitNot, LogicNot, LogicAnd, LogicOr, Choose}
use Rattle.dg_base.specs.Values.{operator, arity, value_of}

-- a function of the first three items, where the second and the third may be missing, is that of the list
abbrev FromList : {A : Type 0} → (ℕ → ℕ → ℕ → ℕ) → (A → ℕ) → List A → A → Type 0
FromList n f args d = n (f (get_or args 0 d)) (f (get_or args 1 (get_or args 0 d))) (f (get_or args 2 (get_or args 0 d))) ≡ n (get_or (map f args) 0 0) (get_or (map f args) 1 0) (get_or (map f args) 2 0)

one : {A : Type 0} (n : ℕ → ℕ → ℕ → ℕ) → ((x y z v w : ℕ) → n x y z ≡ n x v w) → (f : A → ℕ) (args : List A) (d : A) → length args ≡ 1 → FromList n f args d
one n same f [] d h = absurd (omega arith)
one n same f (x ∷ []) d h = same (f x) (f x) (f x) 0 0
one n same f (x ∷ y ∷ zs) d h = absurd (omega arith)

two : {A : Type 0} (n : ℕ → ℕ → ℕ → ℕ) → ((x y z w : ℕ) → n x y z ≡ n x y w) → (f : A → ℕ) (args : List A) (d : A) → length args ≡ 2 → FromList n f args d
two n same f [] d h = absurd (omega arith)
two n same f (x ∷ []) d h = absurd (omega arith)
two n same f (x ∷ y ∷ []) d h = same (f x) (f y) (f x) 0
two n same f (x ∷ y ∷ z ∷ zs) d h = absurd (omega arith)

three : {A : Type 0} (n : ℕ → ℕ → ℕ → ℕ) (f : A → ℕ) (args : List A) (d : A) → length args ≡ 3 → FromList n f args d
three n f [] d h = absurd (omega arith)
three n f (x ∷ []) d h = absurd (omega arith)
three n f (x ∷ y ∷ []) d h = absurd (omega arith)
three n f (x ∷ y ∷ z ∷ zs) d h = refl

-- an operator's value, where the arguments that it lacks repeat the first
pub operator_repeating : {A : Type 0} (op : Op) (f : A → ℕ) (args : List A) (d : A) → length args ≡ arity op
    → operator op (f (get_or args 0 d)) (f (get_or args 1 (get_or args 0 d))) (f (get_or args 2 (get_or args 0 d))) ≡ value_of op (map f args)
operator_repeating Negate f args d h = one (operator Negate) (λ x y z v w. refl) f args d h
operator_repeating UnaryPlus f args d h = one (operator UnaryPlus) (λ x y z v w. refl) f args d h
operator_repeating BitNot f args d h = one (operator BitNot) (λ x y z v w. refl) f args d h
operator_repeating LogicNot f args d h = one (operator LogicNot) (λ x y z v w. refl) f args d h
operator_repeating Choose f args d h = three (operator Choose) f args d h
operator_repeating Plus f args d h = two (operator Plus) (λ x y z w. refl) f args d h
operator_repeating Minus f args d h = two (operator Minus) (λ x y z w. refl) f args d h
operator_repeating Times f args d h = two (operator Times) (λ x y z w. refl) f args d h
operator_repeating DivideInt f args d h = two (operator DivideInt) (λ x y z w. refl) f args d h
operator_repeating DivideUint f args d h = two (operator DivideUint) (λ x y z w. refl) f args d h
operator_repeating RemainderInt f args d h = two (operator RemainderInt) (λ x y z w. refl) f args d h
operator_repeating RemainderUint f args d h = two (operator RemainderUint) (λ x y z w. refl) f args d h
operator_repeating ShiftLeft f args d h = two (operator ShiftLeft) (λ x y z w. refl) f args d h
operator_repeating ShiftRightInt f args d h = two (operator ShiftRightInt) (λ x y z w. refl) f args d h
operator_repeating ShiftRightUint f args d h = two (operator ShiftRightUint) (λ x y z w. refl) f args d h
operator_repeating LessInt f args d h = two (operator LessInt) (λ x y z w. refl) f args d h
operator_repeating LessUint f args d h = two (operator LessUint) (λ x y z w. refl) f args d h
operator_repeating AtMostInt f args d h = two (operator AtMostInt) (λ x y z w. refl) f args d h
operator_repeating AtMostUint f args d h = two (operator AtMostUint) (λ x y z w. refl) f args d h
operator_repeating GreaterInt f args d h = two (operator GreaterInt) (λ x y z w. refl) f args d h
operator_repeating GreaterUint f args d h = two (operator GreaterUint) (λ x y z w. refl) f args d h
operator_repeating AtLeastInt f args d h = two (operator AtLeastInt) (λ x y z w. refl) f args d h
operator_repeating AtLeastUint f args d h = two (operator AtLeastUint) (λ x y z w. refl) f args d h
operator_repeating Equal f args d h = two (operator Equal) (λ x y z w. refl) f args d h
operator_repeating NotEqual f args d h = two (operator NotEqual) (λ x y z w. refl) f args d h
operator_repeating BitAnd f args d h = two (operator BitAnd) (λ x y z w. refl) f args d h
operator_repeating BitOr f args d h = two (operator BitOr) (λ x y z w. refl) f args d h
operator_repeating BitXor f args d h = two (operator BitXor) (λ x y z w. refl) f args d h
operator_repeating LogicAnd f args d h = two (operator LogicAnd) (λ x y z w. refl) f args d h
operator_repeating LogicOr f args d h = two (operator LogicOr) (λ x y z w. refl) f args d h
