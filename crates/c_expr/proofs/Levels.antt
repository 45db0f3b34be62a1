-- What the grammar says of levels and of the depth of a tree.
use Rattle.std.proofs.Common.{ℕ, zero, suc, ◌≤◌, List, map, arith}
use Rattle.token_list.specs.declared.Token.{Token}
use Rattle.c_tree.specs.declared.expr.BinaryOp.{BinaryOp}
use Rattle.c_tree.specs.declared.expr.BinaryOp.TheVariants as op
use Rattle.c_tree.specs.declared.expr.Expr.{Expr}
use Rattle.c_tree.specs.Level.{greatest, expr_level}
use Rattle.c_expr.specs.Expressions.{tier, is_lvalue, Reads, ReadsArgument, ReadsArguments, name, number, bracket, index, call, cast, prefix, step_before, step_after, binary, choose, assign, comma, value, address, text, no_argument, one_argument, more_arguments}
use Rattle.c_expr.specs.Expressions as g
use Rattle.token_list.specs.Numbers.{is_unsigned}
use Rattle.c_expr.proofs.Depths as d

-- a text of a tighter level is one of a looser level
pub looser : {f k n : ℕ} {a : List Token} {x : Expr} → f ≤ k → Reads k n a x → Reads f n a x
looser le (name c) = name c
looser le number = number
looser le (bracket q r) = bracket q r
looser le (index q r c s) = index q r c s
looser le (call q r c s) = call q r c s
looser le (cast q h k r) = cast q (omega arith) k r
looser le (prefix h r) = prefix (omega arith) r
looser le (step_before h v r) = step_before (omega arith) v r
looser le (step_after h v r) = step_after (omega arith) v r
looser le (binary h r s) = binary (omega arith) r s
looser le (choose q h r s t) = choose q (omega arith) r s t
looser le (assign h o v r s) = assign (omega arith) o v r s
looser le (comma h r s) = comma (omega arith) r s

-- a tree has at most the depth that it is read with
mutual
  pub level-reads : {f n : ℕ} {a : List Token} {x : Expr} → Reads f n a x → expr_level x ≤ n
  level-reads (name {p = p} {c = c} h) = omega (arith, d.level-name p c)
  level-reads (number {p = p} {c = c}) = omega (arith, d.level-number p (g.value_in c) (is_unsigned c (g.value_in c)))
  level-reads (bracket {p = p} q {x = x} r) = omega (arith, d.level-bracket p x, level-reads r)
  level-reads (index {p = p} q r {c = c} {x = x} h s) = omega (arith, d.level-index p c x, level-reads s)
  level-reads (call {p = p} q r {c = c} {xs = xs} h s) = omega (arith, d.level-call p c xs, levels-reads s)
  level-reads (cast {p = p} q {kind = k} {x = x} h i r) = omega (arith, d.level-cast p k x, level-reads r)
  level-reads (prefix {p = p} {o = o} {x = x} h r) = omega (arith, d.level-unary p o x, level-reads r)
  level-reads (step_before {p = p} {o = o} {x = x} h v r) = omega (arith, d.level-step_before p o x, level-reads r)
  level-reads (step_after {p = p} {o = o} {x = x} h v r) = omega (arith, d.level-step_after p o x, level-reads r)
  level-reads (binary {p = p} {o = o} {x = x} {y = y} h r s) = omega (arith, d.level-binary p o x y, level-reads r, level-reads s)
  level-reads (choose {p = p} q {x = x} {y = y} {z = z} h r s t) = omega (arith, d.level-choose p x y z, level-reads r, level-reads s, level-reads t)
  level-reads (assign {p = p} {o = o} {x = x} {y = y} h m v r s) = omega (arith, d.level-assign p o x y, level-reads r, level-reads s)
  level-reads (comma {p = p} {x = x} {y = y} h r s) = omega (arith, d.level-comma p x y, level-reads r, level-reads s)

  pub level-argument : {n : ℕ} {a : List Token} {x : Expr} → ReadsArgument n a x → expr_level x ≤ n
  level-argument (value r) = level-reads r
  level-argument (address {p = p} {x = x} v r) = omega (arith, d.level-address p x, level-reads r)
  level-argument (text {t = t} h) = omega (arith, d.level-text t.place)

  pub levels-reads : {n : ℕ} {a : List Token} {xs : List Expr} → ReadsArguments n a xs → greatest (map expr_level xs) ≤ n
  levels-reads no_argument = omega arith
  levels-reads (one_argument r) = omega (arith, level-argument r)
  levels-reads (more_arguments p {x = x} {y = y} {xs = xs} r s) = omega (arith, level-argument r, levels-reads s)

-- and is read with any depth that it fits in
mutual
  pub fits : {f n : ℕ} {a : List Token} {x : Expr} → Reads f n a x → (m : ℕ) → expr_level x ≤ m → Reads f m a x
  fits (name c) m h = name c
  fits number m h = number
  fits (bracket {p = p} q {x = x} r) zero h = absurd (omega (arith, d.level-bracket p x))
  fits (bracket {p = p} q {x = x} r) (suc m) h = bracket q (fits r m (omega (arith, d.level-bracket p x)))
  fits (index {p = p} q r {c = c} {x = x} i s) zero h = absurd (omega (arith, d.level-index p c x))
  fits (index {p = p} q r {c = c} {x = x} i s) (suc m) h = index q r i (fits s m (omega (arith, d.level-index p c x)))
  fits (call {p = p} q r {c = c} {xs = xs} i s) zero h = absurd (omega (arith, d.level-call p c xs))
  fits (call {p = p} q r {c = c} {xs = xs} i s) (suc m) h = call q r i (fits_all s m (omega (arith, d.level-call p c xs)))
  fits (cast {p = p} q {kind = k} {x = x} i j r) zero h = absurd (omega (arith, d.level-cast p k x))
  fits (cast {p = p} q {kind = k} {x = x} i j r) (suc m) h = cast q i j (fits r m (omega (arith, d.level-cast p k x)))
  fits (prefix {p = p} {o = o} {x = x} i r) zero h = absurd (omega (arith, d.level-unary p o x))
  fits (prefix {p = p} {o = o} {x = x} i r) (suc m) h = prefix i (fits r m (omega (arith, d.level-unary p o x)))
  fits (step_before {p = p} {o = o} {x = x} i v r) zero h = absurd (omega (arith, d.level-step_before p o x))
  fits (step_before {p = p} {o = o} {x = x} i v r) (suc m) h = step_before i v (fits r m (omega (arith, d.level-step_before p o x)))
  fits (step_after {p = p} {o = o} {x = x} i v r) zero h = absurd (omega (arith, d.level-step_after p o x))
  fits (step_after {p = p} {o = o} {x = x} i v r) (suc m) h = step_after i v (fits r m (omega (arith, d.level-step_after p o x)))
  fits (binary {p = p} {o = o} {x = x} {y = y} i r s) zero h = absurd (omega (arith, d.level-binary p o x y))
  fits (binary {p = p} {o = o} {x = x} {y = y} i r s) (suc m) h = binary i (fits r m (omega (arith, d.level-binary p o x y))) (fits s m (omega (arith, d.level-binary p o x y)))
  fits (choose {p = p} q {x = x} {y = y} {z = z} i r s t) zero h = absurd (omega (arith, d.level-choose p x y z))
  fits (choose {p = p} q {x = x} {y = y} {z = z} i r s t) (suc m) h =
      choose q i (fits r m (omega (arith, d.level-choose p x y z))) (fits s m (omega (arith, d.level-choose p x y z))) (fits t m (omega (arith, d.level-choose p x y z)))
  fits (assign {p = p} {o = o} {x = x} {y = y} i j v r s) zero h = absurd (omega (arith, d.level-assign p o x y))
  fits (assign {p = p} {o = o} {x = x} {y = y} i j v r s) (suc m) h = assign i j v (fits r m (omega (arith, d.level-assign p o x y))) (fits s m (omega (arith, d.level-assign p o x y)))
  fits (comma {p = p} {x = x} {y = y} i r s) zero h = absurd (omega (arith, d.level-comma p x y))
  fits (comma {p = p} {x = x} {y = y} i r s) (suc m) h = comma i (fits r m (omega (arith, d.level-comma p x y))) (fits s m (omega (arith, d.level-comma p x y)))

  pub fits_argument : {n : ℕ} {a : List Token} {x : Expr} → ReadsArgument n a x → (m : ℕ) → expr_level x ≤ m → ReadsArgument m a x
  fits_argument (value r) m h = value (fits r m h)
  fits_argument (address {p = p} {x = x} v r) zero h = absurd (omega (arith, d.level-address p x))
  fits_argument (address {p = p} {x = x} v r) (suc m) h = address v (fits r m (omega (arith, d.level-address p x)))
  fits_argument (text ts) m h = text ts

  pub fits_all : {n : ℕ} {a : List Token} {xs : List Expr} → ReadsArguments n a xs → (m : ℕ) → greatest (map expr_level xs) ≤ m → ReadsArguments m a xs
  fits_all no_argument m h = no_argument
  fits_all (one_argument r) m h = one_argument (fits_argument r m (omega arith))
  fits_all (more_arguments p r s) m h = more_arguments p (fits_argument r m (omega arith)) (fits_all s m (omega arith))

-- the levels of the operators
pub tier_small : (o : BinaryOp) → tier o ≤ 12
tier_small op.LogicOr = omega arith
tier_small op.LogicAnd = omega arith
tier_small op.BitOr = omega arith
tier_small op.BitXor = omega arith
tier_small op.BitAnd = omega arith
tier_small op.Equal = omega arith
tier_small op.NotEqual = omega arith
tier_small op.Less = omega arith
tier_small op.Greater = omega arith
tier_small op.AtMost = omega arith
tier_small op.AtLeast = omega arith
tier_small op.ShiftLeft = omega arith
tier_small op.ShiftRight = omega arith
tier_small op.Plus = omega arith
tier_small op.Minus = omega arith
tier_small op.Times = omega arith
tier_small op.Divide = omega arith
tier_small op.Remainder = omega arith

pub tier_large : (o : BinaryOp) → 3 ≤ tier o
tier_large op.LogicOr = omega arith
tier_large op.LogicAnd = omega arith
tier_large op.BitOr = omega arith
tier_large op.BitXor = omega arith
tier_large op.BitAnd = omega arith
tier_large op.Equal = omega arith
tier_large op.NotEqual = omega arith
tier_large op.Less = omega arith
tier_large op.Greater = omega arith
tier_large op.AtMost = omega arith
tier_large op.AtLeast = omega arith
tier_large op.ShiftLeft = omega arith
tier_large op.ShiftRight = omega arith
tier_large op.Plus = omega arith
tier_large op.Minus = omega arith
tier_large op.Times = omega arith
tier_large op.Divide = omega arith
tier_large op.Remainder = omega arith
