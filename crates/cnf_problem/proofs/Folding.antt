-- Gates that are a constant or an older literal.
use Rattle.std.proofs.Common.{◌≡◌, Bool, true, false, not, ◌&&◌, refl, sym, ◌∙◌, subst}
use Rattle.std.specs.Prelude.{if◌then◌else◌}
use Rattle.std.specs.Bool.{xor}
use mathlib.Core.Bool.{xor as the_xor}
use Rattle.dg_base.specs.declared.Lit.{Lit}
use Rattle.cnf_problem.specs.Literals.{negated, value, IsOver}
use Rattle.cnf_problem.specs.Formulas.{Formula, HasValue, IsGate}
use Rattle.cnf_problem.proofs.LiteralLaws.{value-negated}
use Rattle.cnf_problem.proofs.GateLaws.{gate_of_older}

-- the two literals of a constant are over the variables and have their values
pub record IsConstant (f : Formula) (l : Lit) (b : Bool) : Type 0 where
  pub over : IsOver f.vars l
  pub exact : HasValue f.clauses l (λ _. b)

-- the conjunction is false where the first is
and_first : (a b : Bool) → a ≡ false → false ≡ (a && b)
and_first a b e = rw e refl

-- where the second is
and_second : (a b : Bool) → b ≡ false → false ≡ (a && b)
and_second true b e = sym e
and_second false b e = refl

-- and where one is the negation of the other
and_opposite : (a b : Bool) → a ≡ not b → false ≡ (a && b)
and_opposite a true e = rw e refl
and_opposite a false e = rw e refl

-- the conjunction is false where a literal is, and where the two are opposite
pub and_false_first : (f : Formula) (always a b : Lit) → IsConstant f always false → a ≡ always → IsGate f f always (λ s. value s a && value s b)
and_false_first f always a b k e = gate_of_older f always (λ s. value s a && value s b) k.over
    (λ s h. k.exact s h ∙ and_first (value s a) (value s b) (rw e (k.exact s h)))

-- the second literal is false
pub and_false_second : (f : Formula) (always a b : Lit) → IsConstant f always false → b ≡ always → IsGate f f always (λ s. value s a && value s b)
and_false_second f always a b k e = gate_of_older f always (λ s. value s a && value s b) k.over
    (λ s h. k.exact s h ∙ and_second (value s a) (value s b) (rw e (k.exact s h)))

-- one literal is the negation of the other
pub and_false_opposite : (f : Formula) (always a b : Lit) → IsConstant f always false → a ≡ negated b → IsGate f f always (λ s. value s a && value s b)
and_false_opposite f always a b k e = gate_of_older f always (λ s. value s a && value s b) k.over
    (λ s h. k.exact s h ∙ and_opposite (value s a) (value s b) (rw e (value-negated s b)))

-- with true, and with itself, it is the other value
and_true : (a b : Bool) → a ≡ true → b ≡ (a && b)
and_true a b e = rw e refl

-- the conjunction of a value and itself
and_same : (a : Bool) → a ≡ (a && a)
and_same true = refl
and_same false = refl

-- the conjunction of a value and true
true_and : (a b : Bool) → b ≡ true → a ≡ (a && b)
true_and true b e = sym e
true_and false b e = refl

-- the first literal is true
pub and_with_true : (f : Formula) (always a b : Lit) → IsConstant f always true → a ≡ always → IsOver f.vars b → IsGate f f b (λ s. value s a && value s b)
and_with_true f always a b k e over = gate_of_older f b (λ s. value s a && value s b) over
    (λ s h. and_true (value s a) (value s b) (rw e (k.exact s h)))

-- the literals are equal
pub and_equal : (f : Formula) (a b : Lit) → a ≡ b → IsOver f.vars b → IsGate f f b (λ s. value s a && value s b)
and_equal f a b e over = gate_of_older f b (λ s. value s a && value s b) over
    (λ s h. subst (λ l. value s b ≡ (value s l && value s b)) (sym e) (and_same (value s b)))

-- the second literal is true
pub and_by_true : (f : Formula) (always a b : Lit) → IsConstant f always true → b ≡ always → IsOver f.vars a → IsGate f f a (λ s. value s a && value s b)
and_by_true f always a b k e over = gate_of_older f a (λ s. value s a && value s b) over
    (λ s h. true_and (value s a) (value s b) (rw e (k.exact s h)))

-- the exclusive or of a value and itself
xor_same : (a : Bool) → false ≡ xor a a
unfolding the_xor
xor_same true = refl
xor_same false = refl

-- of a value and its negation
xor_opposite : (a b : Bool) → a ≡ not b → true ≡ xor a b
unfolding the_xor
xor_opposite a true e = rw e refl
xor_opposite a false e = rw e refl

-- of false and a value
xor_false_first : (a b : Bool) → a ≡ false → b ≡ xor a b
unfolding the_xor
xor_false_first a true e = rw e refl
xor_false_first a false e = rw e refl

-- of true and a value
xor_true_first : (a b : Bool) → a ≡ true → not b ≡ xor a b
unfolding the_xor
xor_true_first a true e = rw e refl
xor_true_first a false e = rw e refl

-- of a value and false
xor_false_second : (a b : Bool) → b ≡ false → a ≡ xor a b
unfolding the_xor
xor_false_second true b e = rw e refl
xor_false_second false b e = rw e refl

-- of a value and true
xor_true_second : (a b : Bool) → b ≡ true → not a ≡ xor a b
unfolding the_xor
xor_true_second true b e = rw e refl
xor_true_second false b e = rw e refl

-- the exclusive or of equal and of opposite literals is a constant; with a constant it is the other literal or its negation
pub xor_equal : (f : Formula) (always a b : Lit) → IsConstant f always false → a ≡ b → IsGate f f always (λ s. xor (value s a) (value s b))
xor_equal f always a b k e = gate_of_older f always (λ s. xor (value s a) (value s b)) k.over
    (λ s h. k.exact s h ∙ subst (λ l. false ≡ xor (value s a) (value s l)) e (xor_same (value s a)))

-- one literal is the negation of the other
pub xor_negated : (f : Formula) (always a b : Lit) → IsConstant f always true → a ≡ negated b → IsGate f f always (λ s. xor (value s a) (value s b))
xor_negated f always a b k e = gate_of_older f always (λ s. xor (value s a) (value s b)) k.over
    (λ s h. k.exact s h ∙ xor_opposite (value s a) (value s b) (rw e (value-negated s b)))

-- the first literal is false
pub xor_with_false : (f : Formula) (always a b : Lit) → IsConstant f always false → a ≡ always → IsOver f.vars b → IsGate f f b (λ s. xor (value s a) (value s b))
xor_with_false f always a b k e over = gate_of_older f b (λ s. xor (value s a) (value s b)) over
    (λ s h. xor_false_first (value s a) (value s b) (rw e (k.exact s h)))

-- the first literal is true
pub xor_with_true : (f : Formula) (always a b : Lit) → IsConstant f always true → a ≡ always → IsOver f.vars (negated b) → IsGate f f (negated b) (λ s. xor (value s a) (value s b))
xor_with_true f always a b k e over = gate_of_older f (negated b) (λ s. xor (value s a) (value s b)) over
    (λ s h. value-negated s b ∙ xor_true_first (value s a) (value s b) (rw e (k.exact s h)))

-- the second literal is false
pub xor_by_false : (f : Formula) (always a b : Lit) → IsConstant f always false → b ≡ always → IsOver f.vars a → IsGate f f a (λ s. xor (value s a) (value s b))
xor_by_false f always a b k e over = gate_of_older f a (λ s. xor (value s a) (value s b)) over
    (λ s h. xor_false_second (value s a) (value s b) (rw e (k.exact s h)))

-- the second literal is true
pub xor_by_true : (f : Formula) (always a b : Lit) → IsConstant f always true → b ≡ always → IsOver f.vars (negated a) → IsGate f f (negated a) (λ s. xor (value s a) (value s b))
xor_by_true f always a b k e over = gate_of_older f (negated a) (λ s. xor (value s a) (value s b)) over
    (λ s h. value-negated s a ∙ xor_true_second (value s a) (value s b) (rw e (k.exact s h)))

-- the choice by true
choose_true : (c a b : Bool) → c ≡ true → a ≡ (if c then a else b)
choose_true c a b e = rw e refl

-- the choice between a value and itself
choose_same : (c a : Bool) → a ≡ (if c then a else a)
choose_same true a = refl
choose_same false a = refl

-- the choice by false
choose_false : (c a b : Bool) → c ≡ false → b ≡ (if c then a else b)
choose_false c a b e = rw e refl

-- the choice is by a true literal
pub mux_by_true : (f : Formula) (always c a b : Lit) → IsConstant f always true → c ≡ always → IsOver f.vars a → IsGate f f a (λ s. if value s c then value s a else value s b)
mux_by_true f always c a b k e over = gate_of_older f a (λ s. if value s c then value s a else value s b) over
    (λ s h. choose_true (value s c) (value s a) (value s b) (rw e (k.exact s h)))

-- the choice is between equal literals
pub mux_equal : (f : Formula) (c a b : Lit) → a ≡ b → IsOver f.vars a → IsGate f f a (λ s. if value s c then value s a else value s b)
mux_equal f c a b e over = gate_of_older f a (λ s. if value s c then value s a else value s b) over
    (λ s h. subst (λ l. value s a ≡ (if value s c then value s a else value s l)) e (choose_same (value s c) (value s a)))

-- the choice is by a false literal
pub mux_by_false : (f : Formula) (always c a b : Lit) → IsConstant f always false → c ≡ always → IsOver f.vars b → IsGate f f b (λ s. if value s c then value s a else value s b)
mux_by_false f always c a b k e over = gate_of_older f b (λ s. if value s c then value s a else value s b) over
    (λ s h. choose_false (value s c) (value s a) (value s b) (rw e (k.exact s h)))
