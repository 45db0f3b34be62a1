-- What holds of a term that was put behind the others, where it was.
use Rattle.std.proofs.Common.{◌≡◌, ℕ, List, [], ◌∷◌, ◌++◌, length, get_or, Result, Ok, Err, ap, sym, ◌∙◌, subst, arith}
use Rattle.std.specs.Prelude.{All, IfOk, OnOk}
use Rattle.std.proofs.lemmas.Option.{slice_get_within}
use Rattle.dg_base.specs.declared.operators.Op.{Op}
use Rattle.dg_base.specs.Values.{arity, value_of}
use Rattle.bv_term.specs.declared.term.TermId.{TermId}
use Rattle.bv_term.specs.declared.term.Term.{Term}
use Rattle.bv_term.specs.declared.term.Term.TheVariants.{Input, Constant, Apply}
use Rattle.bv_term.specs.Values.{IsListed, AreTerms, IsConstant, AreConstants, Computes, Grows, values_from, value}
use Rattle.bv_term.proofs.ValueLaws.{grows_by, value-next, length-values}
use Rattle.bv_term.proofs.Folded.{values_of_constants, values_kept, computes_new}

-- the terms have grown
pub pushed_grows : {E : Type 0} (old new : List Term) (x : Term) (r : Result TermId E) → OnOk r (new ≡ old ++ x ∷ []) → OnOk r (Grows old new)
pushed_grows old new x (Ok t) e = grows_by old (x ∷ []) new e
pushed_grows old new x (Err w) e = tt

-- an input has the value that is given for its number
pub pushed_input : {E : Type 0} (old new : List Term) (r : Result TermId E) → IfOk r (λ t. t.0 ≡ length old) → OnOk r (new ≡ old ++ Input ∷ [])
    → IfOk r (λ t. (inputs : ℕ → ℕ) → value inputs new t ≡ inputs t.0)
pushed_input old new (Ok t) n e = λ inputs.
    let all = length-values inputs [] old in
    let same : length (values_from inputs [] old) ≡ t.0 = omega arith in
    subst (λ ts. value inputs ts t ≡ inputs t.0) (sym e) (value-next inputs old Input t n ∙ ap inputs same)
pushed_input old new (Err w) n e = tt

-- a constant has its value
pub pushed_constant : {E : Type 0} (old new : List Term) (v : ℕ) (r : Result TermId E) → IfOk r (λ t. t.0 ≡ length old) → OnOk r (new ≡ old ++ Constant v ∷ [])
    → IfOk r (λ t. (inputs : ℕ → ℕ) → value inputs new t ≡ v)
pushed_constant old new v (Ok t) n e = λ inputs. subst (λ ts. value inputs ts t ≡ v) (sym e) (value-next inputs old (Constant v) t n)
pushed_constant old new v (Err w) n e = tt

-- a constant is one of the terms
pub listed_constant : {E : Type 0} (terms : List Term) (v : ℕ) (r : Result TermId E) → IfOk r (λ t. IsConstant terms t v) → IfOk r (IsListed terms)
listed_constant terms v (Ok t) e = slice_get_within terms t.0 (Constant v) e
listed_constant terms v (Err w) e = tt

-- an operator of constants has the constant's value
pub folded_computes : {E : Type 0} (old new : List Term) (op : Op) (args : List TermId) (v : ℕ) (r : Result TermId E) → AreTerms old → All (IsListed old) args
    → ((vs : List ℕ) × AreConstants old args vs × (v ≡ value_of op vs)) → IfOk r (λ t. (inputs : ℕ → ℕ) → value inputs new t ≡ v) → OnOk r (Grows old new)
    → IfOk r (λ t. Computes new t op args)
folded_computes old new op args v (Ok t) are listed folds has grows = λ inputs words.
    has inputs ∙ folds.2 ∙ ap (value_of op) (sym (values_kept old new inputs args grows listed ∙ values_of_constants old inputs args folds.0 are folds.1))
folded_computes old new op args v (Err w) are listed folds has grows = tt

-- a new operator has its value
pub pushed_computes : {E : Type 0} (old new : List Term) (op : Op) (args : List TermId) (b c d : TermId) (r : Result TermId E) → IfOk r (λ t. t.0 ≡ length old)
    → OnOk r (new ≡ old ++ Apply op (get_or args 0 d) b c ∷ []) → length args ≡ arity op → All (IsListed old) args
    → b ≡ get_or args 1 (get_or args 0 d) → c ≡ get_or args 2 (get_or args 0 d) → IfOk r (λ t. Computes new t op args)
pushed_computes old new op args b c d (Ok t) n e long listed second third = computes_new old new op args t b c d e n long listed second third
pushed_computes old new op args b c d (Err w) n e long listed second third = tt
