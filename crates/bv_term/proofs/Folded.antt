-- What a folded operator's value is.
use Rattle.std.proofs.Common.{◌≡◌, ◌≢◌, ℕ, zero, suc, ◌+◌, ◌<◌, true, cond, List, [], ◌∷◌, ◌++◌, length, get_or, set, take, map, refl, ap, sym, ◌∙◌, subst, arith, Option, Some, None}
use Rattle.std.specs.Prelude.{All, IfNone, slice_get}
use Rattle.std.proofs.lemmas.List.{map_push, take_more, take_more_set}
use Rattle.std.proofs.lemmas.List.Elements.{All-head, All-tail}
use Rattle.dg_base.specs.declared.operators.Op.{Op}
use Rattle.dg_base.specs.declared.operators.Op.TheVariants.{Plus, Choose}
use Rattle.dg_base.specs.Values.{operator, arity, value_of, is_true}
use Rattle.bv_term.specs.declared.term.TermId.{TermId}
use Rattle.bv_term.specs.declared.term.Term.{Term}
use Rattle.bv_term.specs.declared.term.Term.TheVariants.{Constant, Apply}
use Rattle.bv_term.specs.Values.{IsListed, AreTerms, IsConstant, AreConstants, Computes, Grows, values_from, value_behind, value}
use Rattle.bv_term.proofs.Arguments.{operator_repeating}
use Rattle.bv_term.proofs.ValueLaws.{value_by_term, value_fits, value-next, grows_by}

-- a sum with 0 behind
pub sum_with_zero : (terms : List Term) (t other : TermId) (v : ℕ) → AreTerms terms → IsConstant terms other v → v ≡ 0 → Computes terms t Plus (t ∷ other ∷ [])
sum_with_zero terms t other v are e none inputs words =
    let same : value inputs terms other ≡ v = value_by_term terms inputs other (Constant v) are e in
    let fits = value_fits terms inputs t are words in
    omega arith

-- a sum with 0 in front
pub zero_with_sum : (terms : List Term) (other t : TermId) (v : ℕ) → AreTerms terms → IsConstant terms other v → v ≡ 0 → Computes terms t Plus (other ∷ t ∷ [])
zero_with_sum terms other t v are e none inputs words =
    let same : value inputs terms other ≡ v = value_by_term terms inputs other (Constant v) are e in
    let fits = value_fits terms inputs t are words in
    omega arith

-- a choice by a constant
choice_by : (terms : List Term) (t first second : TermId) (v : ℕ) → AreTerms terms → IsConstant terms t v
    → (inputs : ℕ → ℕ) → value_of Choose (map (value inputs terms) (t ∷ first ∷ second ∷ [])) ≡ cond (is_true v) (value inputs terms first) (value inputs terms second)
choice_by terms t first second v are e inputs =
    ap (λ c. cond (is_true c) (value inputs terms first) (value inputs terms second)) (value_by_term terms inputs t (Constant v) are e)

-- a choice by 0
pub choice_by_zero : (terms : List Term) (t first second : TermId) (v : ℕ) → AreTerms terms → IsConstant terms t v → IsListed terms second → v ≡ 0
    → Computes terms second Choose (t ∷ first ∷ second ∷ []) × IsListed terms second
choice_by_zero terms t first second v are is listed e = (
  λ inputs words. sym (choice_by terms t first second v are is inputs ∙ ap (λ c. cond (is_true c) (value inputs terms first) (value inputs terms second)) e),
  listed,
)

-- a number that isn't 0 is true
true_of : (v : ℕ) → v ≢ 0 → is_true v ≡ true
true_of v apart = grind arith

-- a choice by another constant
pub choice_by_other : (terms : List Term) (t first second : TermId) (v : ℕ) → AreTerms terms → IsConstant terms t v → IsListed terms first → v ≢ 0
    → Computes terms first Choose (t ∷ first ∷ second ∷ []) × IsListed terms first
choice_by_other terms t first second v are is listed apart = (
  λ inputs words. sym (choice_by terms t first second v are is inputs ∙ ap (λ b. cond b (value inputs terms first) (value inputs terms second)) (true_of v apart)),
  listed,
)

-- one more constant
pub constants_more : (terms : List Term) (args : List TermId) (vs : List ℕ) (i v : ℕ) (d : TermId)
    → i < length args → i < length vs → IsConstant terms (get_or args i d) v → AreConstants terms (take i args) (take i vs) → AreConstants terms (take (i + 1) args) (take (i + 1) (set vs i v))
constants_more terms args vs i v d in_args in_vs is so_far =
    let here = take_more args i d in_args in
    let there = take_more_set vs i v in_vs in
    let left = map_push (λ (x : TermId). slice_get terms x.0) (take i args) (get_or args i d) in
    let right = map_push (λ (x : ℕ). Some (Constant x)) (take i vs) v in
    rw (here, there) (left ∙ cc (so_far, is) ∙ sym right)

-- where the terms are constants, each is one
constant_among : (terms : List Term) (args : List TermId) (vs : List ℕ) (i : ℕ) (d : TermId)
    → AreConstants terms args vs → i < length args → (v : ℕ) × IsConstant terms (get_or args i d) v
constant_among terms [] vs i d are h = absurd (omega arith)
constant_among terms (x ∷ xs) [] i d are h = absurd (cc)
constant_among terms (x ∷ xs) (v ∷ vs) zero d are h = (v, cc)
constant_among terms (x ∷ xs) (v ∷ vs) (suc i) d are h = constant_among terms xs vs i d (cc) (omega arith)

-- where one is no constant, they are none
pub not_constants : (terms : List Term) (args : List TermId) (i : ℕ) (d : TermId) (r : Option (List ℕ)) → i < length args
    → ((v : ℕ) → ¬ IsConstant terms (get_or args i d) v) → IfNone r ((vs : List ℕ) → ¬ AreConstants terms args vs)
not_constants terms args i d None h never = λ vs are. let one = constant_among terms args vs i d are h in never one.0 one.1
not_constants terms args i d (Some r) h never = tt

-- they are the same constants
pub same_constants : (terms : List Term) (args : List TermId) (vs ws : List ℕ) → AreConstants terms args vs → AreConstants terms args ws → vs ≡ ws
same_constants terms args vs ws are also = same vs ws (sym are ∙ also)
  where
    same : (vs ws : List ℕ) → map (λ v. Some (Constant v)) vs ≡ map (λ v. Some (Constant v)) ws → vs ≡ ws
    same [] [] e = refl
    same [] (w ∷ ws) e = cc
    same (v ∷ vs) [] e = cc
    same (v ∷ vs) (w ∷ ws) e = let rest = same vs ws (cc) in cc

-- their values are these
pub values_of_constants : (terms : List Term) (inputs : ℕ → ℕ) (args : List TermId) (vs : List ℕ) → AreTerms terms → AreConstants terms args vs → map (value inputs terms) args ≡ vs
values_of_constants terms inputs [] [] are e = refl
values_of_constants terms inputs [] (v ∷ vs) are e = cc
values_of_constants terms inputs (x ∷ xs) [] are e = cc
values_of_constants terms inputs (x ∷ xs) (v ∷ vs) are e =
    let one : value inputs terms x ≡ v = value_by_term terms inputs x (Constant v) are (cc) in
    let rest = values_of_constants terms inputs xs vs are (cc) in
    cc

-- older terms keep their values
pub values_kept : (old new : List Term) (inputs : ℕ → ℕ) (args : List TermId) → Grows old new → All (IsListed old) args → map (value inputs new) args ≡ map (value inputs old) args
values_kept old new inputs [] grows listed = refl
values_kept old new inputs (x ∷ xs) grows listed =
    let one = grows.kept inputs x (All-head (IsListed old) x xs listed) in
    let rest = values_kept old new inputs xs grows (All-tail (IsListed old) x xs listed) in
    cc

-- the values before a new term are those of the older terms
behind : (inputs : ℕ → ℕ) (xs : List Term) (op : Op) (a b c : TermId)
    → value_behind inputs (values_from inputs [] xs) (Apply op a b c) ≡ operator op (value inputs xs a) (value inputs xs b) (value inputs xs c)
unfolding value
behind inputs xs op a b c = refl

-- a new term computes its operator
pub computes_new : (old new : List Term) (op : Op) (args : List TermId) (t b c d : TermId)
    → new ≡ old ++ Apply op (get_or args 0 d) b c ∷ [] → t.0 ≡ length old → length args ≡ arity op → All (IsListed old) args
    → b ≡ get_or args 1 (get_or args 0 d) → c ≡ get_or args 2 (get_or args 0 d) → Computes new t op args
computes_new old new op args t b c d e number long listed second third inputs words =
    let a = get_or args 0 d in
    let spread : operator op (value inputs old a) (value inputs old b) (value inputs old c) ≡ operator op (value inputs old a) (value inputs old (get_or args 1 a)) (value inputs old (get_or args 2 a)) = cc (second, third) in
    subst (λ ts. value inputs ts t ≡ value_of op (map (value inputs new) args)) (sym e)
    (value-next inputs old (Apply op a b c) t number
    ∙ behind inputs old op a b c
    ∙ spread
    ∙ operator_repeating op (value inputs old) args d long
    ∙ ap (value_of op) (sym (values_kept old new inputs args (grows_by old (Apply op a b c ∷ []) new e) listed)))

-- the arguments of a term are among those of its operator
pub listed_or : (terms : List Term) (args : List TermId) (i : ℕ) (a : TermId) → All (IsListed terms) args → IsListed terms a → IsListed terms (get_or args i a)
listed_or terms [] i a listed h = h
listed_or terms (x ∷ xs) zero a listed h = All-head (IsListed terms) x xs listed
listed_or terms (x ∷ xs) (suc i) a listed h = listed_or terms xs i a (All-tail (IsListed terms) x xs listed) h
