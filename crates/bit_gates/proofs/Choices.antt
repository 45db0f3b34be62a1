-- Choices that are conjunctions or disjunctions.
use Rattle.std.proofs.Common.{◌≡◌, ℕ, ◌+◌, ◌*◌, ◌^◌, ◌<◌, ◌⊎◌, inl, inr, Bool, true, false, not, ◌&&◌, ◌||◌, List, length, take, set, get_or, refl, ap, sym, ◌∙◌, subst, arith, Result, Ok, Err}
use Rattle.std.specs.Prelude.{IfOk, if◌then◌else◌, nat_lt, nat_eq, replicate}
use Rattle.std.specs.Bool.{xor}
use Rattle.std.proofs.lemmas.List.{take_all}
use Rattle.std.proofs.lemmas.Nat.{pow_pos}
use Rattle.dg_base.specs.Values.{truth_of}
use Rattle.cnf_problem.proofs.Assignments.{over-negated}
use Rattle.bit_gates.specs.declared.bits.BitKind.{BitKind}
use Rattle.bit_gates.specs.declared.bits.BitKind.TheVariants.{And, Or, Xor}
use Rattle.cnf_problem.proofs.GateLaws.{extends_steps, gate_of_older}
use Rattle.bit_gates.specs.Words.{number, bit_of, word_of, IsWordGate}
use Rattle.bit_gates.proofs.Arith.{apart_none, any_step, less_step, bitwise_step}
use Rattle.bit_gates.proofs.Numbers.{number_more, number_low}
use Rattle.dg_base.specs.declared.Lit.{Lit}
use Rattle.dg_base.specs.declared.want.OutOfMemory.{OutOfMemory}
use Rattle.cnf_problem.specs.Literals.{value, negated, IsOver}
use Rattle.cnf_problem.specs.Formulas.{Formula, HasValue, IsGate}
use Rattle.cnf_problem.proofs.LiteralLaws.{value-negated}
use Rattle.bit_gates.proofs.Steps.{none_so_far, older, gate_as, gate_behind, SoFar, one_more, all_made}

-- what an answer says may be told otherwise
pub ok_as : {A : Type 0} (r : Result A OutOfMemory) (P Q : A → Type 0) → IfOk r P → ((a : A) → P a → Q a) → IfOk r Q
ok_as (Ok a) P Q h f = f a h
ok_as (Err e) P Q h f = tt

either_value : (s : List Bool) (l m n : Lit) (x y : Bool) → (l ≡ m) ⊎ (l ≡ n) → value s m ≡ x → value s n ≡ y → (value s l ≡ x) ⊎ (value s l ≡ y)
either_value s l m n x y (inl e) h k = inl (ap (value s) e ∙ h)
either_value s l m n x y (inr e) h k = inr (ap (value s) e ∙ k)

true_or : (c a b : Bool) → (a ≡ true) ⊎ (a ≡ c) → (c || b) ≡ (if c then a else b)
true_or true a b (inl e) = sym e
true_or true a b (inr e) = sym e
true_or false a b h = refl

false_and : (c a b : Bool) → (a ≡ false) ⊎ (a ≡ not c) → (not c && b) ≡ (if c then a else b)
false_and true a b (inl e) = sym e
false_and true a b (inr e) = sym e
false_and false a b h = refl

and_false : (c a b : Bool) → (b ≡ false) ⊎ (b ≡ c) → (c && a) ≡ (if c then a else b)
and_false true a b h = refl
and_false false a b (inl e) = sym e
and_false false a b (inr e) = sym e

or_true : (c a b : Bool) → (b ≡ true) ⊎ (b ≡ not c) → (not c || a) ≡ (if c then a else b)
or_true true a b h = refl
or_true false a b (inl e) = sym e
or_true false a b (inr e) = sym e

-- the branch where the choice is true is true itself
pub choose_or : (f g : Formula) (always c a b : Lit) (r : Result Lit OutOfMemory) → HasValue f.clauses always (λ _. true) → (a ≡ always) ⊎ (a ≡ c)
    → IfOk r (λ l. IsGate f g l (λ s. value s c || value s b)) → IfOk r (λ l. IsGate f g l (λ s. if value s c then value s a else value s b))
choose_or f g always c a b r k e h =
    ok_as r (λ l. IsGate f g l (λ s. value s c || value s b)) (λ l. IsGate f g l (λ s. if value s c then value s a else value s b)) h
    (λ l gate. gate_as f g l (λ s. value s c || value s b) (λ s. if value s c then value s a else value s b) gate
    (λ s sat. true_or (value s c) (value s a) (value s b) (either_value s a always c true (value s c) e (k s (older f g s gate.extends sat)) refl)))

-- that branch is false
pub choose_and : (f g : Formula) (always c a b n m : Lit) (r : Result Lit OutOfMemory) → HasValue f.clauses always (λ _. false) → n ≡ negated c → m ≡ negated c → (a ≡ always) ⊎ (a ≡ m)
    → IfOk r (λ l. IsGate f g l (λ s. value s n && value s b)) → IfOk r (λ l. IsGate f g l (λ s. if value s c then value s a else value s b))
choose_and f g always c a b n m r k p q e h =
    ok_as r (λ l. IsGate f g l (λ s. value s n && value s b)) (λ l. IsGate f g l (λ s. if value s c then value s a else value s b)) h
    (λ l gate. gate_as f g l (λ s. value s n && value s b) (λ s. if value s c then value s a else value s b) gate
    (λ s sat. ap (λ z. z && value s b) (ap (value s) p ∙ value-negated s c)
    ∙ false_and (value s c) (value s a) (value s b)
    (either_value s a always m false (not (value s c)) e (k s (older f g s gate.extends sat)) (ap (value s) q ∙ value-negated s c))))

-- the other branch is false
pub choose_both : (f g : Formula) (always c a b : Lit) (r : Result Lit OutOfMemory) → HasValue f.clauses always (λ _. false) → (b ≡ always) ⊎ (b ≡ c)
    → IfOk r (λ l. IsGate f g l (λ s. value s c && value s a)) → IfOk r (λ l. IsGate f g l (λ s. if value s c then value s a else value s b))
choose_both f g always c a b r k e h =
    ok_as r (λ l. IsGate f g l (λ s. value s c && value s a)) (λ l. IsGate f g l (λ s. if value s c then value s a else value s b)) h
    (λ l gate. gate_as f g l (λ s. value s c && value s a) (λ s. if value s c then value s a else value s b) gate
    (λ s sat. and_false (value s c) (value s a) (value s b) (either_value s b always c false (value s c) e (k s (older f g s gate.extends sat)) refl)))

-- the other branch is true
pub choose_implied : (f g : Formula) (always c a b n m : Lit) (r : Result Lit OutOfMemory) → HasValue f.clauses always (λ _. true) → n ≡ negated c → m ≡ negated c → (b ≡ always) ⊎ (b ≡ m)
    → IfOk r (λ l. IsGate f g l (λ s. value s n || value s a)) → IfOk r (λ l. IsGate f g l (λ s. if value s c then value s a else value s b))
choose_implied f g always c a b n m r k p q e h =
    ok_as r (λ l. IsGate f g l (λ s. value s n || value s a)) (λ l. IsGate f g l (λ s. if value s c then value s a else value s b)) h
    (λ l gate. gate_as f g l (λ s. value s n || value s a) (λ s. if value s c then value s a else value s b) gate
    (λ s sat. ap (λ z. z || value s a) (ap (value s) p ∙ value-negated s c)
    ∙ or_true (value s c) (value s a) (value s b)
    (either_value s b always m true (not (value s c)) e (k s (older f g s gate.extends sat)) (ap (value s) q ∙ value-negated s c))))

-- a conjunction of negations, negated
pub or_gate : (f g : Formula) (a b n m l o : Lit) → n ≡ negated a → m ≡ negated b → o ≡ negated l → IsGate f g l (λ s. value s n && value s m) → IsGate f g o (λ s. value s a || value s b)
or_gate f g a b n m l o p q r gate = record {
  over = subst (λ z. IsOver g.vars z) (sym r) (over-negated g.vars l gate.over);
  exact = λ s h.
      let first : value s n ≡ not (value s a) = ap (value s) p ∙ value-negated s a in
      let second : value s m ≡ not (value s b) = ap (value s) q ∙ value-negated s b in
      ap (value s) r ∙ value-negated s l ∙ ap not (gate.exact s h)
      ∙ ap (λ z. not (z && value s m)) first ∙ ap (λ z. not (not (value s a) && z)) second ∙ de_morgan (value s a) (value s b);
  extends = gate.extends;
}
  where
    de_morgan : (x y : Bool) → not (not x && not y) ≡ (x || y)
    de_morgan true y = refl
    de_morgan false true = refl
    de_morgan false false = refl

-- a word chosen bit by bit
pub choice_more : (f g h : Formula) (w a b : List Lit) (c l d e : Lit) (i : ℕ) → i < 32 → length a ≡ 32 → length b ≡ 32
    → SoFar f g w i (λ s. if value s c then number s (take i a) else number s (take i b))
    → IsGate g h l (λ s. if value s c then value s (get_or a i d) else value s (get_or b i e))
    → SoFar f h (set w i l) (i + 1) (λ s. if value s c then number s (take (i + 1) a) else number s (take (i + 1) b))
choice_more f g h w a b c l d e i within long_a long_b far gate =
    one_more f g h w i l (λ s. if value s c then number s (take i a) else number s (take i b)) (λ s. if value s c then number s (take (i + 1) a) else number s (take (i + 1) b))
    (λ s. if value s c then value s (get_or a i d) else value s (get_or b i e)) within far gate
    (λ s sat.
    let x = number_more s a i d (omega arith) in
    let y = number_more s b i e (omega arith) in
    rw (x, y) (by_choice (value s c) (number s (take i a)) (number s (take i b)) (2 ^ i) (value s (get_or a i d)) (value s (get_or b i e))))
  where
    by_choice : (c : Bool) (A B P : ℕ) (x y : Bool) → (if c then A else B) + P * truth_of (if c then x else y) ≡ (if c then A + P * truth_of x else B + P * truth_of y)
    by_choice true A B P x y = refl
    by_choice false A B P x y = refl

-- the whole word
pub choice_made : (f g : Formula) (w a b : List Lit) (c : Lit) (i : ℕ) → i ≡ 32 → length a ≡ 32 → length b ≡ 32
    → SoFar f g w i (λ s. if value s c then number s (take i a) else number s (take i b))
    → IsWordGate f g w (λ s. if value s c then number s a else number s b)
choice_made f g w a b c i e long_a long_b far =
    all_made f g w (λ s. if value s c then number s (take 32 a) else number s (take 32 b)) (λ s. if value s c then number s a else number s b)
    (subst (λ n. SoFar f g w n (λ s. if value s c then number s (take n a) else number s (take n b))) e far)
    (λ s. ap (λ z. if value s c then number s z else number s (take 32 b)) (take_all 32 a (omega arith)) ∙ ap (λ z. if value s c then number s a else number s z) (take_all 32 b (omega arith)))

-- a disjunction of the bits of a word
pub any_more : (f g h : Formula) (a : List Lit) (any l d : Lit) (i : ℕ) → i < 32 → length a ≡ 32
    → IsGate f g any (λ s. nat_lt 0 (number s (take i a))) → IsGate g h l (λ s. value s any || value s (get_or a i d))
    → IsGate f h l (λ s. nat_lt 0 (number s (take (i + 1) a)))
any_more f g h a any l d i within long far gate =
    gate_as f h l (λ s. value s any || value s (get_or a i d)) (λ s. nat_lt 0 (number s (take (i + 1) a))) (gate_behind f g h l (λ s. value s any || value s (get_or a i d)) far.extends gate)
    (λ s sat.
    ap (λ z. z || value s (get_or a i d)) (far.exact s (older g h s gate.extends sat))
    ∙ any_step (2 ^ i) (number s (take i a)) (value s (get_or a i d)) (pow_pos i)
    ∙ ap (nat_lt 0) (sym (number_more s a i d (omega arith))))

-- a comparison by its bits
pub less_more : (f g h : Formula) (a b : List Lit) (less l d e : Lit) (i : ℕ) → i < 32 → length a ≡ 32 → length b ≡ 32
    → IsGate f g less (λ s. nat_lt (number s (take i a)) (number s (take i b)))
    → IsGate g h l (λ s. if xor (value s (get_or a i d)) (value s (get_or b i e)) then value s (get_or b i e) else value s less)
    → IsGate f h l (λ s. nat_lt (number s (take (i + 1) a)) (number s (take (i + 1) b)))
less_more f g h a b less l d e i within long_a long_b far gate =
    gate_as f h l (λ s. if xor (value s (get_or a i d)) (value s (get_or b i e)) then value s (get_or b i e) else value s less) (λ s. nat_lt (number s (take (i + 1) a)) (number s (take (i + 1) b)))
    (gate_behind f g h l (λ s. if xor (value s (get_or a i d)) (value s (get_or b i e)) then value s (get_or b i e) else value s less) far.extends gate)
    (λ s sat.
    let x = value s (get_or a i d) in
    let y = value s (get_or b i e) in
    ap (λ z. if xor (value s (get_or a i d)) (value s (get_or b i e)) then value s (get_or b i e) else z) (far.exact s (older g h s gate.extends sat))
    ∙ less_step (2 ^ i) (number s (take i a)) (number s (take i b)) (value s (get_or a i d)) (value s (get_or b i e)) (number_low s i a (omega arith)) (number_low s i b (omega arith))
    ∙ ap (λ z. nat_lt z (number s (take i b) + 2 ^ i * truth_of (value s (get_or b i e)))) (sym (number_more s a i d (omega arith)))
    ∙ ap (λ z. nat_lt (number s (take (i + 1) a)) z) (sym (number_more s b i e (omega arith))))

-- one bit of a comparison
pub less_bit : (f g h : Formula) (apart a b lower l : Lit) → IsGate f g apart (λ s. xor (value s a) (value s b)) → IsGate g h l (λ s. if value s apart then value s b else value s lower)
    → IsGate f h l (λ s. if xor (value s a) (value s b) then value s b else value s lower)
less_bit f g h apart a b lower l first second =
    gate_as f h l (λ s. if value s apart then value s b else value s lower) (λ s. if xor (value s a) (value s b) then value s b else value s lower)
    (gate_behind f g h l (λ s. if value s apart then value s b else value s lower) first.extends second)
    (λ s sat. ap (λ z. if z then value s b else value s lower) (first.exact s (older g h s second.extends sat)))

-- a bitwise operator, bit by bit
pub bitwise_more : (f g h : Formula) (w a b : List Lit) (kind : BitKind) (l d e : Lit) (i : ℕ) → i < 32 → length a ≡ 32 → length b ≡ 32
    → SoFar f g w i (λ s. word_of kind (number s (take i a)) (number s (take i b)))
    → IsGate g h l (λ s. bit_of kind (value s (get_or a i d)) (value s (get_or b i e)))
    → SoFar f h (set w i l) (i + 1) (λ s. word_of kind (number s (take (i + 1) a)) (number s (take (i + 1) b)))
bitwise_more f g h w a b kind l d e i within long_a long_b far gate =
    one_more f g h w i l (λ s. word_of kind (number s (take i a)) (number s (take i b))) (λ s. word_of kind (number s (take (i + 1) a)) (number s (take (i + 1) b)))
    (λ s. bit_of kind (value s (get_or a i d)) (value s (get_or b i e))) within far gate
    (λ s sat.
    bitwise_step kind i (number s (take i a)) (number s (take i b)) (value s (get_or a i d)) (value s (get_or b i e)) (number_low s i a (omega arith)) (number_low s i b (omega arith))
    ∙ ap (λ z. word_of kind z (number s (take i b) + 2 ^ i * truth_of (value s (get_or b i e)))) (sym (number_more s a i d (omega arith)))
    ∙ ap (λ z. word_of kind (number s (take (i + 1) a)) z) (sym (number_more s b i e (omega arith))))

pub bitwise_made : (f g : Formula) (w a b : List Lit) (kind : BitKind) (i : ℕ) → i ≡ 32 → length a ≡ 32 → length b ≡ 32
    → SoFar f g w i (λ s. word_of kind (number s (take i a)) (number s (take i b)))
    → IsWordGate f g w (λ s. word_of kind (number s a) (number s b))
bitwise_made f g w a b kind i e long_a long_b far =
    all_made f g w (λ s. word_of kind (number s (take 32 a)) (number s (take 32 b))) (λ s. word_of kind (number s a) (number s b))
    (subst (λ n. SoFar f g w n (λ s. word_of kind (number s (take n a)) (number s (take n b)))) e far)
    (λ s. ap (λ z. word_of kind (number s z) (number s (take 32 b))) (take_all 32 a (omega arith)) ∙ ap (λ z. word_of kind (number s a) (number s z)) (take_all 32 b (omega arith)))

-- what holds of no bit
pub choice_none : (f : Formula) (a b : List Lit) (c always : Lit) → IsOver f.vars always → SoFar f f (replicate 32 always) 0 (λ s. if value s c then number s (take 0 a) else number s (take 0 b))
choice_none f a b c always over = none_so_far f always (λ s. if value s c then number s (take 0 a) else number s (take 0 b)) over (λ s. none (value s c) 0 refl)
  where
    none : (b : Bool) (n : ℕ) → n ≡ 0 → (if b then n else n) ≡ 0
    none true n e = e
    none false n e = e

pub any_none : (f : Formula) (a : List Lit) (always : Lit) → IsOver f.vars always → HasValue f.clauses always (λ _. false) → IsGate f f always (λ s. nat_lt 0 (number s (take 0 a)))
any_none f a always over exact = gate_of_older f always (λ s. nat_lt 0 (number s (take 0 a))) over exact

pub less_none : (f : Formula) (a b : List Lit) (always : Lit) → IsOver f.vars always → HasValue f.clauses always (λ _. false)
    → IsGate f f always (λ s. nat_lt (number s (take 0 a)) (number s (take 0 b)))
less_none f a b always over exact = gate_of_older f always (λ s. nat_lt (number s (take 0 a)) (number s (take 0 b))) over exact

pub bitwise_none : (f : Formula) (a b : List Lit) (kind : BitKind) (always : Lit) → IsOver f.vars always
    → SoFar f f (replicate 32 always) 0 (λ s. word_of kind (number s (take 0 a)) (number s (take 0 b)))
bitwise_none f a b kind always over = none_so_far f always (λ s. word_of kind (number s (take 0 a)) (number s (take 0 b))) over (λ s. none kind)
  where
    none : (kind : BitKind) → word_of kind 0 0 ≡ 0
    none And = refl
    none Or = refl
    none Xor = refl

-- what holds of all bits
pub any_made : (f g : Formula) (a : List Lit) (any : Lit) (i : ℕ) → i ≡ 32 → length a ≡ 32 → IsGate f g any (λ s. nat_lt 0 (number s (take i a))) → IsGate f g any (λ s. nat_lt 0 (number s a))
any_made f g a any i e long gate =
    gate_as f g any (λ s. nat_lt 0 (number s (take i a))) (λ s. nat_lt 0 (number s a)) gate
    (λ s sat. ap (λ z. nat_lt 0 (number s z)) (take_all i a (omega arith)))

pub less_made : (f g : Formula) (a b : List Lit) (less : Lit) (i : ℕ) → i ≡ 32 → length a ≡ 32 → length b ≡ 32
    → IsGate f g less (λ s. nat_lt (number s (take i a)) (number s (take i b))) → IsGate f g less (λ s. nat_lt (number s a) (number s b))
less_made f g a b less i e long_a long_b gate =
    gate_as f g less (λ s. nat_lt (number s (take i a)) (number s (take i b))) (λ s. nat_lt (number s a) (number s b)) gate
    (λ s sat. ap (λ z. nat_lt (number s z) (number s (take i b))) (take_all i a (omega arith)) ∙ ap (λ z. nat_lt (number s a) (number s z)) (take_all i b (omega arith)))

-- words are equal where no bit is apart
pub equal_gate : (f g h : Formula) (apart a b : List Lit) (some out : Lit) → out ≡ negated some → IsWordGate f g apart (λ s. word_of Xor (number s a) (number s b))
    → IsGate g h some (λ s. nat_lt 0 (number s apart)) → IsGate f h out (λ s. nat_eq (number s a) (number s b))
equal_gate f g h apart a b some out e first second = record {
  over = subst (λ l. IsOver h.vars l) (sym e) (over-negated h.vars some second.over);
  exact = λ s sat.
      ap (value s) e ∙ value-negated s some ∙ ap not (second.exact s sat)
      ∙ ap (λ n. not (nat_lt 0 n)) (first.exact s (older g h s second.extends sat)) ∙ apart_none (number s a) (number s b);
  extends = extends_steps f g h first.extends second.extends;
}
