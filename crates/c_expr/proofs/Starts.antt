-- A token where an operand is to come keeps what the state says of the tokens read.
use Rattle.std.proofs.Common.{◌≡◌, ℕ, suc, ◌≤◌, Bool, true, false, cond, List, [], ◌∷◌, ◌++◌, Some, None, refl, sym, ap, ◌∙◌, subst, arith}
use Rattle.std.specs.Prelude.{codes, nat_le}
use Rattle.std.proofs.lemmas.List.{append-nil}
use Rattle.std.proofs.lemmas.Bool.{leb-true, cond_both, false≢true}
use Rattle.dg_base.specs.declared.Place.{Place}
use Rattle.token_list.specs.declared.Token.{Token}
use Rattle.token_list.specs.declared.TokenKind.TheVariants as kind
use Rattle.c_tree.specs.declared.expr.TypeWord.{TypeWord}
use Rattle.c_tree.specs.declared.expr.TypeWord.TheVariants as type
use Rattle.c_tree.specs.declared.expr.UnaryOp.{UnaryOp}
use Rattle.c_tree.specs.declared.expr.UnaryOp.TheVariants as unary
use Rattle.c_tree.specs.declared.expr.BinaryOp.{BinaryOp}
use Rattle.c_tree.specs.declared.expr.BinaryOp.TheVariants as op
use Rattle.c_tree.specs.declared.expr.Expr.{Expr}
use Rattle.c_tree.specs.declared.expr.Expr.TheVariants as e
use Rattle.c_expr.specs.declared.word.TypeName.{TypeName}
use Rattle.c_expr.specs.declared.word.TypeName.TheVariants as tn
use Rattle.c_expr.specs.declared.word.Word.{Word}
use Rattle.c_expr.specs.declared.word.Word.TheVariants as w
use Rattle.c_expr.specs.declared.frame.Frame.{Frame}
use Rattle.c_expr.specs.declared.frame.Frame.TheVariants.{InBracket, InTarget, InIndex, InCall, AfterAddress, AfterCast, AfterSign, AfterStep, AfterOperator, AfterTest, AfterChoice, AfterAssign, AfterComma}
use Rattle.token_list.specs.Numbers.{is_unsigned}
use Rattle.c_expr.specs.Words.{mark, word, prefix_text, step_text, binary_text, type_text}
use Rattle.c_expr.specs.Expressions.{value_in, IsType, int, signed, signed_int, unsigned, unsigned_int, void, pointer, thread, mutex, cond as cond_variable, Reads, number, call, no_argument}
use Rattle.c_expr.specs.Machine as machine
use Rattle.c_expr.specs.Machine.{wants, State, Want, Named, Have, Texts, Typed, Next, Go, Stop, if_so, pushed, calls, no_arguments, typed, sign_of, operator_first, bracket_frame, start}
use Rattle.c_expr.specs.TypeWords.{first_word, may_grow, is_int, is_star}
use Rattle.c_expr.proofs.Spelled.{Spelled}
use Rattle.c_expr.proofs.Holding.{Holds, in_bracket, in_target, after_address, after_sign, after_step, Passed, none_passed, one_passed, suits}
use Rattle.c_expr.proofs.Goods.{CanGrow, good_named, good_have, good_texts, good_typed, GoodNext, when, at, as_token, pushed_good, sunk, behind_bracket, behind_call, seam}

-- a bracket round an expression or round what can be assigned to
bracket_holds : {f n : ℕ} (q : Place) {s : List Frame} {p : List Token} (j : ℕ) → Holds f n s p (suc j) → Holds f n (bracket_frame f q s ∷ s) (p ++ mark (codes "(") q ∷ []) j
bracket_holds {f = f} {n = n} q {s = s} {p = p} j h =
    cond_both (nat_le (wants f s) 13) (InBracket q) (InTarget q) (λ g. Holds f n (g ∷ s) (p ++ mark (codes "(") q ∷ []) j)
    (λ is. in_bracket (leb-true (wants f s) 13 is) h) (λ is. in_target h)

texts_good : {f n : ℕ} (t : Token) (s : List Frame) {p : List Token} {m : ℕ} → t.kind ≡ kind.Text → Holds f n s p m → GoodNext f n (if_so (calls s) (Go (Texts t.place s))) (p ++ t ∷ [])
texts_good t [] is h = tt
texts_good t (InCall q c xs ∷ s) is h = good_texts t [] (is, tt) h
texts_good t (InBracket p ∷ s) is h = tt
texts_good t (InTarget p ∷ s) is h = tt
texts_good t (InIndex p c ∷ s) is h = tt
texts_good t (AfterAddress p ∷ s) is h = tt
texts_good t (AfterCast p k ∷ s) is h = tt
texts_good t (AfterSign p o ∷ s) is h = tt
texts_good t (AfterStep p o ∷ s) is h = tt
texts_good t (AfterOperator p o y ∷ s) is h = tt
texts_good t (AfterTest p y ∷ s) is h = tt
texts_good t (AfterChoice p y z ∷ s) is h = tt
texts_good t (AfterAssign p o y ∷ s) is h = tt
texts_good t (AfterComma p y ∷ s) is h = tt

-- a call with no arguments
empty_call : {f n : ℕ} (t : Token) (s : List Frame) {p : List Token} {m : ℕ} → t ≡ mark (codes ")") t.place → Holds f n s p m → GoodNext f n (no_arguments s) (p ++ t ∷ [])
empty_call t [] is h = tt
empty_call t (InCall q c (x ∷ xs) ∷ s) is h = tt
empty_call {f = f} {n = n} t (InCall q c [] ∷ s) {p = p} {m = m} is h =
    let b = behind_call h in
    let none : b.past ≡ [] = empty b.arguments in
    let r : Reads 14 (suc m) (word c q ∷ mark (codes "(") b.left ∷ ([] ++ mark (codes ")") t.place ∷ [])) (e.Call q c []) = call b.left t.place b.is_name no_argument in
    let all : b.front ++ word c q ∷ mark (codes "(") b.left ∷ [] ≡ p = ap (λ l. b.front ++ word c q ∷ mark (codes "(") b.left ∷ l) (sym none) ∙ b.all in
    as_token _ _ _ (Go (Have (e.Call q c []) s)) t (mark (codes ")") t.place) is
    (at (Have (e.Call q c []) s) (seam b.front (word c q ∷ mark (codes "(") b.left ∷ []) [] p p (mark (codes ")") t.place) all (append-nil p))
    (good_have {k = 14} (omega arith) (omega (arith, b.wanted)) (suits f s _ b.wanted) (λ v. r) b.holds r))
  where
    no_last : (xs : List Expr) (x : Expr) → xs ++ x ∷ [] ≡ [] → ⊥
    no_last [] x is = cc
    no_last (y ∷ xs) x is = cc

    ended : {m : ℕ} (a : List Token) (ys : List Expr) → ys ≡ [] → Passed m a ys → a ≡ []
    ended a ys is none_passed = refl
    ended a ys is (one_passed q {xs = xs} {x = x} p r) = absurd (no_last xs x is)

    empty : {m : ℕ} {a : List Token} → Passed m a [] → a ≡ []
    empty {a = a} p = ended a [] refl p
empty_call t (InBracket p ∷ s) is h = tt
empty_call t (InTarget p ∷ s) is h = tt
empty_call t (InIndex p c ∷ s) is h = tt
empty_call t (AfterAddress p ∷ s) is h = tt
empty_call t (AfterCast p k ∷ s) is h = tt
empty_call t (AfterSign p o ∷ s) is h = tt
empty_call t (AfterStep p o ∷ s) is h = tt
empty_call t (AfterOperator p o y ∷ s) is h = tt
empty_call t (AfterTest p y ∷ s) is h = tt
empty_call t (AfterChoice p y z ∷ s) is h = tt
empty_call t (AfterAssign p o y ∷ s) is h = tt
empty_call t (AfterComma p y ∷ s) is h = tt

-- the first word of a type
pub first_type : (k : TypeName) (p : Place) → IsType (word (type_text k) p ∷ []) (first_word k)
first_type tn.Int p = int p
first_type tn.Signed p = signed p
first_type tn.Unsigned p = unsigned p
first_type tn.Void p = void p
first_type tn.Thread p = thread p
first_type tn.Mutex p = mutex p
first_type tn.Cond p = cond_variable p

-- one word more behind `signed`, `unsigned` and `void`
some_if : (b : Bool) (x j : TypeWord) → cond b (Some x) None ≡ Some j → (b ≡ true) × (x ≡ j)
some_if true x j is = (refl, cc)
some_if false x j is = let bad : None ≡ Some j = is in cc

int_token : (t : Token) (v : Word) → is_int v ≡ true → Spelled v t → word (codes "int") t.place ≡ t
int_token t (w.Type tn.Int) test is = sym is
int_token t _ test is = absurd (false≢true test)

star_token : (t : Token) (v : Word) → is_star v ≡ true → Spelled v t → mark (codes "*") t.place ≡ t
star_token t (w.Binary op.Times) test is = sym is
star_token t _ test is = absurd (false≢true test)

signed_grows : (p : Place) → CanGrow (word (codes "signed") p ∷ []) type.Int
signed_grows p t v j is grows =
    let b = some_if (is_int v) type.Int j grows in
    subst (λ k. IsType (word (codes "signed") p ∷ t ∷ []) k) b.1 (subst (λ u. IsType (word (codes "signed") p ∷ u ∷ []) type.Int) (int_token t v b.0 is) (signed_int p t.place))

unsigned_grows : (p : Place) → CanGrow (word (codes "unsigned") p ∷ []) type.Uint
unsigned_grows p t v j is grows =
    let b = some_if (is_int v) type.Uint j grows in
    subst (λ k. IsType (word (codes "unsigned") p ∷ t ∷ []) k) b.1 (subst (λ u. IsType (word (codes "unsigned") p ∷ u ∷ []) type.Uint) (int_token t v b.0 is) (unsigned_int p t.place))

void_grows : (p : Place) → CanGrow (word (codes "void") p ∷ []) type.Void
void_grows p t v j is grows =
    let b = some_if (is_star v) type.VoidPointer j grows in
    subst (λ k. IsType (word (codes "void") p ∷ t ∷ []) k) b.1 (subst (λ u. IsType (word (codes "void") p ∷ u ∷ []) type.VoidPointer) (star_token t v b.0 is) (pointer p t.place))

pub first_grows : (k : TypeName) (p : Place) → may_grow k ≡ true → CanGrow (word (type_text k) p ∷ []) (first_word k)
first_grows tn.Signed p may = signed_grows p
first_grows tn.Unsigned p may = unsigned_grows p
first_grows tn.Void p may = void_grows p
first_grows tn.Int p may = absurd (false≢true may)
first_grows tn.Thread p may = absurd (false≢true may)
first_grows tn.Mutex p may = absurd (false≢true may)
first_grows tn.Cond p may = absurd (false≢true may)

typed_good : {f n : ℕ} (k : TypeName) (t : Token) (s : List Frame) {p : List Token} {m : ℕ} → t ≡ word (type_text k) t.place → Holds f n s p m → GoodNext f n (typed k s) (p ++ t ∷ [])
typed_good k t [] is h = tt
typed_good {f = f} {n = n} k t (InBracket q ∷ s) {p = p} is h =
    let b = behind_bracket h in
    as_token _ _ _ (Go (Typed q (first_word k) (may_grow k) s)) t (word (type_text k) t.place) is
    (at (Typed q (first_word k) (may_grow k) s) (seam b.0 (mark (codes "(") q ∷ []) [] p p (word (type_text k) t.place) b.1 (append-nil p))
    (good_typed b.2 (first_type k t.place) (first_grows k t.place) b.3))
typed_good k t (InTarget p ∷ s) is h = tt
typed_good k t (InIndex p c ∷ s) is h = tt
typed_good k t (InCall p c xs ∷ s) is h = tt
typed_good k t (AfterAddress p ∷ s) is h = tt
typed_good k t (AfterCast p j ∷ s) is h = tt
typed_good k t (AfterSign p o ∷ s) is h = tt
typed_good k t (AfterStep p o ∷ s) is h = tt
typed_good k t (AfterOperator p o y ∷ s) is h = tt
typed_good k t (AfterTest p y ∷ s) is h = tt
typed_good k t (AfterChoice p y z ∷ s) is h = tt
typed_good k t (AfterAssign p o y ∷ s) is h = tt
typed_good k t (AfterComma p y ∷ s) is h = tt

signed_good : {f n : ℕ} (o : UnaryOp) (t : Token) {s : List Frame} {p : List Token} {m : ℕ} → t ≡ mark (prefix_text o) t.place → Holds f n s p m → GoodNext f n (machine.signed f n t.place s (Some o)) (p ++ t ∷ [])
signed_good {f = f} {n = n} o t {s = s} {p = p} {m = m} is h =
    as_token _ _ _ (machine.signed f n t.place s (Some o)) t (mark (prefix_text o) t.place) is
    (when f n _ (nat_le (wants f s) 13) _ (λ le. pushed_good m _ _ h (λ j d. after_sign (leb-true (wants f s) 13 le) (sunk m j d h))))

address_good : {f n : ℕ} (t : Token) (s : List Frame) {p : List Token} {m : ℕ} → t ≡ mark (codes "&") t.place → Holds f n s p m → GoodNext f n (if_so (calls s) (pushed n s (AfterAddress t.place))) (p ++ t ∷ [])
address_good t [] is h = tt
address_good {n = n} t (InCall q c xs ∷ s) {m = m} is h =
    as_token _ _ _ (pushed n (InCall q c xs ∷ s) (AfterAddress t.place)) t (mark (codes "&") t.place) is (pushed_good m _ _ h (λ j d. after_address (sunk m j d h)))
address_good t (InBracket p ∷ s) is h = tt
address_good t (InTarget p ∷ s) is h = tt
address_good t (InIndex p c ∷ s) is h = tt
address_good t (AfterAddress p ∷ s) is h = tt
address_good t (AfterCast p k ∷ s) is h = tt
address_good t (AfterSign p o ∷ s) is h = tt
address_good t (AfterStep p o ∷ s) is h = tt
address_good t (AfterOperator p o y ∷ s) is h = tt
address_good t (AfterTest p y ∷ s) is h = tt
address_good t (AfterChoice p y z ∷ s) is h = tt
address_good t (AfterAssign p o y ∷ s) is h = tt
address_good t (AfterComma p y ∷ s) is h = tt

operator_first_good : {f n : ℕ} (o : BinaryOp) (t : Token) {s : List Frame} {p : List Token} {m : ℕ} → t ≡ mark (binary_text o) t.place → Holds f n s p m → GoodNext f n (operator_first f n t.place s o) (p ++ t ∷ [])
operator_first_good op.BitAnd t {s = s} is h = address_good t s is h
operator_first_good op.Plus t is h = signed_good unary.Plus t is h
operator_first_good op.Minus t is h = signed_good unary.Negate t is h
operator_first_good _ t is h = tt

pub start_good : {f n : ℕ} → f ≤ 2 → (t : Token) (v : Word) {s : List Frame} {p : List Token} {m : ℕ} → Spelled v t → Holds f n s p m → GoodNext f n (start f n v t s) (p ++ t ∷ [])
start_good {f = f} {n = n} small t w.Name {s = s} is h = as_token _ _ _ (Go (Named t.place t.text s)) t (word t.text t.place) is.0 (good_named is.1 h)
start_good {f = f} {n = n} small t w.Number {s = s} {p = p} {m = m} is h =
    let x : Expr = e.Number t.place (value_in t.text) (is_unsigned t.text (value_in t.text)) in
    as_token _ _ _ (start f n w.Number t s) t (record { kind = kind.Number; place = t.place; text = t.text }) is
    (when f n _ (nat_le (wants f s) 13) (Go (Have x s)) (λ le.
    let low = leb-true (wants f s) 13 le in
    good_have {k = 14} (omega arith) (omega (arith, low)) (suits f s x low) (λ v. number) h number))
start_good small t w.Text {s = s} is h = texts_good t s is h
start_good {f = f} {n = n} small t w.Left {s = s} {m = m} is h = as_token _ _ _ (pushed n s (bracket_frame f t.place s)) t (mark (codes "(") t.place) is (pushed_good m _ _ h (λ j d. bracket_holds t.place j (sunk m j d h)))
start_good small t w.Right {s = s} is h = empty_call t s is h
start_good small t (w.Sign o) is h = signed_good o t is h
start_good {f = f} {n = n} small t (w.Step o) {s = s} {m = m} is h =
    as_token _ _ _ (start f n (w.Step o) t s) t (mark (step_text o) t.place) is
    (when f n _ (nat_le (wants f s) 13) _ (λ le. pushed_good m _ _ h (λ j d. after_step (leb-true (wants f s) 13 le) (sunk m j d h))))
start_good small t (w.Binary o) is h = operator_first_good o t is h
start_good small t (w.Type k) {s = s} is h = typed_good k t s is h
start_good small t _ is h = tt
