-- A token behind an operand keeps what the state says of the tokens read.
use Rattle.std.proofs.Common.{◌≡◌, ℕ, zero, suc, ◌+◌, ◌≤◌, Bool, true, false, ◌&&◌, IsTrue, List, [], ◌∷◌, ◌++◌, length, Option, Some, None, refl, sym, ap, ◌∙◌, subst, arith, append_assoc}
use Rattle.std.specs.Prelude.{codes, nat_le}
use Rattle.std.proofs.lemmas.Bool.{leb-true, and_parts, both_ways, false≢true}
use Rattle.dg_base.specs.declared.Place.{Place}
use Rattle.token_list.specs.declared.Token.{Token}
use Rattle.token_list.specs.declared.TokenKind.TheVariants as kind
use Rattle.c_tree.specs.declared.expr.TypeWord.{TypeWord}
use Rattle.c_tree.specs.declared.expr.StepOp.{StepOp}
use Rattle.c_tree.specs.declared.expr.BinaryOp.{BinaryOp}
use Rattle.c_tree.specs.declared.expr.AssignOp.{AssignOp}
use Rattle.c_tree.specs.declared.expr.Expr.{Expr}
use Rattle.c_tree.specs.declared.expr.Expr.TheVariants as e
use Rattle.c_tree.specs.Level.{expr_level}
use Rattle.c_expr.specs.declared.word.Word.{Word}
use Rattle.c_expr.specs.declared.word.Word.TheVariants as w
use Rattle.c_expr.specs.declared.frame.Frame.{Frame}
use Rattle.c_expr.specs.declared.frame.Frame.TheVariants.{InBracket, InTarget, InIndex, InCall, AfterAddress, AfterCast, AfterSign, AfterStep, AfterOperator, AfterTest, AfterChoice, AfterAssign, AfterComma}
use Rattle.c_expr.specs.Words.{mark, word, step_text, binary_text, assignment_text, IsName, word_of}
use Rattle.c_expr.specs.Expressions.{tier, may_assign, is_lvalue, AreTexts, IsType, Reads, ReadsArgument, name, bracket, index, call, step_after, value, address, text}
use Rattle.c_expr.specs.Machine as machine
use Rattle.c_expr.specs.Machine.{wants, Held, close, State, Want, Named, Have, Texts, Typed, Next, Go, Stop, if_so, pushed, has_room, over, right, right_square, colon, step_behind, extend, named, grows, behind_texts, behind_type, step}
use Rattle.c_expr.specs.TypeWords.{grown}
use Rattle.c_expr.proofs.Targets.{lvalue-name, lvalue-bracket, lvalue-index, lvalue-step_after}
use Rattle.c_expr.proofs.Spelled.{Spelled, spelled, assigns}
use Rattle.c_expr.proofs.Levels.{looser, fits, tier_small}
use Rattle.c_expr.proofs.Holding.{Holds, in_index, in_call, after_cast, after_operator, after_test, after_choice, after_assign, after_comma, none_passed, one_passed, passed, room, suits, SuitsTarget, Closed, closed}
use Rattle.c_expr.proofs.Goods.{CanGrow, Good, good_want, good_named, good_have, good_texts, good_typed, GoodNext, when, at, as_token, wants_small, over_good, sunk, behind_bracket, behind_target, behind_index, Calling, behind_call, behind_address, behind_test, seam}
use Rattle.c_expr.proofs.Starts.{start_good}

-- a `)` behind a call's last argument
call_ends : {f n : ℕ} {q : Place} {c : List ℕ} {xs : List Expr} {s : List Frame} {p a u : List Token} {m : ℕ} {x : Expr} (r : Place) → f ≤ 2 → Calling f n q c xs s p m → ReadsArgument m a x → p ++ a ≡ u
    → Good f n (Have (e.Call q c (xs ++ x ∷ [])) s) (u ++ mark (codes ")") r ∷ [])
call_ends {q = q} {c = c} {xs = xs} {s = s} {p = p} {a = a} {u = u} {m = m} {x = x} r small b arg all =
    let reads : Reads 14 (suc m) (word c q ∷ mark (codes "(") b.left ∷ ((b.past ++ a) ++ mark (codes ")") r ∷ [])) (e.Call q c (xs ++ x ∷ [])) = call b.left r b.is_name (passed b.arguments arg) in
    let tokens : b.front ++ word c q ∷ mark (codes "(") b.left ∷ ((b.past ++ a) ++ mark (codes ")") r ∷ []) ≡ b.front ++ word c q ∷ mark (codes "(") b.left ∷ (b.past ++ (a ++ mark (codes ")") r ∷ [])) = simp append_assoc in
    at (Have (e.Call q c (xs ++ x ∷ [])) s) (tokens ∙ seam b.front (word c q ∷ mark (codes "(") b.left ∷ b.past) a p u (mark (codes ")") r) b.all all)
    (good_have {k = 14} (omega arith) (omega (arith, b.wanted)) (suits _ s _ b.wanted) (λ v. reads) b.holds reads)

-- a `,` behind an argument
call_goes_on : {f n : ℕ} {q : Place} {c : List ℕ} {xs : List Expr} {s : List Frame} {p a u : List Token} {m : ℕ} {x : Expr} (r : Place) → Calling f n q c xs s p m → ReadsArgument m a x → p ++ a ≡ u
    → Good f n (Want (InCall q c (xs ++ x ∷ []) ∷ s)) (u ++ mark (codes ",") r ∷ [])
call_goes_on {q = q} {c = c} {xs = xs} {s = s} {p = p} {a = a} {u = u} {m = m} {x = x} r b arg all =
    at (Want (InCall q c (xs ++ x ∷ []) ∷ s)) (seam b.front (word c q ∷ mark (codes "(") b.left ∷ b.past) a p u (mark (codes ",") r) b.all all)
    (good_want (in_call b.left b.wanted b.is_name b.holds (one_passed r b.arguments arg)))

-- what is closed at the loosest level is a value, where one is wanted
loose : {f n : ℕ} {q : List Token} {h : Held} (c : Closed f n 0 q h) (k : ℕ) → wants f h.stack ≡ k → Reads k c.room c.back h.tree
loose c k is = looser (omega (arith, c.wanted)) c.reads

-- an address in front of a closing token
record Address (f n : ℕ) (q r : Place) (c : List ℕ) (xs : List Expr) (s : List Frame) (u : List Token) (x : Expr) : Type 0 where
  room : ℕ
  front : List Token
  back : List Token
  calling : Calling f n q c xs s front room
  argument : ReadsArgument room back (e.Address r x)
  all : front ++ back ≡ u

an_address : {f n : ℕ} {u : List Token} {r q : Place} {c : List ℕ} {xs : List Expr} {s : List Frame} {x : Expr} → Closed f n 0 u (record { tree = x; stack = AfterAddress r ∷ InCall q c xs ∷ s }) → Address f n q r c xs s u x
an_address {u = u} {r = r} k =
    let b = behind_address k.holds in
    record {
      room = suc k.room;
      front = b.0;
      back = mark (codes "&") r ∷ k.back;
      calling = behind_call b.2;
      argument = address (k.suited refl) (loose k 14 refl);
      all = append_between b.0 (mark (codes "&") r) k.back k.front u b.1 k.all;
    }
  where
    append_between : (a : List Token) (t : Token) (b p u : List Token) → a ++ t ∷ [] ≡ p → p ++ b ≡ u → a ++ t ∷ b ≡ u
    append_between a t b p u e1 e2 = let e0 : a ++ t ∷ b ≡ (a ++ t ∷ []) ++ b = simp append_assoc in e0 ∙ ap (λ l. l ++ b) e1 ∙ e2

right_good : {f n : ℕ} {q : List Token} (r : Place) → f ≤ 2 → (x : Expr) (s : List Frame) → Closed f n 0 q (record { tree = x; stack = s }) → GoodNext f n (right x s) (q ++ mark (codes ")") r ∷ [])
right_good r small x [] k = tt
right_good {f = f} {q = u} r small x (InBracket p ∷ s) k =
    let b = behind_bracket k.holds in
    let reads : Reads 14 (suc k.room) (mark (codes "(") p ∷ (k.back ++ mark (codes ")") r ∷ [])) (e.Bracket p x) = bracket r (loose k 0 refl) in
    at (Have (e.Bracket p x) s) (seam b.0 (mark (codes "(") p ∷ []) k.back k.front u (mark (codes ")") r) b.1 k.all)
    (good_have {k = 14} (omega arith) (wants_small f small s) (suits f s _ b.2) (λ v. reads) b.3 reads)
right_good {f = f} {q = u} r small x (InTarget p ∷ s) k =
    let b = behind_target k.holds in
    let reads : Reads 14 (suc k.room) (mark (codes "(") p ∷ (k.back ++ mark (codes ")") r ∷ [])) (e.Bracket p x) = bracket r (looser (omega arith) k.reads) in
    at (Have (e.Bracket p x) s) (seam b.0 (mark (codes "(") p ∷ []) k.back k.front u (mark (codes ")") r) b.1 k.all)
    (good_have {k = 14} (omega arith) (wants_small f small s) (λ is. lvalue-bracket p x ∙ k.suited refl) (λ v. reads) b.2 reads)
right_good r small x (InCall p c xs ∷ s) k = call_ends r small (behind_call k.holds) (value (loose k 1 refl)) k.all
right_good r small x (AfterAddress q ∷ InCall p c xs ∷ s) k = let a = an_address k in call_ends r small a.calling a.argument a.all
right_good r small x (AfterAddress q ∷ []) k = tt
right_good r small x (AfterAddress q ∷ InBracket p ∷ s) k = tt
right_good r small x (AfterAddress q ∷ InTarget p ∷ s) k = tt
right_good r small x (AfterAddress q ∷ InIndex p c ∷ s) k = tt
right_good r small x (AfterAddress q ∷ AfterAddress p ∷ s) k = tt
right_good r small x (AfterAddress q ∷ AfterCast p j ∷ s) k = tt
right_good r small x (AfterAddress q ∷ AfterSign p o ∷ s) k = tt
right_good r small x (AfterAddress q ∷ AfterStep p o ∷ s) k = tt
right_good r small x (AfterAddress q ∷ AfterOperator p o y ∷ s) k = tt
right_good r small x (AfterAddress q ∷ AfterTest p y ∷ s) k = tt
right_good r small x (AfterAddress q ∷ AfterChoice p y z ∷ s) k = tt
right_good r small x (AfterAddress q ∷ AfterAssign p o y ∷ s) k = tt
right_good r small x (AfterAddress q ∷ AfterComma p y ∷ s) k = tt
right_good r small x (InIndex p c ∷ s) k = tt
right_good r small x (AfterCast p j ∷ s) k = tt
right_good r small x (AfterSign p o ∷ s) k = tt
right_good r small x (AfterStep p o ∷ s) k = tt
right_good r small x (AfterOperator p o y ∷ s) k = tt
right_good r small x (AfterTest p y ∷ s) k = tt
right_good r small x (AfterChoice p y z ∷ s) k = tt
right_good r small x (AfterAssign p o y ∷ s) k = tt
right_good r small x (AfterComma p y ∷ s) k = tt

square_good : {f n : ℕ} {q : List Token} (r : Place) → f ≤ 2 → (x : Expr) (s : List Frame) → Closed f n 0 q (record { tree = x; stack = s }) → GoodNext f n (right_square x s) (q ++ mark (codes "]") r ∷ [])
square_good r small x [] k = tt
square_good {f = f} {q = u} r small x (InIndex p c ∷ s) k =
    let b = behind_index k.holds in
    let reads : Reads 14 (suc k.room) (word c p ∷ mark (codes "[") b.1 ∷ (k.back ++ mark (codes "]") r ∷ [])) (e.Index p c x) = index b.1 r b.3 (loose k 0 refl) in
    at (Have (e.Index p c x) s) (seam b.0 (word c p ∷ mark (codes "[") b.1 ∷ []) k.back k.front u (mark (codes "]") r) b.2 k.all)
    (good_have {k = 14} (omega arith) (wants_small f small s) (λ is. lvalue-index p c x) (λ v. reads) b.4 reads)
square_good r small x (InBracket p ∷ s) k = tt
square_good r small x (InTarget p ∷ s) k = tt
square_good r small x (InCall p c xs ∷ s) k = tt
square_good r small x (AfterAddress p ∷ s) k = tt
square_good r small x (AfterCast p j ∷ s) k = tt
square_good r small x (AfterSign p o ∷ s) k = tt
square_good r small x (AfterStep p o ∷ s) k = tt
square_good r small x (AfterOperator p o y ∷ s) k = tt
square_good r small x (AfterTest p y ∷ s) k = tt
square_good r small x (AfterChoice p y z ∷ s) k = tt
square_good r small x (AfterAssign p o y ∷ s) k = tt
square_good r small x (AfterComma p y ∷ s) k = tt

colon_good : {f n : ℕ} {q : List Token} (r : Place) (x : Expr) (s : List Frame) → Closed f n 0 q (record { tree = x; stack = s }) → GoodNext f n (colon x s) (q ++ mark (codes ":") r ∷ [])
colon_good r x [] k = tt
colon_good {q = u} r x (AfterTest p y ∷ s) k =
    let b = behind_test k.holds in
    let tokens : b.0 ++ (b.1 ++ mark (codes "?") p ∷ (k.back ++ mark (codes ":") r ∷ [])) ≡ b.0 ++ ((b.1 ++ mark (codes "?") p ∷ []) ++ (k.back ++ mark (codes ":") r ∷ [])) = simp append_assoc in
    at (Want (AfterChoice p y x ∷ s)) (tokens ∙ seam b.0 (b.1 ++ mark (codes "?") p ∷ []) k.back k.front u (mark (codes ":") r) b.2 k.all)
    (good_want (after_choice r b.3 b.4 b.5 (loose k 0 refl)))
colon_good r x (InBracket p ∷ s) k = tt
colon_good r x (InTarget p ∷ s) k = tt
colon_good r x (InIndex p c ∷ s) k = tt
colon_good r x (InCall p c xs ∷ s) k = tt
colon_good r x (AfterAddress p ∷ s) k = tt
colon_good r x (AfterCast p j ∷ s) k = tt
colon_good r x (AfterSign p o ∷ s) k = tt
colon_good r x (AfterStep p o ∷ s) k = tt
colon_good r x (AfterOperator p o y ∷ s) k = tt
colon_good r x (AfterChoice p y z ∷ s) k = tt
colon_good r x (AfterAssign p o y ∷ s) k = tt
colon_good r x (AfterComma p y ∷ s) k = tt

-- a comma as an operator
comma_over : {f n : ℕ} {q : List Token} (r : Place) {h : Held} → Closed f n 0 q h → GoodNext f n (over f n 0 h (AfterComma r)) (q ++ mark (codes ",") r ∷ [])
comma_over r c = over_good 0 (AfterComma r) _ c (λ le j is low. after_comma le (sunk c.room j is c.holds) (fits (looser (omega arith) c.reads) j low))

comma_good : {f n : ℕ} {q : List Token} (r : Place) (x : Expr) (s : List Frame) → Closed f n 0 q (record { tree = x; stack = s }) → GoodNext f n (machine.comma f n r x s) (q ++ mark (codes ",") r ∷ [])
comma_good r x (InCall p c xs ∷ s) k = call_goes_on r (behind_call k.holds) (value (loose k 1 refl)) k.all
comma_good r x (AfterAddress q ∷ InCall p c xs ∷ s) k = let a = an_address k in call_goes_on r a.calling a.argument a.all
comma_good r x [] k = comma_over r k
comma_good r x (AfterAddress q ∷ []) k = comma_over r k
comma_good r x (AfterAddress q ∷ InBracket p ∷ s) k = comma_over r k
comma_good r x (AfterAddress q ∷ InTarget p ∷ s) k = comma_over r k
comma_good r x (AfterAddress q ∷ InIndex p c ∷ s) k = comma_over r k
comma_good r x (AfterAddress q ∷ AfterAddress p ∷ s) k = comma_over r k
comma_good r x (AfterAddress q ∷ AfterCast p j ∷ s) k = comma_over r k
comma_good r x (AfterAddress q ∷ AfterSign p o ∷ s) k = comma_over r k
comma_good r x (AfterAddress q ∷ AfterStep p o ∷ s) k = comma_over r k
comma_good r x (AfterAddress q ∷ AfterOperator p o y ∷ s) k = comma_over r k
comma_good r x (AfterAddress q ∷ AfterTest p y ∷ s) k = comma_over r k
comma_good r x (AfterAddress q ∷ AfterChoice p y z ∷ s) k = comma_over r k
comma_good r x (AfterAddress q ∷ AfterAssign p o y ∷ s) k = comma_over r k
comma_good r x (AfterAddress q ∷ AfterComma p y ∷ s) k = comma_over r k
comma_good r x (InBracket p ∷ s) k = comma_over r k
comma_good r x (InTarget p ∷ s) k = comma_over r k
comma_good r x (InIndex p c ∷ s) k = comma_over r k
comma_good r x (AfterCast p j ∷ s) k = comma_over r k
comma_good r x (AfterSign p o ∷ s) k = comma_over r k
comma_good r x (AfterStep p o ∷ s) k = comma_over r k
comma_good r x (AfterOperator p o y ∷ s) k = comma_over r k
comma_good r x (AfterTest p y ∷ s) k = comma_over r k
comma_good r x (AfterChoice p y z ∷ s) k = comma_over r k
comma_good r x (AfterAssign p o y ∷ s) k = comma_over r k
comma_good r x (AfterComma p y ∷ s) k = comma_over r k

operator_good : {f n : ℕ} {q : List Token} (p : Place) (o : BinaryOp) {h : Held} → Closed f n (tier o) q h → GoodNext f n (over f n (tier o) h (AfterOperator p o)) (q ++ mark (binary_text o) p ∷ [])
operator_good p o c = over_good (tier o) (AfterOperator p o) _ c (λ le j is low. after_operator le (sunk c.room j is c.holds) (fits (looser c.tighter c.reads) j low))

test_good : {f n : ℕ} {q : List Token} (p : Place) {h : Held} → Closed f n 3 q h → GoodNext f n (over f n 2 h (AfterTest p)) (q ++ mark (codes "?") p ∷ [])
test_good p c = over_good 2 (AfterTest p) _ c (λ le j is low. after_test le (sunk c.room j is c.holds) (fits (looser c.tighter c.reads) j low))

-- an operand that was just read
pub record Operand (f n : ℕ) (s : List Frame) (x : Expr) (q : List Token) : Type 0 where
  pub front : List Token
  pub back : List Token
  pub room : ℕ
  pub tight : ℕ
  pub all : front ++ back ≡ q
  pub large : 13 ≤ tight
  pub wanted : wants f s ≤ tight
  pub suited : SuitsTarget f s x
  pub exact : IsTrue (is_lvalue x) → Reads 14 room back x
  pub holds : Holds f n s front room
  pub reads : Reads tight room back x

-- closed at any level of an operator
shut : {f n : ℕ} {s : List Frame} {x : Expr} {q : List Token} (l : ℕ) → l ≤ 13 → Operand f n s x q → Closed f n l q (close l x s)
shut {f = f} {n = n} {s = s} {x = x} l low k = subst (λ t. Closed f n l t (close l x s)) k.all (closed l k.tight k.room k.holds k.reads (omega (arith, k.large)) k.wanted k.suited)

-- taken as it is
taken : {f n : ℕ} {s : List Frame} {x : Expr} {q : List Token} → Operand f n s x q → IsTrue (is_lvalue x) → f ≤ 2 → Closed f n 0 q (record { tree = x; stack = s })
taken {f = f} {s = s} k v small = record { front = k.front; back = k.back; room = k.room; tight = 14; all = k.all; holds = k.holds; reads = k.exact v; tighter = omega arith; wanted = wants_small f small s; suited = k.suited }

assign_good : {f n : ℕ} {s : List Frame} {x : Expr} {q : List Token} (r : Place) (o : AssignOp) → f ≤ 2 → IsTrue (may_assign o) → Operand f n s x q → GoodNext f n (machine.assign f n r o x s) (q ++ mark (assignment_text o) r ∷ [])
unfolding taken
assign_good {f = f} {n = n} {s = s} {x = x} {q = q} r o small may k =
    when f n _ (is_lvalue x) (over f n 1 (record { tree = x; stack = s }) (AfterAssign r o)) (λ v.
    over_good 1 (AfterAssign r o) (mark (assignment_text o) r) (taken k v small) (λ le j is low. after_assign le may v (sunk k.room j is k.holds) (fits (k.exact v) j low)))

-- where a node over this tree has room
deep : {f n : ℕ} {s : List Frame} {p : List Token} (m k : ℕ) → Holds f n s p m → suc (k + length s) ≤ n → (j : ℕ) × (m ≡ suc j) × (k ≤ j)
deep zero k h le = absurd (omega (arith, room h))
deep (suc j) k h le = (j, refl, omega (arith, room h))

step_behind_good : {f n : ℕ} {s : List Frame} {x : Expr} {q : List Token} (r : Place) (o : StepOp) → Operand f n s x q → GoodNext f n (step_behind f n r o x s) (q ++ mark (step_text o) r ∷ [])
step_behind_good {f = f} {n = n} {s = s} {x = x} {q = q} r o k =
    when f n _ (is_lvalue x && (nat_le (wants f s) 13 && has_room n (record { tree = x; stack = s }))) (Go (Have (e.StepAfter r o x) s)) (λ all.
    let one = and_parts (is_lvalue x) (nat_le (wants f s) 13 && has_room n (record { tree = x; stack = s })) all in
    let two = and_parts (nat_le (wants f s) 13) (has_room n (record { tree = x; stack = s })) one.1 in
    let low = leb-true (wants f s) 13 two.0 in
    let d = deep k.room (expr_level x) k.holds (leb-true (suc (expr_level x + length s)) n two.1) in
    let inner : Reads 14 d.0 k.back x = fits (k.exact one.0) d.0 d.2 in
    let reads : Reads 13 (suc d.0) (k.back ++ mark (step_text o) r ∷ []) (e.StepAfter r o x) = step_after (omega arith) one.0 inner in
    at (Have (e.StepAfter r o x) s) (sym (append_assoc k.front k.back (mark (step_text o) r ∷ [])) ∙ ap (λ l. l ++ mark (step_text o) r ∷ []) k.all)
    (good_have {k = 13} (omega arith) low (suits f s _ low) (λ v. absurd (both_ways (is_lvalue (e.StepAfter r o x)) (lvalue-step_after r o x) v)) (sunk k.room d.0 d.1 k.holds) reads))

pub extend_good : {f n : ℕ} → f ≤ 2 → (t : Token) (v : Word) → Spelled v t → word_of t ≡ v → (x : Expr) {s : List Frame} {q : List Token} → Operand f n s x q → GoodNext f n (extend f n v t.place x s) (q ++ t ∷ [])
extend_good small t w.Right is by x {s = s} k = let h = close 0 x s in as_token _ _ _ (right h.tree h.stack) t (mark (codes ")") t.place) is (right_good t.place small h.tree h.stack (shut 0 (omega arith) k))
extend_good small t w.RightSquare is by x {s = s} k = let h = close 0 x s in as_token _ _ _ (right_square h.tree h.stack) t (mark (codes "]") t.place) is (square_good t.place small h.tree h.stack (shut 0 (omega arith) k))
extend_good {f = f} {n = n} small t w.Comma is by x {s = s} k = let h = close 0 x s in as_token _ _ _ (machine.comma f n t.place h.tree h.stack) t (mark (codes ",") t.place) is (comma_good t.place h.tree h.stack (shut 0 (omega arith) k))
extend_good {f = f} {n = n} small t w.Ask is by x {s = s} k = as_token _ _ _ (over f n 2 (close 3 x s) (AfterTest t.place)) t (mark (codes "?") t.place) is (test_good t.place (shut 3 (omega arith) k))
extend_good small t w.Colon is by x {s = s} k = let h = close 0 x s in as_token _ _ _ (colon h.tree h.stack) t (mark (codes ":") t.place) is (colon_good t.place h.tree h.stack (shut 0 (omega arith) k))
extend_good {f = f} {n = n} small t (w.Step o) is by x {s = s} k = as_token _ _ _ (step_behind f n t.place o x s) t (mark (step_text o) t.place) is (step_behind_good t.place o k)
extend_good {f = f} {n = n} small t (w.Binary o) is by x {s = s} k = as_token _ _ _ (over f n (tier o) (close (tier o) x s) (AfterOperator t.place o)) t (mark (binary_text o) t.place) is (operator_good t.place o (shut (tier o) (omega (arith, tier_small o)) k))
extend_good {f = f} {n = n} small t (w.Assign o) is by x {s = s} k = as_token _ _ _ (machine.assign f n t.place o x s) t (mark (assignment_text o) t.place) is (assign_good t.place o small (assigns t o by) k)
extend_good small t _ is by x k = tt

-- a token behind a name
name_operand : {f n : ℕ} {q : Place} {c : List ℕ} {s : List Frame} {p : List Token} {m : ℕ} → f ≤ 2 → IsName c → Holds f n s p m → Operand f n s (e.Name q c) (p ++ word c q ∷ [])
name_operand {f = f} {q = q} {c = c} {s = s} {p = p} {m = m} small i h = record {
  front = p;
  back = word c q ∷ [];
  room = m;
  tight = 14;
  all = refl;
  large = omega arith;
  wanted = wants_small f small s;
  suited = λ is. lvalue-name q c;
  exact = λ v. name i;
  holds = h;
  reads = name i;
}

-- a bracket behind a name, that was read before it
behind_name : (p : List Token) (c : List ℕ) (q : Place) (u : Token) → p ++ word c q ∷ u ∷ [] ≡ (p ++ word c q ∷ []) ++ u ∷ []
behind_name p c q u = simp append_assoc

pushed_name : {f n : ℕ} {s : List Frame} {p : List Token} (c : List ℕ) (q : Place) (m : ℕ) (g : Frame) (u : Token) → Holds f n s p m
    → ((j : ℕ) → m ≡ suc j → Holds f n (g ∷ s) (p ++ word c q ∷ u ∷ []) j) → GoodNext f n (pushed n s g) ((p ++ word c q ∷ []) ++ u ∷ [])
pushed_name {f = f} {n = n} {s = s} {p = p} c q m g u h k =
    when f n _ (nat_le (suc (length s)) n) (Go (Want (g ∷ s))) (λ is.
    let d = deep m 0 h (omega (arith, leb-true (suc (length s)) n is)) in at (Want (g ∷ s)) (behind_name p c q u) (good_want (k d.0 d.1)))

named_good : {f n : ℕ} → f ≤ 2 → (t : Token) (v : Word) → Spelled v t → word_of t ≡ v → (q : Place) (c : List ℕ) {s : List Frame} {p : List Token} {m : ℕ} → IsName c → Holds f n s p m
    → GoodNext f n (named f n v t.place q c s) ((p ++ word c q ∷ []) ++ t ∷ [])
named_good {n = n} small t w.LeftSquare is by q c {s = s} {m = m} i h =
    as_token _ _ _ (pushed n s (InIndex q c)) t (mark (codes "[") t.place) is (pushed_name c q m (InIndex q c) _ h (λ j d. in_index t.place i (sunk m j d h)))
named_good {f = f} {n = n} small t w.Left is by q c {s = s} {m = m} i h =
    as_token _ _ _ (named f n w.Left t.place q c s) t (mark (codes "(") t.place) is
    (when f n _ (nat_le (wants f s) 13) (pushed n s (InCall q c [])) (λ le. pushed_name c q m (InCall q c []) _ h (λ j d. in_call t.place (leb-true (wants f s) 13 le) i (sunk m j d h) none_passed)))
named_good small t w.Name is by q c i h = extend_good small t w.Name is by (e.Name q c) (name_operand small i h)
named_good small t w.Number is by q c i h = extend_good small t w.Number is by (e.Name q c) (name_operand small i h)
named_good small t w.Text is by q c i h = extend_good small t w.Text is by (e.Name q c) (name_operand small i h)
named_good small t w.Right is by q c i h = extend_good small t w.Right is by (e.Name q c) (name_operand small i h)
named_good small t w.RightSquare is by q c i h = extend_good small t w.RightSquare is by (e.Name q c) (name_operand small i h)
named_good small t w.LeftBrace is by q c i h = extend_good small t w.LeftBrace is by (e.Name q c) (name_operand small i h)
named_good small t w.RightBrace is by q c i h = extend_good small t w.RightBrace is by (e.Name q c) (name_operand small i h)
named_good small t w.Semicolon is by q c i h = extend_good small t w.Semicolon is by (e.Name q c) (name_operand small i h)
named_good small t w.Comma is by q c i h = extend_good small t w.Comma is by (e.Name q c) (name_operand small i h)
named_good small t w.Ask is by q c i h = extend_good small t w.Ask is by (e.Name q c) (name_operand small i h)
named_good small t w.Colon is by q c i h = extend_good small t w.Colon is by (e.Name q c) (name_operand small i h)
named_good small t (w.Sign o) is by q c i h = extend_good small t (w.Sign o) is by (e.Name q c) (name_operand small i h)
named_good small t (w.Step o) is by q c i h = extend_good small t (w.Step o) is by (e.Name q c) (name_operand small i h)
named_good small t (w.Binary o) is by q c i h = extend_good small t (w.Binary o) is by (e.Name q c) (name_operand small i h)
named_good small t (w.Assign o) is by q c i h = extend_good small t (w.Assign o) is by (e.Name q c) (name_operand small i h)
named_good small t (w.Type o) is by q c i h = extend_good small t (w.Type o) is by (e.Name q c) (name_operand small i h)
named_good small t (w.Keyword o) is by q c i h = extend_good small t (w.Keyword o) is by (e.Name q c) (name_operand small i h)
named_good small t w.Other is by q c i h = extend_good small t w.Other is by (e.Name q c) (name_operand small i h)

-- a token behind an argument's texts
are_texts : (t : Token) (a : List Token) → AreTexts a → t.kind ≡ kind.Text → AreTexts (a ++ t ∷ [])
are_texts t [] all is = (is, tt)
are_texts t (u ∷ us) all is = (all.0, are_texts t us all.1 is)

texts_good : {f n : ℕ} → f ≤ 2 → (t : Token) (v : Word) → Spelled v t → (u : Token) (us : List Token) {q : Place} {c : List ℕ} {xs : List Expr} {s : List Frame} {p : List Token} {m : ℕ} → AreTexts (u ∷ us)
    → Holds f n (InCall q c xs ∷ s) p m → GoodNext f n (behind_texts v u.place (InCall q c xs ∷ s)) ((p ++ u ∷ us) ++ t ∷ [])
texts_good small t w.Text is u us {q = q} {c = c} {xs = xs} {s = s} {p = p} all h = at (Texts u.place (InCall q c xs ∷ s)) (sym (append_assoc p (u ∷ us) (t ∷ []))) (good_texts u (us ++ t ∷ []) (are_texts t (u ∷ us) all is) h)
texts_good small t w.Comma is u us {q = q} {c = c} {xs = xs} {s = s} all h =
    as_token _ _ _ (Go (Want (InCall q c (xs ++ e.Text u.place ∷ []) ∷ s))) t (mark (codes ",") t.place) is (call_goes_on t.place (behind_call h) (text all) refl)
texts_good small t w.Right is u us {q = q} {c = c} {xs = xs} {s = s} all h =
    as_token _ _ _ (Go (Have (e.Call q c (xs ++ e.Text u.place ∷ [])) s)) t (mark (codes ")") t.place) is (call_ends t.place small (behind_call h) (text all) refl)
texts_good small t _ is u us all h = tt

-- a token behind words of a type
grows_good : {f n : ℕ} (t : Token) (v : Word) → Spelled v t → (q : Place) (k : TypeWord) (j : Option TypeWord) (a : List Token) {s : List Frame} {p : List Token} {m : ℕ} → grown v k ≡ j → wants f s ≤ 13 → CanGrow a k → Holds f n s p (suc m)
    → GoodNext f n (grows q s j) ((p ++ mark (codes "(") q ∷ a) ++ t ∷ [])
grows_good t v is q k None a by le can h = tt
grows_good t v is q k (Some j) a {s = s} {p = p} by le can h =
    at (Typed q j false s) (sym (append_assoc p (mark (codes "(") q ∷ a) (t ∷ []))) (good_typed le (can t v j is by) (λ bad. absurd (false≢true bad)) h)

type_grows : {f n : ℕ} (t : Token) (v : Word) → Spelled v t → (q : Place) (k : TypeWord) (more : Bool) (a : List Token) {s : List Frame} {p : List Token} {m : ℕ} → wants f s ≤ 13 → (more ≡ true → CanGrow a k) → Holds f n s p (suc m)
    → GoodNext f n (if_so more (grows q s (grown v k))) ((p ++ mark (codes "(") q ∷ a) ++ t ∷ [])
type_grows {f = f} {n = n} t v is q k more a {s = s} le can h = when f n _ more (grows q s (grown v k)) (λ may. grows_good t v is q k (grown v k) a refl le (can may) h)

type_good : {f n : ℕ} (t : Token) (v : Word) → Spelled v t → (q : Place) (k : TypeWord) (more : Bool) {s : List Frame} {p a : List Token} {m : ℕ} → wants f s ≤ 13 → IsType a k → (more ≡ true → CanGrow a k)
    → Holds f n s p (suc m) → GoodNext f n (behind_type v q k more s) ((p ++ mark (codes "(") q ∷ a) ++ t ∷ [])
type_good t w.Right is q k more {s = s} {p = p} {a = a} le typed can h =
    as_token _ _ _ (Go (Want (AfterCast q k ∷ s))) t (mark (codes ")") t.place) is
    (at (Want (AfterCast q k ∷ s)) (sym (append_assoc p (mark (codes "(") q ∷ a) (mark (codes ")") t.place ∷ []))) (good_want (after_cast t.place le h typed)))
type_good t w.Name is q k more {a = a} le typed can h = type_grows t w.Name is q k more a le can h
type_good t w.Number is q k more {a = a} le typed can h = type_grows t w.Number is q k more a le can h
type_good t w.Text is q k more {a = a} le typed can h = type_grows t w.Text is q k more a le can h
type_good t w.Left is q k more {a = a} le typed can h = type_grows t w.Left is q k more a le can h
type_good t w.LeftSquare is q k more {a = a} le typed can h = type_grows t w.LeftSquare is q k more a le can h
type_good t w.RightSquare is q k more {a = a} le typed can h = type_grows t w.RightSquare is q k more a le can h
type_good t w.LeftBrace is q k more {a = a} le typed can h = type_grows t w.LeftBrace is q k more a le can h
type_good t w.RightBrace is q k more {a = a} le typed can h = type_grows t w.RightBrace is q k more a le can h
type_good t w.Semicolon is q k more {a = a} le typed can h = type_grows t w.Semicolon is q k more a le can h
type_good t w.Comma is q k more {a = a} le typed can h = type_grows t w.Comma is q k more a le can h
type_good t w.Ask is q k more {a = a} le typed can h = type_grows t w.Ask is q k more a le can h
type_good t w.Colon is q k more {a = a} le typed can h = type_grows t w.Colon is q k more a le can h
type_good t (w.Sign o) is q k more {a = a} le typed can h = type_grows t (w.Sign o) is q k more a le can h
type_good t (w.Step o) is q k more {a = a} le typed can h = type_grows t (w.Step o) is q k more a le can h
type_good t (w.Binary o) is q k more {a = a} le typed can h = type_grows t (w.Binary o) is q k more a le can h
type_good t (w.Assign o) is q k more {a = a} le typed can h = type_grows t (w.Assign o) is q k more a le can h
type_good t (w.Type o) is q k more {a = a} le typed can h = type_grows t (w.Type o) is q k more a le can h
type_good t (w.Keyword o) is q k more {a = a} le typed can h = type_grows t (w.Keyword o) is q k more a le can h
type_good t w.Other is q k more {a = a} le typed can h = type_grows t w.Other is q k more a le can h

-- each step keeps what its state says
pub step_good : {f n : ℕ} → f ≤ 2 → (t : Token) (s : State) {p : List Token} → Good f n s p → GoodNext f n (step f n t s) (p ++ t ∷ [])
step_good small t (Want s) (good_want h) = start_good small t (word_of t) (spelled t (word_of t) refl) h
step_good small t (Named q c s) (good_named i h) = named_good small t (word_of t) (spelled t (word_of t) refl) refl q c i h
step_good small t (Have x s) (good_have {k = k} {p = p} {a = a} {m = m} large wanted suited exact h r) =
    extend_good small t (word_of t) (spelled t (word_of t) refl) refl x (record { front = p; back = a; room = m; tight = k; all = refl; large = large; wanted = wanted; suited = suited; exact = exact; holds = h; reads = r })
step_good small t (Texts q s) (good_texts u us all h) = texts_good small t (word_of t) (spelled t (word_of t) refl) u us all h
step_good small t (Typed q k more s) (good_typed le typed can h) = type_good t (word_of t) (spelled t (word_of t) refl) q k more le typed can h
