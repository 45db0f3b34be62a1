-- What the stack says of the tokens read, and that each of its states begins a text.
use Rattle.std.proofs.Common.{◌≡◌, ℕ, suc, ◌+◌, ◌≤◌, Bool, true, false, cond, IsTrue, List, [], ◌∷◌, ◌++◌, length, refl, sym, ap, ◌∙◌, subst, arith, append_assoc}
use Rattle.std.proofs.lemmas.List.{append-nil}
use Rattle.std.specs.Prelude.{codes, nat_lt}
use Rattle.std.proofs.lemmas.Bool.{ltb-true, le-ltb, cond-false}
use Rattle.dg_base.specs.declared.Place.{Place}
use Rattle.token_list.specs.declared.Token.{Token}
use Rattle.c_tree.specs.declared.expr.TypeWord.{TypeWord}
use Rattle.c_tree.specs.declared.expr.UnaryOp.{UnaryOp}
use Rattle.c_tree.specs.declared.expr.StepOp.{StepOp}
use Rattle.c_tree.specs.declared.expr.BinaryOp.{BinaryOp}
use Rattle.c_tree.specs.declared.expr.AssignOp.{AssignOp}
use Rattle.c_tree.specs.declared.expr.Expr.{Expr}
use Rattle.c_tree.specs.declared.expr.Expr.TheVariants as e
use Rattle.c_expr.specs.declared.frame.Frame.{Frame}
use Rattle.c_expr.specs.declared.frame.Frame.TheVariants.{InBracket, InTarget, InIndex, InCall, AfterAddress, AfterCast, AfterSign, AfterStep, AfterOperator, AfterTest, AfterChoice, AfterAssign, AfterComma}
use Rattle.c_expr.specs.Words.{mark, word, prefix_text, step_text, binary_text, assignment_text, IsName}
use Rattle.c_expr.specs.Expressions.{tier, may_assign, is_lvalue, IsType, Reads, ReadsArgument, ReadsArguments, name, bracket, index, call, cast, prefix, step_before, binary, choose, assign, comma, value, address, one_argument, more_arguments, Begins}
use Rattle.c_expr.specs.Machine.{filled, reach, wanted_by, wants, Held, close}
use Rattle.c_expr.proofs.Targets.{lvalue-index, lvalue-bracket}
use Rattle.c_expr.proofs.Spelled.{unreserved}
use Rattle.c_expr.proofs.Levels.{looser, tier_small}

-- arguments, each with its comma behind it
pub data Passed (m : ℕ) : List Token → List Expr → Type 0 where
  none_passed : Passed m [] []
  one_passed : (q : Place) {a b : List Token} {xs : List Expr} {x : Expr} → Passed m a xs → ReadsArgument m b x → Passed m (a ++ (b ++ mark (codes ",") q ∷ [])) (xs ++ x ∷ [])

-- with the last ones they are a call's arguments
all_passed : {m : ℕ} {a b : List Token} {xs ys : List Expr} {y : Expr} → Passed m a xs → ReadsArguments m b (y ∷ ys) → ReadsArguments m (a ++ b) (xs ++ y ∷ ys)
all_passed none_passed r = r
all_passed {m = m} {b = c} {ys = ys} {y = y} (one_passed q {a = a} {b = b} {xs = xs} {x = x} p r) s =
    let more = all_passed p (more_arguments q r s) in
    let tokens : a ++ (b ++ mark (codes ",") q ∷ c) ≡ (a ++ (b ++ mark (codes ",") q ∷ [])) ++ c = simp append_assoc in
    let trees : xs ++ x ∷ y ∷ ys ≡ (xs ++ x ∷ []) ++ y ∷ ys = simp append_assoc in
    subst (λ l. ReadsArguments m l ((xs ++ x ∷ []) ++ y ∷ ys)) tokens (subst (ReadsArguments m (a ++ (b ++ mark (codes ",") q ∷ c))) trees more)

pub passed : {m : ℕ} {a b : List Token} {xs : List Expr} {y : Expr} → Passed m a xs → ReadsArgument m b y → ReadsArguments m (a ++ b) (xs ++ y ∷ [])
passed p r = all_passed p (one_argument r)

-- Holds f n s p m: the nodes of s are those of a text of level f with at most n nodes on one way down that begins with p.
-- The text goes on with what the topmost node wants, in which at most m nodes may lie on one way down.
pub data Holds (f n : ℕ) : List Frame → List Token → ℕ → Type 0 where
  bottom : Holds f n [] [] n
  in_bracket : {q : Place} {s : List Frame} {p : List Token} {m : ℕ} → wants f s ≤ 13 → Holds f n s p (suc m) → Holds f n (InBracket q ∷ s) (p ++ mark (codes "(") q ∷ []) m
  in_target : {q : Place} {s : List Frame} {p : List Token} {m : ℕ} → Holds f n s p (suc m) → Holds f n (InTarget q ∷ s) (p ++ mark (codes "(") q ∷ []) m
  in_index : (r : Place) {q : Place} {c : List ℕ} {s : List Frame} {p : List Token} {m : ℕ} → IsName c → Holds f n s p (suc m)
      → Holds f n (InIndex q c ∷ s) (p ++ word c q ∷ mark (codes "[") r ∷ []) m
  in_call : (r : Place) {q : Place} {c : List ℕ} {xs : List Expr} {s : List Frame} {p a : List Token} {m : ℕ} → wants f s ≤ 13 → IsName c → Holds f n s p (suc m) → Passed m a xs
      → Holds f n (InCall q c xs ∷ s) (p ++ word c q ∷ mark (codes "(") r ∷ a) m
  after_address : {r q : Place} {c : List ℕ} {xs : List Expr} {s : List Frame} {p : List Token} {m : ℕ} → Holds f n (InCall q c xs ∷ s) p (suc m)
      → Holds f n (AfterAddress r ∷ InCall q c xs ∷ s) (p ++ mark (codes "&") r ∷ []) m
  after_cast : (r : Place) {q : Place} {k : TypeWord} {s : List Frame} {p a : List Token} {m : ℕ} → wants f s ≤ 13 → Holds f n s p (suc m) → IsType a k
      → Holds f n (AfterCast q k ∷ s) (p ++ mark (codes "(") q ∷ (a ++ mark (codes ")") r ∷ [])) m
  after_sign : {q : Place} {o : UnaryOp} {s : List Frame} {p : List Token} {m : ℕ} → wants f s ≤ 13 → Holds f n s p (suc m) → Holds f n (AfterSign q o ∷ s) (p ++ mark (prefix_text o) q ∷ []) m
  after_step : {q : Place} {o : StepOp} {s : List Frame} {p : List Token} {m : ℕ} → wants f s ≤ 13 → Holds f n s p (suc m) → Holds f n (AfterStep q o ∷ s) (p ++ mark (step_text o) q ∷ []) m
  after_operator : {q : Place} {o : BinaryOp} {s : List Frame} {p a : List Token} {x : Expr} {m : ℕ} → wants f s ≤ tier o → Holds f n s p (suc m) → Reads (tier o) m a x
      → Holds f n (AfterOperator q o x ∷ s) (p ++ (a ++ mark (binary_text o) q ∷ [])) m
  after_test : {q : Place} {s : List Frame} {p a : List Token} {x : Expr} {m : ℕ} → wants f s ≤ 2 → Holds f n s p (suc m) → Reads 3 m a x
      → Holds f n (AfterTest q x ∷ s) (p ++ (a ++ mark (codes "?") q ∷ [])) m
  after_choice : {q : Place} (r : Place) {s : List Frame} {p a b : List Token} {x y : Expr} {m : ℕ} → wants f s ≤ 2 → Holds f n s p (suc m) → Reads 3 m a x → Reads 0 m b y
      → Holds f n (AfterChoice q x y ∷ s) (p ++ (a ++ mark (codes "?") q ∷ (b ++ mark (codes ":") r ∷ []))) m
  after_assign : {q : Place} {o : AssignOp} {s : List Frame} {p a : List Token} {x : Expr} {m : ℕ} → wants f s ≤ 1 → IsTrue (may_assign o) → IsTrue (is_lvalue x) → Holds f n s p (suc m) → Reads 14 m a x
      → Holds f n (AfterAssign q o x ∷ s) (p ++ (a ++ mark (assignment_text o) q ∷ [])) m
  after_comma : {q : Place} {s : List Frame} {p a : List Token} {x : Expr} {m : ℕ} → wants f s ≤ 0 → Holds f n s p (suc m) → Reads 0 m a x
      → Holds f n (AfterComma q x ∷ s) (p ++ (a ++ mark (codes ",") q ∷ [])) m

-- what begins so begins with less
pub shorter : (f n : ℕ) (p q r : List Token) → p ++ q ≡ r → Begins f n r → Begins f n p
shorter f n p q r is b = (q ++ b.0, b.1, subst (λ l. Reads f n l b.1) (ap (λ l. l ++ b.0) (sym is) ∙ append_assoc p q b.0) b.2)

-- an operand of level 14 is wanted only where it must be assigned to
abbrev pub SuitsTarget : ℕ → List Frame → Expr → Type 0
SuitsTarget f s x = wants f s ≡ 14 → IsTrue (is_lvalue x)

-- where something looser is wanted, anything suits
pub suits : (f : ℕ) (s : List Frame) (x : Expr) → wants f s ≤ 13 → SuitsTarget f s x
suits f s x le is = absurd (omega arith)

pub here : Place
here = record { line = 1; col = 1 }

-- a name, which completes any operand
pub a_name : List ℕ
a_name = codes "a"

pub a_name-IsName : IsName a_name
unfolding a_name
a_name-IsName = unreserved (codes "a") refl

-- What the topmost node wants completes the text.
pub completed : {f n : ℕ} {s : List Frame} {p : List Token} {m : ℕ} → Holds f n s p m → (a : List Token) (x : Expr) → Reads (wants f s) m a x → SuitsTarget f s x → Begins f n (p ++ a)
completed {f = f} {n = n} bottom a x r v = ([], x, subst (λ l. Reads f n l x) (sym (append-nil a)) r)
completed {f = f} {n = n} (in_bracket {q = q} {s = s} {p = p} le h) a x r v =
    shorter f n _ (mark (codes ")") here ∷ []) _ (simp append_assoc)
    (completed h (mark (codes "(") q ∷ (a ++ mark (codes ")") here ∷ [])) (e.Bracket q x) (bracket here r) (suits f s _ le))
completed {f = f} {n = n} (in_target {q = q} {s = s} {p = p} h) a x r v =
    shorter f n _ (mark (codes ")") here ∷ []) _ (simp append_assoc)
    (completed h (mark (codes "(") q ∷ (a ++ mark (codes ")") here ∷ [])) (e.Bracket q x) (bracket here (looser (omega arith) r)) (λ is. lvalue-bracket q x ∙ v refl))
completed {f = f} {n = n} (in_index k {q = q} {c = c} {s = s} {p = p} i h) a x r v =
    shorter f n _ (mark (codes "]") here ∷ []) _ (simp append_assoc)
    (completed h (word c q ∷ mark (codes "[") k ∷ (a ++ mark (codes "]") here ∷ [])) (e.Index q c x) (index k here i r) (λ is. lvalue-index q c x))
completed {f = f} {n = n} (in_call k {q = q} {c = c} {xs = xs} {s = s} {p = p} {a = b} le i h past) a x r v =
    shorter f n _ (mark (codes ")") here ∷ []) _ (simp append_assoc)
    (completed h (word c q ∷ mark (codes "(") k ∷ ((b ++ a) ++ mark (codes ")") here ∷ [])) (e.Call q c (xs ++ x ∷ [])) (call k here i (passed past (value r))) (suits f s _ le))
completed {f = f} {n = n} (after_address {r = u} (in_call k {q = q} {c = c} {xs = xs} {s = s} {p = p} {a = b} le i h past)) a x r v =
    shorter f n _ (mark (codes ")") here ∷ []) _ (simp append_assoc)
    (completed h (word c q ∷ mark (codes "(") k ∷ ((b ++ mark (codes "&") u ∷ a) ++ mark (codes ")") here ∷ [])) (e.Call q c (xs ++ e.Address u x ∷ []))
    (call k here i (passed past (address (v refl) r))) (suits f s _ le))
completed {f = f} {n = n} (after_cast k {q = q} {k = w} {s = s} {p = p} {a = b} le h t) a x r v =
    shorter f n _ [] _ (simp (append_assoc, append-nil)) (completed h (mark (codes "(") q ∷ (b ++ mark (codes ")") k ∷ a)) (e.Cast q w x) (cast k le t r) (suits f s _ le))
completed {f = f} {n = n} (after_sign {q = q} {o = o} {s = s} {p = p} le h) a x r v =
    shorter f n _ [] _ (simp (append_assoc, append-nil)) (completed h (mark (prefix_text o) q ∷ a) (e.Unary q o x) (prefix le r) (suits f s _ le))
completed {f = f} {n = n} (after_step {q = q} {o = o} {s = s} {p = p} le h) a x r v =
    shorter f n _ [] _ (simp (append_assoc, append-nil)) (completed h (mark (step_text o) q ∷ a) (e.StepBefore q o x) (step_before le (v refl) r) (suits f s _ le))
completed {f = f} {n = n} (after_operator {q = q} {o = o} {s = s} {p = p} {a = b} {x = y} le h t) a x r v =
    shorter f n _ [] _ (simp (append_assoc, append-nil)) (completed h (b ++ mark (binary_text o) q ∷ a) (e.Binary q o y x) (binary le t r) (suits f s _ (omega (arith, tier_small o))))
completed {f = f} {n = n} (after_test {q = q} {s = s} {p = p} {a = b} {x = y} le h t) a x r v =
    shorter f n _ (mark (codes ":") here ∷ word a_name here ∷ []) _ (simp append_assoc)
    (completed h (b ++ mark (codes "?") q ∷ (a ++ mark (codes ":") here ∷ word a_name here ∷ [])) (e.Choose q y x (e.Name here a_name)) (choose here le t r (name a_name-IsName)) (suits f s _ (omega arith)))
completed {f = f} {n = n} (after_choice {q = q} k {s = s} {p = p} {a = b} {b = c} {x = y} {y = z} le h t u) a x r v =
    shorter f n _ [] _ (simp (append_assoc, append-nil)) (completed h (b ++ mark (codes "?") q ∷ (c ++ mark (codes ":") k ∷ a)) (e.Choose q y z x) (choose k le t u r) (suits f s _ (omega arith)))
completed {f = f} {n = n} (after_assign {q = q} {o = o} {s = s} {p = p} {a = b} {x = y} le may lv h t) a x r v =
    shorter f n _ [] _ (simp (append_assoc, append-nil)) (completed h (b ++ mark (assignment_text o) q ∷ a) (e.Assign q o y x) (assign le may lv t r) (suits f s _ (omega arith)))
completed {f = f} {n = n} (after_comma {q = q} {s = s} {p = p} {a = b} {x = y} le h t) a x r v =
    shorter f n _ [] _ (simp (append_assoc, append-nil)) (completed h (b ++ mark (codes ",") q ∷ a) (e.Comma q y x) (comma le t r) (suits f s _ (omega arith)))

-- each node on the stack takes one of the depth
pub room : {f n : ℕ} {s : List Frame} {p : List Token} {m : ℕ} → Holds f n s p m → m + length s ≡ n
room bottom = omega arith
room (in_bracket le h) = omega (arith, room h)
room (in_target h) = omega (arith, room h)
room (in_index k i h) = omega (arith, room h)
room (in_call k le i h past) = omega (arith, room h)
room (after_address h) = omega (arith, room h)
room (after_cast k le h t) = omega (arith, room h)
room (after_sign le h) = omega (arith, room h)
room (after_step le h) = omega (arith, room h)
room (after_operator le h r) = omega (arith, room h)
room (after_test le h r) = omega (arith, room h)
room (after_choice q le h r s) = omega (arith, room h)
room (after_assign le may v h r) = omega (arith, room h)
room (after_comma le h r) = omega (arith, room h)

-- closing takes nothing from the tokens read, and ends at a node that isn't whole yet
pub record Closed (f n l : ℕ) (q : List Token) (h : Held) : Type 0 where
  pub front : List Token
  pub back : List Token
  pub room : ℕ
  pub tight : ℕ
  pub all : front ++ back ≡ q
  pub holds : Holds f n h.stack front room
  pub reads : Reads tight room back h.tree
  pub tighter : l ≤ tight
  pub wanted : wants f h.stack ≤ tight
  pub suited : SuitsTarget f h.stack h.tree

-- where the topmost node is whole, it is closed, and else it stays
chosen : (f n l : ℕ) (q : List Token) (b : Bool) (x y : Held) → (b ≡ true → Closed f n l q x) → (b ≡ false → Closed f n l q y) → Closed f n l q (cond b x y)
chosen f n l q true x y h k = h refl
chosen f n l q false x y h k = k refl

pub stays : {f n : ℕ} (l k m : ℕ) {s : List Frame} {p a : List Token} {x : Expr} → Holds f n s p m → Reads k m a x → l ≤ k → wants f s ≤ k → SuitsTarget f s x
    → Closed f n l (p ++ a) (record { tree = x; stack = s })
stays l k m {p = p} {a = a} h r lg wg v = record { front = p; back = a; room = m; tight = k; all = refl; holds = h; reads = r; tighter = lg; wanted = wg; suited = v }

moved : (f n l : ℕ) (q r : List Token) (h : Held) → q ≡ r → Closed f n l q h → Closed f n l r h
moved f n l q r h is c = subst (λ t. Closed f n l t h) is c

-- a node that nothing closes stays
open_stays : {f n : ℕ} (l k m : ℕ) (g : Frame) {s : List Frame} {p a : List Token} {x : Expr} → reach g ≡ 0 → Holds f n (g ∷ s) p m → Reads k m a x → l ≤ k → wanted_by g ≤ k
    → SuitsTarget f (g ∷ s) x → Closed f n l (p ++ a) (close l x (g ∷ s))
open_stays {f = f} {n = n} l k m g {s = s} {p = p} {a = a} {x = x} none h r lg wg v =
    subst (Closed f n l (p ++ a)) (sym (cond-false (nat_lt l (reach g)) (close l (filled g x) s) (record { tree = x; stack = g ∷ s }) (le-ltb l (reach g) (omega arith)))) (stays l k m h r lg wg v)

pub closed : {f n : ℕ} (l k m : ℕ) {s : List Frame} {p a : List Token} {x : Expr} → Holds f n s p m → Reads k m a x → l ≤ k → wants f s ≤ k → SuitsTarget f s x
    → Closed f n l (p ++ a) (close l x s)
closed l k m bottom r lg wg v = stays l k m bottom r lg wg v
closed l k m (in_bracket le h) r lg wg v = open_stays l k m _ refl (in_bracket le h) r lg wg v
closed l k m (in_target h) r lg wg v = open_stays l k m _ refl (in_target h) r lg wg v
closed l k m (in_index q i h) r lg wg v = open_stays l k m _ refl (in_index q i h) r lg wg v
closed l k m (in_call q le i h past) r lg wg v = open_stays l k m _ refl (in_call q le i h past) r lg wg v
closed l k m (after_address h) r lg wg v = open_stays l k m _ refl (after_address h) r lg wg v
closed l k m (after_test le h s) r lg wg v = open_stays l k m _ refl (after_test le h s) r lg wg v
closed {f = f} {n = n} l k m {a = a} {x = x} (after_cast q' {q = q} {k = w} {s = s} {p = p} {a = b} le h t) r lg wg v =
    chosen f n l _ (nat_lt l 14) (close l (e.Cast q w x) s) _
    (λ is. moved f n l _ _ _ (simp append_assoc) (closed l 13 (suc m) h (cast q' (omega arith) t (looser wg r)) (omega (arith, ltb-true l 14 is)) le (suits f s _ le)))
    (λ is. stays l k m (after_cast q' le h t) r lg wg v)
closed {f = f} {n = n} l k m {a = a} {x = x} (after_sign {q = q} {o = o} {s = s} {p = p} le h) r lg wg v =
    chosen f n l _ (nat_lt l 14) (close l (e.Unary q o x) s) _
    (λ is. moved f n l _ _ _ (simp append_assoc) (closed l 13 (suc m) h (prefix (omega arith) (looser wg r)) (omega (arith, ltb-true l 14 is)) le (suits f s _ le)))
    (λ is. stays l k m (after_sign le h) r lg wg v)
closed {f = f} {n = n} l k m {a = a} {x = x} (after_step {q = q} {o = o} {s = s} {p = p} le h) r lg wg v =
    chosen f n l _ (nat_lt l 14) (close l (e.StepBefore q o x) s) _
    (λ is. moved f n l _ _ _ (simp append_assoc) (closed l 13 (suc m) h (step_before (omega arith) (v refl) (looser wg r)) (omega (arith, ltb-true l 14 is)) le (suits f s _ le)))
    (λ is. stays l k m (after_step le h) r lg wg v)
closed {f = f} {n = n} l k m {a = a} {x = x} (after_operator {q = q} {o = o} {s = s} {p = p} {a = b} {x = y} le h t) r lg wg v =
    chosen f n l _ (nat_lt l (suc (tier o))) (close l (e.Binary q o y x) s) _
    (λ is. moved f n l _ _ _ (simp append_assoc) (closed l (tier o) (suc m) h (binary (omega arith) t (looser wg r)) (omega (arith, ltb-true l (suc (tier o)) is)) le (suits f s _ (omega (arith, tier_small o)))))
    (λ is. stays l k m (after_operator le h t) r lg wg v)
closed {f = f} {n = n} l k m {a = a} {x = x} (after_choice {q = q} q' {s = s} {p = p} {a = b} {b = c} {x = y} {y = z} le h t u) r lg wg v =
    chosen f n l _ (nat_lt l 3) (close l (e.Choose q y z x) s) _
    (λ is. moved f n l _ _ _ (simp append_assoc) (closed l 2 (suc m) h (choose q' (omega arith) t u (looser wg r)) (omega (arith, ltb-true l 3 is)) le (suits f s _ (omega arith))))
    (λ is. stays l k m (after_choice q' le h t u) r lg wg v)
closed {f = f} {n = n} l k m {a = a} {x = x} (after_assign {q = q} {o = o} {s = s} {p = p} {a = b} {x = y} le may lv h t) r lg wg v =
    chosen f n l _ (nat_lt l 2) (close l (e.Assign q o y x) s) _
    (λ is. moved f n l _ _ _ (simp append_assoc) (closed l 1 (suc m) h (assign (omega arith) may lv t (looser wg r)) (omega (arith, ltb-true l 2 is)) le (suits f s _ (omega arith))))
    (λ is. stays l k m (after_assign le may lv h t) r lg wg v)
closed {f = f} {n = n} l k m {a = a} {x = x} (after_comma {q = q} {s = s} {p = p} {a = b} {x = y} le h t) r lg wg v =
    chosen f n l _ (nat_lt l 1) (close l (e.Comma q y x) s) _
    (λ is. moved f n l _ _ _ (simp append_assoc) (closed l 0 (suc m) h (comma (omega arith) t (looser wg r)) (omega (arith, ltb-true l 1 is)) le (suits f s _ (omega arith))))
    (λ is. stays l k m (after_comma le h t) r lg wg v)
