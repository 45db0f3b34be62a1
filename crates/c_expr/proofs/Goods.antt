-- What a state of the machine says of the tokens that it has read.
use Rattle.std.proofs.Common.{◌≡◌, ℕ, zero, suc, ◌+◌, ◌≤◌, Bool, true, false, IsTrue, List, [], ◌∷◌, ◌++◌, length, Some, refl, sym, ap, ◌∙◌, subst, arith, append_assoc}
use Rattle.std.specs.Prelude.{codes, nat_le, ◌&&◌}
use Rattle.std.proofs.lemmas.Bool.{leb-true, and_parts}
use Rattle.dg_base.specs.declared.Place.{Place}
use Rattle.token_list.specs.declared.Token.{Token}
use Rattle.c_tree.specs.declared.expr.TypeWord.{TypeWord}
use Rattle.c_tree.specs.declared.expr.Expr.{Expr}
use Rattle.c_tree.specs.Level.{expr_level}
use Rattle.c_expr.specs.declared.word.Word.{Word}
use Rattle.c_expr.specs.declared.frame.Frame.{Frame}
use Rattle.c_expr.specs.declared.frame.Frame.TheVariants.{InBracket, InTarget, InIndex, InCall, AfterAddress, AfterCast, AfterSign, AfterStep, AfterOperator, AfterTest, AfterChoice, AfterAssign, AfterComma}
use Rattle.c_expr.specs.Words.{mark, word, IsName}
use Rattle.c_expr.specs.Expressions.{is_lvalue, IsType, AreTexts, Reads}
use Rattle.c_expr.specs.Machine.{wanted_by, wants, Held, State, Want, Named, Have, Texts, Typed, Next, Go, Stop, if_so, pushed, has_room, over}
use Rattle.c_expr.specs.TypeWords.{grown}
use Rattle.c_expr.proofs.Spelled.{Spelled}
use Rattle.c_expr.proofs.Levels.{tier_small}
use Rattle.c_expr.proofs.Holding.{Holds, in_bracket, in_target, in_index, in_call, after_address, after_test, room, Passed, Closed, SuitsTarget}

-- one word more makes a type of another type
abbrev pub CanGrow : List Token → TypeWord → Type 0
CanGrow a k = (t : Token) (v : Word) (j : TypeWord) → Spelled v t → grown v k ≡ Some j → IsType (a ++ t ∷ []) j

-- Good f n s p: the state s has read p, with which a text of level f begins.
pub data Good (f n : ℕ) : State → List Token → Type 0 where
  good_want : {s : List Frame} {p : List Token} {m : ℕ} → Holds f n s p m → Good f n (Want s) p
  good_named : {q : Place} {c : List ℕ} {s : List Frame} {p : List Token} {m : ℕ} → IsName c → Holds f n s p m → Good f n (Named q c s) (p ++ word c q ∷ [])
  good_have : {k : ℕ} {s : List Frame} {p a : List Token} {m : ℕ} {x : Expr} → 13 ≤ k → wants f s ≤ k → SuitsTarget f s x → (IsTrue (is_lvalue x) → Reads 14 m a x)
      → Holds f n s p m → Reads k m a x → Good f n (Have x s) (p ++ a)
  good_texts : (t : Token) (ts : List Token) {q : Place} {c : List ℕ} {xs : List Expr} {s : List Frame} {p : List Token} {m : ℕ} → AreTexts (t ∷ ts) → Holds f n (InCall q c xs ∷ s) p m
      → Good f n (Texts t.place (InCall q c xs ∷ s)) (p ++ t ∷ ts)
  good_typed : {q : Place} {k : TypeWord} {more : Bool} {s : List Frame} {p a : List Token} {m : ℕ} → wants f s ≤ 13 → IsType a k → (more ≡ true → CanGrow a k) → Holds f n s p (suc m)
      → Good f n (Typed q k more s) (p ++ mark (codes "(") q ∷ a)

-- the same of what comes next
abbrev pub GoodNext : (f n : ℕ) → Next → List Token → Type 0
GoodNext f n (Go s) p = Good f n s p
GoodNext f n Stop p = Unit {0}

pub when : (f n : ℕ) (p : List Token) (b : Bool) (x : Next) → (b ≡ true → GoodNext f n x p) → GoodNext f n (if_so b x) p
when f n p true x h = h refl
when f n p false x h = tt

pub at : {f n : ℕ} (s : State) {p q : List Token} → p ≡ q → Good f n s p → Good f n s q
at {f = f} {n = n} s is g = subst (Good f n s) is g

-- the token may be replaced by the one that it is
pub as_token : (f n : ℕ) (p : List Token) (k : Next) (t u : Token) → t ≡ u → GoodNext f n k (p ++ u ∷ []) → GoodNext f n k (p ++ t ∷ [])
as_token f n p k t u is g = subst (λ v. GoodNext f n k (p ++ v ∷ [])) (sym is) g

-- nothing tighter than an operand is ever wanted
pub wanted_small : (g : Frame) → wanted_by g ≤ 14
wanted_small (InBracket p) = omega arith
wanted_small (InTarget p) = omega arith
wanted_small (InIndex p c) = omega arith
wanted_small (InCall p c xs) = omega arith
wanted_small (AfterAddress p) = omega arith
wanted_small (AfterCast p k) = omega arith
wanted_small (AfterSign p o) = omega arith
wanted_small (AfterStep p o) = omega arith
wanted_small (AfterOperator p o y) = omega (arith, tier_small o)
wanted_small (AfterTest p y) = omega arith
wanted_small (AfterChoice p y z) = omega arith
wanted_small (AfterAssign p o y) = omega arith
wanted_small (AfterComma p y) = omega arith

pub wants_small : (f : ℕ) → f ≤ 2 → (s : List Frame) → wants f s ≤ 14
wants_small f small [] = omega arith
wants_small f small (g ∷ s) = wanted_small g

-- where there is room for a node, the depth that is left is at least one
deeper : {f n : ℕ} {s : List Frame} {p : List Token} (m : ℕ) → Holds f n s p m → (k : ℕ) → suc (k + length s) ≤ n → (j : ℕ) × (m ≡ suc j) × (k ≤ j)
deeper zero h k le = absurd (omega (arith, room h))
deeper (suc j) h k le = (j, refl, omega (arith, room h))

pub pushed_good : {f n : ℕ} {s : List Frame} {p : List Token} (m : ℕ) (g : Frame) (t : Token) → Holds f n s p m
    → ((j : ℕ) → m ≡ suc j → Holds f n (g ∷ s) (p ++ t ∷ []) j) → GoodNext f n (pushed n s g) (p ++ t ∷ [])
pushed_good {f = f} {n = n} {s = s} {p = p} m g t h k =
    when f n _ (nat_le (suc (length s)) n) _ (λ is.
    let d = deeper m h 0 (omega (arith, leb-true (suc (length s)) n is)) in good_want (k d.0 d.1))

pub over_good : {f n l : ℕ} {q : List Token} {h : Held} (k : ℕ) (g : Expr → Frame) (t : Token) → (c : Closed f n l q h)
    → (wants f h.stack ≤ k → (j : ℕ) → c.room ≡ suc j → expr_level h.tree ≤ j → Holds f n (g h.tree ∷ h.stack) (c.front ++ (c.back ++ t ∷ [])) j) → GoodNext f n (over f n k h g) (q ++ t ∷ [])
over_good {f = f} {n = n} {h = h} k g t c build =
    when f n _ (nat_le (wants f h.stack) k && has_room n h) _ (λ both.
    let is = and_parts (nat_le (wants f h.stack) k) (has_room n h) both in
    let d = deeper c.room c.holds (expr_level h.tree) (leb-true (suc (expr_level h.tree + length h.stack)) n is.1) in
    at (Want (g h.tree ∷ h.stack)) (sym (append_assoc c.front c.back (t ∷ [])) ∙ ap (λ l. l ++ t ∷ []) c.all) (good_want (build (leb-true (wants f h.stack) k is.0) d.0 d.1 d.2)))

pub sunk : {f n : ℕ} {s : List Frame} {p : List Token} (m j : ℕ) → m ≡ suc j → Holds f n s p m → Holds f n s p (suc j)
sunk {f = f} {n = n} {s = s} {p = p} m j is h = subst (λ k. Holds f n s p k) is h

-- what is behind the topmost node
pub behind_bracket : {f n : ℕ} {q : Place} {s : List Frame} {p : List Token} {m : ℕ} → Holds f n (InBracket q ∷ s) p m
    → (r : List Token) × (r ++ mark (codes "(") q ∷ [] ≡ p) × (wants f s ≤ 13) × Holds f n s r (suc m)
behind_bracket (in_bracket {p = p} le h) = (p, refl, le, h)

pub behind_target : {f n : ℕ} {q : Place} {s : List Frame} {p : List Token} {m : ℕ} → Holds f n (InTarget q ∷ s) p m
    → (r : List Token) × (r ++ mark (codes "(") q ∷ [] ≡ p) × Holds f n s r (suc m)
behind_target (in_target {p = p} h) = (p, refl, h)

pub behind_index : {f n : ℕ} {q : Place} {c : List ℕ} {s : List Frame} {p : List Token} {m : ℕ} → Holds f n (InIndex q c ∷ s) p m
    → (r : List Token) × (k : Place) × (r ++ word c q ∷ mark (codes "[") k ∷ [] ≡ p) × IsName c × Holds f n s r (suc m)
behind_index (in_index k {p = p} i h) = (p, k, refl, i, h)

-- a call's name, bracket and arguments so far
pub record Calling (f n : ℕ) (q : Place) (c : List ℕ) (xs : List Expr) (s : List Frame) (p : List Token) (m : ℕ) : Type 0 where
  pub front : List Token
  pub past : List Token
  pub left : Place
  pub all : front ++ word c q ∷ mark (codes "(") left ∷ past ≡ p
  pub wanted : wants f s ≤ 13
  pub is_name : IsName c
  pub holds : Holds f n s front (suc m)
  pub arguments : Passed m past xs

pub behind_call : {f n : ℕ} {q : Place} {c : List ℕ} {xs : List Expr} {s : List Frame} {p : List Token} {m : ℕ} → Holds f n (InCall q c xs ∷ s) p m → Calling f n q c xs s p m
behind_call (in_call k {p = p} {a = a} le i h past) = record { front = p; past = a; left = k; all = refl; wanted = le; is_name = i; holds = h; arguments = past }

pub behind_address : {f n : ℕ} {r q : Place} {c : List ℕ} {xs : List Expr} {s : List Frame} {p : List Token} {m : ℕ} → Holds f n (AfterAddress r ∷ InCall q c xs ∷ s) p m
    → (u : List Token) × (u ++ mark (codes "&") r ∷ [] ≡ p) × Holds f n (InCall q c xs ∷ s) u (suc m)
behind_address (after_address {p = p} h) = (p, refl, h)

pub behind_test : {f n : ℕ} {q : Place} {x : Expr} {s : List Frame} {p : List Token} {m : ℕ} → Holds f n (AfterTest q x ∷ s) p m
    → (r : List Token) × (a : List Token) × (r ++ (a ++ mark (codes "?") q ∷ []) ≡ p) × (wants f s ≤ 2) × Holds f n s r (suc m) × Reads 3 m a x
behind_test (after_test {p = p} {a = a} le h r) = (p, a, refl, le, h, r)

-- what was read before a token that closes
pub seam : (r a b p q : List Token) (u : Token) → r ++ a ≡ p → p ++ b ≡ q → r ++ (a ++ (b ++ u ∷ [])) ≡ q ++ u ∷ []
seam r a b p q u e1 e2 =
    let e0 : r ++ (a ++ (b ++ u ∷ [])) ≡ (r ++ a) ++ (b ++ u ∷ []) = simp append_assoc in
    e0 ∙ ap (λ l. l ++ (b ++ u ∷ [])) e1 ∙ sym (append_assoc p b (u ∷ [])) ∙ ap (λ l. l ++ u ∷ []) e2
