-- The machine reads each text of the grammar.
use Rattle.std.proofs.Common.{◌≡◌, ◌⊎◌, inl, inr, ⊎_elim, ℕ, suc, ◌+◌, ◌≤◌, false, IsTrue, List, [], ◌∷◌, ◌++◌, length, refl, sym, ap, ◌∙◌, arith, append_assoc}
use Rattle.std.specs.Prelude.{codes, nat_le, nat_lt}
use Rattle.std.proofs.lemmas.Bool.{le-leb, lt-leb, lt-ltb, cond-true, cond-false, cases_lt, both_ways}
use Rattle.dg_base.specs.declared.Place.{Place}
use Rattle.token_list.specs.declared.Token.{Token}
use Rattle.token_list.specs.declared.TokenKind.TheVariants as kind
use Rattle.c_tree.specs.declared.expr.Expr.{Expr}
use Rattle.c_tree.specs.declared.expr.Expr.TheVariants as e
use Rattle.token_list.specs.Numbers.{is_unsigned}
use Rattle.c_expr.specs.declared.word.Word.TheVariants as w
use Rattle.c_expr.specs.declared.frame.Frame.{Frame}
use Rattle.c_expr.specs.declared.frame.Frame.TheVariants.{InBracket, InTarget, InIndex, InCall, AfterAddress, AfterCast, AfterSign, AfterStep, AfterOperator, AfterTest, AfterChoice, AfterAssign, AfterComma}
use Rattle.c_expr.specs.Words.{mark, word, prefix_text, step_text, binary_text, assignment_text, word_by, word_of}
use Rattle.c_expr.specs.Expressions.{tier, is_lvalue, value_in, AreTexts, Reads, ReadsArgument, ReadsArguments, name, number, bracket, index, call, cast, prefix, step_before, step_after, binary, choose, assign, comma, value, address, text, no_argument, one_argument, more_arguments}
use Rattle.c_expr.specs.Machine as machine
use Rattle.c_expr.specs.Machine.{wants, Held, close, State, Want, Named, Have, Texts, Go, bracket_frame, right, step, run}
use Rattle.c_expr.proofs.Targets.{lvalue-number, lvalue-bracket, lvalue-call, lvalue-cast, lvalue-unary, lvalue-step_before, lvalue-step_after, lvalue-binary, lvalue-choose, lvalue-assign, lvalue-comma}
use Rattle.c_expr.proofs.Spelled.{word-name}
use Rattle.c_expr.proofs.Levels.{tier_small, tier_large, level-reads}
use Rattle.c_expr.proofs.Taken.{IsHeld, is_named, is_had, begins_with, stepped, if_true, pushes, stays_open, bottom_open, op_step, ask_step, colon_step, right_step, square_step, comma_step, commas_over, assign_step, behind_step, sign_step, before_step, left_step, call_step, type_run}

-- an operand of level g may stand where the topmost node wants one: it can be assigned to, or nothing tighter is wanted
abbrev pub Suits : ℕ → List Frame → ℕ → Expr → Type 0
Suits f s g x = IsTrue (is_lvalue x) ⊎ ((wants f s ≤ 13) × (wants f s ≤ g))

no_target : (f : ℕ) (s : List Frame) (g : ℕ) (x : Expr) → is_lvalue x ≡ false → Suits f s g x → (wants f s ≤ 13) × (wants f s ≤ g)
no_target f s g x is (inl v) = absurd (both_ways (is_lvalue x) is v)
no_target f s g x is (inr le) = le

-- The machine comes from these nodes over these tokens to an operand that closes, at each level up to g, as x does.
-- Behind an operand of the tightest level nothing is left to close.
pub record Comes (f n : ℕ) (s : List Frame) (a : List Token) (g : ℕ) (x : Expr) : Type 0 where
  pub state : State
  pub tree : Expr
  pub stack : List Frame
  pub held : IsHeld state tree stack
  pub runs : (rest : List Token) → run f n (Want s) (a ++ rest) ≡ run f n state rest
  pub closes : (l : ℕ) → l ≤ g → close l tree stack ≡ close l x s
  pub exact : 14 ≤ g → (tree ≡ x) × (stack ≡ s)

-- an operand that is whole at its last token
whole_at : (f n : ℕ) (s : List Frame) (a : List Token) (g : ℕ) (x : Expr) → ((rest : List Token) → run f n (Want s) (a ++ rest) ≡ run f n (Have x s) rest) → Comes f n s a g x
whole_at f n s a g x runs = record { state = Have x s; tree = x; stack = s; held = is_had; runs = runs; closes = λ l h. refl; exact = λ h. (refl, refl) }

-- a bracket, round what its frame says
bracket_comes : (f n : ℕ) {p : Place} (q : Place) (s : List Frame) (a : List Token) (g : ℕ) (x : Expr) (o : Frame) → bracket_frame f p s ≡ o → suc (length s) ≤ n → close 0 x (o ∷ s) ≡ record { tree = x; stack = o ∷ s }
    → right x (o ∷ s) ≡ Go (Have (e.Bracket p x) s) → Comes f n (o ∷ s) a 0 x → Comes f n s (mark (codes "(") p ∷ (a ++ mark (codes ")") q ∷ [])) g (e.Bracket p x)
bracket_comes f n {p = p} q s a g x o is fit stays gives c =
    whole_at f n s _ g (e.Bracket p x) (λ rest.
    stepped f n (Want s) (Want (o ∷ s)) (mark (codes "(") p) _ (left_step f n p s o is fit)
    ∙ ap (run f n (Want (o ∷ s))) (append_assoc a (mark (codes ")") q ∷ []) rest)
    ∙ c.runs (mark (codes ")") q ∷ rest)
    ∙ stepped f n c.state (Have (e.Bracket p x) s) (mark (codes ")") q) rest (right_step f n q x (o ∷ s) (Go (Have (e.Bracket p x) s)) c.held (c.closes 0 (omega arith) ∙ stays) gives))

-- an argument, to the `)` or the `,` behind it
pub record ComesArgument (f n : ℕ) (p : Place) (c : List ℕ) (xs : List Expr) (s : List Frame) (a : List Token) (x : Expr) : Type 0 where
  pub state : State
  pub runs : (rest : List Token) → run f n (Want (InCall p c xs ∷ s)) (a ++ rest) ≡ run f n state rest
  pub ends : (r : Place) → step f n (mark (codes ")") r) state ≡ Go (Have (e.Call p c (xs ++ x ∷ [])) s)
  pub goes : (r : Place) → step f n (mark (codes ",") r) state ≡ Go (Want (InCall p c (xs ++ x ∷ []) ∷ s))

text_word : (t : Token) → t.kind ≡ kind.Text → word_of t ≡ w.Text
text_word t is = ap (λ k. word_by k t.text) is

more_texts : (f n : ℕ) (q p : Place) (c : List ℕ) (xs : List Expr) (s : List Frame) (ts rest : List Token) → AreTexts ts → run f n (Texts q (InCall p c xs ∷ s)) (ts ++ rest) ≡ run f n (Texts q (InCall p c xs ∷ s)) rest
more_texts f n q p c xs s [] rest all = refl
more_texts f n q p c xs s (t ∷ ts) rest all =
    stepped f n (Texts q (InCall p c xs ∷ s)) (Texts q (InCall p c xs ∷ s)) t _ (ap (λ v. machine.behind_texts v q (InCall p c xs ∷ s)) (text_word t all.0))
    ∙ more_texts f n q p c xs s ts rest all.1

texts_come : (f n : ℕ) (p : Place) (c : List ℕ) (xs : List Expr) (s : List Frame) (t : Token) (ts : List Token) → AreTexts (t ∷ ts) → ComesArgument f n p c xs s (t ∷ ts) (e.Text t.place)
texts_come f n p c xs s t ts all = record {
  state = Texts t.place (InCall p c xs ∷ s);
  runs = λ rest.
      stepped f n (Want (InCall p c xs ∷ s)) (Texts t.place (InCall p c xs ∷ s)) t _ (begins_with f n (InCall p c xs ∷ s) t w.Text (text_word t all.0))
      ∙ more_texts f n t.place p c xs s ts rest all.1;
  ends = λ r. refl;
  goes = λ r. refl;
}

value_comes : (f n : ℕ) (p : Place) (c : List ℕ) (xs : List Expr) (s : List Frame) (a : List Token) (x : Expr) → Comes f n (InCall p c xs ∷ s) a 1 x → ComesArgument f n p c xs s a x
value_comes f n p c xs s a x k = record {
  state = k.state;
  runs = k.runs;
  ends = λ r. right_step f n r x (InCall p c xs ∷ s) _ k.held (k.closes 0 (omega arith)) refl;
  goes = λ r. comma_step f n r x (InCall p c xs ∷ s) _ k.held (k.closes 0 (omega arith)) refl;
}

address_comes : (f n : ℕ) (p q : Place) (c : List ℕ) (xs : List Expr) (s : List Frame) (a : List Token) (x : Expr) → suc (suc (length s)) ≤ n → Comes f n (AfterAddress q ∷ InCall p c xs ∷ s) a 14 x
    → ComesArgument f n p c xs s (mark (codes "&") q ∷ a) (e.Address q x)
address_comes f n p q c xs s a x fit k = record {
  state = k.state;
  runs = λ rest. stepped f n (Want (InCall p c xs ∷ s)) (Want (AfterAddress q ∷ InCall p c xs ∷ s)) (mark (codes "&") q) _ (pushes n (InCall p c xs ∷ s) (AfterAddress q) fit) ∙ k.runs rest;
  ends = λ r. right_step f n r x (AfterAddress q ∷ InCall p c xs ∷ s) _ k.held (k.closes 0 (omega arith)) refl;
  goes = λ r. comma_step f n r x (AfterAddress q ∷ InCall p c xs ∷ s) _ k.held (k.closes 0 (omega arith)) refl;
}

-- the last argument and the `)` behind it
last_comes : (f n : ℕ) (p : Place) (c : List ℕ) (xs : List Expr) (s : List Frame) (a : List Token) (x : Expr) → ComesArgument f n p c xs s a x → (r : Place) (rest : List Token)
    → run f n (Want (InCall p c xs ∷ s)) (a ++ mark (codes ")") r ∷ rest) ≡ run f n (Have (e.Call p c (xs ++ x ∷ [])) s) rest
last_comes f n p c xs s a x k r rest = k.runs (mark (codes ")") r ∷ rest) ∙ stepped f n k.state (Have (e.Call p c (xs ++ x ∷ [])) s) (mark (codes ")") r) rest (k.ends r)

regrouped : (a : List Token) (t : Token) (b : List Token) (u : Token) (c rest : List Token) → (a ++ t ∷ (b ++ u ∷ c)) ++ rest ≡ a ++ t ∷ (b ++ u ∷ (c ++ rest))
regrouped a t b u c rest = simp append_assoc

filled : (y : Expr) (ys : List Expr) → y ∷ ys ≡ [] → ⊥
filled y ys is = cc

-- The machine reads each text, whatever follows it.
mutual
  pub comes : (f n : ℕ) → f ≤ 2 → {g m : ℕ} {a : List Token} {x : Expr} → Reads g m a x → (s : List Frame) → Suits f s g x → m + length s ≤ n → Comes f n s a g x
  comes f n small (name {p = p} {c = c} i) s suit fit = record {
    state = Named p c s;
    tree = e.Name p c;
    stack = s;
    held = is_named;
    runs = λ rest. stepped f n (Want s) (Named p c s) (word c p) rest (begins_with f n s (word c p) w.Name (word-name c p i));
    closes = λ l h. refl;
    exact = λ h. (refl, refl);
  }
  comes f n small {g = g} (number {p = p} {c = c}) s suit fit =
      let x : Expr = e.Number p (value_in c) (is_unsigned c (value_in c)) in
      let le = no_target f s g x (lvalue-number p (value_in c) (is_unsigned c (value_in c))) suit in
      whole_at f n s _ g x (λ rest. stepped f n (Want s) (Have x s) (record { kind = kind.Number; place = p; text = c }) rest (if_true (nat_le (wants f s) 13) (Go (Have x s)) (le-leb (wants f s) 13 le.0)))
  comes f n small {g = g} (bracket {p = p} q {a = a} {x = x} r) s suit fit =
      ⊎_elim
      (λ lt. bracket_comes f n q s a g x (InBracket p) (cond-true (nat_le (wants f s) 13) _ _ (le-leb (wants f s) 13 (omega arith))) (omega arith) refl refl
      (comes f n small r (InBracket p ∷ s) (inr (omega arith, omega arith)) (omega arith)))
      (λ ge. bracket_comes f n q s a g x (InTarget p) (cond-false (nat_le (wants f s) 13) _ _ (lt-leb (wants f s) 13 (omega arith))) (omega arith) refl refl
      (comes f n small r (InTarget p ∷ s) (inl (target_in ge suit)) (omega arith)))
      (cases_lt (wants f s) 14)
    where
      target_in : 14 ≤ wants f s → Suits f s g (e.Bracket p x) → IsTrue (is_lvalue x)
      target_in ge (inl v) = sym (lvalue-bracket p x) ∙ v
      target_in ge (inr le) = let low = le.0 in absurd (omega arith)
  comes f n small {g = g} (index {p = p} q r {c = c} {a = a} {x = x} i t) s suit fit =
      let k = comes f n small t (InIndex p c ∷ s) (inr (omega arith, omega arith)) (omega arith) in
      whole_at f n s _ g (e.Index p c x) (λ rest.
      stepped f n (Want s) (Named p c s) (word c p) (mark (codes "[") q ∷ ((a ++ mark (codes "]") r ∷ []) ++ rest)) (begins_with f n s (word c p) w.Name (word-name c p i))
      ∙ stepped f n (Named p c s) (Want (InIndex p c ∷ s)) (mark (codes "[") q) ((a ++ mark (codes "]") r ∷ []) ++ rest) (pushes n s (InIndex p c) (omega arith))
      ∙ ap (run f n (Want (InIndex p c ∷ s))) (append_assoc a (mark (codes "]") r ∷ []) rest)
      ∙ k.runs (mark (codes "]") r ∷ rest)
      ∙ stepped f n k.state (Have (e.Index p c x) s) (mark (codes "]") r) rest (square_step f n p r c x s k.held (k.closes 0 (omega arith))))
  comes f n small {g = g} (call {p = p} q r {c = c} {a = a} {xs = xs} i t) s suit fit =
      let le = no_target f s g (e.Call p c xs) (lvalue-call p c xs) suit in
      whole_at f n s _ g (e.Call p c xs) (λ rest.
      stepped f n (Want s) (Named p c s) (word c p) (mark (codes "(") q ∷ ((a ++ mark (codes ")") r ∷ []) ++ rest)) (begins_with f n s (word c p) w.Name (word-name c p i))
      ∙ stepped f n (Named p c s) (Want (InCall p c [] ∷ s)) (mark (codes "(") q) ((a ++ mark (codes ")") r ∷ []) ++ rest) (call_step f n p q c s le.0 (omega arith))
      ∙ ap (run f n (Want (InCall p c [] ∷ s))) (append_assoc a (mark (codes ")") r ∷ []) rest)
      ∙ comes_all f n small t p c [] s r rest (omega arith) (λ none. refl))
  comes f n small {g = g} (cast {p = p} q {kind = k} {a = a} {b = b} {x = x} h t r) s suit fit =
      let le = no_target f s g (e.Cast p k x) (lvalue-cast p k x) suit in
      let c = comes f n small r (AfterCast p k ∷ s) (inr (omega arith, omega arith)) (omega arith) in
      record {
        state = c.state;
        tree = c.tree;
        stack = c.stack;
        held = c.held;
        runs = λ rest.
            stepped f n (Want s) (Want (InBracket p ∷ s)) (mark (codes "(") p) _ (left_step f n p s (InBracket p) (cond-true (nat_le (wants f s) 13) _ _ (le-leb (wants f s) 13 le.0)) (omega arith))
            ∙ ap (run f n (Want (InBracket p ∷ s))) (append_assoc a (mark (codes ")") q ∷ b) rest)
            ∙ type_run f n p q s (b ++ rest) t
            ∙ c.runs rest;
        closes = λ l low. c.closes l (omega arith) ∙ cond-true (nat_lt l 14) _ _ (lt-ltb l 14 (omega arith));
        exact = λ high. absurd (omega arith);
      }
  comes f n small {g = g} (prefix {p = p} {o = o} {a = a} {x = x} h r) s suit fit =
      let le = no_target f s g (e.Unary p o x) (lvalue-unary p o x) suit in
      let c = comes f n small r (AfterSign p o ∷ s) (inr (omega arith, omega arith)) (omega arith) in
      record {
        state = c.state;
        tree = c.tree;
        stack = c.stack;
        held = c.held;
        runs = λ rest. stepped f n (Want s) (Want (AfterSign p o ∷ s)) (mark (prefix_text o) p) _ (sign_step f n p o s le.0 (omega arith)) ∙ c.runs rest;
        closes = λ l low. c.closes l (omega arith) ∙ cond-true (nat_lt l 14) _ _ (lt-ltb l 14 (omega arith));
        exact = λ high. absurd (omega arith);
      }
  comes f n small {g = g} (step_before {p = p} {o = o} {a = a} {x = x} h v r) s suit fit =
      let le = no_target f s g (e.StepBefore p o x) (lvalue-step_before p o x) suit in
      let c = comes f n small r (AfterStep p o ∷ s) (inl v) (omega arith) in
      record {
        state = c.state;
        tree = c.tree;
        stack = c.stack;
        held = c.held;
        runs = λ rest. stepped f n (Want s) (Want (AfterStep p o ∷ s)) (mark (step_text o) p) _ (before_step f n p o s le.0 (omega arith)) ∙ c.runs rest;
        closes = λ l low. c.closes l (omega arith) ∙ cond-true (nat_lt l 14) _ _ (lt-ltb l 14 (omega arith));
        exact = λ high. absurd (omega arith);
      }
  comes f n small {g = g} (step_after {p = p} {o = o} {a = a} {x = x} h v r) s suit fit =
      let le = no_target f s g (e.StepAfter p o x) (lvalue-step_after p o x) suit in
      let c = comes f n small r s (inl v) (omega arith) in
      let ex = c.exact (omega arith) in
      whole_at f n s _ g (e.StepAfter p o x) (λ rest.
      ap (run f n (Want s)) (append_assoc a (mark (step_text o) p ∷ []) rest)
      ∙ c.runs (mark (step_text o) p ∷ rest)
      ∙ stepped f n c.state (Have (e.StepAfter p o x) s) (mark (step_text o) p) rest (behind_step f n p o x s c.held ex.0 ex.1 v le.0 (omega (arith, level-reads r))))
  comes f n small {g = g} (binary {p = p} {o = o} {a = a} {b = b} {x = x} {y = y} h r t) s suit fit =
      let le = no_target f s g (e.Binary p o x y) (lvalue-binary p o x y) suit in
      let low = le.1 in
      let c = comes f n small r s (inr (le.0, omega arith)) (omega arith) in
      let d = comes f n small t (AfterOperator p o x ∷ s) (inr (omega (arith, tier_small o), omega arith)) (omega arith) in
      record {
        state = d.state;
        tree = d.tree;
        stack = d.stack;
        held = d.held;
        runs = λ rest.
            ap (run f n (Want s)) (append_assoc a (mark (binary_text o) p ∷ b) rest)
            ∙ c.runs (mark (binary_text o) p ∷ (b ++ rest))
            ∙ stepped f n c.state (Want (AfterOperator p o x ∷ s)) (mark (binary_text o) p) _
            (op_step f n p o x s c.held (c.closes (tier o) (omega arith) ∙ stays_open f (tier o) x s (tier_large o) (tier_small o) (omega arith)) (omega arith) (omega (arith, level-reads r)))
            ∙ d.runs rest;
        closes = λ l under. d.closes l (omega arith) ∙ cond-true (nat_lt l (suc (tier o))) _ _ (lt-ltb l (suc (tier o)) (omega arith));
        exact = λ high. absurd (omega (arith, tier_small o));
      }
  comes f n small {g = g} (choose {p = p} q {a = a} {b = b} {c = z} {x = x} {y = y} {z = u} h r t v) s suit fit =
      let le = no_target f s g (e.Choose p x y u) (lvalue-choose p x y u) suit in
      let low = le.1 in
      let c = comes f n small r s (inr (le.0, omega arith)) (omega arith) in
      let d = comes f n small t (AfterTest p x ∷ s) (inr (omega arith, omega arith)) (omega arith) in
      let k = comes f n small v (AfterChoice p x y ∷ s) (inr (omega arith, omega arith)) (omega arith) in
      record {
        state = k.state;
        tree = k.tree;
        stack = k.stack;
        held = k.held;
        runs = λ rest.
            ap (run f n (Want s)) (regrouped a (mark (codes "?") p) b (mark (codes ":") q) z rest)
            ∙ c.runs (mark (codes "?") p ∷ (b ++ mark (codes ":") q ∷ (z ++ rest)))
            ∙ stepped f n c.state (Want (AfterTest p x ∷ s)) (mark (codes "?") p) _
            (ask_step f n p x s c.held (c.closes 3 (omega arith) ∙ stays_open f 3 x s (omega arith) (omega arith) (omega arith)) (omega arith) (omega (arith, level-reads r)))
            ∙ d.runs (mark (codes ":") q ∷ (z ++ rest))
            ∙ stepped f n d.state (Want (AfterChoice p x y ∷ s)) (mark (codes ":") q) _ (colon_step f n p q x y s d.held (d.closes 0 (omega arith)))
            ∙ k.runs rest;
        closes = λ l under. k.closes l (omega arith) ∙ cond-true (nat_lt l 3) _ _ (lt-ltb l 3 (omega arith));
        exact = λ high. absurd (omega arith);
      }
  comes f n small {g = g} (assign {p = p} {o = o} {a = a} {b = b} {x = x} {y = y} h may v r t) s suit fit =
      let le = no_target f s g (e.Assign p o x y) (lvalue-assign p o x y) suit in
      let low = le.1 in
      let c = comes f n small r s (inl v) (omega arith) in
      let d = comes f n small t (AfterAssign p o x ∷ s) (inr (omega arith, omega arith)) (omega arith) in
      let ex = c.exact (omega arith) in
      record {
        state = d.state;
        tree = d.tree;
        stack = d.stack;
        held = d.held;
        runs = λ rest.
            ap (run f n (Want s)) (append_assoc a (mark (assignment_text o) p ∷ b) rest)
            ∙ c.runs (mark (assignment_text o) p ∷ (b ++ rest))
            ∙ stepped f n c.state (Want (AfterAssign p o x ∷ s)) (mark (assignment_text o) p) _ (assign_step f n p o x s c.held ex.0 ex.1 may v (omega arith) (omega (arith, level-reads r)))
            ∙ d.runs rest;
        closes = λ l under. d.closes l (omega arith) ∙ cond-true (nat_lt l 2) _ _ (lt-ltb l 2 (omega arith));
        exact = λ high. absurd (omega arith);
      }
  comes f n small {g = g} (comma {p = p} {a = a} {b = b} {x = x} {y = y} h r t) s suit fit =
      let le = no_target f s g (e.Comma p x y) (lvalue-comma p x y) suit in
      let low = le.1 in
      let c = comes f n small r s (inr (le.0, omega arith)) (omega arith) in
      let d = comes f n small t (AfterComma p x ∷ s) (inr (omega arith, omega arith)) (omega arith) in
      record {
        state = d.state;
        tree = d.tree;
        stack = d.stack;
        held = d.held;
        runs = λ rest.
            ap (run f n (Want s)) (append_assoc a (mark (codes ",") p ∷ b) rest)
            ∙ c.runs (mark (codes ",") p ∷ (b ++ rest))
            ∙ stepped f n c.state (Want (AfterComma p x ∷ s)) (mark (codes ",") p) _
            (comma_step f n p x s _ c.held (c.closes 0 (omega arith) ∙ bottom_open f x s (omega arith)) (commas_over f n p x s (omega arith) (omega (arith, level-reads r))))
            ∙ d.runs rest;
        closes = λ l under. d.closes l (omega arith) ∙ cond-true (nat_lt l 1) _ _ (lt-ltb l 1 (omega arith));
        exact = λ high. absurd (omega arith);
      }

  comes_argument : (f n : ℕ) → f ≤ 2 → {m : ℕ} {a : List Token} {x : Expr} → ReadsArgument m a x → (p : Place) (c : List ℕ) (xs : List Expr) (s : List Frame) → m + suc (length s) ≤ n → ComesArgument f n p c xs s a x
  comes_argument f n small (value {a = a} {x = x} r) p c xs s fit = value_comes f n p c xs s a x (comes f n small r (InCall p c xs ∷ s) (inr (omega arith, omega arith)) (omega arith))
  comes_argument f n small (address {p = q} {a = a} {x = x} v r) p c xs s fit =
      address_comes f n p q c xs s a x (omega arith) (comes f n small r (AfterAddress q ∷ InCall p c xs ∷ s) (inl v) (omega arith))
  comes_argument f n small (text {t = t} {ts = ts} all) p c xs s fit = texts_come f n p c xs s t ts all

  comes_all : (f n : ℕ) → f ≤ 2 → {m : ℕ} {a : List Token} {ys : List Expr} → ReadsArguments m a ys → (p : Place) (c : List ℕ) (xs : List Expr) (s : List Frame) (r : Place) (rest : List Token)
      → m + suc (length s) ≤ n → (ys ≡ [] → xs ≡ []) → run f n (Want (InCall p c xs ∷ s)) (a ++ mark (codes ")") r ∷ rest) ≡ run f n (Have (e.Call p c (xs ++ ys)) s) rest
  comes_all f n small no_argument p c xs s r rest fit none =
      let empty : xs ≡ [] = none refl in
      ap (λ ys. run f n (Want (InCall p c ys ∷ s)) (mark (codes ")") r ∷ rest)) empty ∙ ap (λ ys. run f n (Have (e.Call p c (ys ++ [])) s) rest) (sym empty)
  comes_all f n small (one_argument {a = a} {x = x} t) p c xs s r rest fit none = last_comes f n p c xs s a x (comes_argument f n small t p c xs s fit) r rest
  comes_all f n small (more_arguments q {a = a} {b = b} {x = x} {y = y} {xs = ys} t u) p c xs s r rest fit none =
      let k = comes_argument f n small t p c xs s fit in
      let more : (xs ++ x ∷ []) ++ y ∷ ys ≡ xs ++ x ∷ y ∷ ys = simp append_assoc in
      ap (run f n (Want (InCall p c xs ∷ s))) (append_assoc a (mark (codes ",") q ∷ b) (mark (codes ")") r ∷ rest))
      ∙ k.runs (mark (codes ",") q ∷ (b ++ mark (codes ")") r ∷ rest))
      ∙ stepped f n k.state (Want (InCall p c (xs ++ x ∷ []) ∷ s)) (mark (codes ",") q) _ (k.goes q)
      ∙ comes_all f n small u p c (xs ++ x ∷ []) s r rest fit (λ bad. absurd (filled y ys bad))
      ∙ ap (λ zs. run f n (Have (e.Call p c zs) s) rest) more
