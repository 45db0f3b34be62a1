-- What a token's word says of the token, and the words of the grammar's tokens.
use Rattle.std.proofs.Common.{◌≡◌, ◌⊎◌, inl, inr, ⊎_elim, ℕ, zero, suc, ◌<◌, Bool, true, false, cond, List, [], ◌∷◌, map, length, Option, Some, None, refl, sym, ap, ◌∙◌, subst, arith}
use Rattle.std.specs.Prelude.{bytes_eq, unwrap_or, slice_index_or}
use Rattle.std.specs.List.{Contains, list_all}
use Rattle.std.proofs.lemmas.Bool.{and_parts, cond-false, false_from_ne_true, false≢true, both_ways}
use Rattle.std.proofs.lemmas.Slice.Eq.{bytes_eq-Decides}
use Rattle.dg_base.specs.declared.Place.{Place}
use Rattle.token_list.specs.declared.Token.{Token}
use Rattle.token_list.specs.declared.TokenKind.{TokenKind}
use Rattle.token_list.specs.declared.TokenKind.TheVariants as kind
use Rattle.c_tree.specs.declared.expr.StepOp.{StepOp}
use Rattle.c_tree.specs.declared.expr.StepOp.TheVariants as step
use Rattle.c_tree.specs.declared.expr.BinaryOp.{BinaryOp}
use Rattle.c_tree.specs.declared.expr.BinaryOp.TheVariants as binary
use Rattle.c_tree.specs.declared.expr.AssignOp.{AssignOp}
use Rattle.c_tree.specs.declared.expr.AssignOp.TheVariants as assignment
use Rattle.c_expr.specs.declared.word.Word.{Word}
use Rattle.c_expr.specs.declared.word.Word.TheVariants as w
use Rattle.c_expr.specs.Words.{mark, word, step_text, binary_text, assignment_text, type_text, keyword_text, text_of, marks, reserved_words, IsName, find_word, word_by, word_of}
use Rattle.c_expr.specs.Expressions.{may_assign}

-- a word that is found has the text
find_by : (b : Bool) (u v : Word) (c : List ℕ) (rest : Option Word) → (b ≡ true → text_of u ≡ c) → (rest ≡ Some v → text_of v ≡ c) → cond b (Some u) rest ≡ Some v → text_of v ≡ c
find_by true u v c rest h k is = let same : u ≡ v = cc in subst (λ x. text_of x ≡ c) same (h refl)
find_by false u v c rest h k is = k is

found_text : (ws : List Word) (c : List ℕ) (v : Word) → find_word ws c ≡ Some v → text_of v ≡ c
found_text [] c v is = let bad : None ≡ Some v = is in cc
found_text (u ∷ us) c v is = find_by (bytes_eq (text_of u) c) u v c (find_word us c) (bytes_eq-Decides (text_of u) c).0 (found_text us c v) is

-- and is one of the list
among_by : (b : Bool) (p : Word → Bool) (u v : Word) (rest : Option Word) → p u ≡ true → (rest ≡ Some v → p v ≡ true) → cond b (Some u) rest ≡ Some v → p v ≡ true
among_by true p u v rest h k is = let same : u ≡ v = cc in subst (λ x. p x ≡ true) same h
among_by false p u v rest h k is = k is

found_among : (p : Word → Bool) (ws : List Word) (c : List ℕ) (v : Word) → list_all p ws ≡ true → find_word ws c ≡ Some v → p v ≡ true
found_among p [] c v all is = let bad : None ≡ Some v = is in cc
found_among p (u ∷ us) c v all is =
    let both = and_parts (p u) (list_all p us) all in
    among_by (bytes_eq (text_of u) c) p u v (find_word us c) both.0 (found_among p us c v both.1) is

-- an element of a list is the first, or one of the others
first_or_later : {X : Type 0} (y : X) (xs : List X) (x : X) → Contains (y ∷ xs) x → (y ≡ x) ⊎ Contains xs x
first_or_later y xs x h = by h.0 h.1 h.2
  where
    by : (k : ℕ) → k < length (y ∷ xs) → slice_index_or (y ∷ xs) k x ≡ x → (y ≡ x) ⊎ Contains xs x
    by zero lt is = inl is
    by (suc k) lt is = inr (k, omega arith, is)

contains_later : {X : Type 0} (y : X) (xs : List X) (x : X) → Contains xs x → Contains (y ∷ xs) x
contains_later y xs x h = let lt = h.1 in (suc h.0, omega arith, h.2)

-- where none is found, the text is no word's
none_by : (b : Bool) (u : Word) (rest : Option Word) → cond b (Some u) rest ≡ None → (b ≡ false) × (rest ≡ None)
none_by true u rest is = let bad : Some u ≡ None = is in cc
none_by false u rest is = (refl, is)

none_found : (ws : List Word) (c : List ℕ) → find_word ws c ≡ None → Contains (map text_of ws) c → ⊥
none_found [] c is h = let lt = h.1 in omega arith
none_found (u ∷ us) c is h =
    let parts = none_by (bytes_eq (text_of u) c) u (find_word us c) is in
    ⊎_elim (λ same. let yes : bytes_eq (text_of u) c ≡ true = (bytes_eq-Decides (text_of u) c).1 same in both_ways (bytes_eq (text_of u) c) parts.0 yes)
    (none_found us c parts.1) (first_or_later (text_of u) (map text_of us) c h)

-- a text that is no reserved word's is a name
pub unreserved : (c : List ℕ) → find_word reserved_words c ≡ None → IsName c
unreserved c is = none_found reserved_words c is

-- a text that is no word's is not found
not_found : (ws : List Word) (c : List ℕ) → (Contains (map text_of ws) c → ⊥) → find_word ws c ≡ None
not_found [] c h = refl
not_found (u ∷ us) c h =
    cond-false (bytes_eq (text_of u) c) (Some u) (find_word us c)
    (false_from_ne_true (bytes_eq (text_of u) c) (λ yes. h (0, omega arith, (bytes_eq-Decides (text_of u) c).0 yes)))
    ∙ not_found us c (λ later. h (contains_later (text_of u) (map text_of us) c later))

-- the words that are marks, and those that are names
abbrev is_mark : Word → Bool
is_mark w.Name = false
is_mark w.Number = false
is_mark w.Text = false
is_mark (w.Type k) = false
is_mark (w.Keyword k) = false
is_mark w.Other = false
is_mark _ = true

abbrev is_reserved : Word → Bool
is_reserved (w.Type k) = true
is_reserved (w.Keyword k) = true
is_reserved _ = false

-- what a token is whose word this is
abbrev pub Spelled : Word → Token → Type 0
Spelled w.Name t = (t ≡ word t.text t.place) × IsName t.text
Spelled w.Number t = t ≡ record { kind = kind.Number; place = t.place; text = t.text }
Spelled w.Text t = t.kind ≡ kind.Text
Spelled (w.Type k) t = t ≡ word (type_text k) t.place
Spelled (w.Keyword k) t = t ≡ word (keyword_text k) t.place
Spelled w.Other t = Unit {0}
Spelled v t = t ≡ mark (text_of v) t.place

spelled_mark : (v : Word) (t : Token) → is_mark v ≡ true → t ≡ mark (text_of v) t.place → Spelled v t
spelled_mark w.Name t m is = absurd (false≢true m)
spelled_mark w.Number t m is = absurd (false≢true m)
spelled_mark w.Text t m is = absurd (false≢true m)
spelled_mark (w.Type k) t m is = absurd (false≢true m)
spelled_mark (w.Keyword k) t m is = absurd (false≢true m)
spelled_mark w.Other t m is = absurd (false≢true m)
spelled_mark w.Left t m is = is
spelled_mark w.Right t m is = is
spelled_mark w.LeftSquare t m is = is
spelled_mark w.RightSquare t m is = is
spelled_mark w.LeftBrace t m is = is
spelled_mark w.RightBrace t m is = is
spelled_mark w.Semicolon t m is = is
spelled_mark w.Comma t m is = is
spelled_mark w.Ask t m is = is
spelled_mark w.Colon t m is = is
spelled_mark (w.Sign o) t m is = is
spelled_mark (w.Step o) t m is = is
spelled_mark (w.Binary o) t m is = is
spelled_mark (w.Assign o) t m is = is

spelled_reserved : (v : Word) (t : Token) → is_reserved v ≡ true → t ≡ word (text_of v) t.place → Spelled v t
spelled_reserved (w.Type k) t m is = is
spelled_reserved (w.Keyword k) t m is = is
spelled_reserved _ t m is = absurd (false≢true m)

token_is : (t : Token) (k : TokenKind) (c : List ℕ) → t.kind ≡ k → t.text ≡ c → t ≡ record { kind = k; place = t.place; text = c }
token_is t k c h g =
    let of_kind : TokenKind → Token = λ j. record { kind = j; place = t.place; text = t.text } in
    let of_text : List ℕ → Token = λ a. record { kind = k; place = t.place; text = a } in
    ap of_kind h ∙ ap of_text g

by_mark : (t : Token) (found : Option Word) → t.kind ≡ kind.Mark → find_word marks t.text ≡ found → Spelled (unwrap_or found w.Other) t
by_mark t None k is = tt
by_mark t (Some v) k is =
    let text : text_of v ≡ t.text = found_text marks t.text v is in
    spelled_mark v t (found_among is_mark marks t.text v refl is) (token_is t kind.Mark (text_of v) k (sym text))

by_name : (t : Token) (found : Option Word) → t.kind ≡ kind.Name → find_word reserved_words t.text ≡ found → Spelled (unwrap_or found w.Name) t
by_name t None k is = (token_is t kind.Name t.text k refl, none_found reserved_words t.text is)
by_name t (Some v) k is =
    let text : text_of v ≡ t.text = found_text reserved_words t.text v is in
    spelled_reserved v t (found_among is_reserved reserved_words t.text v refl is) (token_is t kind.Name (text_of v) k (sym text))

by_kind : (t : Token) (k : TokenKind) → t.kind ≡ k → Spelled (word_by k t.text) t
by_kind t kind.Name is = by_name t (find_word reserved_words t.text) is refl
by_kind t kind.Number is = token_is t kind.Number t.text is refl
by_kind t kind.Text is = is
by_kind t kind.Mark is = by_mark t (find_word marks t.text) is refl

-- what a token's word says of the token
pub spelled : (t : Token) (v : Word) → word_of t ≡ v → Spelled v t
spelled t v is = subst (λ u. Spelled u t) is (by_kind t t.kind refl)

-- the words of the grammar's tokens
pub word-name : (c : List ℕ) (p : Place) → IsName c → word_of (word c p) ≡ w.Name
word-name c p is = ap (λ o. unwrap_or o w.Name) (not_found reserved_words c is)

pub word-step : (o : StepOp) (p : Place) → word_of (mark (step_text o) p) ≡ w.Step o
word-step step.Increment p = refl
word-step step.Decrement p = refl

pub word-binary : (o : BinaryOp) (p : Place) → word_of (mark (binary_text o) p) ≡ w.Binary o
word-binary binary.LogicOr p = refl
word-binary binary.LogicAnd p = refl
word-binary binary.BitOr p = refl
word-binary binary.BitXor p = refl
word-binary binary.BitAnd p = refl
word-binary binary.Equal p = refl
word-binary binary.NotEqual p = refl
word-binary binary.Less p = refl
word-binary binary.Greater p = refl
word-binary binary.AtMost p = refl
word-binary binary.AtLeast p = refl
word-binary binary.ShiftLeft p = refl
word-binary binary.ShiftRight p = refl
word-binary binary.Plus p = refl
word-binary binary.Minus p = refl
word-binary binary.Times p = refl
word-binary binary.Divide p = refl
word-binary binary.Remainder p = refl

pub word-assign : (o : AssignOp) (p : Place) → may_assign o ≡ true → word_of (mark (assignment_text o) p) ≡ w.Assign o
word-assign assignment.Plain p may = refl
word-assign (assignment.With binary.LogicOr) p may = absurd (false≢true may)
word-assign (assignment.With binary.LogicAnd) p may = absurd (false≢true may)
word-assign (assignment.With binary.BitOr) p may = refl
word-assign (assignment.With binary.BitXor) p may = refl
word-assign (assignment.With binary.BitAnd) p may = refl
word-assign (assignment.With binary.Equal) p may = absurd (false≢true may)
word-assign (assignment.With binary.NotEqual) p may = absurd (false≢true may)
word-assign (assignment.With binary.Less) p may = absurd (false≢true may)
word-assign (assignment.With binary.Greater) p may = absurd (false≢true may)
word-assign (assignment.With binary.AtMost) p may = absurd (false≢true may)
word-assign (assignment.With binary.AtLeast) p may = absurd (false≢true may)
word-assign (assignment.With binary.ShiftLeft) p may = refl
word-assign (assignment.With binary.ShiftRight) p may = refl
word-assign (assignment.With binary.Plus) p may = refl
word-assign (assignment.With binary.Minus) p may = refl
word-assign (assignment.With binary.Times) p may = refl
word-assign (assignment.With binary.Divide) p may = refl
word-assign (assignment.With binary.Remainder) p may = refl

-- the operators of assignments among the marks are those of the grammar
abbrev is_assignment : Word → Bool
is_assignment (w.Assign o) = may_assign o
is_assignment _ = true

assigns_by : (k : TokenKind) (c : List ℕ) (o : AssignOp) → word_by k c ≡ w.Assign o → may_assign o ≡ true
assigns_by kind.Number c o is = let bad : w.Number ≡ w.Assign o = is in cc
assigns_by kind.Text c o is = let bad : w.Text ≡ w.Assign o = is in cc
assigns_by kind.Name c o is = by (find_word reserved_words c) refl is
  where
    by : (found : Option Word) → find_word reserved_words c ≡ found → unwrap_or found w.Name ≡ w.Assign o → may_assign o ≡ true
    by None e is = let bad : w.Name ≡ w.Assign o = is in cc
    by (Some v) e is = let r : is_reserved (w.Assign o) ≡ true = ap is_reserved (sym is) ∙ found_among is_reserved reserved_words c v refl e in absurd (false≢true r)
assigns_by kind.Mark c o is = by (find_word marks c) refl is
  where
    by : (found : Option Word) → find_word marks c ≡ found → unwrap_or found w.Other ≡ w.Assign o → may_assign o ≡ true
    by None e is = let bad : w.Other ≡ w.Assign o = is in cc
    by (Some v) e is = ap is_assignment (sym is) ∙ found_among is_assignment marks c v refl e

pub assigns : (t : Token) (o : AssignOp) → word_of t ≡ w.Assign o → may_assign o ≡ true
assigns t o is = assigns_by t.kind t.text o is
