-- What no text goes on with, what the parser finds before it, and what a text begins with.
use Rattle.std.specs.Prelude.{◌≡◌, ℕ, ◌≤◌, nat_le, Bool, true, false, IsTrue, List, [], ◌∷◌, ◌++◌}
use Rattle.token_list.specs.declared.Token.{Token}
use Rattle.c_tree.specs.declared.expr.Expr.{Expr}
use Rattle.c_expr.specs.declared.word.Word.{Word}
use Rattle.c_expr.specs.declared.word.Word.TheVariants as w
use Rattle.c_expr.specs.Words.{word_of}
use Rattle.c_expr.specs.Expressions.{Reads, Begins, IsLongestRun, Parses, Refuses}

-- the words that no text of level f goes on with behind a text; a comma is an operator at level 0
abbrev pub closes : ℕ → Word → Bool
closes f w.Semicolon = true
closes f w.Right = true
closes f w.RightSquare = true
closes f w.RightBrace = true
closes f w.Colon = true
closes f w.Comma = nat_le 1 f
closes f _ = false

-- no text begins with a text and such a word behind it
abbrev pub CloserEnds : Type 0
CloserEnds = (f n : ℕ) (list : List Token) (x : Expr) (t : Token) → f ≤ 2 → Reads f n list x → IsTrue (closes f (word_of t)) → Begins f n (list ++ t ∷ []) → ⊥

-- a text before such a word is what is found there
abbrev pub TextParses : Type 0
TextParses =
    (f n : ℕ) (list : List Token) (x : Expr) (t : Token) (more : List Token) → f ≤ 2 → Reads f n list x → IsTrue (closes f (word_of t))
    → Parses f n (list ++ t ∷ more) x (t ∷ more)

-- a list is parsed in at most one way
abbrev pub OneParse : Type 0
OneParse = (f n : ℕ) (list : List Token) (x y : Expr) (s t : List Token) → f ≤ 2 → Parses f n list x s → Parses f n list y t → (x ≡ y) × (s ≡ t)

-- no list is both parsed and refused
abbrev pub ParsedOrRefused : Type 0
ParsedOrRefused = (f n : ℕ) (list : List Token) (x : Expr) (s t : List Token) → Parses f n list x s → Refuses f n list t → ⊥

-- two texts at the front of one list, each before such a word, are one
abbrev pub OneBefore : Type 0
OneBefore =
    (f n : ℕ) (a b : List Token) (x y : Expr) (t u : Token) (r s : List Token) → f ≤ 2 → Reads f n a x → Reads f n b y → IsTrue (closes f (word_of t)) → IsTrue (closes f (word_of u))
    → a ++ t ∷ r ≡ b ++ u ∷ s → (a ≡ b) × (x ≡ y) × (t ≡ u) × (r ≡ s)

-- A text before such a word, in a list that begins with a list's longest run and the token behind it, is that run.
abbrev pub NoneBefore : Type 0
NoneBefore =
    (f n : ℕ) (list run more b : List Token) (t u : Token) (y : Expr) (r s : List Token) → f ≤ 2 → IsLongestRun f n list run (t ∷ more) → Reads f n b y → IsTrue (closes f (word_of u))
    → run ++ t ∷ r ≡ b ++ u ∷ s → (b ≡ run) × (u ≡ t) × (s ≡ r)

-- the words that some text may begin with
abbrev pub starts : Word → Bool
starts w.Right = false
starts w.LeftBrace = false
starts w.RightBrace = false
starts w.RightSquare = false
starts w.Semicolon = false
starts w.Comma = false
starts w.Colon = false
starts w.Ask = false
starts (w.Type k) = false
starts (w.Keyword k) = false
starts w.Other = false
starts _ = true

-- a list that is not empty and begins with such a word
pub record Starts (list : List Token) : Type 0 where
  pub token : Token
  pub more : List Token
  pub all : list ≡ token ∷ more
  pub starts : IsTrue (starts (word_of token))

-- each text does
abbrev pub TextStarts : Type 0
TextStarts = (f n : ℕ) (list : List Token) (x : Expr) → Reads f n list x → Starts list
