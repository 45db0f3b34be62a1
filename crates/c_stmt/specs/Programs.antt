-- Which lists of tokens are programs, of which tree, and what the parser answers.
use Rattle.std.specs.Prelude.{◌≡◌, ℕ, suc, Bool, true, false, List, [], ◌∷◌, ◌++◌, codes}
use Rattle.dg_base.specs.declared.Place.{Place}
use Rattle.dg_base.specs.declared.refusal.Refusal.{Refusal}
use Rattle.dg_base.specs.declared.refusal.Refusal.TheVariants.{Syntax, OutOfMemory}
use Rattle.c_tree.specs.declared.expr.TypeWord.{TypeWord}
use Rattle.c_tree.specs.declared.stmt.Decl.{Decl}
use Rattle.c_tree.specs.declared.stmt.Stmt.{Stmt}
use Rattle.c_tree.specs.declared.program.Param.{Param}
use Rattle.c_tree.specs.declared.program.Item.{Item}
use Rattle.c_tree.specs.declared.program.Item.TheVariants as item
use Rattle.c_tree.specs.declared.program.Program.{Program}
use Rattle.token_list.specs.declared.Token.{Token}
use Rattle.token_list.specs.declared.Tokens.{Tokens}
use Rattle.c_expr.specs.declared.word.Word.{Word}
use Rattle.c_expr.specs.declared.word.Word.TheVariants as w
use Rattle.c_expr.specs.Words.{mark, word, word_of, IsName}
use Rattle.c_expr.specs.Expressions.{IsType}
use Rattle.c_expr.specs.Parser.{place_of}
use Rattle.c_stmt.specs.Declarations.{ReadsDeclaration}
use Rattle.c_stmt.specs.Statements.{ReadsBlock}

-- the words that a prototype's brackets do not skip as they stand
abbrev pub is_skipped : Word → Bool
is_skipped w.Semicolon = false
is_skipped w.LeftBrace = false
is_skipped w.RightBrace = false
is_skipped w.Left = false
is_skipped w.Right = false
is_skipped _ = true

-- tokens without `;`, `{` and `}`, with matched brackets
pub data Skipped : List Token → Type 0 where
  end : Skipped []
  other : {t : Token} {ts : List Token} → is_skipped (word_of t) ≡ true → Skipped ts → Skipped (t ∷ ts)
  group : (p q : Place) {a b : List Token} → Skipped a → Skipped b → Skipped (mark (codes "(") p ∷ (a ++ mark (codes ")") q ∷ b))

-- a function's parameters, with commas between
pub data ReadsList : List Token → List Param → Type 0 where
  last_parameter : {p : Place} {a : List Token} {k : TypeWord} {c : List ℕ} → IsType a k → IsName c
      → ReadsList (a ++ word c p ∷ []) (record { place = p; word = k; name = c } ∷ [])
  next_parameter : {p : Place} (q : Place) {a b : List Token} {k : TypeWord} {c : List ℕ} {xs : List Param} → IsType a k → IsName c → ReadsList b xs
      → ReadsList (a ++ word c p ∷ mark (codes ",") q ∷ b) (record { place = p; word = k; name = c } ∷ xs)

-- what may stand between a function's brackets
pub data ReadsParameters : List Token → List Param → Type 0 where
  no_parameter : ReadsParameters [] []
  void_alone : (p : Place) → ReadsParameters (word (codes "void") p ∷ []) []
  some_parameters : {a : List Token} {xs : List Param} → ReadsList a xs → ReadsParameters a xs

-- What stands at the top, without `static`. A function's block is a node below the function.
pub data ReadsPlain : ℕ → List Token → Item → Type 0 where
  function : {n : ℕ} {p : Place} (q r t u : Place) {a b c : List Token} {k : TypeWord} {name : List ℕ} {ps : List Param} {body : List Stmt}
      → IsType a k → IsName name → ReadsParameters b ps → ReadsBlock n c body
      → ReadsPlain (suc (suc n)) (a ++ word name p ∷ mark (codes "(") q ∷ (b ++ mark (codes ")") r ∷ mark (codes "{") t ∷ (c ++ mark (codes "}") u ∷ [])))
      (item.Function (record { place = p; word = k; name = name; params = ps; body = body }))
  prototype : {n : ℕ} {p : Place} (q r t : Place) {a b : List Token} {k : TypeWord} {name : List ℕ} → IsType a k → IsName name → Skipped b
      → ReadsPlain (suc n) (a ++ word name p ∷ mark (codes "(") q ∷ (b ++ mark (codes ")") r ∷ mark (codes ";") t ∷ [])) (item.Prototype p k name)
  shared : {n : ℕ} {a : List Token} {d : Decl} → ReadsDeclaration n a d → ReadsPlain n a (item.Shared d)

-- what stands at the top
pub data ReadsItem : ℕ → List Token → Item → Type 0 where
  plain : {n : ℕ} {a : List Token} {x : Item} → ReadsPlain n a x → ReadsItem n a x
  static : {n : ℕ} (p : Place) {a : List Token} {x : Item} → ReadsPlain n a x → ReadsItem n (word (codes "static") p ∷ a) x

pub data ReadsItems : ℕ → List Token → List Item → Type 0 where
  no_item : {n : ℕ} → ReadsItems n [] []
  an_item : {n : ℕ} {a b : List Token} {x : Item} {xs : List Item} → ReadsItem n a x → ReadsItems n b xs → ReadsItems n (a ++ b) (x ∷ xs)

-- the list is a program, of this tree, and at most 200 nodes with children lie on one way down
abbrev pub ReadsProgram : List Token → Program → Type 0
ReadsProgram list program = ReadsItems 200 list program.items

-- some program begins so
abbrev pub BeginsProgram : List Token → Type 0
BeginsProgram list = (rest : List Token) × (program : Program) × ReadsProgram (list ++ rest) program

-- The longest run of tokens at the front of the list with which some program begins.
pub record IsLongestStart (list run rest : List Token) : Type 0 where
  pub all : run ++ rest ≡ list
  pub begins : BeginsProgram run
  pub ends : (t : Token) (more : List Token) → rest ≡ t ∷ more → BeginsProgram (run ++ t ∷ []) → ⊥

-- A refusal of the text has its cause: no program is the list, and the place is that of the first token behind the longest
-- run with which some program begins, or the text's end.
abbrev pub HasCause : Tokens → Refusal → Type 0
HasCause tokens (Syntax place) =
    (run : List Token) × (rest : List Token) × IsLongestStart tokens.list run rest × ((program : Program) → ReadsProgram tokens.list program → ⊥) × (place ≡ place_of rest tokens.end)
HasCause tokens OutOfMemory = Unit {0}
HasCause tokens _ = ⊥

-- a list has at most one program
abbrev pub OneProgram : Type 0
OneProgram = (list : List Token) (x y : Program) → ReadsProgram list x → ReadsProgram list y → x ≡ y
