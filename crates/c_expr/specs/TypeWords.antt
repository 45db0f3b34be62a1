-- The words of a type, one after another.
use Rattle.std.specs.Prelude.{◌≡◌, ◌↔◌, Bool, true, false, if◌then◌else◌, List, [], ◌∷◌, Option, Some, None}
use Rattle.token_list.specs.declared.Token.{Token}
use Rattle.c_tree.specs.declared.expr.TypeWord.{TypeWord}
use Rattle.c_tree.specs.declared.expr.TypeWord.TheVariants as type
use Rattle.c_tree.specs.declared.expr.BinaryOp.TheVariants as binary
use Rattle.c_expr.specs.declared.word.TypeName.{TypeName}
use Rattle.c_expr.specs.declared.word.TypeName.TheVariants as name
use Rattle.c_expr.specs.declared.word.Word.{Word}
use Rattle.c_expr.specs.declared.word.Word.TheVariants as w
use Rattle.c_expr.specs.Words.{word_of}
use Rattle.c_expr.specs.Expressions.{IsType}

-- the type that a first word is alone
abbrev pub first_word : TypeName → TypeWord
first_word name.Int = type.Int
first_word name.Signed = type.Int
first_word name.Unsigned = type.Uint
first_word name.Void = type.Void
first_word name.Thread = type.Thread
first_word name.Mutex = type.Mutex
first_word name.Cond = type.Cond

-- whether one word more may belong to the type
abbrev pub may_grow : TypeName → Bool
may_grow name.Int = false
may_grow name.Signed = true
may_grow name.Unsigned = true
may_grow name.Void = true
may_grow name.Thread = false
may_grow name.Mutex = false
may_grow name.Cond = false

abbrev pub is_int : Word → Bool
is_int (w.Type name.Int) = true
is_int _ = false

abbrev pub is_star : Word → Bool
is_star (w.Binary binary.Times) = true
is_star _ = false

-- the type that one word more makes of one
abbrev pub grown : Word → TypeWord → Option TypeWord
grown v type.Int = if is_int v then Some type.Int else None
grown v type.Uint = if is_int v then Some type.Uint else None
grown v type.Void = if is_star v then Some type.VoidPointer else None
grown v _ = None

-- what may follow the words of a type so far, where one word more may belong to it or not, and the type of them all
pub data TypeRest : TypeWord → Bool → List Token → TypeWord → Type 0 where
  whole : {k : TypeWord} {more : Bool} → TypeRest k more [] k
  grows : {k j : TypeWord} {t : Token} → grown (word_of t) k ≡ Some j → TypeRest k true (t ∷ []) j

-- a type is a first word and what may follow it
pub record IsTypeByWords (t : Token) (more : List Token) (kind : TypeWord) : Type 0 where
  pub name : TypeName
  pub is : word_of t ≡ w.Type name
  pub rest : TypeRest (first_word name) (may_grow name) more kind

abbrev pub TypesByWords : Type 0
TypesByWords = (list : List Token) (kind : TypeWord) → IsType list kind ↔ ((t : Token) × (more : List Token) × (list ≡ t ∷ more) × IsTypeByWords t more kind)
