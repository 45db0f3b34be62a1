-- The words of the grammar: their spelling, and what a token is to the grammar.
use Rattle.std.specs.Prelude.{ℕ, if◌then◌else◌, List, [], ◌∷◌, ◌++◌, map, codes, bytes_eq, Option, Some, None, unwrap_or}
use Rattle.std.specs.List.{Contains}
use Rattle.dg_base.specs.declared.Place.{Place}
use Rattle.token_list.specs.declared.Token.{Token}
use Rattle.token_list.specs.declared.TokenKind.{TokenKind}
use Rattle.token_list.specs.declared.TokenKind.TheVariants as kind
use Rattle.c_tree.specs.declared.expr.UnaryOp.{UnaryOp}
use Rattle.c_tree.specs.declared.expr.UnaryOp.TheVariants as unary
use Rattle.c_tree.specs.declared.expr.StepOp.{StepOp}
use Rattle.c_tree.specs.declared.expr.StepOp.TheVariants as step
use Rattle.c_tree.specs.declared.expr.BinaryOp.{BinaryOp}
use Rattle.c_tree.specs.declared.expr.BinaryOp.TheVariants as binary
use Rattle.c_tree.specs.declared.expr.AssignOp.{AssignOp}
use Rattle.c_tree.specs.declared.expr.AssignOp.TheVariants as assignment
use Rattle.c_expr.specs.declared.word.TypeName.{TypeName}
use Rattle.c_expr.specs.declared.word.TypeName.TheVariants as type
use Rattle.c_expr.specs.declared.word.Keyword.{Keyword}
use Rattle.c_expr.specs.declared.word.Keyword.TheVariants as keyword
use Rattle.c_expr.specs.declared.word.Word.{Word}
use Rattle.c_expr.specs.declared.word.Word.TheVariants as w

-- a quoted mark or word of the grammar
abbrev pub mark : List ℕ → Place → Token
mark text place = record { kind = kind.Mark; place = place; text = text }

abbrev pub word : List ℕ → Place → Token
word text place = record { kind = kind.Name; place = place; text = text }

-- the spelling of each operator
abbrev pub prefix_text : UnaryOp → List ℕ
prefix_text unary.LogicNot = codes "!"
prefix_text unary.BitNot = codes "~"
prefix_text unary.Negate = codes "-"
prefix_text unary.Plus = codes "+"

abbrev pub step_text : StepOp → List ℕ
step_text step.Increment = codes "++"
step_text step.Decrement = codes "--"

abbrev pub binary_text : BinaryOp → List ℕ
binary_text binary.LogicOr = codes "||"
binary_text binary.LogicAnd = codes "&&"
binary_text binary.BitOr = codes "|"
binary_text binary.BitXor = codes "^"
binary_text binary.BitAnd = codes "&"
binary_text binary.Equal = codes "=="
binary_text binary.NotEqual = codes "!="
binary_text binary.Less = codes "<"
binary_text binary.Greater = codes ">"
binary_text binary.AtMost = codes "<="
binary_text binary.AtLeast = codes ">="
binary_text binary.ShiftLeft = codes "<<"
binary_text binary.ShiftRight = codes ">>"
binary_text binary.Plus = codes "+"
binary_text binary.Minus = codes "-"
binary_text binary.Times = codes "*"
binary_text binary.Divide = codes "/"
binary_text binary.Remainder = codes "%"

-- an assignment's operator (which operators have one is a rule of the grammar: the ten arithmetic and bitwise ones)
abbrev pub assignment_text : AssignOp → List ℕ
assignment_text assignment.Plain = codes "="
assignment_text (assignment.With o) = binary_text o ++ codes "="

-- the spelling of the words of types
abbrev pub type_text : TypeName → List ℕ
type_text type.Int = codes "int"
type_text type.Signed = codes "signed"
type_text type.Unsigned = codes "unsigned"
type_text type.Void = codes "void"
type_text type.Thread = codes "pthread_t"
type_text type.Mutex = codes "pthread_mutex_t"
type_text type.Cond = codes "pthread_cond_t"

-- the spelling of the words of statements and items
abbrev pub keyword_text : Keyword → List ℕ
keyword_text keyword.Static = codes "static"
keyword_text keyword.If = codes "if"
keyword_text keyword.Else = codes "else"
keyword_text keyword.While = codes "while"
keyword_text keyword.Do = codes "do"
keyword_text keyword.For = codes "for"
keyword_text keyword.Return = codes "return"
keyword_text keyword.Break = codes "break"
keyword_text keyword.Continue = codes "continue"

-- the spelling of what has one; the others have none
abbrev pub text_of : Word → List ℕ
text_of w.Left = codes "("
text_of w.Right = codes ")"
text_of w.LeftSquare = codes "["
text_of w.RightSquare = codes "]"
text_of w.LeftBrace = codes "{"
text_of w.RightBrace = codes "}"
text_of w.Semicolon = codes ";"
text_of w.Comma = codes ","
text_of w.Ask = codes "?"
text_of w.Colon = codes ":"
text_of (w.Sign o) = prefix_text o
text_of (w.Step o) = step_text o
text_of (w.Binary o) = binary_text o
text_of (w.Assign o) = assignment_text o
text_of (w.Type t) = type_text t
text_of (w.Keyword k) = keyword_text k
text_of w.Name = []
text_of w.Number = []
text_of w.Text = []
text_of w.Other = []

-- the marks of the grammar
abbrev pub marks : List Word
marks =
    w.Left ∷ w.Right ∷ w.LeftSquare ∷ w.RightSquare ∷ w.LeftBrace ∷ w.RightBrace ∷ w.Semicolon ∷ w.Comma ∷ w.Ask ∷
    w.Colon ∷ w.Sign unary.LogicNot ∷ w.Sign unary.BitNot ∷ w.Step step.Increment ∷ w.Step step.Decrement ∷
    w.Binary binary.LogicOr ∷ w.Binary binary.LogicAnd ∷ w.Binary binary.BitOr ∷ w.Binary binary.BitXor ∷
    w.Binary binary.BitAnd ∷ w.Binary binary.Equal ∷ w.Binary binary.NotEqual ∷ w.Binary binary.Less ∷
    w.Binary binary.Greater ∷ w.Binary binary.AtMost ∷ w.Binary binary.AtLeast ∷ w.Binary binary.ShiftLeft ∷
    w.Binary binary.ShiftRight ∷ w.Binary binary.Plus ∷ w.Binary binary.Minus ∷ w.Binary binary.Times ∷
    w.Binary binary.Divide ∷ w.Binary binary.Remainder ∷ w.Assign assignment.Plain ∷
    w.Assign (assignment.With binary.Plus) ∷ w.Assign (assignment.With binary.Minus) ∷
    w.Assign (assignment.With binary.Times) ∷ w.Assign (assignment.With binary.Divide) ∷
    w.Assign (assignment.With binary.Remainder) ∷ w.Assign (assignment.With binary.BitAnd) ∷
    w.Assign (assignment.With binary.BitOr) ∷ w.Assign (assignment.With binary.BitXor) ∷
    w.Assign (assignment.With binary.ShiftLeft) ∷ w.Assign (assignment.With binary.ShiftRight) ∷ []

-- the words that are no names
abbrev pub reserved_words : List Word
reserved_words =
    w.Type type.Int ∷ w.Type type.Signed ∷ w.Type type.Unsigned ∷ w.Type type.Void ∷ w.Type type.Thread ∷
    w.Type type.Mutex ∷ w.Type type.Cond ∷ w.Keyword keyword.Static ∷ w.Keyword keyword.If ∷ w.Keyword keyword.Else ∷
    w.Keyword keyword.While ∷ w.Keyword keyword.Do ∷ w.Keyword keyword.For ∷ w.Keyword keyword.Return ∷
    w.Keyword keyword.Break ∷ w.Keyword keyword.Continue ∷ []

abbrev pub reserved : List (List ℕ)
reserved = map text_of reserved_words

-- a name that is no word of the grammar
abbrev pub IsName : List ℕ → Type 0
IsName text = Contains reserved text → ⊥

-- the first of these words that has this text
abbrev pub find_word : List Word → List ℕ → Option Word
find_word [] c = None
find_word (v ∷ vs) c = if bytes_eq (text_of v) c then Some v else find_word vs c

-- what a token is to the grammar
abbrev pub word_by : TokenKind → List ℕ → Word
word_by kind.Name c = unwrap_or (find_word reserved_words c) w.Name
word_by kind.Number c = w.Number
word_by kind.Text c = w.Text
word_by kind.Mark c = unwrap_or (find_word marks c) w.Other

abbrev pub word_of : Token → Word
word_of t = word_by t.kind t.text
