-- Macros: from the segments of a text to its tokens, each macro replaced.
use Rattle.std.specs.Prelude.{ℕ, ◌-◌, Bool, true, false, if◌then◌else◌, List, [], ◌∷◌, ◌++◌, map, length, drop, bytes_eq, Option, Some, None}
use Rattle.dg_base.specs.declared.Place.{Place}
use Rattle.token_list.specs.declared.Token.{Token}
use Rattle.token_list.specs.declared.TokenKind.{TokenKind}
use Rattle.token_list.specs.declared.TokenKind.TheVariants.{Name, Mark}
use Rattle.c_token.specs.declared.pieces.Piece.{Piece}
use Rattle.c_token.specs.declared.pieces.Piece.TheVariants.{Word, LineFeed, Define, Refused}
use Rattle.c_token.specs.Pieces.{Segment}

-- a macro's name and its tokens
pub record Definition : Type 0 where
  pub name : List ℕ
  pub body : List Token

-- the tokens of the newest macro of this name; the newest stands first
abbrev pub macro_of : List Definition → List ℕ → Option (List Token)
macro_of [] name = None
macro_of (m ∷ ms) name = if bytes_eq m.name name then Some m.body else macro_of ms name

abbrev pub put_at : Place → Token → Token
put_at place t = record t { place = place }

-- the same tokens, all at one place
abbrev pub all_at : Place → List Token → List Token
all_at place ts = map (put_at place) ts

abbrev pub is_name : TokenKind → Bool
is_name Name = true
is_name _ = false

abbrev pub replaced_by : Token → Option (List Token) → List Token
replaced_by t None = t ∷ []
replaced_by t (Some ts) = all_at t.place ts

-- a token, or the tokens of the macro that it names
abbrev pub replaced : List Definition → Token → List Token
replaced macros t = if is_name t.kind then replaced_by t (macro_of macros t.text) else t ∷ []

-- What is read so far: the macros, the newest first; the macro whose line is being read; the tokens outside directives.
pub record Reading : Type 0 where
  pub macros : List Definition
  pub pending : Option Definition
  pub words : List Token

abbrev pub nothing_read : Reading
nothing_read = record { macros = []; pending = None; words = [] }

-- the tokens go to the macro whose line is being read, if there is one
abbrev pub add_words : Option Definition → Reading → List Token → Reading
add_words None r ts = record r { words = r.words ++ ts }
add_words (Some m) r ts = record r { pending = Some (record m { body = m.body ++ ts }) }

-- a token, with the macros before it in their places
abbrev pub add : Reading → Token → Reading
add r t = add_words r.pending r (replaced r.macros t)

-- the macro is defined at its line's end
abbrev pub define : Option Definition → Reading → Reading
define None r = r
define (Some m) r = record r { macros = m ∷ r.macros; pending = None }

-- a macro's line begins
abbrev pub begin : List ℕ → Reading → Reading
begin name r = record r { pending = Some (record { name = name; body = [] }) }

-- A directive that is refused stands among the tokens as its head.
abbrev pub read_piece : Piece → Place → List ℕ → Reading → Reading
read_piece (Word kind) place text r = add r (record { kind = kind; place = place; text = text })
read_piece Refused place text r = add r (record { kind = Mark; place = place; text = text })
read_piece (Define n) place text r = begin (drop (length text - n) text) r
read_piece LineFeed place text r = define r.pending r
read_piece _ place text r = r

-- reads all of these; the text's end ends a macro too
abbrev pub read : Reading → List Segment → Reading
read r [] = define r.pending r
read r (s ∷ ss) = read (read_piece s.piece s.place s.text r) ss

-- the bodies of macros, the newest first, in the order of their definitions
abbrev pub bodies_of : List Definition → List (List Token)
bodies_of [] = []
bodies_of (m ∷ ms) = bodies_of ms ++ m.body ∷ []
