-- How a text falls into pieces: tokens, blanks, comments and directives.
use Rattle.std.specs.Prelude.{ℕ, zero, suc, ◌+◌, Bool, true, false, not, ◌&&◌, ◌==◌, nat_lt, if◌then◌else◌, List, [], ◌∷◌, length, take, drop, bytes_eq, Option, Some, None, Result, Ok, Err, codes}
use Rattle.std.specs.List.{list_any, prefix_len}
use Rattle.dg_base.specs.declared.Place.{Place}
use Rattle.token_list.specs.declared.TokenKind.TheVariants.{Name, Number, Text, Mark}
use Rattle.c_token.specs.declared.pieces.Front.{Front}
use Rattle.c_token.specs.declared.pieces.Mode.{Mode}
use Rattle.c_token.specs.declared.pieces.Mode.TheVariants.{LineStart, InLine, InMacro, Skipping}
use Rattle.c_token.specs.declared.pieces.Piece.{Piece}
use Rattle.c_token.specs.declared.pieces.Piece.TheVariants.{Word, LineFeed, Gap, Comment, Define, Include, Refused}
use Rattle.c_token.specs.Bytes.{is_line_feed, is_in_line, is_gap, is_space, is_digit, is_letter, is_name_byte, is_number_byte, starts, name_len, quoted_end, comment_end, mark_len}

-- a piece of so many bytes
abbrev pub piece : Piece → ℕ → Option Front
piece p n = Some (record { piece = p; len = n })

-- a piece that ends here, where it does end
abbrev pub ended : Piece → Option ℕ → Option Front
ended p None = None
ended p (Some n) = piece p n

-- the text behind its first spaces and tabs
abbrev pub past_spaces : List ℕ → List ℕ
past_spaces text = drop (prefix_len is_space text) text

-- the length of spaces and tabs and the name behind them
abbrev pub spaced_name_len : List ℕ → ℕ
spaced_name_len text = prefix_len is_space text + name_len (past_spaces text)

-- the name behind spaces and tabs; nothing where there is none
abbrev pub spaced_name : List ℕ → List ℕ
spaced_name text = take (name_len (past_spaces text)) (past_spaces text)

-- whether spaces and tabs, a name and no `(` stand at the front
abbrev pub names_macro : List ℕ → Bool
names_macro text = nat_lt 0 (name_len (past_spaces text)) && not (starts 40 (drop (spaced_name_len text) text))

-- The directive whose `#` stands before this text: `#include`, the head of a definition, or one that is refused. What
-- follows the directive's name in a line that isn't a definition's is no part of it.
abbrev pub directive : List ℕ → Front
directive text =
    if bytes_eq (spaced_name text) (codes "include") then record { piece = Include; len = 1 + spaced_name_len text }
    else (if bytes_eq (spaced_name text) (codes "define") && names_macro (drop (spaced_name_len text) text)
    then record {
      piece = Define (name_len (past_spaces (drop (spaced_name_len text) text)));
      len = 1 + spaced_name_len text + spaced_name_len (drop (spaced_name_len text) text);
    }
    else record { piece = Refused; len = 1 + spaced_name_len text })

-- a piece that begins with no line feed and no `#`
abbrev pub plain_piece : List ℕ → Option Front
plain_piece [] = None
plain_piece (b ∷ bs) =
    if is_gap b then piece Gap (1 + prefix_len is_gap bs)
    else (if is_letter b then piece (Word Name) (1 + prefix_len is_name_byte bs)
    else (if is_digit b then piece (Word Number) (1 + prefix_len is_number_byte bs)
    else (if b == 34 then ended (Word Text) (quoted_end false 1 bs)
    else (if b == 47 && starts 42 bs then ended Comment (comment_end 2 (drop 1 bs))
    else (if b == 47 && starts 47 bs then piece Comment (1 + prefix_len is_in_line bs)
    else ended (Word Mark) (mark_len (b ∷ bs)))))))

abbrev pub is_line_start : Mode → Bool
is_line_start LineStart = true
is_line_start _ = false

abbrev pub is_skipping : Mode → Bool
is_skipping Skipping = true
is_skipping _ = false

-- The piece at the front of a text. A directive stands only at a line's start, and what is behind it is skipped.
abbrev pub front : Mode → List ℕ → Option Front
front mode [] = None
front mode (b ∷ bs) =
    if b == 10 then piece LineFeed 1
    else (if is_skipping mode then piece Gap (1 + prefix_len is_in_line bs)
    else (if b == 35 then (if is_line_start mode then Some (directive bs) else None)
    else plain_piece (b ∷ bs)))

-- Where the next piece stands. A macro's line ends at the first line feed outside a comment; other lines begin behind
-- any line feed.
abbrev pub mode_after : Mode → Piece → List ℕ → Mode
mode_after mode LineFeed text = LineStart
mode_after mode Gap text = mode
mode_after InLine Comment text = if list_any is_line_feed text then LineStart else InLine
mode_after mode Comment text = mode
mode_after InMacro (Word kind) text = InMacro
mode_after mode (Word kind) text = InLine
mode_after mode (Define n) text = InMacro
mode_after mode Include text = Skipping
mode_after mode Refused text = Skipping

abbrev pub beginning : Place
beginning = record { line = 1; col = 1 }

-- the place behind a text that begins at this place
abbrev pub behind : Place → List ℕ → Place
behind p [] = p
behind p (b ∷ bs) = behind (if b == 10 then record { line = p.line + 1; col = 1 } else record { line = p.line; col = p.col + 1 }) bs

-- a piece with its place and its bytes
pub record Segment : Type 0 where
  pub piece : Piece
  pub place : Place
  pub text : List ℕ

abbrev pub put : {A E : Type 0} → A → Result (List A) E → Result (List A) E
put a (Ok more) = Ok (a ∷ more)
put a (Err e) = Err e

-- cuts off the piece at the front of a text, and goes on with the rest
abbrev pub cut : Place → List ℕ → Option Front → (Segment → List ℕ → Result (List Segment) Place) → Result (List Segment) Place
cut p text None more = Err p
cut p text (Some f) more =
    put (record { piece = f.piece; place = p; text = take f.len text })
    (more (record { piece = f.piece; place = p; text = take f.len text }) (drop f.len text))

-- the segments of a text that begins in this mode at this place, at most n; or the place of a byte that begins no piece
abbrev pub segments : ℕ → Mode → Place → List ℕ → Result (List Segment) Place
segments zero mode p text = Ok []
segments (suc n) mode p [] = Ok []
segments (suc n) mode p (b ∷ bs) =
    cut p (b ∷ bs) (front mode (b ∷ bs)) (λ s rest. segments n (mode_after mode s.piece s.text) (behind p s.text) rest)

-- a text has at most as many segments as bytes
abbrev pub all_segments : List ℕ → Result (List Segment) Place
all_segments text = segments (length text) LineStart beginning text
