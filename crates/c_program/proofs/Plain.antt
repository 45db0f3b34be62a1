-- The tokens of a text that are names hold no blank and no line feed.
use Rattle.std.proofs.Common.{◌≡◌, ℕ, zero, suc, ◌+◌, true, false, ◌&&◌, List, [], ◌∷◌, map, take, drop, length, Option, Some, None, Result, Ok, Err, IfOk, codes, refl, bytes_eq, nat_lt}
use Rattle.std.specs.Prelude.{◌==◌, find}
use Rattle.std.specs.List.{AllByRecursion, prefix_len}
use Rattle.std.proofs.lemmas.Bool.{cond_both}
use Rattle.std.proofs.lemmas.Result.{IfOk-at_ok}
use Rattle.dg_base.specs.declared.Place.{Place}
use Rattle.dg_base.specs.declared.refusal.Refusal.{Refusal}
use Rattle.token_list.specs.declared.Token.{Token}
use Rattle.token_list.specs.declared.Tokens.{Tokens}
use Rattle.token_list.specs.declared.TokenKind.{TokenKind}
use Rattle.token_list.specs.declared.TokenKind.TheVariants.{Name, Text, Mark}
use Rattle.c_token.specs.declared.pieces.Front.{Front}
use Rattle.c_token.specs.declared.pieces.Mode.{Mode}
use Rattle.c_token.specs.declared.pieces.Piece.{Piece}
use Rattle.c_token.specs.declared.pieces.Piece.TheVariants.{Word, LineFeed, Gap, Comment, Define, Include, Refused}
use Rattle.c_token.specs.Bytes.{is_gap, is_letter, is_name_byte, is_digit, starts, quoted_end, comment_end, mark_len}
use Rattle.c_token.specs.Pieces.{Segment, ended, spaced_name, spaced_name_len, names_macro, directive, plain_piece, is_skipping, is_line_start, front, mode_after, behind, put, cut, segments, all_segments, beginning}
use Rattle.c_token.specs.declared.pieces.Mode.TheVariants.{LineStart}
use Rattle.c_token.specs.Macros.{Definition, Reading, macro_of, all_at, is_name, replaced_by, replaced, nothing_read, add_words, add, define, read_piece, read, bodies_of}
use Rattle.c_token.specs.Dropping.{is_named, kept}
use Rattle.c_token.specs.Tokens.{is_text_word, is_unsupported, meant, first_long, limited, supported, tokens_read, tokens_of, answer}
use Rattle.c_check.specs.PlainNames.{lacks}
use Rattle.c_check.proofs.PlainNames.{all_append}
use Rattle.c_program.proofs.Lacking.{first_and_prefix_lacks}
use Rattle.c_program.proofs.Dropped.{kept_all}

-- a text without a blank and without a line feed
pub record IsPlain (text : List ℕ) : Type 0 where
  pub no_blank : lacks 32 text ≡ true
  pub no_feed : lacks 10 text ≡ true

-- plain, where it is a name
abbrev pub IsPlainName : TokenKind → List ℕ → Type 0
IsPlainName Name text = IsPlain text
IsPlainName _ text = Unit {0}

abbrev pub IsPlainToken : Token → Type 0
IsPlainToken t = IsPlainName t.kind t.text

abbrev pub ArePlain : List Token → Type 0
ArePlain ts = AllByRecursion IsPlainToken ts

abbrev IsPlainPiece : Piece → List ℕ → Type 0
IsPlainPiece (Word kind) text = IsPlainName kind text
IsPlainPiece _ text = Unit {0}

-- the piece at the front of a text, if there is one
abbrev IsPlainFront : List ℕ → Option Front → Type 0
IsPlainFront text None = Unit {0}
IsPlainFront text (Some f) = IsPlainPiece f.piece (take f.len text)

name_plain : (b : ℕ) (bs : List ℕ) → is_letter b ≡ true → IsPlain (take (1 + prefix_len is_name_byte bs) (b ∷ bs))
name_plain b bs h = record {
  no_blank = first_and_prefix_lacks 32 is_letter is_name_byte b bs refl refl h;
  no_feed = first_and_prefix_lacks 10 is_letter is_name_byte b bs refl refl h;
}

ended_plain : (text : List ℕ) (p : Piece) (o : Option ℕ) → ((t : List ℕ) → IsPlainPiece p t) → IsPlainFront text (ended p o)
ended_plain text p None h = tt
ended_plain text p (Some n) h = h (take n text)

directive_plain : (text more : List ℕ) → IsPlainFront more (Some (directive text))
directive_plain text more =
    let P : Front → Type 0 = λ f. IsPlainPiece f.piece (take f.len more) in
    cond_both (bytes_eq (spaced_name text) (codes "include")) _ _ P (λ _. tt)
    (λ _. cond_both (bytes_eq (spaced_name text) (codes "define") && names_macro (drop (spaced_name_len text) text)) _ _ P (λ _. tt) (λ _. tt))

plain_piece_plain : (b : ℕ) (bs : List ℕ) → IsPlainFront (b ∷ bs) (plain_piece (b ∷ bs))
plain_piece_plain b bs =
    let P : Option Front → Type 0 = IsPlainFront (b ∷ bs) in
    cond_both (is_gap b) _ _ P (λ _. tt)
    (λ _. cond_both (is_letter b) _ _ P (name_plain b bs)
    (λ _. cond_both (is_digit b) _ _ P (λ _. tt)
    (λ _. cond_both (b == 34) _ _ P (λ _. ended_plain (b ∷ bs) (Word Text) (quoted_end false 1 bs) (λ t. tt))
    (λ _. cond_both (b == 47 && starts 42 bs) _ _ P (λ _. ended_plain (b ∷ bs) Comment (comment_end 2 (drop 1 bs)) (λ t. tt))
    (λ _. cond_both (b == 47 && starts 47 bs) _ _ P (λ _. tt)
    (λ _. ended_plain (b ∷ bs) (Word Mark) (mark_len (b ∷ bs)) (λ t. tt)))))))

front_plain : (mode : Mode) (text : List ℕ) → IsPlainFront text (front mode text)
front_plain mode [] = tt
front_plain mode (b ∷ bs) =
    let P : Option Front → Type 0 = IsPlainFront (b ∷ bs) in
    cond_both (b == 10) _ _ P (λ _. tt)
    (λ _. cond_both (is_skipping mode) _ _ P (λ _. tt)
    (λ _. cond_both (b == 35) _ _ P (λ _. cond_both (is_line_start mode) (Some (directive bs)) None P (λ _. directive_plain bs (b ∷ bs)) (λ _. tt))
    (λ _. plain_piece_plain b bs)))

abbrev IsPlainSegment : Segment → Type 0
IsPlainSegment s = IsPlainPiece s.piece s.text

abbrev ArePlainSegments : List Segment → Type 0
ArePlainSegments ss = AllByRecursion IsPlainSegment ss

put_plain : (s : Segment) (r : Result (List Segment) Place) → IsPlainSegment s → IfOk r ArePlainSegments → IfOk (put s r) ArePlainSegments
put_plain s (Ok more) h k = (h, k)
put_plain s (Err e) h k = tt

cut_plain : (p : Place) (text : List ℕ) (o : Option Front) (more : Segment → List ℕ → Result (List Segment) Place) → IsPlainFront text o
    → ((s : Segment) (rest : List ℕ) → IfOk (more s rest) ArePlainSegments) → IfOk (cut p text o more) ArePlainSegments
cut_plain p text None more h k = tt
cut_plain p text (Some f) more h k =
    let s : Segment = record { piece = f.piece; place = p; text = take f.len text } in
    put_plain s (more s (drop f.len text)) h (k s (drop f.len text))

segments_plain : (n : ℕ) (mode : Mode) (p : Place) (text : List ℕ) → IfOk (segments n mode p text) ArePlainSegments
segments_plain zero mode p text = tt
segments_plain (suc n) mode p [] = tt
segments_plain (suc n) mode p (b ∷ bs) =
    cut_plain p (b ∷ bs) (front mode (b ∷ bs)) (λ s rest. segments n (mode_after mode s.piece s.text) (behind p s.text) rest) (front_plain mode (b ∷ bs))
    (λ s rest. segments_plain n (mode_after mode s.piece s.text) (behind p s.text) rest)

-- macros with plain tokens
abbrev IsPlainMacro : Definition → Type 0
IsPlainMacro m = ArePlain m.body

abbrev ArePlainIn : Option (List Token) → Type 0
ArePlainIn None = Unit {0}
ArePlainIn (Some ts) = ArePlain ts

abbrev IsPlainPending : Option Definition → Type 0
IsPlainPending None = Unit {0}
IsPlainPending (Some m) = IsPlainMacro m

record IsPlainReading (r : Reading) : Type 0 where
  macros : AllByRecursion IsPlainMacro r.macros
  pending : IsPlainPending r.pending
  words : ArePlain r.words

macro_plain : (ms : List Definition) (name : List ℕ) → AllByRecursion IsPlainMacro ms → ArePlainIn (macro_of ms name)
macro_plain [] name h = tt
macro_plain (m ∷ ms) name h = cond_both (bytes_eq m.name name) (Some m.body) (macro_of ms name) ArePlainIn (λ _. h.0) (λ _. macro_plain ms name h.1)

at_plain : (place : Place) (ts : List Token) → ArePlain ts → ArePlain (all_at place ts)
at_plain place [] h = tt
at_plain place (t ∷ ts) h = (h.0, at_plain place ts h.1)

replaced_plain : (t : Token) (o : Option (List Token)) → IsPlainToken t → ArePlainIn o → ArePlain (replaced_by t o)
replaced_plain t None h k = (h, tt)
replaced_plain t (Some ts) h k = at_plain t.place ts k

add_words_plain : (o : Option Definition) (r : Reading) (ts : List Token) → IsPlainPending o → IsPlainReading r → ArePlain ts → IsPlainReading (add_words o r ts)
add_words_plain None r ts o h k = record { macros = h.macros; pending = h.pending; words = all_append IsPlainToken r.words ts h.words k }
add_words_plain (Some m) r ts o h k = record { macros = h.macros; pending = all_append IsPlainToken m.body ts o k; words = h.words }

add_plain : (r : Reading) (t : Token) → IsPlainReading r → IsPlainToken t → IsPlainReading (add r t)
add_plain r t h k =
    add_words_plain r.pending r (replaced r.macros t) h.pending h
    (cond_both (is_name t.kind) (replaced_by t (macro_of r.macros t.text)) (t ∷ []) ArePlain (λ _. replaced_plain t (macro_of r.macros t.text) k (macro_plain r.macros t.text h.macros)) (λ _. (k, tt)))

define_plain : (o : Option Definition) (r : Reading) → IsPlainPending o → IsPlainReading r → IsPlainReading (define o r)
define_plain None r o h = h
define_plain (Some m) r o h = record { macros = (o, h.macros); pending = tt; words = h.words }

read_piece_plain : (p : Piece) (place : Place) (text : List ℕ) (r : Reading) → IsPlainPiece p text → IsPlainReading r → IsPlainReading (read_piece p place text r)
read_piece_plain (Word kind) place text r p h = add_plain r (record { kind = kind; place = place; text = text }) h p
read_piece_plain Refused place text r p h = add_plain r (record { kind = Mark; place = place; text = text }) h tt
read_piece_plain (Define n) place text r p h = record { macros = h.macros; pending = tt; words = h.words }
read_piece_plain LineFeed place text r p h = define_plain r.pending r h.pending h
read_piece_plain Gap place text r p h = h
read_piece_plain Comment place text r p h = h
read_piece_plain Include place text r p h = h

read_plain : (r : Reading) (ss : List Segment) → IsPlainReading r → ArePlainSegments ss → IsPlainReading (read r ss)
read_plain r [] h k = define_plain r.pending r h.pending h
read_plain r (s ∷ ss) h k = read_plain (read_piece s.piece s.place s.text r) ss (read_piece_plain s.piece s.place s.text r k.0 h) k.1

-- a name that stands for another token stands for no name
meant_plain : (t : Token) → IsPlainToken t → IsPlainToken (meant t)
unfolding meant
meant_plain t h =
    cond_both (is_text_word t) _ _ IsPlainToken (λ _. tt)
    (λ _. cond_both (is_named (codes "__LINE__") t) _ _ IsPlainToken (λ _. tt)
    (λ _. cond_both (is_named (codes "NULL") t) _ _ IsPlainToken (λ _. tt) (λ _. h)))

all_meant_plain : (ts : List Token) → ArePlain ts → ArePlain (map meant ts)
all_meant_plain [] h = tt
all_meant_plain (t ∷ ts) h = (meant_plain t h.0, all_meant_plain ts h.1)

abbrev HasPlainTokens : Result Tokens Refusal → Type 0
HasPlainTokens r = IfOk r (λ (tokens : Tokens). ArePlain tokens.list)

limited_plain : (end : Place) (o : Option (List Token)) (words : List Token) → ArePlain words → HasPlainTokens (limited end o words)
unfolding limited
limited_plain end (Some body) words h = tt
limited_plain end None words h = cond_both (nat_lt 65536 (length words)) _ _ HasPlainTokens (λ _. tt) (λ _. all_meant_plain words h)

supported_plain : (end : Place) (u : Option Token) (o : Option (List Token)) (words : List Token) → ArePlain words → HasPlainTokens (supported end u o words)
unfolding supported
supported_plain end (Some t) o words h = tt
supported_plain end None o words h = limited_plain end o words h

read_tokens_plain : (end : Place) (r : Reading) → ArePlain r.words → HasPlainTokens (tokens_read end r)
unfolding tokens_read
read_tokens_plain end r h =
    supported_plain end (find is_unsupported (kept r.words)) (first_long (bodies_of r.macros)) (kept r.words) (kept_all IsPlainToken r.words h)

tokens_plain : (end : Place) (s : Result (List Segment) Place) → IfOk s ArePlainSegments → HasPlainTokens (tokens_of end s)
unfolding tokens_of
tokens_plain end (Err p) h = tt
tokens_plain end (Ok ss) h =
    let start : IsPlainReading nothing_read = record { macros = tt; pending = tt; words = tt } in
    read_tokens_plain end (read nothing_read ss) (read_plain nothing_read ss start h).words

answer_plain : (text : List ℕ) → HasPlainTokens (answer text)
unfolding answer
answer_plain text =
    cond_both (nat_lt 1048576 (length text)) _ _ HasPlainTokens (λ _. tt)
    (λ _. tokens_plain (behind beginning text) (all_segments text) (segments_plain (length text) LineStart beginning text))

-- the names among a text's tokens are plain
pub names_plain : (text : List ℕ) (tokens : Tokens) → answer text ≡ Ok tokens → ArePlain tokens.list
names_plain text tokens e = IfOk-at_ok (λ (t : Tokens). ArePlain t.list) e (answer_plain text)
