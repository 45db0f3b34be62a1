-- The tokens of a text, or why it has none.
use Rattle.std.specs.Prelude.{◌≡◌, ◌⊎◌, ℕ, Bool, true, false, not, ◌&&◌, ◌||◌, nat_lt, if◌then◌else◌, List, [], ◌∷◌, map, length, filter, find, Option, Some, None, is_none, Result, Ok, Err, codes, decimal}
use Rattle.dg_base.specs.declared.Place.{Place}
use Rattle.dg_base.specs.declared.refusal.LimitKind.TheVariants.{Text, Macro, Tokens as TokenCount}
use Rattle.dg_base.specs.declared.refusal.Refusal.{Refusal}
use Rattle.dg_base.specs.declared.refusal.Refusal.TheVariants.{BadByte, Unsupported, Limit, OutOfMemory}
use Rattle.token_list.specs.declared.Token.{Token}
use Rattle.token_list.specs.declared.Tokens.{Tokens}
use Rattle.token_list.specs.declared.TokenKind.{TokenKind}
use Rattle.token_list.specs.declared.TokenKind.TheVariants as kind
use Rattle.c_token.specs.Bytes.{is_space, starts, capped}
use Rattle.c_token.specs.Pieces.{Segment, all_segments, beginning, behind}
use Rattle.c_token.specs.Macros.{Reading, nothing_read, read, bodies_of}
use Rattle.c_token.specs.Dropping.{is_among, is_named, kept}
use Rattle.token_list.specs.Numbers.{number_value}

abbrev pub unsupported_words : List (List ℕ)
unsupported_words =
    codes "struct" ∷ codes "union" ∷ codes "enum" ∷ codes "typedef" ∷ codes "float" ∷ codes "double" ∷ codes "char" ∷ codes "short" ∷ codes "long"
    ∷ codes "switch" ∷ codes "case" ∷ codes "default" ∷ codes "goto" ∷ codes "sizeof" ∷ codes "asm" ∷ codes "_Atomic" ∷ codes "_Bool" ∷ codes "_Thread_local"
    ∷ codes "pthread_cond_t" ∷ codes "pthread_rwlock_t" ∷ codes "pthread_barrier_t" ∷ codes "sem_t" ∷ []

abbrev pub is_number : TokenKind → Bool
is_number kind.Number = true
is_number _ = false

unfoldable pub is_unsupported_name : Token → Bool
is_unsupported_name t = is_among unsupported_words t

-- a number of another form, or one that is too large
abbrev pub is_unsupported_number : Token → Bool
is_unsupported_number t = is_number t.kind && is_none (number_value t.text)

-- a word that isn't supported; a directive's head is the only token that begins with `#`
unfoldable pub is_unsupported : Token → Bool
is_unsupported t = is_unsupported_name t || (is_unsupported_number t || starts 35 t.text)

abbrev pub text_words : List (List ℕ)
text_words = codes "__FILE__" ∷ codes "__func__" ∷ codes "__FUNCTION__" ∷ codes "__PRETTY_FUNCTION__" ∷ []

-- a word that stands for a text
unfoldable pub is_text_word : Token → Bool
is_text_word t = is_among text_words t

-- the token that a token stands for
unfoldable pub meant : Token → Token
meant t =
    if is_text_word t then record { kind = kind.Text; place = t.place; text = 34 ∷ 34 ∷ [] }
    else (if is_named (codes "__LINE__") t then record { kind = kind.Number; place = t.place; text = decimal t.place.line }
    else (if is_named (codes "NULL") t then record { kind = kind.Number; place = t.place; text = codes "0" } else t))

-- a word without the spaces and tabs that stand in a directive's head
abbrev pub shown : List ℕ → List ℕ
shown text = filter (λ b. not (is_space b)) text

-- the first macro with more than 1024 tokens
abbrev pub first_long : List (List Token) → Option (List Token)
first_long bodies = find (λ body. nat_lt 1024 (length body)) bodies

-- the answer for what is left: a macro is too long, or the tokens are too many, or they are these
unfoldable pub limited : Place → Option (List Token) → List Token → Result Tokens Refusal
limited end (Some body) words = Err (Limit Macro (capped (length body)))
limited end None words =
    if nat_lt 65536 (length words) then Err (Limit TokenCount (capped (length words)))
    else Ok (record { list = map meant words; end = end })

unfoldable pub supported : Place → Option Token → Option (List Token) → List Token → Result Tokens Refusal
supported end (Some t) long words = Err (Unsupported t.place (shown t.text))
supported end None long words = limited end long words

-- the answer for what is read
unfoldable pub tokens_read : Place → Reading → Result Tokens Refusal
tokens_read end r = supported end (find is_unsupported (kept r.words)) (first_long (bodies_of r.macros)) (kept r.words)

unfoldable pub tokens_of : Place → Result (List Segment) Place → Result Tokens Refusal
tokens_of end (Err p) = Err (BadByte p)
tokens_of end (Ok ss) = tokens_read end (read nothing_read ss)

-- The answer for a text: the first of these that holds. It is too long; a byte begins no piece; a word isn't supported;
-- a macro is too long; the tokens are too many; else the tokens.
unfoldable pub answer : List ℕ → Result Tokens Refusal
answer text =
    if nat_lt 1048576 (length text) then Err (Limit Text (capped (length text)))
    else tokens_of (behind beginning text) (all_segments text)

-- the result is the answer, unless memory is out
abbrev pub Gives : Result Tokens Refusal → Result Tokens Refusal → Type 0
Gives result a = (result ≡ Err OutOfMemory) ⊎ (result ≡ a)
