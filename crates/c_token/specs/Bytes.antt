-- Kinds of bytes, and how long the names, numbers, texts, marks and comments at the front of a text are.
use Rattle.std.specs.Prelude.{ℕ, ◌+◌, ◌-◌, ◌^◌, Bool, false, not, ◌&&◌, ◌||◌, ◌==◌, nat_eq, nat_le, min, if◌then◌else◌, List, [], ◌∷◌, length, Option, Some, None, codes}
use Rattle.std.specs.List.{prefix_len, starts_with}

-- space, tab, line feed, vertical tab, form feed, carriage return
abbrev pub is_blank : ℕ → Bool
is_blank b = (b == 32) || (nat_le 9 b && nat_le b 13)

abbrev pub is_line_feed : ℕ → Bool
is_line_feed b = b == 10

-- what stands in a line
abbrev pub is_in_line : ℕ → Bool
is_in_line b = not (b == 10)

-- a blank within a line
abbrev pub is_gap : ℕ → Bool
is_gap b = is_blank b && is_in_line b

-- space or tab
abbrev pub is_space : ℕ → Bool
is_space b = (b == 32) || (b == 9)

abbrev pub is_digit : ℕ → Bool
is_digit b = nat_le 48 b && nat_le b 57

-- an ASCII letter, or `_`
abbrev pub is_letter : ℕ → Bool
is_letter b = (nat_le 65 b && nat_le b 90) || (nat_le 97 b && nat_le b 122) || (b == 95)

-- what may stand in a name behind its first byte
abbrev pub is_name_byte : ℕ → Bool
is_name_byte b = is_letter b || is_digit b

-- what may stand in a number behind its first byte
abbrev pub is_number_byte : ℕ → Bool
is_number_byte b = is_name_byte b || (b == 46)

-- whether a text begins with this byte
abbrev pub starts : ℕ → List ℕ → Bool
starts b [] = false
starts b (c ∷ cs) = c == b

-- the length of the name at the front, or 0
abbrev pub name_len : List ℕ → ℕ
name_len [] = 0
name_len (b ∷ bs) = if is_letter b then 1 + prefix_len is_name_byte bs else 0

-- Where a quoted text ends, of which n bytes are passed and these follow: behind the next `"` that no backslash stands
-- before. A line feed ends the search.
abbrev pub quoted_end : Bool → ℕ → List ℕ → Option ℕ
quoted_end escaped n [] = None
quoted_end escaped n (b ∷ bs) =
    if b == 10 then None
    else (if escaped then quoted_end false (n + 1) bs
    else (if b == 34 then Some (n + 1)
    else quoted_end (b == 92) (n + 1) bs))

-- where a comment ends, of which n bytes are passed and these follow: behind the next `*/`
abbrev pub comment_end : ℕ → List ℕ → Option ℕ
comment_end n [] = None
comment_end n (b ∷ bs) = if b == 42 && starts 47 bs then Some (n + 2) else comment_end (n + 1) bs

-- each mark stands before those that it begins with
abbrev pub marks : List (List ℕ)
marks =
    codes "<<=" ∷ codes ">>=" ∷ codes "++" ∷ codes "--" ∷ codes "<<" ∷ codes ">>" ∷ codes "<=" ∷ codes ">=" ∷ codes "==" ∷ codes "!="
    ∷ codes "&&" ∷ codes "||" ∷ codes "+=" ∷ codes "-=" ∷ codes "*=" ∷ codes "/=" ∷ codes "%=" ∷ codes "&=" ∷ codes "|=" ∷ codes "^="
    ∷ codes "+" ∷ codes "-" ∷ codes "*" ∷ codes "/" ∷ codes "%" ∷ codes "<" ∷ codes ">" ∷ codes "!" ∷ codes "~" ∷ codes "&" ∷ codes "|"
    ∷ codes "^" ∷ codes "=" ∷ codes "?" ∷ codes ":" ∷ codes ";" ∷ codes "," ∷ codes "." ∷ codes "(" ∷ codes ")" ∷ codes "[" ∷ codes "]"
    ∷ codes "{" ∷ codes "}" ∷ []

-- the length of the first of these words that stands at the front of a text
abbrev pub first_front : List (List ℕ) → List ℕ → Option ℕ
first_front [] text = None
first_front (w ∷ ws) text = if starts_with nat_eq text w then Some (length w) else first_front ws text

-- the length of the longest mark at the front of a text
unfoldable pub mark_len : List ℕ → Option ℕ
mark_len text = first_front marks text

-- a count as refusals give it
abbrev pub capped : ℕ → ℕ
capped n = min n (2 ^ 32 - 1)
