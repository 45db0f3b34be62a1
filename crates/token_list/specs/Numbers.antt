-- The value of a number.
use Rattle.std.specs.Prelude.{ℕ, ◌+◌, ◌-◌, ◌*◌, ◌^◌, Bool, true, false, ◌&&◌, ◌||◌, ◌==◌, nat_le, nat_lt, if◌then◌else◌, List, [], ◌∷◌, length, take, slice_index, Option, Some, None}

-- the value of a digit, decimal or hexadecimal, or 16
abbrev pub digit_of : ℕ → ℕ
digit_of b =
    if nat_le 48 b && nat_le b 57 then b - 48
    else (if nat_le 97 b && nat_le b 102 then b - 87 else (if nat_le 65 b && nat_le b 70 then b - 55 else 16))

-- the value of digits to a base that follow a number's first ones, which have the value n; none where one is no digit
abbrev pub value_from : ℕ → ℕ → List ℕ → Option ℕ
value_from base n [] = Some n
value_from base n (b ∷ bs) = if nat_lt (digit_of b) base then value_from base (n * base + digit_of b) bs else None

abbrev pub value_of : ℕ → List ℕ → Option ℕ
value_of base [] = None
value_of base (b ∷ bs) = value_from base 0 (b ∷ bs)

abbrev pub below : ℕ → Option ℕ → Option ℕ
below limit None = None
below limit (Some n) = if nat_lt n limit then Some n else None

-- a decimal number without a `u` has to stay below 2 ^ 31
abbrev pub decimal_limit : Bool → ℕ
decimal_limit u = if u then 2 ^ 32 else 2 ^ 31

-- the value of a number without its `u`
abbrev pub plain_value : Bool → List ℕ → Option ℕ
plain_value u [] = None
plain_value u (b ∷ []) = below (decimal_limit u) (value_of 10 (b ∷ []))
plain_value u (b ∷ c ∷ cs) =
    if b == 48 then below (2 ^ 32) (if (c == 120) || (c == 88) then value_of 16 cs else value_of 8 (c ∷ cs))
    else below (decimal_limit u) (value_of 10 (b ∷ c ∷ cs))

abbrev pub is_u : ℕ → Bool
is_u b = (b == 117) || (b == 85)

-- whether a text ends in `u` or `U`
abbrev pub ends_in_u : List ℕ → Bool
ends_in_u text = is_u (slice_index text (length text - 1))

-- the value of a number that is supported
unfoldable pub number_value : List ℕ → Option ℕ
number_value text = if ends_in_u text then plain_value true (take (length text - 1) text) else plain_value false text

-- whether a number with this text and value is unsigned
abbrev pub is_unsigned : List ℕ → ℕ → Bool
is_unsigned text n = ends_in_u text || nat_le (2 ^ 31) n
