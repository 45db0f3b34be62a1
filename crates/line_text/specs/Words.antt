-- Reading the words of a line.
use Rattle.std.specs.Prelude.{◌≡◌, ℕ, ◌+◌, ◌-◌, ◌*◌, ◌^◌, ◌<◌, Bool, true, false, ◌&&◌, ◌==◌, bytes_eq, nat_le, nat_lt, if◌then◌else◌, List, [], ◌∷◌, ◌++◌, length, take, drop, decimal, flat_map, Option, Some, None}
use Rattle.std.specs.List.{position, position_or_len}

-- what follows from a value
abbrev pub given : {A B : Type 0} → Option A → (A → Option B) → Option B
given None f = None
given (Some x) f = f x

-- what stands behind this front
abbrev pub strip : List ℕ → List ℕ → Option (List ℕ)
strip front text = if bytes_eq (take (length front) text) front then Some (drop (length front) text) else None

-- whether a byte does not stand in a text
abbrev pub lacks : ℕ → List ℕ → Bool
lacks b [] = true
lacks b (x ∷ xs) = if x == b then false else lacks b xs

-- how many bytes stand before the first such byte, or all where there is none
abbrev pub place : ℕ → List ℕ → ℕ
place b text = position_or_len (λ x. x == b) text

-- what stands before the first such byte, and what stands behind it
pub record Cut : Type 0 where
  pub front : List ℕ
  pub behind : List ℕ

abbrev pub cut : ℕ → List ℕ → Option Cut
cut b text = given (position (λ x. x == b) text) (λ i. Some (record { front = take i text; behind = drop (i + 1) text }))

-- the parts stand round the first such byte
pub record IsParted (b : ℕ) (text : List ℕ) (p : Cut) : Type 0 where
  pub parts : text ≡ p.front ++ b ∷ p.behind
  pub front : lacks b p.front ≡ true

-- decimal digits behind digits with the value n, as long as the value has 32 bits
abbrev pub digits_from : ℕ → List ℕ → Option ℕ
digits_from n [] = Some n
digits_from n (b ∷ bs) = if (nat_le 48 b && nat_le b 57) && nat_lt (n * 10 + (b - 48)) (2 ^ 32) then digits_from (n * 10 + (b - 48)) bs else None

-- a number with no zero in front
abbrev pub number_in : List ℕ → Option ℕ
number_in [] = None
number_in (b ∷ []) = digits_from 0 (b ∷ [])
number_in (b ∷ c ∷ cs) = if b == 48 then None else digits_from 0 (b ∷ c ∷ cs)

-- the text is a number's decimal digits, and the number has 32 bits
pub record IsDecimal (text : List ℕ) (n : ℕ) : Type 0 where
  pub digits : text ≡ decimal n
  pub small : n < 2 ^ 32

-- the word at the front
abbrev pub front_word : List ℕ → List ℕ
front_word text = take (place 32 text) text

-- the word behind the blank that the text begins with, and the rest from the next blank on
abbrev pub next_word : List ℕ → Option Cut
next_word [] = None
next_word (x ∷ xs) = if x == 32 then Some (record { front = front_word xs; behind = drop (place 32 xs) xs }) else None

-- the words behind the blanks of a text
abbrev pub words_behind : List ℕ → List (List ℕ)
words_behind [] = []
words_behind (x ∷ xs) = if x == 32 then front_word xs ∷ words_behind xs else words_behind xs

-- each word is read
abbrev pub read_all : {A : Type 0} → (List ℕ → Option A) → List (List ℕ) → Option (List A)
read_all read [] = Some []
read_all read (w ∷ ws) = given (read w) (λ v. given (read_all read ws) (λ vs. Some (v ∷ vs)))

-- words, each behind one blank
abbrev pub words_in : {A : Type 0} → (List ℕ → Option A) → List ℕ → Option (List A)
words_in read [] = Some []
words_in read (x ∷ xs) = if x == 32 then read_all read (front_word xs ∷ words_behind xs) else None

-- values as words, each behind one blank
abbrev pub shown : {A : Type 0} → (A → List ℕ) → List A → List ℕ
shown show vs = flat_map (λ v. 32 ∷ show v) vs

-- nothing, or a blank in front
abbrev pub opens : List ℕ → Bool
opens [] = true
opens (x ∷ xs) = x == 32
