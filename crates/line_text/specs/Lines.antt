-- Texts of lines: which values have a text, and where a text that spells no value goes wrong. A kind of text is told by its
-- spellings, `Spells value text`.
use Rattle.std.specs.Prelude.{◌≡◌, ℕ, suc, min, true, List, [], ◌∷◌, ◌++◌, length, flat_map}
use Rattle.std.specs.List.{AllByRecursion}
use Rattle.line_text.specs.Words.{lacks}

-- lines as bytes: a line feed ends each
abbrev pub text_of : List (List ℕ) → List ℕ
text_of lines = flat_map (λ line. line ++ 10 ∷ []) lines

-- a line holds no line feed
abbrev pub IsLine : List ℕ → Type 0
IsLine line = lacks 10 line ≡ true

-- some spelling begins with these lines
pub record Begins {V : Type 0} (Spells : V → List ℕ → Type 0) (lines : List (List ℕ)) : Type 0 where
  pub value : V
  pub more : List ℕ
  pub spelled : Spells value (text_of lines ++ more)

-- The longest run of whole lines at the front of the text with which some spelling begins.
pub record IsLongestRun {V : Type 0} (Spells : V → List ℕ → Type 0) (text : List ℕ) (lines : List (List ℕ)) (rest : List ℕ) : Type 0 where
  pub all : text ≡ text_of lines ++ rest
  pub whole : AllByRecursion IsLine lines
  pub begins : Begins Spells lines
  pub ends : (line more : List ℕ) → IsLine line → rest ≡ line ++ 10 ∷ more → Begins Spells (lines ++ line ∷ []) → ⊥

-- a number that needs more than 32 bits is told as the greatest one
abbrev pub told : ℕ → ℕ
told n = min n 4294967295

-- The text spells no value, and this is the number of the line behind the longest run, from 1.
pub record Refuses {V : Type 0} (Spells : V → List ℕ → Type 0) (text : List ℕ) (line : ℕ) : Type 0 where
  pub none : (v : V) → Spells v text → ⊥
  pub lines : List (List ℕ)
  pub rest : List ℕ
  pub run : IsLongestRun Spells text lines rest
  pub number : line ≡ told (suc (length lines))

-- No spelling begins with the whole lines of the text, and this is the number of the first line at which this is so.
pub record RefusesLines {V : Type 0} (Spells : V → List ℕ → Type 0) (text : List ℕ) (line : ℕ) : Type 0 where
  pub refuses : Refuses Spells text line
  pub next : List ℕ
  pub more : List ℕ
  pub is_line : IsLine next
  pub goes_on : refuses.rest ≡ next ++ 10 ∷ more

-- The whole lines of the text, with which some spelling begins, and what stands behind the last of them.
pub record BeginsWhole {V : Type 0} (Spells : V → List ℕ → Type 0) (text : List ℕ) : Type 0 where
  pub lines : List (List ℕ)
  pub rest : List ℕ
  pub all : text ≡ text_of lines ++ rest
  pub whole : AllByRecursion IsLine lines
  pub last : IsLine rest
  pub begins : Begins Spells lines

-- a text spells at most one value
abbrev pub OneValue : {V : Type 0} → (V → List ℕ → Type 0) → Type 0
OneValue {V} Spells = (text : List ℕ) (v w : V) → Spells v text → Spells w text → v ≡ w

-- no spelling is a proper prefix of another
abbrev pub NoProperPrefix : {V : Type 0} → (V → List ℕ → Type 0) → Type 0
NoProperPrefix {V} Spells = (text more : List ℕ) (v w : V) → Spells v text → Spells w (text ++ more) → more ≡ []

-- a text that spells no value goes wrong at one line
abbrev pub OneFault : {V : Type 0} → (V → List ℕ → Type 0) → Type 0
OneFault {V} Spells = (text : List ℕ) (a b : ℕ) → Refuses Spells text a → Refuses Spells text b → a ≡ b
