-- What the readings of words are worth.
use Rattle.std.specs.Prelude.{◌≡◌, ◌↔◌, ℕ, true, List, Some, None}
use Rattle.line_text.specs.Words.{Cut, IsDecimal, IsParted, cut, lacks, number_in}

-- a text is cut exactly at its first such byte, and isn't cut exactly where it lacks the byte
abbrev pub CutsAtFirst : Type 0
CutsAtFirst =
    (b : ℕ) (text : List ℕ) → ((p : Cut) → (cut b text ≡ Some p) ↔ IsParted b text p) × ((cut b text ≡ None) ↔ (lacks b text ≡ true))

-- a number is read exactly where the text is its decimal digits
abbrev pub ReadsDecimals : Type 0
ReadsDecimals = (text : List ℕ) (n : ℕ) → (number_in text ≡ Some n) ↔ IsDecimal text n
