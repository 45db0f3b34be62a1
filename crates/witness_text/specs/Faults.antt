-- What a fault says of a text.
use Rattle.std.specs.Prelude.{ℕ, List}
use Rattle.witness_text.specs.declared.reading.WitnessFault.{WitnessFault}
use Rattle.witness_text.specs.declared.reading.WitnessFault.TheVariants.{WitnessText, OutOfMemory}
use Rattle.line_text.specs.Lines.{Refuses}
use Rattle.witness_text.specs.Spelling.{Spells}

-- only want of memory has no cause in the text
abbrev pub IsFaultOf : List (List ℕ) → List (List ℕ) → List ℕ → WitnessFault → Type 0
IsFaultOf functions cells text (WitnessText line) = Refuses (Spells functions cells) text line
IsFaultOf functions cells text OutOfMemory = Unit {0}
