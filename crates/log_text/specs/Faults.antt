-- What a fault says of a text: only want of memory has no cause in it.
use Rattle.std.specs.Prelude.{◌≡◌, ℕ, Bool, List, Option, Some}
use Rattle.line_text.specs.Lines.{Refuses, RefusesLines}
use Rattle.log_text.specs.declared.reading.LogFault.{LogFault}
use Rattle.log_text.specs.declared.reading.LogFault.TheVariants.{LogText, OutOfMemory}
use Rattle.log_text.specs.Spelling.{Spells}

-- the whole text goes wrong
abbrev pub IsFaultOf : Bool → List ℕ → LogFault → Type 0
IsFaultOf plain_only text (LogText line) = Refuses (Spells plain_only) text line
IsFaultOf plain_only text OutOfMemory = Unit {0}

-- the whole lines of the bytes go wrong
abbrev pub IsFaultOfLines : Bool → List ℕ → LogFault → Type 0
IsFaultOfLines plain_only fed (LogText line) = RefusesLines (Spells plain_only) fed line
IsFaultOfLines plain_only fed OutOfMemory = Unit {0}

-- the line of a fault is kept
abbrev pub IsKept : Option ℕ → LogFault → Type 0
IsKept kept (LogText line) = kept ≡ Some line
IsKept kept OutOfMemory = Unit {0}
