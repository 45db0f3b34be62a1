-- What contracts see of the values that borrow the text.
use Rattle.std.specs.Prelude.{◌≡◌, List, map, Result, Ok, Err}
use Rattle.dg_base.specs.declared.Place.{Place}
use Rattle.token_list.specs.declared.Token.{Token}
use Rattle.c_token.specs.declared.words.Word.{Word}
use Rattle.c_token.specs.declared.segments.Part.{Part}
use Rattle.c_token.specs.declared.segments.Stuck.{Stuck}
use Rattle.c_token.specs.declared.segments.Stuck.TheVariants.{BadByte, OutOfMemory}
use Rattle.c_token.specs.Pieces.{Segment}

-- a part with the bytes that it borrows
abbrev pub segment : Part → Segment
segment part = record { piece = part.piece; place = part.place; text = part.text.now }

-- a word with the bytes that it borrows
abbrev pub token : Word → Token
token word = record { kind = word.kind; place = word.place; text = word.text.now }

-- the parts are these segments, or the bad byte stands at this place, unless memory is out
abbrev pub GivesSegments : Result (List Part) Stuck → Result (List Segment) Place → Type 0
GivesSegments (Ok parts) r = r ≡ Ok (map segment parts)
GivesSegments (Err (BadByte p)) r = r ≡ Err p
GivesSegments (Err OutOfMemory) r = Unit {0}
