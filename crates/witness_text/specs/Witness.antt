-- The text of a candidate: lines of words, with the names of functions and cells in place of their numbers. A line feed is 10,
-- a blank 32, a dot 46.
use Rattle.std.specs.Prelude.{ℕ, ◌+◌, List, [], ◌∷◌, ◌++◌, map, slice_get, codes, decimal, flat_map, Option, Some, None}
use Rattle.line_text.specs.Lines.{text_of}
use Rattle.line_text.specs.Words.{shown}
use Rattle.axiom_model.specs.declared.Event.{Event}
use Rattle.axiom_model.specs.declared.Event.TheVariants.{Initial, At}
use Rattle.axiom_model.specs.declared.RfPair.{RfPair}
use Rattle.axiom_model.specs.declared.ThreadPart.{ThreadPart}
use Rattle.axiom_model.specs.declared.Candidate.{Candidate}

-- the name with this number
abbrev pub some_name : Option (List ℕ) → List ℕ
some_name None = []
some_name (Some name) = name

abbrev pub name_at : List (List ℕ) → ℕ → List ℕ
name_at names i = some_name (slice_get names i)

abbrev pub event_text : Event → List ℕ
event_text Initial = codes "init"
event_text (At h i) = decimal h ++ 46 ∷ decimal i

-- each behind one blank
abbrev pub numbers_text : List ℕ → List ℕ
numbers_text vs = shown decimal vs

abbrev pub events_text : List Event → List ℕ
events_text es = shown event_text es

-- `thread H NAME ARG`
abbrev pub thread_line : List (List ℕ) → ℕ → ℕ → ℕ → List ℕ
thread_line functions handle function arg = codes "thread " ++ (decimal handle ++ 32 ∷ (name_at functions function ++ 32 ∷ decimal arg))

-- `script` with its numbers
abbrev pub script_line : List ℕ → List ℕ
script_line script = codes "script" ++ numbers_text script

abbrev pub thread_lines : List (List ℕ) → ThreadPart → List (List ℕ)
thread_lines functions p = thread_line functions p.handle p.function p.arg ∷ script_line p.script ∷ []

-- `rf H.I H.I` or `rf H.I init`
abbrev pub rf_line : RfPair → List ℕ
rf_line p = codes "rf " ++ (event_text p.reader ++ 32 ∷ event_text p.source)

-- `co CELL` with the events of its order
abbrev pub co_line : List ℕ → List Event → List ℕ
co_line cell es = codes "co " ++ (cell ++ events_text es)

-- cell by cell from this number on
abbrev pub co_lines : List (List ℕ) → ℕ → List (List Event) → List (List ℕ)
co_lines cells i [] = []
co_lines cells i (es ∷ rest) = co_line (name_at cells i) es ∷ co_lines cells (i + 1) rest

abbrev pub first_line : List ℕ
first_line = codes "deagle-witness 1"

abbrev pub last_line : List ℕ
last_line = codes "end"

abbrev pub witness_lines : List (List ℕ) → List (List ℕ) → Candidate → List (List ℕ)
witness_lines functions cells c =
    first_line ∷ (flat_map (thread_lines functions) c.threads ++ (map rf_line c.rf ++ (co_lines cells 0 c.co ++ last_line ∷ [])))

abbrev pub witness_text : List (List ℕ) → List (List ℕ) → Candidate → List ℕ
witness_text functions cells c = text_of (witness_lines functions cells c)
