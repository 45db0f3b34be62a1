-- What a run of the machine over whole lines has taken.
use Rattle.std.specs.Prelude.{◌≡◌, ℕ, ◌+◌, ◌≤◌, min, Bool, true, false, List, ◌∷◌, ◌++◌, length, Some, None}
use Rattle.std.specs.List.{AllByRecursion}
use Rattle.line_text.specs.Lines.{IsLine, text_of}
use Rattle.log_text.specs.declared.run.Run.{Run}
use Rattle.log_text.specs.Machine.{Reading, read_line, read_lines, step}
use Rattle.log_text.specs.Spelling.{rows_of}

-- where a run is, and the entries that its lines gave
abbrev pub reading_of : Run → Reading
reading_of r = record { stage = r.stage; rows = rows_of r.fresh.items }

-- one line was read
pub record HasTaken (old new : Run) (line : List ℕ) : Type 0 where
  pub read : read_line (reading_of old) line ≡ Some (reading_of new)
  pub counted : new.number ≡ min (old.number + 1) 4294967295

-- the run is where it was, and does not go on with this line
pub record StopsAt (old new : Run) (line : List ℕ) : Type 0 where
  pub stops : step old.stage line ≡ None
  pub same : new ≡ old

-- the whole lines at the front of the bytes were read, and the others are left
pub record HasTakenLines (old new : Run) (bytes rest : List ℕ) : Type 0 where
  pub lines : List (List ℕ)
  pub all : bytes ≡ text_of lines ++ rest
  pub whole : AllByRecursion IsLine lines
  pub read : read_lines (reading_of old) lines ≡ Some (reading_of new)
  pub counted : old.number ≤ 4294967295 → new.number ≡ min (old.number + length lines) 4294967295

-- a whole line is left, with which the run does not go on
pub record StopsBefore (new : Run) (rest : List ℕ) : Type 0 where
  pub next : List ℕ
  pub more : List ℕ
  pub is_line : IsLine next
  pub goes_on : rest ≡ next ++ 10 ∷ more
  pub stops : step new.stage next ≡ None

-- the run has stopped, or no whole line is left
abbrev pub IsDone : Bool → Run → List ℕ → Type 0
IsDone true new rest = StopsBefore new rest
IsDone false new rest = IsLine rest
