-- A reader that is fed in pieces.
use Rattle.std.specs.Prelude.{◌≡◌, ℕ, suc, ◌+◌, ◌≤◌, min, Bool, List, [], ◌∷◌, ◌++◌, length, Option, Some, None}
use Rattle.std.specs.List.{AllByRecursion}
use Rattle.line_text.specs.Lines.{IsLine, IsLongestRun, text_of, told}
use Rattle.line_text.specs.Words.{Cut, cut}
use Rattle.lemma_log.specs.declared.hints.HintedEntry.{HintedEntry}
use Rattle.log_text.specs.declared.stage.Stage.{Stage}
use Rattle.log_text.specs.Formats.{Row, Written}
use Rattle.log_text.specs.Machine.{head_of, hinted_of, read_lines, start, step}
use Rattle.log_text.specs.Spelling.{Spells, rows_of}

-- a reader as contracts see it: where it is, the number of the line that comes next, the bytes of the line that is not whole yet, the entries that were read and not yet given, and the line at which the text went wrong
pub record ReaderView : Type 0 where
  pub stage : Stage
  pub number : ℕ
  pub held : List ℕ
  pub ready : List HintedEntry
  pub fault : Option ℕ

-- a whole line stands at the front
pub record GoesOn (rest : List ℕ) : Type 0 where
  pub next : List ℕ
  pub more : List ℕ
  pub is_line : IsLine next
  pub goes_on : rest ≡ next ++ 10 ∷ more

-- the machine does not go on with the whole line at the front
abbrev pub StopsThere : Stage → List ℕ → Type 0
StopsThere s rest = (p : Cut) → cut 10 rest ≡ Some p → step s p.front ≡ None

-- The reader was fed these bytes and gave these entries. It has read the longest run of whole lines with which some spelling begins, and holds what stands behind them, unless a whole line stands there, at which the bytes go wrong.
pub record HasRead (plain_only : Bool) (r : ReaderView) (fed : List ℕ) (given : List Row) : Type 0 where
  pub lines : List (List ℕ)
  pub rest : List ℕ
  pub run : IsLongestRun (Spells plain_only) fed lines rest
  pub read : read_lines (start plain_only) lines ≡ Some (record { stage = r.stage; rows = given ++ rows_of r.ready })
  pub number : r.number ≡ told (suc (length lines))
  pub held : r.fault ≡ None → (r.held ≡ rest) × IsLine rest
  pub fault : (line : ℕ) → r.fault ≡ Some line → (line ≡ r.number) × GoesOn rest

-- From where it is, a reader with no fault has read the whole lines at the front of these bytes, up to one with which it does not go on, and holds the others.
pub record HasReadOn (old new : ReaderView) (bytes : List ℕ) : Type 0 where
  pub lines : List (List ℕ)
  pub rest : List ℕ
  pub fresh : List HintedEntry
  pub all : bytes ≡ text_of lines ++ rest
  pub whole : AllByRecursion IsLine lines
  pub read : read_lines (record { stage = old.stage; rows = [] }) lines ≡ Some (record { stage = new.stage; rows = rows_of fresh })
  pub ready : new.ready ≡ old.ready ++ fresh
  pub number : old.number ≤ 4294967295 → new.number ≡ min (old.number + length lines) 4294967295
  pub held : new.fault ≡ None → (new.held ≡ rest) × IsLine rest
  pub fault : (line : ℕ) → new.fault ≡ Some line → (line ≡ new.number) × GoesOn rest × StopsThere new.stage rest

-- The entries given and left are those of this log.
pub record Tells (r : ReaderView) (given : List Row) (w : Written) : Type 0 where
  pub rows : w.rows ≡ given ++ rows_of r.ready
  pub head : head_of r.stage ≡ Some w.head
  pub hinted : hinted_of r.stage ≡ Some w.hinted
