-- What holds of all texts of logs, and of a reader between pieces.
use Rattle.std.specs.Prelude.{ℕ, ◌<◌, ◌↔◌, IsNone, Bool, List, length}
use Rattle.line_text.specs.Lines.{NoProperPrefix, OneValue}
use Rattle.log_text.specs.Fed.{HasRead, ReaderView}
use Rattle.log_text.specs.Formats.{Row}
use Rattle.log_text.specs.Machine.{head_of, hinted_of}
use Rattle.cnf_problem.specs.declared.problem.Head.{Head}
use Rattle.lemma_log.specs.declared.hints.AnyLog.{AnyLog}
use Rattle.log_text.specs.Spelling.{CanBePrinted, Spells, written}

-- a text spells at most one log
abbrev pub OneLog : Type 0
OneLog = (plain_only : Bool) → OneValue (Spells plain_only)

-- no spelling is a proper prefix of another, of either format
abbrev pub NoLogProperPrefix : Type 0
NoLogProperPrefix = (plain_only : Bool) → NoProperPrefix (Spells plain_only)

-- the head is known behind seven lines, and the format behind one
abbrev pub KnownBehind : Type 0
KnownBehind =
    (plain_only : Bool) (r : ReaderView) (fed : List ℕ) (given : List Row) (h : HasRead plain_only r fed given)
    → (IsNone (head_of r.stage) ↔ (length h.lines < 7)) × (IsNone (hinted_of r.stage) ↔ (length h.lines < 1))

-- what was read can be printed
abbrev pub ReadCanBePrinted : Type 0
ReadCanBePrinted = (plain_only : Bool) (head : Head) (log : AnyLog) (text : List ℕ) → Spells plain_only (written head log) text → CanBePrinted head log
