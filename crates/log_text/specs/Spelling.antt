-- Which logs have a text, and which text spells which.
use Rattle.std.specs.Prelude.{◌≡◌, ⊤, ℕ, ◌+◌, ◌≤◌, ◌<◌, ◌^◌, Bool, true, false, List, [], ◌∷◌, All, Option, Some, None, length, map}
use Rattle.std.specs.List.{AllByRecursion}
use Rattle.std.specs.List.Sorted.{IsStrictlyIncreasing}
use Rattle.cnf_problem.specs.Literals.{IsOver, var}
use Rattle.cnf_problem.specs.declared.problem.Head.{Head}
use Rattle.cnf_problem.specs.declared.problem.LemmaKind.TheVariants.{Cycle}
use Rattle.lemma_log.specs.declared.Entry.{Entry}
use Rattle.lemma_log.specs.declared.hints.Hint.{Hint}
use Rattle.lemma_log.specs.declared.hints.Hint.TheVariants.{Clause, Ticket}
use Rattle.lemma_log.specs.declared.hints.HintedEntry.{HintedEntry}
use Rattle.lemma_log.specs.declared.hints.AnyLog.{AnyLog}
use Rattle.lemma_log.specs.declared.hints.AnyLog.TheVariants.{Plain, Hinted}
use Rattle.log_text.specs.Formats.{Row, Written, log_text}

-- ---- logs as what a text tells

abbrev pub row_of : Entry → List Hint → Row
row_of e hints = record { ticket = e.ticket; worker = e.worker; kind = e.lemma.kind; lits = e.lemma.lits; hints = hints }

abbrev pub plain_rows : List Entry → List Row
plain_rows entries = map (λ e. row_of e []) entries

abbrev pub hinted_rows : List Entry → List (List Hint) → List Row
hinted_rows [] hints = []
hinted_rows (e ∷ entries) [] = row_of e [] ∷ hinted_rows entries []
hinted_rows (e ∷ entries) (hs ∷ hints) = row_of e hs ∷ hinted_rows entries hints

abbrev pub entry_row : HintedEntry → Row
entry_row e = row_of e.entry e.hints

abbrev pub rows_of : List HintedEntry → List Row
rows_of entries = map entry_row entries

-- what was given, as a list
abbrev pub rows_given : Option (Entry × List Hint) → List Row
rows_given None = []
rows_given (Some p) = row_of p.0 p.1 ∷ []

abbrev pub written : Head → AnyLog → Written
written head (Plain log) = record { hinted = false; head = head; rows = plain_rows log.entries }
written head (Hinted h) = record { hinted = true; head = head; rows = hinted_rows h.log.entries h.hints }

-- ---- what can be written

-- a number has 32 bits
abbrev pub IsNumber : ℕ → Type 0
IsNumber n = n < 2 ^ 32

abbrev pub IsHintFromOne : Hint → Type 0
IsHintFromOne (Clause n) = 1 ≤ n
IsHintFromOne (Ticket n) = ⊤

pub record HasHead (h : Head) : Type 0 where
  pub model : h.model ≤ 2
  pub unroll : IsNumber h.unroll
  pub vars : IsNumber h.vars
  pub clauses : IsNumber h.clauses
  pub nodes : IsNumber h.nodes
  pub atoms : IsNumber h.atoms

-- the problem's clauses count from 1
abbrev pub IsHintWritten : Hint → Type 0
IsHintWritten (Clause n) = (1 ≤ n) × IsNumber n
IsHintWritten (Ticket n) = IsNumber n

-- a worker from 0 to 15, literals of variables from 1 on that rise, and hints only where the text has them and the lemma is by unit propagation
pub record IsRowWritten (hinted : Bool) (r : Row) : Type 0 where
  pub worker : r.worker < 16
  pub literals : AllByRecursion (IsOver 2147483647) r.lits
  pub rising : IsStrictlyIncreasing (map var r.lits)
  pub hints : AllByRecursion IsHintWritten r.hints
  pub plain : hinted ≡ false → r.hints ≡ []
  pub cycle : r.kind ≡ Cycle → r.hints ≡ []

-- the tickets are 0, 1, 2 and so on, from this one
abbrev pub AreInTurn : ℕ → List Row → Type 0
AreInTurn next [] = ⊤
AreInTurn next (r ∷ rows) = (r.ticket ≡ next) × AreInTurn (next + 1) rows

pub record IsWritable (w : Written) : Type 0 where
  pub head : HasHead w.head
  pub few : length w.rows < 2 ^ 32
  pub in_turn : AreInTurn 0 w.rows
  pub rows : AllByRecursion (IsRowWritten w.hinted) w.rows

-- the text is that of this log; the format without hints may be the only one that counts
pub record Spells (plain_only : Bool) (w : Written) (text : List ℕ) : Type 0 where
  pub writable : IsWritable w
  pub format : plain_only ≡ true → w.hinted ≡ false
  pub spelled : text ≡ log_text w

-- ---- what the calls that write ask for

-- an entry of this worker and these variables can be written
pub record IsEntryWritable (e : Entry) : Type 0 where
  pub worker : e.worker < 16
  pub variables : All (λ l. 1 ≤ var l) e.lemma.lits

pub record IsLogWritable (head : Head) (entries : List Entry) : Type 0 where
  pub model : head.model ≤ 2
  pub entries_can : All IsEntryWritable entries

-- the hints name the problem's clauses from 1
abbrev pub AreHintsWritable : List (List Hint) → Type 0
AreHintsWritable hints = All (All IsHintFromOne) hints

abbrev pub CanBePrinted : Head → AnyLog → Type 0
CanBePrinted head (Plain log) = IsLogWritable head log.entries
CanBePrinted head (Hinted h) = IsLogWritable head h.log.entries × AreHintsWritable h.hints
