-- The reader of logs as a machine over lines: one step for each line, which may give an entry.
use Rattle.std.specs.Prelude.{ℕ, ◌+◌, Bool, true, false, not, ◌&&◌, if◌then◌else◌, bytes_eq, List, [], ◌∷◌, ◌++◌, codes, Option, Some, None}
use Rattle.cnf_problem.specs.declared.problem.Head.{Head}
use Rattle.line_text.specs.Words.{given, number_in, strip}
use Rattle.log_text.specs.declared.stage.HeadLine.{HeadLine}
use Rattle.log_text.specs.declared.stage.HeadLine.TheVariants.{Model, Unroll, Vars, Clauses, Nodes, Atoms}
use Rattle.log_text.specs.declared.stage.Stage.{Stage}
use Rattle.log_text.specs.declared.stage.Stage.TheVariants.{Format, InHead, Body, End}
use Rattle.log_text.specs.Formats.{Row, first_line, last_line}
use Rattle.log_text.specs.Lines.{model_in, row_in}

-- the head before its lines were read
abbrev pub no_head : Head
no_head = record { model = 0; unroll = 0; vars = 0; clauses = 0; nodes = 0; atoms = 0 }

-- the number behind a name
abbrev pub named : List ℕ → List ℕ → Option ℕ
named name line = given (strip name line) number_in

abbrev pub model_in_line : List ℕ → Option ℕ
model_in_line line = given (strip (codes "model ") line) model_in

-- the head with one line more
abbrev pub head_with : HeadLine → Head → List ℕ → Option Head
head_with Model h line = given (model_in_line line) (λ n. Some (record h { model = n }))
head_with Unroll h line = given (named (codes "unroll ") line) (λ n. Some (record h { unroll = n }))
head_with Vars h line = given (named (codes "vars ") line) (λ n. Some (record h { vars = n }))
head_with Clauses h line = given (named (codes "clauses ") line) (λ n. Some (record h { clauses = n }))
head_with Nodes h line = given (named (codes "nodes ") line) (λ n. Some (record h { nodes = n }))
head_with Atoms h line = given (named (codes "atoms ") line) (λ n. Some (record h { atoms = n }))

-- the line of the head behind this one; behind the last one entries come
abbrev pub behind : Bool → HeadLine → Head → Stage
behind hinted Model h = InHead hinted Unroll h
behind hinted Unroll h = InHead hinted Vars h
behind hinted Vars h = InHead hinted Clauses h
behind hinted Clauses h = InHead hinted Nodes h
behind hinted Nodes h = InHead hinted Atoms h
behind hinted Atoms h = Body hinted h 0

abbrev pub on_format : Bool → List ℕ → Option Stage
on_format plain_only line =
    if bytes_eq line (first_line false) then Some (InHead false Model no_head)
    else (if bytes_eq line (first_line true) && not plain_only then Some (InHead true Model no_head) else None)

-- where a line that gives no entry leads
abbrev pub next_stage : Stage → List ℕ → Option Stage
next_stage (Format plain_only) line = on_format plain_only line
next_stage (InHead hinted at h) line = given (head_with at h line) (λ g. Some (behind hinted at g))
next_stage (Body hinted h next) line = if bytes_eq line last_line then Some (End hinted h) else None
next_stage (End hinted h) line = None

-- where a line leads, and the entry that it gives
pub record Step : Type 0 where
  pub stage : Stage
  pub gives : Option Row

abbrev pub silent : Stage → Option Step
silent s = Some (record { stage = s; gives = None })

-- the line of an entry
abbrev pub on_entry : Stage → List ℕ → Option Step
on_entry (Body hinted h next) line = given (row_in hinted next line) (λ r. Some (record { stage = Body hinted h (next + 1); gives = Some r }))
on_entry s line = None

abbrev pub or_entry : Stage → List ℕ → Option Stage → Option Step
or_entry s line (Some t) = silent t
or_entry s line None = on_entry s line

abbrev pub step : Stage → List ℕ → Option Step
step s line = or_entry s line (next_stage s line)

-- where the lines lead, and the entries that they gave
pub record Reading : Type 0 where
  pub stage : Stage
  pub rows : List Row

abbrev pub with_row : List Row → Option Row → List Row
with_row rows None = rows
with_row rows (Some r) = rows ++ r ∷ []

abbrev pub read_line : Reading → List ℕ → Option Reading
read_line g line = given (step g.stage line) (λ s. Some (record { stage = s.stage; rows = with_row g.rows s.gives }))

abbrev pub start : Bool → Reading
start plain_only = record { stage = Format plain_only; rows = [] }

-- all lines in turn
abbrev pub read_lines : Reading → List (List ℕ) → Option Reading
read_lines g [] = Some g
read_lines g (line ∷ lines) = given (read_line g line) (λ s. read_lines s lines)

-- the head, once all of its lines were read
abbrev pub head_of : Stage → Option Head
head_of (Format plain_only) = None
head_of (InHead hinted at h) = None
head_of (Body hinted h next) = Some h
head_of (End hinted h) = Some h

-- whether the text has hints, once its first line was read
abbrev pub hinted_of : Stage → Option Bool
hinted_of (Format plain_only) = None
hinted_of (InHead hinted at h) = Some hinted
hinted_of (Body hinted h next) = Some hinted
hinted_of (End hinted h) = Some hinted

-- whether the last line was read, and nothing stands behind it
abbrev pub has_ended : Stage → List ℕ → Bool
has_ended (Format plain_only) held = false
has_ended (InHead hinted at h) held = false
has_ended (Body hinted h next) held = false
has_ended (End hinted h) [] = true
has_ended (End hinted h) (x ∷ held) = false
