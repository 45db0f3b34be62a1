-- The reader as a machine over lines: what was read, and one step for each line.
use Rattle.std.specs.Prelude.{ℕ, ◌-◌, Bool, true, false, ◌&&◌, ◌==◌, if◌then◌else◌, List, [], ◌∷◌, ◌++◌, length, slice_get, codes, Option, Some, None, bytes_eq}
use Rattle.axiom_model.specs.declared.Event.{Event}
use Rattle.axiom_model.specs.declared.RfPair.{RfPair}
use Rattle.axiom_model.specs.declared.ThreadPart.{ThreadPart}
use Rattle.axiom_model.specs.declared.Candidate.{Candidate}
use Rattle.witness_text.specs.declared.lines.ThreadHead.{ThreadHead}
use Rattle.witness_text.specs.declared.reading.Stage.{Stage}
use Rattle.witness_text.specs.declared.reading.Stage.TheVariants.{Head, Between, Script, End}
use Rattle.witness_text.specs.declared.reading.Reading.{Reading}
use Rattle.witness_text.specs.Witness.{first_line, last_line}
use Rattle.witness_text.specs.Spelling.{handle_before, reader_before}
use Rattle.line_text.specs.Words.{given, strip}
use Rattle.witness_text.specs.Lines.{head_in, source_in, order_in, script_in}

abbrev pub no_candidate : Candidate
no_candidate = record { threads = []; rf = []; co = [] }

abbrev pub start : Reading
start = record { stage = Head; candidate = no_candidate }

abbrev pub part_of : ThreadHead → List ℕ → ThreadPart
part_of h script = record { handle = h.handle; function = h.function; arg = h.arg; script = script }

-- whether one more may stand behind the last of a list
abbrev pub last_before : {A : Type 0} → (A → A → Bool) → Option A → A → Bool
last_before before None y = true
last_before before (Some x) y = before x y

abbrev pub may_follow : {A : Type 0} → (A → A → Bool) → List A → A → Bool
may_follow before xs y = last_before before (slice_get xs (length xs - 1)) y

abbrev pub is_empty : {A : Type 0} → List A → Bool
is_empty [] = true
is_empty (x ∷ xs) = false

-- a thread's first line, before all pairs and orders
abbrev pub begun : Candidate → ThreadHead → Option Reading
begun c h = if may_follow handle_before c.threads (part_of h []) then Some (record { stage = Script h; candidate = c }) else None

abbrev pub on_thread : List (List ℕ) → Candidate → List ℕ → Option Reading
on_thread functions c text = if is_empty c.rf && is_empty c.co then given (head_in functions text) (begun c) else None

-- a pair, before all orders
abbrev pub with_pair : Candidate → RfPair → Option Reading
with_pair c p = if may_follow reader_before c.rf p then Some (record { stage = Between; candidate = record c { rf = c.rf ++ p ∷ [] } }) else None

abbrev pub on_source : Candidate → List ℕ → Option Reading
on_source c text = if is_empty c.co then given (source_in text) (with_pair c) else None

-- the order of the next cell
abbrev pub with_order : Candidate → List Event → Option Reading
with_order c es = Some (record { stage = Between; candidate = record c { co = c.co ++ es ∷ [] } })

abbrev pub on_order : List (List ℕ) → Candidate → List ℕ → Option Reading
on_order cells c text = given (slice_get cells (length c.co)) (λ cell. given (order_in cell text) (with_order c))

-- the last line, behind the orders of all cells
abbrev pub on_end : List (List ℕ) → Candidate → List ℕ → Option Reading
on_end cells c line = if bytes_eq line last_line && (length c.co == length cells) then Some (record { stage = End; candidate = c }) else None

abbrev pub by_order : List (List ℕ) → Candidate → List ℕ → Option (List ℕ) → Option Reading
by_order cells c line (Some text) = on_order cells c text
by_order cells c line None = on_end cells c line

abbrev pub by_source : List (List ℕ) → Candidate → List ℕ → Option (List ℕ) → Option Reading
by_source cells c line (Some text) = on_source c text
by_source cells c line None = by_order cells c line (strip (codes "co ") line)

abbrev pub by_thread : List (List ℕ) → List (List ℕ) → Candidate → List ℕ → Option (List ℕ) → Option Reading
by_thread functions cells c line (Some text) = on_thread functions c text
by_thread functions cells c line None = by_source cells c line (strip (codes "rf ") line)

abbrev pub between : List (List ℕ) → List (List ℕ) → Candidate → List ℕ → Option Reading
between functions cells c line = by_thread functions cells c line (strip (codes "thread ") line)

abbrev pub on_head : Candidate → List ℕ → Option Reading
on_head c line = if bytes_eq line first_line then Some (record { stage = Between; candidate = c }) else None

-- the script of the thread that has begun
abbrev pub with_script : Candidate → ThreadHead → List ℕ → Option Reading
with_script c h script = Some (record { stage = Between; candidate = record c { threads = c.threads ++ part_of h script ∷ [] } })

abbrev pub on_script : Candidate → ThreadHead → List ℕ → Option Reading
on_script c h line = given (script_in line) (with_script c h)

abbrev pub step_at : List (List ℕ) → List (List ℕ) → Stage → Candidate → List ℕ → Option Reading
step_at functions cells Head c line = on_head c line
step_at functions cells Between c line = between functions cells c line
step_at functions cells (Script h) c line = on_script c h line
step_at functions cells End c line = None

abbrev pub step : List (List ℕ) → List (List ℕ) → Reading → List ℕ → Option Reading
step functions cells r line = step_at functions cells r.stage r.candidate line

-- what was read, where the last line was read and nothing stands behind it
abbrev pub ended_at : Stage → Candidate → List ℕ → Option Candidate
ended_at End c [] = Some c
ended_at End c (x ∷ rest) = None
ended_at Head c rest = None
ended_at Between c rest = None
ended_at (Script h) c rest = None

abbrev pub ended : Reading → List ℕ → Option Candidate
ended r rest = ended_at r.stage r.candidate rest
