-- Reading the lines of a log.
use Rattle.std.specs.Prelude.{ℕ, Bool, true, false, ◌&&◌, ◌==◌, nat_le, nat_lt, if◌then◌else◌, bytes_eq, List, [], ◌∷◌, codes, Option, Some, None}
use Rattle.dg_base.specs.declared.Lit.{Lit}
use Rattle.cnf_problem.specs.Literals.{positive, negated, var}
use Rattle.cnf_problem.specs.declared.problem.LemmaKind.{LemmaKind}
use Rattle.cnf_problem.specs.declared.problem.LemmaKind.TheVariants.{Unit as ByUnit, Cycle}
use Rattle.line_text.specs.Words.{front_word, given, number_in, strip, words_behind}
use Rattle.lemma_log.specs.declared.hints.Hint.{Hint}
use Rattle.lemma_log.specs.declared.hints.Hint.TheVariants.{Clause, Ticket}
use Rattle.log_text.specs.Formats.{Row}

-- ---- words

abbrev pub model_in : List ℕ → Option ℕ
model_in w = if bytes_eq w (codes "sc") then Some 0 else (if bytes_eq w (codes "tso") then Some 1 else (if bytes_eq w (codes "pso") then Some 2 else None))

abbrev pub kind_in : List ℕ → Option LemmaKind
kind_in w = if bytes_eq w (codes "u") then Some ByUnit else (if bytes_eq w (codes "c") then Some Cycle else None)

abbrev pub worker_in : List ℕ → Option ℕ
worker_in w = given (number_in w) (λ n. if nat_lt n 16 then Some n else None)

-- a variable from 1 to 2147483647
abbrev pub variable_in : List ℕ → Option ℕ
variable_in w = given (number_in w) (λ n. if nat_le 1 n && nat_le n 2147483647 then Some n else None)

abbrev pub lit_by : List ℕ → Option (List ℕ) → Option Lit
lit_by w None = given (variable_in w) (λ v. Some (positive v))
lit_by w (Some word) = given (variable_in word) (λ v. Some (negated (positive v)))

abbrev pub lit_in : List ℕ → Option Lit
lit_in w = lit_by w (strip (codes "-") w)

-- a clause of the problem from 1
abbrev pub clause_in : List ℕ → Option Hint
clause_in w = given (number_in w) (λ n. if nat_le 1 n then Some (Clause n) else None)

abbrev pub ticket_in : List ℕ → Option Hint
ticket_in w = given (number_in w) (λ n. Some (Ticket n))

abbrev pub hint_by : List ℕ → Option (List ℕ) → Option Hint
hint_by w None = given (strip (codes "t") w) ticket_in
hint_by w (Some word) = clause_in word

abbrev pub hint_in : List ℕ → Option Hint
hint_in w = hint_by w (strip (codes "p") w)

-- ---- lists of words up to a `0`

-- what was read, and the words behind the `0`
pub record Upto (A : Type 0) : Type 0 where
  pub read : List A
  pub behind : List (List ℕ)

abbrev pub push_front : {A : Type 0} → A → Upto A → Option (Upto A)
push_front x u = Some (record { read = x ∷ u.read; behind = u.behind })

abbrev pub is_zero : List ℕ → Bool
is_zero w = bytes_eq w (codes "0")

-- literals whose variables rise from above this one
abbrev pub lits_from : ℕ → List (List ℕ) → Option (Upto Lit)
lits_from v [] = None
lits_from v (w ∷ ws) =
    if is_zero w then Some (record { read = []; behind = ws })
    else given (lit_in w) (λ l. if nat_lt v (var l) then given (lits_from (var l) ws) (push_front l) else None)

abbrev pub hints_from : List (List ℕ) → Option (Upto Hint)
hints_from [] = None
hints_from (w ∷ ws) =
    if is_zero w then Some (record { read = []; behind = ws })
    else given (hint_in w) (λ h. given (hints_from ws) (push_front h))

-- ---- lines of entries

-- nothing stands behind
abbrev pub ended_by : {A : Type 0} → List (List ℕ) → A → Option A
ended_by [] x = Some x
ended_by (w ∷ ws) x = None

-- the hints of an entry, behind its literals
abbrev pub hints_behind : Bool → LemmaKind → List (List ℕ) → Option (List Hint)
hints_behind false kind ws = ended_by ws []
hints_behind true Cycle ws = ended_by ws []
hints_behind true ByUnit ws = given (hints_from ws) (λ u. ended_by u.behind u.read)

-- `TICKET WORKER KIND` with this ticket: the worker, the kind, and the words behind
pub record Opening : Type 0 where
  pub worker : ℕ
  pub kind : LemmaKind
  pub behind : List (List ℕ)

abbrev pub opening_by : ℕ → List (List ℕ) → Option Opening
opening_by next (t ∷ w ∷ k ∷ ws) =
    given (number_in t) (λ ticket. if (ticket == next) && nat_lt next 4294967295 then
    given (worker_in w) (λ worker. given (kind_in k) (λ kind. Some (record { worker = worker; kind = kind; behind = ws }))) else None)
opening_by next ws = None

abbrev pub opening_in : ℕ → List ℕ → Option Opening
opening_in next line = opening_by next (front_word line ∷ words_behind line)

-- an entry with this ticket
abbrev pub row_by : Bool → ℕ → Opening → Option Row
row_by hinted next o =
    given (lits_from 0 o.behind) (λ u. given (hints_behind hinted o.kind u.behind) (λ hints.
    Some (record { ticket = next; worker = o.worker; kind = o.kind; lits = u.read; hints = hints })))

abbrev pub row_in : Bool → ℕ → List ℕ → Option Row
row_in hinted next line = given (opening_in next line) (row_by hinted next)
