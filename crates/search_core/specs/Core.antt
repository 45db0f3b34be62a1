use Rattle.std.specs.Prelude.{◌≡◌, ◌≢◌, ℕ, ◌+◌, ◌<◌, ◌≤◌, ⊤, Bool, List, [], ◌∷◌, ◌++◌, map, length, take, replicate, slice_set, slice_index, slice_index_or, Contains, Option, Some, None}
use Rattle.dg_base.specs.declared.Lit.{Lit}
use Rattle.cnf_problem.specs.declared.problem.Lemma.{Lemma}
use Rattle.cnf_problem.specs.declared.problem.Problem.{Problem}
use Rattle.cnf_problem.specs.Problems.{IsConsistent, Follows}
use Rattle.search_core.specs.declared.Entry.{Entry}
use Rattle.search_core.specs.declared.Verdict.{Verdict}
use Rattle.search_core.specs.declared.Verdict.TheVariants.{Safe, Unsafe}

-- a worker: its log, the entries that it shared, and for each worker how many shared entries it may read, and how long its own log was when it last read them
pub record Worker : Type 0 where
  pub log : List Entry
  pub shared : List Entry
  pub may_read : List ℕ
  pub looked : List ℕ

-- the workers, the next ticket, and the verdict that stands, if one does
pub record State : Type 0 where
  pub workers : List Worker
  pub next : ℕ
  pub verdict : Option Verdict

-- what one worker does at a moment: it appends a lemma to its log, shares an entry, may from now on read the first so many entries of another worker, or offers a verdict
pub data Event : Type 0 where
  Append : (worker : ℕ) → Lemma → Event
  Share : (worker : ℕ) → Entry → Event
  Read : (worker other entries : ℕ) → Event
  Offer : (worker : ℕ) → Verdict → Event

-- a worker that has done nothing, among so many
abbrev pub idle : ℕ → Worker
idle n = record { log = []; shared = []; may_read = replicate n 0; looked = replicate n 0 }

-- so many workers that have done nothing
abbrev pub start : ℕ → State
start n = record { workers = replicate n (idle n); next = 0; verdict = None }

-- worker i of the state
abbrev pub worker : State → ℕ → Worker
worker s i = slice_index_or s.workers i (idle 0)

-- the shared entries of all workers that may be read, by the numbers
abbrev pub readable : List ℕ → List Worker → List Entry
readable [] ws = []
readable (n ∷ ns) [] = []
readable (n ∷ ns) (w ∷ ws) = take n w.shared ++ readable ns ws

-- what worker i knows: its own log and what it may read
abbrev pub known : State → ℕ → List Entry
known s i = (worker s i).log ++ readable (worker s i).may_read s.workers

-- the clauses of the entries
abbrev pub lits_of : List Entry → List (List Lit)
lits_of entries = map (λ (e : Entry). e.lemma.lits) entries

-- When an event may happen. An append: where the lemma follows from what the worker knows, and its log has fewer than 1024 entries more than when it last read each of the others. A share: of an entry of the own log. A reading: of no fewer entries than before, and no more than were shared. An offer of Unsafe: where some assignment is consistent; of Safe: where the worker knows the empty clause.
abbrev pub MayHappen : Problem → State → Event → Type 0
MayHappen p s (Append i lemma) =
    (i < length s.workers) × Follows p (lits_of (known s i)) lemma
    × ((j : ℕ) → j < length s.workers → j ≢ i → length (worker s i).log < slice_index (worker s i).looked j + 1024)
MayHappen p s (Share i entry) = (i < length s.workers) × Contains (worker s i).log entry
MayHappen p s (Read i j n) =
    (i < length s.workers) × (j < length s.workers) × (i ≢ j)
    × (slice_index (worker s i).may_read j ≤ n) × (n ≤ length (worker s j).shared)
MayHappen p s (Offer i Unsafe) = (i < length s.workers) × ((assignment : List Bool) × IsConsistent p assignment)
MayHappen p s (Offer i Safe) = (i < length s.workers) × Contains (lits_of (known s i)) []

-- the state with another worker i
abbrev pub with_worker : State → ℕ → Worker → State
with_worker s i w = record { workers = slice_set s.workers i w; next = s.next; verdict = s.verdict }

-- the first verdict that is offered stands
abbrev pub first_of : Option Verdict → Verdict → Option Verdict
first_of None v = Some v
first_of (Some w) v = Some w

-- the worker after it appends at this ticket
abbrev pub appended : Worker → ℕ → Lemma → Worker
appended w ticket lemma =
    record { log = w.log ++ record { ticket = ticket; lemma = lemma; seen = w.may_read } ∷ []; shared = w.shared; may_read = w.may_read; looked = w.looked }

-- after it shares
abbrev pub has_shared : Worker → Entry → Worker
has_shared w entry = record { log = w.log; shared = w.shared ++ entry ∷ []; may_read = w.may_read; looked = w.looked }

-- after it may read so many entries of worker j
abbrev pub has_read : Worker → ℕ → ℕ → Worker
has_read w j n = record { log = w.log; shared = w.shared; may_read = slice_set w.may_read j n; looked = slice_set w.looked j (length w.log) }

-- the state after an event
abbrev pub after : State → Event → State
after s (Append i lemma) =
    record { workers = slice_set s.workers i (appended (worker s i) s.next lemma); next = s.next + 1; verdict = s.verdict }
after s (Share i entry) = with_worker s i (has_shared (worker s i) entry)
after s (Read i j n) = with_worker s i (has_read (worker s i) j n)
after s (Offer i v) = record { workers = s.workers; next = s.next; verdict = first_of s.verdict v }

-- the state after a list of events
abbrev pub run : List Event → State → State
run [] s = s
run (e ∷ es) s = run es (after s e)

-- each event of the list may happen in its turn
abbrev pub AllMayHappen : Problem → List Event → State → Type 0
AllMayHappen p [] s = ⊤
AllMayHappen p (e ∷ es) s = MayHappen p s e × AllMayHappen p es (after s e)

-- some list of events leads from the start to the state
pub record IsReached (p : Problem) (workers : ℕ) (s : State) : Type 0 where
  pub events : List Event
  pub allowed : AllMayHappen p events (start workers)
  pub reached : run events (start workers) ≡ s
