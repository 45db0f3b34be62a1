-- What callers see of a seat and of an exchange, and how a seat's counters agree with its view.
use Rattle.std.specs.Prelude.{◌≡◌, ℕ, ◌+◌, ◌*◌, ◌<◌, ◌≤◌, true, false, List, [], ◌++◌, length, slice_get, slice_index, slice_index_or, Contains, Some}
use Rattle.atomic_table.specs.Seated.{TableId}
use Rattle.cnf_problem.specs.declared.problem.Problem.{Problem}
use Rattle.clause_exchange.specs.declared.rule.Received.{Received}
use Rattle.clause_exchange.specs.declared.rule.RowView.{RowView}
use Rattle.clause_exchange.specs.declared.rule.Part.{Part}
use Rattle.clause_exchange.specs.declared.rule.View.{View}
use Rattle.clause_exchange.specs.declared.counters.Counters.{Counters}
use Rattle.clause_exchange.specs.Spelling.{all_received, spelled}

-- what an exchange is known by: its table, its problem, and its sizes
pub record ExchangeId : Type 0 where
  pub table : TableId
  pub problem : Problem
  pub workers : ℕ
  pub share_words : ℕ

-- what callers see of a seat: the table that it steps on, and what it knows
pub record SeatState : Type 0 where
  pub table : TableId
  pub view : View

-- the exchange that a seat is of
abbrev pub exchange_of : SeatState → ExchangeId
exchange_of s = record { table = s.table; problem = s.view.problem; workers = s.view.workers; share_words = s.view.share_words }

-- where the counters have what number k knows of row j
abbrev pub cell : ℕ → ℕ → ℕ
cell number row = 16 * number + row

-- the words of the own row that are written
abbrev pub written : Part → ℕ
written part = length (spelled (all_received part.shared))

-- what was read of the row ends with an entry
pub record IsWhole (r : RowView) : Type 0 where
  pub read : List Received
  pub unread : List Received
  pub all : r.known ≡ read ++ unread
  pub place : r.loaded ≡ length (spelled read)

-- the words looked at and read of a row are those that are kept, and what was read ends with an entry
pub record IsTiedRow (share_words looked loaded : ℕ) (r : RowView) : Type 0 where
  pub looked_is : looked ≡ length (spelled r.known)
  pub fits : looked ≤ share_words
  pub loaded_is : loaded ≡ r.loaded
  pub whole : IsWhole r

-- nothing is known of the row
pub record IsBlank (r : RowView) : Type 0 where
  pub known : r.known ≡ []
  pub loaded : r.loaded ≡ 0

-- the counters have what is kept of one number, which is storing no entry and knows nothing of its own row
pub record IsTiedPart (n share_words : ℕ) (c : Counters) (part : Part) : Type 0 where
  pub within : part.number < n
  pub own : slice_index_or c.owns part.number false ≡ true
  pub idle : part.stored ≡ []
  pub written_is : slice_index c.written part.number ≡ written part
  pub fits : written part ≤ share_words
  pub wide : length part.rows ≡ n
  pub blank : (r : RowView) → slice_get part.rows part.number ≡ Some r → IsBlank r
  pub rows : (j : ℕ) (r : RowView) → slice_get part.rows j ≡ Some r → IsTiedRow share_words (slice_index c.looked (cell part.number j)) (slice_index c.loaded (cell part.number j)) r

-- a number of the view
pub record HasNumber (v : View) (k : ℕ) : Type 0 where
  pub part : Part
  pub listed : Contains v.parts part
  pub is : part.number ≡ k

-- the counters have what is kept of each number of the view, among them this one
pub record IsTied (v : View) (number : ℕ) (c : Counters) : Type 0 where
  pub live : v.spent ≡ false
  pub few : v.workers ≤ 16
  pub narrow : v.share_words ≤ 1048576
  pub among : slice_index_or c.owns number false ≡ true
  pub owned : (k : ℕ) → slice_index_or c.owns k false ≡ true → HasNumber v k
  pub parts : (part : Part) → Contains v.parts part → IsTiedPart v.workers v.share_words c part
