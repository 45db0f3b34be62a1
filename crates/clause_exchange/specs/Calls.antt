-- What the public calls ask and tell, beside the steps.
use Rattle.std.specs.Prelude.{◌≡◌, ◌≢◌, ℕ, ◌+◌, ◌<◌, ◌≤◌, ◌⊎◌, List, [], ◌∷◌, ◌++◌, length, slice_get, take, All, Contains, Some}
use mathlib.Core.List.{IsPrefix}
use Rattle.cnf_problem.specs.declared.problem.Lemma.{Lemma}
use Rattle.cnf_problem.specs.Literals.{IsOver}
use Rattle.cnf_problem.specs.Problems.{Follows}
use Rattle.search_core.specs.declared.Entry.{Entry}
use Rattle.search_core.specs.Core.{lits_of}
use Rattle.lemma_log.specs.declared.Entry as Logged
use Rattle.clause_exchange.specs.declared.reading.Shared.{Shared}
use Rattle.clause_exchange.specs.declared.rule.Received.{Received}
use Rattle.clause_exchange.specs.declared.rule.RowView.{RowView}
use Rattle.clause_exchange.specs.declared.rule.Part.{Part}
use Rattle.clause_exchange.specs.declared.rule.View.{View}
use Rattle.clause_exchange.specs.Spelling.{spelled, entry_size}
use Rattle.clause_exchange.specs.Steps.{mine, reading, received_lits, row_of, with_row, with_part, looked_at, with_loaded, with_shared, IsAt}
use Rattle.clause_exchange.specs.Seats.{written, IsBlank}

-- the seat has one number
abbrev pub HasOne : View → Type 0
HasOne v = v.parts ≡ mine v ∷ []

-- an entry with so many literals may be shared: it is short, and the row has room
abbrev pub HasRoom : ℕ → Part → ℕ → Type 0
HasRoom share_words part lits = (lits ≤ 32) × (written part + entry_size lits ≤ share_words)

-- it is too long, or has no room
abbrev pub HasNoRoom : ℕ → Part → ℕ → Type 0
HasNoRoom share_words part lits = (32 < lits) ⊎ (share_words < written part + entry_size lits)

-- each entry of the log is shared, or can't be
abbrev pub AllShared : ℕ → Part → Type 0
AllShared share_words part = (e : Entry) → Contains part.log e → Contains part.shared e ⊎ HasNoRoom share_words part (length e.lemma.lits)

-- each entry within the words looked at is read
abbrev pub IsAllRead : RowView → Type 0
IsAllRead r = r.loaded ≡ length (spelled r.known)

-- the lemma may be appended: it follows from the log and the reading; the log has fewer than 1000001 entries, each of which is shared or can't be; all within the words looked at is read; and each other row was looked at within the last 1024 entries
pub record CanAppend (v : View) (lemma : Lemma) : Type 0 where
  pub follows : Follows v.problem (lits_of (mine v).log ++ received_lits (reading (mine v).rows)) lemma
  pub room : length (mine v).log < 1000001
  pub shared : AllShared v.share_words (mine v)
  pub read : (j : ℕ) (r : RowView) → slice_get (mine v).rows j ≡ Some r → IsAllRead r
  pub looked : (j : ℕ) (r : RowView) → j ≢ (mine v).number → slice_get (mine v).rows j ≡ Some r → length (mine v).log < r.log_then + 1024

-- an entry of the log with the ticket and the lemma of this one
pub record IsLogged (part : Part) (entry : Logged.Entry) (e : Entry) : Type 0 where
  pub listed : Contains part.log e
  pub ticket_is : e.ticket ≡ entry.ticket
  pub lemma_is : e.lemma ≡ entry.lemma

-- the row is another number's
abbrev pub IsOther : View → ℕ → Type 0
IsOther v row = (row < v.workers) × (row ≢ (mine v).number)

-- the next entry of the row was read into this place, and its literals are over the problem's variables
pub record IsRead (v : View) (row : ℕ) (into : Shared) (entry : Received) : Type 0 where
  pub next : IsAt (row_of (mine v) row) entry 0
  pub ticket : into.ticket ≡ entry.ticket
  pub worker : into.worker ≡ row
  pub len : into.len ≡ length entry.lits
  pub few : into.len ≤ 32
  pub lits : take into.len into.lits ≡ entry.lits
  pub over : All (IsOver v.problem.vars) entry.lits

-- the number is one of so many, it has a row for each of them, and of its own row nothing is known
pub record IsNumbered (workers : ℕ) (part : Part) : Type 0 where
  pub within : part.number < workers
  pub wide : length part.rows ≡ workers
  pub own : (r : RowView) → slice_get part.rows part.number ≡ Some r → IsBlank r

-- the view after an entry is shared
abbrev pub after_share : View → Entry → View
after_share v e = with_part v (with_shared (mine v) e)

-- the view after a look that found these entries
abbrev pub after_look : View → ℕ → List Received → View
after_look v row known = with_part v (with_row (mine v) row (looked_at (row_of (mine v) row) known (length (mine v).log)))

-- the view after the next entry of a row is read
abbrev pub after_read : View → ℕ → Received → View
after_read v row h = with_part v (with_row (mine v) row (with_loaded (row_of (mine v) row) ((row_of (mine v) row).loaded + entry_size (length h.lits))))

-- a look finds the words of entries that begin with those found before
pub record IsFound (v : View) (row words : ℕ) (known : List Received) : Type 0 where
  pub words_are : words ≡ length (spelled known)
  pub more : IsPrefix (row_of (mine v) row).known known

-- the number lies above the seat's least and is at most its greatest
abbrev pub Cuts : View → ℕ → Type 0
Cuts v at = ((a : Part) × Contains v.parts a × (a.number < at)) × ((b : Part) × Contains v.parts b × (at ≤ b.number))
