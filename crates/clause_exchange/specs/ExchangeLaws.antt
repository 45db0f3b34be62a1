-- What follows from the contracts of the calls.
use Rattle.std.specs.Prelude.{◌≡◌, ◌+◌, [], ◌∷◌, ◌++◌, length}
use Rattle.clause_exchange.specs.declared.rule.Received.{Received}
use Rattle.clause_exchange.specs.declared.rule.RowView.{RowView}
use Rattle.clause_exchange.specs.Spelling.{entry_size, whole_within}
use Rattle.clause_exchange.specs.Steps.{IsAt}
use Rattle.clause_exchange.specs.Calls.{IsAllRead}

-- where the next entry was loaded whole, the reading of the row ends with it
abbrev pub ReadingGrows : Type 0
ReadingGrows = (r : RowView) (h : Received) → IsAt r h 0 → whole_within (r.loaded + entry_size (length h.lits)) r.known ≡ whole_within r.loaded r.known ++ h ∷ []

-- where all within the words looked at is read, the reading of the row is all that is known of it
abbrev pub ReadingIsAll : Type 0
ReadingIsAll = (r : RowView) → IsAllRead r → whole_within r.loaded r.known ≡ r.known
