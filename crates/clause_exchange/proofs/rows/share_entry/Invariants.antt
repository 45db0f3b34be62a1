use Rattle.std.proofs.Common.{◌≡◌, ◌+◌, take}
use Rattle.clause_exchange.specs.Spelling.{spelled_entry}
use Rattle.clause_exchange.specs.Steps.{mine, with_part, with_stored}
use Rattle.clause_exchange.proofs.rows.share_entry.Given as goal

abbrev pub ghost-store_word : goal.ghost-store_word
ghost-store_word g a = mine a.seat.now.me.0

abbrev pub ghost-store_count : goal.ghost-store_count
ghost-store_count g a = mine a.seat.now.me.0

-- the words so far are stored behind the row
abbrev pub invariant-loop-i : goal.invariant-loop-i
invariant-loop-i g l =
    (l.seat.table_id ≡ l.initial.seat.table_id) × (l.seat.me.1 ≡ l.initial.seat.me.1)
    × (l.seat.me.0 ≡ with_part l.fn.seat.me.0 (with_stored g.told (take (1 + l.i) (spelled_entry (record { ticket = l.fn.ticket; lits = l.lits })))))
