use Rattle.std.proofs.Common.{List, ℕ, length, sym, subst}
use Rattle.decode.specs.Tables.{AreRanks}
use Rattle.decode.proofs.spell.Goals as goal

pub orders-requires-clause-apart : goal.orders-requires-clause-apart
orders-requires-clause-apart c =
    c.requires.apart c.as_slice-ranks.result.now (subst (λ (l : List ℕ). AreRanks c.args.truths.now c.args.atoms.now (length c.args.events.now) l) (sym c.as_slice-ranks.ensures) c.in_ok-table.ensures)
