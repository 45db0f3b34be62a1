use Rattle.std.proofs.Common.{refl, ◌∙◌}
use Rattle.hint_maker.proofs.Turns.{same_entry}
use Rattle.hint_maker.proofs.adding.copied.Goals as goal

pub returns : goal.returns
returns c = same_entry c.args.entry.now.ticket c.args.entry.now.worker _ c.args.entry.now refl refl refl (c.in_ok-lits.ensures ∙ c.as_slice.ensures)
