use Rattle.std.proofs.Common.{◌∙◌, sym, length, ◌-◌, ◌<◌, arith, ap}
use Rattle.std.proofs.lemmas.Option.{slice_get-get_or}
use Rattle.cdcl_worker.proofs.conflicts.last_lits.Goals as goal

pub returns : goal.returns
returns c = (_, slice_get-get_or c.args.entries.now (length c.args.entries.now - 1) c.index-entries-entries.result (let some = c.requires in omega arith), c.as_slice.ensures)
