-- What an emission needs of a program.
use Rattle.std.specs.Prelude.{map}
use Rattle.c_rules.specs.Names.{functions_of}
use Rattle.run_model.specs.declared.state.Shared.{Shared}
use Rattle.run_model.specs.Calls.{Setting, no_other}
use Rattle.emit_steps.specs.declared.state.Variable.{Variable}
use Rattle.emit_steps.specs.declared.table.Table.{Table}

-- a shared variable, as a run sees it
abbrev pub shared_as : Variable → Shared
shared_as v = record { name = v.name; unsigned = v.unsigned; first = v.first; count = v.count }

-- what an emission needs of a program. It does not depend on a thread's handle
abbrev pub setting_at : Table → Setting
setting_at t = record { shared = map shared_as t.shared.now; functions = functions_of t.items.now; turns = t.turns; full = t.full; handle = 0; other = no_other }
