-- An execution, as the code holds its parts.
use Rattle.std.specs.Prelude.{List, map}
use Rattle.axiom_model.specs.declared.Event.{Event}
use Rattle.axiom_model.specs.declared.RfPair.{RfPair}
use Rattle.axiom_model.specs.Execution.{Thread, Execution}
use Rattle.consistency.specs.declared.ThreadActions.{ThreadActions}

abbrev pub thread_seen : ThreadActions → Thread
thread_seen t = record { handle = t.handle; function = t.function; arg = t.arg; actions = t.actions; ended = t.ended; bad = t.bad }

-- the execution of these threads, pairs of reads and their sources, and orders of the cells' writes
abbrev pub execution_seen : List ThreadActions → List RfPair → List (List Event) → Execution
execution_seen threads rf co = record { threads = map thread_seen threads; rf = rf; co = co }
