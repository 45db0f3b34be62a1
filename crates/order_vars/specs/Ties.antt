-- How two events are tied, by their kinds and cells.
use Rattle.std.specs.Prelude.{Bool, cond, nat_eq}
use Rattle.memory_models.specs.declared.StaticEvent.{StaticEvent}
use Rattle.memory_models.specs.declared.StaticKind.{StaticKind}
use Rattle.memory_models.specs.declared.StaticKind.TheVariants as kind
use Rattle.order_vars.specs.declared.tie.Tie.{Tie}
use Rattle.order_vars.specs.declared.tie.Tie.TheVariants as tie

-- to a read of its cell
abbrev pub source_tie : StaticKind → Tie
source_tie kind.Initial = tie.Source
source_tie kind.Write = tie.Source
source_tie _ = tie.Apart

-- to a write of its cell
abbrev pub order_tie : StaticKind → Bool → Tie
order_tie kind.Initial earlier = tie.Initial
order_tie kind.Write earlier = cond earlier tie.Rival tie.Apart
order_tie _ earlier = tie.Apart

-- to a join
abbrev pub wait_tie : StaticKind → Tie
wait_tie kind.End = tie.End
wait_tie _ = tie.Apart

-- to an event of this kind; whether it is of the same cell, and whether it is the earlier one
abbrev pub kinds_tie : StaticKind → Bool → StaticKind → Bool → Tie
kinds_tie a same kind.Read earlier = cond same (source_tie a) tie.Apart
kinds_tie a same kind.Write earlier = cond same (order_tie a earlier) tie.Apart
kinds_tie a same kind.Join earlier = wait_tie a
kinds_tie a same _ earlier = tie.Apart

abbrev pub tie_of : StaticEvent → StaticEvent → Bool → Tie
tie_of a b earlier = kinds_tie a.kind (nat_eq a.cell b.cell) b.kind earlier
