use Rattle.trail_state.specs.declared.entry.Entry.{Entry}
use Rattle.trail_state.specs.declared.entry.Entry.TheVariants.{Decision, Propagation}
use Rattle.trail_state.specs.Trails.{Assigned, Decided, Forced}

-- an entry as contracts see it
abbrev pub meaning : Entry → Assigned
meaning (Decision l) = Decided l
meaning (Propagation l id) = Forced l id.0
