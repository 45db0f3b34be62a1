-- The order of a candidate's pairs. No public contract cites it.
use Rattle.std.specs.Prelude.{ℕ, ◌+◌, ◌*◌, ◌^◌}
use Rattle.axiom_model.specs.declared.Event.{Event}
use Rattle.axiom_model.specs.declared.Event.TheVariants.{Initial, At}
use Rattle.axiom_model.specs.declared.RfPair.{RfPair}

-- by handle and index
abbrev pub event_key : Event → ℕ
event_key Initial = 0
event_key (At h i) = h * 2 ^ 32 + i

abbrev pub reader_key : RfPair → ℕ
reader_key p = event_key p.reader
