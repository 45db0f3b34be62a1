-- Instances of what was emitted.
use Rattle.std.specs.Prelude.{ℕ, List, [], ◌∷◌, ◌++◌}
use Rattle.flat_prog.specs.declared.Instance.{Instance}
use Rattle.flat_prog.specs.declared.FlatStep.{FlatStep}
use Rattle.flat_prog.specs.declared.FlatAct.TheVariants as act
use Rattle.emit_steps.specs.declared.state.Number.{Number}
use Rattle.emit_steps.specs.Emitting.{Emitted, none, one}

-- an emission for an instance whose first Create names the instance i
abbrev pub begins : ℕ → Emitted
begins i = record { next = 5; numbers = []; steps = []; instances = i; created = []; scope = []; depth = 0; opened = none }

-- the numbers that an instance needs come first, under the local that is 1
abbrev pub put_numbers : List Number → List FlatStep
put_numbers [] = []
put_numbers (x ∷ xs) = record { guard = one; act = act.Put x.local x.value } ∷ put_numbers xs

-- the instance of a function
abbrev pub instance_of : ℕ → Emitted → Instance
instance_of f e = record { function = f; locals = e.next; steps = put_numbers e.numbers ++ e.steps }
