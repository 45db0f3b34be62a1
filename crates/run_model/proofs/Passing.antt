-- What stops a part stops the whole.
use Rattle.std.proofs.Common.{ap}
use Rattle.run_model.specs.declared.state.Stop.{Stop}
use Rattle.run_model.specs.declared.state.Stop.TheVariants.{Halted, OutOfMemory}
use Rattle.run_model.specs.Steps.{State, Outcome, Step, go_on}
use Rattle.run_model.specs.Running.{Stops}

pub passes : {A B : Type 0} (e : Stop) (s : State) (o : Outcome A) (f : A → Step B) → Stops e s o → Stops e s (go_on o f)
passes (Halted h) s o f p = ap (λ u. go_on u f) p
passes OutOfMemory s o f p = tt
