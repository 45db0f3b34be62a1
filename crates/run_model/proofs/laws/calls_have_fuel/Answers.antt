use Rattle.std.proofs.Common.{refl}
use Rattle.run_model.specs.Programs.{setting_of}
use Rattle.run_model.proofs.Fuel.{more_fuel}
use Rattle.run_model.proofs.laws.calls_have_fuel.Goals as goal

pub returns : goal.returns
returns c = λ p handle more f arg straight. more_fuel p.program.items (setting_of p handle) refl straight more f arg
