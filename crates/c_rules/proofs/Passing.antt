-- What is broken in a part is broken in the whole.
use Rattle.std.proofs.Common.{◌≡◌, ◌∙◌, ap, subst, sym}
use Rattle.std.specs.Prelude.{Result, None}
use Rattle.c_rules.specs.declared.stop.Stop.{Stop}
use Rattle.c_rules.specs.declared.stop.Stop.TheVariants.{Broken, OutOfMemory}
use Rattle.c_rules.specs.Names.{or_else}
use Rattle.c_rules.specs.Scopes.{First}
use Rattle.c_rules.specs.Passes.{Stops, Gives}

pub passes : (e : Stop) (f g : First) → Stops e f → Stops e (or_else f g)
passes (Broken p) f g h = ap (λ (x : First). or_else x g) h
passes OutOfMemory f g h = tt

pub goes_on : (e : Stop) (f g : First) → f ≡ None → Stops e g → Stops e (or_else f g)
goes_on e f g n h = subst (λ (x : First). Stops e (or_else x g)) (sym n) h

pub none_in : (f g : First) → f ≡ None → g ≡ None → or_else f g ≡ None
none_in f g n m = ap (λ (x : First). or_else x g) n ∙ m

-- what the rest answers, the whole answers, where nothing is broken before
pub rest : {A : Type 0} (r : Result A Stop) (f g : First) → f ≡ None → Gives r g → Gives r (or_else f g)
rest r f g n h = subst (λ (x : First). Gives r (or_else x g)) (sym n) h
