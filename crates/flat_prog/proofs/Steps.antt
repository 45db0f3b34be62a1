-- Steps in turn.
use Rattle.std.specs.Prelude.{◌≡◌, refl, List, [], ◌∷◌, ◌++◌}
use Rattle.flat_prog.specs.declared.Instance.{Instance}
use Rattle.flat_prog.specs.declared.FlatStep.{FlatStep}
use Rattle.flat_prog.specs.Runs.{FlatState, Progress, Goes, Over, Short, steps, step, go_on}
use Rattle.flat_prog.specs.Laws.{StepsGoOn}

-- behind what one step gives
go_on_append : (is : List Instance) (ts us : List FlatStep) (p : Progress) → ((s : FlatState) → steps is (ts ++ us) s ≡ go_on (steps is ts s) (steps is us))
    → go_on p (steps is (ts ++ us)) ≡ go_on (go_on p (steps is ts)) (steps is us)
go_on_append is ts us (Goes s) rest = rest s
go_on_append is ts us (Over e s) rest = refl
go_on_append is ts us (Short s) rest = refl

pub steps_append : StepsGoOn
steps_append is [] us s = refl
steps_append is (t ∷ ts) us s = go_on_append is ts us (step is t s) (λ r. steps_append is ts us r)
