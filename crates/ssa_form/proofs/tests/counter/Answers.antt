use Rattle.std.proofs.Common.{◌≡◌, ◌∙◌, ℕ, List, [], ◌∷◌, ap, sym, subst}
use Rattle.flat_prog.specs.declared.Instance.{Instance}
use Rattle.flat_prog.specs.Shape.{IsFlat}
use Rattle.ssa_form.proofs.Samples.{counter, counting_steps, counter_is_flat}
use Rattle.ssa_form.proofs.tests.counter.Goals as goal

pub returns : goal.returns
returns c =
    let sum = c.from_vec-sum.ensures ∙ c.in_ok-vec.ensures.items in
    let main = c.from_vec-main.ensures ∙ c.in_ok-vec-2.ensures.items ∙ ap counting_steps sum in
    let instances : c.from_vec-instances.result ≡ counter.instances =
    c.from_vec-instances.ensures ∙ c.in_ok-vec-3.ensures.items ∙ ap (λ l. record { function = 0; locals = 5; steps = l } ∷ []) main in
    let initials : c.from_vec-initials.result ≡ counter.initials = c.from_vec-initials.ensures ∙ c.in_ok-vec-4.ensures.items in
    subst (λ (is : List Instance). IsFlat (record { instances = is; initials = c.from_vec-initials.result })) (sym instances)
    (subst (λ (vs : List ℕ). IsFlat (record { instances = counter.instances; initials = vs })) (sym initials) counter_is_flat)
