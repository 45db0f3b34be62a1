use Rattle.std.proofs.Common.{◌≡◌, ◌∙◌, ℕ, List, [], ◌∷◌, ap, sym, subst}
use Rattle.flat_prog.specs.declared.Instance.{Instance}
use Rattle.flat_prog.specs.Shape.{IsFlat}
use Rattle.ssa_form.proofs.Samples.{two_threads, main_steps, two_threads_are_flat}
use Rattle.ssa_form.proofs.tests.two_threads.Goals as goal

pub returns : goal.returns
returns c =
    let sum = c.from_vec-sum.ensures ∙ c.in_ok-vec.ensures.items in
    let test = c.from_vec-test.ensures ∙ c.in_ok-vec-2.ensures.items in
    let main = c.from_vec-main.ensures ∙ c.in_ok-vec-3.ensures.items ∙ ap (λ s. main_steps s c.from_vec-test.result) sum ∙ ap (λ t. main_steps (5 ∷ 3 ∷ []) t) test in
    let thread = c.from_vec-thread.ensures ∙ c.in_ok-vec-4.ensures.items in
    let instances : c.from_vec-instances.result ≡ two_threads.instances =
    c.from_vec-instances.ensures ∙ c.in_ok-vec-5.ensures.items
    ∙ ap (λ l. record { function = 0; locals = 8; steps = l } ∷ record { function = 1; locals = 4; steps = c.from_vec-thread.result } ∷ []) main
    ∙ ap (λ l. record { function = 0; locals = 8; steps = main_steps (5 ∷ 3 ∷ []) (6 ∷ 2 ∷ []) } ∷ record { function = 1; locals = 4; steps = l } ∷ []) thread in
    let initials : c.from_vec-initials.result ≡ two_threads.initials = c.from_vec-initials.ensures ∙ c.in_ok-vec-6.ensures.items in
    subst (λ (is : List Instance). IsFlat (record { instances = is; initials = c.from_vec-initials.result })) (sym instances)
    (subst (λ (vs : List ℕ). IsFlat (record { instances = two_threads.instances; initials = vs })) (sym initials) two_threads_are_flat)
