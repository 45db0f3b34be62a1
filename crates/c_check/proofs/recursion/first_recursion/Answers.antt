use Rattle.std.proofs.Common.{◌∙◌, ap, refl, sym, subst, Some, List, ℕ}
use Rattle.c_check.specs.Graph.{IsFirstBack}
use Rattle.c_check.proofs.Edges.{first_function, rows_closed}
use Rattle.c_check.proofs.recursion.first_recursion.Goals as goal

pub returns-in-Some-Function : goal.returns-in-Some-Function
returns-in-Some-Function c =
    let b = rw c.in-Ok-Some.field-0-is at c.in-Ok-Some.ensures in
    first_function c.args.items.now c.in-Ok-Some.number c.in-Some-Function.function c.in-Some-Function.function.place
    (sym c.in-Some-Function.ensures ∙ ap Some c.in-Some-Function.field-0-is)
    (subst (λ (r : List (List ℕ)). IsFirstBack r c.in-Ok-Some.number) c.requires.rows b) refl

pub first_back-requires : goal.first_back-requires
first_back-requires c = rows_closed c.args.items.now c.args.rows.now c.requires.rows
