use Rattle.std.proofs.Common.{Option, Bool, false, true, Some, subst}
use Rattle.trail_state.specs.Trails.{HasValue}
use Rattle.hint_checker.proofs.Looks.{with_false, with_true}
use Rattle.hint_checker.proofs.look.Finding.with.Goals as goal

pub returns-in-Some-true : goal.returns-in-Some-true
returns-in-Some-true c lits clause value found =
    let v = subst (λ (o : Option Bool). HasValue lits c.args.lit o) c.in-Some-true.is value in
    let t : HasValue lits c.args.lit (Some true) = subst (λ (b : Bool). HasValue lits c.args.lit (Some b)) c.in-Some-true.field-0-test v in
    with_true lits clause c.args.lit t.0 t.1

pub returns-in-Some-false : goal.returns-in-Some-false
returns-in-Some-false c lits clause value found =
    let v = subst (λ (o : Option Bool). HasValue lits c.args.lit o) c.in-Some-false.is value in
    let t : HasValue lits c.args.lit (Some false) = subst (λ (b : Bool). HasValue lits c.args.lit (Some b)) c.in-Some-false.field-0-test v in
    with_false lits clause c.args.lit c.args.self t.0 found

pub returns-in-None : goal.returns-in-None
returns-in-None c lits clause value found = c.with_unassigned.ensures lits clause (subst (λ (o : Option Bool). HasValue lits c.args.lit o) c.in-None.is value) found
