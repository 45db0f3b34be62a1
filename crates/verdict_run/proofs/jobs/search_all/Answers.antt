use Rattle.std.proofs.Common.{length, refl, sym, ◌∙◌, subst, ap}
use Rattle.std.proofs.lemmas.Option.{slice_get_read, slice_get_within, get_or_from_slice_get}
use Rattle.clause_exchange.specs.Steps.{mine}
use Rattle.verdict_run.specs.declared.jobs.Job.{Job}
use Rattle.verdict_run.specs.Searches.{HasWorked}
use Rattle.verdict_run.proofs.Gathering.{have_worked}
use Rattle.verdict_run.proofs.jobs.search_all.Goals as goal

pub for_each_mut-requires-clause-accepts : goal.for_each_mut-requires-clause-accepts
for_each_mut-requires-clause-accepts g c κs within =
    λ i p lt is. (c.requires.problem, (c.requires.some, (c.requires.few, c.requires.jobs.each i p.now (slice_get_read c.args.jobs.now (length c.args.jobs.now) i p.now refl lt is))))

pub returns : goal.returns
returns g c =
    have_worked c.args.exchange.now c.args.budget c.args.jobs.now c.for_each_mut.new.s c.requires.jobs (sym c.for_each_mut.auto.s) (λ k x y at_x at_y.
    let change = (c.for_each_mut.ensures k y (slice_get_within c.args.jobs.now k x at_x)).1 in
    let old = change.argument_is ∙ get_or_from_slice_get c.args.jobs.now k x y at_x in
    let new = change.left ∙ get_or_from_slice_get c.for_each_mut.new.s k y y at_y in
    (subst (HasWorked c.args.exchange.now c.args.budget) new change.call.0, ap (λ (j : Job). (mine j.seat.view).number) (sym new) ∙ change.call.1 ∙ ap (λ (j : Job). (mine j.seat.view).number) old))
