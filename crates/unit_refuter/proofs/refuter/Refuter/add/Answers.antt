use Rattle.std.proofs.Common.{refl, ap, sym, ◌∙◌, subst, arith}
use Rattle.clause_store.specs.NewWatch.{AreOver}
use Rattle.unit_refuter.specs.Refuting.{IsReady, RefuterView}
use Rattle.unit_refuter.proofs.Raising.{ready_closed, ready_more}
use Rattle.unit_refuter.proofs.Views.{view_none, view_some}
use Rattle.unit_refuter.proofs.refuter.Refuter.add.Goals as goal

pub returns-then-is_some-clause-ok : goal.returns-then-is_some-clause-ok
returns-then-is_some-clause-ok c p clauses ready =
    ready_closed p clauses c.args.self.now c.args.lits.now ready
    (λ none. view_some c.self.inside.conflict (sym c.if-is_some.ensures) (ap (λ (r : RefuterView). r.conflict) c.self.view_is ∙ none))

pub add-requires-clause-watching : goal.add-requires-clause-watching
add-requires-clause-watching c =
    let p = c.requires.0 in
    let ready = subst (λ (r : RefuterView). IsReady p c.requires.1.0 r) (sym c.self.view_is) c.requires.1.1 in
    (p, (ready.live (view_none c.self.inside.conflict (sym c.if-is_some.ensures))).1)

pub add-requires-clause-over : goal.add-requires-clause-over
add-requires-clause-over c =
    let p = c.requires.0 in
    let ready = subst (λ (r : RefuterView). IsReady p c.requires.1.0 r) (sym c.self.view_is) c.requires.1.1 in
    let w = (ready.live (view_none c.self.inside.conflict (sym c.if-is_some.ensures))).1 in
    subst (λ v. AreOver v c.args.lits.now) (sym w.same_vars) c.requires.1.2

pub add-requires-clause-watchable : goal.add-requires-clause-watchable
add-requires-clause-watchable c high =
    let ready = subst (λ (r : RefuterView). IsReady c.requires.0 c.requires.1.0 r) (sym c.self.view_is) c.requires.1.1 in
    let ground = ready.ground in
    absurd (omega arith)

pub returns-clause-ok : goal.returns-clause-ok
returns-clause-ok c p clauses was =
    let ready = subst (λ (r : RefuterView). IsReady p clauses r) (sym c.self.view_is) was in
    let none = view_none c.self.inside.conflict (sym c.if-is_some.ensures) in
    ready_more p clauses _ _ c.args.lits.now ready none c.in_ok-add.ensures.added refl none (c.in_ok-add.ensures.watching p (ready.live none).1)
