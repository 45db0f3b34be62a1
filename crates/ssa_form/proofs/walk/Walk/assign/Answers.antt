use Rattle.std.proofs.Common.{ap, sym, subst, get_or, List, Some, None}
use Rattle.bv_term.specs.declared.term.TermId.{TermId}
use Rattle.ssa_form.specs.States.{IsChanged}
use Rattle.ssa_form.proofs.Growing.{assigned, the_guard, other_guard}
use Rattle.ssa_form.proofs.walk.Walk.assign.Goals as goal

pub returns-then-guard-to : goal.returns-then-guard-to
returns-then-guard-to c =
    let a = c.args.self.now in
    let g = the_guard a c.args.guard c.requires.walk c.requires.last in
    subst (λ (vs : List TermId). IsChanged a (record a { terms = c.make.new.self; values = vs; last = None }) c.args.guard (Some c.args.to) c.args.term) (sym c.set.ensures)
    (assigned a c.make.new.self c.args.guard c.args.to c.args.term _ c.in_ok-value.value (record { 0 = 0 }) None c.requires.walk g c.requires.to c.requires.term
    (ap (λ l. get_or l c.args.to (record { 0 = 0 })) c.as_slice.ensures) c.in_ok-value.ensures.grows c.in_ok-value.ensures.listed c.in_ok-value.ensures.value tt)

pub returns-else-guard-to : goal.returns-else-guard-to
returns-else-guard-to c =
    let a = c.args.self.now in
    let g = the_guard a c.args.guard c.requires.walk c.requires.last in
    subst (λ (vs : List TermId). IsChanged a (record a { terms = c.make.new.self; values = vs; last = a.last }) c.args.guard (Some c.args.to) c.args.term) (sym c.set.ensures)
    (assigned a c.make.new.self c.args.guard c.args.to c.args.term _ c.in_ok-value.value (record { 0 = 0 }) a.last c.requires.walk g c.requires.to c.requires.term
    (ap (λ l. get_or l c.args.to (record { 0 = 0 })) c.as_slice.ensures) c.in_ok-value.ensures.grows c.in_ok-value.ensures.listed c.in_ok-value.ensures.value
    (other_guard a c.make.new.self c.args.guard c.args.to c.in_ok-value.value a.last c.requires.walk g c.in_ok-value.ensures.grows c.if-guard-to.false c.requires.last))
