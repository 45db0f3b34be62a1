use Rattle.std.proofs.Common.{ℕ, refl, sym, subst}
use Rattle.trail_state.specs.Forcing.{IsConflict}
use Rattle.trail_state.specs.Trails.{true_lits}
use Rattle.clause_store.specs.Stores.{clauses_of}
use Rattle.unit_refuter.specs.Refuting.{IsReady, IsSettledToo, RefuterView}
use Rattle.unit_refuter.specs.contracts.refuter.Refuter.{the_view}
use Rattle.unit_refuter.specs.declared.refuter.Refuter.TheInside.{Inside}
use Rattle.unit_refuter.proofs.Raising.{settled_by, settled_closed}
use Rattle.unit_refuter.proofs.Views.{rest_from, some_from, view_none, view_some}
use Rattle.unit_refuter.proofs.refuter.Refuter.settle.Goals.{then-is_none, else-is_none}
use Rattle.unit_refuter.proofs.refuter.Refuter.settle.Goals as goal

pub propagate-self-inside-requires : goal.propagate-self-inside-requires
propagate-self-inside-requires c =
    let ready = subst (λ (r : RefuterView). IsReady c.args.problem.now c.requires.0 r) (sym c.self.view_is) c.requires.1 in
    record { watching = (ready.live (view_none c.self.inside.conflict c.if-is_none.ensures)).1 }

pub returns-clause-settled : goal.returns-clause-settled
returns-clause-settled c clauses was =
    let p = c.args.problem.now in
    let ready = subst (λ (r : RefuterView). IsReady p clauses r) (sym c.self.view_is) was in
    elim c.if-is_none.branch [
      | then-is_none w ↦
          let by = w.propagate-self-inside.ensures in
          let after = w.propagate-self-inside.new.trail in
          subst (λ (i : Inside). IsSettledToo p clauses (the_view i)) (sym w.self-inside-is)
          (settled_by p clauses (the_view c.self.inside) _ ready (view_none c.self.inside.conflict w.if-is_none.ensures) by.added by.forced
          (rest_from w.propagate-self-inside.result by.none by.watching by.settled)
          (some_from (λ (n : ℕ). IsConflict (clauses_of p c.self.inside.store) n (true_lits after.entries)) w.propagate-self-inside.result by.some))
      | else-is_none w ↦
          subst (λ (i : Inside). IsSettledToo p clauses (the_view i)) (sym w.self-inside-is)
          (settled_closed p clauses (the_view c.self.inside) ready (view_some c.self.inside.conflict w.if-is_none.ensures))
    ]

pub returns-clause-told : goal.returns-clause-told
returns-clause-told c = refl
