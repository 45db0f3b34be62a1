use Rattle.dg_base.proofs.Lists.{not_none}
use Rattle.clause_store.specs.Stores.{clauses_of}
use Rattle.unit_refuter.proofs.Chaining.{ground_derived}
use Rattle.unit_refuter.proofs.Raising.{outcome_closed, settled_raised}
use Rattle.unit_refuter.proofs.refuter.Refuter.refute.Goals as goal

pub settle-requires : goal.settle-requires
settle-requires c = c.requires.ready

pub deny-requires-clause-settled : goal.deny-requires-clause-settled
deny-requires-clause-settled c = (c.requires.ready.0, c.settle.ensures.settled c.requires.ready.0 c.requires.ready.1)

pub deny-requires-clause-live : goal.deny-requires-clause-live
deny-requires-clause-live c = c.in-None.ensures.told

pub deny-requires-clause-clause : goal.deny-requires-clause-clause
deny-requires-clause-clause c = c.requires.clause

pub returns-in-Some-clause-outcome : goal.returns-in-Some-clause-outcome
returns-in-Some-clause-outcome c clauses ready =
    outcome_closed c.args.problem.now clauses c.settle.new.self c.args.lits.now c.in-Some.clause (c.settle.ensures.settled clauses ready) c.in-Some.ensures.told

pub returns-in-Some-clause-derived : goal.returns-in-Some-clause-derived
returns-in-Some-clause-derived c =
    let s = c.settle.ensures.settled c.requires.ready.0 c.requires.ready.1 in
    ground_derived (clauses_of c.args.problem.now c.settle.new.self.store) c.args.lits.now c.settle.new.self.trail.entries s.ready.ground s.ready.forced

pub returns-in-Some-clause-raised : goal.returns-in-Some-clause-raised
returns-in-Some-clause-raised c clauses ready =
    let s = c.settle.ensures.settled clauses ready in
    settled_raised c.args.problem.now clauses c.settle.new.self s.ready (λ none. absurd (not_none c.settle.new.self.conflict c.in-Some.clause.0 none c.in-Some.ensures.told))

pub returns-in-None-clause-outcome : goal.returns-in-None-clause-outcome
returns-in-None-clause-outcome c clauses ready = c.deny.ensures.outcome clauses (c.settle.ensures.settled clauses ready)

pub returns-in-None-clause-derived : goal.returns-in-None-clause-derived
returns-in-None-clause-derived c = c.deny.ensures.derived

pub returns-in-None-clause-raised : goal.returns-in-None-clause-raised
returns-in-None-clause-raised c clauses ready = c.deny.ensures.raised clauses (c.settle.ensures.settled clauses ready)
