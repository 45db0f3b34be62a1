use Rattle.std.proofs.Common.{List, ◌++◌, map, ap, sym, subst}
use Rattle.std.specs.Prelude.{All}
use Rattle.std.specs.List.Sorted.{IsStrictlyIncreasing}
use Rattle.dg_base.specs.declared.Lit.{Lit}
use Rattle.cnf_problem.specs.Chains.{ReachesConflict}
use Rattle.cnf_problem.specs.Literals.{IsOver, negated, var}
use Rattle.unit_refuter.specs.Refuting.{IsReady, IsRest, RefuterView}
use Rattle.log_checker.specs.Checking.{CheckerView}
use Rattle.log_checker.specs.Refusals.EntryFails.{not_implied}
use Rattle.log_checker.proofs.checker.Checker.unit.Goals as goal

pub refute-denied-requires-clause-ready : goal.refute-denied-requires-clause-ready
refute-denied-requires-clause-ready c =
    let back = ap (λ (v : CheckerView). v.refuter) (sym c.self.view_is) in
    (c.requires.ready.0, subst (λ (r : RefuterView). IsReady c.args.problem.now c.requires.ready.0 r) back c.requires.ready.1)

pub refute-denied-requires-clause-clause : goal.refute-denied-requires-clause-clause
refute-denied-requires-clause-clause c = record {
  over = subst (λ z. All (IsOver c.args.problem.now.vars) z) (sym c.as_slice.ensures) c.requires.over;
  rising = subst (λ (z : List Lit). IsStrictlyIncreasing (map var z)) (sym c.as_slice.ensures) c.args.entry.now.lemma.rising;
}

pub returns-in-Satisfied-clause-same : goal.returns-in-Satisfied-clause-same
returns-in-Satisfied-clause-same c = ap (λ (v : CheckerView). let w : CheckerView = record v { refuter = c.restore.new.self } in w) c.self.view_is

pub returns-in-Satisfied-clause-ready : goal.returns-in-Satisfied-clause-ready
returns-in-Satisfied-clause-ready c clauses ready =
    let back = ap (λ (v : CheckerView). v.refuter) (sym c.self.view_is) in
    c.restore.ensures c.args.problem.now clauses (c.in-Satisfied.ensures.raised clauses (subst (λ (r : RefuterView). IsReady c.args.problem.now clauses r) back ready))

pub returns-in-Satisfied-clause-follows : goal.returns-in-Satisfied-clause-follows
returns-in-Satisfied-clause-follows c clauses ready =
    let back = ap (λ (v : CheckerView). v.refuter) (sym c.self.view_is) in
    let said = c.in-Satisfied.ensures.outcome clauses (subst (λ (r : RefuterView). IsReady c.args.problem.now clauses r) back ready) in
    subst (λ z. ReachesConflict (c.args.problem.now.clauses ++ clauses) (map negated z)) c.as_slice.ensures said.1

pub returns-in-Conflict-clause-same : goal.returns-in-Conflict-clause-same
returns-in-Conflict-clause-same c = ap (λ (v : CheckerView). let w : CheckerView = record v { refuter = c.restore-in-Conflict.new.self } in w) c.self.view_is

pub returns-in-Conflict-clause-ready : goal.returns-in-Conflict-clause-ready
returns-in-Conflict-clause-ready c clauses ready =
    let back = ap (λ (v : CheckerView). v.refuter) (sym c.self.view_is) in
    c.restore-in-Conflict.ensures c.args.problem.now clauses (c.in-Conflict.ensures.raised clauses (subst (λ (r : RefuterView). IsReady c.args.problem.now clauses r) back ready))

pub returns-in-Conflict-clause-follows : goal.returns-in-Conflict-clause-follows
returns-in-Conflict-clause-follows c clauses ready =
    let back = ap (λ (v : CheckerView). v.refuter) (sym c.self.view_is) in
    let said = c.in-Conflict.ensures.outcome clauses (subst (λ (r : RefuterView). IsReady c.args.problem.now clauses r) back ready) in
    subst (λ z. ReachesConflict (c.args.problem.now.clauses ++ clauses) (map negated z)) c.as_slice.ensures said.1

pub returns-in_err-reached-in-Rest-clause-same : goal.returns-in_err-reached-in-Rest-clause-same
returns-in_err-reached-in-Rest-clause-same c = ap (λ (v : CheckerView). let w : CheckerView = record v { refuter = c.restore-in-Rest.new.self } in w) c.self.view_is

pub returns-in_err-reached-in-Rest-clause-ready : goal.returns-in_err-reached-in-Rest-clause-ready
returns-in_err-reached-in-Rest-clause-ready c clauses ready =
    let back = ap (λ (v : CheckerView). v.refuter) (sym c.self.view_is) in
    c.restore-in-Rest.ensures c.args.problem.now clauses (c.in-Rest.ensures.raised clauses (subst (λ (r : RefuterView). IsReady c.args.problem.now clauses r) back ready))

pub returns-in_ok-reached-in-Rest-clause-same : goal.returns-in_ok-reached-in-Rest-clause-same
returns-in_ok-reached-in-Rest-clause-same c = ap (λ (v : CheckerView). let w : CheckerView = record v { refuter = c.restore-in-Rest.new.self } in w) c.self.view_is

pub returns-in_ok-reached-in-Rest-clause-ready : goal.returns-in_ok-reached-in-Rest-clause-ready
returns-in_ok-reached-in-Rest-clause-ready c clauses ready =
    let back = ap (λ (v : CheckerView). v.refuter) (sym c.self.view_is) in
    c.restore-in-Rest.ensures c.args.problem.now clauses (c.in-Rest.ensures.raised clauses (subst (λ (r : RefuterView). IsReady c.args.problem.now clauses r) back ready))

pub returns-in_ok-reached-in-Rest-clause-refused : goal.returns-in_ok-reached-in-Rest-clause-refused
returns-in_ok-reached-in-Rest-clause-refused c clauses ready =
    let cs = c.args.problem.now.clauses ++ clauses in
    let reached = c.in_ok-reached-in-Rest.field-0 in
    let back = ap (λ (v : CheckerView). v.refuter) (sym c.self.view_is) in
    let said = c.in-Rest.ensures.outcome clauses (subst (λ (r : RefuterView). IsReady c.args.problem.now clauses r) back ready) in
    let rest = subst (λ (z : List Lit). IsRest cs z reached) c.as_slice.ensures (subst (λ (z : List Lit). IsRest cs c.as_slice.result.now z) (sym c.in_ok-reached-in-Rest.ensures) said) in
    not_implied reached c.requires.over c.requires.kind rest
