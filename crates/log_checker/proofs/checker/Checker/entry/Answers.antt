use Rattle.std.proofs.Common.{◌+◌, List, [], ◌∷◌, ◌++◌, ap, sym, ◌∙◌, subst}
use Rattle.std.specs.Prelude.{All}
use Rattle.std.proofs.lemmas.List.Elements.{All-contains}
use Rattle.std.proofs.lemmas.Result.{err_from_is_err_and}
use Rattle.dg_base.specs.declared.Lit.{Lit}
use Rattle.cnf_problem.specs.Literals.{IsOver}
use Rattle.unit_refuter.specs.Refuting.{IsReady, RefuterView}
use Rattle.log_checker.specs.Checking.{CheckerView, HasTaken}
use Rattle.log_checker.specs.Goodness.{clauses_of}
use Rattle.log_checker.specs.Refusals.{IsBadNumber}
use Rattle.log_checker.specs.Refusals.EntryFails.{bad_number}
use Rattle.log_checker.proofs.Taking.{empty_flag, taken_again, taken_more}
use Rattle.log_checker.proofs.checker.Checker.entry.Goals as goal

pub returns-in-Some-clause-refused : goal.returns-in-Some-clause-refused
returns-in-Some-clause-refused c entries taken = bad_number c.in-Some.var (subst (λ (z : List Lit). IsBadNumber c.args.problem.now.vars z c.in-Some.var) c.as_slice-lits.ensures c.in-Some.ensures)

pub follows-requires-clause-over : goal.follows-requires-clause-over
follows-requires-clause-over c = subst (λ (z : List Lit). All (IsOver c.args.problem.now.vars) z) c.as_slice-lits.ensures c.in_default.ensures

pub add-requires : goal.add-requires
add-requires c =
    let p = c.args.problem.now in
    let cs = clauses_of c.requires.taken.0 in
    let back = ap (λ (v : CheckerView). v.refuter) (sym c.self.view_is) in
    let ready = subst (λ (r : RefuterView). IsReady p cs r) back (c.in_ok-follows.ensures.ready cs c.requires.taken.1.refuter) in
    (p, (cs, ready, (λ l m. All-contains (IsOver p.vars) c.as_slice-lits.result.now l c.in_default.ensures m)))

pub returns-in_err-follows-clause-refused : goal.returns-in_err-follows-clause-refused
returns-in_err-follows-clause-refused c =
    let e = err_from_is_err_and c.from_residual.result c.from_residual.ensures.1 in
    rw (e.1, e.2) (λ entries taken. c.in_err-follows.ensures.refused (clauses_of entries) taken.refuter)

pub returns-in_err-follows-clause-err : goal.returns-in_err-follows-clause-err
returns-in_err-follows-clause-err c =
    let e = err_from_is_err_and c.from_residual.result c.from_residual.ensures.1 in
    rw e.1 (λ entries taken. taken_again c.args.problem.now entries c.args.self.now c.follows.new.self taken (c.in_err-follows.ensures.ready (clauses_of entries) taken.refuter) c.in_err-follows.ensures.same)

pub returns-in_err-add-clause-err : goal.returns-in_err-add-clause-err
returns-in_err-add-clause-err c =
    let p = c.args.problem.now in
    let e = err_from_is_err_and c.from_residual-in_err-add.result c.from_residual-in_err-add.ensures.1 in
    rw e.1 (λ entries taken.
    let again = taken_again p entries c.args.self.now c.follows.new.self taken (c.in_ok-follows.ensures.ready (clauses_of entries) taken.refuter) c.in_ok-follows.ensures.same in
    let inside = subst (λ (v : CheckerView). HasTaken p entries v) (sym c.self.view_is) again in
    let view : RefuterView → CheckerView = λ r. record { refuter = r; atoms = c.self.inside.atoms; taken = c.self.inside.taken; ends_empty = c.self.inside.ends_empty } in
    subst (λ (r : RefuterView). HasTaken p entries (view r)) (sym c.in_err-add.ensures.err) inside)

pub returns-clause-follows : goal.returns-clause-follows
returns-clause-follows c entries taken = record {
  variables = subst (λ (z : List Lit). All (IsOver c.args.problem.now.vars) z) c.as_slice-lits.ensures c.in_default.ensures;
  cause = c.in_ok-follows.ensures.follows (clauses_of entries) taken.refuter;
}

pub returns-clause-ok : goal.returns-clause-ok
returns-clause-ok c entries taken =
    let p = c.args.problem.now in
    let e = c.args.entry.now in
    let cs = clauses_of entries in
    let lits = c.as_slice-lits.ensures in
    let back = ap (λ (v : CheckerView). v.refuter) (sym c.self.view_is) in
    let ready = subst (λ (r : RefuterView). IsReady p cs r) back (c.in_ok-follows.ensures.ready cs taken.refuter) in
    let more = subst (λ (z : List Lit). IsReady p (cs ++ z ∷ []) c.add.new.self) lits (c.in_ok-add.ensures.ok p cs ready) in
    let same = c.self.view_is ∙ c.in_ok-follows.ensures.same in
    let new : CheckerView = record { refuter = c.add.new.self; atoms = c.self.inside.atoms; taken = c.self.inside.taken + 1; ends_empty = c.is_empty-self-inside.result } in
    let flag = empty_flag c.is_empty-self-inside.result c.as_slice-lits.result.now c.is_empty-self-inside.ensures in
    taken_more p entries e c.args.self.now new taken
    (record { variables = subst (λ (z : List Lit). All (IsOver p.vars) z) lits c.in_default.ensures; cause = c.in_ok-follows.ensures.follows cs taken.refuter })
    more (ap (λ (v : CheckerView). v.atoms) same) (ap (λ (v : CheckerView). v.taken + 1) same)
    ((λ t. sym lits ∙ flag.0 t), (λ h. flag.1 (lits ∙ h)))
