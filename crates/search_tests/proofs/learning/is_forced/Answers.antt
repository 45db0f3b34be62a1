use Rattle.std.proofs.Common.{◌≡◌, sym, subst, take}
use Rattle.std.specs.Prelude.{slice_get, Some}
use Rattle.dg_base.proofs.Lists.{get_map}
use Rattle.cnf_problem.specs.Literals.{var}
use Rattle.trail_state.specs.Trails.{Forced, lit_of, true_lits, reason_of}
use Rattle.trail_state.specs.Forcing.{Forces}
use Rattle.conflict_learn.proofs.Levels.{reason_at}
use Rattle.conflict_learn.proofs.Steps.{once_of}
use Rattle.search_tests.proofs.learning.is_forced.Goals as goal

pub returns-in_default : goal.returns-in_default
returns-in_default c = λ _ id l e.
    let t = c.args.trail.now in
    let at = get_map lit_of t.entries c.args.i (Forced l id) e in
    let here = c.lit_at-lit.ensures in
    let same : l ≡ c.lit_at-lit.result = cc in
    let why = subst (λ z. reason_of (var z) t.entries ≡ Some id) same (reason_at t.entries c.args.i (Forced l id) (once_of t c.len-count.ensures.well) e) in
    let none = c.in_default.ensures in
    absurd (cc)

pub returns-then-has : goal.returns-then-has
returns-then-has c = λ yes id l e.
    let t = c.args.trail.now in
    let clauses = c.args.rules.now.clauses in
    let clause = c.clause-clause.result.now in
    let at = get_map lit_of t.entries c.args.i (Forced l id) e in
    let here = c.lit_at-lit.ensures in
    let same : l ≡ c.lit_at-lit.result = cc in
    let why = subst (λ z. reason_of (var z) t.entries ≡ Some id) same (reason_at t.entries c.args.i (Forced l id) (once_of t c.len-count.ensures.well) e) in
    let some = c.in-Some.ensures in
    let number : c.in-Some.reason.0 ≡ id = cc in
    let named = subst (λ k. slice_get clauses k ≡ Some clause) number c.clause-clause.ensures in
    subst (λ z. Forces clauses id (true_lits (take c.args.i t.entries)) z) (sym same)
    (record { clause = clause; named = named; has = c.has.ensures c.if-has.true; others_false = c.others_before.ensures yes })
