use Rattle.std.proofs.Common.{ℕ, ◌≤◌, ◌+◌, List, Option, length, map, sym, ◌∙◌, subst}
use Rattle.std.specs.Prelude.{All, MatchOption}
use Rattle.std.specs.List.Sorted.{IsStrictlyIncreasing}
use Rattle.dg_base.specs.declared.Lit.{Lit}
use Rattle.cnf_problem.specs.Literals.{IsOver, negated, var}
use Rattle.log_checker.specs.Goodness.{clauses_of}
use Rattle.log_checker.specs.Hints.{AreRight, GoesWrong}
use Rattle.log_checker.specs.Refusals.HintedEntryFails.{bad_hint}
use Rattle.hint_checker.specs.Counting.{literals_of_hints}
use Rattle.hint_checker.proofs.hinted.HintChecker.unit.Goals as goal

pub wrong_hint-wrong-requires-clause-over : goal.wrong_hint-wrong-requires-clause-over
wrong_hint-wrong-requires-clause-over g c = subst (λ z. All (IsOver c.args.problem.now.vars) z) (sym c.as_slice-lits.ensures) c.requires.over

pub wrong_hint-wrong-requires-clause-rising : goal.wrong_hint-wrong-requires-clause-rising
wrong_hint-wrong-requires-clause-rising g c = subst (λ (z : List Lit). IsStrictlyIncreasing (map var z)) (sym c.as_slice-lits.ensures) c.args.entry.now.lemma.rising

pub returns-in-Some-clause-ready : goal.returns-in-Some-clause-ready
returns-in-Some-clause-ready g c = record {
  vars = c.undo_to.ensures.vars ∙ (c.wrong_hint-wrong.ensures.vars ∙ c.requires.ready.vars);
  empty = c.undo_to.ensures.entries ∙ c.wrong_hint-wrong.ensures.above;
  atoms = c.requires.ready.atoms;
}

pub returns-in-Some-clause-refused : goal.returns-in-Some-clause-refused
returns-in-Some-clause-refused g c =
    let p = c.args.problem.now in
    let before = clauses_of c.args.before.now in
    let hints = c.args.hints.now in
    let lits = c.as_slice-lits.result.now in
    let wrong : GoesWrong p before (map negated lits) hints c.in-Some.position =
    subst (λ (o : Option ℕ). MatchOption o (AreRight p before (map negated lits) hints) (λ n. GoesWrong p before (map negated lits) hints n)) c.in-Some.is c.wrong_hint-wrong.ensures.position in
    bad_hint c.in-Some.position c.requires.over c.requires.kind (subst (λ (z : List Lit). GoesWrong p before (map negated z) hints c.in-Some.position) c.as_slice-lits.ensures wrong)

pub returns-in-Some-clause-steps : goal.returns-in-Some-clause-steps
returns-in-Some-clause-steps g c =
    subst (λ (z : List Lit). c.wrong_hint-wrong.new.steps ≤ c.args.steps.now + (length z + literals_of_hints c.args.problem.now (clauses_of c.args.before.now) c.args.hints.now)) c.as_slice-lits.ensures c.wrong_hint-wrong.ensures.steps

pub returns-in-None-clause-ready : goal.returns-in-None-clause-ready
returns-in-None-clause-ready g c = record {
  vars = c.undo_to.ensures.vars ∙ (c.wrong_hint-wrong.ensures.vars ∙ c.requires.ready.vars);
  empty = c.undo_to.ensures.entries ∙ c.wrong_hint-wrong.ensures.above;
  atoms = c.requires.ready.atoms;
}

pub returns-in-None-clause-right : goal.returns-in-None-clause-right
returns-in-None-clause-right g c =
    let p = c.args.problem.now in
    let before = clauses_of c.args.before.now in
    let hints = c.args.hints.now in
    let lits = c.as_slice-lits.result.now in
    let right : AreRight p before (map negated lits) hints =
    subst (λ (o : Option ℕ). MatchOption o (AreRight p before (map negated lits) hints) (λ n. GoesWrong p before (map negated lits) hints n)) c.in-None.is c.wrong_hint-wrong.ensures.position in
    subst (λ (z : List Lit). AreRight p before (map negated z) hints) c.as_slice-lits.ensures right

pub returns-in-None-clause-steps : goal.returns-in-None-clause-steps
returns-in-None-clause-steps g c =
    subst (λ (z : List Lit). c.wrong_hint-wrong.new.steps ≤ c.args.steps.now + (length z + literals_of_hints c.args.problem.now (clauses_of c.args.before.now) c.args.hints.now)) c.as_slice-lits.ensures c.wrong_hint-wrong.ensures.steps
