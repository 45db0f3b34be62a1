use Rattle.std.proofs.Common.{◌≡◌, false, true, ap, sym, ◌∙◌, subst}
use Rattle.std.proofs.lemmas.Bool.{eq-eqb}
use Rattle.cnf_problem.proofs.LiteralLaws.{tested_same}
use Rattle.hint_checker.specs.Findings.{IsFinding}
use Rattle.hint_checker.specs.declared.look.Finding.{Finding}
use Rattle.dg_base.specs.declared.Lit.{Lit}
use Rattle.hint_checker.proofs.Looks.{first_unassigned, neither_more, same_unassigned, second_unassigned}
use Rattle.hint_checker.proofs.look.Finding.with_unassigned.Goals as goal

pub returns-in-False : goal.returns-in-False
returns-in-False c lits clause free found = first_unassigned lits clause c.args.lit free (subst (λ (f : Finding). IsFinding lits clause f) c.in-False.is found)

pub returns-then-eq : goal.returns-then-eq
returns-then-eq c lits clause free found =
    same_unassigned lits clause c.args.lit c.in-Gives.other (tested_same c.in-Gives.other c.args.lit c.eq.result c.eq.ensures c.if-eq.true) (subst (λ (f : Finding). IsFinding lits clause f) c.in-Gives.is found)

pub returns-else-eq : goal.returns-else-eq
returns-else-eq c lits clause free found =
    second_unassigned lits clause c.args.lit c.in-Gives.other
    (λ e. let no : false ≡ true = sym c.if-eq.false ∙ (c.eq.ensures ∙ eq-eqb c.in-Gives.other.0 c.args.lit.0 (ap (λ (x : Lit). x.0) e)) in cc)
    free (subst (λ (f : Finding). IsFinding lits clause f) c.in-Gives.is found)

pub returns-in-Neither : goal.returns-in-Neither
returns-in-Neither c lits clause free found = neither_more lits clause c.args.lit (subst (λ (f : Finding). IsFinding lits clause f) c.in-Neither.is found)
