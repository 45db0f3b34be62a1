use Rattle.std.proofs.Common.{List, [], ◌∷◌, ◌∙◌, ap, sym, subst, refl}
use Rattle.std.specs.Prelude.{Contains}
use Rattle.std.proofs.lemmas.List.Elements.{Contains-append_right}
use Rattle.dg_base.proofs.Lists.{contains_head}
use Rattle.dg_base.specs.declared.Lit.{Lit}
use Rattle.cnf_problem.specs.Formulas.{Formula}
use Rattle.search_tests.proofs.Readiness.{follows_clause}
use Rattle.search_tests.proofs.exchange.rows.wide_problem.Goals as goal

pub returns-clause-follows : goal.returns-clause-follows
returns-clause-follows c =
    let lits = c.three_lits-lits.result in
    let clauses = c.in_ok-problem.ensures.formula.1 ∙ ap (λ (f : Formula). f.clauses) c.in_ok-clause.ensures.ok in
    follows_clause c.in_ok-problem.problem _ lits (subst (λ (cs : List (List Lit)). Contains cs lits) (sym clauses) (Contains-append_right c.in_ok-gates.gates.clauses (lits ∷ []) lits (contains_head lits []))) c.in_ok-from_slice.ensures refl
