use Rattle.std.proofs.Common.{◌≡◌, List, sym, subst}
use Rattle.std.specs.Prelude.{Contains}
use Rattle.dg_base.specs.declared.Lit.{Lit}
use Rattle.cnf_problem.specs.Literals.{negated}
use Rattle.cnf_problem.specs.Chains.{IsUnassigned}
use Rattle.cnf_problem.proofs.LiteralLaws.{negated-negated}
use Rattle.trail_state.specs.Trails.{true_lits}
use Rattle.search_tests.proofs.propagation.scanning.either.Goals as goal

-- a literal's negation is unassigned with it
free_negated : (lits : List Lit) (l m : Lit) → m ≡ negated l → IsUnassigned lits l → IsUnassigned lits m
free_negated lits l m e free =
    subst (λ z. IsUnassigned lits z) (sym e) (free.1, λ there. free.0 (subst (λ z. Contains lits z) (negated-negated l) there))

pub returns-else-below-eq0-clause-free : goal.returns-else-below-eq0-clause-free
returns-else-below-eq0-clause-free c =
    free_negated (true_lits c.args.trail.now.entries) c.args.lit c.negated.result c.negated.ensures.value c.requires.free
