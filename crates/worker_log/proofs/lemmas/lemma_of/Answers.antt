use Rattle.std.proofs.Common.{List, sym, subst}
use Rattle.dg_base.specs.declared.Lit.{Lit}
use Rattle.cnf_problem.specs.Laws.{IsWithin}
use Rattle.worker_log.proofs.lemmas.lemma_of.Goals as goal

pub returns-clause-same : goal.returns-clause-same
returns-clause-same c = subst (λ (l : List Lit). IsWithin l c.args.lits.now × IsWithin c.args.lits.now l) (sym c.from_vec.ensures) c.in_ok-lits.ensures.same
