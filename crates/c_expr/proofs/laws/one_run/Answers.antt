use Rattle.c_expr.proofs.OneRun as runs
use Rattle.c_expr.proofs.laws.one_run.Goals as goal

pub returns : goal.returns
returns c = λ f n list a b s t x y. runs.one_run x y
