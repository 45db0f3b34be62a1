use Rattle.c_expr.proofs.Closers as closers
use Rattle.c_expr.proofs.laws.one_before.Goals as goal

pub returns : goal.returns
returns c = λ f n a b x y t u r s. closers.one_before t u r s
