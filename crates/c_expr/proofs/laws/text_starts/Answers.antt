use Rattle.c_expr.proofs.Firsts as firsts
use Rattle.c_expr.proofs.laws.text_starts.Goals as goal

pub returns : goal.returns
returns c = λ f n list x. firsts.text_starts
