use Rattle.c_expr.proofs.Closers as closers
use Rattle.c_expr.proofs.laws.one_parse.Goals as goal

pub returns : goal.returns
returns c = λ f n list x y s t. closers.one_parse
