use Rattle.c_expr.proofs.Closers as closers
use Rattle.c_expr.proofs.laws.closer_ends.Goals as goal

pub returns : goal.returns
returns c = λ f n list x t small. closers.closer_ends small list x t
