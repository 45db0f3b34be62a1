use Rattle.c_expr.proofs.Closers as closers
use Rattle.c_expr.proofs.laws.text_parses.Goals as goal

pub returns : goal.returns
returns c = λ f n list x t more. closers.text_parses t more
