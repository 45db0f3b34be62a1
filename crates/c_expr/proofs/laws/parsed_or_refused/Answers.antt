use Rattle.c_expr.proofs.Closers as closers
use Rattle.c_expr.proofs.laws.parsed_or_refused.Goals as goal

pub returns : goal.returns
returns c = λ f n list x s t. closers.parsed_or_refused
