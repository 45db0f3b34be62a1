use Rattle.c_expr.proofs.TypeWords as types
use Rattle.c_expr.proofs.laws.types_by_words.Goals as goal

pub returns : goal.returns
returns c = types.types_by_words
