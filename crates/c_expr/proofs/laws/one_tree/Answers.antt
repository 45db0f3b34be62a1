use Rattle.c_expr.proofs.Longest as longest
use Rattle.c_expr.proofs.laws.one_tree.Goals as goal

pub returns : goal.returns
returns c = longest.one_tree
