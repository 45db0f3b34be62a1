use Rattle.std.proofs.Common.{refl}
use Rattle.c_expr.proofs.Closers as closers
use Rattle.c_expr.proofs.laws.none_before.Goals as goal

pub returns : goal.returns
returns c = λ f n list run more b t u y r s small longest. closers.none_before u r s small longest refl
