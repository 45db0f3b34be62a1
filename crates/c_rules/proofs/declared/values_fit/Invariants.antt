use Rattle.std.proofs.Common.{◌≡◌, drop}
use Rattle.c_rules.specs.Types as types
use Rattle.c_rules.proofs.declared.values_fit.Given as goal

abbrev pub invariant-loop-value : goal.invariant-loop-value
invariant-loop-value l = types.values_fit l.top l.word (drop l.value-index l.values) ≡ types.values_fit l.top l.word l.values
