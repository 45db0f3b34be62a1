use Rattle.std.proofs.Common.{take}
use Rattle.std.specs.List.{AllZip}
use Rattle.bv_term.specs.Values.{IsConstant, Grows}
use Rattle.ssa_form.proofs.assign.initials.Given as goal

abbrev pub invariant-loop-value : goal.invariant-loop-value
invariant-loop-value l = record { constants : AllZip (λ v t. IsConstant l.terms t v) (take l.value-index l.values) l.initials; grows : Grows l.initial.terms l.terms }
