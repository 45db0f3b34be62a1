use Rattle.std.proofs.Common.{◌≡◌, drop}
use Rattle.exec_check.specs.ThreadTests as tests
use Rattle.exec_check.proofs.parts.unknown.Given as goal

abbrev pub invariant-loop-part : goal.invariant-loop-part
invariant-loop-part l = tests.first_not (tests.is_known l.functions) tests.handle_of (drop l.part-index l.parts) ≡ tests.first_not (tests.is_known l.functions) tests.handle_of l.parts
