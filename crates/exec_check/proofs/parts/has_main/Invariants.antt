use Rattle.std.proofs.Common.{◌≡◌, drop}
use Rattle.std.specs.List.{list_any}
use Rattle.exec_check.specs.ThreadTests as tests
use Rattle.exec_check.proofs.parts.has_main.Given as goal

abbrev pub invariant-loop-part : goal.invariant-loop-part
invariant-loop-part l = list_any (tests.is_main l.main) (drop l.part-index l.parts) ≡ list_any (tests.is_main l.main) l.parts
