use Rattle.std.proofs.Common.{◌≡◌, drop, map}
use Rattle.c_check.specs.Sections as sections
use Rattle.c_check.proofs.sections.some_marked.Given as goal

abbrev pub invariant-loop-stmt : goal.invariant-loop-stmt
invariant-loop-stmt l = sections.some_marked (map sections.sectioned (drop l.stmt-index l.body)) ≡ sections.some_marked (map sections.sectioned l.body)
