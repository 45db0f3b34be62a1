use Rattle.std.proofs.Common.{◌≡◌, drop}
use Rattle.c_rules.specs.Names.{or_else, functions_of}
use Rattle.c_check.specs.Sections as sections
use Rattle.c_check.proofs.sections.first_unmatched.Given as goal

abbrev pub invariant-loop-item : goal.invariant-loop-item
invariant-loop-item l = or_else l.found (sections.unmatched_in (functions_of (drop l.item-index l.item-items))) ≡ sections.unmatched_in (functions_of l.program.items)
