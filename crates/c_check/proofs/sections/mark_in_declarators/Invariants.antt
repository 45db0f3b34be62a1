use Rattle.std.proofs.Common.{◌≡◌, drop}
use Rattle.c_rules.specs.Names.{or_else}
use Rattle.c_check.specs.Sections as sections
use Rattle.c_check.proofs.sections.mark_in_declarators.Given as goal

abbrev pub invariant-loop-declarator : goal.invariant-loop-declarator
invariant-loop-declarator l = or_else l.found (sections.mark_in_declarators (drop l.declarator-index l.declarators)) ≡ sections.mark_in_declarators l.declarators
