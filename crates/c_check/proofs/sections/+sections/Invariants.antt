use Rattle.std.proofs.Common.{◌≡◌, drop, map, false}
use Rattle.c_rules.specs.Names.{or_else}
use Rattle.c_check.specs.Sections as sections
use Rattle.c_check.proofs.sections.+sections.Given as goal

abbrev pub invariant-broken_in_block-loop-i : goal.invariant-broken_in_block-loop-i
invariant-broken_in_block-loop-i l = or_else l.found (sections.in_block l.opened l.inside (map sections.sectioned (drop l.i l.body))) ≡ sections.in_block false l.inside (map sections.sectioned l.body)
