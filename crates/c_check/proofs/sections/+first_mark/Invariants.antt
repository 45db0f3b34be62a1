use Rattle.std.proofs.Common.{◌≡◌, drop, map}
use Rattle.c_rules.specs.Names.{or_else}
use Rattle.c_rules.specs.Scopes.{first_of}
use Rattle.c_check.specs.Sections.{first_mark}
use Rattle.c_check.proofs.sections.+first_mark.Given as goal

abbrev pub invariant-first_mark_of-loop-expr : goal.invariant-first_mark_of-loop-expr
invariant-first_mark_of-loop-expr l = or_else l.found (first_of (map first_mark (drop l.expr-index l.exprs))) ≡ first_of (map first_mark l.exprs)
