-- The rule on types and on where things may stand, and the refusal for it.
use Rattle.std.specs.Prelude.{◌≡◌, None, Some}
use Rattle.dg_base.specs.declared.refusal.Refusal.{Refusal}
use Rattle.dg_base.specs.declared.refusal.Refusal.TheVariants as refusal
use Rattle.c_tree.specs.declared.program.Program.{Program}
use Rattle.c_rules.specs.Types.{first_bad_type}

-- no node breaks a rule on types or on where something stands
abbrev pub IsTyped : Program → Type 0
IsTyped program = first_bad_type program ≡ None

-- the refusal for types: the first node that breaks such a rule; want of memory is no refusal of a program
abbrev pub IsTypeRefusal : Program → Refusal → Type 0
IsTypeRefusal program (refusal.BadType p) = first_bad_type program ≡ Some p
IsTypeRefusal program refusal.OutOfMemory = Unit {0}
IsTypeRefusal program _ = ⊥
