-- The rules on names, and the first refusal for one.
use Rattle.std.specs.Prelude.{◌≡◌, None, Some, IsTrue, codes}
use Rattle.dg_base.specs.declared.refusal.Refusal.{Refusal}
use Rattle.dg_base.specs.declared.refusal.Refusal.TheVariants as refusal
use Rattle.c_tree.specs.declared.program.Program.{Program}
use Rattle.c_rules.specs.Names.{functions_of, function_named, is_some}
use Rattle.c_rules.specs.Scopes.{first_duplicate, first_unknown}

-- there is a function `main` with a body
abbrev pub HasMain : Program → Type 0
HasMain program = IsTrue (is_some (function_named (functions_of program.items) (codes "main")))

abbrev pub DeclaresOnce : Program → Type 0
DeclaresOnce program = first_duplicate program ≡ None

abbrev pub KnowsNames : Program → Type 0
KnowsNames program = first_unknown program ≡ None

-- the rules on names, in the order in which a broken one is told
pub record IsNamed (program : Program) : Type 0 where
  pub main : HasMain program
  pub once : DeclaresOnce program
  pub known : KnowsNames program

-- the first refusal for a name
abbrev pub IsNameRefusal : Program → Refusal → Type 0
IsNameRefusal program refusal.NoMain = HasMain program → ⊥
IsNameRefusal program (refusal.Duplicate p) = HasMain program × (first_duplicate program ≡ Some p)
IsNameRefusal program (refusal.Unknown p) = HasMain program × DeclaresOnce program × (first_unknown program ≡ Some p)
IsNameRefusal program refusal.OutOfMemory = Unit {0}
IsNameRefusal program _ = ⊥
