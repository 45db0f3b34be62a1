-- What a well formed program is, and the first refusal of one that is not.
use Rattle.std.specs.Prelude.{◌≡◌, ◌≤◌, ℕ, Some, None}
use Rattle.dg_base.specs.declared.refusal.Refusal.{Refusal}
use Rattle.dg_base.specs.declared.refusal.Refusal.TheVariants as refusal
use Rattle.dg_base.specs.declared.refusal.LimitKind.{LimitKind}
use Rattle.c_tree.specs.Level.{capped}
use Rattle.c_tree.specs.declared.program.Program.{Program}
use Rattle.c_check.specs.declared.checked.Checked.{Checked}
use Rattle.c_rules.specs.Naming.{HasMain, DeclaresOnce, KnowsNames, IsNamed, IsNameRefusal}
use Rattle.c_rules.specs.Types.{first_bad_type}
use Rattle.c_rules.specs.Typing.{IsTyped}
use Rattle.c_check.specs.Sections.{first_unmatched}
use Rattle.c_check.specs.Recursion.{NoRecursion, IsFirstRecursive}
use Rattle.c_check.specs.Limits.{Limited, exceeds}
use Rattle.c_check.specs.Checked.{function_names, cells_of}

-- the rules behind those on names and types, in the order in which a broken one is told
abbrev pub MatchesSections : Program → Type 0
MatchesSections program = first_unmatched program ≡ None

abbrev pub IsNotRecursive : Program → Type 0
IsNotRecursive program = NoRecursion program.items

abbrev pub KeepsLimits : ℕ → Program → Type 0
KeepsLimits k program = exceeds k program ≡ None

-- well formed for a loop bound
pub record IsWellFormed (k : ℕ) (program : Program) : Type 0 where
  pub main : HasMain program
  pub once : DeclaresOnce program
  pub known : KnowsNames program
  pub typed : IsTyped program
  pub sections : MatchesSections program
  pub straight : IsNotRecursive program
  pub limits : KeepsLimits k program

-- a limit is told with its count, and a count above the largest u32 as that number
pub record Exceeds (k : ℕ) (program : Program) (kind : LimitKind) (count : ℕ) : Type 0 where
  pub limited : Limited
  pub first : exceeds k program ≡ Some limited
  pub same_kind : limited.kind ≡ kind
  pub told : count ≡ capped limited.count

-- The first refusal of a program: the first rule that is broken, where it is first broken. Want of memory is no refusal of a
-- program, and the first three are not of trees.
abbrev pub IsFirstRefusal : ℕ → Program → Refusal → Type 0
IsFirstRefusal k program refusal.NoMain = IsNameRefusal program refusal.NoMain
IsFirstRefusal k program (refusal.Duplicate p) = IsNameRefusal program (refusal.Duplicate p)
IsFirstRefusal k program (refusal.Unknown p) = IsNameRefusal program (refusal.Unknown p)
IsFirstRefusal k program (refusal.BadType p) = IsNamed program × (first_bad_type program ≡ Some p)
IsFirstRefusal k program (refusal.UnmatchedAtomic p) =
    IsNamed program × IsTyped program × (first_unmatched program ≡ Some p)
IsFirstRefusal k program (refusal.Recursion p) =
    IsNamed program × IsTyped program × MatchesSections program
    × IsFirstRecursive program.items p
IsFirstRefusal k program (refusal.Limit kind n) =
    IsNamed program × IsTyped program × MatchesSections program
    × IsNotRecursive program × Exceeds k program kind n
IsFirstRefusal k program refusal.OutOfMemory = Unit {0}
IsFirstRefusal k program (refusal.BadByte p) = ⊥
IsFirstRefusal k program (refusal.Unsupported p w) = ⊥
IsFirstRefusal k program (refusal.Syntax p) = ⊥

-- a bound of the loops: from 1 to 64
abbrev pub IsBound : ℕ → Type 0
IsBound k = (1 ≤ k) × (k ≤ 64)

-- a checked program: it is well formed for its bound, and its lists are the program's
pub record IsChecked (checked : Checked) : Type 0 where
  pub bound : IsBound checked.k
  pub well_formed : IsWellFormed checked.k checked.program
  pub functions : checked.functions ≡ function_names checked.program
  pub cells : checked.cells ≡ cells_of checked.program
