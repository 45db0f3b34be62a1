-- The rules behind those on types, as the parts of the check answer; no public contract cites these.
use Rattle.std.specs.Prelude.{◌≡◌, ℕ, Some}
use Rattle.dg_base.specs.declared.refusal.Refusal.{Refusal}
use Rattle.dg_base.specs.declared.refusal.Refusal.TheVariants as refusal
use Rattle.c_tree.specs.declared.program.Program.{Program}
use Rattle.c_check.specs.Sections.{first_unmatched}
use Rattle.c_check.specs.Recursion.{IsFirstRecursive}
use Rattle.c_check.specs.WellFormed.{MatchesSections, IsNotRecursive, KeepsLimits, Exceeds}

abbrev pub IsLimitRefusal : ℕ → Program → Refusal → Type 0
IsLimitRefusal k program (refusal.Limit kind n) = Exceeds k program kind n
IsLimitRefusal k program refusal.OutOfMemory = Unit {0}
IsLimitRefusal k program _ = ⊥

pub record KeepsRest (k : ℕ) (program : Program) : Type 0 where
  pub sections : MatchesSections program
  pub straight : IsNotRecursive program
  pub limits : KeepsLimits k program

abbrev pub IsRestRefusal : ℕ → Program → Refusal → Type 0
IsRestRefusal k program (refusal.UnmatchedAtomic p) = first_unmatched program ≡ Some p
IsRestRefusal k program (refusal.Recursion p) = MatchesSections program × IsFirstRecursive program.items p
IsRestRefusal k program (refusal.Limit kind n) = MatchesSections program × IsNotRecursive program × Exceeds k program kind n
IsRestRefusal k program refusal.OutOfMemory = Unit {0}
IsRestRefusal k program _ = ⊥
