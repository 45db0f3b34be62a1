-- An order of the items in which calls lead forward; no public contract cites it.
use Rattle.std.specs.Prelude.{◌≡◌, ◌≤◌, ◌+◌, ℕ, List, length, slice_get, Some}
use Rattle.std.specs.List.{Contains}
use Rattle.axiom_model.specs.Sorting.{IsOrderOf, GoesForward}
use Rattle.dg_base.specs.declared.refusal.Refusal.{Refusal}
use Rattle.dg_base.specs.declared.refusal.Refusal.TheVariants as refusal
use Rattle.c_tree.specs.declared.program.Item.{Item}
use Rattle.c_check.specs.Recursion.{NoRecursion, IsFirstRecursive}
use Rattle.c_check.specs.Graph.{row_at, callees_of}
use Rattle.c_check.specs.declared.counts.Counts.{Counts}
use Rattle.c_check.specs.Counts.{counts_within}
use Rattle.c_check.specs.Capped.{capped_counts, table_at}

-- each row leads to later places of the order only
pub record IsRowOrder (rows : List (List ℕ)) (order : List ℕ) : Type 0 where
  pub whole : IsOrderOf (length rows) order
  pub forward : (i j : ℕ) → Contains (row_at rows i) j → GoesForward order (i, j)

-- there is no recursion, and callees stand behind their callers
pub record IsCallOrder (items : List Item) (order : List ℕ) : Type 0 where
  pub straight : NoRecursion items
  pub ordered : IsRowOrder (callees_of items) order

-- the refusal of recursion
abbrev pub IsRecursionRefusal : List Item → Refusal → Type 0
IsRecursionRefusal items (refusal.Recursion p) = IsFirstRecursive items p
IsRecursionRefusal items refusal.OutOfMemory = Unit {0}
IsRecursionRefusal items _ = ⊥

-- the table has what stands from this place of the order on, for all fuel that is enough
pub record Holds (k : ℕ) (items : List Item) (order : List ℕ) (table : List Counts) (from : ℕ) : Type 0 where
  pub size : length table ≡ length items
  pub within : from ≤ length order
  pub right : (p v m : ℕ) → slice_get order p ≡ Some v → from ≤ p → length order ≤ m + from → table_at table v ≡ capped_counts (counts_within m k items v)
