-- Calls as lists of numbers, one list for each item; no public contract cites these.
use Rattle.std.specs.Prelude.{ℕ, ◌+◌, ◌<◌, List, [], ◌∷◌, ◌++◌, map, length, slice_get, Option, Some, None}
use Rattle.std.specs.List.{Contains, filter_map}
use Rattle.c_tree.specs.declared.program.Item.{Item}
use Rattle.c_tree.specs.declared.program.Item.TheVariants as item
use Rattle.c_rules.specs.Names.{Name}
use Rattle.c_check.specs.Recursion.{number_of, called_by}

-- the functions that names stand for, by their numbers; built-in names stand for none
unfoldable pub numbers_of : List Item → List Name → List ℕ
numbers_of items names = filter_map (number_of items) names

-- what an item calls
abbrev pub callees_in : List Item → Item → List ℕ
callees_in items (item.Function f) = numbers_of items (called_by f)
callees_in items (item.Prototype p w n) = []
callees_in items (item.Shared d) = []

-- what each item calls
abbrev pub callees_of : List Item → List (List ℕ)
callees_of items = map (callees_in items) items

abbrev pub row_or_none : Option (List ℕ) → List ℕ
row_or_none None = []
row_or_none (Some r) = r

-- what a number leads to
abbrev pub row_at : List (List ℕ) → ℕ → List ℕ
row_at rows i = row_or_none (slice_get rows i)

-- the rows lead from one number to another
pub data Path (rows : List (List ℕ)) : ℕ → ℕ → Type 0 where
  one : {i j : ℕ} → Contains (row_at rows i) j → Path rows i j
  next : {i m j : ℕ} → Contains (row_at rows i) m → Path rows m j → Path rows i j

-- the rows have only numbers of rows
abbrev pub IsClosed : List (List ℕ) → Type 0
IsClosed rows = (i j : ℕ) → Contains (row_at rows i) j → j < length rows

-- the first number from which the rows lead back to it
pub record IsFirstBack (rows : List (List ℕ)) (i : ℕ) : Type 0 where
  pub back : Path rows i i
  pub first : (j : ℕ) → j < i → Path rows j j → ⊥

-- the rows as pairs of numbers, the first row being that of i
abbrev pub edges_from : ℕ → List (List ℕ) → List (ℕ × ℕ)
edges_from i [] = []
edges_from i (r ∷ rs) = map (λ j. (i, j)) r ++ edges_from (i + 1) rs
