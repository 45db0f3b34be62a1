-- Names that a text of lines and words can tell apart.
use Rattle.std.specs.Prelude.{◌≡◌, ◌≢◌, ℕ, Bool, true, false, ◌==◌, if◌then◌else◌, List, [], ◌∷◌, map}
use Rattle.std.specs.List.{AllByRecursion}
use Rattle.c_check.specs.declared.checked.CellInfo.{CellInfo}

-- the names of the cells, in their order
abbrev pub cell_names : List CellInfo → List (List ℕ)
cell_names cells = map (λ (cell : CellInfo). cell.name) cells

-- whether a byte does not stand in a text
abbrev pub lacks : ℕ → List ℕ → Bool
lacks b [] = true
lacks b (x ∷ xs) = if x == b then false else lacks b xs

abbrev pub AreDistinct : List (List ℕ) → Type 0
AreDistinct [] = Unit {0}
AreDistinct (x ∷ xs) = AllByRecursion (λ y. x ≢ y) xs × AreDistinct xs

-- No name of a function holds a blank or a line feed, and none comes twice; no name of a cell holds a line feed.
pub record HasPlainNames (functions cells : List (List ℕ)) : Type 0 where
  pub no_blank : AllByRecursion (λ name. lacks 32 name ≡ true) functions
  pub no_feed : AllByRecursion (λ name. lacks 10 name ≡ true) functions
  pub distinct : AreDistinct functions
  pub no_feed_in_cells : AllByRecursion (λ name. lacks 10 name ≡ true) cells
