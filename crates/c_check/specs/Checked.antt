-- What is told of a well formed program beside its tree: its functions and its shared cells, in the order of the text.
use Rattle.std.specs.Prelude.{ℕ, zero, suc, ◌+◌, List, [], ◌∷◌, ◌++◌, map, slice_get, Option, Some, None, codes, decimal}
use Rattle.c_tree.specs.Constants.{constant_value}
use Rattle.c_tree.specs.declared.expr.Expr.{Expr}
use Rattle.c_tree.specs.declared.stmt.Initialiser.{Initialiser}
use Rattle.c_tree.specs.declared.stmt.Initialiser.TheVariants.{One, Braces}
use Rattle.c_tree.specs.declared.stmt.Declarator.{Declarator}
use Rattle.c_tree.specs.declared.program.Function.{Function}
use Rattle.c_tree.specs.declared.program.Item.{Item}
use Rattle.c_tree.specs.declared.program.Item.TheVariants as item
use Rattle.c_tree.specs.declared.program.Program.{Program}
use Rattle.c_check.specs.declared.checked.CellInfo.{CellInfo}
use Rattle.c_rules.specs.Names.{Name, functions_of}
use Rattle.c_rules.specs.Walk.{cells_of_size}

abbrev pub function_names : Program → List Name
function_names program = map (λ (f : Function). f.name) (functions_of program.items)

abbrev pub cell_info : Name → ℕ → CellInfo
cell_info n v = record { name = n; initial = v }

-- a[3]
abbrev pub indexed : Name → ℕ → Name
indexed n i = n ++ (codes "[" ++ (decimal i ++ codes "]"))

-- the values that a variable begins with, as far as they are written
abbrev pub first_values : Option Initialiser → List Expr
first_values None = []
first_values (Some (One x)) = x ∷ []
first_values (Some (Braces xs)) = xs

-- the value that is written for a cell, or 0
abbrev pub value_or_none : Option Expr → ℕ
value_or_none None = 0
value_or_none (Some x) = constant_value x

abbrev pub value_at : List Expr → ℕ → ℕ
value_at xs i = value_or_none (slice_get xs i)

-- as many cells of an array as the first number says, from the cell i on
abbrev pub array_cells : ℕ → Name → ℕ → List Expr → List CellInfo
array_cells zero n i xs = []
array_cells (suc m) n i xs = cell_info (indexed n i) (value_at xs i) ∷ array_cells m n (i + 1) xs

abbrev pub variable_cells : Name → Option ℕ → List Expr → List CellInfo
variable_cells n None xs = cell_info n (value_at xs 0) ∷ []
variable_cells n (Some m) xs = array_cells m n 0 xs

abbrev pub cells_of_declarators : List Declarator → List CellInfo
cells_of_declarators [] = []
cells_of_declarators (d ∷ ds) = variable_cells d.name (cells_of_size d.size) (first_values d.initialiser) ++ cells_of_declarators ds

abbrev pub cells_of_items : List Item → List CellInfo
cells_of_items [] = []
cells_of_items (item.Function f ∷ xs) = cells_of_items xs
cells_of_items (item.Prototype p w n ∷ xs) = cells_of_items xs
cells_of_items (item.Shared d ∷ xs) = cells_of_declarators d.declarators ++ cells_of_items xs

-- the shared cells with the values that they begin with
abbrev pub cells_of : Program → List CellInfo
cells_of program = cells_of_items program.items
