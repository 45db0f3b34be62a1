-- What a run needs of a program, and what the memory models see of it. Shared cells are numbered in the order of the text.
use Rattle.std.specs.Prelude.{ℕ, ◌+◌, List, [], ◌∷◌, ◌++◌, length, map, codes, unwrap_or}
use Rattle.axiom_model.specs.WellMade.{Shape}
use Rattle.c_tree.specs.declared.expr.TypeWord.{TypeWord}
use Rattle.c_tree.specs.declared.stmt.Declarator.{Declarator}
use Rattle.c_tree.specs.declared.program.Function.{Function}
use Rattle.c_tree.specs.declared.program.Item.{Item}
use Rattle.c_tree.specs.declared.program.Item.TheVariants as item
use Rattle.c_tree.specs.declared.program.Program.{Program}
use Rattle.c_tree.specs.Operators.{word_unsigned}
use Rattle.c_rules.specs.Names.{functions_of}
use Rattle.c_check.specs.Checked.{cells_of}
use Rattle.c_check.specs.Limits.{cell_count, cells_of_all}
use Rattle.c_check.specs.declared.checked.CellInfo.{CellInfo}
use Rattle.c_check.specs.declared.checked.Checked.{Checked}
use Rattle.run_model.specs.declared.state.Shared.{Shared}
use Rattle.run_model.specs.Names.{first_named}
use Rattle.run_model.specs.Calls.{Setting, no_other}

-- the shared variable of a declarator, whose first cell has the number n
abbrev pub shared_variable : ℕ → TypeWord → Declarator → Shared
shared_variable n w d = record { name = d.name; unsigned = word_unsigned w; first = n; count = cell_count d }

-- the shared variables of declarators, behind those that are there already, where the next cell has the number n
abbrev pub shared_declared : List Shared → ℕ → TypeWord → List Declarator → List Shared
shared_declared done n w [] = done
shared_declared done n w (d ∷ ds) = shared_declared (done ++ shared_variable n w d ∷ []) (n + cell_count d) w ds

-- the same for the items of a program
abbrev pub shared_from : List Shared → ℕ → List Item → List Shared
shared_from done n [] = done
shared_from done n (item.Function f ∷ xs) = shared_from done n xs
shared_from done n (item.Prototype p w name ∷ xs) = shared_from done n xs
shared_from done n (item.Shared d ∷ xs) = shared_from (shared_declared done n d.word d.declarators) (n + cells_of_all d.declarators) xs

-- the shared variables, with their cells
abbrev pub shared_of : List Item → List Shared
shared_of items = shared_from [] 0 items

-- what the run of a thread with this handle needs
abbrev pub setting_of : Checked → ℕ → Setting
setting_of p handle = record { shared = shared_of p.program.items; functions = functions_of p.program.items; turns = p.k; full = p.full; handle = handle; other = no_other }

-- what the memory models see of a program
abbrev pub shape_of : Program → Shape
shape_of program = record {
  functions = length (functions_of program.items);
  main = unwrap_or (first_named (λ (f : Function). f.name) 0 (functions_of program.items) (codes "main")) 0;
  initials = map (λ (c : CellInfo). c.initial) (cells_of program);
}
