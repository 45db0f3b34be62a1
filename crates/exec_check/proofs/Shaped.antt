-- What a checked program's lists say of its shape, and what its runs are.
use Rattle.std.proofs.Common.{◌≡◌, ℕ, ◌+◌, List, [], ◌∷◌, map, length, cond, Some, refl, sym, ap, ◌∙◌}
use Rattle.std.specs.Prelude.{codes, unwrap_or}
use Rattle.std.specs.Str.{bytes_eq}
use Rattle.std.proofs.lemmas.List.{length-map}
use Rattle.axiom_model.specs.declared.ThreadPart.{ThreadPart}
use Rattle.axiom_model.specs.WellMade.{Shape}
use Rattle.c_tree.specs.declared.program.Function.{Function}
use Rattle.c_rules.specs.Names.{Name, functions_of}
use Rattle.c_check.specs.declared.checked.CellInfo.{CellInfo}
use Rattle.c_check.specs.declared.checked.Checked.{Checked}
use Rattle.c_check.specs.WellFormed.{IsChecked}
use Rattle.run_model.specs.Names.{first_named}
use Rattle.run_model.specs.Programs.{shape_of}
use Rattle.run_model.specs.Threads.{thread_run}
use Rattle.exec_check.specs.Running.{run_told, shape}

named-map : (i : ℕ) (fs : List Function) (n : Name) → first_named (λ (m : Name). m) i (map (λ (f : Function). f.name) fs) n ≡ first_named (λ (f : Function). f.name) i fs n
named-map i [] n = refl
named-map i (f ∷ fs) n = ap (cond (bytes_eq f.name n) (Some i)) (named-map (i + 1) fs n)

pub shape_is : (p : Checked) → shape p ≡ shape_of p.program
unfolding shape
shape_is p = refl

pub functions_are : (p : Checked) → (shape p).functions ≡ length (functions_of p.program.items)
functions_are p = ap (λ (s : Shape). s.functions) (shape_is p)

pub functions_shaped : (p : Checked) → IsChecked p → length p.functions ≡ (shape p).functions
functions_shaped p h = ap length h.functions ∙ length-map (functions_of p.program.items) (λ (f : Function). f.name) ∙ sym (functions_are p)

-- a checked program names all its functions
pub functions_counted : (p : Checked) → IsChecked p → length p.functions ≡ length (functions_of p.program.items)
functions_counted p h = functions_shaped p h ∙ functions_are p

pub main_shaped : (p : Checked) → IsChecked p → unwrap_or (first_named (λ (m : Name). m) 0 p.functions (codes "main")) 0 ≡ (shape p).main
main_shaped p h =
    ap (λ l. unwrap_or (first_named (λ (m : Name). m) 0 l (codes "main")) 0) h.functions
    ∙ ap (λ o. unwrap_or o 0) (named-map 0 (functions_of p.program.items) (codes "main"))
    ∙ sym (ap (λ (s : Shape). s.main) (shape_is p))

pub cells_shaped : (p : Checked) → IsChecked p → (shape p).initials ≡ map (λ (i : CellInfo). i.initial) p.cells
cells_shaped p h = ap (λ (s : Shape). s.initials) (shape_is p) ∙ ap (map (λ (i : CellInfo). i.initial)) (sym h.cells)

pub told_is : (p : Checked) (t : ThreadPart) → run_told p t ≡ thread_run p t.function t.handle t.arg t.script
unfolding run_told
told_is p t = refl
