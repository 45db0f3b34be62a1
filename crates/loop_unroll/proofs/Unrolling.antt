-- The instances of a checked program are its flat program.
use Rattle.std.proofs.Common.{◌≡◌, ℕ, ◌<◌, ◌^◌, List, length, map, ap, ◌∙◌, subst}
use Rattle.std.proofs.lemmas.List.{length-map}
use Rattle.c_tree.specs.declared.program.Item.{Item}
use Rattle.c_rules.specs.Names.{functions_of}
use Rattle.c_check.specs.declared.checked.CellInfo.{CellInfo}
use Rattle.c_check.specs.declared.checked.Checked.{Checked}
use Rattle.c_check.specs.Checked.{cells_of, cells_of_items}
use Rattle.c_check.specs.WellFormed.{IsChecked}
use Rattle.run_model.specs.declared.state.Shared.{Shared}
use Rattle.run_model.specs.Programs.{setting_of, shape_of, shared_of}
use Rattle.run_model.specs.Calls.{Setting, no_other}
use Rattle.flat_prog.specs.declared.Instance.{Instance}
use Rattle.loop_unroll.specs.Whole.{AreInstances, main_in}
use Rattle.loop_unroll.specs.Unrolled.{IsUnrolled}
use Rattle.loop_unroll.proofs.Checking.{checked_marks, checked_sections, checked_run, first_is_main, functions_there}
use Rattle.loop_unroll.proofs.Shaped.{flat_there, shared_fit}

-- what an emission needs of a checked program, where these are its shared variables
pub setting_there :
    (p : Checked) (shared : List Shared) (xs : List Item) → shared ≡ shared_of xs → xs ≡ p.program.items → record { shared = shared; functions = functions_of xs; turns = p.k; full = p.full; handle = 0; other = no_other } ≡ setting_of p 0
setting_there p shared xs same is =
    let by_shared : List Shared → Setting = λ vs. record { shared = vs; functions = functions_of xs; turns = p.k; full = p.full; handle = 0; other = no_other } in
    let by_items : List Item → Setting = λ ys. record { shared = shared_of ys; functions = functions_of ys; turns = p.k; full = p.full; handle = 0; other = no_other } in
    ap by_shared same ∙ ap by_items is

pub unrolled :
    (p : Checked) → IsChecked p → (is : List Instance) (initials : List ℕ) (s : Setting) (main : ℕ) → s ≡ setting_of p 0 → main ≡ main_in s.functions → AreInstances s main is → length is < 2 ^ 24 → initials ≡ map (λ (c : CellInfo). c.initial) p.cells →
    IsUnrolled p (record { instances = is; initials = initials })
unrolled p checked is initials s main same named q small values =
    let own : main ≡ (shape_of p.program).main = named ∙ ap (λ (x : Setting). main_in x.functions) same in
    let queued : AreInstances (setting_of p 0) main is = subst (λ (x : Setting). AreInstances x main is) same q in
    let all : initials ≡ (shape_of p.program).initials = values ∙ ap (map (λ (c : CellInfo). c.initial)) checked.cells in
    let many : length initials ≡ length (cells_of_items p.program.items) = ap length all ∙ length-map (cells_of p.program) (λ (c : CellInfo). c.initial) in
    record {
      flat = flat_there (setting_of p 0) (checked_marks p checked) (checked_sections p checked) (length (cells_of_items p.program.items)) (shared_fit p.program.items) main (record { instances = is; initials = initials }) many queued;
      main = λ i there. first_is_main (setting_of p 0) main is queued i there ∙ own;
      functions = functions_there (setting_of p 0) main is queued;
      cells = all;
      runs = checked_run p checked main is queued small;
    }
