-- What is accepted has plain names.
use Rattle.std.proofs.Common.{◌≡◌, ℕ, List, true, sym, subst}
use Rattle.c_check.specs.declared.checked.CellInfo.{CellInfo}
use Rattle.c_check.specs.Checked.{function_names, cells_of}
use Rattle.c_tree.specs.declared.program.Program.{Program}
use Rattle.c_rules.specs.Naming.{DeclaresOnce}
use Rattle.c_check.specs.PlainNames.{HasPlainNames, lacks, cell_names}
use Rattle.c_program.specs.Accepting.{IsRead, NamesArePlain}
use Rattle.c_program.proofs.Plain.{names_plain}
use Rattle.c_program.proofs.Spelled.{items_plain, functions_plain, cell_names_plain}
use Rattle.c_program.proofs.Differing.{names_differ}

program_plain : (text : List ℕ) (program : Program) → IsRead text program → DeclaresOnce program → HasPlainNames (function_names program) (cell_names (cells_of program))
program_plain text program r once =
    let items = items_plain r.read (names_plain text r.tokens r.lexed) in
    record {
      no_blank = functions_plain (λ name. lacks 32 name ≡ true) (λ name h. h.no_blank) program.items items;
      no_feed = functions_plain (λ name. lacks 10 name ≡ true) (λ name h. h.no_feed) program.items items;
      distinct = names_differ program once;
      no_feed_in_cells = cell_names_plain program.items items;
    }

pub names_are_plain : NamesArePlain
names_are_plain bound full text p a =
    let plain = program_plain text p.program a.read a.checked.well_formed.once in
    let functions : HasPlainNames p.functions (cell_names (cells_of p.program)) = subst (λ (fs : List (List ℕ)). HasPlainNames fs (cell_names (cells_of p.program))) (sym a.checked.functions) plain in
    subst (λ (cells : List CellInfo). HasPlainNames p.functions (cell_names cells)) (sym a.checked.cells) functions
