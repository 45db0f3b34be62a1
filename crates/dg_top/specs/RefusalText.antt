-- How a refusal of a text is printed.
use Rattle.std.specs.Prelude.{ℕ, List, [], ◌++◌, codes, decimal}
use Rattle.dg_base.specs.declared.Place.{Place}
use Rattle.dg_base.specs.declared.refusal.Refusal.{Refusal}
use Rattle.dg_base.specs.declared.refusal.Refusal.TheVariants as refusal
use Rattle.dg_base.specs.declared.refusal.LimitKind.{LimitKind}
use Rattle.dg_base.specs.declared.refusal.LimitKind.TheVariants as kind

-- `L:C`
abbrev pub place_text : Place → List ℕ
place_text p = decimal p.line ++ codes ":" ++ decimal p.col

abbrev pub kind_text : LimitKind → List ℕ
kind_text kind.Text = codes "text"
kind_text kind.Macro = codes "macro"
kind_text kind.Tokens = codes "tokens"
kind_text kind.Cells = codes "cells"
kind_text kind.Globals = codes "globals"
kind_text kind.Creates = codes "creates"
kind_text kind.Threads = codes "threads"
kind_text kind.Depth = codes "depth"
kind_text kind.Accesses = codes "accesses"
kind_text kind.Weight = codes "weight"

-- want of memory is no refusal of a text, and is never printed
abbrev pub refusal_text : Refusal → List ℕ
refusal_text (refusal.BadByte p) = codes "E1 BadByte " ++ place_text p
refusal_text (refusal.Unsupported p word) = codes "E2 Unsupported " ++ place_text p ++ codes " " ++ word
refusal_text (refusal.Syntax p) = codes "E3 Syntax " ++ place_text p
refusal_text refusal.NoMain = codes "E4 NoMain"
refusal_text (refusal.Duplicate p) = codes "E5 Duplicate " ++ place_text p
refusal_text (refusal.Unknown p) = codes "E6 Unknown " ++ place_text p
refusal_text (refusal.BadType p) = codes "E7 Type " ++ place_text p
refusal_text (refusal.UnmatchedAtomic p) = codes "E8 UnmatchedAtomic " ++ place_text p
refusal_text (refusal.Recursion p) = codes "E9 Recursion " ++ place_text p
refusal_text (refusal.Limit k count) = codes "E10 Limit " ++ kind_text k ++ codes " " ++ decimal count
refusal_text refusal.OutOfMemory = []
