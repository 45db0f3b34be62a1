-- Where values are kept.
use Rattle.std.specs.Prelude.{ℕ, ◌+◌, List, [], Bool, false, cond, Option, Some, None, nat_lt, length, slice_get, unwrap_or, set}
use Rattle.dg_base.specs.declared.Place.{Place}
use Rattle.axiom_model.specs.declared.Action.TheVariants.{Read, Write}
use Rattle.c_rules.specs.Names.{Name}
use Rattle.run_model.specs.declared.state.Local.{Local}
use Rattle.run_model.specs.declared.state.Shared.{Shared}
use Rattle.run_model.specs.declared.state.Need.TheVariants.{ReadOf}
use Rattle.run_model.specs.declared.state.Slot.{Slot}
use Rattle.run_model.specs.declared.state.Slot.TheVariants.{Own, Common}
use Rattle.run_model.specs.Names.{find, last_named}
use Rattle.run_model.specs.Steps.{State, Step, ◌>>=◌, ◌>>◌, pure, look, change, make, take_number, fail, stop}

abbrev pub cells_in : Option Local → List ℕ
cells_in None = []
cells_in (Some l) = l.cells

-- the cells of a local
abbrev pub cells_at : List Local → ℕ → List ℕ
cells_at ls i = cells_in (slice_get ls i)

abbrev pub with_cell_in : List Local → ℕ → ℕ → ℕ → Option Local → List Local
with_cell_in ls i j v None = ls
with_cell_in ls i j v (Some l) = set ls i (record l { cells = set l.cells j v })

-- the locals after a write of one cell
abbrev pub with_cell : List Local → ℕ → ℕ → ℕ → List Local
with_cell ls i j v = with_cell_in ls i j v (slice_get ls i)

-- a read of a shared cell takes a number, which is the value read
abbrev pub read : Slot → Step ℕ
read (Own i j) = look (λ s. unwrap_or (slice_get (cells_at s.locals i) j) 0)
read (Common c) = do
  v ← take_number (ReadOf c)
  make (Read c v)
  pure v

abbrev pub write : Slot → ℕ → Step (Unit {0})
write (Own i j) v = change (λ s. record s { locals = with_cell s.locals i j v })
write (Common c) v = make (Write c v)

-- the innermost local of this name, by its number
abbrev pub local_named : List Local → Name → Option ℕ
local_named ls name = last_named (λ (l : Local). l.name) 0 ls name

abbrev pub shared_named : List Shared → Name → Option Shared
shared_named vs name = find (λ (v : Shared). v.name) vs name

abbrev pub slot_in_shared : Place → Option Shared → ℕ → Step Slot
slot_in_shared p None i = stop
slot_in_shared p (Some v) i = cond (nat_lt i v.count) (pure (Common (v.first + i))) (fail p)

abbrev pub slot_in : List Shared → Place → Name → Option ℕ → ℕ → Step Slot
slot_in shared p name None i = slot_in_shared p (shared_named shared name) i
slot_in shared p name (Some n) i = λ s. cond (nat_lt i (length (cells_at s.locals n))) (pure (Own n i)) (fail p) s

-- the cell of the innermost variable of this name, at an index that is tested
abbrev pub slot : List Shared → Place → Name → ℕ → Step Slot
slot shared p name i = λ s. slot_in shared p name (local_named s.locals name) i s

abbrev pub local_unsigned : Option Local → Bool
local_unsigned None = false
local_unsigned (Some l) = l.unsigned

abbrev pub shared_unsigned : Option Shared → Bool
shared_unsigned None = false
shared_unsigned (Some v) = v.unsigned

abbrev pub unsigned_in : List Shared → Name → List Local → Option ℕ → Bool
unsigned_in shared name ls None = shared_unsigned (shared_named shared name)
unsigned_in shared name ls (Some n) = local_unsigned (slice_get ls n)

-- whether the innermost variable of this name is Uint
abbrev pub name_unsigned : List Shared → Name → State → Bool
name_unsigned shared name s = unsigned_in shared name s.locals (local_named s.locals name)
