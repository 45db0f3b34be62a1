-- The limits of a program, in their order: what each counts, and the first that is exceeded.
use Rattle.std.specs.Prelude.{ℕ, ◌+◌, max, nat_lt, List, [], ◌∷◌, map, cond, Option, Some, None, unwrap_or}
use Rattle.dg_base.specs.declared.refusal.LimitKind.{LimitKind}
use Rattle.dg_base.specs.declared.refusal.LimitKind.TheVariants.{Cells, Globals, Creates, Threads, Depth, Accesses, Weight}
use Rattle.c_tree.specs.declared.stmt.Declarator.{Declarator}
use Rattle.c_tree.specs.declared.stmt.Start.{Start}
use Rattle.c_tree.specs.declared.stmt.Start.TheVariants as start
use Rattle.c_tree.specs.declared.stmt.Stmt.{Stmt, fold-Stmt}
use Rattle.c_tree.specs.declared.stmt.Stmt.TheOpen.{Stmt-F}
use Rattle.c_tree.specs.declared.program.Item.{Item}
use Rattle.c_tree.specs.declared.program.Item.TheVariants as item
use Rattle.c_tree.specs.declared.program.Program.{Program}
use Rattle.c_rules.specs.Names.{or_else}
use Rattle.c_rules.specs.Walk.{cells_of_size}
use Rattle.c_check.specs.declared.counts.Counts.{Counts}
use Rattle.c_check.specs.declared.limits.Exceeded.{Exceeded}
use Rattle.c_tree.specs.Level.{capped}
use Rattle.c_check.specs.Counts.{counts_of}

-- the largest array
abbrev pub most_cells : ℕ
most_cells = 32

-- the number of cells that exceeds the limit
abbrev pub too_large : Option ℕ → Option ℕ
too_large None = None
too_large (Some n) = cond (nat_lt most_cells n) (Some n) None

-- the cells of the first of these arrays that is too large
abbrev pub first_large : List Declarator → Option ℕ
first_large [] = None
first_large (d ∷ ds) = or_else (too_large (cells_of_size d.size)) (first_large ds)

abbrev pub large_in_for : Start → Option ℕ
large_in_for start.Nothing = None
large_in_for (start.Expr x) = None
large_in_for (start.Declare d) = first_large d.declarators

abbrev pub large_in_else : Option (Option ℕ) → Option ℕ
large_in_else None = None
large_in_else (Some n) = n

abbrev pub large_in_all : List (Option ℕ) → Option ℕ
large_in_all [] = None
large_in_all (n ∷ ns) = or_else n (large_in_all ns)

abbrev pub large_step : Stmt-F (Option ℕ) → Option ℕ
large_step (Stmt-F.Empty p) = None
large_step (Stmt-F.Expr p x) = None
large_step (Stmt-F.Declare d) = first_large d.declarators
large_step (Stmt-F.Block p xs) = large_in_all xs
large_step (Stmt-F.Label p n x) = x
large_step (Stmt-F.If p t a b) = or_else a (large_in_else b)
large_step (Stmt-F.While p t x) = x
large_step (Stmt-F.DoWhile p x t) = x
large_step (Stmt-F.For p st t e x) = or_else (large_in_for st) x
large_step (Stmt-F.Return p x) = None
large_step (Stmt-F.Break p) = None
large_step (Stmt-F.Continue p) = None

abbrev pub large_in_stmt : Stmt → Option ℕ
large_in_stmt = fold-Stmt (Option ℕ) large_step

-- the cells of the first array of the text that is too large
abbrev pub large_in_items : List Item → Option ℕ
large_in_items [] = None
large_in_items (item.Function f ∷ xs) = or_else (large_in_all (map large_in_stmt f.body)) (large_in_items xs)
large_in_items (item.Prototype p w n ∷ xs) = large_in_items xs
large_in_items (item.Shared d ∷ xs) = or_else (first_large d.declarators) (large_in_items xs)

-- an array's cells, or one
abbrev pub cell_count : Declarator → ℕ
cell_count d = unwrap_or (cells_of_size d.size) 1

abbrev pub cells_of_all : List Declarator → ℕ
cells_of_all [] = 0
cells_of_all (d ∷ ds) = cell_count d + cells_of_all ds

-- the shared cells, mutexes among them
abbrev pub shared_cells : List Item → ℕ
shared_cells [] = 0
shared_cells (item.Function f ∷ xs) = shared_cells xs
shared_cells (item.Prototype p w n ∷ xs) = shared_cells xs
shared_cells (item.Shared d ∷ xs) = cells_of_all d.declarators + shared_cells xs

-- a limit, and the count that it is for
pub record Limited : Type 0 where
  pub kind : LimitKind
  pub limit : ℕ
  pub count : ℕ

abbrev pub limited : LimitKind → ℕ → ℕ → Limited
limited kind limit count = record { kind = kind; limit = limit; count = count }

-- the limits on one main thread and all threads below it
abbrev pub limits_on : Counts → List Limited
limits_on c =
    limited Creates 63 (max c.creates c.most) ∷ limited Threads 64 (1 + c.threads) ∷ limited Depth 4 c.depth
    ∷ limited Accesses 1024 c.accesses ∷ limited Weight 32768 c.weight ∷ []

-- the limits on a program whose threads come to this
abbrev pub limits_by : List Item → Counts → List Limited
limits_by items c =
    limited Cells most_cells (unwrap_or (large_in_items items) 0) ∷ limited Globals 1024 (shared_cells items) ∷ limits_on c

abbrev pub limits_of : ℕ → Program → List Limited
limits_of k program = limits_by program.items (counts_of k program)

-- the first limit that is exceeded
abbrev pub first_exceeded : List Limited → Option Limited
first_exceeded [] = None
first_exceeded (l ∷ ls) = cond (nat_lt l.limit l.count) (Some l) (first_exceeded ls)

-- the limit that is told
abbrev pub exceeds : ℕ → Program → Option Limited
exceeds k program = first_exceeded (limits_of k program)

-- what is told of a limit: its kind and its count, capped
abbrev pub told : Option Limited → Option Exceeded
told None = None
told (Some l) = Some (record { kind = l.kind; count = capped l.count })
