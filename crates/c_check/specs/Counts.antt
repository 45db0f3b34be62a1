-- What a program's threads come to when calls are unrolled and each loop runs its bound: sums and greatest numbers over the
-- tree. A call counts its function's body once for each call; both branches count.
use Rattle.std.specs.Prelude.{ℕ, zero, suc, ◌+◌, ◌*◌, max, List, [], ◌∷◌, take, length, Bool, true, false, cond, slice_get, Option, Some, None, codes}
use Rattle.std.specs.Str.{bytes_eq}
use Rattle.c_tree.specs.declared.expr.BinaryOp.{BinaryOp}
use Rattle.c_tree.specs.declared.expr.BinaryOp.TheVariants as binary
use Rattle.c_tree.specs.declared.expr.AssignOp.{AssignOp}
use Rattle.c_tree.specs.declared.expr.AssignOp.TheVariants as assign
use Rattle.c_tree.specs.declared.expr.Expr.{Expr, fold-Expr, map-Expr}
use Rattle.c_tree.specs.declared.expr.Expr.TheOpen.{Expr-F}
use Rattle.c_tree.specs.declared.stmt.Initialiser.{Initialiser}
use Rattle.c_tree.specs.declared.stmt.Initialiser.TheVariants.{One, Braces}
use Rattle.c_tree.specs.declared.program.Item.{Item}
use Rattle.c_tree.specs.declared.program.Item.TheVariants as item
use Rattle.c_tree.specs.declared.program.Program.{Program}
use Rattle.c_rules.specs.declared.names.Variable.{Variable}
use Rattle.c_rules.specs.declared.names.Entry.{Entry}
use Rattle.c_rules.specs.Names.{Name, Scope, variable_named}
use Rattle.c_rules.specs.Walk.{Walk, walk_body, declare, behind_item, top_scope}
use Rattle.c_check.specs.declared.counts.Counts.{Counts}
use Rattle.c_rules.specs.Routines.{Naming, naming_step, created_by}
use Rattle.c_check.specs.Recursion.{number_of}

abbrev pub no_counts : Counts
no_counts = record { creates = 0; threads = 0; depth = 0; most = 0; accesses = 0; weight = 0 }

-- How parts come together: two parts of one thread; a part that is run n times; a new thread that comes to this; n accesses to
-- shared cells; a weight of n.
pub record Sums : Type 0 where
  pub together : Counts → Counts → Counts
  pub times : ℕ → Counts → Counts
  pub new_thread : Counts → Counts
  pub accesses : ℕ → Counts
  pub weight : ℕ → Counts

-- the sums that counts are
abbrev pub exact : Sums
exact = record {
  together = λ x y. record {
    creates = x.creates + y.creates;
    threads = x.threads + y.threads;
    depth = max x.depth y.depth;
    most = max x.most y.most;
    accesses = x.accesses + y.accesses;
    weight = x.weight + y.weight;
  };
  times = λ n x. record {
    creates = n * x.creates;
    threads = n * x.threads;
    depth = x.depth;
    most = x.most;
    accesses = n * x.accesses;
    weight = n * x.weight;
  };
  new_thread = λ x. record {
    creates = 1;
    threads = 1 + x.threads;
    depth = 1 + x.depth;
    most = max x.creates x.most;
    accesses = x.accesses;
    weight = x.weight;
  };
  accesses = λ n. record { creates = 0; threads = 0; depth = 0; most = 0; accesses = n; weight = 0 };
  weight = λ n. record { creates = 0; threads = 0; depth = 0; most = 0; accesses = 0; weight = n };
}

abbrev pub access_by : Sums → Bool → Option ℕ → Counts
access_by sums true None = sums.accesses 1
access_by sums true (Some n) = sums.accesses n
access_by sums false None = no_counts
access_by sums false (Some n) = sums.weight n

-- an access to a variable: of a shared one it counts its cells, of a local array its cells are weight
abbrev pub access_to : Sums → Option Variable → Counts
access_to sums None = no_counts
access_to sums (Some v) = access_by sums v.shared v.cells

-- a shift by a bare number is cheaper than one by anything else
abbrev pub shift_weight : Bool → ℕ
shift_weight true = 1
shift_weight false = 4

-- an operator's weight, by whether its right operand is a bare number
abbrev pub operator_weight : BinaryOp → Bool → ℕ
operator_weight binary.Times bare = 32
operator_weight binary.Divide bare = 32
operator_weight binary.Remainder bare = 32
operator_weight binary.ShiftLeft bare = shift_weight bare
operator_weight binary.ShiftRight bare = shift_weight bare
operator_weight _ bare = 1

-- the weight of an assignment's operator
abbrev pub assign_weight : AssignOp → Bool → ℕ
assign_weight assign.Plain bare = 1
assign_weight (assign.With o) bare = 1 + operator_weight o bare

-- a compound assignment reads its target, and then writes it
abbrev pub assign_accesses : AssignOp → ℕ
assign_accesses assign.Plain = 1
assign_accesses (assign.With o) = 2

-- an expression: one access to the variable that it is, if it is one; what its parts come to; whether it is a bare number; and
-- what it names
pub record Cost : Type 0 where
  pub access : Counts
  pub parts : Counts
  pub bare : Bool
  pub naming : Naming

-- the value of an expression
abbrev pub reading : Sums → Cost → Counts
reading sums x = sums.together x.access x.parts

-- an expression whose variable is accessed n times
abbrev pub accessing : Sums → ℕ → Cost → Counts
accessing sums n x = sums.together (sums.times n x.access) x.parts

-- how often a call accesses the variable of its first argument
abbrev pub first_accesses : Name → ℕ
first_accesses n = cond (bytes_eq (codes "pthread_mutex_lock") n) 2 (cond (bytes_eq (codes "pthread_mutex_destroy") n) 0 1)

-- Arguments weigh 1 each. The variable of the first is accessed m times, and that of each other once.
abbrev pub arguments : Sums → ℕ → List Cost → Counts
arguments sums m [] = no_counts
arguments sums m (x ∷ xs) = sums.together (sums.weight 1) (sums.together (accessing sums m x) (arguments sums 1 xs))

abbrev pub thread_of : Sums → (Name → Counts) → Option Name → Counts
thread_of sums body None = no_counts
thread_of sums body (Some n) = sums.new_thread (body n)

abbrev pub cost_namings : List Cost → List Naming
cost_namings [] = []
cost_namings (x ∷ xs) = x.naming ∷ cost_namings xs

-- A call weighs 1; beside its arguments it comes to the body of the function that it names, if there is one, and to the thread
-- that it makes.
abbrev pub call : Sums → (Name → Counts) → Name → List Cost → Counts
call sums body n xs =
    sums.together (sums.together (sums.weight 1) (arguments sums (first_accesses n) xs)) (sums.together (body n) (thread_of sums body (created_by n (cost_namings xs))))

-- an expression's own part of its cost
pub record Price : Type 0 where
  pub access : Counts
  pub parts : Counts
  pub bare : Bool

abbrev pub parts_only : Counts → Price
parts_only x = record { access = no_counts; parts = x; bare = false }

abbrev pub price : Sums → (Name → Counts) → (Name → Option Variable) → Expr-F Cost → Price
price sums body variable (Expr-F.Name p n) = record { access = access_to sums (variable n); parts = no_counts; bare = false }
price sums body variable (Expr-F.Number p v u) = record { access = no_counts; parts = no_counts; bare = true }
price sums body variable (Expr-F.Text p) = parts_only no_counts
price sums body variable (Expr-F.Bracket p x) = record { access = x.access; parts = x.parts; bare = false }
price sums body variable (Expr-F.Index p n x) = record { access = access_to sums (variable n); parts = reading sums x; bare = false }
price sums body variable (Expr-F.Call p n xs) = parts_only (call sums body n xs)
price sums body variable (Expr-F.Cast p w x) = parts_only (reading sums x)
price sums body variable (Expr-F.Unary p o x) = parts_only (sums.together (sums.weight 1) (reading sums x))
price sums body variable (Expr-F.StepBefore p o x) = parts_only (sums.together (sums.weight 1) (accessing sums 2 x))
price sums body variable (Expr-F.StepAfter p o x) = parts_only (sums.together (sums.weight 1) (accessing sums 2 x))
price sums body variable (Expr-F.Binary p o x y) =
    parts_only (sums.together (sums.weight (operator_weight o y.bare)) (sums.together (reading sums x) (reading sums y)))
price sums body variable (Expr-F.Choose p x y z) =
    parts_only (sums.together (sums.weight 1) (sums.together (reading sums x) (sums.together (reading sums y) (reading sums z))))
price sums body variable (Expr-F.Assign p o x y) =
    parts_only (sums.together (sums.weight (assign_weight o y.bare)) (sums.together (accessing sums (assign_accesses o) x) (reading sums y)))
price sums body variable (Expr-F.Comma p x y) = parts_only (sums.together (reading sums x) (reading sums y))
price sums body variable (Expr-F.Address p x) = record { access = x.access; parts = x.parts; bare = false }

abbrev pub cost_step : Sums → (Name → Counts) → (Name → Option Variable) → Expr-F Cost → Cost
cost_step sums body variable l = record {
  access = (price sums body variable l).access;
  parts = (price sums body variable l).parts;
  bare = (price sums body variable l).bare;
  naming = naming_step (map-Expr Cost Naming (λ (x : Cost). x.naming) l);
}

abbrev pub cost : Sums → (Name → Counts) → (Name → Option Variable) → Expr → Cost
cost sums body variable = fold-Expr Cost (cost_step sums body variable)

-- the value of an expression in a scope, by what the functions' bodies come to
abbrev pub counts_in : Sums → (Name → Counts) → Scope → Expr → Counts
counts_in sums body s x = reading sums (cost sums body (variable_named s) x)

abbrev pub counts_in_all : Sums → (Name → Counts) → Scope → List Expr → Counts
counts_in_all sums body s [] = no_counts
counts_in_all sums body s (x ∷ xs) = sums.together (counts_in sums body s x) (counts_in_all sums body s xs)

-- an initialiser weighs 1; a size is read with its type, and counts nothing
abbrev pub counts_at_start : Sums → (Name → Counts) → Scope → Option Initialiser → Counts
counts_at_start sums body s None = no_counts
counts_at_start sums body s (Some (One x)) = sums.together (sums.weight 1) (counts_in sums body s x)
counts_at_start sums body s (Some (Braces xs)) = sums.together (sums.weight 1) (counts_in_all sums body s xs)

-- what weighs 1 beside its value: each test, and each returned value
abbrev pub weighed : Sums → (Name → Counts) → Scope → Expr → Counts
weighed sums body s x = sums.together (sums.weight 1) (counts_in sums body s x)

abbrev pub counts_walk : Sums → ℕ → (Name → Counts) → Walk Counts
counts_walk sums k body = record {
  nothing = no_counts;
  both = sums.together;
  turns = sums.times k;
  tests = sums.times (k + 1);
  effect = counts_in sums body;
  value = counts_in sums body;
  test = weighed sums body;
  no_test = sums.weight 1;
  returned = λ s p x. weighed sums body s x;
  jump = λ s p. no_counts;
  declarator = λ s w d. counts_at_start sums body (declare w d s) d.initialiser;
  head = λ s f. no_counts;
}

-- the scope behind these items
abbrev pub behind_items : List Item → Scope → Scope
behind_items [] s = s
behind_items (x ∷ xs) s = behind_items xs (behind_item x s)

-- what the top of the program has declared before an item
abbrev pub top_before : List Item → ℕ → List Entry
top_before items i = (behind_items (take i items) top_scope).entries

abbrev pub item_counts : Sums → ℕ → (Name → Counts) → List Entry → Option Item → Counts
item_counts sums k body top (Some (item.Function f)) = walk_body (counts_walk sums k body) top f
item_counts sums k body top _ = no_counts

-- what the body of the item of this number comes to, if it is a function
abbrev pub counts_at : Sums → ℕ → (Name → Counts) → List Item → ℕ → Counts
counts_at sums k body items i = item_counts sums k body (top_before items i) (slice_get items i)

abbrev pub at_number : (ℕ → Counts) → Option ℕ → Counts
at_number count None = no_counts
at_number count (Some i) = count i

-- the counts of the function that a name stands for
abbrev pub counts_named : (ℕ → Counts) → List Item → Name → Counts
counts_named count items n = at_number count (number_of items n)

-- What the body of the item of this number comes to, where calls lead over at most so many functions. Without recursion
-- they never lead over more than there are.
abbrev pub counts_within : ℕ → ℕ → List Item → ℕ → Counts
counts_within zero k items i = no_counts
counts_within (suc m) k items i = counts_at exact k (counts_named (counts_within m k items) items) items i

-- what the main thread comes to, with all threads below it
abbrev pub counts_of : ℕ → Program → Counts
counts_of k program = counts_named (counts_within (length program.items) k program.items) program.items (codes "main")
