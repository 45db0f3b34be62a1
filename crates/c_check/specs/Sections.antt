-- Atomic sections: a begin and an end stand only as statements directly in a block, in each block in turn, a begin first and
-- an end last; between the two stand no begin and no end in inner statements, no `return`, and no `break` or `continue` of a
-- loop outside. What is found is the first begin, end, `return`, `break` or `continue` that breaks this, in the order of the text.
use Rattle.std.specs.Prelude.{List, [], ◌∷◌, map, Bool, true, false, ◌&&◌, ◌||◌, not, cond, Option, Some, None, codes}
use Rattle.std.specs.Str.{bytes_eq}
use Rattle.dg_base.specs.declared.Place.{Place}
use Rattle.c_tree.specs.declared.expr.Expr.{Expr, fold-Expr, out-Expr}
use Rattle.c_tree.specs.declared.expr.Expr.TheOpen.{Expr-F}
use Rattle.c_tree.specs.declared.stmt.Initialiser.{Initialiser}
use Rattle.c_tree.specs.declared.stmt.Initialiser.TheVariants.{One, Braces}
use Rattle.c_tree.specs.declared.stmt.Declarator.{Declarator}
use Rattle.c_tree.specs.declared.stmt.Start.{Start}
use Rattle.c_tree.specs.declared.stmt.Start.TheVariants as start
use Rattle.c_tree.specs.declared.stmt.Stmt.{Stmt, fold-Stmt}
use Rattle.c_tree.specs.declared.stmt.Stmt.TheOpen.{Stmt-F}
use Rattle.c_tree.specs.declared.program.Function.{Function}
use Rattle.c_tree.specs.declared.program.Program.{Program}
use Rattle.c_check.specs.declared.sections.Inside.{Inside}
use Rattle.c_check.specs.declared.sections.Inside.TheVariants.{Outside, InSection, InItsLoop}
use Rattle.c_check.specs.declared.sections.Mark.{Mark}
use Rattle.c_check.specs.declared.sections.Mark.TheVariants.{Begins, Ends, Neither}
use Rattle.c_rules.specs.Names.{Name, or_else, functions_of}
use Rattle.c_rules.specs.Scopes.{First, unless, first_of}

abbrev pub is_outside : Inside → Bool
is_outside Outside = true
is_outside InSection = false
is_outside InItsLoop = false

-- whether a `break` or `continue` stays in the section
abbrev pub may_jump : Inside → Bool
may_jump Outside = true
may_jump InSection = false
may_jump InItsLoop = true

abbrev pub in_a_loop : Inside → Inside
in_a_loop Outside = Outside
in_a_loop InSection = InItsLoop
in_a_loop InItsLoop = InItsLoop

abbrev pub begin_name : Name
begin_name = codes "__VERIFIER_atomic_begin"

abbrev pub end_name : Name
end_name = codes "__VERIFIER_atomic_end"

abbrev pub call_mark : Place → Name → Mark
call_mark p n = cond (bytes_eq begin_name n) (Begins p) (cond (bytes_eq end_name n) (Ends p) Neither)

abbrev pub mark_in : Expr-F Expr → Mark
mark_in (Expr-F.Call p n xs) = call_mark p n
mark_in _ = Neither

abbrev pub mark_of : Expr → Mark
mark_of x = mark_in (out-Expr x)

abbrev pub broken_call : Place → Name → First
broken_call p n = unless (not (bytes_eq begin_name n || bytes_eq end_name n)) p

-- the first begin or end in an expression
abbrev pub mark_step : Expr-F First → First
mark_step (Expr-F.Name p n) = None
mark_step (Expr-F.Number p v u) = None
mark_step (Expr-F.Text p) = None
mark_step (Expr-F.Bracket p x) = x
mark_step (Expr-F.Index p n x) = x
mark_step (Expr-F.Call p n xs) = or_else (broken_call p n) (first_of xs)
mark_step (Expr-F.Cast p w x) = x
mark_step (Expr-F.Unary p o x) = x
mark_step (Expr-F.StepBefore p o x) = x
mark_step (Expr-F.StepAfter p o x) = x
mark_step (Expr-F.Binary p o x y) = or_else x y
mark_step (Expr-F.Choose p x y z) = or_else x (or_else y z)
mark_step (Expr-F.Assign p o x y) = or_else x y
mark_step (Expr-F.Comma p x y) = or_else x y
mark_step (Expr-F.Address p x) = x

abbrev pub first_mark : Expr → First
first_mark = fold-Expr First mark_step

abbrev pub mark_in_option : Option Expr → First
mark_in_option None = None
mark_in_option (Some x) = first_mark x

abbrev pub mark_in_start : Option Initialiser → First
mark_in_start None = None
mark_in_start (Some (One x)) = first_mark x
mark_in_start (Some (Braces xs)) = first_of (map first_mark xs)

abbrev pub mark_in_declarator : Declarator → First
mark_in_declarator d = or_else (mark_in_option d.size) (mark_in_start d.initialiser)

abbrev pub mark_in_declarators : List Declarator → First
mark_in_declarators [] = None
mark_in_declarators (d ∷ ds) = or_else (mark_in_declarator d) (mark_in_declarators ds)

abbrev pub mark_in_for : Start → First
mark_in_for start.Nothing = None
mark_in_for (start.Expr x) = first_mark x
mark_in_for (start.Declare d) = mark_in_declarators d.declarators

-- a statement: whether it is a begin or an end, and what is broken in it by where it stands, if it is neither
pub record Sectioned : Type 0 where
  pub mark : Mark
  pub found : Inside → First

abbrev pub unmarked : (Inside → First) → Sectioned
unmarked f = record { mark = Neither; found = f }

abbrev pub is_marked : Mark → Bool
is_marked (Begins p) = true
is_marked (Ends p) = true
is_marked Neither = false

abbrev pub some_marked : List Sectioned → Bool
some_marked [] = false
some_marked (x ∷ xs) = is_marked x.mark || some_marked xs

-- where a statement of a block stands, if a section of the block is open or not
abbrev pub within : Bool → Inside → Inside
within opened i = cond opened InSection i

-- whether a section of the block is open behind a statement of it
abbrev pub behind_mark : Bool → Mark → Bool
behind_mark opened (Begins p) = true
behind_mark opened (Ends p) = false
behind_mark opened Neither = opened

-- what a statement of a block breaks: a begin opens a section, where none is open and another mark follows, and an end closes it
abbrev pub broken_there : Bool → Inside → Bool → (Inside → First) → Mark → First
broken_there opened i follows found (Begins p) = unless (is_outside i && (not opened && follows)) p
broken_there opened i follows found (Ends p) = unless (is_outside i && opened) p
broken_there opened i follows found Neither = found (within opened i)

-- what is broken in the rest of a block: by whether a section of the block is open, and where the block stands
abbrev pub in_block : Bool → Inside → List Sectioned → First
in_block opened i [] = None
in_block opened i (x ∷ xs) = or_else (broken_there opened i (some_marked xs) x.found x.mark) (in_block (behind_mark opened x.mark) i xs)

abbrev pub found_in_else : Option Sectioned → Inside → First
found_in_else None i = None
found_in_else (Some x) i = x.found i

abbrev pub section_step : Stmt-F Sectioned → Sectioned
section_step (Stmt-F.Empty p) = unmarked (λ i. None)
section_step (Stmt-F.Expr p x) = record { mark = mark_of x; found = λ i. first_mark x }
section_step (Stmt-F.Declare d) = unmarked (λ i. mark_in_declarators d.declarators)
section_step (Stmt-F.Block p xs) = unmarked (λ i. in_block false i xs)
section_step (Stmt-F.Label p n x) = unmarked x.found
section_step (Stmt-F.If p t a b) = unmarked (λ i. or_else (first_mark t) (or_else (a.found i) (found_in_else b i)))
section_step (Stmt-F.While p t x) = unmarked (λ i. or_else (first_mark t) (x.found (in_a_loop i)))
section_step (Stmt-F.DoWhile p x t) = unmarked (λ i. or_else (x.found (in_a_loop i)) (first_mark t))
section_step (Stmt-F.For p st t e x) = unmarked (λ i. or_else (mark_in_for st) (or_else (mark_in_option t) (or_else (mark_in_option e) (x.found (in_a_loop i)))))
section_step (Stmt-F.Return p x) = unmarked (λ i. or_else (unless (is_outside i) p) (mark_in_option x))
section_step (Stmt-F.Break p) = unmarked (λ i. unless (may_jump i) p)
section_step (Stmt-F.Continue p) = unmarked (λ i. unless (may_jump i) p)

abbrev pub sectioned : Stmt → Sectioned
sectioned = fold-Stmt Sectioned section_step

abbrev pub unmatched_in_function : Function → First
unmatched_in_function f = in_block false Outside (map sectioned f.body)

abbrev pub unmatched_in : List Function → First
unmatched_in [] = None
unmatched_in (f ∷ fs) = or_else (unmatched_in_function f) (unmatched_in fs)

-- the first begin, end, `return`, `break` or `continue` that breaks the rule on sections
abbrev pub first_unmatched : Program → First
first_unmatched program = unmatched_in (functions_of program.items)
