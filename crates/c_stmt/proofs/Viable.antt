-- Each state that fits is completed by some tokens.
use Rattle.std.proofs.Common.{ℕ, zero, suc, List, [], ◌∷◌, ◌++◌, Option, Some, None, refl, sym}
use Rattle.std.proofs.lemmas.List.{append-nil}
use Rattle.dg_base.specs.declared.Place.{Place}
use Rattle.token_list.specs.declared.Token.{Token}
use Rattle.token_list.specs.declared.TokenKind.TheVariants as kind
use Rattle.token_list.specs.Numbers.{is_unsigned}
use Rattle.c_tree.specs.declared.expr.TypeWord.TheVariants as type
use Rattle.c_tree.specs.declared.expr.Expr.{Expr}
use Rattle.c_tree.specs.declared.expr.Expr.TheVariants as e
use Rattle.c_tree.specs.declared.stmt.Initialiser.TheVariants as i
use Rattle.c_tree.specs.declared.stmt.Declarator.{Declarator}
use Rattle.c_tree.specs.declared.stmt.Decl.{Decl}
use Rattle.c_tree.specs.declared.stmt.Start.{Start}
use Rattle.c_tree.specs.declared.stmt.Start.TheVariants as start
use Rattle.c_tree.specs.declared.stmt.Stmt.{Stmt}
use Rattle.c_tree.specs.declared.stmt.Stmt.TheVariants as tree
use Rattle.c_tree.specs.declared.program.Item.{Item}
use Rattle.c_tree.specs.declared.program.Item.TheVariants as item
use Rattle.c_tree.specs.declared.program.Program.{Program}
use Rattle.c_expr.specs.Expressions.{value_in, Reads, number, int}
use Rattle.c_expr.specs.TypeWords.{whole}
use Rattle.c_expr.proofs.Holding.{here, a_name, a_name-IsName}
use Rattle.c_stmt.specs.declared.state.Frame.{Frame}
use Rattle.c_stmt.specs.declared.state.Site.{Site}
use Rattle.c_stmt.specs.declared.state.Site.TheVariants as site
use Rattle.c_stmt.specs.declared.state.Tested.{Tested}
use Rattle.c_stmt.specs.declared.state.Tested.TheVariants as tested
use Rattle.c_stmt.specs.declared.state.Position.{Position}
use Rattle.c_stmt.specs.declared.state.Position.TheVariants as at
use Rattle.c_stmt.specs.Declarations.{none, last, scalar, absent, declarator, last_declarator, declaration}
use Rattle.c_stmt.specs.Statements.{nothing, empty, no_more}
use Rattle.c_stmt.specs.Programs.{end, shared, no_item}
use Rattle.c_stmt.specs.Machine.{State, At, with_declarator, declarator_of, with_initialiser}
use Rattle.c_stmt.proofs.Wanting.{After, body_with, Goes, function_goes, block_goes, label_goes, if_goes, last_goes, while_goes, do_goes, for_goes, Wants, a_stmt, StepRest, step_rest, TestRest, test_rest, StartRest, start_rest, Declared, with_declarators, next_rest, Tail, tail_ends, SizedRest, sized_absent, NamedRest, named_rest, size_rest, one_rest, values_go, SkipRest, skip_all, skip_one, prototype_ends, as_prototype, first_named, typed_rest, static_rest, TestedRest, tested_rest, return_rest, before, Leads, Fits, in_function, in_block, after_label, after_if, after_else, after_while, after_do, after_for, FitsSite, Fit}
use Rattle.c_stmt.proofs.Sound.{LeadsOn, FitOn}

-- some tokens complete some program
abbrev pub Viable : (Program → List Token → Type 0) → Type 0
Viable P = (g : Program) × (us : List Token) × P g us

-- an expression without a node below it
abbrev zero_token : Token
zero_token = record { kind = kind.Number; place = here; text = [] }

abbrev zero_tree : Expr
zero_tree = e.Number here (value_in []) (is_unsigned [] (value_in []))

zero_reads : {f n : ℕ} → Reads f n (zero_token ∷ []) zero_tree
zero_reads = number

after_viable : (xs : List Item) (x : Item) → Viable (λ g us. After xs g x us)
after_viable xs x = (record { items = xs ++ x ∷ [] }, [], ([], no_item, refl))

goes_viable : (xs : List Item) {n : ℕ} {s : List Frame} (y : Stmt) → Fits n s → Viable (λ g us. Goes xs g n s y us)
goes_viable xs y (in_function {f = f}) = let k = after_viable xs (item.Function (body_with f (y ∷ []))) in (k.0, _, function_goes here no_more (body_with f (y ∷ [])) refl k.2)
goes_viable xs y (in_block {p = p} {zs = zs} h) = let k = goes_viable xs (tree.Block p (zs ++ y ∷ [])) h in (k.0, _, block_goes here no_more (zs ++ y ∷ []) refl k.2)
goes_viable xs y (after_label {p = p} {c = c} h) = let k = goes_viable xs (tree.Label p c y) h in (k.0, k.1, label_goes k.2)
goes_viable xs y (after_if {p = p} {x = x} h) = let k = goes_viable xs (tree.If p x y None) h in (k.0, k.1, if_goes k.2)
goes_viable xs y (after_else {p = p} {x = x} {y = z} h) = let k = goes_viable xs (tree.If p x z (Some y)) h in (k.0, k.1, last_goes k.2)
goes_viable xs y (after_while {p = p} {x = x} h) = let k = goes_viable xs (tree.While p x y) h in (k.0, k.1, while_goes k.2)
goes_viable xs y (after_do {p = p} h) = let k = goes_viable xs (tree.DoWhile p y zero_tree) h in (k.0, _, do_goes here here here here zero_reads k.2)
goes_viable xs y (after_for {p = p} {b = b} {x = x} {z = z} h) = let k = goes_viable xs (tree.For p b x z y) h in (k.0, k.1, for_goes k.2)

wants_viable : (xs : List Item) {n : ℕ} {s : List Frame} → Fits n s → Viable (λ g us. Wants xs g n s us)
wants_viable xs h = let k = goes_viable xs (tree.Empty here) h in (k.0, _, a_stmt (empty {p = here}) k.2)

step_viable : (xs : List Item) (n : ℕ) (s : List Frame) (p : Place) (b : Start) (x : Option Expr) → Fits (suc n) s → Viable (λ g us. StepRest xs g n s p b x us)
step_viable xs n s p b x h = let k = wants_viable xs (after_for {p = p} {b = b} {x = x} {z = None} h) in (k.0, _, step_rest here none k.2)

test_viable : (xs : List Item) (n : ℕ) (s : List Frame) (p : Place) (b : Start) → Fits (suc n) s → Viable (λ g us. TestRest xs g n s p b us)
test_viable xs n s p b h = let k = step_viable xs n s p b None h in (k.0, _, test_rest here none k.2)

start_viable : (xs : List Item) (n : ℕ) (s : List Frame) (p : Place) → Fits (suc n) s → Viable (λ g us. StartRest xs g n s p us)
start_viable xs n s p h = let k = test_viable xs n s p start.Nothing h in (k.0, _, start_rest (nothing here) k.2)

declared_viable : (xs : List Item) (n : ℕ) (s : List Frame) (place : Site) (d : Decl) → FitsSite place n s → Viable (λ g us. Declared xs g n s place d us)
declared_viable xs n s site.Item d h = after_viable xs (item.Shared d)
declared_viable xs n s site.Block d h = goes_viable xs (tree.Declare d) h.0
declared_viable xs n s (site.For p) d h = test_viable xs (suc n) s p (start.Declare d) h

tail_viable : (xs : List Item) (n : ℕ) (s : List Frame) (place : Site) (d : Decl) (e : Declarator) → FitsSite place n s → Viable (λ g us. Tail n (Declared xs g n s place) d e us)
tail_viable xs n s place d e h = let k = declared_viable xs n s place (with_declarator d e) h in (k.0, _, tail_ends here k.2)

sized_viable : (xs : List Item) (n : ℕ) (s : List Frame) (place : Site) (d : Decl) (e : Declarator) → FitsSite place n s → Viable (λ g us. SizedRest n (Declared xs g n s place) d e us)
sized_viable xs n s place d e h = let k = tail_viable xs n s place d e h in (k.0, k.1, sized_absent k.2)

named_viable : (xs : List Item) (n : ℕ) (s : List Frame) (place : Site) (d : Decl) (p : Place) (c : List ℕ) → FitsSite place n s → Viable (λ g us. NamedRest n (Declared xs g n s place) d p c us)
named_viable xs n s place d p c h = let k = sized_viable xs n s place d (declarator_of p c None) h in (k.0, k.1, named_rest scalar k.2)

skip_viable : (d : ℕ) → (a : List Token) × SkipRest d a
skip_viable zero = ([], skip_all end)
skip_viable (suc d) = let k = skip_viable d in (_, skip_one here end k.1)

tested_viable : (xs : List Item) (n : ℕ) (s : List Frame) (c : Tested) → Fits (suc n) s → Viable (λ g us. TestedRest xs g n s c us)
tested_viable xs n s (tested.If p) h = let k = wants_viable xs (after_if {p = p} {x = zero_tree} h) in (k.0, _, tested_rest here k.1 zero_reads k.2)
tested_viable xs n s (tested.While p) h = let k = wants_viable xs (after_while {p = p} {x = zero_tree} h) in (k.0, _, tested_rest here k.1 zero_reads k.2)
tested_viable xs n s (tested.Do p y) h = let k = goes_viable xs (tree.DoWhile p y zero_tree) h in (k.0, _, tested_rest here _ zero_reads (here, k.1, refl, k.2))

-- each state that fits
viable_at : (xs : List Item) (n : ℕ) (s : List Frame) (position : Position) → Fit n s position → Viable (λ g us. Leads xs g n s position us)
viable_at xs n s at.Top h = (record { items = xs }, [], ([], no_item, sym (append-nil xs)))
viable_at xs n s at.Static h =
    let k = after_viable xs (item.Shared (record { word = type.Int; declarators = declarator_of here a_name None ∷ [] })) in
    (k.0, _, static_rest (shared (declaration here (int here) (last_declarator (declarator {p = here} a_name-IsName scalar absent)))) k.2)
viable_at xs n s (at.Typed place k more) h = let m = named_viable xs n s place (record { word = k; declarators = [] }) here a_name h in (m.0, _, typed_rest {p = here} whole a_name-IsName (first_named m.2))
viable_at xs n s (at.First place k p c) h = let m = named_viable xs n s place (record { word = k; declarators = [] }) p c h in (m.0, m.1, first_named m.2)
viable_at xs n s (at.Next place d) h =
    let k = declared_viable xs n s place (with_declarators d (declarator_of here a_name None ∷ [])) h in (k.0, _, next_rest here (last_declarator (declarator {p = here} a_name-IsName scalar absent)) k.2)
viable_at xs n s (at.Named place d p c) h = named_viable xs n s place d p c h
viable_at xs n s (at.Size place d p c) h = let k = sized_viable xs n s place d (declarator_of p c (Some zero_tree)) h in (k.0, _, size_rest here zero_reads k.2)
viable_at xs n s (at.Sized place d e) h = sized_viable xs n s place d e h
viable_at xs n s (at.Value place d e) h = let k = tail_viable xs n s place d (with_initialiser e (i.One zero_tree)) h in (k.0, _, one_rest zero_reads k.2)
viable_at xs n s (at.Values place d e vs) h = let k = tail_viable xs n s place d (with_initialiser e (i.Braces (vs ++ zero_tree ∷ []))) h in (k.0, _, values_go here (last zero_reads) k.2)
viable_at xs n s (at.Valued place d e) h = tail_viable xs n s place d e h
viable_at xs n s (at.Heading head d o) h = let k = after_viable xs (item.Prototype head.place head.word head.name) in let m = skip_viable d in (k.0, _, as_prototype here here m.1 k.2)
viable_at xs n s (at.Headed head o) h = let k = after_viable xs (item.Prototype head.place head.word head.name) in (k.0, _, prototype_ends here k.2)
viable_at xs n s at.Begin h = wants_viable xs h
viable_at xs n s (at.Whole y) h = goes_viable xs y h.0
viable_at xs n s (at.BeforeTest c) h = let k = tested_viable xs n s c h in (k.0, _, before here k.2)
viable_at xs n s (at.Test c) h = tested_viable xs n s c h
viable_at xs n s (at.Semicolon y) h = let k = goes_viable xs y h.0 in (k.0, _, before here k.2)
viable_at xs n s (at.BeforeStart p) h = let k = start_viable xs n s p h in (k.0, _, before here k.2)
viable_at xs n s (at.ForStart p) h = start_viable xs n s p h
viable_at xs n s (at.ForTest p b) h = test_viable xs n s p b h
viable_at xs n s (at.ForStep p b x) h = step_viable xs n s p b x h
viable_at xs n s (at.Return p) h = let k = goes_viable xs (tree.Return p None) h in (k.0, _, return_rest here none k.2)

pub viable : (n : ℕ) (u : State) → FitOn n u → Viable (λ g us. LeadsOn g n u us)
viable n (At xs s position) h = viable_at xs n s position h
