-- What completes the tokens that a state of the machine has read to a program.
use Rattle.std.proofs.Common.{◌≡◌, ℕ, zero, suc, Bool, true, false, List, [], ◌∷◌, ◌++◌, Option, Some, None}
use Rattle.std.specs.Prelude.{codes}
use Rattle.dg_base.specs.declared.Place.{Place}
use Rattle.token_list.specs.declared.Token.{Token}
use Rattle.c_tree.specs.declared.expr.TypeWord.{TypeWord}
use Rattle.c_tree.specs.declared.expr.TypeWord.TheVariants as type
use Rattle.c_tree.specs.declared.expr.Expr.{Expr}
use Rattle.c_tree.specs.declared.stmt.Initialiser.{Initialiser}
use Rattle.c_tree.specs.declared.stmt.Initialiser.TheVariants as i
use Rattle.c_tree.specs.declared.stmt.Declarator.{Declarator}
use Rattle.c_tree.specs.declared.stmt.Decl.{Decl}
use Rattle.c_tree.specs.declared.stmt.Start.{Start}
use Rattle.c_tree.specs.declared.stmt.Start.TheVariants as start
use Rattle.c_tree.specs.declared.stmt.Stmt.{Stmt}
use Rattle.c_tree.specs.declared.stmt.Stmt.TheVariants as tree
use Rattle.c_tree.specs.declared.program.Param.{Param}
use Rattle.c_tree.specs.declared.program.Function.{Function}
use Rattle.c_tree.specs.declared.program.Item.{Item}
use Rattle.c_tree.specs.declared.program.Item.TheVariants as item
use Rattle.c_tree.specs.declared.program.Program.{Program}
use Rattle.c_expr.specs.declared.word.Word.TheVariants as w
use Rattle.c_expr.specs.declared.word.TypeName.{TypeName}
use Rattle.c_expr.specs.Words.{mark, word, word_of, IsName}
use Rattle.c_expr.specs.Expressions.{Reads}
use Rattle.c_expr.specs.TypeWords.{first_word, may_grow, TypeRest}
use Rattle.c_stmt.specs.declared.state.Frame.{Frame}
use Rattle.c_stmt.specs.declared.state.Frame.TheVariants.{InFunction, InBlock, AfterLabel, AfterIf, AfterElse, AfterWhile, AfterDo, AfterFor}
use Rattle.c_stmt.specs.declared.state.Site.{Site}
use Rattle.c_stmt.specs.declared.state.Site.TheVariants as site
use Rattle.c_stmt.specs.declared.state.Tested.{Tested}
use Rattle.c_stmt.specs.declared.state.Tested.TheVariants as tested
use Rattle.c_stmt.specs.declared.state.Head.{Head}
use Rattle.c_stmt.specs.declared.state.Params.{Params}
use Rattle.c_stmt.specs.declared.state.Params.TheVariants as params
use Rattle.c_stmt.specs.declared.state.Position.{Position}
use Rattle.c_stmt.specs.declared.state.Position.TheVariants as at
use Rattle.c_stmt.specs.Declarations.{ReadsOption, ReadsValues, ReadsSize, ReadsInitialiser, ReadsDeclarators}
use Rattle.c_stmt.specs.Statements.{ends_open, ReadsStart, ReadsStmt, ReadsBlock}
use Rattle.c_stmt.specs.Programs.{Skipped, ReadsParameters, ReadsPlain, ReadsItems}
use Rattle.c_stmt.specs.Machine as machine
use Rattle.c_stmt.specs.Machine.{with_declarator, declarator_of, with_initialiser}

-- behind the item x, which follows the items xs, these tokens complete the program g
abbrev pub After : List Item → Program → Item → List Token → Type 0
After xs g x us = (ys : List Item) × ReadsItems 200 us ys × (g.items ≡ xs ++ x ∷ ys)

abbrev pub body_with : Function → List Stmt → Function
body_with f ys = record { place = f.place; word = f.word; name = f.name; params = f.params; body = f.body ++ ys }

-- Goes xs g n s y us: behind the statement y, within n nodes, for which the stack s waits, these tokens complete g.
pub data Goes (xs : List Item) (g : Program) : ℕ → List Frame → Stmt → List Token → Type 0 where
  function_goes : {f : Function} {y : Stmt} {ys : List Stmt} {a us : List Token} (q : Place) → ReadsBlock 198 a ys → (h : Function) → h ≡ body_with f (y ∷ ys) → After xs g (item.Function h) us
      → Goes xs g 198 (InFunction f ∷ []) y (a ++ mark (codes "}") q ∷ us)
  block_goes : {n : ℕ} {p : Place} {zs : List Stmt} {s : List Frame} {y : Stmt} {ys : List Stmt} {a us : List Token} (q : Place) → ReadsBlock n a ys → (l : List Stmt) → l ≡ zs ++ y ∷ ys → Goes xs g (suc n) s (tree.Block p l) us
      → Goes xs g n (InBlock p zs ∷ s) y (a ++ mark (codes "}") q ∷ us)
  label_goes : {n : ℕ} {p : Place} {c : List ℕ} {s : List Frame} {y : Stmt} {us : List Token} → Goes xs g (suc n) s (tree.Label p c y) us → Goes xs g n (AfterLabel p c ∷ s) y us
  if_goes : {n : ℕ} {p : Place} {x : Expr} {s : List Frame} {y : Stmt} {us : List Token} → Goes xs g (suc n) s (tree.If p x y None) us → Goes xs g n (AfterIf p x ∷ s) y us
  else_goes : {n : ℕ} {p : Place} {x : Expr} {s : List Frame} {y z : Stmt} {a us : List Token} (t : Place) → ends_open y ≡ false → ReadsStmt n a z → Goes xs g (suc n) s (tree.If p x y (Some z)) us
      → Goes xs g n (AfterIf p x ∷ s) y (word (codes "else") t ∷ (a ++ us))
  last_goes : {n : ℕ} {p : Place} {x : Expr} {s : List Frame} {y z : Stmt} {us : List Token} → Goes xs g (suc n) s (tree.If p x z (Some y)) us → Goes xs g n (AfterElse p x z ∷ s) y us
  while_goes : {n : ℕ} {p : Place} {x : Expr} {s : List Frame} {y : Stmt} {us : List Token} → Goes xs g (suc n) s (tree.While p x y) us → Goes xs g n (AfterWhile p x ∷ s) y us
  do_goes : {n : ℕ} {p : Place} {s : List Frame} {y : Stmt} {x : Expr} {a us : List Token} (q r t u : Place) → Reads 0 n a x → Goes xs g (suc n) s (tree.DoWhile p y x) us
      → Goes xs g n (AfterDo p ∷ s) y (word (codes "while") q ∷ mark (codes "(") r ∷ (a ++ mark (codes ")") t ∷ mark (codes ";") u ∷ us))
  for_goes : {n : ℕ} {p : Place} {b : Start} {x z : Option Expr} {s : List Frame} {y : Stmt} {us : List Token} → Goes xs g (suc n) s (tree.For p b x z y) us → Goes xs g n (AfterFor p b x z ∷ s) y us

-- the same where a statement may begin
pub data Wants (xs : List Item) (g : Program) : ℕ → List Frame → List Token → Type 0 where
  a_stmt : {n : ℕ} {s : List Frame} {y : Stmt} {a us : List Token} → ReadsStmt n a y → Goes xs g n s y us → Wants xs g n s (a ++ us)
  block_rest : {n : ℕ} {p : Place} {zs : List Stmt} {s : List Frame} {ys : List Stmt} {a us : List Token} (q : Place) → ReadsBlock n a ys → (l : List Stmt) → l ≡ zs ++ ys → Goes xs g (suc n) s (tree.Block p l) us
      → Wants xs g n (InBlock p zs ∷ s) (a ++ mark (codes "}") q ∷ us)
  function_rest : {f : Function} {ys : List Stmt} {a us : List Token} (q : Place) → ReadsBlock 198 a ys → (h : Function) → h ≡ body_with f ys → After xs g (item.Function h) us
      → Wants xs g 198 (InFunction f ∷ []) (a ++ mark (codes "}") q ∷ us)

-- behind the parts of a `for` that are read
pub data StepRest (xs : List Item) (g : Program) (n : ℕ) (s : List Frame) (p : Place) (b : Start) (x : Option Expr) : List Token → Type 0 where
  step_rest : {z : Option Expr} {a us : List Token} (q : Place) → ReadsOption n a z → Wants xs g n (AfterFor p b x z ∷ s) us → StepRest xs g n s p b x (a ++ mark (codes ")") q ∷ us)

pub data TestRest (xs : List Item) (g : Program) (n : ℕ) (s : List Frame) (p : Place) (b : Start) : List Token → Type 0 where
  test_rest : {x : Option Expr} {a us : List Token} (q : Place) → ReadsOption n a x → StepRest xs g n s p b x us → TestRest xs g n s p b (a ++ mark (codes ";") q ∷ us)

pub data StartRest (xs : List Item) (g : Program) (n : ℕ) (s : List Frame) (p : Place) : List Token → Type 0 where
  start_rest : {b : Start} {a us : List Token} → ReadsStart n a b → TestRest xs g n s p b us → StartRest xs g n s p (a ++ us)

-- behind a whole declaration; n nodes fit below its declarators
abbrev pub Declared : List Item → Program → ℕ → List Frame → Site → Decl → List Token → Type 0
Declared xs g n s site.Item d us = After xs g (item.Shared d) us
Declared xs g n s site.Block d us = Goes xs g (suc n) s (tree.Declare d) us
Declared xs g n s (site.For p) d us = TestRest xs g (suc n) s p (start.Declare d) us

abbrev pub with_declarators : Decl → List Declarator → Decl
with_declarators d es = record { word = d.word; declarators = d.declarators ++ es }

-- In these, K is what a whole declaration is followed by, and n nodes fit below a declarator.
-- a declarator is to come
pub data NextRest (n : ℕ) (K : Decl → List Token → Type 0) (d : Decl) : List Token → Type 0 where
  next_rest : {es : List Declarator} {a us : List Token} (q : Place) → ReadsDeclarators (suc n) a es → K (with_declarators d es) us → NextRest n K d (a ++ mark (codes ";") q ∷ us)

-- behind a whole declarator
pub data Tail (n : ℕ) (K : Decl → List Token → Type 0) (d : Decl) (e : Declarator) : List Token → Type 0 where
  tail_ends : {us : List Token} (q : Place) → K (with_declarator d e) us → Tail n K d e (mark (codes ";") q ∷ us)
  tail_goes : {us : List Token} (q : Place) → NextRest n K (with_declarator d e) us → Tail n K d e (mark (codes ",") q ∷ us)

-- behind a declarator's size
pub data SizedRest (n : ℕ) (K : Decl → List Token → Type 0) (d : Decl) (e : Declarator) : List Token → Type 0 where
  sized_absent : {us : List Token} → Tail n K d e us → SizedRest n K d e us
  sized_first : {f : Initialiser} {a us : List Token} → ReadsInitialiser n a (Some f) → Tail n K d (with_initialiser e f) us → SizedRest n K d e (a ++ us)

-- behind a declarator's name
pub data NamedRest (n : ℕ) (K : Decl → List Token → Type 0) (d : Decl) (p : Place) (c : List ℕ) : List Token → Type 0 where
  named_rest : {o : Option Expr} {a us : List Token} → ReadsSize n a o → SizedRest n K d (declarator_of p c o) us → NamedRest n K d p c (a ++ us)

-- behind the `[` of a size
pub data SizeRest (n : ℕ) (K : Decl → List Token → Type 0) (d : Decl) (p : Place) (c : List ℕ) : List Token → Type 0 where
  size_rest : {x : Expr} {a us : List Token} (q : Place) → Reads 2 n a x → SizedRest n K d (declarator_of p c (Some x)) us → SizeRest n K d p c (a ++ mark (codes "]") q ∷ us)

-- behind the `=` of an initialiser
pub data ValueRest (n : ℕ) (K : Decl → List Token → Type 0) (d : Decl) (e : Declarator) : List Token → Type 0 where
  one_rest : {x : Expr} {a us : List Token} → Reads 1 n a x → Tail n K d (with_initialiser e (i.One x)) us → ValueRest n K d e (a ++ us)
  braces_rest : {vs : List Expr} {a us : List Token} (q r : Place) → ReadsValues n a vs → Tail n K d (with_initialiser e (i.Braces vs)) us
      → ValueRest n K d e (mark (codes "{") q ∷ (a ++ mark (codes "}") r ∷ us))

-- behind values between braces
pub data ValuesRest (n : ℕ) (K : Decl → List Token → Type 0) (d : Decl) (e : Declarator) : List Expr → List Token → Type 0 where
  values_end : {v : Expr} {vs : List Expr} {us : List Token} (r : Place) → Tail n K d (with_initialiser e (i.Braces (v ∷ vs))) us → ValuesRest n K d e (v ∷ vs) (mark (codes "}") r ∷ us)
  values_go : {vs ws : List Expr} {a us : List Token} (r : Place) → ReadsValues n a ws → Tail n K d (with_initialiser e (i.Braces (vs ++ ws))) us → ValuesRest n K d e vs (a ++ mark (codes "}") r ∷ us)

-- what closes so many open brackets
pub data SkipRest : ℕ → List Token → Type 0 where
  skip_all : {a : List Token} → Skipped a → SkipRest 0 a
  skip_one : {d : ℕ} {a b : List Token} (q : Place) → Skipped a → SkipRest d b → SkipRest (suc d) (a ++ mark (codes ")") q ∷ b)

-- what goes on with parameters, to all of them
pub data ParamsRest : Params → List Token → List Param → Type 0 where
  none_yet : {a : List Token} {ps : List Param} → ReadsParameters a ps → ParamsRest params.Nothing a ps
  void_only : ParamsRest (params.Typed [] type.Void true) [] []
  typed_on : {qs ps : List Param} {k j : TypeWord} {more : Bool} (p : Place) {c : List ℕ} {a b : List Token} → TypeRest k more a j → IsName c → ParamsRest (params.Whole (qs ++ record { place = p; word = j; name = c } ∷ [])) b ps
      → ParamsRest (params.Typed qs k more) (a ++ word c p ∷ b) ps
  whole_end : {ps : List Param} → ParamsRest (params.Whole ps) [] ps
  whole_on : {qs ps : List Param} {b : List Token} (q : Place) → ParamsRest (params.Next qs) b ps → ParamsRest (params.Whole qs) (mark (codes ",") q ∷ b) ps
  next_on : {qs ps : List Param} {t : Token} {k : TypeName} {b : List Token} → word_of t ≡ w.Type k → ParamsRest (params.Typed qs (first_word k) (may_grow k)) b ps → ParamsRest (params.Next qs) (t ∷ b) ps

abbrev pub function_of : Head → List Param → List Stmt → Function
function_of h ps ys = record { place = h.place; word = h.word; name = h.name; params = ps; body = ys }

-- behind a function's header
pub data FunctionRest (xs : List Item) (g : Program) (h : Head) (ps : List Param) : List Token → Type 0 where
  function_rest_of : {ys : List Stmt} {a us : List Token} (t u : Place) → ReadsBlock 198 a ys → After xs g (item.Function (function_of h ps ys)) us
      → FunctionRest xs g h ps (mark (codes "{") t ∷ (a ++ mark (codes "}") u ∷ us))

pub data HeadedRest (xs : List Item) (g : Program) (h : Head) : Option (List Param) → List Token → Type 0 where
  prototype_ends : {o : Option (List Param)} {us : List Token} (t : Place) → After xs g (item.Prototype h.place h.word h.name) us → HeadedRest xs g h o (mark (codes ";") t ∷ us)
  function_starts : {ps : List Param} {us : List Token} → FunctionRest xs g h ps us → HeadedRest xs g h (Some ps) us

-- in a header: the tokens are skipped, or they are parameters
pub data HeadingRest (xs : List Item) (g : Program) (h : Head) : ℕ → Params → List Token → Type 0 where
  as_prototype : {d : ℕ} {o : Params} {a us : List Token} (q t : Place) → SkipRest d a → After xs g (item.Prototype h.place h.word h.name) us
      → HeadingRest xs g h d o (a ++ mark (codes ")") q ∷ mark (codes ";") t ∷ us)
  as_function : {o : Params} {ps : List Param} {a us : List Token} (q : Place) → ParamsRest o a ps → FunctionRest xs g h ps us → HeadingRest xs g h 0 o (a ++ mark (codes ")") q ∷ us)

-- behind a first name
pub data FirstRest (xs : List Item) (g : Program) (n : ℕ) (s : List Frame) (k : TypeWord) (p : Place) (c : List ℕ) : Site → List Token → Type 0 where
  first_named : {place : Site} {us : List Token} → NamedRest n (Declared xs g n s place) (record { word = k; declarators = [] }) p c us → FirstRest xs g n s k p c place us
  first_heads : {us : List Token} (q : Place) → HeadingRest xs g (record { place = p; word = k; name = c }) 0 params.Nothing us → FirstRest xs g n s k p c site.Item (mark (codes "(") q ∷ us)

-- behind words of a type
pub data TypedRest (xs : List Item) (g : Program) (n : ℕ) (s : List Frame) (place : Site) (k : TypeWord) (more : Bool) : List Token → Type 0 where
  typed_rest : {j : TypeWord} {p : Place} {c : List ℕ} {a us : List Token} → TypeRest k more a j → IsName c → FirstRest xs g n s j p c place us → TypedRest xs g n s place k more (a ++ word c p ∷ us)

pub data StaticRest (xs : List Item) (g : Program) : List Token → Type 0 where
  static_rest : {x : Item} {a us : List Token} → ReadsPlain 200 a x → After xs g x us → StaticRest xs g (a ++ us)

-- behind the `)` of a test
abbrev pub TestedGoes : List Item → Program → ℕ → List Frame → Tested → Expr → List Token → Type 0
TestedGoes xs g n s (tested.If p) x us = Wants xs g n (AfterIf p x ∷ s) us
TestedGoes xs g n s (tested.While p) x us = Wants xs g n (AfterWhile p x ∷ s) us
TestedGoes xs g n s (tested.Do p y) x us = (q : Place) × (vs : List Token) × (us ≡ mark (codes ";") q ∷ vs) × Goes xs g (suc n) s (tree.DoWhile p y x) vs

pub data TestedRest (xs : List Item) (g : Program) (n : ℕ) (s : List Frame) (c : Tested) : List Token → Type 0 where
  tested_rest : {x : Expr} {a : List Token} (q : Place) (us : List Token) → Reads 0 n a x → TestedGoes xs g n s c x us → TestedRest xs g n s c (a ++ mark (codes ")") q ∷ us)

pub data ReturnRest (xs : List Item) (g : Program) (n : ℕ) (s : List Frame) (p : Place) : List Token → Type 0 where
  return_rest : {x : Option Expr} {a us : List Token} (q : Place) → ReadsOption n a x → Goes xs g (suc n) s (tree.Return p x) us → ReturnRest xs g n s p (a ++ mark (codes ";") q ∷ us)

-- a token, and then what follows
pub data Before (text : List ℕ) (P : List Token → Type 0) : List Token → Type 0 where
  before : {us : List Token} (q : Place) → P us → Before text P (mark text q ∷ us)

-- Leads xs g n s position us: these tokens complete what has been read to the program g. In a statement that is open, and in
-- a declaration, n nodes fit below it; else n nodes fit in what the stack wants.
abbrev pub Leads : List Item → Program → ℕ → List Frame → Position → List Token → Type 0
Leads xs g n s at.Top us = (ys : List Item) × ReadsItems 200 us ys × (g.items ≡ xs ++ ys)
Leads xs g n s at.Static us = StaticRest xs g us
Leads xs g n s (at.Typed place k more) us = TypedRest xs g n s place k more us
Leads xs g n s (at.First place k p c) us = FirstRest xs g n s k p c place us
Leads xs g n s (at.Next place d) us = NextRest n (Declared xs g n s place) d us
Leads xs g n s (at.Named place d p c) us = NamedRest n (Declared xs g n s place) d p c us
Leads xs g n s (at.Size place d p c) us = SizeRest n (Declared xs g n s place) d p c us
Leads xs g n s (at.Sized place d e) us = SizedRest n (Declared xs g n s place) d e us
Leads xs g n s (at.Value place d e) us = ValueRest n (Declared xs g n s place) d e us
Leads xs g n s (at.Values place d e vs) us = ValuesRest n (Declared xs g n s place) d e vs us
Leads xs g n s (at.Valued place d e) us = Tail n (Declared xs g n s place) d e us
Leads xs g n s (at.Heading h d o) us = HeadingRest xs g h d o us
Leads xs g n s (at.Headed h o) us = HeadedRest xs g h o us
Leads xs g n s at.Begin us = Wants xs g n s us
Leads xs g n s (at.Whole y) us = Goes xs g n s y us
Leads xs g n s (at.BeforeTest c) us = Before (codes "(") (TestedRest xs g n s c) us
Leads xs g n s (at.Test c) us = TestedRest xs g n s c us
Leads xs g n s (at.Semicolon y) us = Before (codes ";") (Goes xs g n s y) us
Leads xs g n s (at.BeforeStart p) us = Before (codes "(") (StartRest xs g n s p) us
Leads xs g n s (at.ForStart p) us = StartRest xs g n s p us
Leads xs g n s (at.ForTest p b) us = TestRest xs g n s p b us
Leads xs g n s (at.ForStep p b x) us = StepRest xs g n s p b x us
Leads xs g n s (at.Return p) us = ReturnRest xs g n s p us

-- n nodes fit in the statement that the stack wants
pub data Fits : ℕ → List Frame → Type 0 where
  in_function : {f : Function} → Fits 198 (InFunction f ∷ [])
  in_block : {n : ℕ} {p : Place} {zs : List Stmt} {s : List Frame} → Fits (suc n) s → Fits n (InBlock p zs ∷ s)
  after_label : {n : ℕ} {p : Place} {c : List ℕ} {s : List Frame} → Fits (suc n) s → Fits n (AfterLabel p c ∷ s)
  after_if : {n : ℕ} {p : Place} {x : Expr} {s : List Frame} → Fits (suc n) s → Fits n (AfterIf p x ∷ s)
  after_else : {n : ℕ} {p : Place} {x : Expr} {y : Stmt} {s : List Frame} → Fits (suc n) s → Fits n (AfterElse p x y ∷ s)
  after_while : {n : ℕ} {p : Place} {x : Expr} {s : List Frame} → Fits (suc n) s → Fits n (AfterWhile p x ∷ s)
  after_do : {n : ℕ} {p : Place} {s : List Frame} → Fits (suc n) s → Fits n (AfterDo p ∷ s)
  after_for : {n : ℕ} {p : Place} {b : Start} {x z : Option Expr} {s : List Frame} → Fits (suc n) s → Fits n (AfterFor p b x z ∷ s)

-- n nodes fit below a declarator at this site
abbrev pub FitsSite : Site → ℕ → List Frame → Type 0
FitsSite site.Item n s = (n ≡ 199) × (s ≡ [])
FitsSite site.Block n s = Fits (suc n) s × (machine.in_block s ≡ true)
FitsSite (site.For p) n s = Fits (suc (suc n)) s

-- within open brackets there are no parameters
abbrev pub Inner : ℕ → Params → Type 0
Inner zero o = Unit {0}
Inner (suc d) o = o ≡ params.Never

-- the number of nodes and the stack of a state that is reached
abbrev pub Fit : ℕ → List Frame → Position → Type 0
Fit n s at.Top = s ≡ []
Fit n s at.Static = s ≡ []
Fit n s (at.Typed place k more) = FitsSite place n s
Fit n s (at.First place k p c) = FitsSite place n s
Fit n s (at.Next place d) = FitsSite place n s
Fit n s (at.Named place d p c) = FitsSite place n s
Fit n s (at.Size place d p c) = FitsSite place n s
Fit n s (at.Sized place d e) = FitsSite place n s
Fit n s (at.Value place d e) = FitsSite place n s
Fit n s (at.Values place d e vs) = FitsSite place n s
Fit n s (at.Valued place d e) = FitsSite place n s
Fit n s (at.Heading h d o) = (s ≡ []) × Inner d o
Fit n s (at.Headed h o) = s ≡ []
Fit n s at.Begin = Fits n s
Fit n s (at.Whole y) = Fits n s × (ends_open y ≡ false)
Fit n s (at.BeforeTest c) = Fits (suc n) s
Fit n s (at.Test c) = Fits (suc n) s
Fit n s (at.Semicolon y) = Fits n s × (ends_open y ≡ false)
Fit n s (at.BeforeStart p) = Fits (suc n) s
Fit n s (at.ForStart p) = Fits (suc n) s
Fit n s (at.ForTest p b) = Fits (suc n) s
Fit n s (at.ForStep p b x) = Fits (suc n) s
Fit n s (at.Return p) = Fits (suc n) s
