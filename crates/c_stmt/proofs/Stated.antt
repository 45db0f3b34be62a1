-- The machine reads each statement to its end, whatever follows it.
use Rattle.std.proofs.Common.{◌≡◌, ℕ, zero, suc, ◌+◌, ◌-◌, true, false, cond, List, [], ◌∷◌, ◌++◌, length, Option, Some, None, refl, sym, ap, ◌∙◌, subst, arith, append_assoc}
use Rattle.std.specs.Prelude.{codes, not}
use Rattle.std.proofs.lemmas.List.{append-nil}
use Rattle.std.proofs.lemmas.Bool.{le-leb, false≢true}
use Rattle.dg_base.specs.declared.Place.{Place}
use Rattle.token_list.specs.declared.Token.{Token}
use Rattle.c_tree.specs.declared.expr.TypeWord.{TypeWord}
use Rattle.c_tree.specs.declared.expr.Expr.{Expr}
use Rattle.c_tree.specs.declared.expr.Expr.TheVariants as e
use Rattle.c_tree.specs.declared.stmt.Decl.{Decl}
use Rattle.c_tree.specs.declared.stmt.Start.{Start}
use Rattle.c_tree.specs.declared.stmt.Start.TheVariants as start
use Rattle.c_tree.specs.declared.stmt.Stmt.{Stmt}
use Rattle.c_tree.specs.declared.stmt.Stmt.TheVariants as tree
use Rattle.c_tree.specs.declared.program.Param.{Param}
use Rattle.c_tree.specs.declared.program.Item.{Item}
use Rattle.c_tree.specs.declared.program.Item.TheVariants as item
use Rattle.c_tree.specs.declared.program.Program.{Program}
use Rattle.c_expr.specs.declared.form.ExprForm.TheVariants as form
use Rattle.c_expr.specs.declared.word.Word.{Word}
use Rattle.c_expr.specs.declared.word.Word.TheVariants as w
use Rattle.c_expr.specs.Words.{mark, word, word_of}
use Rattle.c_expr.specs.Expressions.{Reads, name, IsType}
use Rattle.c_expr.specs.Closers.{starts}
use Rattle.c_expr.proofs.Spelled.{word-name}
use Rattle.c_expr.proofs.Firsts.{text_starts}
use Rattle.c_expr.proofs.TypeWords.{type_parts}
use Rattle.c_stmt.specs.declared.state.Frame.{Frame}
use Rattle.c_stmt.specs.declared.state.Frame.TheVariants.{InFunction, InBlock, AfterLabel, AfterIf, AfterElse, AfterWhile, AfterDo, AfterFor}
use Rattle.c_stmt.specs.declared.state.Head.{Head}
use Rattle.c_stmt.specs.declared.state.Site.TheVariants as site
use Rattle.c_stmt.specs.declared.state.Tested.{Tested}
use Rattle.c_stmt.specs.declared.state.Tested.TheVariants as tested
use Rattle.c_stmt.specs.declared.state.Position.TheVariants as at
use Rattle.c_stmt.specs.Declarations.{ReadsOption, none, some, ReadsDeclaration, declaration}
use Rattle.c_stmt.specs.Statements.{ends_open, ReadsStart, nothing, expr_start, declare, ReadsStmt, empty, expr, block, label, if_only, if_else, while, do_while, for, return, break, continue, ReadsBlock, no_more, a_declaration, a_statement}
use Rattle.c_stmt.specs.Machine as machine
use Rattle.c_stmt.specs.Machine.{State, At, Move, Go, Ask, Stop, if_so, asks, asks_part, step, shut, has_room, Held, close, filled, is_else, behind_closed, label_of, labelled, finish}
use Rattle.c_stmt.proofs.Ends.{ends-label, ends-if, ends-else, ends-while, ends-for}
use Rattle.c_stmt.proofs.Labels.{label-name}
use Rattle.c_stmt.proofs.Wanting.{function_of, Fits, in_function, in_block, after_label, after_if, after_else, after_while, after_do, after_for}
use Rattle.c_stmt.proofs.Closing.{room}
use Rattle.c_stmt.proofs.Paths.{Runs, ends, by_token, by_expression}
use Rattle.c_stmt.proofs.Whole.{by_word, so, asks_runs, declaration_runs, no_declaration}

-- a list that is not empty and does not begin with `else`
pub record Unelse (list : List Token) : Type 0 where
  pub token : Token
  pub more : List Token
  pub all : list ≡ token ∷ more
  pub plain : is_else (word_of token) ≡ false

unelse : (t : Token) (r : List Token) → is_else (word_of t) ≡ false → Unelse (t ∷ r)
unelse t r is = record { token = t; more = r; all = refl; plain = is }

extended : {a : List Token} (b : List Token) → Unelse a → Unelse (a ++ b)
extended b f = record { token = f.token; more = f.more ++ b; all = ap (λ l. l ++ b) f.all; plain = f.plain }

unelse_first : {us : List Token} (t : Token) (more : List Token) → Unelse us → us ≡ t ∷ more → is_else (word_of t) ≡ false
unelse_first t more h is =
    let both : t ∷ more ≡ h.token ∷ h.more = sym is ∙ h.all in
    let same : t ≡ h.token = cc in
    ap (λ u. is_else (word_of u)) same ∙ h.plain

starts_no : (v : Word) → starts v ≡ true → is_else v ≡ false
starts_no (w.Keyword k) is = absurd (false≢true is)
starts_no _ is = refl

text_first : {f n : ℕ} {t : Token} {a : List Token} {x : Expr} → Reads f n (t ∷ a) x → starts (word_of t) ≡ true
text_first {t = t} {a = a} r =
    let h = text_starts r in
    let both : t ∷ a ≡ h.token ∷ h.more = h.all in
    let same : t ≡ h.token = cc in
    ap (λ u. starts (word_of u)) same ∙ h.starts

-- no statement begins with `else`
stmt_unelse : {n : ℕ} {a : List Token} {y : Stmt} → ReadsStmt n a y → Unelse a
stmt_unelse (empty {p = p}) = unelse (mark (codes ";") p) [] refl
stmt_unelse (expr q {t = t} {a = a} r) = unelse t (a ++ mark (codes ";") q ∷ []) (starts_no (word_of t) (text_first r))
stmt_unelse (block {p = p} q {a = a} r) = unelse (mark (codes "{") p) (a ++ mark (codes "}") q ∷ []) refl
stmt_unelse (label {p = p} q {c = c} {a = a} i r) = unelse (word c p) (mark (codes ":") q ∷ a) (ap is_else (word-name c p i))
stmt_unelse (if_only {p = p} q r k m) = unelse (word (codes "if") p) _ refl
stmt_unelse (if_else {p = p} q r t k m o u) = unelse (word (codes "if") p) _ refl
stmt_unelse (while {p = p} q r k m) = unelse (word (codes "while") p) _ refl
stmt_unelse (do_while {p = p} q r t u k m) = unelse (word (codes "do") p) _ refl
stmt_unelse (for {p = p} q r t k l m o) = unelse (word (codes "for") p) _ refl
stmt_unelse (return {p = p} q k) = unelse (word (codes "return") p) _ refl
stmt_unelse (break {p = p} q) = unelse (word (codes "break") p) _ refl
stmt_unelse (continue {p = p} q) = unelse (word (codes "continue") p) _ refl

type_unelse : {a : List Token} {k : TypeWord} → IsType a k → Unelse a
type_unelse ty = let h = type_parts ty in record { token = h.0; more = h.1; all = h.2; plain = ap is_else h.3.is }

declaration_unelse : {n : ℕ} {a : List Token} {d : Decl} → ReadsDeclaration n a d → Unelse a
declaration_unelse (declaration q {b = b} ty ds) = extended (b ++ mark (codes ";") q ∷ []) (type_unelse ty)

block_unelse : {n : ℕ} {a : List Token} {ys : List Stmt} (q : Place) (us : List Token) → ReadsBlock n a ys → Unelse (a ++ mark (codes "}") q ∷ us)
block_unelse q us no_more = unelse (mark (codes "}") q) us refl
block_unelse q us (a_declaration {b = b} r rest) = extended (mark (codes "}") q ∷ us) (extended b (declaration_unelse r))
block_unelse q us (a_statement {b = b} r rest) = extended (mark (codes "}") q ∷ us) (extended b (stmt_unelse r))

-- the runs of a state are those of another with the same steps
same_runs : {g : Program} {s u : State} {us : List Token} → finish s ≡ finish u → ((t : Token) (more : List Token) → us ≡ t ∷ more → step t s ≡ step t u) → Runs g u us → Runs g s us
same_runs e h (ends is) = ends (e ∙ is)
same_runs e h (by_token {t = t} {ts = ts} is k) = by_token (h t ts refl ∙ is) k
same_runs e h (by_expression {t = t} {a = a} {ts = ts} c is r closer goes k) = by_expression c (h t (a ++ c ∷ ts) refl ∙ is) r closer goes k

-- a statement that waits is whole with its last part
abbrev held_goes : Word → Token → List Item → Held → Move
held_goes v t xs h = behind_closed v t xs h.tree h.stack

fill_step : (v : Word) (t : Token) (xs : List Item) (y : Stmt) (f : Frame) (s : List Frame) → machine.closes (is_else v) f ≡ true → machine.behind v t xs y (f ∷ s) ≡ machine.behind v t xs (filled f y) s
fill_step v t xs y f s is = ap (λ b. held_goes v t xs (cond b (close (is_else v) (filled f y) s) (record { tree = y; stack = f ∷ s }))) is

fills : {g : Program} {xs : List Item} {s : List Frame} {us : List Token} (f : Frame) (y : Stmt) → ((t : Token) (more : List Token) → us ≡ t ∷ more → machine.closes (is_else (word_of t)) f ≡ true)
    → Runs g (At xs s (at.Whole (filled f y))) us → Runs g (At xs (f ∷ s) (at.Whole y)) us
fills {xs = xs} {s = s} f y closing k = same_runs refl (λ t more is. fill_step (word_of t) t xs y f s (closing t more is)) k

-- a node fits
room_for : {n : ℕ} {s : List Frame} → Fits (suc n) s → has_room s ≡ true
room_for {s = s} h = le-leb (length s + 2) 200 (omega (arith, room h))

part_room : {n : ℕ} {s : List Frame} → Fits (suc n) s → (length s + 2) + n ≡ 200
part_room h = omega (arith, room h)

-- where an expression may begin
begin_asks : (v : Word) (t : Token) (xs : List Item) (s : List Frame) → starts v ≡ true → machine.begin v t xs s ≡ asks_part xs s at.Begin
begin_asks w.Semicolon t xs s is = absurd (false≢true is)
begin_asks w.RightBrace t xs s is = absurd (false≢true is)
begin_asks w.LeftBrace t xs s is = absurd (false≢true is)
begin_asks (w.Keyword k) t xs s is = absurd (false≢true is)
begin_asks (w.Type j) t xs s is = absurd (false≢true is)
begin_asks _ t xs s is = refl

start_asks : (v : Word) (p : Place) (xs : List Item) (s : List Frame) → starts v ≡ true → machine.for_start v p xs s ≡ asks_part xs s (at.ForStart p)
start_asks w.Semicolon p xs s is = absurd (false≢true is)
start_asks (w.Type j) p xs s is = absurd (false≢true is)
start_asks _ p xs s is = refl

test_asks : (v : Word) (p : Place) (b : Start) (xs : List Item) (s : List Frame) → starts v ≡ true → machine.for_test v p b xs s ≡ asks_part xs s (at.ForTest p b)
test_asks w.Semicolon p b xs s is = absurd (false≢true is)
test_asks _ p b xs s is = refl

step_asks : (v : Word) (p : Place) (b : Start) (x : Option Expr) (xs : List Item) (s : List Frame) → starts v ≡ true → machine.for_step v p b x xs s ≡ asks_part xs s (at.ForStep p b x)
step_asks w.Right p b x xs s is = absurd (false≢true is)
step_asks _ p b x xs s is = refl

return_asks : (v : Word) (p : Place) (xs : List Item) (s : List Frame) → starts v ≡ true → machine.returns v p xs s ≡ asks_part xs s (at.Return p)
return_asks w.Semicolon p xs s is = absurd (false≢true is)
return_asks _ p xs s is = refl

-- a test in its brackets
test_runs : {g : Program} {xs : List Item} {s : List Frame} {n : ℕ} {a us : List Token} {x : Expr} {r : State} (c : Tested) (q t : Place) → Fits (suc n) s → Reads 0 n a x → machine.tested_goes c x xs s ≡ Go r → Runs g r us
    → Runs g (At xs s (at.BeforeTest c)) (mark (codes "(") q ∷ (a ++ mark (codes ")") t ∷ us))
test_runs {xs = xs} {s = s} {r = r} c q t h reads goes k =
    let opens : step (mark (codes "(") q) (At xs s (at.BeforeTest c)) ≡ Go (At xs s (at.Test c)) = refl in
    by_token opens (asks_runs {r = r} (At xs s (at.Test c)) form.Expr _ (mark (codes ")") t) (λ u st. refl) (part_room h) reads refl (λ p. goes) k)

-- the parts of a `for`
start_runs : {g : Program} {xs : List Item} {s : List Frame} {n : ℕ} {a us : List Token} {b : Start} (p : Place) → Fits (suc n) s → ReadsStart n a b → Runs g (At xs s (at.ForTest p b)) us → Runs g (At xs s (at.ForStart p)) (a ++ us)
start_runs {xs = xs} {s = s} p h (nothing z) k = let goes : step (mark (codes ";") z) (At xs s (at.ForStart p)) ≡ Go (At xs s (at.ForTest p start.Nothing)) = refl in by_token goes k
start_runs {g = g} {xs = xs} {s = s} {us = us} p h (expr_start z {a = a} {x = x} reads) k =
    subst (Runs g (At xs s (at.ForStart p))) (sym (append_assoc a (mark (codes ";") z ∷ []) us))
    (asks_runs {r = At xs s (at.ForTest p (start.Expr x))} (At xs s (at.ForStart p)) form.Expr _ (mark (codes ";") z) (λ t st. start_asks (word_of t) p xs s st) (part_room h) reads refl (λ q. refl) k)
start_runs {n = zero} p h (declare r) k = absurd (no_declaration r)
start_runs {xs = xs} {s = s} {n = suc n} p h (declare r) k =
    declaration_runs xs s (site.For p) (At xs s (at.ForStart p)) h (λ t j is. by_word t (At xs s (at.ForStart p)) (w.Type j) (machine.type_begins (site.For p) j xs s) is refl) r k

test_part : {g : Program} {xs : List Item} {s : List Frame} {n : ℕ} {a us : List Token} {x : Option Expr} (p : Place) (b : Start) (z : Place) → Fits (suc n) s → ReadsOption n a x → Runs g (At xs s (at.ForStep p b x)) us
    → Runs g (At xs s (at.ForTest p b)) (a ++ mark (codes ";") z ∷ us)
test_part {xs = xs} {s = s} p b z h none k = let goes : step (mark (codes ";") z) (At xs s (at.ForTest p b)) ≡ Go (At xs s (at.ForStep p b None)) = refl in by_token goes k
test_part {xs = xs} {s = s} p b z h (some {x = x} reads) k =
    asks_runs {r = At xs s (at.ForStep p b (Some x))} (At xs s (at.ForTest p b)) form.Expr _ (mark (codes ";") z) (λ t st. test_asks (word_of t) p b xs s st) (part_room h) reads refl (λ q. refl) k

step_part : {g : Program} {xs : List Item} {s : List Frame} {n : ℕ} {a us : List Token} {y : Option Expr} (p : Place) (b : Start) (x : Option Expr) (z : Place) → Fits (suc n) s → ReadsOption n a y → Runs g (At xs (AfterFor p b x y ∷ s) at.Begin) us
    → Runs g (At xs s (at.ForStep p b x)) (a ++ mark (codes ")") z ∷ us)
step_part {xs = xs} {s = s} p b x z h none k = let goes : step (mark (codes ")") z) (At xs s (at.ForStep p b x)) ≡ Go (At xs (AfterFor p b x None ∷ s) at.Begin) = refl in by_token goes k
step_part {xs = xs} {s = s} p b x z h (some {x = y} reads) k =
    asks_runs {r = At xs (AfterFor p b x (Some y) ∷ s) at.Begin} (At xs s (at.ForStep p b x)) form.Expr _ (mark (codes ")") z) (λ t st. step_asks (word_of t) p b x xs s st) (part_room h) reads refl (λ q. refl) k

return_part : {g : Program} {xs : List Item} {s : List Frame} {n : ℕ} {a us : List Token} {x : Option Expr} (p z : Place) → Fits (suc n) s → ReadsOption n a x → Runs g (At xs s (at.Whole (tree.Return p x))) us
    → Runs g (At xs s (at.Return p)) (a ++ mark (codes ";") z ∷ us)
return_part {xs = xs} {s = s} p z h none k = let goes : step (mark (codes ";") z) (At xs s (at.Return p)) ≡ Go (At xs s (at.Whole (tree.Return p None))) = refl in by_token goes k
return_part {xs = xs} {s = s} p z h (some {x = x} reads) k =
    asks_runs {r = At xs s (at.Whole (tree.Return p (Some x)))} (At xs s (at.Return p)) form.Expr _ (mark (codes ";") z) (λ t st. return_asks (word_of t) p xs s st) (part_room h) reads refl (λ q. refl) k

-- a declaration in a block
declare_runs : {g : Program} {xs : List Item} {s : List Frame} {n : ℕ} {a us : List Token} {d : Decl} → ReadsDeclaration n a d → Fits n s → machine.in_block s ≡ true → Runs g (At xs s (at.Whole (tree.Declare d))) us → Runs g (At xs s at.Begin) (a ++ us)
declare_runs {n = zero} r h inside k = absurd (no_declaration r)
declare_runs {xs = xs} {s = s} {n = suc n} r h inside k =
    declaration_runs xs s site.Block (At xs s at.Begin) (h, inside)
    (λ t j is. by_word t (At xs s at.Begin) (w.Type j) (machine.type_begins site.Block j xs s) is (so (machine.in_block s) (machine.type_begins site.Block j xs s) inside)) r k

-- a block, or a function's outermost block, by what stands in it
pub record BlockFrame (xs : List Item) (s : List Frame) (n : ℕ) (B : List Stmt → Frame) (E : List Stmt → State) : Type 0 where
  pub fits : (zs : List Stmt) → Fits n (B zs ∷ s)
  pub inside : (zs : List Stmt) → machine.in_block (B zs ∷ s) ≡ true
  pub shuts : (zs : List Stmt) (q : Place) → step (mark (codes "}") q) (At xs (B zs ∷ s) at.Begin) ≡ Go (E zs)
  pub grows : (zs : List Stmt) (y : Stmt) (t : Token) → step t (At xs (B zs ∷ s) (at.Whole y)) ≡ step t (At xs (B (zs ++ y ∷ []) ∷ s) at.Begin)

block_frame : (xs : List Item) (s : List Frame) (p : Place) {n : ℕ} → Fits (suc n) s → BlockFrame xs s n (λ zs. InBlock p zs) (λ zs. At xs s (at.Whole (tree.Block p zs)))
block_frame xs s p h = record { fits = λ zs. in_block h; inside = λ zs. refl; shuts = λ zs q. refl; grows = λ zs y t. refl }

pub function_frame : (xs : List Item) (h : Head) (ps : List Param) → BlockFrame xs [] 198 (λ zs. InFunction (function_of h ps zs)) (λ zs. At (xs ++ item.Function (function_of h ps zs) ∷ []) [] at.Top)
function_frame xs h ps = record { fits = λ zs. in_function; inside = λ zs. refl; shuts = λ zs q. refl; grows = λ zs y t. refl }

-- statements and blocks
mutual
  pub stmt_runs : {g : Program} {xs : List Item} {s : List Frame} {n : ℕ} {a us : List Token} {y : Stmt} → ReadsStmt n a y → Fits n s → (ends_open y ≡ true → Unelse us) → Runs g (At xs s (at.Whole y)) us → Runs g (At xs s at.Begin) (a ++ us)
  stmt_runs {xs = xs} {s = s} (empty {p = p}) h o k = let goes : step (mark (codes ";") p) (At xs s at.Begin) ≡ Go (At xs s (at.Whole (tree.Empty p))) = refl in by_token goes k
  stmt_runs {g = g} {xs = xs} {s = s} {us = us} (expr {n = n} q {t = t} {a = a} {x = x} reads) h o k =
      let above : (length s + 2) + n ≡ 200 = part_room h in
      let there : step t (At xs s at.Begin) ≡ Ask (At xs s at.Begin) form.Expr (length s + 2) = begin_asks (word_of t) t xs s (text_first reads) ∙ so (has_room s) (Ask (At xs s at.Begin) form.Expr (length s + 2)) (room_for h) in
      let left : n ≡ 200 - (length s + 2) = omega (arith, above) in
      subst (λ l. Runs g (At xs s at.Begin) (t ∷ l)) (sym (append_assoc a (mark (codes ";") q ∷ []) us)) (by_expression {f = form.Expr} (mark (codes ";") q) there (subst (λ b. Reads 0 b (t ∷ a) x) left reads) refl refl k)
  stmt_runs {g = g} {xs = xs} {s = s} {us = us} (block {p = p} q {a = a} r) h o k =
      let goes : step (mark (codes "{") p) (At xs s at.Begin) ≡ Go (At xs (InBlock p [] ∷ s) at.Begin) = so (has_room s) (Go (At xs (InBlock p [] ∷ s) at.Begin)) (room_for h) in
      subst (λ l. Runs g (At xs s at.Begin) (mark (codes "{") p ∷ l)) (sym (append_assoc a (mark (codes "}") q ∷ []) us)) (by_token goes (block_runs (block_frame xs s p h) [] q r k))
  stmt_runs {xs = xs} {s = s} (label {p = p} q {c = c} {x = y} i r) h o k =
      let there : step (word c p) (At xs s at.Begin) ≡ Ask (At xs s at.Begin) form.Expr (length s + 2) =
      by_word (word c p) (At xs s at.Begin) w.Name (Ask (At xs s at.Begin) form.Expr (length s + 2)) (word-name c p i) (so (has_room s) (Ask (At xs s at.Begin) form.Expr (length s + 2)) (room_for h)) in
      let goes : shut (mark (codes ":") q) p (e.Name p c) (At xs s at.Begin) ≡ Go (At xs (AfterLabel p c ∷ s) at.Begin) = ap (λ l. labelled l xs s) (label-name p c) in
      by_expression {f = form.Expr} {a = []} (mark (codes ":") q) there (name i) refl goes (stmt_runs r (after_label h) (λ is. o (ends-label p c y ∙ is)) (fills (AfterLabel p c) y (λ t more is. refl) k))
  stmt_runs {g = g} {xs = xs} {s = s} {us = us} (if_only {p = p} q r {a = a} {b = b} {x = x} {y = y} reads t) h o k =
      let goes : step (word (codes "if") p) (At xs s at.Begin) ≡ Go (At xs s (at.BeforeTest (tested.If p))) = so (has_room s) (Go (At xs s (at.BeforeTest (tested.If p)))) (room_for h) in
      subst (λ l. Runs g (At xs s at.Begin) (word (codes "if") p ∷ mark (codes "(") q ∷ l)) (sym (append_assoc a (mark (codes ")") r ∷ b) us))
      (by_token goes (test_runs (tested.If p) q r h reads refl
      (stmt_runs t (after_if h) (λ is. o (ends-if p x y)) (fills (AfterIf p x) y (λ t' more is. ap not (unelse_first t' more (o (ends-if p x y)) is)) k))))
  stmt_runs {g = g} {xs = xs} {s = s} {us = us} (if_else {p = p} q r t {a = a} {b = b} {c = c} {x = x} {y = y} {z = z} reads ry shuts rz) h o k =
      let goes : step (word (codes "if") p) (At xs s at.Begin) ≡ Go (At xs s (at.BeforeTest (tested.If p))) = so (has_room s) (Go (At xs s (at.BeforeTest (tested.If p)))) (room_for h) in
      let other : step (word (codes "else") t) (At xs (AfterIf p x ∷ s) (at.Whole y)) ≡ Go (At xs (AfterElse p x y ∷ s) at.Begin) = refl in
      let list : a ++ mark (codes ")") r ∷ (b ++ word (codes "else") t ∷ (c ++ us)) ≡ (a ++ mark (codes ")") r ∷ (b ++ word (codes "else") t ∷ c)) ++ us = (simp append_assoc) in
      subst (λ l. Runs g (At xs s at.Begin) (word (codes "if") p ∷ mark (codes "(") q ∷ l)) list
      (by_token goes (test_runs (tested.If p) q r h reads refl
      (stmt_runs ry (after_if h) (λ is. absurd (false≢true (sym shuts ∙ is)))
      (by_token other (stmt_runs rz (after_else h) (λ is. o (ends-else p x y z ∙ is)) (fills (AfterElse p x y) z (λ t' more is. refl) k))))))
  stmt_runs {g = g} {xs = xs} {s = s} {us = us} (while {p = p} q r {a = a} {b = b} {x = x} {y = y} reads t) h o k =
      let goes : step (word (codes "while") p) (At xs s at.Begin) ≡ Go (At xs s (at.BeforeTest (tested.While p))) = so (has_room s) (Go (At xs s (at.BeforeTest (tested.While p)))) (room_for h) in
      subst (λ l. Runs g (At xs s at.Begin) (word (codes "while") p ∷ mark (codes "(") q ∷ l)) (sym (append_assoc a (mark (codes ")") r ∷ b) us))
      (by_token goes (test_runs (tested.While p) q r h reads refl (stmt_runs t (after_while h) (λ is. o (ends-while p x y ∙ is)) (fills (AfterWhile p x) y (λ t' more is. refl) k))))
  stmt_runs {g = g} {xs = xs} {s = s} {us = us} (do_while {p = p} q r t u {a = a} {b = b} {x = x} {y = y} m reads) h o k =
      let goes : step (word (codes "do") p) (At xs s at.Begin) ≡ Go (At xs (AfterDo p ∷ s) at.Begin) = so (has_room s) (Go (At xs (AfterDo p ∷ s) at.Begin)) (room_for h) in
      let tests : step (word (codes "while") q) (At xs (AfterDo p ∷ s) (at.Whole y)) ≡ Go (At xs s (at.BeforeTest (tested.Do p y))) = refl in
      let done : step (mark (codes ";") u) (At xs s (at.Semicolon (tree.DoWhile p y x))) ≡ Go (At xs s (at.Whole (tree.DoWhile p y x))) = refl in
      let list : b ++ word (codes "while") q ∷ mark (codes "(") r ∷ (a ++ mark (codes ")") t ∷ mark (codes ";") u ∷ us) ≡ (b ++ word (codes "while") q ∷ mark (codes "(") r ∷ (a ++ mark (codes ")") t ∷ mark (codes ";") u ∷ [])) ++ us = (simp append_assoc) in
      subst (λ l. Runs g (At xs s at.Begin) (word (codes "do") p ∷ l)) list
      (by_token goes (stmt_runs m (after_do h) (λ is. unelse (word (codes "while") q) _ refl) (by_token tests (test_runs (tested.Do p y) r t h reads refl (by_token done k)))))
  stmt_runs {g = g} {xs = xs} {s = s} {us = us} (for {p = p} q r t {a = a} {b = b} {c = c} {d = d} {begin = begin} {x = x} {y = y} {z = z} rs rx ry rz) h o k =
      let goes : step (word (codes "for") p) (At xs s at.Begin) ≡ Go (At xs s (at.BeforeStart p)) = so (has_room s) (Go (At xs s (at.BeforeStart p))) (room_for h) in
      let opens : step (mark (codes "(") q) (At xs s (at.BeforeStart p)) ≡ Go (At xs s (at.ForStart p)) = refl in
      let list : a ++ (b ++ mark (codes ";") r ∷ (c ++ mark (codes ")") t ∷ (d ++ us))) ≡ (a ++ (b ++ mark (codes ";") r ∷ (c ++ mark (codes ")") t ∷ d))) ++ us = (simp append_assoc) in
      subst (λ l. Runs g (At xs s at.Begin) (word (codes "for") p ∷ mark (codes "(") q ∷ l)) list
      (by_token goes (by_token opens (start_runs p h rs (test_part p begin r h rx (step_part p begin x t h ry
      (stmt_runs rz (after_for h) (λ is. o (ends-for p begin x y z ∙ is)) (fills (AfterFor p begin x y) z (λ t' more is. refl) k)))))))
  stmt_runs {g = g} {xs = xs} {s = s} {us = us} (return {p = p} q {a = a} r) h o k =
      let goes : step (word (codes "return") p) (At xs s at.Begin) ≡ Go (At xs s (at.Return p)) = so (has_room s) (Go (At xs s (at.Return p))) (room_for h) in
      subst (λ l. Runs g (At xs s at.Begin) (word (codes "return") p ∷ l)) (sym (append_assoc a (mark (codes ";") q ∷ []) us)) (by_token goes (return_part p q h r k))
  stmt_runs {xs = xs} {s = s} (break {p = p} q) h o k =
      let goes : step (word (codes "break") p) (At xs s at.Begin) ≡ Go (At xs s (at.Semicolon (tree.Break p))) = so (has_room s) (Go (At xs s (at.Semicolon (tree.Break p)))) (room_for h) in
      let done : step (mark (codes ";") q) (At xs s (at.Semicolon (tree.Break p))) ≡ Go (At xs s (at.Whole (tree.Break p))) = refl in
      by_token goes (by_token done k)
  stmt_runs {xs = xs} {s = s} (continue {p = p} q) h o k =
      let goes : step (word (codes "continue") p) (At xs s at.Begin) ≡ Go (At xs s (at.Semicolon (tree.Continue p))) = so (has_room s) (Go (At xs s (at.Semicolon (tree.Continue p)))) (room_for h) in
      let done : step (mark (codes ";") q) (At xs s (at.Semicolon (tree.Continue p))) ≡ Go (At xs s (at.Whole (tree.Continue p))) = refl in
      by_token goes (by_token done k)

  pub block_runs : {g : Program} {xs : List Item} {s : List Frame} {n : ℕ} {B : List Stmt → Frame} {E : List Stmt → State} {a us : List Token} {ys : List Stmt} → BlockFrame xs s n B E → (zs : List Stmt) (q : Place) → ReadsBlock n a ys
      → Runs g (E (zs ++ ys)) us → Runs g (At xs (B zs ∷ s) at.Begin) (a ++ mark (codes "}") q ∷ us)
  block_runs {g = g} {E = E} {us = us} f zs q no_more k = by_token (f.shuts zs q) (subst (λ l. Runs g (E l) us) (append-nil zs) k)
  block_runs {g = g} {xs = xs} {s = s} {B = B} {E = E} {us = us} f zs q (a_declaration {a = a} {b = b} {d = d} {xs = ys} r rest) k =
      subst (Runs g (At xs (B zs ∷ s) at.Begin)) (sym (append_assoc a b (mark (codes "}") q ∷ us)))
      (declare_runs r (f.fits zs) (f.inside zs) (same_runs refl (λ t more is. f.grows zs (tree.Declare d) t)
      (block_runs f (zs ++ tree.Declare d ∷ []) q rest (subst (λ l. Runs g (E l) us) (sym (append_assoc zs (tree.Declare d ∷ []) ys)) k))))
  block_runs {g = g} {xs = xs} {s = s} {B = B} {E = E} {us = us} f zs q (a_statement {a = a} {b = b} {x = y} {xs = ys} r rest) k =
      subst (Runs g (At xs (B zs ∷ s) at.Begin)) (sym (append_assoc a b (mark (codes "}") q ∷ us)))
      (stmt_runs r (f.fits zs) (λ is. block_unelse q us rest) (same_runs refl (λ t more is. f.grows zs y t)
      (block_runs f (zs ++ y ∷ []) q rest (subst (λ l. Runs g (E l) us) (sym (append_assoc zs (y ∷ []) ys)) k))))
