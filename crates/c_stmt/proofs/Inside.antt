-- One token, or an expression and the token behind it, keeps what completes the tokens read: the parts of statements, and all together.
use Rattle.std.proofs.Common.{◌≡◌, ℕ, zero, suc, ◌+◌, true, false, List, [], ◌∷◌, ◌++◌, length, Option, Some, None, refl, sym, ap, subst, arith, append_assoc}
use Rattle.std.specs.Prelude.{codes, nat_le}
use Rattle.std.proofs.lemmas.Bool.{leb-true}
use Rattle.dg_base.specs.declared.Place.{Place}
use Rattle.token_list.specs.declared.Token.{Token}
use Rattle.c_tree.specs.declared.expr.Expr.{Expr}
use Rattle.c_tree.specs.declared.stmt.Start.{Start}
use Rattle.c_tree.specs.declared.stmt.Start.TheVariants as start
use Rattle.c_tree.specs.declared.stmt.Stmt.{Stmt}
use Rattle.c_tree.specs.declared.stmt.Stmt.TheVariants as tree
use Rattle.c_tree.specs.declared.program.Item.{Item}
use Rattle.c_tree.specs.declared.program.Program.{Program}
use Rattle.c_expr.specs.declared.form.ExprForm.TheVariants as form
use Rattle.c_expr.specs.declared.word.TypeName.{TypeName}
use Rattle.c_expr.specs.declared.word.Word.{Word}
use Rattle.c_expr.specs.declared.word.Word.TheVariants as w
use Rattle.c_expr.specs.Words.{mark, word_of}
use Rattle.c_expr.specs.Expressions.{Reads}
use Rattle.c_expr.specs.TypeWords.{first_word, may_grow}
use Rattle.c_expr.proofs.Spelled.{spelled}
use Rattle.c_stmt.specs.declared.state.Frame.{Frame}
use Rattle.c_stmt.specs.declared.state.Frame.TheVariants.{AfterIf, AfterWhile, AfterFor}
use Rattle.c_stmt.specs.declared.state.Site.TheVariants as site
use Rattle.c_stmt.specs.declared.state.Tested.{Tested}
use Rattle.c_stmt.specs.declared.state.Tested.TheVariants as tested
use Rattle.c_stmt.specs.declared.state.Position.{Position}
use Rattle.c_stmt.specs.declared.state.Position.TheVariants as at
use Rattle.c_stmt.specs.Declarations.{none, some}
use Rattle.c_stmt.specs.Statements.{ends_open, nothing, expr_start, declare}
use Rattle.c_stmt.specs.Machine as machine
use Rattle.c_stmt.specs.Machine.{State, At, Move, Go, Ask, Stop, asks_part, step_by}
use Rattle.c_expr.specs.Closers.{closes}
use Rattle.c_expr.proofs.TypeWords.{type_read}
use Rattle.c_stmt.proofs.Ends.{ends-do, ends-return}
use Rattle.c_stmt.proofs.Wanting.{Goes, StepRest, step_rest, TestRest, test_rest, StartRest, start_rest, TestedGoes, TestedRest, tested_rest, ReturnRest, return_rest, Before, before, TypedRest, typed_rest, first_named, Leads, Fits, after_if, after_while, after_for, Fit}
use Rattle.c_stmt.proofs.Goods.{Lands, Asked, Good, when, as_token, asks_good}
use Rattle.c_stmt.proofs.Decls.{typed_next}
use Rattle.c_stmt.proofs.Closing.{room}
use Rattle.c_stmt.proofs.Begins.{begin_good, behind_good}
use Rattle.c_stmt.proofs.Steps.{top_good, static_good, typed_good, first_good, next_good, named_good, size_good, sized_good, value_good, values_good, valued_good, heading_good, headed_good}

-- a token before something
left_good : (xs : List Item) (n : ℕ) (s : List Frame) (t : Token) (v : Word) (position : Position) → Fit n s position → word_of t ≡ v → Good (λ g us. Before (codes "(") (Leads xs g n s position) us) t (machine.left v xs s position)
left_good xs n s t w.Left position h is = as_token (λ g us. Before (codes "(") (Leads xs g n s position) us) (Go (At xs s position)) t (mark (codes "(") t.place) (spelled t w.Left is) (n, h, λ g us k. before t.place k)
left_good xs n s t _ position h is = tt

semicolon_good : (xs : List Item) (n : ℕ) (s : List Frame) (t : Token) (v : Word) (y : Stmt) → Fits n s × (ends_open y ≡ false) → word_of t ≡ v → Good (λ g us. Before (codes ";") (Goes xs g n s y) us) t (machine.semicolon v xs s y)
semicolon_good xs n s t w.Semicolon y h is = as_token (λ g us. Before (codes ";") (Goes xs g n s y) us) (Go (At xs s (at.Whole y))) t (mark (codes ";") t.place) (spelled t w.Semicolon is) (n, h, λ g us k. before t.place k)
semicolon_good xs n s t _ y h is = tt

-- an expression of a statement
part_good : (Q : Program → List Token → Type 0) (xs : List Item) (n : ℕ) (s : List Frame) (t : Token) (position : Position) → Fits (suc n) s → Asked Q t (At xs s position) form.Expr n → Good Q t (asks_part xs s position)
part_good Q xs n s t position h k = asks_good Q t form.Expr (length s + 2) n (At xs s position) (omega (arith, room h)) k

-- a test
done_goes : {xs : List Item} {g : Program} {n : ℕ} {s : List Frame} (p : Place) (y : Stmt) (x : Expr) {us : List Token} → Before (codes ";") (Goes xs g (suc n) s (tree.DoWhile p y x)) us → TestedGoes xs g n s (tested.Do p y) x us
done_goes p y x (before {us = us} q k) = (q, us, refl, k)

tested_lands : (xs : List Item) (n : ℕ) (s : List Frame) (t : Token) (a : List Token) (x : Expr) (q : Place) (c : Tested) → Fits (suc n) s → Reads 0 n (t ∷ a) x
    → Lands (λ g us. TestedRest xs g n s c (t ∷ (a ++ mark (codes ")") q ∷ us))) (machine.tested_goes c x xs s)
tested_lands xs n s t a x q (tested.If p) h r = (n, after_if h, λ g us k. tested_rest q us r k)
tested_lands xs n s t a x q (tested.While p) h r = (n, after_while h, λ g us k. tested_rest q us r k)
tested_lands xs n s t a x q (tested.Do p y) h r = (suc n, (h, ends-do p x y), λ g us k. tested_rest q us r (done_goes p y x k))

test_shuts : (xs : List Item) (n : ℕ) (s : List Frame) (t : Token) (a : List Token) (x : Expr) (u : Token) (v : Word) (c : Tested) → Fits (suc n) s → word_of u ≡ v → Reads 0 n (t ∷ a) x
    → Lands (λ g us. TestedRest xs g n s c (t ∷ (a ++ u ∷ us))) (machine.behind_test v c x xs s)
test_shuts xs n s t a x u w.Right c h is r =
    subst (λ m. Lands (λ g us. TestedRest xs g n s c (t ∷ (a ++ m ∷ us))) (machine.tested_goes c x xs s)) (sym (spelled u w.Right is)) (tested_lands xs n s t a x u.place c h r)
test_shuts xs n s t a x u _ c h is r = tt

test_closing : (xs : List Item) (s : List Frame) (x : Expr) (v : Word) (c : Tested) (next : State) → machine.behind_test v c x xs s ≡ Go next → closes 0 v ≡ true
test_closing xs s x w.Right c next is = refl
test_closing xs s x _ c next is = let bad : Stop ≡ Go next = is in cc

test_goes : (xs : List Item) (s : List Frame) (p : Place) (x : Expr) (c : Tested) → (u : Token) × (next : State) × (machine.behind_test (word_of u) c x xs s ≡ Go next)
test_goes xs s p x (tested.If q) = (mark (codes ")") p, At xs (AfterIf q x ∷ s) at.Begin, refl)
test_goes xs s p x (tested.While q) = (mark (codes ")") p, At xs (AfterWhile q x ∷ s) at.Begin, refl)
test_goes xs s p x (tested.Do q y) = (mark (codes ")") p, At xs s (at.Semicolon (tree.DoWhile q y x)), refl)

test_good : (xs : List Item) (n : ℕ) (s : List Frame) (t : Token) (c : Tested) → Fits (suc n) s → Good (λ g us. TestedRest xs g n s c us) t (asks_part xs s (at.Test c))
test_good xs n s t c h = part_good (λ g us. TestedRest xs g n s c us) xs n s t (at.Test c) h (record {
  lands = λ a x r u. test_shuts xs n s t a x u (word_of u) c h refl r;
  closing = λ p x u next is. test_closing xs s x (word_of u) c next is;
  goes = λ p x. test_goes xs s p x c;
})

-- a part with a `;` behind it
part_shuts : (Q : Program → List Token → Type 0) (xs : List Item) (n : ℕ) (s : List Frame) (t : Token) (a : List Token) (u : Token) (v : Word) (position : Position) → Fit n s position → word_of u ≡ v
    → ((g : Program) (us : List Token) → Leads xs g n s position us → Q g (t ∷ (a ++ mark (codes ";") u.place ∷ us))) → Lands (λ g us. Q g (t ∷ (a ++ u ∷ us))) (machine.behind_part v xs s position)
part_shuts Q xs n s t a u w.Semicolon position h is lead = (n, h, λ g us k. subst (λ m. Q g (t ∷ (a ++ m ∷ us))) (sym (spelled u w.Semicolon is)) (lead g us k))
part_shuts Q xs n s t a u _ position h is lead = tt

part_closing : (xs : List Item) (s : List Frame) (v : Word) (position : Position) (next : State) → machine.behind_part v xs s position ≡ Go next → closes 0 v ≡ true
part_closing xs s w.Semicolon position next is = refl
part_closing xs s _ position next is = let bad : Stop ≡ Go next = is in cc

-- the parts of a `for`
typed_start : {xs : List Item} {g : Program} {n : ℕ} {s : List Frame} {p : Place} {us : List Token} (t : Token) (j : TypeName) → word_of t ≡ w.Type j → TypedRest xs g n s (site.For p) (first_word j) (may_grow j) us → StartRest xs g (suc n) s p (t ∷ us)
typed_start {xs = xs} {g = g} {n = n} {s = s} {p = p} t j is (typed_rest r i (first_named k)) =
    let d = typed_next (type_read t is r) i k in subst (StartRest xs g (suc n) s p) d.all (start_rest (declare d.reads) d.goes)

nothing_starts : {xs : List Item} {g : Program} {n : ℕ} {s : List Frame} {p : Place} {us : List Token} (q : Place) → TestRest xs g n s p start.Nothing us → StartRest xs g n s p (mark (codes ";") q ∷ us)
nothing_starts q k = start_rest (nothing q) k

expr_starts : {xs : List Item} {g : Program} {n : ℕ} {s : List Frame} {p : Place} {us : List Token} (q : Place) (t : Token) (a : List Token) (x : Expr) → Reads 0 n (t ∷ a) x → TestRest xs g n s p (start.Expr x) us
    → StartRest xs g n s p (t ∷ (a ++ mark (codes ";") q ∷ us))
expr_starts {xs = xs} {g = g} {n = n} {s = s} {p = p} {us = us} q t a x r k = subst (StartRest xs g n s p) (ap (λ l. t ∷ l) (append_assoc a (mark (codes ";") q ∷ []) us)) (start_rest (expr_start q r) k)

start_type : (xs : List Item) (n : ℕ) (s : List Frame) (t : Token) (j : TypeName) (p : Place) → Fits (suc n) s → word_of t ≡ w.Type j → Good (λ g us. StartRest xs g n s p us) t (machine.type_begins (site.For p) j xs s)
start_type xs zero s t j p h is = when (λ g us. StartRest xs g 0 s p us) t (nat_le (length s + 3) 200) _ (λ le. absurd (omega (arith, room h, leb-true (length s + 3) 200 le)))
start_type xs (suc n) s t j p h is = when (λ g us. StartRest xs g (suc n) s p us) t (nat_le (length s + 3) 200) _ (λ le. (n, h, λ g us k. typed_start t j is k))

start_asked : (xs : List Item) (n : ℕ) (s : List Frame) (t : Token) (p : Place) → Fits (suc n) s → Good (λ g us. StartRest xs g n s p us) t (asks_part xs s (at.ForStart p))
start_asked xs n s t p h = part_good (λ g us. StartRest xs g n s p us) xs n s t (at.ForStart p) h (record {
  lands = λ a x r u. part_shuts (λ g us. StartRest xs g n s p us) xs n s t a u (word_of u) (at.ForTest p (start.Expr x)) h refl (λ g us k. expr_starts u.place t a x r k);
  closing = λ q x u next is. part_closing xs s (word_of u) (at.ForTest p (start.Expr x)) next is;
  goes = λ q x. (mark (codes ";") q, At xs s (at.ForTest p (start.Expr x)), refl);
})

start_good : (xs : List Item) (n : ℕ) (s : List Frame) (t : Token) (v : Word) (p : Place) → Fits (suc n) s → word_of t ≡ v → Good (λ g us. StartRest xs g n s p us) t (machine.for_start v p xs s)
start_good xs n s t w.Semicolon p h is = as_token (λ g us. StartRest xs g n s p us) (machine.for_start w.Semicolon p xs s) t (mark (codes ";") t.place) (spelled t w.Semicolon is) (n, h, λ g us k. nothing_starts t.place k)
start_good xs n s t (w.Type j) p h is = start_type xs n s t j p h is
start_good xs n s t _ p h is = start_asked xs n s t p h

for_test_good : (xs : List Item) (n : ℕ) (s : List Frame) (t : Token) (v : Word) (p : Place) (b : Start) → Fits (suc n) s → word_of t ≡ v → Good (λ g us. TestRest xs g n s p b us) t (machine.for_test v p b xs s)
for_test_good xs n s t w.Semicolon p b h is = as_token (λ g us. TestRest xs g n s p b us) (machine.for_test w.Semicolon p b xs s) t (mark (codes ";") t.place) (spelled t w.Semicolon is) (n, h, λ g us k. test_rest t.place none k)
for_test_good xs n s t _ p b h is = part_good (λ g us. TestRest xs g n s p b us) xs n s t (at.ForTest p b) h (record {
  lands = λ a x r u. part_shuts (λ g us. TestRest xs g n s p b us) xs n s t a u (word_of u) (at.ForStep p b (Some x)) h refl (λ g us k. test_rest u.place (some r) k);
  closing = λ q x u next is. part_closing xs s (word_of u) (at.ForStep p b (Some x)) next is;
  goes = λ q x. (mark (codes ";") q, At xs s (at.ForStep p b (Some x)), refl);
})

step_shuts : (xs : List Item) (n : ℕ) (s : List Frame) (t : Token) (a : List Token) (x : Expr) (u : Token) (v : Word) (p : Place) (b : Start) (y : Option Expr) → Fits (suc n) s → word_of u ≡ v → Reads 0 n (t ∷ a) x
    → Lands (λ g us. StepRest xs g n s p b y (t ∷ (a ++ u ∷ us))) (machine.behind_step v p b y x xs s)
step_shuts xs n s t a x u w.Right p b y h is r =
    (n, after_for h, λ g us k. subst (λ m. StepRest xs g n s p b y (t ∷ (a ++ m ∷ us))) (sym (spelled u w.Right is)) (step_rest u.place (some r) k))
step_shuts xs n s t a x u _ p b y h is r = tt

step_closing : (xs : List Item) (s : List Frame) (x : Expr) (v : Word) (p : Place) (b : Start) (y : Option Expr) (next : State) → machine.behind_step v p b y x xs s ≡ Go next → closes 0 v ≡ true
step_closing xs s x w.Right p b y next is = refl
step_closing xs s x _ p b y next is = let bad : Stop ≡ Go next = is in cc

for_step_good : (xs : List Item) (n : ℕ) (s : List Frame) (t : Token) (v : Word) (p : Place) (b : Start) (y : Option Expr) → Fits (suc n) s → word_of t ≡ v → Good (λ g us. StepRest xs g n s p b y us) t (machine.for_step v p b y xs s)
for_step_good xs n s t w.Right p b y h is = as_token (λ g us. StepRest xs g n s p b y us) (machine.for_step w.Right p b y xs s) t (mark (codes ")") t.place) (spelled t w.Right is) (n, after_for h, λ g us k. step_rest t.place none k)
for_step_good xs n s t _ p b y h is = part_good (λ g us. StepRest xs g n s p b y us) xs n s t (at.ForStep p b y) h (record {
  lands = λ a x r u. step_shuts xs n s t a x u (word_of u) p b y h refl r;
  closing = λ q x u next is. step_closing xs s x (word_of u) p b y next is;
  goes = λ q x. (mark (codes ")") q, At xs (AfterFor p b y (Some x) ∷ s) at.Begin, refl);
})

-- `return`
returned_shuts : (xs : List Item) (n : ℕ) (s : List Frame) (t : Token) (a : List Token) (x : Expr) (u : Token) (v : Word) (p : Place) → Fits (suc n) s → word_of u ≡ v → Reads 0 n (t ∷ a) x
    → Lands (λ g us. ReturnRest xs g n s p (t ∷ (a ++ u ∷ us))) (machine.behind_part v xs s (at.Whole (tree.Return p (Some x))))
returned_shuts xs n s t a x u w.Semicolon p h is r =
    (suc n, (h, ends-return p (Some x)), λ g us k. subst (λ m. ReturnRest xs g n s p (t ∷ (a ++ m ∷ us))) (sym (spelled u w.Semicolon is)) (return_rest u.place (some r) k))
returned_shuts xs n s t a x u _ p h is r = tt

returns_good : (xs : List Item) (n : ℕ) (s : List Frame) (t : Token) (v : Word) (p : Place) → Fits (suc n) s → word_of t ≡ v → Good (λ g us. ReturnRest xs g n s p us) t (machine.returns v p xs s)
returns_good xs n s t w.Semicolon p h is =
    as_token (λ g us. ReturnRest xs g n s p us) (machine.returns w.Semicolon p xs s) t (mark (codes ";") t.place) (spelled t w.Semicolon is) (suc n, (h, ends-return p None), λ g us k. return_rest t.place none k)
returns_good xs n s t _ p h is = part_good (λ g us. ReturnRest xs g n s p us) xs n s t (at.Return p) h (record {
  lands = λ a x r u. returned_shuts xs n s t a x u (word_of u) p h refl r;
  closing = λ q x u next is. part_closing xs s (word_of u) (at.Whole (tree.Return p (Some x))) next is;
  goes = λ q x. (mark (codes ";") q, At xs s (at.Whole (tree.Return p (Some x))), refl);
})

-- one token
pub step_good : (xs : List Item) (n : ℕ) (s : List Frame) (position : Position) (t : Token) (v : Word) → Fit n s position → word_of t ≡ v → Good (λ g us. Leads xs g n s position us) t (step_by v t (At xs s position))
step_good xs n s at.Top t v h is = top_good xs s t v h is
step_good xs n s at.Static t v h is = static_good xs s t v h is
step_good xs n s (at.Typed place k more) t v h is = typed_good xs n s t v place k more h is
step_good xs n s (at.First place k p c) t v h is = first_good xs n s t v place k p c h is
step_good xs n s (at.Next place d) t v h is = next_good xs n s t v place d h is
step_good xs n s (at.Named place d p c) t v h is = named_good xs n s t v place d p c h is
step_good xs n s (at.Size place d p c) t v h is = size_good xs n s t place d p c h
step_good xs n s (at.Sized place d e) t v h is = sized_good xs n s t v place d e h is
step_good xs n s (at.Value place d e) t v h is = value_good xs n s t v place d e h is
step_good xs n s (at.Values place d e vs) t v h is = values_good xs n s t v place d e vs h is
step_good xs n s (at.Valued place d e) t v h is = valued_good xs n s t v place d e h is
step_good xs n s (at.Heading h d o) t v k is = heading_good xs s t v h d o k.0 k.1 is
step_good xs n s (at.Headed h o) t v k is = headed_good xs s t v h o k is
step_good xs n s at.Begin t v h is = begin_good xs n s t v h is
step_good xs n s (at.Whole y) t v h is = behind_good xs n s t v y h.0 h.1 is
step_good xs n s (at.BeforeTest c) t v h is = left_good xs n s t v (at.Test c) h is
step_good xs n s (at.Test c) t v h is = test_good xs n s t c h
step_good xs n s (at.Semicolon y) t v h is = semicolon_good xs n s t v y h is
step_good xs n s (at.BeforeStart p) t v h is = left_good xs n s t v (at.ForStart p) h is
step_good xs n s (at.ForStart p) t v h is = start_good xs n s t v p h is
step_good xs n s (at.ForTest p b) t v h is = for_test_good xs n s t v p b h is
step_good xs n s (at.ForStep p b x) t v h is = for_step_good xs n s t v p b x h is
step_good xs n s (at.Return p) t v h is = returns_good xs n s t v p h is
