-- A token where a statement may begin, and behind a statement, keeps what completes the tokens read.
use Rattle.std.proofs.Common.{◌≡◌, ℕ, zero, suc, ◌+◌, true, false, List, [], ◌∷◌, ◌++◌, length, Option, Some, None, refl, sym, ap, ◌∙◌, subst, arith, append_assoc}
use Rattle.std.specs.Prelude.{codes, nat_le}
use Rattle.std.proofs.lemmas.Bool.{leb-true}
use Rattle.dg_base.specs.declared.Place.{Place}
use Rattle.token_list.specs.declared.Token.{Token}
use Rattle.c_tree.specs.declared.expr.Expr.{Expr}
use Rattle.c_tree.specs.declared.stmt.Stmt.{Stmt}
use Rattle.c_tree.specs.declared.stmt.Stmt.TheVariants as tree
use Rattle.c_tree.specs.declared.program.Item.{Item}
use Rattle.c_tree.specs.declared.program.Item.TheVariants as item
use Rattle.c_tree.specs.declared.program.Program.{Program}
use Rattle.c_expr.specs.declared.form.ExprForm.TheVariants as form
use Rattle.c_expr.specs.declared.word.TypeName.{TypeName}
use Rattle.c_expr.specs.declared.word.Keyword.{Keyword}
use Rattle.c_expr.specs.declared.word.Keyword.TheVariants as kw
use Rattle.c_expr.specs.declared.word.Word.{Word}
use Rattle.c_expr.specs.declared.word.Word.TheVariants as w
use Rattle.c_expr.specs.Words.{mark, word, word_of, keyword_text, IsName}
use Rattle.c_expr.specs.TypeWords.{first_word, may_grow}
use Rattle.token_list.specs.Numbers.{is_unsigned}
use Rattle.c_expr.specs.Expressions.{value_in, Reads, name, number, bracket, index, call, cast, prefix, step_before, step_after, binary, choose, assign, comma}
use Rattle.c_expr.proofs.Spelled.{spelled}
use Rattle.c_stmt.proofs.Labels.{label-name, label-number, label-bracket, label-index, label-call, label-cast, label-unary, label-step_before, label-step_after, label-binary, label-choose, label-assign, label-comma}
use Rattle.c_stmt.specs.declared.state.Frame.{Frame}
use Rattle.c_stmt.specs.declared.state.Frame.TheVariants.{InFunction, InBlock, AfterLabel, AfterIf, AfterElse, AfterWhile, AfterDo, AfterFor}
use Rattle.c_stmt.specs.declared.state.Site.TheVariants as site
use Rattle.c_stmt.specs.declared.state.Position.TheVariants as at
use Rattle.c_stmt.specs.Statements.{ends_open, empty}
use Rattle.c_stmt.specs.Machine as machine
use Rattle.c_stmt.specs.Machine.{Label, label_of, State, At, Move, Go, Ask, Stop, if_so, asks, asks_part, begin, block_ends, keyword, type_begins, Held, is_else, behind_closed, behind_if, behind_do, behind}
use Rattle.c_expr.specs.Closers.{closes}
use Rattle.c_expr.proofs.TypeWords.{type_read}
use Rattle.c_stmt.proofs.Ends.{ends-empty, ends-expr, ends-block, ends-break, ends-continue}
use Rattle.c_stmt.proofs.Wanting.{Goes, Wants, a_stmt, TypedRest, typed_rest, first_named, Fits, in_function, in_block, after_label, after_if, after_else, after_do}
use Rattle.c_stmt.proofs.Goods.{Lands, lands_more, Asked, Good, when, as_token, mapped, asks_good}
use Rattle.c_stmt.proofs.Decls.{typed_next, declaration_wants}
use Rattle.c_stmt.proofs.Bodies.{block_more, block_opens, body_more, block_shuts, function_shuts}
use Rattle.c_stmt.proofs.Openings.{if_begins, while_begins, do_begins, do_ends, for_begins, return_begins, break_begins, continue_begins, else_wants, expression_goes, label_wants}
use Rattle.c_stmt.proofs.Closing.{Closed, closed, room}

-- where no node fits, none begins
no_room : (Q : Program → List Token → Type 0) (t : Token) (m : Move) {s : List Frame} → Fits 0 s → Good Q t (if_so (nat_le (length s + 2) 200) m)
no_room Q t m {s = s} h = when Q t (nat_le (length s + 2) 200) m (λ le. absurd (omega (arith, room h, leb-true (length s + 2) 200 le)))

-- a `}`
block_ends_good : (xs : List Item) {n : ℕ} (p : Place) (s : List Frame) → Fits n s → Good (λ g us. Wants xs g n s us) (mark (codes "}") p) (block_ends xs s)
block_ends_good xs p (InFunction f ∷ []) in_function = (200, refl, λ g us k. function_shuts p (k.0, k.1, k.2 ∙ append_assoc xs (item.Function f ∷ []) k.0))
block_ends_good xs p [] h = elim h [ ]
block_ends_good xs p (InFunction f ∷ (k ∷ s)) h = elim h [ ]
block_ends_good xs {n = n} p (InBlock q ys ∷ s) (in_block h) = (suc n, (h, ends-block q ys), λ g us k. block_shuts p k)
block_ends_good xs p (AfterLabel q c ∷ s) h = tt
block_ends_good xs p (AfterIf q x ∷ s) h = tt
block_ends_good xs p (AfterElse q x y ∷ s) h = tt
block_ends_good xs p (AfterWhile q x ∷ s) h = tt
block_ends_good xs p (AfterDo q ∷ s) h = tt
block_ends_good xs p (AfterFor q b x z ∷ s) h = tt

-- a type where a declaration may begin
typed_wants : {xs : List Item} {g : Program} {n : ℕ} {s : List Frame} {j : TypeName} {us : List Token} (t : Token) → machine.in_block s ≡ true → word_of t ≡ w.Type j → TypedRest xs g n s site.Block (first_word j) (may_grow j) us
    → Wants xs g (suc n) s (t ∷ us)
typed_wants {xs = xs} {g = g} {n = n} {s = s} t inside is (typed_rest r i (first_named k)) =
    let d = typed_next (type_read t is r) i k in subst (Wants xs g (suc n) s) d.all (declaration_wants inside d.reads d.goes)

type_good : (xs : List Item) (n : ℕ) (s : List Frame) (t : Token) (j : TypeName) → Fits (suc n) s → word_of t ≡ w.Type j → Good (λ g us. Wants xs g (suc n) s us) t (if_so (machine.in_block s) (type_begins site.Block j xs s))
type_good xs n s t j h is =
    let Q : Program → List Token → Type 0 = λ g us. Wants xs g (suc n) s us in
    when Q t (machine.in_block s) (type_begins site.Block j xs s) (λ inside.
    when Q t (nat_le (length s + 2) 200) _ (λ le. (n, (h, inside), λ g us k. typed_wants t inside is k)))

keyword_good : (xs : List Item) (n : ℕ) (s : List Frame) (p : Place) (k : Keyword) → Fits (suc n) s → Good (λ g us. Wants xs g (suc n) s us) (word (keyword_text k) p) (keyword k p xs s)
keyword_good xs n s p kw.If h = when (λ g us. Wants xs g (suc n) s us) (word (keyword_text kw.If) p) (nat_le (length s + 2) 200) _ (λ le. (n, h, λ g us k. if_begins p k))
keyword_good xs n s p kw.While h = when (λ g us. Wants xs g (suc n) s us) (word (keyword_text kw.While) p) (nat_le (length s + 2) 200) _ (λ le. (n, h, λ g us k. while_begins p k))
keyword_good xs n s p kw.Do h = when (λ g us. Wants xs g (suc n) s us) (word (keyword_text kw.Do) p) (nat_le (length s + 2) 200) _ (λ le. (n, after_do h, λ g us k. do_begins p k))
keyword_good xs n s p kw.For h = when (λ g us. Wants xs g (suc n) s us) (word (keyword_text kw.For) p) (nat_le (length s + 2) 200) _ (λ le. (n, h, λ g us k. for_begins p k))
keyword_good xs n s p kw.Return h = when (λ g us. Wants xs g (suc n) s us) (word (keyword_text kw.Return) p) (nat_le (length s + 2) 200) _ (λ le. (n, h, λ g us k. return_begins p k))
keyword_good xs n s p kw.Break h = when (λ g us. Wants xs g (suc n) s us) (word (keyword_text kw.Break) p) (nat_le (length s + 2) 200) _ (λ le. (suc n, (h, ends-break p), λ g us k. break_begins p k))
keyword_good xs n s p kw.Continue h = when (λ g us. Wants xs g (suc n) s us) (word (keyword_text kw.Continue) p) (nat_le (length s + 2) 200) _ (λ le. (suc n, (h, ends-continue p), λ g us k. continue_begins p k))
keyword_good xs n s p kw.Else h = tt
keyword_good xs n s p kw.Static h = tt

no_keyword : (xs : List Item) (s : List Frame) (t : Token) (k : Keyword) → Fits 0 s → Good (λ g us. Wants xs g 0 s us) t (keyword k t.place xs s)
no_keyword xs s t kw.If h = no_room (λ g us. Wants xs g 0 s us) t _ h
no_keyword xs s t kw.While h = no_room (λ g us. Wants xs g 0 s us) t _ h
no_keyword xs s t kw.Do h = no_room (λ g us. Wants xs g 0 s us) t _ h
no_keyword xs s t kw.For h = no_room (λ g us. Wants xs g 0 s us) t _ h
no_keyword xs s t kw.Return h = no_room (λ g us. Wants xs g 0 s us) t _ h
no_keyword xs s t kw.Break h = no_room (λ g us. Wants xs g 0 s us) t _ h
no_keyword xs s t kw.Continue h = no_room (λ g us. Wants xs g 0 s us) t _ h
no_keyword xs s t kw.Else h = tt
no_keyword xs s t kw.Static h = tt

no_type : (xs : List Item) (s : List Frame) (t : Token) (j : TypeName) → Fits 0 s → Good (λ g us. Wants xs g 0 s us) t (if_so (machine.in_block s) (type_begins site.Block j xs s))
no_type xs s t j h = when (λ g us. Wants xs g 0 s us) t (machine.in_block s) (type_begins site.Block j xs s) (λ inside. no_room (λ g us. Wants xs g 0 s us) t _ h)

-- an expression that is a label is a name
named_label : {n : ℕ} {t : Token} {a : List Token} {x : Expr} (l : Label) → Reads 0 n (t ∷ a) x → label_of x ≡ Some l → (a ≡ []) × (t ≡ word l.name l.place) × IsName l.name
named_label l r is = by r refl is
  where
    other : {X : Type 0} {o : Option Label} → o ≡ None → o ≡ Some l → X
    other bad is = let no_label : None ≡ Some l = sym bad ∙ is in cc

    by : {n : ℕ} {b : List Token} {x : Expr} {t : Token} {a : List Token} → Reads 0 n b x → b ≡ t ∷ a → label_of x ≡ Some l → (a ≡ []) × (t ≡ word l.name l.place) × IsName l.name
    by {t = t} {a = a} (name {p = p} {c = c} i) e is =
        let same : Some (record { place = p; name = c }) ≡ Some l = sym (label-name p c) ∙ is in
        let known : record { place = p; name = c } ≡ l = cc in
        let rest : [] ≡ a = cc in
        let token : word c p ≡ t = cc in
        (sym rest, sym token ∙ ap (λ (k : Label). word k.name k.place) known, subst (λ (k : Label). IsName k.name) known i)
    by (number {p = p} {c = c}) e is = other (label-number p (value_in c) (is_unsigned c (value_in c))) is
    by (bracket {p = p} q {x = x} r) e is = other (label-bracket p x) is
    by (index {p = p} q r {c = c} {x = x} i u) e is = other (label-index p c x) is
    by (call {p = p} q r {c = c} {xs = xs} i u) e is = other (label-call p c xs) is
    by (cast {p = p} q {kind = k} {x = x} f ty u) e is = other (label-cast p k x) is
    by (prefix {p = p} {o = o} {x = x} f u) e is = other (label-unary p o x) is
    by (step_before {p = p} {o = o} {x = x} f v u) e is = other (label-step_before p o x) is
    by (step_after {p = p} {o = o} {x = x} f v u) e is = other (label-step_after p o x) is
    by (binary {p = p} {o = o} {x = x} {y = y} f u v) e is = other (label-binary p o x y) is
    by (choose {p = p} q {x = x} {y = y} {z = z} f u v m) e is = other (label-choose p x y z) is
    by (assign {p = p} {o = o} {x = x} {y = y} f may v u m) e is = other (label-assign p o x y) is
    by (comma {p = p} {x = x} {y = y} f u v) e is = other (label-comma p x y) is

-- a `:` behind an expression
label_good : (xs : List Item) (n : ℕ) (s : List Frame) (t : Token) (a : List Token) (x : Expr) (q : Place) (o : Option Label) → Fits (suc n) s → Reads 0 n (t ∷ a) x → label_of x ≡ o
    → Lands (λ g us. Wants xs g (suc n) s (t ∷ (a ++ mark (codes ":") q ∷ us))) (machine.labelled o xs s)
label_good xs n s t a x q None h r is = tt
label_good xs n s t a x q (Some l) h r is =
    let k = named_label l r is in
    (n, after_label h, λ g us m. subst (λ u. Wants xs g (suc n) s (u ∷ (a ++ mark (codes ":") q ∷ us))) (sym k.1) (subst (λ b. Wants xs g (suc n) s (word l.name l.place ∷ (b ++ mark (codes ":") q ∷ us))) (sym k.0) (label_wants q k.2 m)))

shut_good : (xs : List Item) (n : ℕ) (s : List Frame) (t : Token) (a : List Token) (x : Expr) (u : Token) (v : Word) → Fits (suc n) s → Reads 0 n (t ∷ a) x → word_of u ≡ v
    → Lands (λ g us. Wants xs g (suc n) s (t ∷ (a ++ u ∷ us))) (machine.behind_expression v t.place x xs s)
shut_good xs n s t a x u w.Semicolon h r is =
    (suc n, (h, ends-expr t.place x), λ g us k. subst (λ m. Wants xs g (suc n) s (t ∷ (a ++ m ∷ us))) (sym (spelled u w.Semicolon is)) (expression_goes u.place t a x r k))
shut_good xs n s t a x u w.Colon h r is =
    lands_more (λ g us. Wants xs g (suc n) s (t ∷ (a ++ mark (codes ":") u.place ∷ us))) (λ g us. Wants xs g (suc n) s (t ∷ (a ++ u ∷ us))) (machine.labelled (label_of x) xs s)
    (λ g us k. subst (λ m. Wants xs g (suc n) s (t ∷ (a ++ m ∷ us))) (sym (spelled u w.Colon is)) k) (label_good xs n s t a x u.place (label_of x) h r refl)
shut_good xs n s t a x u _ h r is = tt

shut_closing : (xs : List Item) (s : List Frame) (p : Place) (x : Expr) (v : Word) (next : State) → machine.behind_expression v p x xs s ≡ Go next → closes 0 v ≡ true
shut_closing xs s p x w.Semicolon next is = refl
shut_closing xs s p x w.Colon next is = refl
shut_closing xs s p x _ next is = let bad : Stop ≡ Go next = is in cc

-- an expression statement or a label
expression_asked : (xs : List Item) (n : ℕ) (s : List Frame) (t : Token) → Fits (suc n) s → Asked (λ g us. Wants xs g (suc n) s us) t (At xs s at.Begin) form.Expr n
expression_asked xs n s t h = record {
  lands = λ a x r u. shut_good xs n s t a x u (word_of u) h r refl;
  closing = λ p x u next is. shut_closing xs s p x (word_of u) next is;
  goes = λ p x. (mark (codes ";") p, At xs s (at.Whole (tree.Expr p x)), refl);
}

-- a token where a statement may begin
pub begin_good : (xs : List Item) (n : ℕ) (s : List Frame) (t : Token) (v : Word) → Fits n s → word_of t ≡ v → Good (λ g us. Wants xs g n s us) t (begin v t xs s)
begin_good xs n s t w.Semicolon h is =
    as_token (λ g us. Wants xs g n s us) (begin w.Semicolon t xs s) t (mark (codes ";") t.place) (spelled t w.Semicolon is) (n, (h, ends-empty t.place), λ g us k. a_stmt empty k)
begin_good xs n s t w.RightBrace h is = as_token (λ g us. Wants xs g n s us) (block_ends xs s) t (mark (codes "}") t.place) (spelled t w.RightBrace is) (block_ends_good xs t.place s h)
begin_good xs (suc n) s t w.LeftBrace h is =
    as_token (λ g us. Wants xs g (suc n) s us) (begin w.LeftBrace t xs s) t (mark (codes "{") t.place) (spelled t w.LeftBrace is) (when (λ g us. Wants xs g (suc n) s us) (mark (codes "{") t.place) (nat_le (length s + 2) 200) _ (λ le. (n, in_block h, λ g us k. block_opens t.place k)))
begin_good xs (suc n) s t (w.Keyword k) h is = as_token (λ g us. Wants xs g (suc n) s us) (keyword k t.place xs s) t (word (keyword_text k) t.place) (spelled t (w.Keyword k) is) (keyword_good xs n s t.place k h)
begin_good xs (suc n) s t (w.Type j) h is = type_good xs n s t j h is
begin_good xs zero s t w.LeftBrace h is = no_room (λ g us. Wants xs g 0 s us) t _ h
begin_good xs zero s t (w.Keyword k) h is = no_keyword xs s t k h
begin_good xs zero s t (w.Type j) h is = no_type xs s t j h
begin_good xs zero s t _ h is = no_room (λ g us. Wants xs g 0 s us) t _ h
begin_good xs (suc n) s t _ h is = asks_good (λ g us. Wants xs g (suc n) s us) t form.Expr (length s + 2) n (At xs s at.Begin) (omega (arith, room h)) (expression_asked xs n s t h)

-- behind the first branch of an `if`, and behind the statement of a `do`
if_good : (xs : List Item) (n : ℕ) (s : List Frame) (t : Token) (v : Word) (p : Place) (x : Expr) (y : Stmt) → Fits (suc n) s → word_of t ≡ v → (is_else v ≡ true → ends_open y ≡ false)
    → Good (λ g us. Goes xs g n (AfterIf p x ∷ s) y us) t (behind_if v p x xs y s)
if_good xs n s t (w.Keyword kw.Else) p x y h is shut =
    as_token (λ g us. Goes xs g n (AfterIf p x ∷ s) y us) (behind_if (w.Keyword kw.Else) p x xs y s) t (word (codes "else") t.place) (spelled t (w.Keyword kw.Else) is) (n, after_else h, λ g us k. else_wants t.place (shut refl) k)
if_good xs n s t _ p x y h is shut = tt

do_good : (xs : List Item) (n : ℕ) (s : List Frame) (t : Token) (v : Word) (p : Place) (y : Stmt) → Fits (suc n) s → word_of t ≡ v → Good (λ g us. Goes xs g n (AfterDo p ∷ s) y us) t (behind_do v p xs y s)
do_good xs n s t (w.Keyword kw.While) p y h is =
    as_token (λ g us. Goes xs g n (AfterDo p ∷ s) y us) (behind_do (w.Keyword kw.While) p xs y s) t (word (codes "while") t.place) (spelled t (w.Keyword kw.While) is) (n, h, λ g us k. do_ends t.place k)
do_good xs n s t _ p y h is = tt

behind_closed_good : (xs : List Item) {n : ℕ} (s : List Frame) (t : Token) (v : Word) (y : Stmt) → Fits n s → word_of t ≡ v → (is_else v ≡ true → ends_open y ≡ false) → Good (λ g us. Goes xs g n s y us) t (behind_closed v t xs y s)
behind_closed_good xs (InFunction f ∷ []) t v y in_function is shut =
    mapped (λ g us. Wants xs g 198 (InFunction (machine.with_statement f y) ∷ []) us) (λ g us. Goes xs g 198 (InFunction f ∷ []) y us) t (begin v t xs (InFunction (machine.with_statement f y) ∷ [])) (λ g us k. body_more k) (begin_good xs 198 (InFunction (machine.with_statement f y) ∷ []) t v in_function is)
behind_closed_good xs {n = n} (InBlock p zs ∷ s) t v y (in_block h) is shut =
    mapped (λ g us. Wants xs g n (InBlock p (zs ++ y ∷ []) ∷ s) us) (λ g us. Goes xs g n (InBlock p zs ∷ s) y us) t (begin v t xs (InBlock p (zs ++ y ∷ []) ∷ s)) (λ g us k. block_more k) (begin_good xs n (InBlock p (zs ++ y ∷ []) ∷ s) t v (in_block h) is)
behind_closed_good xs {n = n} (AfterIf p x ∷ s) t v y (after_if h) is shut = if_good xs n s t v p x y h is shut
behind_closed_good xs {n = n} (AfterDo p ∷ s) t v y (after_do h) is shut = do_good xs n s t v p y h is
behind_closed_good xs [] t v y h is shut = elim h [ ]
behind_closed_good xs (InFunction f ∷ (k ∷ s)) t v y h is shut = elim h [ ]
behind_closed_good xs (AfterLabel p c ∷ s) t v y h is shut = tt
behind_closed_good xs (AfterElse p x z ∷ s) t v y h is shut = tt
behind_closed_good xs (AfterWhile p x ∷ s) t v y h is shut = tt
behind_closed_good xs (AfterFor p b x z ∷ s) t v y h is shut = tt

-- a token behind a whole statement
pub behind_good : (xs : List Item) (n : ℕ) (s : List Frame) (t : Token) (v : Word) (y : Stmt) → Fits n s → ends_open y ≡ false → word_of t ≡ v → Good (λ g us. Goes xs g n s y us) t (behind v t xs y s)
behind_good xs n s t v y h shut is = by (machine.close (is_else v) y s) (closed s (is_else v) y h (λ e. shut))
  where
    by : (m : Held) → Closed y n s (is_else v) m → Good (λ g us. Goes xs g n s y us) t (behind_closed v t xs m.tree m.stack)
    by m c = mapped (λ g us. Goes xs g c.room m.stack m.tree us) (λ g us. Goes xs g n s y us) t (behind_closed v t xs m.tree m.stack) (λ g us k. c.leads xs g us k) (behind_closed_good xs m.stack t v m.tree c.fits is c.shut)
