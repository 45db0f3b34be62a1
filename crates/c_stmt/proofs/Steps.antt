-- One token keeps what completes the tokens read: declarations, headers, items, and all together.
use Rattle.std.proofs.Common.{◌≡◌, ℕ, zero, suc, ◌+◌, Bool, true, false, List, [], ◌∷◌, ◌++◌, Option, Some, None, refl, sym, ap, ◌∙◌, subst, arith, append_assoc}
use Rattle.std.specs.Prelude.{codes}
use Rattle.dg_base.specs.declared.Place.{Place}
use Rattle.token_list.specs.declared.Token.{Token}
use Rattle.c_tree.specs.declared.expr.TypeWord.{TypeWord}
use Rattle.c_tree.specs.declared.expr.AssignOp.TheVariants as assignment
use Rattle.c_tree.specs.declared.expr.Expr.{Expr}
use Rattle.c_tree.specs.declared.stmt.Initialiser.TheVariants as i
use Rattle.c_tree.specs.declared.stmt.Declarator.{Declarator}
use Rattle.c_tree.specs.declared.stmt.Decl.{Decl}
use Rattle.c_tree.specs.declared.program.Param.{Param}
use Rattle.c_tree.specs.declared.program.Item.{Item}
use Rattle.c_tree.specs.declared.program.Item.TheVariants as item
use Rattle.c_tree.specs.declared.program.Program.{Program}
use Rattle.c_expr.specs.declared.form.ExprForm.TheVariants as form
use Rattle.c_expr.specs.declared.word.TypeName.{TypeName}
use Rattle.c_expr.specs.declared.word.Keyword.TheVariants as kw
use Rattle.c_expr.specs.declared.word.Word.{Word}
use Rattle.c_expr.specs.declared.word.Word.TheVariants as w
use Rattle.c_expr.specs.Words.{mark, word, word_of}
use Rattle.c_expr.specs.Expressions.{Reads}
use Rattle.c_expr.specs.TypeWords.{first_word, may_grow, grown, whole, grows}
use Rattle.c_expr.proofs.Spelled.{spelled}
use Rattle.c_stmt.specs.declared.state.Frame.{Frame}
use Rattle.c_stmt.specs.declared.state.Site.{Site}
use Rattle.c_stmt.specs.declared.state.Site.TheVariants as site
use Rattle.c_stmt.specs.declared.state.Head.{Head}
use Rattle.c_stmt.specs.declared.state.Params.{Params}
use Rattle.c_stmt.specs.declared.state.Params.TheVariants as params
use Rattle.c_stmt.specs.declared.state.Position.TheVariants as at
use Rattle.c_stmt.specs.Programs.{static, plain, an_item, is_skipped}
use Rattle.c_stmt.specs.Machine as machine
use Rattle.c_stmt.specs.Machine.{State, At, Move, Go, Ask, Stop, if_so, asks, with_declarator, declarator_of, with_initialiser, above_declared, type_begins}
use Rattle.c_expr.specs.Closers.{closes}
use Rattle.c_expr.proofs.TypeWords.{type_read}
use Rattle.c_stmt.proofs.Ends.{ends-declare}
use Rattle.c_stmt.proofs.Wanting.{Declared, NextRest, Tail, tail_ends, tail_goes, SizedRest, sized_absent, NamedRest, SizeRest, size_rest, ValueRest, one_rest, ValuesRest, values_end, FirstRest, first_named, first_heads, TypedRest, typed_rest, StaticRest, static_rest, HeadingRest, HeadedRest, prototype_ends, function_starts, Leads, in_function, FitsSite, Inner}
use Rattle.c_stmt.proofs.Goods.{Lands, lands_more, Asked, Good, as_token, mapped, asks_good}
use Rattle.c_stmt.proofs.Decls.{name_next, left_square, no_size, equals, brace, last_value, next_value, typed_plain}
use Rattle.c_stmt.proofs.Heads.{heading_token, heading_left, heading_right, heading_ends}
use Rattle.c_stmt.proofs.Bodies.{function_opens}
use Rattle.c_stmt.proofs.Closing.{room}

-- items
static_leads : {xs : List Item} {g : Program} {us : List Token} (p : Place) → StaticRest xs g us → Leads xs g 200 [] at.Top (word (codes "static") p ∷ us)
static_leads p (static_rest {x = x} r k) = (x ∷ k.0, an_item (static p r) k.1, k.2)

plain_leads : {xs : List Item} {g : Program} {us : List Token} → StaticRest xs g us → Leads xs g 200 [] at.Top us
plain_leads (static_rest {x = x} r k) = (x ∷ k.0, an_item (plain r) k.1, k.2)

typed_static : {xs : List Item} {g : Program} {s : List Frame} {us : List Token} (t : Token) (j : TypeName) → word_of t ≡ w.Type j → TypedRest xs g 199 s site.Item (first_word j) (may_grow j) us → StaticRest xs g (t ∷ us)
typed_static t j is (typed_rest r i k) = typed_plain refl (type_read t is r) i k

pub top_good : (xs : List Item) (s : List Frame) (t : Token) (v : Word) → s ≡ [] → word_of t ≡ v → Good (λ g us. Leads xs g 200 s at.Top us) t (machine.top v xs s)
top_good xs s t (w.Keyword kw.Static) empty is =
    as_token (λ g us. Leads xs g 200 s at.Top us) (machine.top (w.Keyword kw.Static) xs s) t (word (codes "static") t.place) (spelled t (w.Keyword kw.Static) is) (200, empty, λ g us k. static_leads t.place k)
top_good xs s t (w.Type j) empty is = (199, (refl, empty), λ g us k. plain_leads (typed_static t j is k))
top_good xs s t _ empty is = tt

pub static_good : (xs : List Item) (s : List Frame) (t : Token) (v : Word) → s ≡ [] → word_of t ≡ v → Good (λ g us. StaticRest xs g us) t (machine.behind_static v xs s)
static_good xs s t (w.Type j) empty is = (199, (refl, empty), λ g us k. typed_static t j is k)
static_good xs s t _ empty is = tt

-- words of a type
type_grows : {xs : List Item} {g : Program} {n : ℕ} {s : List Frame} {place : Site} {k j : TypeWord} {us : List Token} (t : Token) → grown (word_of t) k ≡ Some j → TypedRest xs g n s place j false us → TypedRest xs g n s place k true (t ∷ us)
type_grows t is (typed_rest whole i k) = typed_rest (grows is) i k

grown_good : (xs : List Item) (n : ℕ) (s : List Frame) (t : Token) (place : Site) (k : TypeWord) (o : Option TypeWord) → FitsSite place n s → grown (word_of t) k ≡ o
    → Good (λ g us. TypedRest xs g n s place k true us) t (machine.grows place o xs s)
grown_good xs n s t place k None h is = tt
grown_good xs n s t place k (Some j) h is = (n, h, λ g us m. type_grows t is m)

grows_good : (xs : List Item) (n : ℕ) (s : List Frame) (t : Token) (v : Word) (place : Site) (k : TypeWord) (more : Bool) → FitsSite place n s → word_of t ≡ v
    → Good (λ g us. TypedRest xs g n s place k more us) t (if_so more (machine.grows place (grown v k) xs s))
grows_good xs n s t v place k true h is = grown_good xs n s t place k (grown v k) h (ap (λ u. grown u k) is)
grows_good xs n s t v place k false h is = tt

pub typed_good : (xs : List Item) (n : ℕ) (s : List Frame) (t : Token) (v : Word) (place : Site) (k : TypeWord) (more : Bool) → FitsSite place n s → word_of t ≡ v
    → Good (λ g us. TypedRest xs g n s place k more us) t (machine.typed v t place k more xs s)
typed_good xs n s t w.Name place k more h is =
    let e = spelled t w.Name is in
    as_token (λ g us. TypedRest xs g n s place k more us) (machine.typed w.Name t place k more xs s) t (word t.text t.place) e.0 (n, h, λ g us m. typed_rest whole e.1 m)
typed_good xs n s t v place k more h is = grows_good xs n s t v place k more h is

-- a declaration that is whole
ended_lands : (xs : List Item) (n : ℕ) (s : List Frame) (p : Place) (place : Site) (d : Decl) (e : Declarator) → FitsSite place n s
    → Lands (λ g us. Tail n (Declared xs g n s place) d e (mark (codes ";") p ∷ us)) (Go (machine.ended place (with_declarator d e) xs s))
ended_lands xs n s p site.Item d e h = (200, h.1, λ g us k. tail_ends p (k.0, k.1, k.2 ∙ append_assoc xs (item.Shared (with_declarator d e) ∷ []) k.0))
ended_lands xs n s p site.Block d e h = (suc n, (h.0, ends-declare (with_declarator d e)), λ g us k. tail_ends p k)
ended_lands xs n s p (site.For q) d e h = (suc n, h, λ g us k. tail_ends p k)

-- a token behind a declarator, as what is behind a token or an expression
valued_lands : (xs : List Item) (n : ℕ) (s : List Frame) (t : Token) (v : Word) (place : Site) (d : Decl) (e : Declarator) → FitsSite place n s → word_of t ≡ v
    → Lands (λ g us. Tail n (Declared xs g n s place) d e (t ∷ us)) (machine.valued v place d e xs s)
valued_lands xs n s t w.Comma place d e h is =
    (n, h, λ g us k. subst (λ u. Tail n (Declared xs g n s place) d e (u ∷ us)) (sym (spelled t w.Comma is)) (tail_goes t.place k))
valued_lands xs n s t w.Semicolon place d e h is =
    lands_more (λ g us. Tail n (Declared xs g n s place) d e (mark (codes ";") t.place ∷ us)) (λ g us. Tail n (Declared xs g n s place) d e (t ∷ us)) (Go (machine.ended place (with_declarator d e) xs s))
    (λ g us k. subst (λ u. Tail n (Declared xs g n s place) d e (u ∷ us)) (sym (spelled t w.Semicolon is)) k) (ended_lands xs n s t.place place d e h)
valued_lands xs n s t _ place d e h is = tt

-- where no expression is asked for, to land is to be good
never_asks : (Q : Program → List Token → Type 0) (t : Token) (m : Move) → Lands (λ g us. Q g (t ∷ us)) m → Good Q t m
never_asks Q t (Go state) k = k
never_asks Q t (Ask state f above) k = absurd k
never_asks Q t Stop k = tt

pub valued_good : (xs : List Item) (n : ℕ) (s : List Frame) (t : Token) (v : Word) (place : Site) (d : Decl) (e : Declarator) → FitsSite place n s → word_of t ≡ v
    → Good (λ g us. Tail n (Declared xs g n s place) d e us) t (machine.valued v place d e xs s)
valued_good xs n s t v place d e h is = never_asks (λ g us. Tail n (Declared xs g n s place) d e us) t (machine.valued v place d e xs s) (valued_lands xs n s t v place d e h is)

pub sized_good : (xs : List Item) (n : ℕ) (s : List Frame) (t : Token) (v : Word) (place : Site) (d : Decl) (e : Declarator) → FitsSite place n s → word_of t ≡ v
    → Good (λ g us. SizedRest n (Declared xs g n s place) d e us) t (machine.sized v place d e xs s)
sized_good xs n s t (w.Assign assignment.Plain) place d e h is =
    as_token (λ g us. SizedRest n (Declared xs g n s place) d e us) (machine.sized (w.Assign assignment.Plain) place d e xs s) t (mark (codes "=") t.place) (spelled t (w.Assign assignment.Plain) is) (n, h, λ g us k. equals t.place k)
sized_good xs n s t v place d e h is =
    mapped (λ g us. Tail n (Declared xs g n s place) d e us) (λ g us. SizedRest n (Declared xs g n s place) d e us) t (machine.valued v place d e xs s) (λ g us k. sized_absent k) (valued_good xs n s t v place d e h is)

pub named_good : (xs : List Item) (n : ℕ) (s : List Frame) (t : Token) (v : Word) (place : Site) (d : Decl) (p : Place) (c : List ℕ) → FitsSite place n s → word_of t ≡ v
    → Good (λ g us. NamedRest n (Declared xs g n s place) d p c us) t (machine.named v place d p c xs s)
named_good xs n s t w.LeftSquare place d p c h is =
    as_token (λ g us. NamedRest n (Declared xs g n s place) d p c us) (machine.named w.LeftSquare place d p c xs s) t (mark (codes "[") t.place) (spelled t w.LeftSquare is) (n, h, λ g us k. left_square t.place k)
named_good xs n s t v place d p c h is =
    mapped (λ g us. SizedRest n (Declared xs g n s place) d (declarator_of p c None) us) (λ g us. NamedRest n (Declared xs g n s place) d p c us) t (machine.sized v place d (declarator_of p c None) xs s) (λ g us k. no_size k) (sized_good xs n s t v place d (declarator_of p c None) h is)

pub first_good : (xs : List Item) (n : ℕ) (s : List Frame) (t : Token) (v : Word) (place : Site) (k : TypeWord) (p : Place) (c : List ℕ) → FitsSite place n s → word_of t ≡ v
    → Good (λ g us. FirstRest xs g n s k p c place us) t (machine.first v place k p c xs s)
first_good xs n s t w.Left site.Item k p c h is =
    as_token (λ g us. FirstRest xs g n s k p c site.Item us) (machine.first w.Left site.Item k p c xs s) t (mark (codes "(") t.place) (spelled t w.Left is) (200, (h.1, tt), λ g us m. first_heads t.place m)
first_good xs n s t w.Left site.Block k p c h is = tt
first_good xs n s t w.Left (site.For q) k p c h is = tt
first_good xs n s t v place k p c h is =
    mapped (λ g us. NamedRest n (Declared xs g n s place) (record { word = k; declarators = [] }) p c us) (λ g us. FirstRest xs g n s k p c place us) t (machine.named v place (record { word = k; declarators = [] }) p c xs s) (λ g us m. first_named m)
    (named_good xs n s t v place (record { word = k; declarators = [] }) p c h is)

pub next_good : (xs : List Item) (n : ℕ) (s : List Frame) (t : Token) (v : Word) (place : Site) (d : Decl) → FitsSite place n s → word_of t ≡ v → Good (λ g us. NextRest n (Declared xs g n s place) d us) t (machine.next v t place d xs s)
next_good xs n s t w.Name place d h is =
    let e = spelled t w.Name is in
    as_token (λ g us. NextRest n (Declared xs g n s place) d us) (machine.next w.Name t place d xs s) t (word t.text t.place) e.0 (n, h, λ g us k. name_next e.1 k)
next_good xs n s t _ place d h is = tt

-- the room for an expression of a declarator
declared_room : (place : Site) (n : ℕ) (s : List Frame) → FitsSite place n s → above_declared place s + n ≡ 200
declared_room site.Item n s h = omega (arith, h.0)
declared_room site.Block n s h = omega (arith, room h.0)
declared_room (site.For p) n s h = omega (arith, room h)

-- an array's size
size_shuts : (xs : List Item) (n : ℕ) (s : List Frame) (t : Token) (a : List Token) (x : Expr) (u : Token) (v : Word) (place : Site) (d : Decl) (p : Place) (c : List ℕ) → FitsSite place n s → word_of u ≡ v → Reads 2 n (t ∷ a) x
    → Lands (λ g us. SizeRest n (Declared xs g n s place) d p c (t ∷ (a ++ u ∷ us))) (machine.behind_size v place d p c x xs s)
size_shuts xs n s t a x u w.RightSquare place d p c h is r =
    (n, h, λ g us k. subst (λ m. SizeRest n (Declared xs g n s place) d p c (t ∷ (a ++ m ∷ us))) (sym (spelled u w.RightSquare is)) (size_rest u.place r k))
size_shuts xs n s t a x u _ place d p c h is r = tt

size_closing : (xs : List Item) (s : List Frame) (x : Expr) (v : Word) (place : Site) (d : Decl) (p : Place) (c : List ℕ) (next : State) → machine.behind_size v place d p c x xs s ≡ Go next → closes 2 v ≡ true
size_closing xs s x w.RightSquare place d p c next is = refl
size_closing xs s x _ place d p c next is = let bad : Stop ≡ Go next = is in cc

pub size_good : (xs : List Item) (n : ℕ) (s : List Frame) (t : Token) (place : Site) (d : Decl) (p : Place) (c : List ℕ) → FitsSite place n s
    → Good (λ g us. SizeRest n (Declared xs g n s place) d p c us) t (asks form.Cond (above_declared place s) (At xs s (at.Size place d p c)))
size_good xs n s t place d p c h =
    asks_good (λ g us. SizeRest n (Declared xs g n s place) d p c us) t form.Cond (above_declared place s) n (At xs s (at.Size place d p c)) (declared_room place n s h) (record {
      lands = λ a x r u. size_shuts xs n s t a x u (word_of u) place d p c h refl r;
      closing = λ q x u next is. size_closing xs s x (word_of u) place d p c next is;
      goes = λ q x. (mark (codes "]") q, At xs s (at.Sized place d (declarator_of p c (Some x))), refl);
    })

-- an initialiser
valued_closing : (xs : List Item) (s : List Frame) (v : Word) (place : Site) (d : Decl) (e : Declarator) (next : State) → machine.valued v place d e xs s ≡ Go next → closes 1 v ≡ true
valued_closing xs s w.Comma place d e next is = refl
valued_closing xs s w.Semicolon place d e next is = refl
valued_closing xs s _ place d e next is = let bad : Stop ≡ Go next = is in cc

value_asked : (xs : List Item) (n : ℕ) (s : List Frame) (t : Token) (place : Site) (d : Decl) (e : Declarator) → FitsSite place n s
    → Asked (λ g us. ValueRest n (Declared xs g n s place) d e us) t (At xs s (at.Value place d e)) form.Assign n
value_asked xs n s t place d e h = record {
  lands = λ a x r u.
      lands_more (λ g us. Tail n (Declared xs g n s place) d (with_initialiser e (i.One x)) (u ∷ us)) (λ g us. ValueRest n (Declared xs g n s place) d e (t ∷ (a ++ u ∷ us))) (machine.behind_value (word_of u) place d e x xs s)
      (λ g us k. one_rest r k) (valued_lands xs n s u (word_of u) place d (with_initialiser e (i.One x)) h refl);
  closing = λ q x u next is. valued_closing xs s (word_of u) place d (with_initialiser e (i.One x)) next is;
  goes = λ q x. (mark (codes ",") q, At xs s (at.Next place (with_declarator d (with_initialiser e (i.One x)))), refl);
}

pub value_good : (xs : List Item) (n : ℕ) (s : List Frame) (t : Token) (v : Word) (place : Site) (d : Decl) (e : Declarator) → FitsSite place n s → word_of t ≡ v
    → Good (λ g us. ValueRest n (Declared xs g n s place) d e us) t (machine.value v place d e xs s)
value_good xs n s t w.LeftBrace place d e h is = as_token (λ g us. ValueRest n (Declared xs g n s place) d e us) (machine.value w.LeftBrace place d e xs s) t (mark (codes "{") t.place) (spelled t w.LeftBrace is) (n, h, λ g us k. brace t.place k)
value_good xs n s t _ place d e h is = asks_good (λ g us. ValueRest n (Declared xs g n s place) d e us) t form.Assign (above_declared place s) n (At xs s (at.Value place d e)) (declared_room place n s h) (value_asked xs n s t place d e h)

values_shuts : (xs : List Item) (n : ℕ) (s : List Frame) (t : Token) (a : List Token) (x : Expr) (u : Token) (v : Word) (place : Site) (d : Decl) (e : Declarator) (vs : List Expr) → FitsSite place n s → word_of u ≡ v → Reads 1 n (t ∷ a) x
    → Lands (λ g us. ValuesRest n (Declared xs g n s place) d e vs (t ∷ (a ++ u ∷ us))) (machine.behind_values v place d e vs x xs s)
values_shuts xs n s t a x u w.Comma place d e vs h is r =
    (n, h, λ g us k. subst (λ m. ValuesRest n (Declared xs g n s place) d e vs (t ∷ (a ++ m ∷ us))) (sym (spelled u w.Comma is)) (next_value vs u.place r (vs ++ x ∷ []) refl k))
values_shuts xs n s t a x u w.RightBrace place d e vs h is r =
    (n, h, λ g us k. subst (λ m. ValuesRest n (Declared xs g n s place) d e vs (t ∷ (a ++ m ∷ us))) (sym (spelled u w.RightBrace is)) (last_value u.place r k))
values_shuts xs n s t a x u _ place d e vs h is r = tt

values_closing : (xs : List Item) (s : List Frame) (x : Expr) (v : Word) (place : Site) (d : Decl) (e : Declarator) (vs : List Expr) (next : State) → machine.behind_values v place d e vs x xs s ≡ Go next → closes 1 v ≡ true
values_closing xs s x w.Comma place d e vs next is = refl
values_closing xs s x w.RightBrace place d e vs next is = refl
values_closing xs s x _ place d e vs next is = let bad : Stop ≡ Go next = is in cc

values_asked : (xs : List Item) (n : ℕ) (s : List Frame) (t : Token) (place : Site) (d : Decl) (e : Declarator) (vs : List Expr) → FitsSite place n s
    → Asked (λ g us. ValuesRest n (Declared xs g n s place) d e vs us) t (At xs s (at.Values place d e vs)) form.Assign n
values_asked xs n s t place d e vs h = record {
  lands = λ a x r u. values_shuts xs n s t a x u (word_of u) place d e vs h refl r;
  closing = λ q x u next is. values_closing xs s x (word_of u) place d e vs next is;
  goes = λ q x. (mark (codes ",") q, At xs s (at.Values place d e (vs ++ x ∷ [])), refl);
}

braces_good : (xs : List Item) (n : ℕ) (s : List Frame) (p : Place) (place : Site) (d : Decl) (e : Declarator) (vs : List Expr) → FitsSite place n s
    → Good (λ g us. ValuesRest n (Declared xs g n s place) d e vs us) (mark (codes "}") p) (machine.no_value vs Stop (Go (At xs s (at.Valued place d (with_initialiser e (i.Braces vs))))))
braces_good xs n s p place d e [] h = tt
braces_good xs n s p place d e (v ∷ vs) h = (n, h, λ g us k. values_end p k)

pub values_good : (xs : List Item) (n : ℕ) (s : List Frame) (t : Token) (v : Word) (place : Site) (d : Decl) (e : Declarator) (vs : List Expr) → FitsSite place n s → word_of t ≡ v
    → Good (λ g us. ValuesRest n (Declared xs g n s place) d e vs us) t (machine.values v place d e vs xs s)
values_good xs n s t w.RightBrace place d e vs h is = as_token (λ g us. ValuesRest n (Declared xs g n s place) d e vs us) (machine.values w.RightBrace place d e vs xs s) t (mark (codes "}") t.place) (spelled t w.RightBrace is) (braces_good xs n s t.place place d e vs h)
values_good xs n s t _ place d e vs h is = asks_good (λ g us. ValuesRest n (Declared xs g n s place) d e vs us) t form.Assign (above_declared place s) n (At xs s (at.Values place d e vs)) (declared_room place n s h) (values_asked xs n s t place d e vs h)

-- headers
inner_parameter : (t : Token) (v : Word) (d : ℕ) (o : Params) → Inner d o → Inner d (machine.parameter v t o)
inner_parameter t v zero o k = tt
inner_parameter t v (suc d) o k = ap (machine.parameter v t) k

inner_out : (d : ℕ) (o : Params) → o ≡ params.Never → Inner d o
inner_out zero o is = tt
inner_out (suc d) o is = is

closes_good : (xs : List Item) (s : List Frame) (p : Place) (h : Head) (d : ℕ) (o : Params) → s ≡ [] → Inner d o → Good (λ g us. HeadingRest xs g h d o us) (mark (codes ")") p) (machine.header_closes h d o xs s)
closes_good xs s p h zero o none inner = (200, none, λ g us k. heading_ends p o (machine.parameters o) refl k)
closes_good xs s p h (suc d) o none inner = (200, (none, inner_out d o inner), λ g us k. heading_right p o inner k)

skipped_good : (xs : List Item) (s : List Frame) (t : Token) (v : Word) (h : Head) (d : ℕ) (o : Params) → s ≡ [] → Inner d o → word_of t ≡ v → is_skipped v ≡ true
    → Good (λ g us. HeadingRest xs g h d o us) t (Go (At xs s (at.Heading h d (machine.parameter v t o))))
skipped_good xs s t v h d o none inner is skips = (200, (none, inner_parameter t v d o inner), λ g us k. heading_token t v o is skips k)

pub heading_good : (xs : List Item) (s : List Frame) (t : Token) (v : Word) (h : Head) (d : ℕ) (o : Params) → s ≡ [] → Inner d o → word_of t ≡ v → Good (λ g us. HeadingRest xs g h d o us) t (machine.heading v t h d o xs s)
heading_good xs s t w.Left h d o none inner is = as_token (λ g us. HeadingRest xs g h d o us) (machine.heading w.Left t h d o xs s) t (mark (codes "(") t.place) (spelled t w.Left is) (200, (none, refl), λ g us k. heading_left t.place o k)
heading_good xs s t w.Right h d o none inner is = as_token (λ g us. HeadingRest xs g h d o us) (machine.header_closes h d o xs s) t (mark (codes ")") t.place) (spelled t w.Right is) (closes_good xs s t.place h d o none inner)
heading_good xs s t w.Semicolon h d o none inner is = tt
heading_good xs s t w.LeftBrace h d o none inner is = tt
heading_good xs s t w.RightBrace h d o none inner is = tt
heading_good xs s t w.Name h d o none inner is = skipped_good xs s t w.Name h d o none inner is refl
heading_good xs s t w.Number h d o none inner is = skipped_good xs s t w.Number h d o none inner is refl
heading_good xs s t w.Text h d o none inner is = skipped_good xs s t w.Text h d o none inner is refl
heading_good xs s t w.LeftSquare h d o none inner is = skipped_good xs s t w.LeftSquare h d o none inner is refl
heading_good xs s t w.RightSquare h d o none inner is = skipped_good xs s t w.RightSquare h d o none inner is refl
heading_good xs s t w.Comma h d o none inner is = skipped_good xs s t w.Comma h d o none inner is refl
heading_good xs s t w.Ask h d o none inner is = skipped_good xs s t w.Ask h d o none inner is refl
heading_good xs s t w.Colon h d o none inner is = skipped_good xs s t w.Colon h d o none inner is refl
heading_good xs s t (w.Sign p) h d o none inner is = skipped_good xs s t (w.Sign p) h d o none inner is refl
heading_good xs s t (w.Step p) h d o none inner is = skipped_good xs s t (w.Step p) h d o none inner is refl
heading_good xs s t (w.Binary p) h d o none inner is = skipped_good xs s t (w.Binary p) h d o none inner is refl
heading_good xs s t (w.Assign p) h d o none inner is = skipped_good xs s t (w.Assign p) h d o none inner is refl
heading_good xs s t (w.Type p) h d o none inner is = skipped_good xs s t (w.Type p) h d o none inner is refl
heading_good xs s t (w.Keyword p) h d o none inner is = skipped_good xs s t (w.Keyword p) h d o none inner is refl
heading_good xs s t w.Other h d o none inner is = skipped_good xs s t w.Other h d o none inner is refl

function_good : (xs : List Item) (p : Place) (h : Head) (o : Option (List Param)) → Good (λ g us. HeadedRest xs g h o us) (mark (codes "{") p) (machine.function_begins h o xs [])
function_good xs p h None = tt
function_good xs p h (Some ps) = (198, in_function, λ g us k. function_starts (function_opens h ps p k))

pub headed_good : (xs : List Item) (s : List Frame) (t : Token) (v : Word) (h : Head) (o : Option (List Param)) → s ≡ [] → word_of t ≡ v → Good (λ g us. HeadedRest xs g h o us) t (machine.headed v h o xs s)
headed_good xs s t w.LeftBrace h o none is =
    as_token (λ g us. HeadedRest xs g h o us) (machine.headed w.LeftBrace h o xs s) t (mark (codes "{") t.place) (spelled t w.LeftBrace is)
    (subst (λ r. Good (λ g us. HeadedRest xs g h o us) (mark (codes "{") t.place) (machine.function_begins h o xs r)) (sym none) (function_good xs t.place h o))
headed_good xs s t w.Semicolon h o none is =
    as_token (λ g us. HeadedRest xs g h o us) (machine.headed w.Semicolon h o xs s) t (mark (codes ";") t.place) (spelled t w.Semicolon is)
    (200, none, λ g us k. prototype_ends t.place (k.0, k.1, k.2 ∙ append_assoc xs (item.Prototype h.place h.word h.name ∷ []) k.0))
headed_good xs s t _ h o none is = tt
