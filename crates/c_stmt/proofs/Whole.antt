-- The machine reads each declaration to its end, whatever follows it.
use Rattle.std.proofs.Common.{◌≡◌, ℕ, suc, ◌+◌, ◌-◌, Bool, true, false, List, [], ◌∷◌, ◌++◌, Option, Some, None, refl, sym, ap, ◌∙◌, subst, arith, append_assoc}
use Rattle.std.specs.Prelude.{codes, nat_le}
use Rattle.std.proofs.lemmas.Bool.{le-leb, false≢true}
use Rattle.dg_base.specs.declared.Place.{Place}
use Rattle.token_list.specs.declared.Token.{Token}
use Rattle.c_tree.specs.declared.expr.TypeWord.{TypeWord}
use Rattle.c_tree.specs.declared.expr.TypeWord.TheVariants as type
use Rattle.c_tree.specs.declared.expr.Expr.{Expr}
use Rattle.c_tree.specs.declared.stmt.Initialiser.{Initialiser}
use Rattle.c_tree.specs.declared.stmt.Initialiser.TheVariants as i
use Rattle.c_tree.specs.declared.stmt.Declarator.{Declarator}
use Rattle.c_tree.specs.declared.stmt.Decl.{Decl}
use Rattle.c_tree.specs.declared.program.Item.{Item}
use Rattle.c_tree.specs.declared.program.Program.{Program}
use Rattle.c_expr.specs.declared.form.ExprForm.{ExprForm}
use Rattle.c_expr.specs.declared.form.ExprForm.TheVariants as form
use Rattle.c_expr.specs.declared.word.TypeName.{TypeName}
use Rattle.c_expr.specs.declared.word.Word.{Word}
use Rattle.c_expr.specs.declared.word.Word.TheVariants as w
use Rattle.c_expr.specs.Words.{mark, word, word_of, IsName}
use Rattle.c_expr.specs.Expressions.{Reads, IsType}
use Rattle.c_expr.specs.Parser.{form_level}
use Rattle.c_expr.specs.TypeWords.{first_word, may_grow, grown, TypeRest, whole, grows}
use Rattle.c_expr.proofs.Spelled.{word-name}
use Rattle.c_stmt.specs.declared.state.Frame.{Frame}
use Rattle.c_stmt.specs.declared.state.Site.{Site}
use Rattle.c_stmt.specs.declared.state.Site.TheVariants as site
use Rattle.c_stmt.specs.declared.state.Position.TheVariants as at
use Rattle.c_stmt.specs.Machine as machine
use Rattle.c_stmt.specs.Declarations.{ReadsValues, last, last_comma, further, ReadsSize, scalar, array, ReadsInitialiser, absent, one, braces, ReadsDeclarator, declarator, ReadsDeclarators, last_declarator, next_declarator, ReadsDeclaration, declaration}
use Rattle.c_stmt.specs.Machine.{State, At, Move, Go, Ask, Stop, if_so, asks, step, step_by, shut, above_declared, with_declarator, declarator_of, with_initialiser, ended}
use Rattle.c_expr.specs.Closers.{closes, starts}
use Rattle.c_expr.proofs.Firsts.{text_starts}
use Rattle.c_expr.proofs.TypeWords.{type_parts}
use Rattle.c_stmt.proofs.Wanting.{FitsSite, with_declarators}
use Rattle.c_stmt.proofs.Closing.{room}
use Rattle.c_stmt.proofs.Paths.{Runs, by_token, by_expression}

-- a step by the word that a token is
pub by_word : (t : Token) (state : State) (v : Word) (m : Move) → word_of t ≡ v → step_by v t state ≡ m → step t state ≡ m
by_word t state v m is goes = ap (λ u. step_by u t state) is ∙ goes

pub so : (b : Bool) (m : Move) → b ≡ true → if_so b m ≡ m
so true m is = refl
so false m is = cc

-- words of a type, and the name behind them
type_steps : (v : Word) (t : Token) (place : Site) (k j : TypeWord) (xs : List Item) (s : List Frame) → grown v k ≡ Some j → machine.typed v t place k true xs s ≡ Go (At xs s (at.Typed place j false))
type_steps w.Name t place type.Int j xs s is = let bad : None ≡ Some j = is in cc
type_steps w.Name t place type.Uint j xs s is = let bad : None ≡ Some j = is in cc
type_steps w.Name t place type.Void j xs s is = let bad : None ≡ Some j = is in cc
type_steps w.Name t place type.VoidPointer j xs s is = let bad : None ≡ Some j = is in cc
type_steps w.Name t place type.Thread j xs s is = let bad : None ≡ Some j = is in cc
type_steps w.Name t place type.Mutex j xs s is = let bad : None ≡ Some j = is in cc
type_steps w.Name t place type.Cond j xs s is = let bad : None ≡ Some j = is in cc
type_steps v t place k j xs s is = ap (λ o. machine.grows place o xs s) is

pub name_steps : (place : Site) (k : TypeWord) (more : Bool) (p : Place) (c : List ℕ) (xs : List Item) (s : List Frame) → IsName c → step (word c p) (At xs s (at.Typed place k more)) ≡ Go (At xs s (at.First place k p c))
name_steps place k more p c xs s i = by_word (word c p) (At xs s (at.Typed place k more)) w.Name _ (word-name c p i) refl

-- an expression that is asked for, and the token behind it
pub asks_runs : {g : Program} {s r : State} {n : ℕ} {a us : List Token} {x : Expr} (m : State) (f : ExprForm) (above : ℕ) (c : Token) → ((t : Token) → starts (word_of t) ≡ true → step t s ≡ asks f above m) → above + n ≡ 200
    → Reads (form_level f) n a x → closes (form_level f) (word_of c) ≡ true → ((p : Place) → shut c p x m ≡ Go r) → Runs g r us → Runs g s (a ++ c ∷ us)
asks_runs {g = g} {s = s} {n = n} {us = us} {x = x} m f above c goes room' reads closer shuts k =
    let h = text_starts reads in
    let le : nat_le above 200 ≡ true = le-leb above 200 (omega (arith, room')) in
    let there : step h.token s ≡ Ask m f above = goes h.token h.starts ∙ so (nat_le above 200) (Ask m f above) le in
    let left : n ≡ 200 - above = omega (arith, room') in
    let here : Reads (form_level f) (200 - above) (h.token ∷ h.more) x = subst (λ b. Reads (form_level f) b (h.token ∷ h.more) x) left (subst (λ l. Reads (form_level f) n l x) h.all reads) in
    subst (λ l. Runs g s (l ++ c ∷ us)) (sym h.all) (by_expression c there here closer (shuts h.token.place) k)

-- the words of a type
types_run : {g : Program} {xs : List Item} {s : List Frame} {place : Site} {k j : TypeWord} {more : Bool} {a us : List Token} → TypeRest k more a j → ((m : Bool) → Runs g (At xs s (at.Typed place j m)) us) → Runs g (At xs s (at.Typed place k more)) (a ++ us)
types_run {more = more} whole r = r more
types_run {xs = xs} {s = s} {place = place} {k = k} (grows {j = j} {t = t} is) r = by_token (type_steps (word_of t) t place k j xs s is) (r false)

-- in this state a type begins a declaration
abbrev pub TypeBegins : List Item → List Frame → Site → State → Type 0
TypeBegins xs s place u = (t : Token) (j : TypeName) → word_of t ≡ w.Type j → step t u ≡ machine.type_begins place j xs s

-- where a declarator fits, its type does
site_room : (n : ℕ) (s : List Frame) (place : Site) → FitsSite place n s → above_declared place s + n ≡ 200
site_room n s site.Item h = omega (arith, h.0)
site_room n s site.Block h = omega (arith, room h.0)
site_room n s (site.For p) h = omega (arith, room h)

site_goes : (n : ℕ) (s : List Frame) (place : Site) (m : Move) → FitsSite place n s → if_so (nat_le (above_declared place s) 200) m ≡ m
site_goes n s place m h = let all : above_declared place s + n ≡ 200 = site_room n s place h in so (nat_le (above_declared place s) 200) m (le-leb (above_declared place s) 200 (omega (arith, all)))

pub type_runs : {g : Program} {xs : List Item} {s : List Frame} {place : Site} {k : TypeWord} {a us : List Token} (n : ℕ) (u : State) → FitsSite place n s → TypeBegins xs s place u → IsType a k → ((m : Bool) → Runs g (At xs s (at.Typed place k m)) us)
    → Runs g u (a ++ us)
type_runs {g = g} {xs = xs} {s = s} {place = place} {us = us} n u h goes ty r =
    let p = type_parts ty in
    let first : step p.0 u ≡ Go (At xs s (at.Typed place (first_word p.3.name) (may_grow p.3.name))) = goes p.0 p.3.name p.3.is ∙ site_goes n s place (Go (At xs s (at.Typed place (first_word p.3.name) (may_grow p.3.name)))) h in
    subst (λ l. Runs g u (l ++ us)) (sym p.2) (by_token first (types_run p.3.rest r))

abbrev is_left : Word → Bool
is_left w.Left = true
is_left _ = false

abbrev is_square : Word → Bool
is_square w.LeftSquare = true
is_square _ = false

-- behind a declarator's name, and behind its size
abbrev AtName : List Item → List Frame → Site → Decl → Place → List ℕ → State → Type 0
AtName xs s place d p c u = (t : Token) → is_left (word_of t) ≡ false → step t u ≡ machine.named (word_of t) place d p c xs s

abbrev AtSized : List Item → List Frame → Site → Decl → Declarator → State → Type 0
AtSized xs s place d e u = (t : Token) → is_left (word_of t) ≡ false → is_square (word_of t) ≡ false → step t u ≡ machine.sized (word_of t) place d e xs s

named_sized : (v : Word) (place : Site) (d : Decl) (p : Place) (c : List ℕ) (xs : List Item) (s : List Frame) → is_square v ≡ false → machine.named v place d p c xs s ≡ machine.sized v place d (declarator_of p c None) xs s
named_sized w.LeftSquare place d p c xs s is = absurd (false≢true (sym is))
named_sized _ place d p c xs s is = refl

first_named : (v : Word) (place : Site) (k : TypeWord) (p : Place) (c : List ℕ) (xs : List Item) (s : List Frame) → is_left v ≡ false → machine.first v place k p c xs s ≡ machine.named v place (record { word = k; declarators = [] }) p c xs s
first_named w.Left place k p c xs s is = absurd (false≢true (sym is))
first_named _ place k p c xs s is = refl

-- what a word behind a whole declarator is not
record Marks (v : Word) (place : Site) (d : Decl) (xs : List Item) (s : List Frame) : Type 0 where
  left : is_left v ≡ false
  square : is_square v ≡ false
  closing : closes 1 v ≡ true
  plain : (e : Declarator) → machine.sized v place d e xs s ≡ machine.valued v place d e xs s

valued_marks : (v : Word) (place : Site) (d : Decl) (e : Declarator) (xs : List Item) (s : List Frame) (r : State) → machine.valued v place d e xs s ≡ Go r → Marks v place d xs s
valued_marks w.Comma place d e xs s r is = record { left = refl; square = refl; closing = refl; plain = λ e. refl }
valued_marks w.Semicolon place d e xs s r is = record { left = refl; square = refl; closing = refl; plain = λ e. refl }
valued_marks _ place d e xs s r is = let bad : Stop ≡ Go r = is in cc

-- where a value may begin
value_asks : (v : Word) (place : Site) (d : Decl) (e : Declarator) (xs : List Item) (s : List Frame) → starts v ≡ true → machine.value v place d e xs s ≡ asks form.Assign (above_declared place s) (At xs s (at.Value place d e))
value_asks w.LeftBrace place d e xs s is = absurd (false≢true is)
value_asks _ place d e xs s is = refl

values_ask : (v : Word) (place : Site) (d : Decl) (e : Declarator) (vs : List Expr) (xs : List Item) (s : List Frame) → starts v ≡ true → machine.values v place d e vs xs s ≡ asks form.Assign (above_declared place s) (At xs s (at.Values place d e vs))
values_ask w.RightBrace place d e vs xs s is = absurd (false≢true is)
values_ask _ place d e vs xs s is = refl

some_value : (vs : List Expr) (x : Expr) (m n : Move) → machine.no_value (vs ++ x ∷ []) m n ≡ n
some_value [] x m n = refl
some_value (v ∷ vs) x m n = refl

-- values between braces
values_run : {g : Program} {xs : List Item} {s : List Frame} {n : ℕ} {a us : List Token} {ws : List Expr} (place : Site) (d : Decl) (e : Declarator) (z : Place) (vs : List Expr) → FitsSite place n s → ReadsValues n a ws
    → Runs g (At xs s (at.Valued place d (with_initialiser e (i.Braces (vs ++ ws))))) us → Runs g (At xs s (at.Values place d e vs)) (a ++ mark (codes "}") z ∷ us)
values_run {xs = xs} {s = s} {n = n} place d e z vs h (last {x = x} reads) k =
    asks_runs {r = At xs s (at.Valued place d (with_initialiser e (i.Braces (vs ++ x ∷ []))))} (At xs s (at.Values place d e vs)) form.Assign _ (mark (codes "}") z) (λ t st. values_ask (word_of t) place d e vs xs s st)
    (site_room n s place h) reads refl (λ p. refl) k
values_run {g = g} {xs = xs} {s = s} {n = n} {us = us} place d e z vs h (last_comma y {a = a} {x = x} reads) k =
    let u : State = At xs s (at.Values place d e (vs ++ x ∷ [])) in
    let ends : step (mark (codes "}") z) u ≡ Go (At xs s (at.Valued place d (with_initialiser e (i.Braces (vs ++ x ∷ []))))) = some_value vs x Stop (Go (At xs s (at.Valued place d (with_initialiser e (i.Braces (vs ++ x ∷ [])))))) in
    subst (Runs g (At xs s (at.Values place d e vs))) (sym (append_assoc a (mark (codes ",") y ∷ []) (mark (codes "}") z ∷ us)))
    (asks_runs {r = u} (At xs s (at.Values place d e vs)) form.Assign _ (mark (codes ",") y) (λ t st. values_ask (word_of t) place d e vs xs s st) (site_room n s place h) reads refl (λ p. refl) (by_token ends k))
values_run {g = g} {xs = xs} {s = s} {n = n} {us = us} place d e z vs h (further y {a = a} {b = b} {x = x} {y = v} {xs = ws} reads rest) k =
    let u : State = At xs s (at.Values place d e (vs ++ x ∷ [])) in
    let k' : Runs g (At xs s (at.Valued place d (with_initialiser e (i.Braces ((vs ++ x ∷ []) ++ v ∷ ws))))) us = subst (λ l. Runs g (At xs s (at.Valued place d (with_initialiser e (i.Braces l)))) us) (sym (append_assoc vs (x ∷ []) (v ∷ ws))) k in
    subst (Runs g (At xs s (at.Values place d e vs))) (sym (append_assoc a (mark (codes ",") y ∷ b) (mark (codes "}") z ∷ us)))
    (asks_runs {r = u} (At xs s (at.Values place d e vs)) form.Assign _ (mark (codes ",") y) (λ t st. values_ask (word_of t) place d e vs xs s st) (site_room n s place h) reads refl (λ p. refl)
    (values_run place d e z (vs ++ x ∷ []) h rest k'))

-- an initialiser, and the token behind it
abbrev declarator_with : Place → List ℕ → Option Expr → Option Initialiser → Declarator
declarator_with p q o first = record { place = p; name = q; size = o; initialiser = first }

init_runs : {g : Program} {n : ℕ} {b us : List Token} {first : Option Initialiser} {r : State} (xs : List Item) (s : List Frame) (place : Site) (d : Decl) (p : Place) (q : List ℕ) (o : Option Expr) (u : State) (c : Token)
    → FitsSite place n s → AtSized xs s place d (declarator_of p q o) u → ReadsInitialiser n b first → machine.valued (word_of c) place d (declarator_with p q o first) xs s ≡ Go r → Runs g r us → Runs g u (b ++ c ∷ us)
init_runs {r = r} xs s place d p q o u c h sized absent is k =
    let m = valued_marks (word_of c) place d (declarator_of p q o) xs s r is in by_token (sized c m.left m.square ∙ m.plain (declarator_of p q o) ∙ is) k
init_runs {n = n} {r = r} xs s place d p q o u c h sized (one z {x = x} reads) is k =
    let m = valued_marks (word_of c) place d (declarator_with p q o (Some (i.One x))) xs s r is in
    let goes : step (mark (codes "=") z) u ≡ Go (At xs s (at.Value place d (declarator_of p q o))) = sized (mark (codes "=") z) refl refl in
    by_token goes (asks_runs {r = r} (At xs s (at.Value place d (declarator_of p q o))) form.Assign _ c (λ t st. value_asks (word_of t) place d (declarator_of p q o) xs s st) (site_room n s place h) reads m.closing (λ p'. is) k)
init_runs {g = g} {us = us} {r = r} xs s place d p q o u c h sized (braces y v z {a = a} {xs = vs} reads) is k =
    let goes : step (mark (codes "=") y) u ≡ Go (At xs s (at.Value place d (declarator_of p q o))) = sized (mark (codes "=") y) refl refl in
    let opens : step (mark (codes "{") v) (At xs s (at.Value place d (declarator_of p q o))) ≡ Go (At xs s (at.Values place d (declarator_of p q o) [])) = refl in
    let next : step c (At xs s (at.Valued place d (declarator_with p q o (Some (i.Braces vs))))) ≡ Go r = is in
    subst (λ l. Runs g u (mark (codes "=") y ∷ mark (codes "{") v ∷ l)) (sym (append_assoc a (mark (codes "}") z ∷ []) (c ∷ us)))
    (by_token goes (by_token opens (values_run place d (declarator_of p q o) z [] h reads (by_token next k))))

-- a declarator behind its name, and the token behind it
declarator_runs : {g : Program} {n : ℕ} {a b us : List Token} {o : Option Expr} {first : Option Initialiser} {r : State} (xs : List Item) (s : List Frame) (place : Site) (d : Decl) (p : Place) (q : List ℕ) (u : State) (c : Token)
    → FitsSite place n s → AtName xs s place d p q u → ReadsSize n a o → ReadsInitialiser n b first → machine.valued (word_of c) place d (declarator_with p q o first) xs s ≡ Go r → Runs g r us → Runs g u ((a ++ b) ++ c ∷ us)
declarator_runs xs s place d p q u c h named scalar first is k = init_runs xs s place d p q None u c h (λ t l m. named t l ∙ named_sized (word_of t) place d p q xs s m) first is k
declarator_runs {g = g} {n = n} {b = b} {us = us} xs s place d p q u c h named (array y z {a = a} {x = x} reads) first is k =
    let goes : step (mark (codes "[") y) u ≡ Go (At xs s (at.Size place d p q)) = named (mark (codes "[") y) refl in
    let list : a ++ mark (codes "]") z ∷ (b ++ c ∷ us) ≡ ((a ++ mark (codes "]") z ∷ []) ++ b) ++ c ∷ us = (simp append_assoc) in
    subst (λ l. Runs g u (mark (codes "[") y ∷ l)) list
    (by_token goes (asks_runs {r = At xs s (at.Sized place d (declarator_of p q (Some x)))} (At xs s (at.Size place d p q)) form.Cond _ (mark (codes "]") z) (λ t st. refl) (site_room n s place h) reads refl (λ p'. refl)
    (init_runs xs s place d p q (Some x) (At xs s (at.Sized place d (declarator_of p q (Some x)))) c h (λ t l m. refl) first is k)))

-- where a declarator's name is to come
abbrev Names : List Item → List Frame → Site → Decl → State → Type 0
Names xs s place d u = (p : Place) (q : List ℕ) → IsName q → (v : State) × (step (word q p) u ≡ Go v) × AtName xs s place d p q v

next_names : (xs : List Item) (s : List Frame) (place : Site) (d : Decl) → Names xs s place d (At xs s (at.Next place d))
next_names xs s place d p q is_name = (At xs s (at.Named place d p q), by_word (word q p) (At xs s (at.Next place d)) w.Name (Go (At xs s (at.Named place d p q))) (word-name q p is_name) refl, λ t l. refl)

first_names : (xs : List Item) (s : List Frame) (place : Site) (k : TypeWord) (more : Bool) → Names xs s place (record { word = k; declarators = [] }) (At xs s (at.Typed place k more))
first_names xs s place k more p q is_name = (At xs s (at.First place k p q), name_steps place k more p q xs s is_name, λ t l. first_named (word_of t) place k p q xs s l)

one_run : {g : Program} {n : ℕ} {a us : List Token} {e : Declarator} {r : State} (xs : List Item) (s : List Frame) (place : Site) (d : Decl) (u : State) (c : Token) → FitsSite place n s → Names xs s place d u → ReadsDeclarator (suc n) a e
    → machine.valued (word_of c) place d e xs s ≡ Go r → Runs g r us → Runs g u (a ++ c ∷ us)
one_run xs s place d u c h names (declarator {p = p} {c = q} is_name size first) is k = let m = names p q is_name in by_token m.1 (declarator_runs xs s place d p q m.0 c h m.2 size first is k)

declarators_run : {g : Program} {n : ℕ} {b us : List Token} {ds : List Declarator} (xs : List Item) (s : List Frame) (place : Site) (d : Decl) (u : State) (z : Place) → FitsSite place n s → Names xs s place d u → ReadsDeclarators (suc n) b ds
    → Runs g (ended place (with_declarators d ds) xs s) us → Runs g u (b ++ mark (codes ";") z ∷ us)
declarators_run xs s place d u z h names (last_declarator r) k = one_run xs s place d u (mark (codes ";") z) h names r refl k
declarators_run {g = g} {us = us} xs s place d u z h names (next_declarator y {a = a} {b = b} {d = e} {e = e'} {ds = ds} r rest) k =
    let k' : Runs g (ended place (with_declarators (with_declarator d e) (e' ∷ ds)) xs s) us = subst (λ l. Runs g (ended place (record { word = d.word; declarators = l }) xs s) us) (sym (append_assoc d.declarators (e ∷ []) (e' ∷ ds))) k in
    subst (Runs g u) (sym (append_assoc a (mark (codes ",") y ∷ b) (mark (codes ";") z ∷ us)))
    (one_run xs s place d u (mark (codes ",") y) h names r refl
    (declarators_run xs s place (with_declarator d e) (At xs s (at.Next place (with_declarator d e))) z h (next_names xs s place (with_declarator d e)) rest k'))

-- a declaration
pub declaration_runs : {g : Program} {n : ℕ} {a us : List Token} {d : Decl} (xs : List Item) (s : List Frame) (place : Site) (u : State) → FitsSite place n s → TypeBegins xs s place u → ReadsDeclaration (suc n) a d
    → Runs g (ended place d xs s) us → Runs g u (a ++ us)
declaration_runs {g = g} {n = n} {us = us} xs s place u h begins (declaration q {a = a} {b = b} {k = k} {ds = ds} ty rs) m =
    let list : a ++ (b ++ mark (codes ";") q ∷ us) ≡ (a ++ (b ++ mark (codes ";") q ∷ [])) ++ us = (simp append_assoc) in
    subst (Runs g u) list
    (type_runs n u h begins ty (λ more. declarators_run xs s place (record { word = k; declarators = [] }) (At xs s (at.Typed place k more)) q h (first_names xs s place k more) rs m))

-- a declarator is a node
no_declarators : {b : List Token} {ds : List Declarator} → ReadsDeclarators 0 b ds → ⊥
no_declarators (last_declarator r) = elim r [ ]
no_declarators (next_declarator q r rest) = elim r [ ]

pub no_declaration : {a : List Token} {d : Decl} → ReadsDeclaration 0 a d → ⊥
no_declaration (declaration q ty rs) = no_declarators rs
