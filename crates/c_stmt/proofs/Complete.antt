-- The machine reads each program to its end, so a list has one program at most.
use Rattle.std.proofs.Common.{◌≡◌, ℕ, List, [], ◌∷◌, ◌++◌, Some, refl, sym, ap, ◌∙◌, subst, arith, append_assoc}
use Rattle.std.specs.Prelude.{codes}
use Rattle.std.proofs.lemmas.List.{append-nil}
use Rattle.token_list.specs.declared.Token.{Token}
use Rattle.c_tree.specs.declared.program.Item.{Item}
use Rattle.c_tree.specs.declared.program.Item.TheVariants as item
use Rattle.c_tree.specs.declared.program.Program.{Program}
use Rattle.c_expr.specs.declared.word.Word.TheVariants as w
use Rattle.c_expr.specs.Words.{mark, word}
use Rattle.c_stmt.specs.declared.state.Frame.TheVariants.{InFunction}
use Rattle.c_stmt.specs.declared.state.Head.{Head}
use Rattle.c_stmt.specs.declared.state.Params.{Params}
use Rattle.c_stmt.specs.declared.state.Params.TheVariants as params
use Rattle.c_stmt.specs.declared.state.Site.TheVariants as site
use Rattle.c_stmt.specs.declared.state.Position.TheVariants as at
use Rattle.c_stmt.specs.Declarations.{ReadsDeclaration}
use Rattle.c_stmt.specs.Statements.{ReadsBlock}
use Rattle.c_stmt.specs.Programs.{ReadsPlain, function, prototype, shared, ReadsItem, plain, static, ReadsItems, no_item, an_item, ReadsProgram, OneProgram}
use Rattle.c_stmt.specs.Machine as machine
use Rattle.c_stmt.specs.Machine.{State, At, Move, Go, Stop, step, parameters, finish}
use Rattle.c_stmt.proofs.Wanting.{function_of}
use Rattle.c_stmt.proofs.Paths.{Path, stay, token, expression, Runs, ends, by_token, by_expression, follows}
use Rattle.c_stmt.proofs.Whole.{by_word, name_steps, TypeBegins, type_runs, declaration_runs}
use Rattle.c_stmt.proofs.Headings.{skipped_runs, parameters_run}
use Rattle.c_stmt.proofs.Stated.{function_frame, block_runs}

-- what stands at the top, without `static`
plain_runs : {g : Program} {m : ℕ} {a us : List Token} {x : Item} (xs : List Item) (u : State) → ReadsPlain m a x → m ≡ 200 → TypeBegins xs [] site.Item u → Runs g (At (xs ++ x ∷ []) [] at.Top) us → Runs g u (a ++ us)
plain_runs {g = g} {us = us} xs u (function {n = n} {p = p} q r t v {a = a} {b = b} {c = c} {k = k} {name = name} {ps = ps} {body = body} ty i rp rb) is begins m =
    let h : Head = record { place = p; word = k; name = name } in
    let fits : n ≡ 198 = omega (arith, is) in
    let opens : step (mark (codes "(") q) (At xs [] (at.First site.Item k p name)) ≡ Go (At xs [] (at.Heading h 0 params.Nothing)) = refl in
    let shuts : (o : Params) → parameters o ≡ Some ps → step (mark (codes ")") r) (At xs [] (at.Heading h 0 o)) ≡ Go (At xs [] (at.Headed h (Some ps))) = λ o e. ap (λ l. Go (At xs [] (at.Headed h l))) e in
    let starts : step (mark (codes "{") t) (At xs [] (at.Headed h (Some ps))) ≡ Go (At xs (InFunction (function_of h ps []) ∷ []) at.Begin) = refl in
    let list : a ++ word name p ∷ mark (codes "(") q ∷ (b ++ mark (codes ")") r ∷ mark (codes "{") t ∷ (c ++ mark (codes "}") v ∷ us)) ≡ (a ++ word name p ∷ mark (codes "(") q ∷ (b ++ mark (codes ")") r ∷ mark (codes "{") t ∷ (c ++ mark (codes "}") v ∷ []))) ++ us = (simp append_assoc) in
    subst (Runs g u) list
    (type_runs 199 u (refl, refl) begins ty (λ more. by_token (name_steps site.Item k more p name xs [] i) (by_token opens (parameters_run h rp (λ o e. by_token (shuts o e) (by_token starts
    (block_runs (function_frame xs h ps) [] v (subst (λ l. ReadsBlock l c body) fits rb) m)))))))
plain_runs {g = g} {us = us} xs u (prototype {p = p} q r t {a = a} {b = b} {k = k} {name = name} ty i sk) is begins m =
    let h : Head = record { place = p; word = k; name = name } in
    let opens : step (mark (codes "(") q) (At xs [] (at.First site.Item k p name)) ≡ Go (At xs [] (at.Heading h 0 params.Nothing)) = refl in
    let shuts : (o : Params) → step (mark (codes ")") r) (At xs [] (at.Heading h 0 o)) ≡ Go (At xs [] (at.Headed h (parameters o))) = λ o. refl in
    let done : (o : Params) → step (mark (codes ";") t) (At xs [] (at.Headed h (parameters o))) ≡ Go (At (xs ++ item.Prototype p k name ∷ []) [] at.Top) = λ o. refl in
    let list : a ++ word name p ∷ mark (codes "(") q ∷ (b ++ mark (codes ")") r ∷ mark (codes ";") t ∷ us) ≡ (a ++ word name p ∷ mark (codes "(") q ∷ (b ++ mark (codes ")") r ∷ mark (codes ";") t ∷ [])) ++ us = (simp append_assoc) in
    subst (Runs g u) list
    (type_runs 199 u (refl, refl) begins ty (λ more. by_token (name_steps site.Item k more p name xs [] i) (by_token opens (skipped_runs h 0 params.Nothing sk (λ o. by_token (shuts o) (by_token (done o) m))))))
plain_runs {m = l} {a = a} xs u (shared {d = d} r) is begins m = declaration_runs {n = 199} xs [] site.Item u (refl, refl) begins (subst (λ b. ReadsDeclaration b a d) is r) m

item_runs : {g : Program} {m : ℕ} {a us : List Token} {x : Item} (xs : List Item) → ReadsItem m a x → m ≡ 200 → Runs g (At (xs ++ x ∷ []) [] at.Top) us → Runs g (At xs [] at.Top) (a ++ us)
item_runs xs (plain r) is k = plain_runs xs (At xs [] at.Top) r is (λ t j e. by_word t (At xs [] at.Top) (w.Type j) (machine.type_begins site.Item j xs []) e refl) k
item_runs xs (static p r) is k =
    let goes : step (word (codes "static") p) (At xs [] at.Top) ≡ Go (At xs [] at.Static) = refl in
    by_token goes (plain_runs xs (At xs [] at.Static) r is (λ t j e. by_word t (At xs [] at.Static) (w.Type j) (machine.type_begins site.Item j xs []) e refl) k)

items_run : {g : Program} {m : ℕ} {a : List Token} {ys : List Item} (xs : List Item) → ReadsItems m a ys → m ≡ 200 → xs ++ ys ≡ g.items → Runs g (At xs [] at.Top) a
items_run {g = g} xs no_item is all = ends (ap (λ l. Some (record { items = l })) (sym (append-nil xs) ∙ all))
items_run xs (an_item {x = x} {xs = ys} r rest) is all = item_runs xs r is (items_run (xs ++ x ∷ []) rest is (append_assoc xs (x ∷ []) ys ∙ all))

-- each program is read to its end
pub complete : {list : List Token} {g : Program} → ReadsProgram list g → Runs g (At [] [] at.Top) list
complete r = items_run [] r refl refl

-- a run's way
way : {g : Program} {s : State} {ts : List Token} → Runs g s ts → (u : State) × Path s ts u × (finish u ≡ Some g)
way (ends {s = s} is) = (s, stay, is)
way (by_token is k) = let m = way k in (m.0, token is m.1, m.2)
way (by_expression c is r closer goes k) = let m = way k in (m.0, expression c is r closer goes m.1, m.2)

-- at its end
pub at_end : {g : Program} {s : State} → Runs g s [] → finish s ≡ Some g
at_end (ends is) = is

pub one_program : OneProgram
one_program list x y a b =
    let m = way (complete a) in
    let k : Runs y m.0 [] = follows m.1 [] (subst (Runs y (At [] [] at.Top)) (sym (append-nil list)) (complete b)) in
    let same : Some x ≡ Some y = sym m.2 ∙ at_end k in cc
