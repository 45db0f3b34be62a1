-- The machine reads what stands between a header's brackets, whatever follows it.
use Rattle.std.proofs.Common.{◌≡◌, ℕ, suc, Bool, true, false, cond, List, [], ◌∷◌, ◌++◌, Some, None, refl, sym, ap, ◌∙◌, subst, append_assoc}
use Rattle.std.specs.Prelude.{codes}
use Rattle.std.proofs.lemmas.Bool.{false≢true}
use Rattle.dg_base.specs.declared.Place.{Place}
use Rattle.token_list.specs.declared.Token.{Token}
use Rattle.c_tree.specs.declared.expr.TypeWord.{TypeWord}
use Rattle.c_tree.specs.declared.expr.TypeWord.TheVariants as type
use Rattle.c_tree.specs.declared.program.Param.{Param}
use Rattle.c_tree.specs.declared.program.Item.{Item}
use Rattle.c_tree.specs.declared.program.Program.{Program}
use Rattle.c_expr.specs.declared.word.TypeName.{TypeName}
use Rattle.c_expr.specs.declared.word.Word.{Word}
use Rattle.c_expr.specs.declared.word.Word.TheVariants as w
use Rattle.c_expr.specs.Words.{mark, word, word_of, IsName}
use Rattle.c_expr.specs.Expressions.{IsType}
use Rattle.c_expr.specs.TypeWords.{first_word, may_grow, is_int, is_star, grown, TypeRest, whole, grows}
use Rattle.c_expr.proofs.Spelled.{word-name}
use Rattle.c_expr.proofs.TypeWords.{type_parts}
use Rattle.c_stmt.specs.declared.state.Frame.{Frame}
use Rattle.c_stmt.specs.declared.state.Head.{Head}
use Rattle.c_stmt.specs.declared.state.Params.{Params}
use Rattle.c_stmt.specs.declared.state.Params.TheVariants as params
use Rattle.c_stmt.specs.declared.state.Position.TheVariants as at
use Rattle.c_stmt.specs.Programs.{Skipped, end, other, group, is_skipped, ReadsList, last_parameter, next_parameter, ReadsParameters, no_parameter, void_alone, some_parameters}
use Rattle.c_stmt.specs.Machine as machine
use Rattle.c_stmt.specs.Machine.{State, At, Move, Go, Stop, step, parameter, parameters, first_parameter, grown_parameter}
use Rattle.c_stmt.proofs.Paths.{Runs, by_token}
use Rattle.c_stmt.proofs.Whole.{by_word}

-- a word that is skipped
skip_goes : (v : Word) (t : Token) (h : Head) (d : ℕ) (o : Params) (xs : List Item) (s : List Frame) → is_skipped v ≡ true → machine.heading v t h d o xs s ≡ Go (At xs s (at.Heading h d (parameter v t o)))
skip_goes w.Semicolon t h d o xs s is = absurd (false≢true is)
skip_goes w.LeftBrace t h d o xs s is = absurd (false≢true is)
skip_goes w.RightBrace t h d o xs s is = absurd (false≢true is)
skip_goes w.Left t h d o xs s is = absurd (false≢true is)
skip_goes w.Right t h d o xs s is = absurd (false≢true is)
skip_goes _ t h d o xs s is = refl

-- tokens that are skipped
pub skipped_runs : {g : Program} {xs : List Item} {s : List Frame} {a us : List Token} (h : Head) (d : ℕ) (o : Params) → Skipped a → ((u : Params) → Runs g (At xs s (at.Heading h d u)) us) → Runs g (At xs s (at.Heading h d o)) (a ++ us)
skipped_runs h d o end k = k o
skipped_runs {xs = xs} {s = s} h d o (other {t = t} is r) k = by_token (skip_goes (word_of t) t h d o xs s is) (skipped_runs h d (parameter (word_of t) t o) r k)
skipped_runs {g = g} {xs = xs} {s = s} {us = us} h d o (group p q {a = a} {b = b} r t) k =
    let opens : step (mark (codes "(") p) (At xs s (at.Heading h d o)) ≡ Go (At xs s (at.Heading h (suc d) params.Never)) = refl in
    let shuts : (u : Params) → step (mark (codes ")") q) (At xs s (at.Heading h (suc d) u)) ≡ Go (At xs s (at.Heading h d u)) = λ u. refl in
    subst (λ l. Runs g (At xs s (at.Heading h d o)) (mark (codes "(") p ∷ l)) (sym (append_assoc a (mark (codes ")") q ∷ b) us))
    (by_token opens (skipped_runs h (suc d) params.Never r (λ u. by_token (shuts u) (skipped_runs h d u t k))))

-- only `int` and `*` make a type longer
none_grown : (v : Word) (k j : TypeWord) → is_int v ≡ false → is_star v ≡ false → grown v k ≡ Some j → ⊥
none_grown v type.Int j a b is = let bad : None ≡ Some j = sym (ap (λ c. cond c (Some type.Int) None) a) ∙ is in cc
none_grown v type.Uint j a b is = let bad : None ≡ Some j = sym (ap (λ c. cond c (Some type.Uint) None) a) ∙ is in cc
none_grown v type.Void j a b is = let bad : None ≡ Some j = sym (ap (λ c. cond c (Some type.VoidPointer) None) b) ∙ is in cc
none_grown v type.VoidPointer j a b is = let bad : None ≡ Some j = is in cc
none_grown v type.Thread j a b is = let bad : None ≡ Some j = is in cc
none_grown v type.Mutex j a b is = let bad : None ≡ Some j = is in cc
none_grown v type.Cond j a b is = let bad : None ≡ Some j = is in cc

grows_goes : (v : Word) (t : Token) (h : Head) (qs : List Param) (k j : TypeWord) (xs : List Item) (s : List Frame) → grown v k ≡ Some j
    → machine.heading v t h 0 (params.Typed qs k true) xs s ≡ Go (At xs s (at.Heading h 0 (params.Typed qs j false)))
grows_goes w.Left t h qs k j xs s is = absurd (none_grown w.Left k j refl refl is)
grows_goes w.Right t h qs k j xs s is = absurd (none_grown w.Right k j refl refl is)
grows_goes w.Semicolon t h qs k j xs s is = absurd (none_grown w.Semicolon k j refl refl is)
grows_goes w.LeftBrace t h qs k j xs s is = absurd (none_grown w.LeftBrace k j refl refl is)
grows_goes w.RightBrace t h qs k j xs s is = absurd (none_grown w.RightBrace k j refl refl is)
grows_goes w.Name t h qs k j xs s is = absurd (none_grown w.Name k j refl refl is)
grows_goes v t h qs k j xs s is = ap (λ o. Go (At xs s (at.Heading h 0 (grown_parameter qs o)))) is

-- a type and a name in a header
named_goes : (h : Head) (qs : List Param) (k : TypeWord) (more : Bool) (p : Place) (c : List ℕ) (xs : List Item) (s : List Frame) → IsName c
    → step (word c p) (At xs s (at.Heading h 0 (params.Typed qs k more))) ≡ Go (At xs s (at.Heading h 0 (params.Whole (qs ++ record { place = p; word = k; name = c } ∷ []))))
named_goes h qs k more p c xs s i = by_word (word c p) (At xs s (at.Heading h 0 (params.Typed qs k more))) w.Name _ (word-name c p i) refl

rest_runs : {g : Program} {xs : List Item} {s : List Frame} {k j : TypeWord} {more : Bool} {a us : List Token} (h : Head) (qs : List Param) (p : Place) (c : List ℕ) → TypeRest k more a j → IsName c
    → Runs g (At xs s (at.Heading h 0 (params.Whole (qs ++ record { place = p; word = j; name = c } ∷ [])))) us → Runs g (At xs s (at.Heading h 0 (params.Typed qs k more))) (a ++ word c p ∷ us)
rest_runs {xs = xs} {s = s} {k = k} {more = more} h qs p c whole i m = by_token (named_goes h qs k more p c xs s i) m
rest_runs {xs = xs} {s = s} {k = k} h qs p c (grows {j = j} {t = t} is) i m = by_token (grows_goes (word_of t) t h qs k j xs s is) (by_token (named_goes h qs j false p c xs s i) m)

-- where a parameter may begin, behind others
abbrev Begins : Params → List Param → Type 0
Begins o qs = (t : Token) (k : TypeName) → parameter (w.Type k) t o ≡ params.Typed qs (first_word k) (may_grow k)

parameter_runs : {g : Program} {xs : List Item} {s : List Frame} {k : TypeWord} {a us : List Token} (h : Head) (o : Params) (qs : List Param) (p : Place) (c : List ℕ) → Begins o qs → IsType a k → IsName c
    → Runs g (At xs s (at.Heading h 0 (params.Whole (qs ++ record { place = p; word = k; name = c } ∷ [])))) us → Runs g (At xs s (at.Heading h 0 o)) (a ++ word c p ∷ us)
parameter_runs {g = g} {xs = xs} {s = s} {us = us} h o qs p c begins ty i m =
    let f = type_parts ty in
    let goes : step f.0 (At xs s (at.Heading h 0 o)) ≡ Go (At xs s (at.Heading h 0 (params.Typed qs (first_word f.3.name) (may_grow f.3.name)))) =
    by_word f.0 (At xs s (at.Heading h 0 o)) (w.Type f.3.name) (Go (At xs s (at.Heading h 0 (params.Typed qs (first_word f.3.name) (may_grow f.3.name))))) f.3.is (ap (λ u. Go (At xs s (at.Heading h 0 u))) (begins f.0 f.3.name)) in
    subst (λ l. Runs g (At xs s (at.Heading h 0 o)) (l ++ word c p ∷ us)) (sym f.2) (by_token goes (rest_runs h qs p c f.3.rest i m))

list_runs : {g : Program} {xs : List Item} {s : List Frame} {a us : List Token} {ps : List Param} (h : Head) (o : Params) (qs : List Param) → Begins o qs → ReadsList a ps → Runs g (At xs s (at.Heading h 0 (params.Whole (qs ++ ps)))) us
    → Runs g (At xs s (at.Heading h 0 o)) (a ++ us)
list_runs {g = g} {xs = xs} {s = s} {us = us} h o qs begins (last_parameter {p = p} {a = a} {c = c} ty i) m =
    subst (Runs g (At xs s (at.Heading h 0 o))) (sym (append_assoc a (word c p ∷ []) us)) (parameter_runs h o qs p c begins ty i m)
list_runs {g = g} {xs = xs} {s = s} {us = us} h o qs begins (next_parameter {p = p} q {a = a} {b = b} {k = k} {c = c} {xs = ps} ty i r) m =
    let rs : List Param = qs ++ record { place = p; word = k; name = c } ∷ [] in
    let goes : step (mark (codes ",") q) (At xs s (at.Heading h 0 (params.Whole rs))) ≡ Go (At xs s (at.Heading h 0 (params.Next rs))) = refl in
    subst (Runs g (At xs s (at.Heading h 0 o))) (sym (append_assoc a (word c p ∷ mark (codes ",") q ∷ b) us))
    (parameter_runs h o qs p c begins ty i
    (by_token goes (list_runs h (params.Next rs) rs (λ t j. refl) r (subst (λ l. Runs g (At xs s (at.Heading h 0 (params.Whole l))) us) (sym (append_assoc qs (record { place = p; word = k; name = c } ∷ []) ps)) m))))

-- parameters
pub parameters_run : {g : Program} {xs : List Item} {s : List Frame} {a us : List Token} {ps : List Param} (h : Head) → ReadsParameters a ps → ((o : Params) → parameters o ≡ Some ps → Runs g (At xs s (at.Heading h 0 o)) us)
    → Runs g (At xs s (at.Heading h 0 params.Nothing)) (a ++ us)
parameters_run h no_parameter k = k params.Nothing refl
parameters_run {xs = xs} {s = s} h (void_alone p) k =
    let goes : step (word (codes "void") p) (At xs s (at.Heading h 0 params.Nothing)) ≡ Go (At xs s (at.Heading h 0 (params.Typed [] type.Void true))) = refl in
    by_token goes (k (params.Typed [] type.Void true) refl)
parameters_run h (some_parameters {xs = ps} r) k = list_runs h params.Nothing [] (λ t j. refl) r (k (params.Whole ps) refl)
