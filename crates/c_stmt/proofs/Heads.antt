-- Headers of functions: one token keeps what completes the tokens read.
use Rattle.std.proofs.Common.{◌≡◌, ℕ, suc, Bool, true, false, List, [], ◌∷◌, ◌++◌, Option, Some, None, refl, sym, ap, ◌∙◌, subst, append_assoc}
use Rattle.std.specs.Prelude.{codes}
use Rattle.dg_base.specs.declared.Place.{Place}
use Rattle.token_list.specs.declared.Token.{Token}
use Rattle.c_tree.specs.declared.expr.TypeWord.{TypeWord}
use Rattle.c_tree.specs.declared.expr.TypeWord.TheVariants as type
use Rattle.c_tree.specs.declared.program.Param.{Param}
use Rattle.c_tree.specs.declared.program.Item.{Item}
use Rattle.c_tree.specs.declared.program.Program.{Program}
use Rattle.c_expr.specs.declared.word.TypeName.{TypeName}
use Rattle.c_expr.specs.declared.word.TypeName.TheVariants as name
use Rattle.c_expr.specs.declared.word.Word.{Word}
use Rattle.c_expr.specs.declared.word.Word.TheVariants as w
use Rattle.c_expr.specs.Words.{mark, word, word_of, IsName}
use Rattle.c_expr.specs.Expressions.{IsType}
use Rattle.c_expr.specs.TypeWords.{first_word, grown, TypeRest, whole, grows}
use Rattle.c_expr.proofs.Spelled.{spelled}
use Rattle.c_stmt.specs.declared.state.Head.{Head}
use Rattle.c_stmt.specs.declared.state.Params.{Params}
use Rattle.c_stmt.specs.declared.state.Params.TheVariants as params
use Rattle.c_stmt.specs.Programs.{end, other, group, is_skipped, ReadsList, last_parameter, next_parameter, ReadsParameters, no_parameter, void_alone, some_parameters}
use Rattle.c_stmt.specs.Machine as machine
use Rattle.c_stmt.specs.Machine.{parameter, parameters, grown_parameter}
use Rattle.c_expr.proofs.TypeWords.{type_read}
use Rattle.c_stmt.proofs.Wanting.{SkipRest, skip_all, skip_one, ParamsRest, none_yet, void_only, typed_on, whole_end, whole_on, next_on, HeadedRest, prototype_ends, function_starts, HeadingRest, as_prototype, as_function}

-- the tokens of skipped brackets
pub skip_token : {d : ℕ} {a : List Token} (t : Token) → is_skipped (word_of t) ≡ true → SkipRest d a → SkipRest d (t ∷ a)
skip_token t is (skip_all s) = skip_all (other is s)
skip_token t is (skip_one q s r) = skip_one q (other is s) r

pub skip_left : {d : ℕ} {a : List Token} (p : Place) → SkipRest (suc d) a → SkipRest d (mark (codes "(") p ∷ a)
skip_left p (skip_one q s (skip_all u)) = skip_all (group p q s u)
skip_left p (skip_one {d = suc d} {a = a} q s (skip_one {a = b} {b = c} r u k)) =
    subst (SkipRest (suc d)) (ap (λ l. mark (codes "(") p ∷ l) (append_assoc a (mark (codes ")") q ∷ b) (mark (codes ")") r ∷ c))) (skip_one r (group p q s u) k)

-- words of a parameter's type at the front: a list of parameters, or `void` alone
data Listed (t : Token) (qs : List Param) (k : TypeWord) (a : List Token) (ps : List Param) : Type 0 where
  listed : {rs : List Param} → ReadsList (t ∷ a) rs → ps ≡ qs ++ rs → Listed t qs k a ps
  alone : qs ≡ [] → k ≡ type.Void → a ≡ [] → ps ≡ [] → Listed t qs k a ps

not_empty : (qs : List Param) (x : Param) → qs ++ x ∷ [] ≡ [] → ⊥
not_empty [] x is = cc
not_empty (q ∷ qs) x is = cc

one_more : {b : List Token} {ps : List Param} {l : TypeWord} (k : TypeWord) (t : Token) (qs : List Param) (j : TypeWord) (p q : Place) (c : List ℕ) (a : List Token) (u : Token) → IsType (t ∷ a) j → IsName c
    → (zs : List Param) → zs ≡ qs ++ record { place = p; word = j; name = c } ∷ [] → Listed u zs l b ps → Listed t qs k (a ++ word c p ∷ mark (codes ",") q ∷ u ∷ b) ps
one_more k t qs j p q c a u ty i zs same (listed {rs = rs} r is) = listed (next_parameter q ty i r) (is ∙ ap (λ l. l ++ rs) same ∙ append_assoc qs (record { place = p; word = j; name = c } ∷ []) rs)
one_more k t qs j p q c a u ty i zs same (alone bad v e f) = absurd (not_empty qs (record { place = p; word = j; name = c }) (sym same ∙ bad))

mutual
  params_list : {qs : List Param} {k : TypeWord} {more : Bool} {a : List Token} {ps : List Param} (t : Token) → ((b : List Token) (j : TypeWord) → TypeRest k more b j → IsType (t ∷ b) j)
      → ParamsRest (params.Typed qs k more) a ps → Listed t qs k a ps
  params_list t types void_only = alone refl refl refl refl
  params_list {qs = qs} t types (typed_on p {c = c} {a = a} r i rest) = params_whole t qs _ p c a (types _ _ r) i _ refl rest

  params_whole : {b : List Token} {ps : List Param} {k : TypeWord} (t : Token) (qs : List Param) (j : TypeWord) (p : Place) (c : List ℕ) (a : List Token) → IsType (t ∷ a) j → IsName c
      → (rs : List Param) → rs ≡ qs ++ record { place = p; word = j; name = c } ∷ [] → ParamsRest (params.Whole rs) b ps → Listed t qs k (a ++ word c p ∷ b) ps
  params_whole t qs j p c a ty i rs same whole_end = listed (last_parameter ty i) same
  params_whole {k = k} t qs j p c a ty i rs same (whole_on q (next_on {t = u} is rest)) = one_more k t qs j p q c a u ty i rs same (params_list u (λ b' j' r. type_read u is r) rest)

-- `void` alone
void_of : (t : Token) (k : TypeName) → word_of t ≡ w.Type k → first_word k ≡ type.Void → ReadsParameters (t ∷ []) []
void_of t name.Int is bad = cc
void_of t name.Signed is bad = cc
void_of t name.Unsigned is bad = cc
void_of t name.Void is v = subst (λ u. ReadsParameters (u ∷ []) []) (sym (spelled t (w.Type name.Void) is)) (void_alone t.place)
void_of t name.Thread is bad = cc
void_of t name.Mutex is bad = cc
void_of t name.Cond is bad = cc

first_params : {a : List Token} {ps : List Param} (t : Token) (k : TypeName) → word_of t ≡ w.Type k → Listed t [] (first_word k) a ps → ReadsParameters (t ∷ a) ps
first_params {a = a} t k is (listed r same) = subst (ReadsParameters (t ∷ a)) (sym same) (some_parameters r)
first_params {a = a} t k is (alone bad v e f) = subst (ReadsParameters (t ∷ a)) (sym f) (subst (λ l. ReadsParameters (t ∷ l) []) (sym e) (void_of t k is v))

-- a word of a type, where there is no parameter yet
first_param : {a : List Token} {ps : List Param} (t : Token) (v : Word) → word_of t ≡ v → ParamsRest (machine.first_parameter v []) a ps → ReadsParameters (t ∷ a) ps
first_param t (w.Type k) is r = first_params t k is (params_list t (λ b j u. type_read t is u) r)
first_param t _ is r = elim r [ ]

next_param : {qs : List Param} {a : List Token} {ps : List Param} (t : Token) (v : Word) → word_of t ≡ v → ParamsRest (machine.first_parameter v qs) a ps → ParamsRest (params.Next qs) (t ∷ a) ps
next_param t (w.Type k) is r = next_on is r
next_param t _ is r = elim r [ ]

comma_param : {qs : List Param} {a : List Token} {ps : List Param} (t : Token) (v : Word) → word_of t ≡ v → ParamsRest (machine.comma_parameter v qs) a ps → ParamsRest (params.Whole qs) (t ∷ a) ps
comma_param {qs = qs} {a = a} {ps = ps} t w.Comma is r = subst (λ u. ParamsRest (params.Whole qs) (u ∷ a) ps) (sym (spelled t w.Comma is)) (whole_on t.place r)
comma_param t _ is r = elim r [ ]

grown_param : {qs : List Param} {k : TypeWord} {a : List Token} {ps : List Param} (t : Token) (o : Option TypeWord) → grown (word_of t) k ≡ o → ParamsRest (grown_parameter qs o) a ps → ParamsRest (params.Typed qs k true) (t ∷ a) ps
grown_param t None is r = elim r [ ]
grown_param t (Some j) is (typed_on p whole i r) = typed_on p (grows is) i r

typed_param : {qs : List Param} {k : TypeWord} {a : List Token} {ps : List Param} (t : Token) (v : Word) (more : Bool) → word_of t ≡ v → ParamsRest (machine.typed_parameter v t qs k more) a ps → ParamsRest (params.Typed qs k more) (t ∷ a) ps
typed_param {qs = qs} {k = k} {a = a} {ps = ps} t w.Name more is r =
    let s = spelled t w.Name is in
    subst (λ u. ParamsRest (params.Typed qs k more) (u ∷ a) ps) (sym s.0) (typed_on t.place whole s.1 r)
typed_param {k = k} t v true is r = grown_param t (grown v k) (ap (λ u. grown u k) is) r
typed_param t v false is r = elim r [ ]

-- one token more of parameters
pub param_token : {a : List Token} {ps : List Param} (t : Token) (v : Word) (o : Params) → word_of t ≡ v → ParamsRest (parameter v t o) a ps → ParamsRest o (t ∷ a) ps
param_token t v params.Nothing is r = none_yet (first_param t v is r)
param_token t v (params.Typed qs k more) is r = typed_param t v more is r
param_token t v (params.Whole qs) is r = comma_param t v is r
param_token t v (params.Next qs) is r = next_param t v is r
param_token t v params.Never is r = elim r [ ]

-- a header that ends here
void_ends : {ps : List Param} (qs : List Param) (k : TypeWord) (more : Bool) → machine.void_alone qs k more ≡ Some ps → ParamsRest (params.Typed qs k more) [] ps
void_ends [] type.Void true is = let same : [] ≡ _ = cc in subst (ParamsRest (params.Typed [] type.Void true) []) same void_only
void_ends _ _ _ is = let no : None ≡ Some _ = is in cc

pub params_end : {ps : List Param} (o : Params) → parameters o ≡ Some ps → ParamsRest o [] ps
params_end {ps = ps} params.Nothing is = let same : [] ≡ ps = cc in subst (ParamsRest params.Nothing []) same (none_yet no_parameter)
params_end (params.Typed qs k more) is = void_ends qs k more is
params_end {ps = ps} (params.Whole qs) is = let same : qs ≡ ps = cc in subst (ParamsRest (params.Whole qs) []) same whole_end
params_end {ps = ps} (params.Next qs) is = let no : None ≡ Some ps = is in cc
params_end {ps = ps} params.Never is = let no : None ≡ Some ps = is in cc

-- the tokens of a header
pub heading_token : {xs : List Item} {g : Program} {h : Head} {d : ℕ} {us : List Token} (t : Token) (v : Word) (o : Params) → word_of t ≡ v → is_skipped v ≡ true → HeadingRest xs g h d (parameter v t o) us → HeadingRest xs g h d o (t ∷ us)
heading_token t v o is skips (as_prototype q u s k) = as_prototype q u (skip_token t (ap is_skipped is ∙ skips) s) k
heading_token t v o is skips (as_function q r k) = as_function q (param_token t v o is r) k

pub heading_left : {xs : List Item} {g : Program} {h : Head} {d : ℕ} {us : List Token} (p : Place) (o : Params) → HeadingRest xs g h (suc d) params.Never us → HeadingRest xs g h d o (mark (codes "(") p ∷ us)
heading_left p o (as_prototype q u s k) = as_prototype q u (skip_left p s) k

pub heading_right : {xs : List Item} {g : Program} {h : Head} {d : ℕ} {us : List Token} (p : Place) (o : Params) → o ≡ params.Never → HeadingRest xs g h d o us → HeadingRest xs g h (suc d) o (mark (codes ")") p ∷ us)
heading_right p o bad (as_prototype q u s k) = as_prototype q u (skip_one p end s) k
heading_right p o bad (as_function {ps = ps} {a = a} q r k) = never (subst (λ u. ParamsRest u a ps) bad r)
  where
    never : {a : List Token} {ps : List Param} {X : Type 0} → ParamsRest params.Never a ps → X
    never r = elim r [ ]

pub heading_ends : {xs : List Item} {g : Program} {h : Head} {us : List Token} (p : Place) (o : Params) (l : Option (List Param)) → parameters o ≡ l → HeadedRest xs g h l us → HeadingRest xs g h 0 o (mark (codes ")") p ∷ us)
heading_ends p o l is (prototype_ends t k) = as_prototype p t (skip_all end) k
heading_ends p o (Some ps) is (function_starts k) = as_function p (params_end o is) k
