-- The type, word by word.
use Rattle.std.proofs.Common.{◌≡◌, Bool, List, [], ◌∷◌, refl, ap, ◌∙◌, sym, subst}
use Rattle.std.specs.Prelude.{codes}
use Rattle.dg_base.specs.declared.Place.{Place}
use Rattle.token_list.specs.declared.Token.{Token}
use Rattle.c_tree.specs.declared.expr.TypeWord.{TypeWord}
use Rattle.c_expr.specs.declared.word.TypeName.{TypeName}
use Rattle.c_expr.specs.declared.word.TypeName.TheVariants as tn
use Rattle.c_expr.specs.declared.word.Word.TheVariants as w
use Rattle.c_expr.specs.Words.{mark, word, type_text, word_of}
use Rattle.c_expr.specs.Expressions.{IsType, int, signed, signed_int, unsigned, unsigned_int, void, pointer, thread, mutex, cond}
use Rattle.c_expr.specs.TypeWords.{first_word, may_grow, grown, TypeRest, whole, grows, IsTypeByWords, TypesByWords}
use Rattle.c_expr.proofs.Spelled.{spelled}
use Rattle.c_expr.proofs.Starts.{first_type, first_grows}

rest_read : {kind : TypeWord} {more : Bool} {a : List Token} {j : TypeWord} (k : TypeName) (p : Place) → TypeRest kind more a j → first_word k ≡ kind → may_grow k ≡ more → IsType (word (type_text k) p ∷ a) j
rest_read k p whole is may = subst (IsType (word (type_text k) p ∷ [])) is (first_type k p)
rest_read k p (grows {j = j} {t = t} g) is may = first_grows k p may t (word_of t) j (spelled t (word_of t) refl) (ap (grown (word_of t)) is ∙ g)

-- a first word and what follows it are a type
pub type_read : {k : TypeName} {a : List Token} {j : TypeWord} (t : Token) → word_of t ≡ w.Type k → TypeRest (first_word k) (may_grow k) a j → IsType (t ∷ a) j
type_read {k = k} {a = a} {j = j} t is rest =
    let token : t ≡ word (type_text k) t.place = spelled t (w.Type k) is in
    subst (λ u. IsType (u ∷ a) j) (sym token) (rest_read k t.place rest refl refl)

-- a list that begins with the first word of a type
parts : {list : List Token} {kind : TypeWord} (t : Token) (more : List Token) → list ≡ t ∷ more → IsTypeByWords t more kind → (t : Token) × (more : List Token) × (list ≡ t ∷ more) × IsTypeByWords t more kind
parts t more is by = (t, more, is, by)

pub type_parts : {a : List Token} {j : TypeWord} → IsType a j → (t : Token) × (more : List Token) × (a ≡ t ∷ more) × IsTypeByWords t more j
type_parts (int p) = parts (word (codes "int") p) [] refl (record { name = tn.Int; is = refl; rest = whole })
type_parts (signed p) = parts (word (codes "signed") p) [] refl (record { name = tn.Signed; is = refl; rest = whole })
type_parts (signed_int p q) = parts (word (codes "signed") p) (word (codes "int") q ∷ []) refl (record { name = tn.Signed; is = refl; rest = grows refl })
type_parts (unsigned p) = parts (word (codes "unsigned") p) [] refl (record { name = tn.Unsigned; is = refl; rest = whole })
type_parts (unsigned_int p q) = parts (word (codes "unsigned") p) (word (codes "int") q ∷ []) refl (record { name = tn.Unsigned; is = refl; rest = grows refl })
type_parts (void p) = parts (word (codes "void") p) [] refl (record { name = tn.Void; is = refl; rest = whole })
type_parts (pointer p q) = parts (word (codes "void") p) (mark (codes "*") q ∷ []) refl (record { name = tn.Void; is = refl; rest = grows refl })
type_parts (thread p) = parts (word (codes "pthread_t") p) [] refl (record { name = tn.Thread; is = refl; rest = whole })
type_parts (mutex p) = parts (word (codes "pthread_mutex_t") p) [] refl (record { name = tn.Mutex; is = refl; rest = whole })
type_parts (cond p) = parts (word (codes "pthread_cond_t") p) [] refl (record { name = tn.Cond; is = refl; rest = whole })

-- a type is a first word and what may follow it
pub types_by_words : TypesByWords
types_by_words list kind = (type_parts, λ h. subst (λ l. IsType l kind) (sym h.2) (type_read h.0 h.3.is h.3.rest))
