-- The words that a text begins with.
use Rattle.std.proofs.Common.{◌≡◌, ℕ, true, List, [], ◌∷◌, ◌++◌, refl, ap}
use Rattle.std.specs.Prelude.{codes}
use Rattle.dg_base.specs.declared.Place.{Place}
use Rattle.token_list.specs.declared.Token.{Token}
use Rattle.token_list.specs.declared.TokenKind.TheVariants as kind
use Rattle.c_tree.specs.declared.expr.UnaryOp.{UnaryOp}
use Rattle.c_tree.specs.declared.expr.UnaryOp.TheVariants as unary
use Rattle.c_tree.specs.declared.expr.Expr.{Expr}
use Rattle.c_expr.specs.Words.{mark, word, prefix_text, step_text, binary_text, assignment_text, word_of}
use Rattle.c_expr.specs.Expressions.{Reads, name, number, bracket, index, call, cast, prefix, step_before, step_after, binary, choose, assign, comma}
use Rattle.c_expr.specs.Closers.{starts, Starts}
use Rattle.c_expr.proofs.Spelled.{word-name, word-step}

first : (t : Token) (r : List Token) → starts (word_of t) ≡ true → Starts (t ∷ r)
first t r is = record { token = t; more = r; all = refl; starts = is }

-- what follows changes no first token
extended : {a : List Token} (b : List Token) → Starts a → Starts (a ++ b)
extended {a = a} b f = record { token = f.token; more = f.more ++ b; all = ap (λ l. l ++ b) f.all; starts = f.starts }

sign_starts : (o : UnaryOp) (p : Place) → starts (word_of (mark (prefix_text o) p)) ≡ true
sign_starts unary.LogicNot p = refl
sign_starts unary.BitNot p = refl
sign_starts unary.Negate p = refl
sign_starts unary.Plus p = refl

pub text_starts : {f n : ℕ} {a : List Token} {x : Expr} → Reads f n a x → Starts a
text_starts (name {p = p} {c = c} i) = first (word c p) [] (ap starts (word-name c p i))
text_starts (number {p = p} {c = c}) = first (record { kind = kind.Number; place = p; text = c }) [] refl
text_starts (bracket {p = p} q {a = a} r) = first (mark (codes "(") p) (a ++ mark (codes ")") q ∷ []) refl
text_starts (index {p = p} q r {c = c} {a = a} i s) = first (word c p) (mark (codes "[") q ∷ (a ++ mark (codes "]") r ∷ [])) (ap starts (word-name c p i))
text_starts (call {p = p} q r {c = c} {a = a} i s) = first (word c p) (mark (codes "(") q ∷ (a ++ mark (codes ")") r ∷ [])) (ap starts (word-name c p i))
text_starts (cast {p = p} q {a = a} {b = b} h i r) = first (mark (codes "(") p) (a ++ mark (codes ")") q ∷ b) refl
text_starts (prefix {p = p} {o = o} {a = a} h r) = first (mark (prefix_text o) p) a (sign_starts o p)
text_starts (step_before {p = p} {o = o} {a = a} h v r) = first (mark (step_text o) p) a (ap starts (word-step o p))
text_starts (step_after {p = p} {o = o} {a = a} h v r) = extended (mark (step_text o) p ∷ []) (text_starts r)
text_starts (binary {p = p} {o = o} {b = b} h r s) = extended (mark (binary_text o) p ∷ b) (text_starts r)
text_starts (choose {p = p} q {b = b} {c = c} h r s t) = extended (mark (codes "?") p ∷ (b ++ mark (codes ":") q ∷ c)) (text_starts r)
text_starts (assign {p = p} {o = o} {b = b} h m v r s) = extended (mark (assignment_text o) p ∷ b) (text_starts r)
text_starts (comma {p = p} {b = b} h r s) = extended (mark (codes ",") p ∷ b) (text_starts r)
