-- Declarations: one token keeps what completes the tokens read.
use Rattle.std.proofs.Common.{◌≡◌, ℕ, suc, true, List, [], ◌∷◌, ◌++◌, Option, None, ap, ◌∙◌, subst, append_assoc}
use Rattle.std.specs.Prelude.{codes}
use Rattle.std.proofs.lemmas.Bool.{false≢true}
use Rattle.dg_base.specs.declared.Place.{Place}
use Rattle.token_list.specs.declared.Token.{Token}
use Rattle.c_tree.specs.declared.expr.TypeWord.{TypeWord}
use Rattle.c_tree.specs.declared.expr.Expr.{Expr}
use Rattle.c_tree.specs.declared.stmt.Initialiser.TheVariants as i
use Rattle.c_tree.specs.declared.stmt.Declarator.{Declarator}
use Rattle.c_tree.specs.declared.stmt.Decl.{Decl}
use Rattle.c_tree.specs.declared.stmt.Stmt.TheVariants as tree
use Rattle.c_tree.specs.declared.program.Item.{Item}
use Rattle.c_tree.specs.declared.program.Program.{Program}
use Rattle.c_expr.specs.Words.{mark, word, IsName}
use Rattle.c_expr.specs.Expressions.{Reads, IsType}
use Rattle.c_stmt.specs.declared.state.Frame.{Frame}
use Rattle.c_stmt.specs.declared.state.Frame.TheVariants.{InFunction, InBlock}
use Rattle.c_stmt.specs.declared.state.Site.{Site}
use Rattle.c_stmt.specs.declared.state.Site.TheVariants as site
use Rattle.c_stmt.specs.Declarations.{ReadsValues, last, last_comma, further, ReadsSize, scalar, array, absent, one, braces, ReadsDeclarator, declarator, ReadsDeclarators, last_declarator, next_declarator, ReadsDeclaration, declaration}
use Rattle.c_stmt.specs.Statements.{a_declaration}
use Rattle.c_stmt.specs.Programs.{function, prototype, shared}
use Rattle.c_stmt.specs.Machine as machine
use Rattle.c_stmt.specs.Machine.{with_declarator, declarator_of, with_initialiser, parameter}
use Rattle.c_stmt.proofs.Wanting.{Goes, function_goes, block_goes, Wants, block_rest, function_rest, Declared, NextRest, next_rest, Tail, tail_ends, tail_goes, SizedRest, sized_absent, sized_first, NamedRest, named_rest, SizeRest, size_rest, ValueRest, one_rest, braces_rest, ValuesRest, values_end, values_go, skip_all, none_yet, function_rest_of, as_prototype, as_function, FirstRest, first_named, first_heads, StaticRest, static_rest}

-- a declarator before others
joined : {n : ℕ} (q : Place) {a b : List Token} {d : Declarator} {es : List Declarator} → ReadsDeclarator n a d → ReadsDeclarators n b es → ReadsDeclarators n (a ++ mark (codes ",") q ∷ b) (d ∷ es)
joined q r (last_declarator t) = next_declarator q r (last_declarator t)
joined q r (next_declarator p t u) = next_declarator q r (next_declarator p t u)

-- a declarator that is whole, with what follows it, is what was to come
pub declared : {n : ℕ} {K : Decl → List Token → Type 0} {d : Decl} {e : Declarator} {a us : List Token} → ReadsDeclarator (suc n) a e → Tail n K d e us → NextRest n K d (a ++ us)
declared r (tail_ends q k) = next_rest q (last_declarator r) k
declared {n = n} {K = K} {d = d} {e = e} {a = a} r (tail_goes p (next_rest {es = es} {a = b} {us = us} q t k)) =
    subst (NextRest n K d) (append_assoc a (mark (codes ",") p ∷ b) (mark (codes ";") q ∷ us))
    (next_rest q (joined p r t) (subst (λ ds. K (record { word = d.word; declarators = ds }) us) (append_assoc d.declarators (e ∷ []) es) k))

-- a name where a declarator is to come
sized_next : {n : ℕ} {K : Decl → List Token → Type 0} {d : Decl} {p : Place} {c : List ℕ} {o : Option Expr} {a us : List Token} → IsName c → ReadsSize n a o → SizedRest n K d (declarator_of p c o) us → NextRest n K d (word c p ∷ (a ++ us))
sized_next {n = n} {K = K} {d = d} {p = p} {c = c} {a = a} {us = us} i r (sized_absent k) =
    subst (NextRest n K d) (ap (λ l. word c p ∷ l) (append_assoc a [] us)) (declared (declarator i r absent) k)
sized_next {n = n} {K = K} {d = d} {p = p} {c = c} {a = a} i r (sized_first {a = b} {us = us} t k) =
    subst (NextRest n K d) (ap (λ l. word c p ∷ l) (append_assoc a b us)) (declared (declarator i r t) k)

pub name_next : {n : ℕ} {K : Decl → List Token → Type 0} {d : Decl} {p : Place} {c : List ℕ} {us : List Token} → IsName c → NamedRest n K d p c us → NextRest n K d (word c p ∷ us)
name_next i (named_rest r k) = sized_next i r k

-- the tokens behind a name
pub left_square : {n : ℕ} {K : Decl → List Token → Type 0} {d : Decl} {p : Place} {c : List ℕ} {us : List Token} (q : Place) → SizeRest n K d p c us → NamedRest n K d p c (mark (codes "[") q ∷ us)
left_square {n = n} {K = K} {d = d} {p = p} {c = c} q (size_rest {a = a} {us = us} r t k) =
    subst (NamedRest n K d p c) (ap (λ l. mark (codes "[") q ∷ l) (append_assoc a (mark (codes "]") r ∷ []) us)) (named_rest (array q r t) k)

pub no_size : {n : ℕ} {K : Decl → List Token → Type 0} {d : Decl} {p : Place} {c : List ℕ} {us : List Token} → SizedRest n K d (declarator_of p c None) us → NamedRest n K d p c us
no_size k = named_rest scalar k

pub equals : {n : ℕ} {K : Decl → List Token → Type 0} {d : Decl} {e : Declarator} {us : List Token} (q : Place) → ValueRest n K d e us → SizedRest n K d e (mark (codes "=") q ∷ us)
equals q (one_rest r k) = sized_first (one q r) k
equals {n = n} {K = K} {d = d} {e = e} q (braces_rest {a = a} {us = us} p r t k) =
    subst (SizedRest n K d e) (ap (λ l. mark (codes "=") q ∷ mark (codes "{") p ∷ l) (append_assoc a (mark (codes "}") r ∷ []) us)) (sized_first (braces q p r t) k)

-- the tokens of braces
pub brace : {n : ℕ} {K : Decl → List Token → Type 0} {d : Decl} {e : Declarator} {us : List Token} (q : Place) → ValuesRest n K d e [] us → ValueRest n K d e (mark (codes "{") q ∷ us)
brace q (values_go r t k) = braces_rest q r t k

pub last_value : {n : ℕ} {K : Decl → List Token → Type 0} {d : Decl} {e : Declarator} {vs : List Expr} {x : Expr} {a us : List Token} (q : Place) → Reads 1 n a x → Tail n K d (with_initialiser e (i.Braces (vs ++ x ∷ []))) us
    → ValuesRest n K d e vs (a ++ mark (codes "}") q ∷ us)
last_value q r k = values_go q (last r) k

-- a value before others
valued : {n : ℕ} (q : Place) {a b : List Token} {x : Expr} {xs : List Expr} → Reads 1 n a x → ReadsValues n b xs → ReadsValues n (a ++ mark (codes ",") q ∷ b) (x ∷ xs)
valued q r (last t) = further q r (last t)
valued q r (last_comma p t) = further q r (last_comma p t)
valued q r (further p t u) = further q r (further p t u)

pub next_value : {n : ℕ} {K : Decl → List Token → Type 0} {d : Decl} {e : Declarator} (vs : List Expr) {x : Expr} {a us : List Token} (q : Place) → Reads 1 n a x → (ws : List Expr) → ws ≡ vs ++ x ∷ [] → ValuesRest n K d e ws us
    → ValuesRest n K d e vs (a ++ mark (codes ",") q ∷ us)
next_value {n = n} {K = K} {d = d} {e = e} vs {x = x} {a = a} q r ws is (values_end {v = v} {vs = us'} {us = us} p k) =
    subst (ValuesRest n K d e vs) (append_assoc a (mark (codes ",") q ∷ []) (mark (codes "}") p ∷ us)) (values_go p (last_comma q r) (subst (λ l. Tail n K d (with_initialiser e (i.Braces l)) us) is k))
next_value {n = n} {K = K} {d = d} {e = e} vs {x = x} {a = a} q r ws is (values_go {ws = zs} {a = b} {us = us} p t k) =
    subst (ValuesRest n K d e vs) (append_assoc a (mark (codes ",") q ∷ b) (mark (codes "}") p ∷ us))
    (values_go p (valued q r t) (subst (λ l. Tail n K d (with_initialiser e (i.Braces l)) us) (ap (λ l. l ++ zs) is ∙ append_assoc vs (x ∷ []) zs) k))

-- a declaration, from its type on
pub record Typed (n : ℕ) (K : Decl → List Token → Type 0) (list : List Token) : Type 0 where
  pub front : List Token
  pub decl : Decl
  pub rest : List Token
  pub all : front ++ rest ≡ list
  pub reads : ReadsDeclaration (suc n) front decl
  pub goes : K decl rest

typed_by : {n : ℕ} {K : Decl → List Token → Type 0} {k : TypeWord} {a us : List Token} → IsType a k → NextRest n K (record { word = k; declarators = [] }) us → Typed n K (a ++ us)
typed_by {k = k} {a = a} t (next_rest {es = es} {a = b} {us = rest} q ds m) = record {
  front = a ++ (b ++ mark (codes ";") q ∷ []);
  decl = record { word = k; declarators = es };
  rest = rest;
  all = simp append_assoc;
  reads = declaration q t ds;
  goes = m;
}

pub typed_next : {n : ℕ} {K : Decl → List Token → Type 0} {k : TypeWord} {p : Place} {c : List ℕ} {a us : List Token} → IsType a k → IsName c → NamedRest n K (record { word = k; declarators = [] }) p c us → Typed n K (a ++ word c p ∷ us)
typed_next t i r = typed_by t (name_next i r)

-- a declaration in a block
pub declaration_wants : {xs : List Item} {g : Program} {m : ℕ} {s : List Frame} {d : Decl} {a us : List Token} → machine.in_block s ≡ true → ReadsDeclaration m a d → Goes xs g m s (tree.Declare d) us → Wants xs g m s (a ++ us)
declaration_wants {xs = xs} {g = g} {a = a} is r (function_goes {f = f} {a = b} {us = us} q t h same k) =
    subst (Wants xs g 198 (InFunction f ∷ [])) (append_assoc a b (mark (codes "}") q ∷ us)) (function_rest q (a_declaration r t) h same k)
declaration_wants {xs = xs} {g = g} {m = m} {a = a} is r (block_goes {p = p} {zs = zs} {s = s} {a = b} {us = us} q t l same k) =
    subst (Wants xs g m (InBlock p zs ∷ s)) (append_assoc a b (mark (codes "}") q ∷ us)) (block_rest q (a_declaration r t) l same k)
declaration_wants is r _ = absurd (false≢true is)

-- what stands at the top, from a first name on
pub typed_plain : {xs : List Item} {g : Program} {s : List Frame} {k : TypeWord} {p : Place} {c : List ℕ} {place : Site} {a us : List Token} → place ≡ site.Item → IsType a k → IsName c → FirstRest xs g 199 s k p c place us → StaticRest xs g (a ++ word c p ∷ us)
typed_plain {xs = xs} {g = g} {s = s} {k = k} {p = p} {c = c} {place = place} {a = a} is t i (first_named {us = us} r) =
    let d = typed_next t i r in
    subst (StaticRest xs g) d.all (static_rest (shared d.reads) (subst (λ l. Declared xs g 199 s l d.decl d.rest) is d.goes))
typed_plain {xs = xs} {g = g} {k = k} {p = p} {c = c} {a = a} is t i (first_heads q (as_prototype {a = b} {us = us} r u (skip_all h) m)) =
    subst (StaticRest xs g) (simp append_assoc) (static_rest (prototype q r u t i h) m)
typed_plain {xs = xs} {g = g} {k = k} {p = p} {c = c} {a = a} is t i (first_heads q (as_function r (none_yet ps) (function_rest_of u v body m))) =
    subst (StaticRest xs g) (simp append_assoc) (static_rest (function q r u v t i ps body) m)
