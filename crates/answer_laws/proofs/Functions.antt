-- A program that is read from a text has no more functions than tokens, and there are at most 65,536 tokens.
use Rattle.std.proofs.Common.{◌≡◌, ℕ, ◌≤◌, List, [], ◌∷◌, ◌++◌, length, map, Bool, true, false, cond, Option, Some, None, Result, Ok, Err, refl, ap, ◌∙◌, arith, length-append}
use Rattle.std.specs.Prelude.{codes, nat_lt}
use Rattle.std.proofs.lemmas.Bool.{ltb-false}
use Rattle.std.proofs.lemmas.List.{length-map}
use Rattle.dg_base.specs.declared.Place.{Place}
use Rattle.dg_base.specs.declared.refusal.LimitKind.TheVariants.{Macro, Text, Tokens as TokenCount}
use Rattle.dg_base.specs.declared.refusal.Refusal.{Refusal}
use Rattle.dg_base.specs.declared.refusal.Refusal.TheVariants.{BadByte, Limit}
use Rattle.token_list.specs.declared.Token.{Token}
use Rattle.token_list.specs.declared.Tokens.{Tokens}
use Rattle.c_token.specs.Bytes.{capped}
use Rattle.c_token.specs.Macros.{Reading, bodies_of, nothing_read, read}
use Rattle.c_token.specs.Dropping.{kept}
use Rattle.c_token.specs.Pieces.{Segment, all_segments, beginning, behind}
use Rattle.c_token.specs.Tokens.{answer, first_long, limited, meant, supported, tokens_of, tokens_read}
use Rattle.c_tree.specs.declared.stmt.Decl.{Decl}
use Rattle.c_tree.specs.declared.program.Function.{Function}
use Rattle.c_tree.specs.declared.program.Item.{Item}
use Rattle.c_tree.specs.declared.program.Item.TheVariants as item
use Rattle.c_rules.specs.Names.{functions_of}
use Rattle.c_expr.specs.Words.{mark, word}
use Rattle.c_stmt.specs.Declarations.{ReadsDeclaration, declaration}
use Rattle.c_stmt.specs.Programs.{ReadsItem, ReadsItems, ReadsPlain, an_item, function, no_item, plain, prototype, shared, static}
use Rattle.c_check.specs.declared.checked.Checked.{Checked}
use Rattle.c_program.specs.Accepting.{IsAccepted}

-- ---- tokens

ok_is : (s t : Tokens) → ◌≡◌ {A = Result Tokens Refusal} (Ok s) (Ok t) → s ≡ t
ok_is s t e = cc

no_err : (e : Refusal) (t : Tokens) → ◌≡◌ {A = Result Tokens Refusal} (Err e) (Ok t) → ⊥
no_err e t h = cc

few_left : (end : Place) (long : Option (List Token)) (words : List Token) (t : Tokens) → limited end long words ≡ Ok t → length t.list ≤ 65536
unfolding limited
few_left end (Some body) words t e = absurd (no_err (Limit Macro (capped (length body))) t e)
few_left end None words t e = by (nat_lt 65536 (length words)) refl e
  where
    by : (b : Bool) → nat_lt 65536 (length words) ≡ b → cond b (Err (Limit TokenCount (capped (length words)))) (Ok (record { list = map meant words; end = end })) ≡ Ok t → length t.list ≤ 65536
    by true s f = absurd (no_err (Limit TokenCount (capped (length words))) t f)
    by false s f =
        let same = ap (λ (x : Tokens). length x.list) (ok_is (record { list = map meant words; end = end }) t f) in
        let long = length-map words meant in
        let few = ltb-false 65536 (length words) s in
        omega arith

few_supported : (end : Place) (bad : Option Token) (long : Option (List Token)) (words : List Token) (t : Tokens) → supported end bad long words ≡ Ok t → length t.list ≤ 65536
unfolding supported
few_supported end (Some b) long words t e = absurd (no_err _ t e)
few_supported end None long words t e = few_left end long words t e

few_read : (end : Place) (r : Reading) (t : Tokens) → tokens_read end r ≡ Ok t → length t.list ≤ 65536
unfolding tokens_read
few_read end r t e = few_supported end _ (first_long (bodies_of r.macros)) (kept r.words) t e

few_of : (end : Place) (r : Result (List Segment) Place) (t : Tokens) → tokens_of end r ≡ Ok t → length t.list ≤ 65536
unfolding tokens_of
few_of end (Err p) t e = absurd (no_err (BadByte p) t e)
few_of end (Ok ss) t e = few_read end (read nothing_read ss) t e

few_tokens : (text : List ℕ) (t : Tokens) → answer text ≡ Ok t → length t.list ≤ 65536
unfolding answer
few_tokens text t e = by (nat_lt 1048576 (length text)) e
  where
    by : (b : Bool) → cond b (Err (Limit Text (capped (length text)))) (tokens_of (behind beginning text) (all_segments text)) ≡ Ok t → length t.list ≤ 65536
    by true f = absurd (no_err (Limit Text (capped (length text))) t f)
    by false f = few_of (behind beginning text) (all_segments text) t f

-- ---- items

behind_some : (a : List Token) (t : Token) (b : List Token) → 1 ≤ length (a ++ t ∷ b)
behind_some a t b = let long = length-append a (t ∷ b) in omega arith

declaration_tokens : (n : ℕ) (a : List Token) (d : Decl) → ReadsDeclaration n a d → 1 ≤ length a
declaration_tokens n _ _ (declaration q {a = a} {b = b} k ds) =
    let long = length-append a (b ++ mark (codes ";") q ∷ []) in
    let more = behind_some b (mark (codes ";") q) [] in
    omega arith

plain_tokens : (n : ℕ) (a : List Token) (x : Item) → ReadsPlain n a x → 1 ≤ length a
plain_tokens _ _ _ (function {p = p} q r t u {a = a} {name = name} k c ps body) = behind_some a (word name p) _
plain_tokens _ _ _ (prototype {p = p} q r t {a = a} {name = name} k c s) = behind_some a (word name p) _
plain_tokens n a _ (shared {d = d} h) = declaration_tokens n a d h

item_tokens : (n : ℕ) (a : List Token) (x : Item) → ReadsItem n a x → 1 ≤ length a
item_tokens n a x (plain h) = plain_tokens n a x h
item_tokens n _ x (static p h) = omega arith

items_tokens : (n : ℕ) (a : List Token) (xs : List Item) → ReadsItems n a xs → length xs ≤ length a
items_tokens n _ _ no_item = omega arith
items_tokens n _ _ (an_item {a = a} {b = b} {x = x} {xs = xs} h hs) =
    let long = length-append a b in
    let one = item_tokens n a x h in
    let more = items_tokens n b xs hs in
    omega arith

function_items : (xs : List Item) → length (functions_of xs) ≤ length xs
function_items [] = omega arith
function_items (item.Function f ∷ xs) = let more = function_items xs in omega arith
function_items (item.Prototype p w n ∷ xs) = let more = function_items xs in omega arith
function_items (item.Shared d ∷ xs) = let more = function_items xs in omega arith

pub few_functions : (bound : ℕ) (full : Bool) (text : List ℕ) (p : Checked) → IsAccepted bound full text p → length p.functions ≤ 65536
few_functions bound full text p acc =
    let tokens = few_tokens text acc.read.tokens acc.read.lexed in
    let items = items_tokens 200 acc.read.tokens.list p.program.items acc.read.read in
    let functions = function_items p.program.items in
    let names = ap (λ (l : List (List ℕ)). length l) acc.checked.functions ∙ length-map (functions_of p.program.items) (λ (f : Function). f.name) in
    omega arith
