-- The answer for what is left, case by case.
use Rattle.std.proofs.Common.{◌≡◌, ℕ, ◌<◌, ◌≤◌, true, false, cond, List, length, map, take, find, nat_lt, Option, Some, None, option_map, Result, Ok, Err, refl, sym, ap, ◌∙◌, arith}
use Rattle.std.proofs.lemmas.Bool.{lt-ltb, le-ltb}
use Rattle.std.proofs.lemmas.List.{take_all}
use Rattle.dg_base.specs.declared.Place.{Place}
use Rattle.dg_base.specs.declared.refusal.LimitKind.TheVariants.{Text, Macro, Tokens as TokenCount}
use Rattle.dg_base.specs.declared.refusal.Refusal.TheVariants.{BadByte, Unsupported, Limit}
use Rattle.token_list.specs.declared.Token.{Token}
use Rattle.c_token.specs.declared.sieve.TheConstants.{MAX_TOKENS}
use Rattle.c_token.specs.Bytes.{capped}
use Rattle.c_token.specs.Dropping.{kept}
use Rattle.c_token.specs.Macros.{Reading, bodies_of}
use Rattle.c_token.specs.Pieces.{Segment, all_segments, beginning, behind}
use Rattle.c_token.specs.Macros.{nothing_read, read}
use Rattle.c_token.specs.Tokens.{is_unsupported, meant, shown, first_long, limited, supported, tokens_read, tokens_of, answer}

pub limited_many : (end : Place) (words : List Token) (count capped_count : ℕ) → count ≡ length words → MAX_TOKENS < count → capped_count ≡ capped count → Err (Limit TokenCount capped_count) ≡ limited end None words
unfolding limited
limited_many end words count capped_count e many k =
    let here : Err (Limit TokenCount capped_count) ≡ Err (Limit TokenCount (capped (length words))) = ap (λ n. Err (Limit TokenCount n)) (k ∙ ap capped e) in
    let test : nat_lt 65536 (length words) ≡ true = lt-ltb 65536 (length words) (omega (arith, e, many)) in
    here ∙ sym (ap (λ b. cond b (Err (Limit TokenCount (capped (length words)))) (Ok (record { list = map meant words; end = end }))) test)

pub limited_few : (end : Place) (words kept_words : List Token) (list : List Token) (count : ℕ) → count ≡ length words → count ≤ MAX_TOKENS → kept_words ≡ take MAX_TOKENS words → list ≡ map meant kept_words
    → Ok (record { list = list; end = end }) ≡ limited end None words
unfolding limited
limited_few end words kept_words list count e few k l =
    let all : take MAX_TOKENS words ≡ words = take_all MAX_TOKENS words (omega (arith, e, few)) in
    let here : Ok (record { list = list; end = end }) ≡ Ok (record { list = map meant words; end = end }) = ap (λ ts. Ok (record { list = ts; end = end })) (l ∙ ap (map meant) (k ∙ all)) in
    let test : nat_lt 65536 (length words) ≡ false = le-ltb 65536 (length words) (omega (arith, e, few)) in
    here ∙ sym (ap (λ b. cond b (Err (Limit TokenCount (capped (length words)))) (Ok (record { list = map meant words; end = end }))) test)

pub supported_found : (end : Place) (t : Token) (found : Option Token) (word : List ℕ) (long : Option (List Token)) (words : List Token) → Some t ≡ found → word ≡ shown t.text
    → Err (Unsupported t.place word) ≡ supported end found long words
unfolding supported
supported_found end t found word long words e k = ap (λ w. Err (Unsupported t.place w)) k ∙ ap (λ o. supported end o long words) e

pub supported_long : (end : Place) (found : Option Token) (long : Option (List Token)) (count : ℕ) (words : List Token) → None ≡ found → Some count ≡ option_map (λ body. capped (length body)) long
    → Err (Limit Macro count) ≡ supported end found long words
unfolding supported limited
supported_long end found None count words e k = cc
supported_long end found (Some body) count words e k =
    let same : count ≡ capped (length body) = cc in
    ap (λ n. Err (Limit Macro n)) same ∙ ap (λ o. supported end o (Some body) words) e

pub supported_rest : (end : Place) (found : Option Token) (long : Option (List Token)) (words : List Token) → None ≡ found → None ≡ option_map (λ body. capped (length body)) long
    → limited end None words ≡ supported end found long words
unfolding supported
supported_rest end found None words e k = ap (λ o. supported end o None words) e
supported_rest end found (Some body) words e k = cc

pub nothing_long : (long : Option (List Token)) → None ≡ option_map (λ body. capped (length body)) long → long ≡ None
nothing_long None e = refl
nothing_long (Some body) e = cc

pub read_is : (end : Place) (r : Reading) → supported end (find is_unsupported (kept r.words)) (first_long (bodies_of r.macros)) (kept r.words) ≡ tokens_read end r
unfolding tokens_read
read_is end r = refl

pub bad_byte_is : (end p : Place) (r : Result (List Segment) Place) → r ≡ Err p → Err (BadByte p) ≡ tokens_of end r
unfolding tokens_of
bad_byte_is end p r e = ap (tokens_of end) (sym e)

pub segments_are : (end : Place) (ss : List Segment) (r : Result (List Segment) Place) → r ≡ Ok ss → tokens_read end (read nothing_read ss) ≡ tokens_of end r
unfolding tokens_of
segments_are end ss r e = ap (tokens_of end) (sym e)

pub long_text_is : (text : List ℕ) (count : ℕ) → 1048576 < length text → count ≡ capped (length text) → Err (Limit Text count) ≡ answer text
unfolding answer
long_text_is text count h k =
    ap (λ n. Err (Limit Text n)) k ∙ sym (ap (λ b. cond b (Err (Limit Text (capped (length text)))) (tokens_of (behind beginning text) (all_segments text))) (lt-ltb 1048576 (length text) h))

pub short_text_is : (text : List ℕ) → length text ≤ 1048576 → tokens_of (behind beginning text) (all_segments text) ≡ answer text
unfolding answer
short_text_is text h = sym (ap (λ b. cond b (Err (Limit Text (capped (length text)))) (tokens_of (behind beginning text) (all_segments text))) (le-ltb 1048576 (length text) h))
