-- What holds of all tokens of a list holds of those that are kept.
use Rattle.std.proofs.Common.{ℕ, ◌+◌, ◌-◌, Bool, false, ◌&&◌, List, [], ◌∷◌, codes}
use Rattle.std.specs.Prelude.{◌==◌}
use Rattle.std.specs.List.{AllByRecursion}
use Rattle.std.proofs.lemmas.Bool.{cond_both}
use Rattle.token_list.specs.declared.Token.{Token}
use Rattle.c_token.specs.Dropping.{says, no_extern, past_semicolon, no_parameters, past_parameters, closes, no_attribute, past_attribute, past_group, is_dropped, no_words, kept}

extern_all : (P : Token → Type 0) (ts : List Token) → AllByRecursion P ts → AllByRecursion P (no_extern ts) × AllByRecursion P (past_semicolon ts)
extern_all P [] h = (tt, tt)
extern_all P (t ∷ ts) h =
    let more = extern_all P ts h.1 in (
      cond_both (says (codes "extern") t) (past_semicolon ts) (t ∷ no_extern ts) (AllByRecursion P) (λ _. more.1) (λ _. (h.0, more.0)),
      cond_both (says (codes ";") t) (no_extern ts) (past_semicolon ts) (AllByRecursion P) (λ _. more.0) (λ _. more.1),
    )

parameters_all : (P : Token → Type 0) (ts : List Token) → AllByRecursion P ts
    → ((main : Bool) → AllByRecursion P (no_parameters main ts)) × ((n : ℕ) → AllByRecursion P (past_parameters n ts))
parameters_all P [] h = (λ main. tt, λ n. tt)
parameters_all P (t ∷ ts) h =
    let more = parameters_all P ts h.1 in (
      λ main. cond_both (main && says (codes "(") t) (t ∷ past_parameters 0 ts) (t ∷ no_parameters (says (codes "main") t) ts) (AllByRecursion P) (λ _. (h.0, more.1 0)) (λ _. (h.0, more.0 (says (codes "main") t))),
      λ n. cond_both (says (codes "(") t) _ _ (AllByRecursion P) (λ _. more.1 (n + 1))
          (λ _. cond_both (says (codes ")") t) _ _ (AllByRecursion P) (λ _. cond_both (n == 0) (t ∷ no_parameters false ts) (past_parameters (n - 1) ts) (AllByRecursion P) (λ _. (h.0, more.0 false)) (λ _. more.1 (n - 1)))
          (λ _. more.1 n)),
    )

record AttributeAll (P : Token → Type 0) (ts : List Token) : Type 0 where
  outside : AllByRecursion P (no_attribute ts)
  behind : AllByRecursion P (past_attribute ts)
  inside : (n : ℕ) → AllByRecursion P (past_group n ts)

attribute_all : (P : Token → Type 0) (ts : List Token) → AllByRecursion P ts → AttributeAll P ts
attribute_all P [] h = record { outside = tt; behind = tt; inside = λ n. tt }
attribute_all P (t ∷ ts) h =
    let more = attribute_all P ts h.1 in
    record {
      outside = cond_both (says (codes "__attribute__") t) (past_attribute ts) (t ∷ no_attribute ts) (AllByRecursion P) (λ _. more.behind) (λ _. (h.0, more.outside));
      behind = cond_both (says (codes "(") t && closes 0 ts) _ _ (AllByRecursion P) (λ _. more.inside 0)
          (λ _. cond_both (says (codes "__attribute__") t) (past_attribute ts) (t ∷ no_attribute ts) (AllByRecursion P) (λ _. more.behind) (λ _. (h.0, more.outside)));
      inside = λ n. cond_both (says (codes "(") t) _ _ (AllByRecursion P) (λ _. more.inside (n + 1))
          (λ _. cond_both (says (codes ")") t) _ _ (AllByRecursion P) (λ _. cond_both (n == 0) (no_attribute ts) (past_group (n - 1) ts) (AllByRecursion P) (λ _. more.outside) (λ _. more.inside (n - 1)))
          (λ _. more.inside n));
    }

words_all : (P : Token → Type 0) (ts : List Token) → AllByRecursion P ts → AllByRecursion P (no_words ts)
words_all P [] h = tt
words_all P (t ∷ ts) h =
    let more = words_all P ts h.1 in
    cond_both (is_dropped t) (no_words ts) (t ∷ no_words ts) (AllByRecursion P) (λ _. more) (λ _. (h.0, more))

pub kept_all : (P : Token → Type 0) (ts : List Token) → AllByRecursion P ts → AllByRecursion P (kept ts)
kept_all P ts h =
    let outside = (extern_all P ts h).0 in
    let without = (parameters_all P (no_extern ts) outside).0 false in
    let plain = (attribute_all P (no_parameters false (no_extern ts)) without).outside in
    words_all P (no_attribute (no_parameters false (no_extern ts))) plain
