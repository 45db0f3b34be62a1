-- What is left out of a list of tokens.
use Rattle.std.specs.Prelude.{ℕ, ◌+◌, ◌-◌, Bool, true, false, not, ◌&&◌, ◌==◌, if◌then◌else◌, List, [], ◌∷◌, bytes_eq, codes}
use Rattle.std.specs.List.{list_any}
use Rattle.token_list.specs.declared.Token.{Token}
use Rattle.token_list.specs.declared.TokenKind.{TokenKind}
use Rattle.token_list.specs.declared.TokenKind.TheVariants.{Text}
use Rattle.c_token.specs.Macros.{is_name}

abbrev pub is_text : TokenKind → Bool
is_text Text = true
is_text _ = false

-- a name, a number or a mark of this text
abbrev pub says : List ℕ → Token → Bool
says text t = not (is_text t.kind) && bytes_eq t.text text

-- without what stands from `extern` up to and with the next `;`
abbrev mutual
  pub no_extern : List Token → List Token
  no_extern [] = []
  no_extern (t ∷ ts) = if says (codes "extern") t then past_semicolon ts else t ∷ no_extern ts

  pub past_semicolon : List Token → List Token
  past_semicolon [] = []
  past_semicolon (t ∷ ts) = if says (codes ";") t then no_extern ts else past_semicolon ts

-- without what stands behind `main` and `(` up to the matching `)`; the number counts the further brackets that are open
abbrev mutual
  pub no_parameters : Bool → List Token → List Token
  no_parameters main [] = []
  no_parameters main (t ∷ ts) =
      if main && says (codes "(") t then t ∷ past_parameters 0 ts else t ∷ no_parameters (says (codes "main") t) ts

  pub past_parameters : ℕ → List Token → List Token
  past_parameters n [] = []
  past_parameters n (t ∷ ts) =
      if says (codes "(") t then past_parameters (n + 1) ts
      else (if says (codes ")") t
      then (if n == 0 then t ∷ no_parameters false ts else past_parameters (n - 1) ts)
      else past_parameters n ts)

-- whether a bracket that opens before these tokens is closed, with so many further ones open
abbrev pub closes : ℕ → List Token → Bool
closes n [] = false
closes n (t ∷ ts) =
    if says (codes "(") t then closes (n + 1) ts
    else (if says (codes ")") t then (if n == 0 then true else closes (n - 1) ts) else closes n ts)

-- without `__attribute__` and the bracketed group behind it; where no group follows, or its bracket isn't closed,
-- without `__attribute__` alone
abbrev mutual
  pub no_attribute : List Token → List Token
  no_attribute [] = []
  no_attribute (t ∷ ts) = if says (codes "__attribute__") t then past_attribute ts else t ∷ no_attribute ts

  pub past_attribute : List Token → List Token
  past_attribute [] = []
  past_attribute (t ∷ ts) =
      if says (codes "(") t && closes 0 ts then past_group 0 ts
      else (if says (codes "__attribute__") t then past_attribute ts else t ∷ no_attribute ts)

  pub past_group : ℕ → List Token → List Token
  past_group n [] = []
  past_group n (t ∷ ts) =
      if says (codes "(") t then past_group (n + 1) ts
      else (if says (codes ")") t then (if n == 0 then no_attribute ts else past_group (n - 1) ts) else past_group n ts)

abbrev pub dropped_words : List (List ℕ)
dropped_words =
    codes "volatile" ∷ codes "const" ∷ codes "restrict" ∷ codes "inline" ∷ codes "register" ∷ codes "auto" ∷ codes "__extension__"
    ∷ codes "__inline" ∷ codes "__restrict" ∷ codes "__const" ∷ []

-- a name of this text
abbrev pub is_named : List ℕ → Token → Bool
is_named text t = is_name t.kind && bytes_eq t.text text

-- whether a token is a name of this list
abbrev pub is_among : List (List ℕ) → Token → Bool
is_among words t = is_name t.kind && list_any (bytes_eq t.text) words

unfoldable pub is_dropped : Token → Bool
is_dropped t = is_among dropped_words t

-- without the words that say nothing here
abbrev pub no_words : List Token → List Token
no_words [] = []
no_words (t ∷ ts) = if is_dropped t then no_words ts else t ∷ no_words ts

-- what is left, left out in this order
abbrev pub kept : List Token → List Token
kept ts = no_words (no_attribute (no_parameters false (no_extern ts)))
