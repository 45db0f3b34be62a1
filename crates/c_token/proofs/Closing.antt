-- Words that differ, and brackets in a list of tokens.
use Rattle.std.proofs.Common.{◌≡◌, ℕ, ◌+◌, ◌-◌, Bool, true, false, cond, not, List, [], ◌∷◌, nat_eq, bytes_eq, Option, Some, None, is_some, codes, refl, sym, ◌∙◌}
use Rattle.std.proofs.lemmas.Bool.{and_parts, both_ways, false_from_ne_true}
use Rattle.std.proofs.lemmas.Slice.Eq.{bytes_eq-Decides}
use Rattle.token_list.specs.declared.Token.{Token}
use Rattle.c_token.specs.Dropping.{is_text, says, closes, no_attribute, past_group}

-- a token says one thing
pub says_one : (a b : List ℕ) (t : Token) → bytes_eq a b ≡ false → says a t ≡ true → says b t ≡ false
says_one a b t apart h =
    let is_a = (bytes_eq-Decides t.text a).0 (and_parts (not (is_text t.kind)) (bytes_eq t.text a) h).1 in
    false_from_ne_true (says b t) (λ k.
    let is_b = (bytes_eq-Decides t.text b).0 (and_parts (not (is_text t.kind)) (bytes_eq t.text b) k).1 in
    both_ways (bytes_eq a b) apart ((bytes_eq-Decides a b).1 (sym is_a ∙ is_b)))

-- what stands behind the bracket that closes one with so many further ones open, if it is closed
abbrev pub behind_close : ℕ → List Token → Option (List Token)
behind_close n [] = None
behind_close n (t ∷ ts) =
    cond (says (codes "(") t) (behind_close (n + 1) ts)
    (cond (says (codes ")") t) (cond (nat_eq n 0) (Some ts) (behind_close (n - 1) ts)) (behind_close n ts))

pub closes_behind : (n : ℕ) (ts : List Token) → closes n ts ≡ is_some (behind_close n ts)
closes_behind n [] = refl
closes_behind n (t ∷ ts) = step (says (codes "(") t) (says (codes ")") t) (nat_eq n 0) (closes_behind (n + 1) ts) (closes_behind (n - 1) ts) (closes_behind n ts)
  where
    step : (l r z : Bool) → closes (n + 1) ts ≡ is_some (behind_close (n + 1) ts) → closes (n - 1) ts ≡ is_some (behind_close (n - 1) ts) → closes n ts ≡ is_some (behind_close n ts)
        → cond l (closes (n + 1) ts) (cond r (cond z true (closes (n - 1) ts)) (closes n ts))
        ≡ is_some (cond l (behind_close (n + 1) ts) (cond r (cond z (Some ts) (behind_close (n - 1) ts)) (behind_close n ts)))
    step true r z a b c = a
    step false true true a b c = refl
    step false true false a b c = b
    step false false z a b c = c

-- the list without what stands up to the closing bracket
abbrev pub behind_group : Option (List Token) → List Token
behind_group None = []
behind_group (Some ts) = no_attribute ts

pub past_group_behind : (n : ℕ) (ts : List Token) → past_group n ts ≡ behind_group (behind_close n ts)
past_group_behind n [] = refl
past_group_behind n (t ∷ ts) =
    step (says (codes "(") t) (says (codes ")") t) (nat_eq n 0) (past_group_behind (n + 1) ts) (past_group_behind (n - 1) ts) (past_group_behind n ts)
  where
    step : (l r z : Bool) → past_group (n + 1) ts ≡ behind_group (behind_close (n + 1) ts) → past_group (n - 1) ts ≡ behind_group (behind_close (n - 1) ts)
        → past_group n ts ≡ behind_group (behind_close n ts)
        → cond l (past_group (n + 1) ts) (cond r (cond z (no_attribute ts) (past_group (n - 1) ts)) (past_group n ts))
        ≡ behind_group (cond l (behind_close (n + 1) ts) (cond r (cond z (Some ts) (behind_close (n - 1) ts)) (behind_close n ts)))
    step true r z a b c = a
    step false true true a b c = refl
    step false true false a b c = b
    step false false z a b c = c
