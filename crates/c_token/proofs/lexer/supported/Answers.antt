use Rattle.std.proofs.Common.{◌≡◌, IfOk, option_map, is_none, sym, ap, subst, ◌∙◌}
use Rattle.c_token.specs.Dropping.{kept}
use Rattle.c_token.specs.Seen.{token}
use Rattle.c_token.specs.Tokens.{first_long}
use Rattle.c_token.proofs.Answering.{supported_found, supported_long, supported_rest}
use Rattle.c_token.proofs.lexer.supported.Goals as goal

pub returns-in-Some : goal.returns-in-Some
returns-in-Some c = λ bodies all long s.
    supported_found c.args.end (token c.in-Some.word) _ c.in_ok-shown.shown _ _ (ap (option_map token) (sym c.in-Some.is) ∙ s.unsupported) c.in_ok-shown.ensures

pub returns-in-Some-long : goal.returns-in-Some-long
returns-in-Some-long c = λ bodies all long s.
    supported_long c.args.end _ (first_long bodies) c.in-Some-long.count (kept all) (ap (option_map token) (sym c.in_default.is) ∙ s.unsupported) (sym c.in-Some-long.is ∙ long)

pub returns : goal.returns
returns c = λ bodies all long s.
    let none = ap (option_map token) c.in_default.is in
    subst (λ x. IfOk c.limited.result (λ a. a ≡ x))
    (supported_rest c.args.end _ (first_long bodies) (kept all) (sym none ∙ s.unsupported) (sym c.in_default-long.is ∙ long))
    (c.limited.ensures (kept all) (s.words (ap is_none c.in_default-long.is) none) (s.count (ap is_none c.in_default-long.is) none))
