use Rattle.std.proofs.Common.{◌≡◌, ◌+◌, ◌-◌, List, ◌++◌, map, length, take, drop, min, ap, ◌∙◌, arith}
use Rattle.std.proofs.lemmas.List.{map-append}
use Rattle.token_list.specs.declared.Token.{Token}
use Rattle.c_token.specs.declared.sieve.TheConstants.{MAX_TOKENS}
use Rattle.c_token.specs.declared.words.Word.{Word}
use Rattle.c_token.specs.Macros.{all_at}
use Rattle.c_token.specs.Seen.{token}
use Rattle.c_token.specs.Sieving.{State, state, again}
use Rattle.c_token.proofs.Holding.{again_is, held_again}
use Rattle.c_token.proofs.sieve.Sieve.hold_again.Goals as goal

pub returns : goal.returns
returns c =
    let old = c.args.self.now.words.items in
    let room : c.min.result ≡ min c.args.count (MAX_TOKENS - length old) = omega (arith, c.min.ensures, c.saturating_sub-room.ensures, c.len.ensures) in
    let held : map token c.in_ok-again.again.items ≡ again c.args.first c.args.count c.args.place (map token old) =
    c.in_ok-again.ensures
    ∙ (ap (λ (ws : List Word). all_at c.args.place (map token ws)) (c.part-again.ensures ∙ ap (λ (ws : List Word). take c.min.result (drop c.args.first ws)) c.as_slice.ensures.value)
    ∙ again_is old c.args.first c.args.count c.min.result c.args.place room) in
    let same : state c.weigh.new.self ≡ state c.args.self.now = c.in_ok-weigh.ensures in
    let words : map token c.append.new.self.items ≡ map token old ++ again c.args.first c.args.count c.args.place (map token old) =
    ap (map token) c.in_ok-append.ensures.items
    ∙ (map-append token c.weigh.new.self.words.items c.in_ok-again.again.items
    ∙ (ap (λ (ts : List Token). ts ++ map token c.in_ok-again.again.items) (ap (λ (x : State). x.words) same) ∙ ap (λ (ts : List Token). map token old ++ ts) held)) in
    let counted : c.in_ok-self.field-0 ≡ c.args.self.now.count + c.args.count = c.in_ok-self.ensures ∙ ap (λ (x : State). x.count + c.args.count) same in
    held_again (state c.args.self.now) (state c.weigh.new.self) (map token c.append.new.self.items) c.args.first c.args.count c.in_ok-self.field-0 c.args.place same c.if-not-self.false words counted
