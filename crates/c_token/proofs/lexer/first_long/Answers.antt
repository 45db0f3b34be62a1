use Rattle.std.proofs.Common.{List, length, option_map, refl, sym, ap, ◌∙◌, arith}
use Rattle.std.proofs.lemmas.List.{drop_all}
use Rattle.token_list.specs.declared.Token.{Token}
use Rattle.c_token.specs.Bytes.{capped}
use Rattle.c_token.specs.Tokens.{first_long}
use Rattle.c_token.proofs.Limits.{long_here, long_next}
use Rattle.c_token.proofs.lexer.first_long.Goals as goal

pub loop-one-preserved : goal.loop-one-preserved
loop-one-preserved c = λ bodies table.
    long_next c.args.macros.now bodies c.loop-one.one-index c.one-item.result.count c.one-item.result table c.loop-one-test.true c.one-item.is refl c.if-count-gt-MAX_MACRO.false
    ∙ c.loop-one.invariant bodies table

pub returns-then-count-gt-MAX_MACRO : goal.returns-then-count-gt-MAX_MACRO
returns-then-count-gt-MAX_MACRO c = λ bodies table.
    long_here c.args.macros.now bodies c.loop-one.one-index c.one-item.result.count c.one-item.result table c.loop-one-test.true c.one-item.is refl c.if-count-gt-MAX_MACRO.true
    ∙ ap (option_map (λ (body : List Token). capped (length body))) (c.loop-one.invariant bodies table)

pub returns : goal.returns
returns c = λ bodies table.
    let none = drop_all c.loop-one.one-index bodies (omega (arith, table.len, c.loop-one-test.false)) in
    ap (λ l. option_map (λ (body : List Token). capped (length body)) (first_long l)) (sym none) ∙ ap (option_map (λ (body : List Token). capped (length body))) (c.loop-one.invariant bodies table)
