use Rattle.std.proofs.Common.{◌≡◌, Bool, true, false, not, List, map, IfOk, sym, ap, subst, ◌∙◌}
use Rattle.token_list.specs.declared.Token.{Token}
use Rattle.c_token.specs.declared.macros.Macro.{Macro}
use Rattle.c_token.specs.Macros.{bodies_of, nothing_read, read}
use Rattle.c_token.specs.Searching.{IsOrdered, Sifts}
use Rattle.c_token.specs.Seen.{segment}
use Rattle.c_token.specs.Sieving.{state}
use Rattle.c_token.specs.Tables.{IsTable, all_tokens}
use Rattle.c_token.proofs.Answering.{read_is}
use Rattle.c_token.proofs.Limits.{table_ordered}
use Rattle.c_token.proofs.lexer.tokens_in.Goals as goal

flipped : (s b : Bool) → s ≡ not b → b ≡ not s
flipped s true e = ap not (sym e)
flipped s false e = ap not (sym e)

pub sift-requires-clause-ordered : goal.sift-requires-clause-ordered
sift-requires-clause-ordered c = subst (λ (ms : List Macro). IsOrdered ms) (sym c.as_slice-macros.ensures) (table_ordered c.in_ok-reader.reader.macros _ c.in_ok-reader.ensures.table)

pub returns : goal.returns
returns c =
    let r = read nothing_read (map segment c.args.parts.now) in
    let reads = c.in_ok-reader.ensures in
    let bodies = bodies_of r.macros in
    let s = state c.in_ok-sieve.sieve in
    let table : IsTable c.as_slice-macros.result.now bodies = subst (λ (ms : List Macro). IsTable ms bodies) (sym c.as_slice-macros.ensures) reads.table in
    let words : all_tokens bodies c.as_slice.result.now ≡ r.words = ap (all_tokens bodies) c.as_slice.ensures ∙ reads.uses in
    let long = c.first_long-long.ensures bodies table in
    let sifts = subst (λ (ws : List Token). Sifts c.is_none.result ws s) words (c.in_ok-sieve.ensures bodies table) in
    let there = subst (λ (b : Bool). Sifts b r.words s) (flipped _ _ c.is_none.ensures) sifts in
    subst (λ x. IfOk c.supported.result (λ a. a ≡ x)) (read_is c.args.end r) (c.supported.ensures bodies r.words long there)
