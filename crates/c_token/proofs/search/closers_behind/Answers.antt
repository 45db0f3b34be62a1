use Rattle.std.proofs.Common.{◌≡◌, ℕ, IfOk, sym, ap, subst}
use Rattle.c_token.specs.declared.skim.Effect.{Effect}
use Rattle.c_token.specs.Skimming.{bounded, extern_behind, ahead, opened}
use Rattle.c_token.specs.Tables.{use_tokens}
use Rattle.c_token.proofs.Effects.{ahead_is}
use Rattle.c_token.proofs.Ends.{closers_are}
use Rattle.c_token.proofs.search.closers_behind.Goals as goal

pub returns : goal.returns
returns c = λ bodies rest k t a b.
    let ut = use_tokens bodies c.args.one.now in
    let f = extern_behind c.args.in_extern ut in
    let there = closers_are bodies ut rest c.args.in_extern c.use_effects.result c.at-here.result c.at.result c.args.after.now (c.use_effects.ensures bodies t) c.at-here.ensures a c.at.ensures in
    let sum = c.ahead.ensures (ahead 0 f rest) (opened f rest) k (ap (λ (x : Effect). x.closers) there) (ap (λ (x : Effect). x.openers) there) b in
    subst (λ (x : ℕ). IfOk c.ahead.result (λ n. n ≡ bounded x)) (sym (ahead_is k f rest)) sum
