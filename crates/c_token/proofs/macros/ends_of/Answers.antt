use Rattle.std.proofs.Common.{◌≡◌, ◌<◌, ◌+◌, ◌-◌, List, [], ◌∷◌, length, length-append, sym, ap, subst, arith}
use Rattle.c_token.specs.declared.skim.Effects.{Effects}
use Rattle.c_token.proofs.Ends.{EndsFrom, ends_more, ends_step}
use Rattle.c_token.proofs.macros.ends_of.Goals as goal

pub loop-first-preserved : goal.loop-first-preserved
loop-first-preserved c =
    let some : 0 < c.loop-first.first = omega arith in
    let next : c.loop-first.first ≡ c.loop-first.first - 1 + 1 = omega arith in
    let put = c.in_ok-push-2.ensures.ok in
    let one = length-append c.loop-first.ends (c.in_ok-behind.behind ∷ []) in
    record {
      within = omega (arith, c.loop-first.invariant.within);
      len = omega (arith, ap length put, one, c.loop-first.invariant.len, c.loop-first.invariant.within);
      behind = λ bodies t.
          ends_step bodies c.args.uses.now c.loop-first.first _ c.use_effects.result c.loop-first.behind c.in_ok-behind.behind (c.use_effects.ensures bodies t) some c.loop-first.invariant.within (c.loop-first.invariant.behind bodies t)
          c.in_ok-behind.ensures;
      ends = λ bodies t.
          let here = ends_step bodies c.args.uses.now c.loop-first.first _ c.use_effects.result c.loop-first.behind c.in_ok-behind.behind (c.use_effects.ensures bodies t) some c.loop-first.invariant.within
          (c.loop-first.invariant.behind bodies t) c.in_ok-behind.ensures in
          subst (λ (es : List Effects). EndsFrom bodies c.args.uses.now (c.loop-first.first - 1) es) (sym put)
          (ends_more bodies c.args.uses.now c.loop-first.first (c.loop-first.first - 1) c.loop-first.ends c.in_ok-behind.behind next c.loop-first.invariant.within c.loop-first.invariant.len here
          (c.loop-first.invariant.ends bodies t));
    }
