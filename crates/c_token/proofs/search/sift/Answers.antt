use Rattle.std.proofs.Common.{◌≤◌, List, length, drop, reverse, refl, sym, ap, subst, arith}
use Rattle.std.proofs.lemmas.List.{drop_all}
use Rattle.std.specs.Map.{values_of}
use Rattle.c_token.specs.declared.macros.Use.{Use}
use Rattle.c_token.specs.declared.skim.Effects.{Effects}
use Rattle.c_token.specs.Tables.{all_tokens, AreEnds}
use Rattle.c_token.proofs.Sifted.{Between, between_start, between_step, sifted}
use Rattle.c_token.proofs.search.sift.Goals as goal

pub loop-index-init : goal.loop-index-init
loop-index-init c = record {
  frames = ap reverse c.new-3.ensures.items;
  between = λ bodies t. between_start bodies c.args.holds _ (all_tokens bodies c.args.uses.now) c.new.ensures (ap values_of c.new-2.ensures.empty);
}

pub loop-index-preserved : goal.loop-index-preserved
loop-index-preserved c = record {
  frames = c.in_ok-finish.ensures.frames;
  between = λ bodies t.
      let fits : c.in_ok-plus.field-0 ≤ length c.args.uses.now = omega (arith, c.in_ok-plus.ensures, c.loop-index-test.true) in
      let are = subst (λ (es : List Effects). AreEnds bodies c.args.uses.now es) (sym c.as_slice.ensures) (c.in_ok-ends.ensures bodies t) in
      let after = c.effects_behind-after.ensures bodies are fits in
      let closed = c.in_ok-behind.ensures bodies (all_tokens bodies (drop c.in_ok-plus.field-0 c.args.uses.now)) 0 t after refl in
      between_step c.args.macros.now bodies c.args.holds c.args.uses.now c.loop-index.index c.in_ok-plus.field-0 _ _ c.loop-index.search c.pass.new.self c.finish.new.self (all_tokens bodies c.args.uses.now) c.in_ok-behind.behind
      c.place_of-place.ensures c.loop-index-test.true c.in_ok-plus.ensures (c.loop-index.invariant.between bodies t) c.loop-index.invariant.frames closed
      (λ j w h s. c.in_ok-pass.ensures.seeks bodies c.args.holds j w t h s) (λ w s. c.in_ok-finish.ensures.seeks bodies c.args.holds w t s) c.in_ok-finish.ensures.frames;
}

pub returns : goal.returns
returns c = λ bodies t.
    let none = drop_all c.loop-index.index c.args.uses.now c.loop-index-test.false in
    sifted bodies c.args.holds c.loop-index.search (all_tokens bodies c.args.uses.now)
    (subst (λ (us : List Use). Between bodies c.args.holds c.loop-index.search (all_tokens bodies us) (all_tokens bodies c.args.uses.now)) none (c.loop-index.invariant.between bodies t))
