use Rattle.std.proofs.Common.{◌<◌, length, sym, subst, ◌∙◌, arith, map}
use Rattle.std.proofs.lemmas.Bool.{eqb-false, eqb-true}
use Rattle.std.proofs.lemmas.List.{map-append, nil_from_length}
use Rattle.c_token.specs.Seen.{segment}
use Rattle.c_token.proofs.Splitting.{Splits, splits_all, splits_more, splits_stuck}
use Rattle.c_token.proofs.segments.segments.Goals as goal

pub loop-rest-preserved : goal.loop-rest-preserved
loop-rest-preserved c =
    let next = splits_more _ _ _ _ _ c.in-Some.found c.split_at.result.0.now c.split_at.result.1.now c.loop-rest.invariant (sym c.in-Some.ensures.value) c.in-Some.ensures.within.0
    c.in-Some.ensures.within.1 c.split_at.ensures.front c.split_at.ensures.back in
    rw (c.in_ok-push.ensures.ok, map-append, c.mode_after-mode.ensures, c.behind-place.ensures) next

pub returns-in_default : goal.returns-in_default
returns-in_default c =
    let some : 0 < length c.loop-rest.rest.now = omega (arith, eqb-false _ 0 (sym c.is_empty.ensures ∙ c.loop-rest-test.true)) in
    splits_stuck _ _ _ _ _ c.loop-rest.invariant some (sym c.in_default.ensures.value)

pub returns : goal.returns
returns c =
    let none = nil_from_length c.loop-rest.rest.now (eqb-true _ 0 (sym c.is_empty.ensures ∙ c.loop-rest-test.false)) in
    splits_all _ _ _ _ (subst (λ rest. Splits c.args.text.now (map segment c.loop-rest.parts) c.loop-rest.mode c.loop-rest.place rest) none c.loop-rest.invariant)
