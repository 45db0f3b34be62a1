use Rattle.std.proofs.Common.{◌≡◌, ◌+◌, ◌-◌, ℕ, arith, nat_eq, subst}
use Rattle.std.specs.HashMap.{get}
use Rattle.memory_models.specs.Ahead.{From, IsBuilt, Stands}
use Rattle.memory_models.proofs.Complete.{edges_are_exact}
use Rattle.memory_models.proofs.Passing.{begun}
use Rattle.memory_models.proofs.static_edges.Goals as goal

pub loop-place-init : goal.loop-place-init
loop-place-init c = record {
  long = c.in-Ok.ensures.1;
  stands = begun c.args.model c.args.events.now c.in-Ok.count c.new-ahead.result.strong c.new-ahead.result.weak (get nat_eq c.new-ahead.result.next) c.new.result c.new-2.result c.in-Ok.ensures.1 c.new.ensures c.new-2.ensures c.new-ahead.ensures.strong c.new-ahead.ensures.weak
      c.new-ahead.ensures.next;
}

pub pass-requires : goal.pass-requires
pass-requires c =
    let at = c.loop-place.place in
    let es = c.args.events.now in
    let next : at ≡ at - 1 + 1 = omega arith in
    record {
      within = omega (arith, c.loop-place.invariant.long);
      few = c.in-Ok.ensures.0;
      are = c.requires;
      behind = c.before-ahead.ensures c.args.model c.loop-place.edges.fixed c.loop-place.edges.fences
          (subst (λ (n : ℕ). Stands c.args.model es n (From es n) c.loop-place.edges.fixed c.loop-place.edges.fences c.loop-place.ahead.strong c.loop-place.ahead.weak (get nat_eq c.loop-place.ahead.next)) next c.loop-place.invariant.stands);
    }

pub loop-place-preserved : goal.loop-place-preserved
loop-place-preserved c = record { long = c.loop-place.invariant.long; stands = c.in_ok-pass.ensures }

pub returns : goal.returns
returns c =
    let first : c.loop-place.place ≡ 0 = omega arith in
    edges_are_exact c.args.model c.args.events.now c.loop-place.edges.fixed c.loop-place.edges.fences c.requires
    (subst (λ (n : ℕ). IsBuilt c.args.model c.args.events.now n c.loop-place.edges.fixed c.loop-place.edges.fences) first c.loop-place.invariant.stands.built)
