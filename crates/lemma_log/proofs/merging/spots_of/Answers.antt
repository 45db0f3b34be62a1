use Rattle.std.proofs.Common.{◌≡◌, ◌≤◌, length, length-set, subst, refl, ◌∙◌, arith}
use Rattle.std.specs.Prelude.{Some, slice_get}
use Rattle.std.proofs.lemmas.Option.{slice_get_read}
use Rattle.lemma_log.proofs.Placing.{nothing_placed, place_next, place_end, all_placed}
use Rattle.lemma_log.proofs.merging.spots_of.Goals as goal
use Rattle.lemma_log.proofs.merging.spots_of.Goals.{After-entry-item}

pub loop-log-init : goal.loop-log-init
loop-log-init c = record { long = omega (arith, c.in_ok-spots.spots.ok.0, c.in_ok-spots.ensures.len, c.total.ensures); placed = nothing_placed c.args.logs.now _ }

pub loop-log-preserved : goal.loop-log-preserved
loop-log-preserved c = record {
  long = c.loop-at.invariant.long;
  placed = place_end c.args.logs.now c.index-logs-log.result c.loop-log.log c.loop-at.at _ (slice_get_read c.args.logs.now (length c.args.logs.now) c.loop-log.log c.index-logs-log.result refl c.loop-log-test.true c.index-logs-log.is) (subst (λ xs. length xs ≤ c.loop-at.at) c.as_slice-entry-items.ensures c.loop-at-test.false) c.loop-at.invariant.placed;
}

log_is : (c : After-entry-item) → slice_get c.args.logs.now c.loop-log.log ≡ Some c.index-logs-log.result
log_is c = slice_get_read c.args.logs.now (length c.args.logs.now) c.loop-log.log c.index-logs-log.result refl c.loop-log-test.true c.index-logs-log.is

entry_is : (c : After-entry-item) → slice_get c.index-logs-log.result c.loop-at.at ≡ Some c.entry-item.result
entry_is c = subst (λ xs. slice_get xs c.loop-at.at ≡ Some c.entry-item.result) c.as_slice-entry-items.ensures (slice_get_read c.as_slice-entry-items.result.now (length c.as_slice-entry-items.result.now) c.loop-at.at c.entry-item.result refl c.loop-at-test.true c.entry-item.is)

pub index_mut-requires : goal.index_mut-requires
index_mut-requires c =
    let at = (goal.at.index_mut-requires c).After-entry-item in
    let below = c.requires.below c.loop-log.log c.loop-at.at c.entry-item.result (c.index-logs-log.result, log_is at, entry_is at) in
    omega (arith, below, c.loop-at.invariant.long, c.loop-at.spots.ok.0)

pub loop-at-preserved : goal.loop-at-preserved
loop-at-preserved c =
    let at = (goal.at.loop-at-preserved c).After-entry-item in
    record {
      long = length-set c.loop-at.spots.items c.entry-item.result.ticket _ ∙ c.loop-at.invariant.long;
      placed = place_next c.args.logs.now c.index-logs-log.result c.loop-log.log c.loop-at.at c.entry-item.result c.loop-at.spots.items c.requires c.loop-at.invariant.long (log_is at) (entry_is at) c.loop-at.invariant.placed;
    }

pub returns-clause-each : goal.returns-clause-each
returns-clause-each c = all_placed c.args.logs.now c.loop-log.log c.loop-log.spots.items c.loop-log-test.false c.loop-log.invariant.placed
