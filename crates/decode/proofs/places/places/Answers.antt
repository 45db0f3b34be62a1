use Rattle.std.proofs.Common.{◌∙◌, ◌+◌, ◌<◌, List, length, sym, subst, arith}
use Rattle.axiom_model.specs.declared.Event.{Event}
use Rattle.decode.proofs.Placing.{ArePlaced, earlier_few, place_step, counts_step, length_step, places_made}
use Rattle.decode.proofs.places.places.Goals as goal

pub next_event-event-requires-clause-room : goal.next_event-event-requires-clause-room
next_event-event-requires-clause-room c = λ i h.
    let there : i < length c.args.handles.now = omega (arith, h, c.loop-place.invariant.same) in
    let is = c.loop-place.invariant.counts i there in
    let few = earlier_few c.args.truths.now i c.loop-place.place c.args.events.now in
    omega (arith, is, few, c.loop-place-test.true, c.in-Ok.ensures.0, c.in-Ok.ensures.1)

pub loop-place-preserved : goal.loop-place-preserved
loop-place-preserved c =
    let s = c.args.truths.now in
    let es = c.args.events.now in
    let hs = c.args.handles.now in
    let n = c.loop-place.place in
    let low : n < length es = omega (arith, c.loop-place-test.true, c.loop-place.invariant.long) in
    let behind = length_step s es n _ c.loop-place.indices c.next_event-event.new.indices c.next_event-event.ensures.indices in
    record {
      long = c.loop-place.invariant.long;
      same = behind ∙ c.loop-place.invariant.same;
      counts = λ i h. counts_step s es n i _ c.loop-place.indices c.next_event-event.new.indices low (omega (arith, h, c.loop-place.invariant.same)) (c.loop-place.invariant.counts i h) c.next_event-event.ensures.indices;
      placed = subst (λ (l : List Event). ArePlaced s es hs (n + 1) l) (sym c.in_ok-push.ensures.ok)
          (place_step s es hs n _ c.loop-place.indices c.loop-place.places c.next_event-event.result low c.requires c.loop-place.invariant.counts c.next_event-event.ensures.event c.loop-place.invariant.placed);
    }

pub returns : goal.returns
returns c = places_made c.args.truths.now c.args.events.now c.args.handles.now c.loop-place.place c.loop-place.places (omega (arith, c.loop-place-test.false, c.loop-place.auto.place-end, c.loop-place.invariant.long)) c.loop-place.invariant.placed
