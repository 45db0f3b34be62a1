use Rattle.std.proofs.Common.{◌≡◌, length, get_or, ap, sym, subst, ◌∙◌, length-append, arith}
use Rattle.lemma_log.specs.declared.Entry.{Entry}
use Rattle.lemma_log.specs.Merging.{IsLogged, AreSpots}
use Rattle.lemma_log.proofs.Placing.{AreCopies, at_spot, spot_within, one_logged, copy_next, merged_from}
use Rattle.lemma_log.proofs.merging.merge.Goals as goal
use Rattle.lemma_log.proofs.merging.merge.Goals.{In-loop-spot}

-- the entry of the next ticket
next : (c : In-loop-spot) → (e : Entry) × IsLogged c.args.logs.now (get_or c.as_slice-spot-items.result.now c.loop-spot.spot-index (record { log = 0; at = 0 })).log (get_or c.as_slice-spot-items.result.now c.loop-spot.spot-index (record { log = 0; at = 0 })).at e × (e.ticket ≡ c.loop-spot.spot-index)
next c =
    let items = c.as_slice-spot-items.ensures.value in
    at_spot c.args.logs.now c.as_slice-spot-items.result.now c.loop-spot.spot-index (record { log = 0; at = 0 }) c.requires (subst (AreSpots c.args.logs.now) (sym items) c.in_ok-spots.ensures.each) (ap length items ∙ c.in_ok-spots.ensures.long) c.loop-spot-test.true

pub entry_at-requires : goal.entry_at-requires
entry_at-requires c =
    let e = next (goal.at.entry_at-requires c).In-loop-spot in
    let within = spot_within c.args.logs.now _ e.0 e.1 in
    record { log = within.0; at = within.1 }

pub loop-spot-preserved : goal.loop-spot-preserved
loop-spot-preserved c =
    let e = next (goal.at.loop-spot-preserved c).In-loop-spot in
    let same = one_logged c.args.logs.now _ _ c.entry_at.result.now e.0 c.entry_at.ensures e.1 in
    let ticket = ap (λ (x : Entry). x.ticket) same ∙ e.2 ∙ sym c.loop-spot.invariant.long in
    record {
      long = ap length c.in_ok-push.ensures.ok ∙ length-append c.loop-spot.entries _ ∙ omega (arith, c.loop-spot.invariant.long);
      copies = subst (AreCopies c.args.logs.now) (sym c.in_ok-push.ensures.ok) (copy_next c.args.logs.now c.loop-spot.entries c.in_ok-entry.entry c.entry_at.result.now _ _ c.loop-spot.invariant.copies c.entry_at.ensures ticket c.in_ok-entry.ensures);
    }

pub returns : goal.returns
returns c = merged_from c.args.logs.now c.loop-spot.entries c.requires (c.loop-spot.invariant.long ∙ omega (arith, c.loop-spot-test.false, c.loop-spot.auto.spot-index-end) ∙ ap length c.as_slice-spot-items.ensures.value ∙ c.in_ok-spots.ensures.long) c.loop-spot.invariant.copies
