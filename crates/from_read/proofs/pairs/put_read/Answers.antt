use Rattle.std.proofs.Common.{ℕ, List, take, get_or, subst, sym}
use Rattle.std.proofs.lemmas.List.{take_more}
use Rattle.std.proofs.lemmas.Option.{slice_get-get_or}
use Rattle.dg_base.proofs.Lists.{contains_place}
use Rattle.from_read.specs.Parts.{ArePutFor, pair_edges}
use Rattle.from_read.proofs.Puts.{for_more}
use Rattle.from_read.proofs.pairs.put_read.Goals as goal

pub put_pair-requires-clause-write_order : goal.put_pair-requires-clause-write_order
put_pair-requires-clause-write_order c =
    let xs = c.args.orders.now in
    let k = c.loop-order.order-index in
    c.requires.orders (get_or xs k 0) (contains_place xs k (get_or xs k 0) (slice_get-get_or xs k 0 c.loop-order-test.true))

pub loop-order-preserved : goal.loop-order-preserved
loop-order-preserved c =
    let xs = c.args.orders.now in
    let k = c.loop-order.order-index in
    let f = (λ (b : ℕ). pair_edges c.args.nodes.now c.args.kinds.now c.args.atom b) in
    record {
      put = subst (λ (l : List ℕ). ArePutFor f l c.args.found.now.list c.put_pair.new.found.list) (sym (take_more xs k 0 c.loop-order-test.true)) (for_more f (take k xs) (get_or xs k 0) c.args.found.now.list c.loop-order.found.list c.put_pair.new.found.list c.loop-order.invariant.put c.put_pair.ensures.put);
      fine = c.put_pair.ensures.fine;
    }
