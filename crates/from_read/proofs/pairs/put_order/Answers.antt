use Rattle.std.proofs.Common.{ℕ, List, take, get_or, subst, sym}
use Rattle.std.proofs.lemmas.List.{take_more}
use Rattle.std.proofs.lemmas.Option.{slice_get-get_or}
use Rattle.dg_base.proofs.Lists.{contains_place}
use Rattle.from_read.specs.Parts.{ArePutFor, pair_edges}
use Rattle.from_read.proofs.Puts.{for_more}
use Rattle.from_read.proofs.pairs.put_order.Goals as goal

pub put_pair-requires-clause-read_from : goal.put_pair-requires-clause-read_from
put_pair-requires-clause-read_from c =
    let xs = c.args.reads.now in
    let k = c.loop-read.read-index in
    c.requires.reads (get_or xs k 0) (contains_place xs k (get_or xs k 0) (slice_get-get_or xs k 0 c.loop-read-test.true))

pub loop-read-preserved : goal.loop-read-preserved
loop-read-preserved c =
    let xs = c.args.reads.now in
    let k = c.loop-read.read-index in
    let f = (λ (a : ℕ). pair_edges c.args.nodes.now c.args.kinds.now a c.args.atom) in
    record {
      put = subst (λ (l : List ℕ). ArePutFor f l c.args.found.now.list c.put_pair.new.found.list) (sym (take_more xs k 0 c.loop-read-test.true)) (for_more f (take k xs) (get_or xs k 0) c.args.found.now.list c.loop-read.found.list c.put_pair.new.found.list c.loop-read.invariant.put c.put_pair.ensures.put);
      fine = c.put_pair.ensures.fine;
    }
