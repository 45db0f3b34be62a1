use Rattle.std.proofs.Common.{◌++◌, ap, ◌∙◌}
use Rattle.log_checker.specs.Pairs.{own_edges, pairs_in}
use Rattle.log_checker.proofs.Pairs.{all_put}
use Rattle.log_checker.proofs.edge_list.edges_of.Goals as goal

pub returns : goal.returns
returns c =
    let g = c.args.graph in
    let places = c.args.places.now in
    all_put c.args.problem.now places g c.new-pairs.result.items c.put_edges.new.pairs.items c.put_own.new.pairs.items c.put_all_derived.new.pairs.items c.new-pairs.ensures.items
    (c.in_ok-put_edges.ensures ∙ ap (λ es. c.new-pairs.result.items ++ pairs_in g es) c.as_slice.ensures)
    (c.in_ok-put_own.ensures ∙ ap (λ atoms. c.put_edges.new.pairs.items ++ pairs_in g (own_edges atoms places)) c.as_slice-2.ensures)
    c.in_ok-put_all_derived.ensures
