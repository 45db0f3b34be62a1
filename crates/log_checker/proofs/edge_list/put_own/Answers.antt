use Rattle.std.proofs.Common.{◌≡◌, ◌++◌, get_or, ap, sym, ◌∙◌}
use Rattle.cnf_problem.specs.declared.problem.Atom.{Atom}
use Rattle.log_checker.specs.Pairs.{atom_at, pairs_in}
use Rattle.log_checker.proofs.Pairs.{atom_is, put_turn}
use Rattle.log_checker.proofs.edge_list.put_own.Goals as goal

pub loop-place-preserved : goal.loop-place-preserved
loop-place-preserved c =
    let g = c.args.graph in
    let atoms = c.args.atoms.now in
    let places = c.args.places.now in
    let i = c.loop-place.place-index in
    let k = get_or places i 0 in
    let read = c.index-atoms-place.result in
    let a : Atom = get_or atoms k read in
    let atom : atom_at atoms k ≡ a = atom_is atoms k read (c.requires i 0 c.loop-place-test.true) c.index-atoms-place.is ∙ c.index-atoms-place.is in
    put_turn g (λ k. (atom_at atoms k).edges) places i 0 c.loop-place.pairs.items c.put_edges.new.pairs.items _ c.loop-place-test.true
    (c.in_ok-put_edges.ensures ∙ ap (λ es. c.loop-place.pairs.items ++ pairs_in g es) (c.as_slice.ensures ∙ ap (λ (z : Atom). z.edges) (sym atom)))
    c.loop-place.invariant
