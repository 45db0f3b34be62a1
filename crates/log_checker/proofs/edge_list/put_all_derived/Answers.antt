use Rattle.std.proofs.Common.{◌≡◌, ◌++◌, get_or, ap, sym, ◌∙◌, subst}
use Rattle.cnf_problem.specs.declared.problem.Atom.{Atom}
use Rattle.log_checker.specs.Pairs.{atom_at, derived_with, pairs_in}
use Rattle.log_checker.proofs.Pairs.{atom_is, put_turn}
use Rattle.log_checker.proofs.edge_list.put_all_derived.Goals as goal

pub loop-place-preserved : goal.loop-place-preserved
loop-place-preserved c =
    let g = c.args.graph in
    let p = c.args.problem.now in
    let places = c.args.places.now in
    let i = c.loop-place.place-index in
    let k = get_or places i 0 in
    let a0 = c.index-atoms-place.result in
    let a : Atom = get_or c.as_slice-atoms.result.now k a0 in
    let old = c.loop-place.pairs.items in
    let read : a0 ≡ get_or p.atoms k a0 = subst (λ z. a0 ≡ get_or z k a0) c.as_slice-atoms.ensures c.index-atoms-place.is in
    let atom : atom_at p.atoms k ≡ a = atom_is p.atoms k a0 (c.requires i 0 c.loop-place-test.true) read ∙ c.index-atoms-place.is in
    put_turn g (λ j. derived_with p.nodes p.atoms (atom_at p.atoms j).kind places) places i 0 old c.put_derived_with.new.pairs.items _ c.loop-place-test.true
    (c.in_ok-put_derived_with.ensures ∙ ap (λ (z : Atom). old ++ pairs_in g (derived_with p.nodes p.atoms z.kind places)) (sym atom))
    c.loop-place.invariant
