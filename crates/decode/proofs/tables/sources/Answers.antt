use Rattle.std.proofs.Common.{List, ◌+◌, ℕ, take, refl, sym, subst}
use Rattle.decode.specs.Tables.{AreSources}
use Rattle.decode.proofs.Reading.{sources_more, nodes_within}
use Rattle.decode.proofs.tables.sources.Goals as goal

pub loop-atom-preserved : goal.loop-atom-preserved
loop-atom-preserved c =
    let s = c.args.truths.now in
    let atoms = c.args.atoms.now in
    let i = c.loop-atom.atom-index in
    let a = c.atom-item.result in
    subst (λ (l : List ℕ). AreSources s (take (i + 1) atoms) c.args.count l) (sym c.note_source.ensures)
    (sources_more s atoms i c.args.count a c.loop-atom.sources c.loop-atom-test.true c.atom-item.is (nodes_within atoms i c.args.count c.args.count a c.loop-atom-test.true c.atom-item.is refl c.requires) c.loop-atom.invariant)
