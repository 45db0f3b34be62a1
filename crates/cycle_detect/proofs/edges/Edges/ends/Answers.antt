use Rattle.std.proofs.Common.{length, refl}
use Rattle.std.proofs.lemmas.Option.{slice_get_read}
use Rattle.cycle_detect.proofs.edges.Edges.ends.Goals as goal

pub returns-clause-within : goal.returns-clause-within
returns-clause-within c =
    let i = c.self.inside in
    let r = c.index.result.now in
    let h = rw (← c.self.view_is) at c.requires in
    rw (← c.self.view_is) (c.self.invariant.0.within c.args.id r.0 r.1 (slice_get_read i.ends.items (length i.ends.items) c.args.id r refl h c.index.ensures))
